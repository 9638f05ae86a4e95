-- The rounds of a session after its grant.
use Rattle.std.specs.Prelude.{◌≡◌, ℕ, List, map, flat_map, length, All}
use Rattle.zk_model.specs.Files.{VerifierFile, rounds_of}
use Rattle.zk_model.specs.Transcript.{Grant, Round, IsRound, ask_frame, reply_frame}
use Rattle.zk_model.specs.ServedVerifier.{round_replies}

-- what passes in rounds: all asks, and all replies
abbrev pub round_turns : List Round → List (List ℕ × List ℕ)
round_turns rounds = map (λ round. (flat_map ask_frame round.asks, flat_map reply_frame round.replies)) rounds

-- rounds under a grant: as many as the kind has, in range, with the replies of the verifier's file to whatever is asked
pub record AreServedRounds (file : VerifierFile) (grant : Grant) (rounds : List Round) : Type 0 where
  pub count : length rounds ≡ rounds_of file.params.kind
  pub ranged : All (IsRound file.params grant) rounds
  pub replies : All (λ round. round.replies ≡ round_replies file grant round.asks) rounds
