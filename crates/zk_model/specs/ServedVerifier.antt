-- What a verifier sends, and what it means that it accepts.
use Rattle.std.specs.Prelude.{◌≡◌, ◌⊎◌, ℕ, ◌+◌, ◌*◌, ◌<◌, ◌≤◌, List, [], ◌++◌, map, flat_map, take, length, slice_index_or, All}
use Rattle.std.specs.List.{enumerate_from}
use Rattle.zk_model.specs.Field.{from_word}
use Rattle.zk_model.specs.Coins.{coin_word}
use Rattle.zk_model.specs.Files.{VerifierFile}
use Rattle.zk_model.specs.Statement.{Statement}
use Rattle.zk_model.specs.Transcript.{Grant, TreeAsk, TreeReply, Setup, Transcript, IsInOrder, BeginsWith, challenge_frame, verdict_frame, bytes_from, turn_bytes, setup_turns, session_turns, spelling}
use Rattle.zk_model.specs.Replies.{unit_reply}
use Rattle.zk_model.specs.View.{ChecksHold, SaysVerdict, IsVerdict}
use Rattle.zk_model.specs.declared.Side.{Side}
use Rattle.zk_model.specs.declared.Side.TheVariants.{Prover}
use Rattle.zk_model.specs.declared.Verdict.{Verdict}
use Rattle.zk_model.specs.declared.Verdict.TheVariants.{Accepted}

-- what a verifier has: a file and a statement
pub record VerifierTask : Type 0 where
  pub file : VerifierFile
  pub statement : Statement

-- the challenge of the session whose grant starts at this unit
abbrev pub challenge_coin : VerifierFile → ℕ → ℕ
challenge_coin file unit = from_word (coin_word file.coin_key (4 * unit + 1) 0)

-- the replies to all asks of a round
abbrev pub round_replies : VerifierFile → Grant → List (List TreeAsk) → List (List TreeReply)
round_replies file grant asks =
    map (λ entry. unit_reply file entry.0 entry.1) (enumerate_from grant.start asks)

-- the replies are those of the verifier's file to the asks
abbrev pub RepliesAre : VerifierFile → Setup → Type 0
RepliesAre file setup = All (λ round. round.replies ≡ round_replies file setup.grant round.asks) setup.rounds

-- The log of a whole session that the verifier leads: it is in order, the replies are those of its file, the challenge is
-- its coin, and the verdict that of its checks.
pub record IsServed (task : VerifierTask) (t : Transcript) (verdict : Verdict) (log : List (Side × ℕ)) : Type 0 where
  pub in_order : IsInOrder task.file.params task.file.id task.statement t log
  pub replies : RepliesAre task.file t.commitment.setup
  pub challenge : t.challenge ≡ challenge_coin task.file t.commitment.setup.grant.start
  pub judged : IsVerdict task.file task.statement t verdict

-- What accepted stands for: a log in order on which all checks hold, and whose verdict says so.
pub record IsAccepted (task : VerifierTask) (log : List (Side × ℕ)) : Type 0 where
  pub t : Transcript
  pub in_order : IsInOrder task.file.params task.file.id task.statement t log
  pub checks : ChecksHold task.file task.statement t
  pub said : SaysVerdict t Accepted

-- n turns are whole, and bytes of the prover's next turn follow, in place of it or a part of it
pub record IsCutInTurn (t : Transcript) (log : List (Side × ℕ)) : Type 0 where
  pub whole : ℕ
  pub more : whole < length (session_turns t)
  pub rest : List ℕ
  pub most : length rest ≤ length (slice_index_or (session_turns t) whole ([], [])).0
  pub bytes : log ≡ turn_bytes (take whole (session_turns t)) ++ bytes_from Prover rest

-- The log of a session with this grant that may have ended early: a beginning of a served one, or whole turns of it and
-- then bytes of the prover, which may be any, but no more than its turn has.
pub record ServesWith (task : VerifierTask) (grant : Grant) (log : List (Side × ℕ)) : Type 0 where
  pub t : Transcript
  pub verdict : Verdict
  pub served : IsServed task t verdict (spelling t)
  pub granted : t.commitment.setup.grant ≡ grant
  pub bytes : BeginsWith (spelling t) log ⊎ IsCutInTurn t log

-- what the verifier sends in a whole session: its grant and its replies, its coin as the challenge, and its verdict
abbrev pub verifier_bytes : VerifierFile → Transcript → List ℕ
verifier_bytes file t =
    flat_map (λ turn. turn.1) (setup_turns t.commitment.setup)
    ++ challenge_frame (challenge_coin file t.commitment.setup.grant.start)
    ++ verdict_frame t.code t.number
