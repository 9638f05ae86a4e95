-- The rounds of a session whose prover is honest: none in kind direct, and one in kind extended.
use Rattle.std.proofs.Common.{◌≡◌, ◌∙◌, ◌++◌, ◌∷◌, [], List, ℕ, flat_map, length, map, refl, sym, ap, arith, append-nil}
use Rattle.std.proofs.lemmas.List.Elements.{All-head}
use Rattle.zk_model.specs.Audit.{round_frames}
use Rattle.zk_model.specs.Files.{ProverFile, VerifierFile, rounds_of, span_pairs}
use Rattle.zk_model.specs.Frames as model
use Rattle.zk_model.specs.Frames.{Frame}
use Rattle.zk_model.specs.HonestProver.{round_asks}
use Rattle.zk_model.specs.Mac.{Pair}
use Rattle.zk_model.specs.ServedVerifier.{round_replies}
use Rattle.zk_model.specs.Transcript.{Grant, Round}
use Rattle.zk_model.specs.View.{span_of}
use Rattle.zk_model.specs.declared.Kind.TheVariants.{Direct, Extended}
use Rattle.zk_model.specs.declared.Side.{Side}
use Rattle.session_rehearsal.specs.Holding.{AreRoundsHeld, HoldsRounds}
use Rattle.session_rehearsal.proofs.DirectRounds.{none_held}
use Rattle.session_rehearsal.proofs.HeldRounds.{held_round}
use Rattle.claim_rehearsal.specs.Passed.{ArePassedRounds}

-- in kind direct nothing passes
no_frames : (verifier : VerifierFile) (rounds : List Round) → verifier.params.kind ≡ Direct → length rounds ≡ rounds_of verifier.params.kind
    → [] ≡ flat_map round_frames rounds
no_frames verifier [] direct count = refl
no_frames verifier (round ∷ rounds) direct count = let none = ap rounds_of direct in absurd (omega (arith, count, none))

pub direct_passed : (prover : ProverFile) (verifier : VerifierFile) (given : Grant) (pairs : List Pair) → verifier.params.kind ≡ Direct
    → pairs ≡ span_pairs prover (span_of given) → ArePassedRounds prover verifier given pairs []
direct_passed prover verifier given pairs direct are =
    let holds = none_held prover verifier given pairs [] direct are in
    record { rounds = holds.rounds; held = holds.held; frames_are = no_frames verifier holds.rounds direct holds.held.served.count }

-- in kind extended there is one round, of honest asks and the replies of the verifier's file
one_round : (prover : ProverFile) (verifier : VerifierFile) (given : Grant) (pairs : List Pair) (rounds : List Round) → verifier.params.kind ≡ Extended
    → AreRoundsHeld prover verifier given pairs rounds → rounds ≡ held_round prover verifier given ∷ []
one_round prover verifier given pairs [] extended held =
    let count = held.served.count in let one = ap rounds_of extended in absurd (omega (arith, count, one))
one_round prover verifier given pairs (round ∷ []) extended held =
    let asks : round.asks ≡ round_asks prover given = All-head (λ (r : Round). r.asks ≡ round_asks prover given) round [] held.asks in
    let replies : round.replies ≡ round_replies verifier given round.asks =
    All-head (λ (r : Round). r.replies ≡ round_replies verifier given r.asks) round [] held.served.replies in
    λ i. record { asks = asks i; replies = (replies ∙ ap (round_replies verifier given) asks) i } ∷ []
one_round prover verifier given pairs (round ∷ next ∷ rounds) extended held =
    let count = held.served.count in let one = ap rounds_of extended in absurd (omega (arith, count, one))

pub extended_passed : (prover : ProverFile) (verifier : VerifierFile) (given : Grant) (pairs : List Pair) (old new : List (Side × ℕ)) (asked replied : List Frame)
    → verifier.params.kind ≡ Extended → HoldsRounds prover verifier given pairs old new
    → asked ≡ map model.asks (round_asks prover given)
    → replied ≡ map model.replies (round_replies verifier given (round_asks prover given))
    → ArePassedRounds prover verifier given pairs (asked ++ replied)
extended_passed prover verifier given pairs old new asked replied extended holds asks replies =
    let one = one_round prover verifier given pairs holds.rounds extended holds.held in
    record {
      rounds = holds.rounds;
      held = holds.held;
      frames_are = (λ i. asks i ++ replies i) ∙ sym (append-nil (round_frames (held_round prover verifier given)))
          ∙ sym (ap (λ (l : List Round). flat_map round_frames l) one);
    }
