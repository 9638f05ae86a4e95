-- The one round of an extended session, as both ends hold it.
use Rattle.std.proofs.Common.{◌≡◌, ℕ, ◌+◌, ◌*◌, ◌≤◌, List, [], ◌∷◌, ◌++◌, map, flat_map, length, refl, sym, ◌∙◌, ap, subst, arith, append-nil, append_assoc}
use Rattle.std.specs.Prelude.{All}
use Rattle.std.proofs.lemmas.List.Elements.{All-map, All-nil, All-cons}
use Rattle.std.proofs.lemmas.Nat.{mul-le}
use Rattle.zk_model.specs.Mac.{Pair}
use Rattle.zk_model.specs.Files.{ProverFile, VerifierFile, IsProverFile, IsVerifierFile, AreWithinLimits, rounds_of}
use Rattle.zk_model.specs.Transcript.{Grant, TreeAsk, TreeReply, Round, IsRound, IsTreeAsk, IsTreeReply, ForEachTree, bytes_from, ask_frame, reply_frame}
use Rattle.zk_model.specs.Frames as model
use Rattle.zk_model.specs.Frames.{AreAsks, AreReplies, frame_spelling}
use Rattle.zk_model.specs.HonestProver.{round_asks}
use Rattle.zk_model.specs.ServedVerifier.{round_replies}
use Rattle.zk_model.specs.View.{span_of}
use Rattle.zk_model.specs.declared.Expect.TheVariants as expect
use Rattle.zk_model.specs.declared.Kind.{Kind}
use Rattle.zk_model.specs.declared.Kind.TheVariants.{Extended}
use Rattle.zk_model.specs.declared.Params.{Params}
use Rattle.zk_model.specs.declared.Side.{Side}
use Rattle.zk_model.specs.declared.Side.TheVariants.{Prover, Verifier}
use Rattle.zk_model.specs.declared.Span.{Span}
use Rattle.proof_frames.specs.Frames.{frame_value, IsShort}
use Rattle.proof_frames.specs.declared.frame.Frame.{Frame}
use Rattle.proof_frames.proofs.Lengths.{whole_length}
use Rattle.session_laws.specs.Rounds.{AsksAreInRange, RepliesAreInRange}
use Rattle.session_core.specs.Fixing.{AreFirstPairs}
use Rattle.session_rehearsal.specs.Holding.{HoldsRounds}
use Rattle.session_core.proofs.Rounds.{whole_view}

-- ---- frames of a round are short

-- the limits of an extended file
pub limits_of : (params : Params) → AreWithinLimits params.kind params → params.kind ≡ Extended → AreWithinLimits Extended params
limits_of params limits is = subst (λ (kind : Kind). AreWithinLimits kind params) is limits

asks_short : (params : Params) (trees : List TreeAsk) → AreWithinLimits Extended params → AreAsks params.height params.trees trees
    → IsShort (model.asks trees)
asks_short params trees limits are =
    let whole = whole_length (expect.Ask params.height params.trees 0) (frame_spelling (model.asks trees)) (model.asks trees)
    (record { allowed = (trees, refl, are); spelled = refl }) in
    let most = mul-le params.trees (params.height + 8) 1024 24 limits.3 (omega (arith, limits.1)) in
    omega (arith, whole, most)

replies_short : (params : Params) (trees : List TreeReply) → AreWithinLimits Extended params → AreReplies params.height params.trees trees
    → IsShort (model.replies trees)
replies_short params trees limits are =
    let whole = whole_length (expect.Reply params.height params.trees 0) (frame_spelling (model.replies trees)) (model.replies trees)
    (record { allowed = (trees, refl, are); spelled = refl }) in
    let most = mul-le params.trees (32 * params.height + 8) 1024 520 limits.3 (omega (arith, limits.1)) in
    omega (arith, whole, most)

-- ---- what holds of all units

all_asks : (params : Params) (grant : Grant) (units : List (List TreeAsk)) → ForEachTree params grant (IsTreeAsk params.height) units
    → All (AreAsks params.height params.trees) units
all_asks params grant units each k none below = record { counted = (each.1 k none below).0; each = (each.1 k none below).1 }

all_replies : (params : Params) (grant : Grant) (units : List (List TreeReply)) → ForEachTree params grant (IsTreeReply params.height) units
    → All (AreReplies params.height params.trees) units
all_replies params grant units each k none below = record { counted = (each.1 k none below).0; each = (each.1 k none below).1 }

-- ---- the round

-- its units
pub granted_units : (grant : Grant) (units : Span) (n : ℕ) → units ≡ span_of grant → n ≡ grant.count → units.end ≡ units.start + n
granted_units grant units n are counted =
    let start = ap (λ (s : Span). s.start) are in
    let end = ap (λ (s : Span). s.end) are in
    omega (arith, start, end, counted)

-- honest asks, and the replies of the verifier's file
abbrev pub held_round : ProverFile → VerifierFile → Grant → Round
held_round prover verifier grant =
    record { asks = round_asks prover grant; replies = round_replies verifier grant (round_asks prover grant) }

pub in_range : (prover : ProverFile) (verifier : VerifierFile) (grant : Grant) → AsksAreInRange → RepliesAreInRange → IsProverFile prover → IsVerifierFile verifier
    → prover.params ≡ verifier.params → grant.start + grant.count ≤ verifier.params.total → IsRound verifier.params grant (held_round prover verifier grant)
in_range prover verifier grant asks_law replies_law is file same within =
    let asks : ForEachTree verifier.params grant (IsTreeAsk verifier.params.height) (round_asks prover grant) =
    subst (λ (params : Params). ForEachTree params grant (IsTreeAsk params.height) (round_asks prover grant)) same
    (asks_law prover grant is (omega (arith, ap (λ (p : Params). p.total) same, within))) in
    record { asks = asks; replies = replies_law verifier grant (round_asks prover grant) file within asks }

spelled_asks : (units : List (List TreeAsk)) → flat_map frame_spelling (map model.asks units) ≡ flat_map ask_frame units
spelled_asks [] = refl
spelled_asks (unit ∷ units) = ap (λ l. ask_frame unit ++ l) (spelled_asks units)

spelled_replies : (units : List (List TreeReply)) → flat_map frame_spelling (map model.replies units) ≡ flat_map reply_frame units
spelled_replies [] = refl
spelled_replies (unit ∷ units) = ap (λ l. reply_frame unit ++ l) (spelled_replies units)

-- all asks and all replies, noted one after another, are the turn of the round
pub round_held : (prover : ProverFile) (verifier : VerifierFile) (grant : Grant) (asked replied : List Frame) (pairs : List Pair) (old mid new : List (Side × ℕ))
    → verifier.params.kind ≡ Extended → IsRound verifier.params grant (held_round prover verifier grant)
    → map frame_value asked ≡ map model.asks (round_asks prover grant)
    → map frame_value replied ≡ map model.replies (round_replies verifier grant (round_asks prover grant))
    → AreFirstPairs prover grant (round_replies verifier grant (round_asks prover grant)) pairs
    → mid ≡ old ++ bytes_from Prover (flat_map frame_spelling (map frame_value asked))
    → new ≡ mid ++ bytes_from Verifier (flat_map frame_spelling (map frame_value replied))
    → HoldsRounds prover verifier grant pairs old new
round_held prover verifier grant asked replied pairs old mid new extended ranged asks answered first m n =
    record {
      rounds = held_round prover verifier grant ∷ [];
      held = record {
        served = record {
          count = sym (ap rounds_of extended);
          ranged = All-cons (IsRound verifier.params grant) _ [] ranged (All-nil (IsRound verifier.params grant));
          replies = All-cons (λ round. round.replies ≡ round_replies verifier grant round.asks) _ [] refl (All-nil (λ round. round.replies ≡ round_replies verifier grant round.asks));
        };
        asks = All-cons (λ round. round.asks ≡ round_asks prover grant) _ [] refl (All-nil (λ round. round.asks ≡ round_asks prover grant));
        seen = λ hello. whole_view prover hello grant (round_replies verifier grant (round_asks prover grant)) pairs ranged.replies.0 first;
      };
      noted = n
          ∙ (λ i. (m ∙ ap (λ l. old ++ bytes_from Prover l) (ap (flat_map frame_spelling) asks ∙ spelled_asks (round_asks prover grant))) i
          ++ bytes_from Verifier ((ap (flat_map frame_spelling) answered ∙ spelled_replies (round_replies verifier grant (round_asks prover grant))) i))
          ∙ append_assoc old _ _
          ∙ ap (λ l. old ++ l) (sym (append-nil _));
    }

-- ---- from the laws

-- what is known of both files and a grant
pub record KnowsRound (prover : ProverFile) (verifier : VerifierFile) (grant : Grant) : Type 0 where
  pub extended : verifier.params.kind ≡ Extended
  pub limits : AreWithinLimits Extended verifier.params
  pub same : prover.params ≡ verifier.params
  pub ranged : IsRound verifier.params grant (held_round prover verifier grant)

pub knows_round : (prover : ProverFile) (verifier : VerifierFile) (grant : Grant) → AsksAreInRange → RepliesAreInRange → IsProverFile prover → IsVerifierFile verifier
    → prover.params ≡ verifier.params → verifier.params.kind ≡ Extended → grant.start + grant.count ≤ verifier.params.total → KnowsRound prover verifier grant
knows_round prover verifier grant asks_law replies_law is file same extended within = record {
  extended = extended;
  limits = limits_of verifier.params file.params.limits extended;
  same = same;
  ranged = in_range prover verifier grant asks_law replies_law is file same within;
}

-- the asks of all units are as many, and fit, and so do the replies
pub asks_fit : (prover : ProverFile) (verifier : VerifierFile) (grant : Grant) (asks : List (List TreeAsk)) → KnowsRound prover verifier grant
    → asks ≡ round_asks prover grant → (length asks ≡ grant.count) × All (AreAsks verifier.params.height verifier.params.trees) asks
asks_fit prover verifier grant asks knows is = (
  ap length is ∙ knows.ranged.asks.0,
  subst (All (AreAsks verifier.params.height verifier.params.trees)) (sym is) (all_asks verifier.params grant (round_asks prover grant) knows.ranged.asks),
)

pub replies_fit : (prover : ProverFile) (verifier : VerifierFile) (grant : Grant) (replies : List (List TreeReply)) → KnowsRound prover verifier grant
    → replies ≡ round_replies verifier grant (round_asks prover grant) → (length replies ≡ grant.count) × All (AreReplies prover.params.height prover.params.trees) replies
replies_fit prover verifier grant replies knows is = (
  ap length is ∙ knows.ranged.replies.0,
  subst (λ (params : Params). All (AreReplies params.height params.trees) replies) (sym knows.same)
      (subst (All (AreReplies verifier.params.height verifier.params.trees)) (sym is)
      (all_replies verifier.params grant (round_replies verifier grant (round_asks prover grant)) knows.ranged.replies)),
)

-- their frames are short
pub asked_short : (prover : ProverFile) (verifier : VerifierFile) (grant : Grant) (asked : List Frame) → KnowsRound prover verifier grant
    → map frame_value asked ≡ map model.asks (round_asks prover grant) → All IsShort (map frame_value asked)
asked_short prover verifier grant asked knows are =
    let all = all_asks verifier.params grant (round_asks prover grant) knows.ranged.asks in
    subst (All IsShort) (sym are) (All-map IsShort model.asks (round_asks prover grant) (λ k none below. asks_short verifier.params _ knows.limits (all k none below)))

pub replied_short : (prover : ProverFile) (verifier : VerifierFile) (grant : Grant) (replied : List Frame) → KnowsRound prover verifier grant
    → map frame_value replied ≡ map model.replies (round_replies verifier grant (round_asks prover grant)) → All IsShort (map frame_value replied)
replied_short prover verifier grant replied knows are =
    let all = all_replies verifier.params grant (round_replies verifier grant (round_asks prover grant)) knows.ranged.replies in
    subst (All IsShort) (sym are) (All-map IsShort model.replies (round_replies verifier grant (round_asks prover grant)) (λ k none below. replies_short verifier.params _ knows.limits (all k none below)))
