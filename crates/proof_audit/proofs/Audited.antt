-- What the prover's file and an accepted session give.
use Rattle.std.proofs.Common.{◌≡◌, ℕ, ◌+◌, ◌-◌, ◌^◌, ◌<◌, ◌≤◌, List, [], take, length, slice_index, refl, sym, ◌∙◌, ap, subst, arith, inl, inr}
use Rattle.std.specs.Prelude.{All}
use Rattle.std.proofs.lemmas.List.{length-map}
use Rattle.std.proofs.lemmas.Nat.{div_below}
use Rattle.proof_frames.specs.Frames.{frame_value}
use Rattle.proof_frames.specs.declared.frame.Frame as coded
use Rattle.zk_model.specs.Mac.{Pair, fitting_key, corrected_pairs, pair_at, values_of}
use Rattle.zk_model.specs.Finding.{IsFinding, found_inputs}
use Rattle.zk_model.specs.Program.{Program, section_count, part_count, correlations_needed}
use Rattle.zk_model.specs.Statement.{Statement}
use Rattle.zk_model.specs.Files.{ProverFile}
use Rattle.zk_model.specs.Transcript.{Hello, IsRound, IsTranscript}
use Rattle.zk_model.specs.Correlations.{IsProverView}
use Rattle.zk_model.specs.Check.{WirePairs, ArePairsOf, opened_pairs, IsFirstFailure}
use Rattle.zk_model.specs.View.{IsView}
use Rattle.zk_model.specs.ServedVerifier.{VerifierTask}
use Rattle.zk_model.specs.declared.Kind.{Kind}
use Rattle.zk_model.specs.declared.Kind.TheVariants.{Direct, Extended}
use Rattle.zk_model.specs.declared.Params.{Params}
use Rattle.session_core.specs.Extending.{asks_in, replies_in, asks_of, replies_of}
use Rattle.session_core.proofs.DirectViews.{pairs_seen}
use Rattle.zk_laws.proofs.KeysFit.{keys_fit}
use Rattle.zk_laws.proofs.SessionKeys.{AreBothEnds, left_side, wire_fits, opened_pair}
use Rattle.zk_laws.proofs.Views.{rounds_are, enough_pairs}
use Rattle.zk_laws.proofs.WholePairs.{pairs_are_whole}
use Rattle.zk_laws.specs.SeenPairs.{AreSessionPairs}
use Rattle.proof_audit.specs.Audits.{IsAudited, FileGives}
use Rattle.check_findings.specs.Findings.{ShowsOpening}
use Rattle.proof_audit.proofs.Wires.{first_corrected}
use Rattle.proof_audit.specs.Seen.{HasRounds, ArePairsBy, AreSeenPairs}
use Rattle.proof_audit.specs.SeenValues.{corrected_values}
use Rattle.proof_audit.specs.SeenWires.{SeenSide}
use Rattle.proof_audit.specs.Searches.{SectionsMeet, OpeningsMeet, NoErrorsBefore, AreAsClaimedBefore, ShowsFirstSection}
use Rattle.proof_audit.specs.Stages.{rounds_read, setup_read, commitment_read, transcript_read}
use Rattle.check_findings.specs.declared.finding.Finding.{Finding}
use Rattle.check_findings.specs.declared.finding.Finding.TheVariants.{Inputs, ChallengeRoot, KeyRoot, NotAccepted}
use Rattle.proof_audit.specs.declared.session.Session.{Session}

-- ---- the session

-- it is whole by the prover's numbers
pub whole : (prover : ProverFile) (task : VerifierTask) (s : Session) → (audited : IsAudited prover task s)
    → IsTranscript prover.params task.statement.program (transcript_read task audited.greeting s 0 0)
whole prover task s audited = subst (λ (params : Params). IsTranscript params task.statement.program (transcript_read task audited.greeting s 0 0))
    (sym audited.dealt.params) audited.served.in_order.transcript

-- the round of a session of kind extended
pub round_whole : (prover : ProverFile) (task : VerifierTask) (s : Session) → IsAudited prover task s → prover.params.kind ≡ Extended
    → IsRound prover.params s.grant (record { asks = asks_of s.asked.items; replies = replies_of s.replied.items })
round_whole prover task s audited is =
    (subst (λ (kind : Kind). All (IsRound prover.params s.grant) (rounds_read kind (asks_of s.asked.items) (replies_of s.replied.items)))
    (ap (λ (params : Params). params.kind) (sym audited.dealt.params) ∙ is)
    (whole prover task s audited).commitment.setup.rounds) 0 (record { asks = []; replies = [] }) (omega arith)

pub has_rounds : (prover : ProverFile) (task : VerifierTask) (s : Session) → IsAudited prover task s → HasRounds prover s
has_rounds prover task s audited = record {
  within = (whole prover task s audited).commitment.setup.grant.within;
  round = λ is.
      let round = round_whole prover task s audited is in
      let asked = length-map s.asked.items (λ (f : coded.Frame). asks_in (frame_value f)) in
      let replied = length-map s.replied.items (λ (f : coded.Frame). replies_in (frame_value f)) in
      record {
        asked = omega (arith, asked, round.asks.0);
        replied = omega (arith, replied, round.replies.0);
        asks = λ k d below. record { counted = (round.asks.1 k d below).0; each = (round.asks.1 k d below).1 };
        replies = λ k d below. record { counted = (round.replies.1 k d below).0; each = (round.replies.1 k d below).1 };
      };
}

-- the pairs are those that the prover sees
view_by : (kind : Kind) (prover : ProverFile) (greeting : Hello) (s : Session) (pairs : List Pair) → ArePairsBy kind prover s pairs
    → (kind ≡ Extended → length (asks_of s.asked.items) ≡ s.grant.count)
    → IsProverView prover (record {
      hello = greeting;
      grant = s.grant;
      rounds = rounds_read kind (asks_of s.asked.items) (replies_of s.replied.items);
    }) pairs
view_by Direct prover greeting s pairs made count =
    subst (IsProverView prover (record { hello = greeting; grant = s.grant; rounds = [] })) (sym made)
    (pairs_seen prover (record { hello = greeting; grant = s.grant; rounds = [] }))
view_by Extended prover greeting s pairs made count = record {
  units = made.units;
  count = made.one_each ∙ count refl;
  each = λ i below. made.each i (omega (arith, below, count refl));
  joined = made.joined;
}

pub prover_view : (prover : ProverFile) (task : VerifierTask) (s : Session) (pairs : List Pair) → (audited : IsAudited prover task s)
    → AreSeenPairs prover s pairs → IsProverView prover (setup_read task audited.greeting s) pairs
prover_view prover task s pairs audited seen =
    view_by task.file.params.kind prover audited.greeting s pairs
    (subst (λ (params : Params). ArePairsBy params.kind prover s pairs) audited.dealt.params seen.made)
    (λ is. (round_whole prover task s audited (ap (λ (params : Params). params.kind) audited.dealt.params ∙ is)).asks.0)

-- ---- pairs

-- so many pairs, and all of elements
pub pairs_whole : (prover : ProverFile) (task : VerifierTask) (s : Session) (pairs : List Pair) → IsAudited prover task s
    → AreSeenPairs prover s pairs → AreSessionPairs prover.params s.grant pairs
pairs_whole prover task s pairs audited seen =
    pairs_are_whole prover (setup_read task audited.greeting s) pairs audited.prover_file
    (rounds_are prover.params task.statement.program (setup_read task audited.greeting s) (whole prover task s audited).commitment.setup)
    (prover_view prover task s pairs audited seen)

-- as many as a session takes
pub pairs_enough : (prover : ProverFile) (task : VerifierTask) (s : Session) (pairs : List Pair) → IsAudited prover task s
    → AreSeenPairs prover s pairs → correlations_needed task.statement.program s.grant.section_length ≤ length pairs
pairs_enough prover task s pairs audited seen =
    enough_pairs prover task.statement.program (setup_read task audited.greeting s) pairs audited.prover_file
    (whole prover task s audited).commitment.setup (prover_view prover task s pairs audited seen)

-- ---- wires

-- the pairs of a session and of its wires
pub record AreSeen (prover : ProverFile) (task : VerifierTask) (s : Session) (pairs : List Pair) (wires : WirePairs) : Type 0 where
  pub audited : IsAudited prover task s
  pub seen : AreSeenPairs prover s pairs
  pub given : wires.given ≡ corrected_pairs pairs s.corrections.items
  pub carried : ArePairsOf task.statement.program task.statement.public wires

-- the prover's view
view_is : (prover : ProverFile) (task : VerifierTask) (s : Session) (pairs : List Pair) (wires : WirePairs)
    → (are : AreSeen prover task s pairs wires)
    → IsView prover task.statement (commitment_read task are.audited.greeting s) (record { pairs = pairs; carried = wires })
view_is prover task s pairs wires are =
    record { pairs = prover_view prover task s pairs are.audited are.seen; given = are.given; carried = are.carried }

-- both ends fit
both_ends : (prover : ProverFile) (task : VerifierTask) (s : Session) (pairs : List Pair) (wires : WirePairs)
    → (are : AreSeen prover task s pairs wires)
    → AreBothEnds prover task.file task.statement (commitment_read task are.audited.greeting s) (record { pairs = pairs; carried = wires })
    are.audited.served.judged.keys
both_ends prover task s pairs wires are = record {
  element = are.audited.verifier_file.key;
  stated = are.audited.served.in_order.stated;
  seen = view_is prover task s pairs wires are;
  fit = keys_fit prover task.file (setup_read task are.audited.greeting s) pairs are.audited.prover_file are.audited.verifier_file are.audited.dealt
      (rounds_are prover.params task.statement.program (setup_read task are.audited.greeting s) (whole prover task s are.audited).commitment.setup)
      are.audited.served.replies (prover_view prover task s pairs are.audited are.seen);
  carried = are.audited.served.judged.carried;
}

-- the side of a task's program
abbrev pub side_of : VerifierTask → WirePairs → SeenSide
side_of task wires = record { program = task.statement.program; pairs = wires }

pub sections_meet : (prover : ProverFile) (task : VerifierTask) (s : Session) (pairs : List Pair) (wires : WirePairs)
    → AreSeen prover task s pairs wires → SectionsMeet (side_of task wires) pairs s
sections_meet prover task s pairs wires are = record {
  key = task.file.key;
  element = are.audited.verifier_file.key;
  meet = λ i below.
      sym (left_side prover task.file task.statement (transcript_read task are.audited.greeting s 0 0) (record { pairs = pairs; carried = wires })
      are.audited.served.judged.keys (both_ends prover task s pairs wires are) s.grant.section_length i)
      ∙ are.audited.served.judged.judged.0 i below;
}

pub openings_meet : (prover : ProverFile) (task : VerifierTask) (s : Session) (pairs : List Pair) (wires : WirePairs)
    → AreSeen prover task s pairs wires → OpeningsMeet (side_of task wires) s.openings.items task.statement.claims
openings_meet prover task s pairs wires are = record {
  key = task.file.key;
  element = are.audited.verifier_file.key;
  meet = λ o below.
      ap (fitting_key task.file.key) (opened_pair task.statement.program (record { pairs = pairs; carried = wires }) o below)
      ∙ sym (wire_fits prover task.file task.statement (commitment_read task are.audited.greeting s) (record { pairs = pairs; carried = wires })
      are.audited.served.judged.keys (both_ends prover task s pairs wires are) (slice_index task.statement.program.opened o)
      (are.audited.served.in_order.stated.program.opened o 0 below))
      ∙ are.audited.served.judged.judged.1 o below;
}

-- ---- findings

pub gives_section : (prover : ProverFile) (task : VerifierTask) (s : Session) (pairs : List Pair) (wires : WirePairs)
    → (are : AreSeen prover task s pairs wires) → (shown : Finding) → ShowsFirstSection (side_of task wires) pairs s shown
    → FileGives prover task.statement (transcript_read task are.audited.greeting s 0 0) shown
gives_section prover task s pairs wires are (Inputs inputs) shows = absurd shows
gives_section prover task s pairs wires are NotAccepted shows = absurd shows
gives_section prover task s pairs wires are (ChallengeRoot section polynomial) shows = record {
  view = record { pairs = pairs; carried = wires };
  seen = view_is prover task s pairs wires are;
  gives = shows task are.audited.greeting;
}
gives_section prover task s pairs wires are (KeyRoot polynomial) shows = record {
  view = record { pairs = pairs; carried = wires };
  seen = view_is prover task s pairs wires are;
  gives = inl (shows task are.audited.greeting);
}

-- no section has an error, and the first opened wire that is not as claimed is o
pub gives_opening : (prover : ProverFile) (task : VerifierTask) (s : Session) (pairs : List Pair) (wires : WirePairs) (o : ℕ)
    → (are : AreSeen prover task s pairs wires) → (shown : Finding)
    → NoErrorsBefore (side_of task wires) s (section_count task.statement.program s.grant.section_length)
    → IsFirstFailure (λ n. (pair_at (opened_pairs task.statement.program wires) n).x ≡ slice_index task.statement.claims n)
    (length task.statement.program.opened) o
    → ShowsOpening (pair_at (opened_pairs task.statement.program wires) o) (slice_index s.openings.items o) (slice_index task.statement.claims o) shown
    → FileGives prover task.statement (transcript_read task are.audited.greeting s 0 0) shown
gives_opening prover task s pairs wires o are (Inputs inputs) right first shows = absurd shows
gives_opening prover task s pairs wires o are NotAccepted right first shows = absurd shows
gives_opening prover task s pairs wires o are (ChallengeRoot section polynomial) right first shows = absurd shows
gives_opening prover task s pairs wires o are (KeyRoot polynomial) right first shows = record {
  view = record { pairs = pairs; carried = wires };
  seen = view_is prover task s pairs wires are;
  gives = inr (record { right = right; opened = o; first = first; polynomial_is = shows.polynomial_is });
}

-- no section has an error, and every opened wire is as claimed
pub gives_inputs : (prover : ProverFile) (task : VerifierTask) (s : Session) (pairs : List Pair) (wires : WirePairs) (inputs : List ℕ)
    → (are : AreSeen prover task s pairs wires)
    → NoErrorsBefore (side_of task wires) s (section_count task.statement.program s.grant.section_length)
    → AreAsClaimedBefore (side_of task wires) task.statement.claims (length task.statement.program.opened)
    → inputs ≡ take task.statement.program.inputs (values_of wires.given)
    → IsFinding prover task.statement (transcript_read task are.audited.greeting s 0 0) (found_inputs inputs)
gives_inputs prover task s pairs wires inputs are right claimed is = record {
  view = record { pairs = pairs; carried = wires };
  seen = view_is prover task s pairs wires are;
  gives = record { right = right; claimed = claimed; inputs_are = is };
}

-- ---- what is known of a statement

-- the pairs of a session, and those of the wires of a statement's program
pub record AreKnown (prover : ProverFile) (statement : Statement) (s : Session) (pairs : List Pair) (side : SeenSide) : Type 0 where
  pub seen : AreSeenPairs prover s pairs
  pub program : side.program ≡ statement.program
  pub given : side.pairs.given ≡ corrected_pairs pairs s.corrections.items
  pub carried : ArePairsOf statement.program statement.public side.pairs

-- what is seen of a session, from what is held
pub are_known : (prover : ProverFile) (statement : Statement) (s : Session) (held pairs : List Pair) (corrections : List ℕ) (side : SeenSide)
    → AreSeenPairs prover s held → pairs ≡ held → side.program ≡ statement.program → side.pairs.given ≡ corrected_pairs pairs corrections
    → corrections ≡ s.corrections.items → ArePairsOf statement.program statement.public side.pairs → AreKnown prover statement s pairs side
are_known prover statement s held pairs corrections side seen same program given said carried = record {
  seen = subst (AreSeenPairs prover s) (sym same) seen;
  program = program;
  given = given ∙ ap (corrected_pairs pairs) said;
  carried = carried;
}

abbrev pub are_seen : (prover : ProverFile) (task : VerifierTask) (statement : Statement) (s : Session) (pairs : List Pair) (side : SeenSide)
    → AreKnown prover statement s pairs side → task.statement ≡ statement → IsAudited prover task s → AreSeen prover task s pairs side.pairs
are_seen prover task statement s pairs side known same audited = record {
  audited = audited;
  seen = known.seen;
  given = known.given;
  carried = subst (λ (st : Statement). ArePairsOf st.program st.public side.pairs) (sym same) known.carried;
}

pub side_same : (prover : ProverFile) (task : VerifierTask) (statement : Statement) (s : Session) (pairs : List Pair) (side : SeenSide)
    → AreKnown prover statement s pairs side → task.statement ≡ statement → side ≡ side_of task side.pairs
side_same prover task statement s pairs side known same =
    λ i. record { program = (known.program ∙ ap (λ (st : Statement). st.program) (sym same)) i; pairs = side.pairs }

-- both
abbrev pub as_seen : (prover : ProverFile) (task : VerifierTask) (statement : Statement) (s : Session) (pairs : List Pair) (side : SeenSide)
    → AreKnown prover statement s pairs side → task.statement ≡ statement → IsAudited prover task s
    → AreSeen prover task s pairs side.pairs × (side ≡ side_of task side.pairs)
as_seen prover task statement s pairs side known same audited =
    (are_seen prover task statement s pairs side known same audited, side_same prover task statement s pairs side known same)

-- the first corrected values are the inputs
pub inputs_seen : (prover : ProverFile) (task : VerifierTask) (statement : Statement) (s : Session) (pairs : List Pair) (side : SeenSide)
    (count : ℕ) (corrections inputs : List ℕ) → AreKnown prover statement s pairs side → task.statement ≡ statement
    → count ≡ side.program.inputs → corrections ≡ s.corrections.items → inputs ≡ corrected_values count pairs corrections
    → inputs ≡ take task.statement.program.inputs (values_of side.pairs.given)
inputs_seen prover task statement s pairs side count corrections inputs known same counted said is =
    is ∙ first_corrected count pairs corrections ∙ (λ i. take (number i) (values_of (given i)))
  where
    number : count ≡ task.statement.program.inputs
    number = counted ∙ ap (λ (p : Program). p.inputs) known.program ∙ ap (λ (st : Statement). st.program.inputs) (sym same)

    given : corrected_pairs pairs corrections ≡ side.pairs.given
    given = ap (corrected_pairs pairs) said ∙ sym known.given

-- few sections
pub few_sections : (n g : ℕ) → 1 ≤ g → n ≤ 16777216 → part_count n g < 2 ^ 32
few_sections n g some few = div_below (n + (g - 1)) g (2 ^ 32) some (omega (arith, some, few))
