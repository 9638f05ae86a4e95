-- A verifier can serve a session, whatever the prover fixes in it: by the verifier's keys some sums and openings meet its
-- equations.
use Rattle.std.proofs.Common.{◌≡◌, ℕ, zero, suc, ◌+◌, ◌-◌, ◌*◌, ◌%◌, ◌^◌, ◌<◌, List, [], map, zip, flat_map, length, slice_index, sym, ◌∙◌, ap, arith, length-append, refl, zero-add}
use Rattle.std.specs.Prelude.{All}
use Rattle.std.specs.List.{range_with_len}
use Rattle.std.proofs.lemmas.List.{length-map}
use Rattle.std.proofs.lemmas.List.Elements.{All-map}
use Rattle.std.proofs.lemmas.List.FromFn.{length-enumerate_from, length-map-range_with_len, get_or-map-range_with_len}
use Rattle.std.proofs.lemmas.Slice.Zip.{length-zip}
use Rattle.mersenne_field.proofs.FieldLaws.{reduced, plus_comm, plus-minus}
use Rattle.mersenne_field.proofs.Flatten.{flatten}
use Rattle.zk_model.specs.Field.{prime, IsElement, ◌+ₚ◌, ◌-ₚ◌, ◌*ₚ◌}
use Rattle.zk_model.specs.Program.{Program, Carries, section_count, correlations_needed}
use Rattle.zk_model.specs.Mac.{corrected_key, corrected_keys}
use Rattle.zk_model.specs.Files.{VerifierFile, IsVerifierUnit, IsVerifierFile, correlations_per_unit, verifier_unit}
use Rattle.zk_model.specs.Correlations.{tree_root, unit_leaves, unit_keys}
use Rattle.zk_model.specs.Tree.{tree_leaves, leaf_at}
use Rattle.zk_model.specs.Transcript.{Commitment, Transcript, IsGrant, sections_of}
use Rattle.zk_model.specs.Check.{WireKeys, ProductCheck, OpeningCheck, SectionHolds, OpeningHolds, AllSectionsHold, AllOpeningsHold, left_of_section, left_of_opening, section_right}
use Rattle.zk_model.specs.View.{AreSessionKeys, session_keys, session_products, session_openings}
use Rattle.zk_model.specs.ServedVerifier.{VerifierTask, challenge_coin}
use Rattle.zk_laws.proofs.Follow.{wires_follow}
use Rattle.zk_laws.proofs.Views.{gives_some, parts_hold}
use Rattle.circuit_laws.proofs.Unique.{set_element}
use Rattle.session_laws.specs.Serving.{ServedSessionExists}
use Rattle.zk_model.specs.declared.Kind.{Kind}
use Rattle.zk_model.specs.declared.Kind.TheVariants.{Direct, Extended}
use Rattle.zk_model.specs.declared.Verdict.TheVariants.{Accepted}

-- ---- as many keys as a session takes

-- lists of the same length, joined
joined_length : (f : ℕ → List ℕ) (per a n : ℕ) → ((i : ℕ) → i < n → length (f (a + i)) ≡ per)
    → length (flat_map f (range_with_len a n)) ≡ n * per
joined_length f per a zero each = omega arith
joined_length f per a (suc n) each =
    let rest = joined_length f per (a + 1) n (λ i below. ap (λ k. length (f k)) (next i) ∙ each (suc i) (omega (arith, below))) in
    length-append (f a) (flat_map f (range_with_len (a + 1) n)) ∙ omega (arith, first, rest)
  where
    start : a + 0 ≡ a
    start = omega arith

    next : (i : ℕ) → a + 1 + i ≡ a + suc i
    next i = omega arith

    first : length (f a) ≡ per
    first = sym (ap (λ k. length (f k)) start) ∙ each 0 (omega arith)

-- a file of this kind
abbrev of_kind : VerifierFile → Kind → VerifierFile
of_kind file kind = record file { params = record file.params { kind = kind } }

-- a unit gives as many keys as its kind says
unit_length : (file : VerifierFile) (kind : Kind) (unit : ℕ) → IsVerifierUnit (of_kind file kind).params (verifier_unit file unit)
    → length (unit_keys (of_kind file kind) unit) ≡ correlations_per_unit (record file.params { kind = kind })
unit_length file Direct unit is = is.count
unit_length file Extended unit is =
    length-map _ _ ∙ length-enumerate_from 0 (unit_leaves file unit)
    ∙ joined_length (λ tree. tree_leaves (tree_root file unit tree) file.params.height) (2 ^ file.params.height) 0 file.params.trees
    (λ tree below. length-map-range_with_len (leaf_at (tree_root file unit (0 + tree)) file.params.height) 0 (2 ^ file.params.height))

-- and so do the units of a grant
session_length : (file : VerifierFile) (program : Program) (commitment : Commitment) → IsVerifierFile file
    → IsGrant file.params program commitment.setup.grant
    → length (session_keys file commitment) ≡ commitment.setup.grant.count * correlations_per_unit file.params
session_length file program commitment is granted =
    ap (λ n. length (flat_map (unit_keys file) (range_with_len commitment.setup.grant.start n))) count
    ∙ joined_length (unit_keys file) (correlations_per_unit file.params) commitment.setup.grant.start commitment.setup.grant.count each
  where
    count : commitment.setup.grant.start + commitment.setup.grant.count - commitment.setup.grant.start ≡ commitment.setup.grant.count
    count = omega arith

    each : (i : ℕ) → i < commitment.setup.grant.count
        → length (unit_keys file (commitment.setup.grant.start + i)) ≡ correlations_per_unit file.params
    each i below = unit_length file file.params.kind (commitment.setup.grant.start + i)
        (is.units (commitment.setup.grant.start + i) (record { keys = []; trees = [] }) (omega (arith, below, is.count, granted.within)))

-- so there is a key for each given value
pub given_count : (file : VerifierFile) (program : Program) (commitment : Commitment) → IsVerifierFile file
    → IsGrant file.params program commitment.setup.grant → length commitment.corrections ≡ program.givens
    → length (corrected_keys file.key (session_keys file commitment) commitment.corrections) ≡ program.givens
given_count file program commitment is granted corrected =
    let keys = session_length file program commitment is granted in
    let hold = parts_hold (correlations_needed program commitment.setup.grant.section_length) (correlations_per_unit file.params)
    commitment.setup.grant.count (gives_some file.params file.params.kind is.params.limits) granted.count in
    let mapped = length-map (zip (session_keys file commitment) commitment.corrections) (λ q. corrected_key file.key q.0 q.1) in
    let zipped = length-zip (session_keys file commitment) commitment.corrections in
    omega (arith, keys, hold, mapped, zipped, corrected)

-- ---- sums and openings that meet the equations

-- the left side of a section, and 0
abbrev meeting_sums : ProductCheck → List (ℕ × ℕ)
meeting_sums check =
    map (λ s. (left_of_section check s, 0)) (range_with_len 0 (section_count check.program check.section_length))

-- the left side of an opened wire, less the claim times the key
abbrev meeting_macs : OpeningCheck → List ℕ
meeting_macs check = map (λ o. left_of_opening check o -ₚ slice_index check.claims o *ₚ check.key)
    (range_with_len 0 (length check.program.opened))

-- a reduced number is the right side of itself and 0
right_of_left : (key n : ℕ) → n % prime ≡ section_right key (n % prime, 0)
right_of_left key n = simp flatten (omega arith)

section_met : (check : ProductCheck) (s : ℕ) → s < section_count check.program check.section_length
    → SectionHolds (record check { sums = meeting_sums check }) s
section_met check s below =
    right_of_left check.key _
    ∙ ap (section_right check.key) (sym (get_or-map-range_with_len (λ s. (left_of_section check s, 0)) 0
    (section_count check.program check.section_length) s s (0, 0) below (zero-add s)))

opening_met : (check : OpeningCheck) (o : ℕ) → o < length check.program.opened → IsElement (left_of_opening check o)
    → OpeningHolds (record check { macs = meeting_macs check }) o
opening_met check o below element =
    sym (plus-minus (left_of_opening check o) (slice_index check.claims o *ₚ check.key) element)
    ∙ plus_comm (slice_index check.claims o *ₚ check.key) (left_of_opening check o -ₚ slice_index check.claims o *ₚ check.key)
    ∙ ap (λ mac. mac +ₚ slice_index check.claims o *ₚ check.key)
    (sym (get_or-map-range_with_len (λ o. left_of_opening check o -ₚ slice_index check.claims o *ₚ check.key) 0
    (length check.program.opened) o o 0 below (zero-add o)))

-- ---- the session

-- the challenge is the verifier's coin, and the verdict that all holds
abbrev served_transcript : VerifierTask → Commitment → List (ℕ × ℕ) → List ℕ → Transcript
served_transcript task commitment sums openings = record {
  commitment = commitment;
  challenge = challenge_coin task.file commitment.setup.grant.start;
  sums = sums;
  openings = openings;
  code = 0;
  number = 0;
}

pub served_session_exists : ServedSessionExists
served_session_exists task setup corrections is stated set hello replies corrected = record {
  t = served_transcript task commitment (meeting_sums products) (meeting_macs openings);
  verdict = Accepted;
  served = record {
    in_order = record {
      stated = stated;
      hello = hello;
      transcript = record {
        commitment = record { setup = set; count = corrected.counted; elements = corrected.ranged };
        challenge = reduced _;
        sum_count = length-map-range_with_len _ 0 _;
        sums = All-map (λ (both : ℕ × ℕ). IsElement both.0 × IsElement both.1) (λ s. (left_of_section products s, 0))
            (range_with_len 0 (sections_of task.statement.program commitment)) (λ n d below. (reduced _, omega arith));
        opening_count = length-map-range_with_len _ 0 _;
        openings = All-map IsElement (λ o. left_of_opening openings o -ₚ slice_index openings.claims o *ₚ openings.key)
            (range_with_len 0 (length task.statement.program.opened)) (λ n d below. reduced _);
        code = omega arith;
        number = omega arith;
      };
      bytes = refl;
    };
    replies = replies;
    challenge = refl;
    judged = record { keys = keys; carried = carried; judged = hold; said = record { code = refl; number = refl } };
  };
  commitment = refl;
}
  where
    commitment : Commitment
    commitment = record { setup = setup; corrections = corrections }

    given : List ℕ
    given = corrected_keys task.file.key (session_keys task.file commitment) corrections

    wires : (numbers : List ℕ) × Carries task.file.key task.statement.program task.statement.public given numbers
    wires = wires_follow task.file.key task.statement.program task.statement.public given stated.program stated.public_count
        (given_count task.file task.statement.program commitment is set.grant corrected.counted)

    keys : WireKeys
    keys = record { given = given; wires = wires.0 }

    carried : AreSessionKeys task.file task.statement commitment keys
    carried = record { given = refl; carried = wires.1 }

    products : ProductCheck
    products = session_products task.file task.statement (served_transcript task commitment [] []) keys

    openings : OpeningCheck
    openings = session_openings task.file task.statement (served_transcript task commitment [] []) keys

    elements : All IsElement given
    elements = All-map IsElement (λ q. corrected_key task.file.key q.0 q.1) (zip (session_keys task.file commitment) corrections)
        (λ n d below. reduced _)

    hold : AllSectionsHold (record products { sums = meeting_sums products }) × AllOpeningsHold (record openings { macs = meeting_macs openings })
    hold = (
      λ s below. section_met products s below,
      λ o below. opening_met openings o below
          (set_element task.file.key task.statement.program task.statement.public given wires.0 (length task.statement.program.steps)
          (slice_index task.statement.program.opened o) stated.program wires.1 elements (stated.program.opened o 0 below)),
    )
