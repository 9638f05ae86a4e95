-- Where the keys fit what the prover sees and all checks hold, a finding shows what it says.
use Rattle.std.proofs.Common.{◌≡◌, ℕ, ◌+◌, ◌*◌, ◌<◌, ◌≤◌, min, inl, inr, List, drop, length, slice_index, sym, ◌∙◌, ap, subst, arith}
use Rattle.std.proofs.Math.ListN.{length-take, length-drop}
use Rattle.std.proofs.lemmas.List.{length-map, get_or-map, ext_get_or}
use Rattle.mersenne_field.proofs.FieldLaws.{minus-eq-zero}
use Rattle.zk_model.specs.Field.{IsElement, ◌-ₚ◌}
use Rattle.zk_model.specs.Polynomial.{IsNonzero, IsNamedRoot}
use Rattle.zk_model.specs.Program.{Program, opened_values}
use Rattle.zk_model.specs.Statement.{Statement, IsStatement}
use Rattle.zk_model.specs.Mac.{values_of, pair_at}
use Rattle.zk_model.specs.Files.{ProverFile, VerifierFile}
use Rattle.zk_model.specs.Transcript.{Commitment, Transcript}
use Rattle.zk_model.specs.Check.{product_error, product_triple, section_of, section_triples, opened_pairs}
use Rattle.zk_model.specs.View.{View, IsView, ChecksHold}
use Rattle.zk_model.specs.Finding.{found_inputs, found_challenge_root, found_key_root, section_errors, IsSectionRoot, IsOpeningRoot, AllAsClaimed}
use Rattle.zk_laws.specs.Extraction.{FindingShows}
use Rattle.zk_laws.proofs.FirstFailures.{some_not_zero}
use Rattle.circuit_laws.proofs.Unique.{set_element, element_at}
use Rattle.zk_laws.proofs.Views.{value_at_place}
use Rattle.zk_laws.proofs.NoErrors.{no_error_solves, given_elements}
use Rattle.zk_laws.proofs.SessionKeys.{AreBothEnds, opened_pair, held_section_has_root, held_opening_has_root}

-- ---- the errors of a section

-- a section's polynomial has one coefficient more than the section has products: at most its length, and at most all
errors_length : (program : Program) (commitment : Commitment) (view : View) (s : ℕ)
    → length (section_errors program commitment view s) ≤ min commitment.setup.grant.section_length (length program.products) + 1
errors_length program commitment view s =
    let errors = length-map (section_triples program size view.carried s) product_error in
    let triples = length-map (section_of size s program.products) (product_triple view.carried) in
    let taken = length-take size (drop (s * size) program.products) in
    let dropped = length-drop (s * size) program.products in
    omega (arith, errors, triples, taken, dropped)
  where
    size : ℕ
    size = commitment.setup.grant.section_length

-- ---- the opened wires

-- the value of an opened wire is an element
opened_element : (prover : ProverFile) (statement : Statement) (commitment : Commitment) (view : View) (o : ℕ) → IsStatement statement
    → IsView prover statement commitment view → o < length statement.program.opened
    → IsElement (pair_at (opened_pairs statement.program view.carried) o).x
opened_element prover statement commitment view o stated seen below =
    subst IsElement (value_at_place view.carried.wires wire ∙ sym (ap (λ pair. pair.x) (opened_pair statement.program view o below)))
    (set_element 1 statement.program statement.public (values_of view.carried.given) (values_of view.carried.wires)
    (length statement.program.steps) wire stated.program seen.carried.values
    (given_elements prover statement commitment view seen) (stated.program.opened o 0 below))
  where
    wire : ℕ
    wire = slice_index statement.program.opened o

-- opened wires that are as claimed have the claims as their values
pub claims_are : (statement : Statement) (view : View) → IsStatement statement → AllAsClaimed statement view
    → opened_values statement.program (values_of view.carried.wires) ≡ statement.claims
claims_are statement view stated claimed =
    ext_get_or 0 _ _ (count ∙ sym stated.claim_count)
    (λ o below.
    let inside : o < length statement.program.opened = omega (arith, below, count) in
    get_or-map (slice_index (values_of view.carried.wires)) statement.program.opened o 0 0 inside
    ∙ value_at_place view.carried.wires (slice_index statement.program.opened o)
    ∙ sym (ap (λ pair. pair.x) (opened_pair statement.program view o inside))
    ∙ claimed o inside)
  where
    count : length (opened_values statement.program (values_of view.carried.wires)) ≡ length statement.program.opened
    count = length-map statement.program.opened (slice_index (values_of view.carried.wires))

-- ---- roots at the key

-- a section whose errors have no root at the challenge
section_shows : (prover : ProverFile) (verifier : VerifierFile) (statement : Statement) (t : Transcript) (view : View) (polynomial : List ℕ)
    → (holds : ChecksHold verifier statement t) → AreBothEnds prover verifier statement t.commitment view holds.keys
    → IsSectionRoot statement.program t view polynomial → IsNamedRoot 2 polynomial verifier.key
section_shows prover verifier statement t view polynomial holds both by =
    subst (λ (p : List ℕ). IsNamedRoot 2 p verifier.key) (sym by.polynomial_is) (record {
      nonzero = (2, omega arith, by.unmet);
      coefficients = omega arith;
      root = held_section_has_root prover verifier statement t view holds.keys both by.section (holds.sections by.section by.first.below);
    })

-- an opened wire that is not as claimed
opening_shows : (prover : ProverFile) (verifier : VerifierFile) (statement : Statement) (t : Transcript) (view : View) (polynomial : List ℕ)
    → (holds : ChecksHold verifier statement t) → AreBothEnds prover verifier statement t.commitment view holds.keys
    → IsOpeningRoot statement t view polynomial → IsNamedRoot 2 polynomial verifier.key
opening_shows prover verifier statement t view polynomial holds both by =
    subst (λ (p : List ℕ). IsNamedRoot 2 p verifier.key) (sym by.polynomial_is) (record {
      nonzero = (1, omega arith, λ none. by.first.fails (as_claimed none));
      coefficients = omega arith;
      root = held_opening_has_root prover verifier statement t view holds.keys both by.opened by.first.below
          (holds.openings by.opened by.first.below);
    })
  where
    as_claimed : (pair_at (opened_pairs statement.program view.carried) by.opened).x -ₚ slice_index statement.claims by.opened ≡ 0
        → (pair_at (opened_pairs statement.program view.carried) by.opened).x ≡ slice_index statement.claims by.opened
    as_claimed none = minus-eq-zero (pair_at (opened_pairs statement.program view.carried) by.opened).x (slice_index statement.claims by.opened)
        (opened_element prover statement t.commitment view by.opened both.stated both.seen by.first.below)
        (element_at statement.claims by.opened both.stated.claims) none

-- ---- every finding

pub finding_shows : FindingShows
finding_shows prover verifier statement t view (found_challenge_root s polynomial) is element stated whole seen fit holds gives = record {
  nonzero = subst IsNonzero (sym gives.polynomial_is) (some_not_zero (section_errors statement.program t.commitment view s) gives.first.fails);
  coefficients = subst (λ (p : List ℕ). length p ≤ min t.commitment.setup.grant.section_length (length statement.program.products) + 1)
      (sym gives.polynomial_is) (errors_length statement.program t.commitment view s);
  root = gives.met;
}
finding_shows prover verifier statement t view (found_key_root polynomial) is element stated whole seen fit holds (inl by) =
    section_shows prover verifier statement t view polynomial holds
    (record { element = element; stated = stated; seen = seen; fit = fit; carried = holds.carried }) by
finding_shows prover verifier statement t view (found_key_root polynomial) is element stated whole seen fit holds (inr by) =
    opening_shows prover verifier statement t view polynomial holds
    (record { element = element; stated = stated; seen = seen; fit = fit; carried = holds.carried }) by
finding_shows prover verifier statement t view (found_inputs inputs) is element stated whole seen fit holds gives = record {
  wires = values_of view.carried.wires;
  given = values_of view.carried.given;
  solved = no_error_solves prover statement t.commitment view is stated whole.commitment seen gives.right;
  first = sym gives.inputs_are;
  last = claims_are statement view stated gives.claimed;
}
