-- What the prover's pairs and a transcript give: there is a view, and a finding, and every finding shows what it says where the checks hold.
use Rattle.std.proofs.Common.{◌≡◌, ℕ, suc, ◌+◌, ◌*◌, ◌<◌, ◌≤◌, min, ⊎_elim, inl, inr, List, [], ◌∷◌, map, zip, drop, take, length, slice_index, slice_index_or, refl, sym, ◌∙◌, ap, subst, arith}
use Rattle.std.specs.Prelude.{All, get_or}
use Rattle.std.proofs.Math.ListN.{length-take, length-drop}
use Rattle.std.proofs.lemmas.Bool.{cases_eq}
use Rattle.std.proofs.lemmas.List.{length-map, get_or-map, ext_get_or}
use Rattle.std.proofs.lemmas.List.Elements.{All-map, All-same}
use Rattle.std.proofs.lemmas.Slice.Zip.{length-zip}
use Rattle.mersenne_field.proofs.FieldLaws.{reduced, minus-eq-zero}
use Rattle.zk_model.specs.Field.{IsElement, ◌*ₚ◌}
use Rattle.zk_model.specs.Polynomial.{IsNonzero, IsNamedRoot, value_at}
use Rattle.zk_model.specs.Program.{Program, Carries, Multiplies, Solves, opened_values}
use Rattle.zk_model.specs.Statement.{Statement, IsStatement}
use Rattle.zk_model.specs.Mac.{Pair, values_of, macs_of, corrected_pair, corrected_pairs, pair_at}
use Rattle.zk_model.specs.Transcript.{Commitment, Transcript, sections_of}
use Rattle.zk_model.specs.Check.{WirePairs, WireKeys, section_keys, section_left, section_right, opening_right, product_error, product_triple, section_of, section_triples, opened_pairs}
use Rattle.zk_model.specs.View.{View}
use Rattle.zk_model.specs.Finding.{Finding, found_inputs, found_challenge_root, found_key_root, section_errors, HasNoError, IsAsClaimed, AllWithoutError, AllAsClaimed, IsFirstError, section_polynomial, wire_polynomial, IsSectionRoot, IsOpeningRoot, Gives}
use Rattle.zk_model.specs.declared.Product.{Product}
use Rattle.zk_laws.specs.Extraction.{Shows}
use Rattle.zk_laws.proofs.FirstFailures.{first_failure, zero_or_not, some_not_zero}
use Rattle.zk_laws.proofs.Follow.{wires_follow}
use Rattle.zk_laws.proofs.Parts.{section_of-map, all_zero}
use Rattle.zk_laws.proofs.Views.{value_at_place}
use Rattle.circuit_laws.proofs.Unique.{set_element, element_at}
use Rattle.circuit_session.specs.Statements.{IsViewOf}
use Rattle.circuit_session.proofs.Ends.{AreEnds, opened_pair, section_has_root, opening_has_root}

-- ---- a view

-- values and MACs as pairs
abbrev joined_pairs : List ℕ → List ℕ → List Pair
joined_pairs values macs = map (λ q. record { x = q.0; m = q.1 }) (zip values macs)

values_of_joined : (values macs : List ℕ) → length values ≡ length macs → values_of (joined_pairs values macs) ≡ values
values_of_joined [] macs same = refl
values_of_joined (value ∷ values) [] same = absurd (omega (arith, same))
values_of_joined (value ∷ values) (mac ∷ macs) same = ap (λ l. value ∷ l) (values_of_joined values macs (omega (arith, same)))

macs_of_joined : (values macs : List ℕ) → length values ≡ length macs → macs_of (joined_pairs values macs) ≡ macs
macs_of_joined [] [] same = refl
macs_of_joined [] (mac ∷ macs) same = absurd (omega (arith, same))
macs_of_joined (value ∷ values) [] same = absurd (omega (arith, same))
macs_of_joined (value ∷ values) (mac ∷ macs) same = ap (λ l. mac ∷ l) (macs_of_joined values macs (omega (arith, same)))

-- as many given values as corrections, where there are as many pairs
pub given_count : (pairs : List Pair) (corrections : List ℕ) (givens : ℕ) → length corrections ≡ givens → givens ≤ length pairs
    → length (corrected_pairs pairs corrections) ≡ givens
given_count pairs corrections givens count enough =
    let mapped = length-map (zip pairs corrections) (λ q. corrected_pair q.0 q.1) in
    let zipped = length-zip pairs corrections in
    omega (arith, enough, mapped, zipped, count)

-- the wires follow from the given values, and from their MACs
pub view_exists : (statement : Statement) (pairs : List Pair) (corrections : List ℕ) → IsStatement statement
    → length (corrected_pairs pairs corrections) ≡ statement.program.givens → (view : View) × IsViewOf statement pairs corrections view
view_exists statement pairs corrections stated count =
    let given = corrected_pairs pairs corrections in
    let values = wires_follow 1 statement.program statement.public (values_of given) stated.program stated.public_count
    (length-map given (λ (pair : Pair). pair.x) ∙ count) in
    let macs = wires_follow 0 statement.program statement.public (macs_of given) stated.program stated.public_count
    (length-map given (λ (pair : Pair). pair.m) ∙ count) in
    let same = values.1.whole ∙ sym macs.1.whole in (
      record { pairs = pairs; carried = record { given = given; wires = joined_pairs values.0 macs.0 } },
      record {
        pairs_are = refl;
        given = refl;
        carried = record {
          values = subst (Carries 1 statement.program statement.public (values_of given)) (sym (values_of_joined values.0 macs.0 same)) values.1;
          macs = subst (Carries 0 statement.program statement.public (macs_of given)) (sym (macs_of_joined values.0 macs.0 same)) macs.1;
        };
      },
    )

-- ---- a finding

-- a finding of a view and a transcript
abbrev FindingOf : Statement → Transcript → View → Type 0
FindingOf statement t view = (finding : Finding) × Gives statement t view finding

-- a section with an error gives one, by a root at the challenge or at the key
of_section : (statement : Statement) (t : Transcript) (view : View) (s : ℕ)
    → IsFirstError statement.program t.commitment view s → FindingOf statement t view
of_section statement t view s first = ⊎_elim
    (λ root. (
      found_challenge_root s (section_errors statement.program t.commitment view s),
      record { first = first; polynomial_is = refl; met = root },
    ))
    (λ none. (
      found_key_root (section_polynomial statement.program t view s),
      inl (record { section = s; first = first; unmet = none; polynomial_is = refl }),
    ))
    (cases_eq (value_at (section_errors statement.program t.commitment view s) t.challenge) 0)

-- where there is no error, the opened wires give one, and where they are as claimed the inputs do
of_openings : (statement : Statement) (t : Transcript) (view : View)
    → AllWithoutError statement.program t.commitment view → FindingOf statement t view
of_openings statement t view none = ⊎_elim
    (λ claimed. (
      found_inputs (take statement.program.inputs (values_of view.carried.given)),
      record { right = none; claimed = claimed; inputs_are = refl },
    ))
    (λ first. (
      found_key_root (wire_polynomial statement t view first.0),
      inr (record { right = none; opened = first.0; first = first.1; polynomial_is = refl }),
    ))
    (first_failure (IsAsClaimed statement view)
    (λ o. cases_eq (pair_at (opened_pairs statement.program view.carried) o).x (slice_index statement.claims o))
    (length statement.program.opened))

pub finding_exists : (statement : Statement) (t : Transcript) (view : View) → FindingOf statement t view
finding_exists statement t view = ⊎_elim
    (of_openings statement t view)
    (λ first. of_section statement t view first.0 first.1)
    (first_failure (HasNoError statement.program t.commitment view)
    (λ s. zero_or_not (section_errors statement.program t.commitment view s)) (sections_of statement.program t.commitment))

-- ---- the given values

-- corrected values are elements
corrected_elements : (pairs : List Pair) (corrections : List ℕ) → All IsElement (values_of (corrected_pairs pairs corrections))
corrected_elements pairs corrections =
    All-map IsElement (λ (pair : Pair). pair.x) (corrected_pairs pairs corrections)
    (All-map (λ (pair : Pair). IsElement pair.x) (λ q. corrected_pair q.0 q.1) (zip pairs corrections)
    (λ n d below. let q = get_or (zip pairs corrections) n d in reduced (q.0.x + q.1)))

-- ---- products without an error

-- a product without an error is that of its factors
no_error_multiplies : (pairs : WirePairs) (product : Product) → All IsElement (values_of pairs.given)
    → product_error (product_triple pairs product) ≡ 0 → Multiplies (values_of pairs.wires) (values_of pairs.given) product
no_error_multiplies pairs product elements none =
    value_at_place pairs.given product.c
    ∙ sym (minus-eq-zero (a *ₚ b) c (reduced _) element none)
    ∙ sym (λ i. value_at_place pairs.wires product.a i *ₚ value_at_place pairs.wires product.b i)
  where
    a : ℕ
    a = (pair_at pairs.wires product.a).x

    b : ℕ
    b = (pair_at pairs.wires product.b).x

    c : ℕ
    c = (pair_at pairs.given product.c).x

    element : IsElement (pair_at pairs.given product.c).x
    element = subst IsElement (value_at_place pairs.given product.c) (element_at (values_of pairs.given) product.c elements)

-- the errors of all products
abbrev all_errors : Program → View → List ℕ
all_errors program view = map product_error (map (product_triple view.carried) program.products)

-- where no section has an error, no product has one
errors_are : (program : Program) (commitment : Commitment) (view : View) → 1 ≤ commitment.setup.grant.section_length
    → AllWithoutError program commitment view → All (λ a. a ≡ 0) (all_errors program view)
errors_are program commitment view some none =
    all_zero (length program.products) size (all_errors program view) some
    (length-map (map (product_triple view.carried) program.products) product_error ∙ length-map program.products (product_triple view.carried))
    (λ s below. All-same (λ a. a ≡ 0) (section_of size s (all_errors program view)) (map product_error (map (product_triple view.carried) (section_of size s program.products)))
    (section_of-map product_error size s (map (product_triple view.carried) program.products)
    ∙ ap (map product_error) (section_of-map (product_triple view.carried) size s program.products))
    (λ k d inside. none s below (suc k) d (omega (arith, inside))))
  where
    size : ℕ
    size = commitment.setup.grant.section_length

-- the error of one product
error_is : (program : Program) (view : View) (n : ℕ) (d : Product) → n < length program.products → All (λ a. a ≡ 0) (all_errors program view)
    → product_error (product_triple view.carried (get_or program.products n d)) ≡ 0
error_is program view n d below none =
    let mapped = length-map program.products (product_triple view.carried) in
    let twice = length-map (map (product_triple view.carried) program.products) product_error in
    sym (get_or-map product_error (map (product_triple view.carried) program.products) n (product_triple view.carried d) 0 (omega (arith, mapped, below))
    ∙ ap product_error (get_or-map (product_triple view.carried) program.products n d (product_triple view.carried d) below))
    ∙ none n 0 (omega (arith, twice, mapped, below))

-- a section's polynomial has one coefficient more than the section has products: at most its length, and at most all
errors_length : (program : Program) (commitment : Commitment) (view : View) (s : ℕ)
    → length (section_errors program commitment view s) ≤ min commitment.setup.grant.section_length (length program.products) + 1
errors_length program commitment view s =
    let errors = length-map (section_triples program size view.carried s) product_error in
    let triples = length-map (section_of size s program.products) (product_triple view.carried) in
    let taken = length-take size (drop (s * size) program.products) in
    let dropped = length-drop (s * size) program.products in
    omega (arith, errors, triples, taken, dropped)
  where
    size : ℕ
    size = commitment.setup.grant.section_length

-- ---- what a finding shows

-- what the two ends hold, and the equations of all sections and of all opened wires
pub record AreAccepted (key : ℕ) (statement : Statement) (keys : List ℕ) (t : Transcript) (view : View) (wires : WireKeys) : Type 0 where
  pub ends : AreEnds key statement keys t.commitment.corrections view wires
  pub some : 1 ≤ t.commitment.setup.grant.section_length
  pub count : length view.carried.given ≡ statement.program.givens
  pub sections : (s : ℕ) → s < sections_of statement.program t.commitment
      → section_left key t.challenge (section_keys statement.program t.commitment.setup.grant.section_length wires s)
      (slice_index (drop statement.program.givens keys) s)
      ≡ section_right key (slice_index_or t.sums s (0, 0))
  pub openings : (o : ℕ) → o < length statement.program.opened
      → slice_index wires.wires (slice_index statement.program.opened o) ≡ opening_right key (slice_index t.openings o) (slice_index statement.claims o)

module _ (key : ℕ) (statement : Statement) (keys : List ℕ) (t : Transcript) (view : View) (wires : WireKeys)
    (accepted : AreAccepted key statement keys t view wires) where
  -- the given values are elements
  given_elements : All IsElement (values_of view.carried.given)
  given_elements =
      All-same IsElement _ _ (ap values_of accepted.ends.given) (corrected_elements view.pairs t.commitment.corrections)

  -- the pair of an opened wire
  pair_of : (o : ℕ) → o < length statement.program.opened
      → pair_at (opened_pairs statement.program view.carried) o ≡ pair_at view.carried.wires (slice_index statement.program.opened o)
  pair_of = opened_pair key statement keys t.commitment.corrections view wires accepted.ends

  -- the value of an opened wire is an element
  opened_element : (o : ℕ) → o < length statement.program.opened → IsElement (pair_at (opened_pairs statement.program view.carried) o).x
  opened_element o below =
      subst IsElement (value_at_place view.carried.wires (slice_index statement.program.opened o) ∙ sym (ap (λ pair. pair.x) (pair_of o below)))
      (set_element 1 statement.program statement.public (values_of view.carried.given) (values_of view.carried.wires)
      (length statement.program.steps) (slice_index statement.program.opened o) accepted.ends.stated.program accepted.ends.carried.values
      given_elements (accepted.ends.stated.program.opened o 0 below))

  -- opened wires that are as claimed have the claims as their values
  claims_are : AllAsClaimed statement view → opened_values statement.program (values_of view.carried.wires) ≡ statement.claims
  claims_are claimed =
      let count = length-map statement.program.opened (slice_index (values_of view.carried.wires)) in
      ext_get_or 0 _ _ (count ∙ sym accepted.ends.stated.claim_count)
      (λ o below.
      let inside : o < length statement.program.opened = omega (arith, below, count) in
      get_or-map (slice_index (values_of view.carried.wires)) statement.program.opened o 0 0 inside
      ∙ value_at_place view.carried.wires (slice_index statement.program.opened o)
      ∙ sym (ap (λ pair. pair.x) (pair_of o inside))
      ∙ claimed o inside)

  -- without errors the prover's values solve the program
  no_error_solves : AllWithoutError statement.program t.commitment view
      → Solves statement.program statement.public (values_of view.carried.wires) (values_of view.carried.given)
  no_error_solves none = record {
    carried = accepted.ends.carried.values;
    count = length-map view.carried.given (λ (pair : Pair). pair.x) ∙ accepted.count;
    elements = given_elements;
    multiplied = λ n d below. no_error_multiplies view.carried (get_or statement.program.products n d) given_elements
        (error_is statement.program view n d below (errors_are statement.program t.commitment view accepted.some none));
  }

  -- a section whose errors have no root at the challenge
  section_shows : (polynomial : List ℕ) → IsSectionRoot statement.program t view polynomial → IsNamedRoot 2 polynomial key
  section_shows polynomial by =
      subst (λ (p : List ℕ). IsNamedRoot 2 p key) (sym by.polynomial_is) (record {
        nonzero = (2, omega arith, by.unmet);
        coefficients = omega arith;
        root = section_has_root key statement keys t.commitment.corrections view wires accepted.ends t by.section (accepted.sections by.section by.first.below);
      })

  -- an opened wire that is not as claimed
  opening_shows : (polynomial : List ℕ) → IsOpeningRoot statement t view polynomial → IsNamedRoot 2 polynomial key
  opening_shows polynomial by =
      let o = by.opened in
      let pair = pair_at (opened_pairs statement.program view.carried) o in
      subst (λ (p : List ℕ). IsNamedRoot 2 p key) (sym by.polynomial_is) (record {
        nonzero = (
          1,
          omega arith,
          λ none. by.first.fails (minus-eq-zero pair.x (slice_index statement.claims o)
              (opened_element o by.first.below) (element_at statement.claims o accepted.ends.stated.claims) none),
        );
        coefficients = omega arith;
        root = opening_has_root key statement keys t.commitment.corrections view wires accepted.ends t o by.first.below (accepted.openings o by.first.below);
      })

  pub finding_shows : (finding : Finding) → Gives statement t view finding
      → Shows statement t.commitment.setup.grant.section_length t.challenge key finding
  finding_shows (found_challenge_root s polynomial) gives = record {
    nonzero = subst IsNonzero (sym gives.polynomial_is) (some_not_zero (section_errors statement.program t.commitment view s) gives.first.fails);
    coefficients = subst (λ (p : List ℕ). length p ≤ min t.commitment.setup.grant.section_length (length statement.program.products) + 1)
        (sym gives.polynomial_is) (errors_length statement.program t.commitment view s);
    root = gives.met;
  }
  finding_shows (found_key_root polynomial) (inl by) = section_shows polynomial by
  finding_shows (found_key_root polynomial) (inr by) = opening_shows polynomial by
  finding_shows (found_inputs inputs) gives = record {
    wires = values_of view.carried.wires;
    given = values_of view.carried.given;
    solved = no_error_solves gives.right;
    first = sym gives.inputs_are;
    last = claims_are gives.claimed;
  }
