-- Where no section has an error, the prover's values solve the program.
use Rattle.std.proofs.Common.{◌≡◌, ℕ, suc, ◌+◌, ◌<◌, ◌≤◌, List, map, zip, length, sym, ◌∙◌, ap, subst, arith}
use Rattle.std.specs.Prelude.{All, get_or}
use Rattle.std.proofs.lemmas.List.{length-map, get_or-map}
use Rattle.std.proofs.lemmas.List.Elements.{All-map, All-same}
use Rattle.mersenne_field.proofs.FieldLaws.{reduced, minus-eq-zero}
use Rattle.zk_model.specs.Field.{IsElement, ◌*ₚ◌}
use Rattle.zk_model.specs.Program.{Program, Multiplies}
use Rattle.zk_model.specs.Mac.{Pair, values_of, corrected_pair, corrected_pairs, pair_at}
use Rattle.zk_model.specs.Files.{ProverFile}
use Rattle.zk_model.specs.Statement.{Statement}
use Rattle.zk_model.specs.Transcript.{Commitment}
use Rattle.zk_model.specs.Check.{WirePairs, product_error, product_triple, section_of}
use Rattle.zk_model.specs.View.{View, IsView}
use Rattle.zk_model.specs.Finding.{AllWithoutError}
use Rattle.zk_model.specs.declared.Product.{Product}
use Rattle.zk_laws.specs.Extraction.{NoErrorSolves}
use Rattle.zk_laws.proofs.Parts.{section_of-map, all_zero}
use Rattle.circuit_laws.proofs.Unique.{element_at}
use Rattle.zk_laws.proofs.Views.{value_at_place, given_count}

-- ---- the given values

-- corrected values are elements
corrected_elements : (pairs : List Pair) (corrections : List ℕ) → All IsElement (values_of (corrected_pairs pairs corrections))
corrected_elements pairs corrections =
    All-map IsElement (λ (pair : Pair). pair.x) (corrected_pairs pairs corrections)
    (All-map (λ (pair : Pair). IsElement pair.x) (λ q. corrected_pair q.0 q.1) (zip pairs corrections)
    (λ n d below. let q = get_or (zip pairs corrections) n d in reduced (q.0.x + q.1)))

-- so the given values of a view are
pub given_elements : (file : ProverFile) (statement : Statement) (commitment : Commitment) (view : View)
    → IsView file statement commitment view → All IsElement (values_of view.carried.given)
given_elements file statement commitment view seen =
    All-same IsElement _ _ (ap values_of seen.given) (corrected_elements view.pairs commitment.corrections)

-- ---- one product

-- a product without an error is that of its factors
no_error_multiplies : (pairs : WirePairs) (product : Product) → All IsElement (values_of pairs.given)
    → product_error (product_triple pairs product) ≡ 0 → Multiplies (values_of pairs.wires) (values_of pairs.given) product
no_error_multiplies pairs product elements none =
    value_at_place pairs.given product.c
    ∙ sym (minus-eq-zero (a *ₚ b) c (reduced _) element none)
    ∙ sym (λ i. value_at_place pairs.wires product.a i *ₚ value_at_place pairs.wires product.b i)
  where
    a : ℕ
    a = (pair_at pairs.wires product.a).x

    b : ℕ
    b = (pair_at pairs.wires product.b).x

    c : ℕ
    c = (pair_at pairs.given product.c).x

    element : IsElement (pair_at pairs.given product.c).x
    element = subst IsElement (value_at_place pairs.given product.c) (element_at (values_of pairs.given) product.c elements)

-- ---- all products

-- the errors of all products
abbrev all_errors : Program → View → List ℕ
all_errors program view = map product_error (map (product_triple view.carried) program.products)

-- where no section has an error, no product has one
errors_are : (program : Program) (commitment : Commitment) (view : View) → 1 ≤ commitment.setup.grant.section_length
    → AllWithoutError program commitment view → All (λ a. a ≡ 0) (all_errors program view)
errors_are program commitment view some none =
    all_zero (length program.products) size (all_errors program view) some
    (length-map (map (product_triple view.carried) program.products) product_error ∙ length-map program.products (product_triple view.carried))
    (λ s below. All-same (λ a. a ≡ 0) (section_of size s (all_errors program view)) (map product_error (map (product_triple view.carried) (section_of size s program.products)))
    (section_of-map product_error size s (map (product_triple view.carried) program.products)
    ∙ ap (map product_error) (section_of-map (product_triple view.carried) size s program.products))
    (λ k d inside. none s below (suc k) d (omega (arith, inside))))
  where
    size : ℕ
    size = commitment.setup.grant.section_length

-- the error of one product
error_is : (program : Program) (view : View) (n : ℕ) (d : Product) → n < length program.products → All (λ a. a ≡ 0) (all_errors program view)
    → product_error (product_triple view.carried (get_or program.products n d)) ≡ 0
error_is program view n d below none =
    let mapped = length-map program.products (product_triple view.carried) in
    let twice = length-map (map (product_triple view.carried) program.products) product_error in
    sym (get_or-map product_error (map (product_triple view.carried) program.products) n (product_triple view.carried d) 0 (omega (arith, mapped, below))
    ∙ ap product_error (get_or-map (product_triple view.carried) program.products n d (product_triple view.carried d) below))
    ∙ none n 0 (omega (arith, twice, mapped, below))

-- without errors the prover's values solve the program
pub no_error_solves : NoErrorSolves
no_error_solves file statement commitment view is stated committed seen none = record {
  carried = seen.carried.values;
  count = length-map view.carried.given (λ (pair : Pair). pair.x)
      ∙ ap length seen.given
      ∙ given_count file statement.program commitment view.pairs is committed seen.pairs;
  elements = elements;
  multiplied = λ n d below. no_error_multiplies view.carried (get_or statement.program.products n d) elements
      (error_is statement.program view n d below
      (errors_are statement.program commitment view committed.setup.grant.section_some none));
}
  where
    elements : All IsElement (values_of view.carried.given)
    elements = given_elements file statement commitment view seen
