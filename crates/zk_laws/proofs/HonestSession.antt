-- What an honest prover sends meets every equation of a verifier whose keys fit its pairs.
use Rattle.std.proofs.Common.{◌≡◌, ℕ, ◌<◌, ◌≤◌, List, [], ◌∷◌, map, zip, length, slice_index, slice_index_or, refl, sym, ◌∙◌, ap, subst, arith}
use Rattle.std.specs.Prelude.{get_or}
use Rattle.std.specs.List.{AllByRecursion}
use Rattle.std.proofs.lemmas.List.{length-map, get_or-map}
use Rattle.std.proofs.lemmas.List.Elements.{All-map, recursion_from_All}
use Rattle.std.proofs.lemmas.List.FromFn.{get_or-map-range_with_len}
use Rattle.std.proofs.lemmas.Slice.Zip.{length-zip}
use Rattle.mersenne_field.proofs.FieldLaws.{plus-minus, minus-self}
use Rattle.zk_model.specs.Field.{IsElement, ◌+ₚ◌, ◌-ₚ◌, ◌*ₚ◌}
use Rattle.zk_model.specs.Program.{Carries, IsSetInAll, IsProduct, Multiplies, section_count}
use Rattle.zk_model.specs.Statement.{IsStatement}
use Rattle.zk_model.specs.Mac.{Pair, values_of, corrected_pairs, pair_at}
use Rattle.zk_model.specs.Files.{VerifierFile}
use Rattle.zk_model.specs.Transcript.{Transcript, IsTranscript}
use Rattle.zk_model.specs.Check.{WireKeys, product_error, product_triple, section_of, honest_sums, section_right, section_triples, opened_pairs, SectionHolds, OpeningHolds}
use Rattle.zk_model.specs.View.{view_masks, session_products, session_openings}
use Rattle.zk_model.specs.HonestProver.{ProverTask, IsHonest, honest_corrections}
use Rattle.zk_model.specs.declared.Product.{Product}
use Rattle.zk_laws.specs.Sessions.{HonestSessionHolds}
use Rattle.zk_laws.proofs.Parts.{in_section}
use Rattle.zk_laws.proofs.Sections.{honest_section_holds}
use Rattle.circuit_laws.proofs.Unique.{one_on_set_wires}
use Rattle.zk_laws.proofs.Views.{value_at_place, mac_at_place}
use Rattle.zk_laws.proofs.SessionKeys.{AreBothEnds, wire_fits, left_side, opened_pair}

-- ---- values

-- the corrected values are the given ones
corrected_values : (given : List ℕ) (pairs : List Pair) → AllByRecursion IsElement given → length given ≤ length pairs
    → values_of (corrected_pairs pairs (honest_corrections given pairs)) ≡ given
corrected_values [] [] elements enough = refl
corrected_values [] (pair ∷ pairs) elements enough = refl
corrected_values (value ∷ values) [] elements enough = absurd (omega (arith, enough))
corrected_values (value ∷ values) (pair ∷ pairs) elements enough =
    λ i. plus-minus value pair.x elements.0 i ∷ corrected_values values pairs elements.1 (omega (arith, enough)) i

-- as many corrections as given values take as many pairs
enough_pairs : (given : List ℕ) (pairs : List Pair) (corrections : List ℕ) → corrections ≡ honest_corrections given pairs
    → length corrections ≡ length given → length given ≤ length pairs
enough_pairs given pairs corrections are count =
    let paired = ap length are ∙ length-map (zip given pairs) (λ q. q.0 -ₚ q.1.x) ∙ length-zip given pairs in
    omega (arith, paired, count)

-- the given values of the view are those of the prover
given_values : (task : ProverTask) (t : Transcript) → IsTranscript task.file.params task.statement.program t → (honest : IsHonest task t)
    → values_of honest.view.carried.given ≡ honest.given
given_values task t whole honest =
    ap values_of honest.seen.given
    ∙ ap (λ l. values_of (corrected_pairs honest.view.pairs l)) honest.corrections
    ∙ corrected_values honest.given honest.view.pairs (recursion_from_All IsElement honest.given honest.witness.solves.elements)
    (enough_pairs honest.given honest.view.pairs t.commitment.corrections honest.corrections (whole.commitment.count ∙ sym honest.witness.solves.count))

-- and so is the value of a wire that is set
set_value : (task : ProverTask) (t : Transcript) (wire : ℕ) → IsStatement task.statement
    → IsTranscript task.file.params task.statement.program t → (honest : IsHonest task t)
    → IsSetInAll task.statement.program wire → (pair_at honest.view.carried.wires wire).x ≡ slice_index honest.wires wire
set_value task t wire stated whole honest set =
    sym (value_at_place honest.view.carried.wires wire)
    ∙ one_on_set_wires 1 task.statement.program task.statement.public honest.given (values_of honest.view.carried.wires) honest.wires
    wire stated.program
    (subst (λ (l : List ℕ). Carries 1 task.statement.program task.statement.public l (values_of honest.view.carried.wires))
    (given_values task t whole honest) honest.seen.carried.values)
    honest.witness.solves.carried set

-- ---- no product has an error

right_product : (task : ProverTask) (t : Transcript) (product : Product) → IsStatement task.statement
    → IsTranscript task.file.params task.statement.program t → (honest : IsHonest task t)
    → IsProduct task.statement.program product → Multiplies honest.wires honest.given product
    → product_error (product_triple honest.view.carried product) ≡ 0
right_product task t product stated whole honest is multiplies =
    (λ i. set_value task t product.a stated whole honest is.left i *ₚ set_value task t product.b stated whole honest is.right i -ₚ value i)
    ∙ minus-self (slice_index honest.wires product.a *ₚ slice_index honest.wires product.b)
  where
    value : (pair_at honest.view.carried.given product.c).x ≡ slice_index honest.wires product.a *ₚ slice_index honest.wires product.b
    value = sym (value_at_place honest.view.carried.given product.c)
        ∙ ap (λ l. slice_index l product.c) (given_values task t whole honest)
        ∙ multiplies

-- nor has one of a section
right_section : (task : ProverTask) (t : Transcript) (size s : ℕ) → IsStatement task.statement
    → IsTranscript task.file.params task.statement.program t → (honest : IsHonest task t)
    → AllByRecursion (λ triple. product_error triple ≡ 0) (section_triples task.statement.program size honest.view.carried s)
right_section task t size s stated whole honest =
    recursion_from_All (λ triple. product_error triple ≡ 0) (section_triples task.statement.program size honest.view.carried s)
    (All-map (λ triple. product_error triple ≡ 0) (product_triple honest.view.carried) (section_of size s task.statement.program.products)
    (in_section (λ product. product_error (product_triple honest.view.carried product) ≡ 0) size s task.statement.program.products
    (λ n d below. right_product task t (get_or task.statement.program.products n d) stated whole honest
    (stated.program.products n d below) (honest.witness.solves.multiplied n d below))))

-- ---- the equations

-- every section of an honest prover holds
honest_section : (verifier : VerifierFile) (task : ProverTask) (t : Transcript) (keys : WireKeys) (s : ℕ)
    → IsTranscript task.file.params task.statement.program t → (honest : IsHonest task t)
    → AreBothEnds task.file verifier task.statement t.commitment honest.view keys
    → s < section_count task.statement.program t.commitment.setup.grant.section_length
    → SectionHolds (session_products verifier task.statement t keys) s
honest_section verifier task t keys s whole honest both below =
    left_side task.file verifier task.statement t honest.view keys both size s
    ∙ honest_section_holds verifier.key t.challenge (section_triples task.statement.program size honest.view.carried s)
    (pair_at (view_masks task.statement.program honest.view) s) (right_section task t size s both.stated whole honest)
    ∙ ap (section_right verifier.key) (sym sums_at)
  where
    size : ℕ
    size = t.commitment.setup.grant.section_length

    part : ℕ → ℕ × ℕ
    part k = honest_sums t.challenge (section_triples task.statement.program size honest.view.carried k)
        (pair_at (view_masks task.statement.program honest.view) k)

    sums_at : slice_index_or t.sums s (0, 0) ≡ part s
    sums_at = ap (λ l. slice_index_or l s (0, 0)) honest.sums
        ∙ get_or-map-range_with_len part 0 (section_count task.statement.program size) s s (0, 0) below (omega arith)

-- every opened wire of an honest prover opens
honest_opening : (verifier : VerifierFile) (task : ProverTask) (t : Transcript) (keys : WireKeys) (o : ℕ)
    → IsTranscript task.file.params task.statement.program t → (honest : IsHonest task t)
    → map (slice_index honest.wires) task.statement.program.opened ≡ task.statement.claims
    → AreBothEnds task.file verifier task.statement t.commitment honest.view keys
    → o < length task.statement.program.opened
    → OpeningHolds (session_openings verifier task.statement t keys) o
honest_opening verifier task t keys o whole honest say both below =
    wire_fits task.file verifier task.statement t.commitment honest.view keys both wire set
    ∙ (λ i. sym mac i +ₚ value i *ₚ verifier.key)
  where
    wire : ℕ
    wire = slice_index task.statement.program.opened o

    set : IsSetInAll task.statement.program (slice_index task.statement.program.opened o)
    set = both.stated.program.opened o 0 below

    mac : slice_index t.openings o ≡ (pair_at honest.view.carried.wires (slice_index task.statement.program.opened o)).m
    mac = ap (λ l. slice_index l o) honest.openings
        ∙ mac_at_place (opened_pairs task.statement.program honest.view.carried) o
        ∙ ap (λ pair. pair.m) (opened_pair task.statement.program honest.view o below)

    value : (pair_at honest.view.carried.wires (slice_index task.statement.program.opened o)).x ≡ slice_index task.statement.claims o
    value = set_value task t (slice_index task.statement.program.opened o) both.stated whole honest set
        ∙ sym (get_or-map (slice_index honest.wires) task.statement.program.opened o 0 0 below)
        ∙ ap (λ l. slice_index l o) say

-- all sections and all opened wires hold
pub honest_session_holds : HonestSessionHolds
honest_session_holds verifier task t keys stated element whole honest say fit carried = (
  λ s below. honest_section verifier task t keys s whole honest both below,
  λ o below. honest_opening verifier task t keys o whole honest say both below,
)
  where
    both : AreBothEnds task.file verifier task.statement t.commitment honest.view keys
    both = record { element = element; stated = stated; seen = honest.seen; fit = fit; carried = carried }
