-- An honest prover whose values meet all constraints is accepted.
use Rattle.std.proofs.Common.{◌≡◌, ◌∙◌, ◌+◌, ◌-◌, ◌≤◌, ◌∷◌, [], List, ℕ, length, map, drop, refl, sym, ap, subst, arith}
use Rattle.std.specs.Prelude.{All}
use Rattle.std.proofs.lemmas.List.{length-map, length-take-le, length-drop}
use Rattle.std.proofs.lemmas.List.Elements.{All-head, All-rest}
use Rattle.zk_model.specs.Correlations.{span_keys}
use Rattle.zk_model.specs.Field.{IsElement}
use Rattle.zk_model.specs.Files.{ProverFile, VerifierFile}
use Rattle.zk_model.specs.Frames.{Frame, poly_sums}
use Rattle.zk_model.specs.HonestProver.{honest_corrections}
use Rattle.zk_model.specs.Mac.{Pair, AreKeysOf, fitting_key, corrected_keys, corrected_pairs, values_of}
use Rattle.zk_model.specs.Transcript.{Grant}
use Rattle.zk_model.specs.View.{span_of}
use Rattle.zk_model.specs.declared.Side.{Side}
use Rattle.mersenne_field.proofs.FieldLaws.{plus-minus}
use Rattle.poly_model.specs.Constraints.{AreMet, Constraints, degree}
use Rattle.poly_model.specs.ConstraintCheck.{Holds, honest_sums}
use Rattle.poly_laws.specs.Laws.{HonestSumsHold}
use Rattle.session_core.specs.declared.judgement.Judgement.{Judgement}
use Rattle.session_core.specs.declared.judgement.Judgement.TheVariants.{Accepted, RejectedOpening, RejectedSum}
use Rattle.poly_session.specs.PolyClaims.{PolyJudges, masks_of}
use Rattle.poly_session.specs.PolyWitnesses.{valued_pairs}
use Rattle.poly_session.proofs.Sound.{corrected_keys_fit, masks_fit}
use Rattle.claim_rehearsal.specs.Passed.{IsClaimPassed}
use Rattle.rehearse_poly.specs.PolyRuns.{poly_knowledge}

-- honest corrections make the pairs those of the values
valued : (values : List ℕ) (pairs : List Pair) → All IsElement values → corrected_pairs pairs (honest_corrections values pairs) ≡ valued_pairs values pairs
valued [] [] elements = refl
valued [] (pair ∷ pairs) elements = refl
valued (value ∷ values) [] elements = refl
valued (value ∷ values) (pair ∷ pairs) elements =
    λ i. record { x = plus-minus value pair.x (All-head IsElement value values elements) i; m = pair.m }
    ∷ valued values pairs (All-rest IsElement value values (value ∷ values) refl elements) i

-- whose values are these
values_are : (values : List ℕ) (pairs : List Pair) → length values ≤ length pairs → values_of (valued_pairs values pairs) ≡ values
values_are [] pairs enough = refl
values_are (value ∷ values) [] enough = absurd (omega (arith, enough))
values_are (value ∷ values) (pair ∷ pairs) enough = ap (λ l. value ∷ l) (values_are values pairs (omega (arith, enough)))

-- the check holds
honest_holds : (constraints : Constraints) (values : List ℕ) (pairs : List Pair) (keys : List ℕ) (key challenge : ℕ) → HonestSumsHold → 2 ≤ degree constraints
    → All IsElement values → length values ≡ constraints.variables → AreMet constraints values → AreKeysOf key pairs keys
    → constraints.variables + (degree constraints - 1) ≤ length keys
    → Holds constraints (corrected_keys key keys (honest_corrections values pairs)) key challenge (masks_of constraints keys)
    (honest_sums constraints (valued_pairs values pairs) challenge (masks_of constraints pairs))
honest_holds constraints values pairs keys key challenge law least elements counted met fit enough =
    let keyed : length keys ≡ length pairs = ap length fit ∙ length-map pairs (fitting_key key) in
    let behind = length-drop constraints.variables pairs in
    let masks : length (masks_of constraints pairs) + 1 ≡ degree constraints =
    omega (arith, least, keyed, enough, behind, length-take-le (degree constraints - 1) (drop constraints.variables pairs) (omega (arith, least, keyed, enough, behind))) in
    let corrected : corrected_keys key keys (honest_corrections values pairs) ≡ map (fitting_key key) (valued_pairs values pairs) =
    ap (λ l. corrected_keys key l (honest_corrections values pairs)) fit ∙ corrected_keys_fit key pairs (honest_corrections values pairs)
    ∙ ap (map (fitting_key key)) (valued values pairs elements) in
    let mask_keys : masks_of constraints keys ≡ map (fitting_key key) (masks_of constraints pairs) =
    ap (masks_of constraints) fit ∙ masks_fit constraints key pairs in
    let sums = honest_sums constraints (valued_pairs values pairs) challenge (masks_of constraints pairs) in
    subst (λ (q : List ℕ × List ℕ). Holds constraints q.0 key challenge q.1 sums) (λ i. (sym corrected i, sym mask_keys i))
    (law constraints (valued_pairs values pairs) (masks_of constraints pairs) challenge key masks
    (subst (AreMet constraints) (sym (values_are values pairs (omega (arith, keyed, enough, counted)))) met))

-- where the check holds, it is found to
found : (constraints : Constraints) (key : ℕ) (keys corrections : List ℕ) (challenge : ℕ) (sums : List ℕ) (judgement : Judgement)
    → Holds constraints (corrected_keys key keys corrections) key challenge (masks_of constraints keys) sums
    → PolyJudges constraints key keys corrections challenge sums judgement → judgement ≡ Accepted
found constraints key keys corrections challenge sums Accepted holds judged = refl
found constraints key keys corrections challenge sums (RejectedSum section left right) holds judged =
    absurd (judged.3 (judged.1 ∙ holds ∙ sym judged.2))
found constraints key keys corrections challenge sums (RejectedOpening output left right) holds judged = absurd judged

one_answer : (some other : List ℕ) (answers : List Frame) → answers ≡ poly_sums some ∷ [] → answers ≡ poly_sums other ∷ [] → some ≡ other
one_answer some other answers one two = let same : poly_sums some ∷ [] ≡ poly_sums other ∷ [] = sym one ∙ two in cc

pub accepted : (constraints : Constraints) (digest values : List ℕ) (prover : ProverFile) (verifier : VerifierFile) (given : Grant) (judgement : Judgement)
    (log : List (Side × ℕ)) → HonestSumsHold → 2 ≤ degree constraints → All IsElement values → length values ≡ constraints.variables
    → AreMet constraints values → IsClaimPassed (poly_knowledge constraints digest values) prover verifier given judgement log
    → judgement ≡ Accepted
accepted constraints digest values prover verifier given judgement log law least elements counted met passed =
    let s = passed.session in
    let keys = span_keys verifier (span_of s.setup.grant) in
    let fit : AreKeysOf verifier.key passed.pairs keys =
    subst (λ (g : Grant). AreKeysOf verifier.key passed.pairs (span_keys verifier (span_of g))) (sym passed.granted) passed.fits in
    let judged = passed.served.judged in
    let holds = honest_holds constraints values passed.pairs keys verifier.key s.exchange.challenge law least elements counted met fit passed.served.enough in
    let sums : honest_sums constraints (valued_pairs values passed.pairs) s.exchange.challenge (masks_of constraints passed.pairs) ≡ judged.0 =
    one_answer _ _ s.exchange.answers passed.honest.answers judged.1 in
    sym passed.judgement_is
    ∙ found constraints verifier.key keys s.exchange.corrections s.exchange.challenge judged.0 s.judgement
    (subst (λ (q : List ℕ × List ℕ). Holds constraints (corrected_keys verifier.key keys q.0) verifier.key s.exchange.challenge (masks_of constraints keys) q.1)
    (λ i. (sym passed.honest.corrections i, sums i)) holds)
    judged.2
