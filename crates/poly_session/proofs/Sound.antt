-- What a check that holds shows of the pairs that the keys fit.
use Rattle.std.proofs.Common.{◌≡◌, ℕ, zero, suc, ◌+◌, ◌-◌, ◌≤◌, List, [], ◌∷◌, map, take, drop, length, refl, sym, ◌∙◌, ap, subst, arith}
use Rattle.std.proofs.lemmas.List.{length-map, length-take-le, length-drop}
use Rattle.zk_model.specs.Frames.{Frame, poly_sums}
use Rattle.zk_model.specs.Mac.{Pair, fitting_key, corrected_pairs, corrected_keys}
use Rattle.poly_model.specs.Constraints.{Constraints, degree}
use Rattle.poly_model.specs.ConstraintCheck.{Holds}
use Rattle.poly_laws.specs.Laws.{CheckShows}
use Rattle.session_claim.specs.Claims.{Exchange, AllowsEach, IsExchange, IsSound}
use Rattle.mersenne_field.proofs.FieldLaws.{corrected_key-fitting}
use Rattle.poly_session.specs.PolyClaims.{AnswersBy, masks_of, poly_claim}

-- keys that were corrected fit pairs that were
pub corrected_keys_fit : (key : ℕ) (pairs : List Pair) (ds : List ℕ)
    → corrected_keys key (map (fitting_key key) pairs) ds ≡ map (fitting_key key) (corrected_pairs pairs ds)
corrected_keys_fit key [] ds = refl
corrected_keys_fit key (pair ∷ pairs) [] = refl
corrected_keys_fit key (pair ∷ pairs) (d ∷ ds) = λ i. corrected_key-fitting key pair d i ∷ corrected_keys_fit key pairs ds i

take_map : {A B : Type 0} (f : A → B) (n : ℕ) (items : List A) → take n (map f items) ≡ map f (take n items)
take_map f zero items = refl
take_map f (suc n) [] = refl
take_map f (suc n) (item ∷ items) = ap (λ l. f item ∷ l) (take_map f n items)

drop_map : {A B : Type 0} (f : A → B) (n : ℕ) (items : List A) → drop n (map f items) ≡ map f (drop n items)
drop_map f zero items = refl
drop_map f (suc n) [] = refl
drop_map f (suc n) (item ∷ items) = drop_map f n items

pub masks_fit : (constraints : Constraints) (key : ℕ) (pairs : List Pair) → masks_of constraints (map (fitting_key key) pairs) ≡ map (fitting_key key) (masks_of constraints pairs)
masks_fit constraints key pairs =
    ap (take (degree constraints - 1)) (drop_map (fitting_key key) constraints.variables pairs)
    ∙ take_map (fitting_key key) (degree constraints - 1) (drop constraints.variables pairs)

-- the sums are as many as the degree
sums_counted : (constraints : Constraints) (digest : List ℕ) (exchange : Exchange) (sums : List ℕ) → IsExchange (poly_claim constraints digest) exchange → AnswersBy exchange sums
    → length sums ≡ degree constraints
sums_counted constraints digest exchange sums is answers = by_first exchange.answers answers is.answers
  where
    by_first : (frames : List Frame) → frames ≡ poly_sums sums ∷ []
        → AllowsEach ((poly_claim constraints digest).answers exchange.section_length) frames → length sums ≡ degree constraints
    by_first [] same each = cc
    by_first (frame ∷ frames) same each =
        let allowed = each.0 in
        let here : frame ≡ poly_sums sums = cc in
        let both : poly_sums allowed.0 ≡ poly_sums sums = sym allowed.1 ∙ here in
        let one : allowed.0 ≡ sums = cc in
        ap length (sym one) ∙ allowed.2.counted

pub poly_sound : (constraints : Constraints) (digest : List ℕ) → 2 ≤ degree constraints → CheckShows → IsSound (poly_claim constraints digest)
poly_sound constraints digest least shows key pairs keys exchange is fit enough whole judged =
    let sums = judged.0 in
    let counted : length keys ≡ length pairs = ap length fit ∙ length-map pairs (fitting_key key) in
    let behind = length-drop constraints.variables pairs in
    let masks : length (masks_of constraints pairs) + 1 ≡ degree constraints =
    omega (arith, least, counted, enough, behind, length-take-le (degree constraints - 1) (drop constraints.variables pairs) (omega (arith, least, counted, enough, behind))) in
    let values : corrected_keys key keys exchange.corrections ≡ map (fitting_key key) (corrected_pairs pairs exchange.corrections) =
    ap (λ l. corrected_keys key l exchange.corrections) fit ∙ corrected_keys_fit key pairs exchange.corrections in
    let mask_keys : masks_of constraints keys ≡ map (fitting_key key) (masks_of constraints pairs) =
    ap (masks_of constraints) fit ∙ masks_fit constraints key pairs in
    let holds = subst (λ (q : List ℕ × List ℕ). Holds constraints q.0 key exchange.challenge q.1 sums) (λ i. (values i, mask_keys i)) judged.2 in (
      sums,
      judged.1,
      shows constraints (corrected_pairs pairs exchange.corrections) (masks_of constraints pairs) exchange.challenge key sums masks
          (sums_counted constraints digest exchange sums whole judged.1) holds,
    )
