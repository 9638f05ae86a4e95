-- The equations of sections, tested one after another.
use Rattle.std.proofs.Common.{◌≡◌, ◌≢◌, ℕ, ◌+◌, ◌<◌, ◌≤◌, List, [], ◌∷◌, ◌++◌, length, map, get_or, ap, refl, sym, ◌∙◌, subst, arith, inl, inr, ◌⊎◌}
use Rattle.std.specs.Prelude.{Result, Ok, Err, IfErr, IsErrAnd}
use Rattle.std.proofs.Math.Nat.{eq-or-lt_of_le}
use Rattle.std.proofs.lemmas.List.{get_or_read}
use Rattle.std.proofs.lemmas.List.FromFn.{get_or-map-range_with_len, length-map-range_with_len, map-range_with_len_more}
use Rattle.zk_model.specs.Program.{section_count}
use Rattle.zk_model.specs.Check.{KeyTriple, key_triple, section_of, ProductCheck, AllBelow, SectionHolds, left_of_section, right_of_section, section_left, section_right, section_keys}
use Rattle.wire_auth.specs.Sides.{VerifierSide}
use Rattle.mult_check.specs.Parts.{KeySum, IsSumOf}
use Rattle.mult_check.specs.Checks.{product_check, left_sides, all_left_sides, SectionDiffersFirst}
use Rattle.mult_check.specs.declared.sections.Differs.{Differs}
use Rattle.mult_check.specs.declared.fault.StreamFault.{StreamFault}
use Rattle.mult_check.specs.declared.fault.StreamFault.TheVariants as stream
use Rattle.mult_check.proofs.Streaming.{section_of_walk}

-- the left side of the equation of a section, from what was read of its mask's key and the sum over the section that begins with none
left_summed : (check : ProductCheck) (s : ℕ) (none part : KeySum) (mask left : ℕ) → s < length check.masks → mask ≡ get_or check.masks s mask
    → IsSumOf check.key check.challenge [] none → IsSumOf none.key none.challenge (section_keys check.program check.section_length check.keys s) part
    → ((key challenge : ℕ) (triples : List KeyTriple) → IsSumOf key challenge triples part → left ≡ section_left key challenge triples mask)
    → left_of_section check s ≡ left
left_summed check s none part mask left masked mask_is begun over gives =
    sym (is ∙ ap (section_left check.key check.challenge triples) (get_or_read check.masks s mask masked mask_is 0))
  where
    triples : List KeyTriple
    triples = section_keys check.program check.section_length check.keys s

    is : left ≡ section_left check.key check.challenge triples mask
    is = gives check.key check.challenge triples
        (subst (λ n. IsSumOf n check.challenge triples part) begun.key_is (subst (λ n. IsSumOf none.key n triples part) begun.challenge_is over))

-- the right side, from the sums that were read
right_read : (check : ProductCheck) (s key : ℕ) (sums : List (ℕ × ℕ)) (sent : ℕ × ℕ) → check.key ≡ key → check.sums ≡ sums → s < length sums
    → sent ≡ get_or sums s sent → right_of_section check s ≡ section_right key sent
right_read check s key sums sent one are summed sent_is =
    (λ i. section_right (one i) (get_or (are i) s (0, 0))) ∙ sym (ap (section_right key) (get_or_read sums s sent summed sent_is (0, 0)))

-- both
pub section_summed : (check : ProductCheck) (s : ℕ) (none part : KeySum) (mask left : ℕ) (sent : ℕ × ℕ) → s < length check.masks → s < length check.sums
    → mask ≡ get_or check.masks s mask → sent ≡ get_or check.sums s sent → IsSumOf check.key check.challenge [] none
    → IsSumOf none.key none.challenge (section_keys check.program check.section_length check.keys s) part
    → ((key challenge : ℕ) (triples : List KeyTriple) → IsSumOf key challenge triples part → left ≡ section_left key challenge triples mask)
    → (left_of_section check s ≡ left) × (right_of_section check s ≡ section_right check.key sent)
section_summed check s none part mask left sent masked summed mask_is sent_is begun over gives = (
  left_summed check s none part mask left masked mask_is begun over gives,
  right_read check s check.key check.sums sent refl refl summed sent_is,
)

-- the same of a walk
pub section_walked : (side old : VerifierSide) (g s key challenge : ℕ) (masks : List ℕ) (sums : List (ℕ × ℕ)) (none part : KeySum) (mask left : ℕ) (sent : ℕ × ℕ)
    → side ≡ old → s < length masks → s < length sums → mask ≡ get_or masks s mask → sent ≡ get_or sums s sent → IsSumOf key challenge [] none
    → IsSumOf none.key none.challenge (section_of g s (map (key_triple side.keys) side.program.products)) part
    → ((key challenge : ℕ) (triples : List KeyTriple) → IsSumOf key challenge triples part → left ≡ section_left key challenge triples mask)
    → (left_of_section (product_check old g challenge masks key sums) s ≡ left)
    × (right_of_section (product_check old g challenge masks key sums) s ≡ section_right key sent)
section_walked side old g s key challenge masks sums none part mask left sent same masked summed mask_is sent_is begun over =
    section_summed (product_check old g challenge masks key sums) s none part mask left sent masked summed mask_is sent_is begun
    (subst (λ (l : List KeyTriple). IsSumOf none.key none.challenge l part)
    (section_of_walk (λ (at : VerifierSide). key_triple at.keys) (λ (at : VerifierSide). at.program.products) side old g s same) over)

-- one section more holds
pub one_holds : (check : ProductCheck) (s left right : ℕ) → (left_of_section check s ≡ left) × (right_of_section check s ≡ right) → left ≡ right
    → AllBelow s (SectionHolds check) → AllBelow (s + 1) (SectionHolds check)
one_holds check s left right (of_left, of_right) same far i below = at (eq-or-lt_of_le (within i s below))
  where
    within : (i s : ℕ) → i < s + 1 → i ≤ s
    within i s below = omega arith

    at : (i ≡ s) ⊎ (i < s) → SectionHolds check i
    at (inl is) = subst (SectionHolds check) (sym is) (of_left ∙ same ∙ sym of_right)
    at (inr before) = far i before

-- a section is the first whose sides differ
pub differs_first : (check : ProductCheck) (s left right : ℕ) (differs : Differs) → s < section_count check.program check.section_length
    → (left_of_section check s ≡ left) × (right_of_section check s ≡ right) → left ≢ right
    → differs ≡ record { section = s; left = left; right = right }
    → AllBelow s (SectionHolds check) → SectionDiffersFirst check differs
differs_first check s left right differs within (of_left, of_right) apart is far = subst (SectionDiffersFirst check) (sym is) (record {
  first = record {
    below = within;
    fails = λ same. apart (sym of_left ∙ same ∙ of_right);
    before = far;
  };
  left = sym of_left;
  right = sym of_right;
})

held : Differs → StreamFault → Differs
held other (stream.Differs differs) = differs
held other stream.NoMemory = other

-- what an error is
pub on_err : {T E : Type 0} (P : E → Type 0) (result : Result T E) (fault : E) → IsErrAnd result (λ e. e ≡ fault) → P fault → IfErr result P
on_err P (Ok value) fault is holds = absurd is
on_err P (Err e) fault is holds = subst P (sym is) holds

-- no other fault says that sides differ
pub differs_only : {T : Type 0} (result : Result T StreamFault) (check : ProductCheck) (differs : Differs) → IsErrAnd result (λ fault. fault ≡ stream.Differs differs)
    → SectionDiffersFirst check differs → IfErr result (λ fault. (d : Differs) → fault ≡ stream.Differs d → SectionDiffersFirst check d)
unfolding held
differs_only (Ok value) check differs is first = absurd is
differs_only (Err fault) check differs is first = λ d same. subst (SectionDiffersFirst check) (ap (held differs) (sym is ∙ same)) first

-- ---- left sides alone

-- one left side more, of a walk
pub left_more : (side old : VerifierSide) (g s key challenge : ℕ) (masks : List ℕ) (none part : KeySum) (mask left : ℕ) (before after : List ℕ)
    → side ≡ old → s < length masks → mask ≡ get_or masks s mask → IsSumOf key challenge [] none
    → IsSumOf none.key none.challenge (section_of g s (map (key_triple side.keys) side.program.products)) part
    → ((key challenge : ℕ) (triples : List KeyTriple) → IsSumOf key challenge triples part → left ≡ section_left key challenge triples mask)
    → after ≡ before ++ left ∷ [] → before ≡ left_sides (product_check old g challenge masks key []) s
    → after ≡ left_sides (product_check old g challenge masks key []) (s + 1)
left_more side old g s key challenge masks none part mask left before after same masked mask_is begun over gives pushed far =
    pushed ∙ (λ i. far i ++ sym left_is i ∷ []) ∙ sym (map-range_with_len_more (λ s. left_of_section check s) 0 s s (omega arith))
  where
    check : ProductCheck
    check = product_check old g challenge masks key []

    left_is : left_of_section check s ≡ left
    left_is = left_summed check s none part mask left masked mask_is begun
        (subst (λ (l : List KeyTriple). IsSumOf none.key none.challenge l part)
        (section_of_walk (λ (at : VerifierSide). key_triple at.keys) (λ (at : VerifierSide). at.program.products) side old g s same) over) gives

-- as many as sections
pub left_count : (check : ProductCheck) (n : ℕ) (sides : List ℕ) → sides ≡ left_sides check n → length sides ≡ n
left_count check n sides are = ap length are ∙ length-map-range_with_len (λ s. left_of_section check s) 0 n

-- both sides of the equation of a section, from what was read of all left sides and sums
pub section_read : (check : ProductCheck) (sides : List ℕ) (sums : List (ℕ × ℕ)) (s key left : ℕ) (sent : ℕ × ℕ) → sides ≡ all_left_sides check
    → check.key ≡ key → check.sums ≡ sums → s < length sides → s < length sums → left ≡ get_or sides s left → sent ≡ get_or sums s sent
    → (left_of_section check s ≡ left) × (right_of_section check s ≡ section_right key sent)
section_read check sides sums s key left sent are one sums_are within summed left_is sent_is = (
  sym (left_is ∙ ap (λ l. get_or l s left) are ∙ get_or-map-range_with_len (λ s. left_of_section check s) 0 count s s left (omega (arith, within, counted)) (omega arith)),
  right_read check s key sums sent one sums_are summed sent_is,
)
  where
    count : ℕ
    count = section_count check.program check.section_length

    counted : length sides ≡ count
    counted = left_count check count sides are
