-- Masks: those of the sections, of all correlations after the given values.
use Rattle.std.proofs.Common.{◌≡◌, ℕ, ◌<◌, List, map, take, get_or, ap, sym, ◌∙◌, subst, arith}
use Rattle.std.specs.Prelude.{slice_index, slice_index_or}
use Rattle.std.specs.List.{range_with_len}
use Rattle.std.proofs.lemmas.List.{get_or-take}
use Rattle.std.proofs.lemmas.List.FromFn.{fill_by_all, get_or-map-range_with_len, length-map-range_with_len}
use Rattle.zk_model.specs.Mac.{Pair, pair_at}
use Rattle.zk_model.specs.Program.{Program, section_count}
use Rattle.zk_model.specs.Check.{WirePairs, ProductCheck, OpeningCheck, SectionHolds, honest_sums, section_triples, section_left, section_right, section_keys, left_of_section, all_sums}
use Rattle.zk_model.specs.View.{IsVerdictOf}
use Rattle.zk_model.specs.declared.Verdict.{Verdict}
use Rattle.zk_model.specs.declared.Verdict.TheVariants.{Accepted, RejectedSum, RejectedOpening}

-- sums take no more masks than there are sections
pub sums_of_few : (program : Program) (section_length challenge : ℕ) (pairs : WirePairs) (masks : List Pair)
    → all_sums program section_length challenge pairs (take (section_count program section_length) masks) ≡ all_sums program section_length challenge pairs masks
sums_of_few program section_length challenge pairs masks =
    fill_by_all (λ s. honest_sums challenge (section_triples program section_length pairs s) (pair_at masks s)) _ (section_count program section_length) (0, 0)
    (length-map-range_with_len few 0 (section_count program section_length)) at
  where
    few : ℕ → ℕ × ℕ
    few s = honest_sums challenge (section_triples program section_length pairs s) (pair_at (take (section_count program section_length) masks) s)

    at : (s : ℕ) → s < section_count program section_length
        → get_or (map few (range_with_len 0 (section_count program section_length))) s (0, 0)
        ≡ honest_sums challenge (section_triples program section_length pairs s) (pair_at masks s)
    at s below =
        get_or-map-range_with_len few 0 (section_count program section_length) s s (0, 0) below (omega arith)
        ∙ ap (honest_sums challenge (section_triples program section_length pairs s)) (get_or-take (section_count program section_length) masks s (record { x = 0; m = 0 }) below)

-- nor do the checks take more of their keys: the equations of the sections are the same
same_section : (check : ProductCheck) (masks : List ℕ) (s : ℕ) → check.masks ≡ take (section_count check.program check.section_length) masks
    → s < section_count check.program check.section_length
    → SectionHolds check s ≡ SectionHolds (record check { masks = masks }) s
same_section check masks s few below =
    let mask : slice_index check.masks s ≡ slice_index masks s =
    ap (λ (l : List ℕ). slice_index l s) few ∙ get_or-take (section_count check.program check.section_length) masks s 0 below in
    ap (λ m. section_left check.key check.challenge (section_keys check.program check.section_length check.keys s) m
    ≡ section_right check.key (slice_index_or check.sums s (0, 0))) mask

-- and so is the left side of each
pub left_of_few : (check : ProductCheck) (masks : List ℕ) (s : ℕ) → check.masks ≡ take (section_count check.program check.section_length) masks
    → s < section_count check.program check.section_length
    → left_of_section check s ≡ left_of_section (record check { masks = masks }) s
left_of_few check masks s few below =
    let mask : slice_index check.masks s ≡ slice_index masks s =
    ap (λ (l : List ℕ). slice_index l s) few ∙ get_or-take (section_count check.program check.section_length) masks s 0 below in
    ap (section_left check.key check.challenge (section_keys check.program check.section_length check.keys s)) mask

-- so is the verdict
pub verdict_of_few : (check : ProductCheck) (openings : OpeningCheck) (masks : List ℕ) (verdict : Verdict)
    → check.masks ≡ take (section_count check.program check.section_length) masks
    → IsVerdictOf check openings verdict → IsVerdictOf (record check { masks = masks }) openings verdict
verdict_of_few check openings masks Accepted few is =
    (λ s below. subst (λ (T : Type 0). T) (same_section check masks s few below) (is.0 s below), is.1)
verdict_of_few check openings masks (RejectedSum n) few is = record {
  below = is.below;
  fails = λ holds. is.fails (subst (λ (T : Type 0). T) (sym (same_section check masks n few is.below)) holds);
  before = λ s below. subst (λ (T : Type 0). T) (same_section check masks s few (omega (arith, below, is.below))) (is.before s below);
}
verdict_of_few check openings masks (RejectedOpening o) few is =
    (λ s below. subst (λ (T : Type 0). T) (same_section check masks s few below) (is.0 s below), is.1)
