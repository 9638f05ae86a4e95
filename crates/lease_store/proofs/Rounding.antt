-- The ceiling for an end.
use Rattle.std.proofs.Common.{◌≡◌, ◌<◌, ◌≤◌, ◌+◌, ◌*◌, ◌/◌, ◌%◌, ℕ, true, ⊎_elim, refl, ap, sym, ◌∙◌, subst, arith}
use Rattle.std.proofs.lemmas.Bool.Decides.{nat_tests}
use Rattle.std.proofs.lemmas.Bool.{cases_lt}
use Rattle.zk_model.specs.declared.JournalKind.TheVariants.{Ceilings}
use Rattle.lease_journal.specs.Journals.{keeps_rule}
use Rattle.lease_core.specs.Machine.{ceiling_for}

-- a ceiling that may follow the last one, and reaches an end
pub record IsRounded (total end last ceiling : ℕ) : Type 0 where
  pub reaches : end ≤ ceiling
  pub low : ceiling ≤ total
  pub above : last < ceiling
  pub rule : keeps_rule Ceilings total last (ceiling, 0) ≡ true

rounded_rule : (total end last : ℕ) → end ≤ total → last < end → keeps_rule Ceilings total last (ceiling_for total end, 0) ≡ true
rounded_rule total end last within below = ⊎_elim
    (λ short.
    let is : ceiling_for total end ≡ (end + 15) / 16 * 16 = omega (arith, short) in
    let whole : (end + 15) / 16 * 16 % 16 ≡ 0 = omega arith in
    let above : last < (end + 15) / 16 * 16 = omega (arith, below) in
    subst (λ n. keeps_rule Ceilings total last (n, 0) ≡ true) (sym is) (multiple ((end + 15) / 16 * 16) whole above (omega (arith, short))))
    (λ from.
    let is : ceiling_for total end ≡ total = omega (arith, from) in
    subst (λ n. keeps_rule Ceilings total last (n, 0) ≡ true) (sym is) (top total refl (omega (arith, below, within))))
    (cases_lt ((end + 15) / 16 * 16) total)
  where
    multiple : (n : ℕ) → n % 16 ≡ 0 → last < n → n ≤ total → keeps_rule Ceilings total last (n, 0) ≡ true
    multiple n whole above low = grind (arith, nat_tests)

    top : (n : ℕ) → n ≡ total → last < n → keeps_rule Ceilings total last (n, 0) ≡ true
    top n is above = grind (arith, nat_tests)

rounded : (total end last : ℕ) → end ≤ total → last < end → IsRounded total end last (ceiling_for total end)
rounded total end last within below = record {
  reaches = omega (arith, within);
  low = omega arith;
  above = omega (arith, within, below);
  rule = rounded_rule total end last within below;
}

-- the same of a ceiling that was computed by a total that is this one
pub rounded_to : (total end last ceiling known : ℕ) → ceiling ≡ ceiling_for known end → known ≡ total → end ≤ total → last < end → IsRounded total end last ceiling
rounded_to total end last ceiling known made same within below =
    subst (IsRounded total end last) (sym (made ∙ ap (λ t. ceiling_for t end) same)) (rounded total end last within below)
