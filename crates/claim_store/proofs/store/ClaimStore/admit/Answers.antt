use Rattle.std.proofs.Common.{◌≡◌, ◌+◌, ◌<◌, ◌≤◌, inl, inr, ℕ, length, None, ap, sym, ◌∙◌, subst, arith, rules}
use Rattle.lease_core.specs.Spans.{span}
use Rattle.claim_store.specs.Claims.{first_met}
use Rattle.claim_store.specs.Causes.{IsFree}
use Rattle.claim_store.specs.Ranges.{with_span}
use Rattle.claim_store.proofs.Claiming.{MayStand, few_of, more_of, stand_free}
use Rattle.claim_store.proofs.store.ClaimStore.admit.Goals.{else-used-slots-via-then-used-slots+else-count_with-slots, else-used-slots-via-else-used-slots}
use Rattle.claim_store.proofs.store.ClaimStore.admit.Given.{Over}
use Rattle.claim_store.proofs.store.ClaimStore.admit.Goals.{After-slots-slots}
use Rattle.claim_store.proofs.store.ClaimStore.admit.Goals as goal

-- the span ends at or below the total, and meets no claim
module _ (g : Over) (c : After-slots-slots g) where
  wide : c.from-count.result ≡ c.args.count
  wide = search rules

  none : first_met (span c.args.start (c.args.start + c.args.count)) c.self.inside.claims.items ≡ None
  none =
      subst (λ n. first_met (span c.args.start (c.args.start + n)) c.self.inside.claims.items ≡ None) wide
      (subst (λ l. first_met (span c.args.start (c.args.start + c.from-count.result)) l ≡ None) c.deref.ensures.value (sym c.first_met.ensures ∙ c.in_default.is))

  low : c.args.start + c.args.count ≤ c.self.inside.total
  low = omega (arith, c.if-start-total.false, c.if-count-total.false, wide)

  may : MayStand c.self.inside.total c.self.inside.claims.items (span c.args.start (c.args.start + c.args.count))
  may = stand_free c.self.inside.total c.args.start c.args.count c.self.inside.claims.items c.requires low none

pub returns-then-count_with-slots-clause-refused : goal.returns-then-count_with-slots-clause-refused
returns-then-count_with-slots-clause-refused g c =
    let i = c.self.invariant in
    let j = c.self.inside.journal in
    let claims = c.self.inside.claims.items in
    let at = (goal.at.returns-then-count_with-slots-clause-refused g c).After-slots-slots in
    let count : c.count_with.result ≡ length (with_span (span c.args.start (c.args.start + c.args.count)) claims) =
    subst (λ n. c.count_with.result ≡ length (with_span (span c.args.start (c.args.start + n)) claims)) (wide g at)
    (subst (λ l. c.count_with.result ≡ length (with_span (span c.args.start (c.args.start + c.from-count.result)) l)) c.deref-then-used-slots.ensures.value c.count_with.ensures) in
    let more : j.slots < length (with_span (span c.args.start (c.args.start + c.args.count)) claims) =
    omega (arith, c.if-count_with-slots.true, count, c.slots-slots.ensures.slots) in
    rw (← c.self.view_is) (
      c.slots-slots.ensures.slots,
      omega (arith, c.fault-first.ensures, c.if-first-ne0.false),
      low g at,
      none g at,
      omega (arith, c.if-used-slots.true, c.used.ensures.used, c.slots-slots.ensures.slots),
      more_of c.self.inside.total claims (span c.args.start (c.args.start + c.args.count)) i.sound i.rising (may g at) j.slots more,
    )

pub returns-clause-free : goal.returns-clause-free
returns-clause-free g c =
    let i = c.self.invariant in
    let j = c.self.inside.journal in
    let claims = c.self.inside.claims.items in
    let at = (goal.at.returns-clause-free g c).After-slots-slots in
    let whole : j.fault ≡ 0 = omega (arith, c.fault-first.ensures, c.if-first-ne0.false) in
    let slots : c.slots-slots.result ≡ j.slots = c.slots-slots.ensures.slots in (
      ap (λ n. span c.args.start (c.args.start + n)) (wide g at),
      elim c.else-used-slots.branch as (λ _. IsFree c.args.self.now c.args.start c.args.count) [
        | else-used-slots-via-then-used-slots+else-count_with-slots w ↦
            (let count : w.count_with.result ≡ length (with_span (span c.args.start (c.args.start + c.args.count)) claims) =
            subst (λ n. w.count_with.result ≡ length (with_span (span c.args.start (c.args.start + n)) claims)) (wide g at)
            (subst (λ l. w.count_with.result ≡ length (with_span (span c.args.start (c.args.start + c.from-count.result)) l)) w.deref-then-used-slots.ensures.value w.count_with.ensures) in
            let few : length (with_span (span c.args.start (c.args.start + c.args.count)) claims) ≤ j.slots = omega (arith, w.if-count_with-slots.false, count, slots) in
            rw (← c.self.view_is) (record {
              whole = whole;
              within = low g at;
              apart = none g at;
              room = inr (few_of c.self.inside.total claims (span c.args.start (c.args.start + c.args.count)) i.sound i.rising (may g at) j.slots few);
            }))
        | else-used-slots-via-else-used-slots w ↦
            rw (← c.self.view_is) (record {
              whole = whole;
              within = low g at;
              apart = none g at;
              room = inl (different w.if-used-slots.false c.used.ensures.used c.used.ensures.within slots);
            })
      ],
    )
  where
    different : {result said used slots : ℕ} → (result ≡ said → ⊥) → result ≡ used → result ≤ slots → said ≡ slots → used < slots
    different other is within said_is = omega (arith, other, is, within, said_is)
