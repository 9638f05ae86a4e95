use Rattle.std.proofs.Common.{◌≡◌, arith, sym, ap, ◌∙◌, false}
use Rattle.lease_core.specs.Machine.{is_passed}
use Rattle.lease_core.proofs.Codes.{few_over, draw_bounded}
use Rattle.lease_core.proofs.state.State.draw.Goals as goal

pub overflow_add-end : goal.overflow_add-end
overflow_add-end c =
    let few = few_over _ _ _ _ _ c.self.invariant.0 in
    let total = c.self.invariant.1.total_low in
    let passes = c.self.invariant.1.passes_low in
    let n = c.from.ensures in
    let low = c.if-from-gt-MAX_UNITS.false in
    omega arith

pub invariant_of-self-2 : goal.invariant_of-self-2
invariant_of-self-2 c =
    let s = c.self.inside in
    let items = c.in_ok-push.ensures.items in
    let n = c.from.ensures in
    let high = c.if-from-gt-MAX_UNITS.false in
    let free : is_passed s.total c.args.pass s.drawn.items ≡ false = ap (λ x. is_passed s.total c.args.pass x) (sym c.deref.ensures.value) ∙ sym c.is_passed.ensures ∙ c.if-is_passed.false in
    (rw items (draw_bounded _ _ _ _ _ _ _ c.self.invariant.0 (omega arith) (omega arith) free), c.self.invariant.1)
