use Rattle.std.proofs.Common.{◌≡◌, ◌+◌, ◌-◌, ◌<◌, ◌∙◌, arith, get_or, ap, sym}
use Rattle.std.proofs.lemmas.List.{get_or_default}
use Rattle.field_program.specs.Counts.{unchecked}
use Rattle.wire_auth.proofs.Making.{can_be_made, given_input, given_at}
use Rattle.wire_auth.proofs.corrections.given_at.Goals as goal

pub returns-then-i-unchecked-clause-value : goal.returns-then-i-unchecked-clause-value
returns-then-i-unchecked-clause-value c =
    c.known.ensures.unchanged
    ∙ c.index-values-public.is
    ∙ ap (λ n. get_or c.args.values.now (n + c.args.i) c.index-values-public.result) c.public.ensures.count
    ∙ get_or_default c.args.values.now (c.args.program.now.public + c.args.i) c.index-values-public.result 0
    (let few = (can_be_made c.args.program.now c.public.ensures.held).inputs in
    omega (arith, below, few, c.public.ensures.held.formed.first, c.requires.values))
    ∙ sym (given_input c.args.program.now c.args.values.now c.args.i below)
  where
    below : c.args.i < unchecked c.args.program.now
    below = omega (arith, c.if-i-unchecked.true, c.unchecked-unchecked.ensures.count)

pub returns-else-i-unchecked-clause-value : goal.returns-else-i-unchecked-clause-value
returns-else-i-unchecked-clause-value c =
    c.given_value.ensures.value
    ∙ sym (given_at c.args.program.now c.args.values.now (c.args.i - c.unchecked-unchecked.result) c.args.i c.product.result c.product.ensures.product number)
  where
    number : c.args.i ≡ unchecked c.args.program.now + (c.args.i - c.unchecked-unchecked.result)
    number = omega (arith, c.if-i-unchecked.false, c.unchecked-unchecked.ensures.count)
