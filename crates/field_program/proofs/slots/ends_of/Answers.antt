use Rattle.std.proofs.Common.{◌≡◌, ◌+◌, ◌<◌, ℕ, length, get_or, set, arith, ap, subst, sym, ◌∙◌}
use Rattle.std.proofs.lemmas.List.{get_or_default}
use Rattle.zk_model.proofs.SetWires.{set_below}
use Rattle.field_program.proofs.Counts.{few_steps}
use Rattle.field_program.proofs.Ends.{one_opened, all_opened}
use Rattle.field_program.proofs.slots.ends_of.Goals as goal

pub overflow_cast-steps : goal.overflow_cast-steps
overflow_cast-steps c =
    let few = few_steps c.args.program.now c.steps.ensures.held.formed in omega (arith, few, c.steps.ensures.count, c.steps.ensures.held.wires)

pub overflow_add-steps : goal.overflow_add-steps
overflow_add-steps c =
    let few = few_steps c.args.program.now c.steps.ensures.held.formed in omega (arith, few, c.steps.ensures.count, c.steps.ensures.held.wires)

pub loop-wire-preserved : goal.loop-wire-preserved
loop-wire-preserved c =
    one_opened (length c.args.program.now.steps + 1) c.args.program.now.opened c.loop-wire.wire-index wire c.in_ok-ends.ends.items c.loop-wire.ends.items _ below at
    (subst (λ n. wire < n) (sym (c.loop-wire.invariant.whole ∙ c.in_ok-ends.ensures.whole)) inside)
    (ap (λ n. set c.loop-wire.ends.items wire (n + 1)) c.steps.ensures.count) c.loop-wire.invariant
  where
    wire : ℕ
    wire = get_or c.opened-wire-items.result.now c.loop-wire.wire-index 0

    below : c.loop-wire.wire-index < length c.args.program.now.opened
    below = let less = c.loop-wire-test.true in omega (arith, less, ap length c.opened-wire-items.ensures.opened)

    at : wire ≡ get_or c.args.program.now.opened c.loop-wire.wire-index wire
    at = ap (λ l. get_or l c.loop-wire.wire-index 0) c.opened-wire-items.ensures.opened
        ∙ get_or_default c.args.program.now.opened c.loop-wire.wire-index 0 wire below

    inside : wire < c.args.program.now.wires
    inside = subst (λ w. w < c.args.program.now.wires) (sym at)
        (set_below c.args.program.now (length c.args.program.now.steps) (get_or c.args.program.now.opened c.loop-wire.wire-index wire) c.steps.ensures.held.formed
        (c.steps.ensures.held.formed.opened c.loop-wire.wire-index wire below))

pub returns : goal.returns
returns c = all_opened c.args.program.now c.loop-wire.wire-index c.in_ok-ends.ends.items c.loop-wire.ends.items
    (let all = c.loop-wire-test.false in omega (arith, all, ap length c.opened-wire-items.ensures.opened)) c.in_ok-ends.ensures c.loop-wire.invariant
