use Rattle.std.proofs.Common.{◌≡◌, ◌+◌, length, arith, subst, sym}
use Rattle.field_program.specs.Slotting.{AreSlotsUpTo, AreNoted}
use Rattle.field_program.proofs.Noted.{none_noted, one_noted}
use Rattle.field_program.proofs.slots.follow.Goals as goal

pub loop-k-init : goal.loop-k-init
loop-k-init c = record {
  slots = c.requires.first;
  noted = none_noted c.args.program.now c.args.first _ c.in_ok-steps.ensures.items;
}

pub loop-k-preserved : goal.loop-k-preserved
loop-k-preserved c = record {
  slots = c.in_ok-noted.ensures.after;
  noted = subst (AreNoted c.args.program.now (c.loop-k.k + 1) _) (sym c.in_ok-push.ensures.items)
      (one_noted c.args.program.now c.loop-k.k c.loop-k.slots _ c.loop-k.steps.items c.in_ok-noted.noted c.steps-k-end.ensures.held
      c.in_ok-noted.ensures.kept c.in_ok-noted.ensures.noted c.loop-k.invariant.noted);
}

pub returns : goal.returns
returns c =
    let end : c.loop-k.k ≡ length c.args.program.now.steps = omega (arith, c.loop-k-test.false, c.loop-k.auto.k-end, c.steps-k-end.ensures.count) in
    record {
      slots = subst (λ n. AreSlotsUpTo c.args.program.now c.args.ends.now n c.loop-k.slots) end c.loop-k.invariant.slots;
      noted = subst (λ n. AreNoted c.args.program.now n c.loop-k.slots c.loop-k.steps.items) end c.loop-k.invariant.noted;
    }
