use Rattle.std.proofs.Common.{inl, inr, refl, subst, sym}
use Rattle.field_program.specs.Slotting.{EndsOperands}
use Rattle.field_program.proofs.slots.Slots.end_operands.Goals as goal

pub returns-in_ok-end-in-Two-2 : goal.returns-in_ok-end-in-Two-2
returns-in_ok-end-in-Two-2 c =
    subst (λ operands. EndsOperands c.args.n operands c.args.ends.now c.args.self.now c.end-then-b-a.new.self) (sym c.in-Two.is)
    (c.end-in-Two.new.self, c.in_ok-end-in-Two.ensures, inr (λ same. c.if-b-a.true (sym same), c.in_ok-end-in-Two-2.ensures))

pub returns-else-b-a : goal.returns-else-b-a
returns-else-b-a c =
    subst (λ operands. EndsOperands c.args.n operands c.args.ends.now c.args.self.now c.end-in-Two.new.self) (sym c.in-Two.is)
    (c.end-in-Two.new.self, c.in_ok-end-in-Two.ensures, inl (sym c.if-b-a.false, refl))
