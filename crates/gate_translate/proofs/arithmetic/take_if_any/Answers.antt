use Rattle.std.proofs.Common.{arith}
use Rattle.gate_translate.proofs.NoAssertions.{none_asserted}
use Rattle.gate_translate.proofs.arithmetic.take_if_any.Goals as goal

pub returns-then-steps-len-clause-steps : goal.returns-then-steps-len-clause-steps
returns-then-steps-len-clause-steps c =
    (none_asserted c.args.rules.now.items c.args.opened.now.items
    (omega (arith, c.requires, c.len.ensures, c.len-2.ensures, c.len-3.ensures, c.len-4.ensures, c.if-steps-len.true))).0

pub returns-then-steps-len-clause-opened : goal.returns-then-steps-len-clause-opened
returns-then-steps-len-clause-opened c =
    (none_asserted c.args.rules.now.items c.args.opened.now.items
    (omega (arith, c.requires, c.len.ensures, c.len-2.ensures, c.len-3.ensures, c.len-4.ensures, c.if-steps-len.true))).1
