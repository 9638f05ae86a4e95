use Rattle.std.proofs.Common.{arith, length-append, length-drop, ap, length, drop}
use Rattle.std.specs.Fmt.{decimal}
use Rattle.circuit_gen.proofs.Numbers.{short_number}
use Rattle.circuit_gen.proofs.line.Line.put_number.Goals as goal

pub write_digits-self-inside-requires : goal.write_digits-self-inside-requires
write_digits-self-inside-requires c =
    let short = short_number c.from.result (omega arith) in
    let room = ap length c.self.view_is in
    (omega (arith, length-drop c.self.inside.start c.self.inside.bytes), omega arith)

pub returns-clause-length : goal.returns-clause-length
returns-clause-length c =
    let short = short_number c.from.result (omega arith) in
    let room = ap length c.self.view_is in
    omega (arith, ap length c.write_digits-self-inside.ensures.written, length-append (decimal c.from.result) (drop c.self.inside.start c.self.inside.bytes), room)
