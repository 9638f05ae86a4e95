use Rattle.std.proofs.Common.{◌<◌, ◌^◌, ℕ, ap, arith}
use Rattle.twin_journal.proofs.Opening.{last_ceiling}
use Rattle.twin_journal.proofs.starting.units_in.Goals as goal

pub returns-in-Ceilings-clause-units : goal.returns-in-Ceilings-clause-units
returns-in-Ceilings-clause-units g c = λ bytes is inside last_is.
    let small : c.args.scan.last.0 < 2 ^ 64 = omega arith in
    rw c.in-Ceilings.is (last_ceiling c.args.at c.args.scan.used bytes c.args.scan.last.0 (ap (λ (b : ℕ × ℕ). b.0) last_is) small)
