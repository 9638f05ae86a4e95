use Rattle.std.proofs.Common.{arith}
use Rattle.std.proofs.lemmas.List.Sums.{sum_by_more_le, sum_by-take-le}
use Rattle.status_command.specs.StatusRuns.{units_of}
use Rattle.status_command.proofs.Reporting.{units_rising}
use Rattle.status_command.proofs.used_units.units_in.Goals as goal

pub overflow_add-units : goal.overflow_add-units
overflow_add-units c =
    let ranges = c.args.ranges.now in
    let all = units_rising 0 c.args.total ranges c.requires.rising c.requires.claims.within in
    let part = sum_by_more_le units_of ranges c.loop-range.range-index (record { start = 0; end = 0 }) (omega arith) in
    let invariant = c.loop-range.invariant in
    omega (arith, all, part, invariant)

pub returns-clause-within : goal.returns-clause-within
returns-clause-within c =
    let ranges = c.args.ranges.now in
    let all = units_rising 0 c.args.total ranges c.requires.rising c.requires.claims.within in
    let part = sum_by-take-le units_of ranges c.loop-range.range-index in
    let invariant = c.loop-range.invariant in
    omega (arith, all, part, invariant)
