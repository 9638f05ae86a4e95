use Rattle.std.proofs.Common.{◌≡◌, ◌-◌, length, take, drop, min, arith, rules}
use Rattle.lease_journal.proofs.Reading.{is_read}
use Rattle.lease_journal.proofs.header.read_whole.Goals as goal

pub returns-clause-read : goal.returns-clause-read
returns-clause-read g c = λ bytes is.
    let whole : length c.read.new.buffer ≡ 64 = search rules in
    let count : c.in_ok-count.count ≡ min 64 (length bytes - c.args.begin) = search rules in
    let same : take c.in_ok-count.count c.read.new.buffer ≡ take c.in_ok-count.count (drop c.args.begin bytes) = search rules in
    is_read c.read.new.buffer bytes c.args.begin 64 c.in_ok-count.count whole count same (omega (arith, count, c.if-count-lt64.false))
