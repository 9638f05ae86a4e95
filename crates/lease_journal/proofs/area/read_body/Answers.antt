use Rattle.std.proofs.Common.{◌≡◌, ◌+◌, ◌-◌, ◌*◌, length, take, drop, min, ◌∙◌, arith, rules}
use Rattle.lease_journal.proofs.Reading.{is_read, read_body_at}
use Rattle.lease_journal.proofs.area.read_body.Goals as goal

pub returns-clause-body : goal.returns-clause-body
returns-clause-body g c = λ bytes is inside.
    let whole : length c.read.new.buffer ≡ 16 = search rules in
    let count : c.in_ok-read.field-0 ≡ min 16 (length bytes - (c.args.at + 32 * c.args.slot)) = search rules in
    let same : take c.in_ok-read.field-0 c.read.new.buffer ≡ take c.in_ok-read.field-0 (drop (c.args.at + 32 * c.args.slot) bytes) = search rules in
    c.body_of.ensures ∙ read_body_at c.args.at c.read.new.buffer bytes c.args.slot 16 (is_read c.read.new.buffer bytes (c.args.at + 32 * c.args.slot) 16 c.in_ok-read.field-0 whole count same inside) (omega arith)
