use Rattle.std.proofs.Common.{◌≡◌, ◌≤◌, ◌+◌, ◌-◌, ◌*◌, ℕ, length, get_or, take, drop, min, sym, ◌∙◌, arith, rules}
use Rattle.lease_journal.specs.Journals.{number_at}
use Rattle.lease_journal.proofs.Reading.{is_read, read_byte, read_body_at}
use Rattle.lease_journal.proofs.area.read_slot.Goals as goal

pub returns-clause-says : goal.returns-clause-says
returns-clause-says g c = λ bytes is.
    let whole : length c.read.new.buffer ≡ 32 = search rules in
    let count : c.in_ok-count.count ≡ min 32 (length bytes - (c.args.at + 32 * c.args.slot)) = search rules in
    let same : take c.in_ok-count.count c.read.new.buffer ≡ take c.in_ok-count.count (drop (c.args.at + 32 * c.args.slot) bytes) = search rules in
    let inside : c.args.at + 32 * c.args.slot + 32 ≤ length bytes = omega (arith, count, c.if-count-lt32.false, c.requires.starts bytes is) in
    let read = is_read c.read.new.buffer bytes (c.args.at + 32 * c.args.slot) 32 c.in_ok-count.count whole count same inside in
    let gate : get_or c.read.new.buffer 31 0 ≡ 90 = search rules in
    let pair : ◌≡◌ {A = ℕ × ℕ} (c.word_at.result, c.word_at-2.result) (number_at c.read.new.buffer 0, number_at c.read.new.buffer 8) = λ i. (c.word_at.ensures i, c.word_at-2.ensures i) in (
      sym (read_byte c.read.new.buffer bytes (c.args.at + 32 * c.args.slot) 32 read 31 (omega arith)) ∙ gate,
      pair ∙ read_body_at c.args.at c.read.new.buffer bytes c.args.slot 32 read (omega arith),
    )
