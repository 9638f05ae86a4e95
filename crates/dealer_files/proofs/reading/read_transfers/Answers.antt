use Rattle.std.proofs.Common.{arith}
use Rattle.dealer_files.specs.Reading.{a_transfer}
use Rattle.dealer_files.proofs.ReadItems.{one_appended, bit_good, bit_and_pad}
use Rattle.dealer_files.proofs.reading.read_transfers.Goals as goal

pub loop-i-preserved : goal.loop-i-preserved
loop-i-preserved c = (
  one_appended a_transfer c.args.transfers.now.items c.loop-i.transfers.items c.push.new.self.items _ c.loop-i.i c.args.bytes.now c.args.at
      c.in_ok-push.ensures.items
      (bit_and_pad c.args.bytes.now _ c.bytes_at.result (omega arith) c.if-bit-gt1.false c.bytes_at.ensures.array)
      c.bytes_at.ensures.octets c.loop-i.invariant.0,
  bit_good c.args.bytes.now c.args.at c.loop-i.i (omega (arith, c.if-bit-gt1.false)) c.loop-i.invariant.1,
)
