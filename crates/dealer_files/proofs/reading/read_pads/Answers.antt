use Rattle.dealer_files.specs.Reading.{both_pads}
use Rattle.dealer_files.proofs.ReadItems.{one_appended, two_16}
use Rattle.dealer_files.proofs.reading.read_pads.Goals as goal

pub loop-i-preserved : goal.loop-i-preserved
loop-i-preserved c =
    one_appended both_pads c.args.pads.now.items c.loop-i.pads.items c.push.new.self.items
    (record { left = c.bytes_at.result; right = c.bytes_at-in-loop-i.result }) c.loop-i.i c.args.bytes.now c.args.at
    c.in_ok-push.ensures.items
    (two_16 c.args.bytes.now _ c.bytes_at.result c.bytes_at-in-loop-i.result c.bytes_at.ensures.array c.bytes_at-in-loop-i.ensures.array)
    (c.bytes_at.ensures.octets, c.bytes_at-in-loop-i.ensures.octets) c.loop-i.invariant
