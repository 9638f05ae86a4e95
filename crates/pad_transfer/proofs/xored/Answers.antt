use Rattle.std.proofs.Common.{◌∙◌, sym, arith}
use Rattle.pad_transfer.proofs.Masks.{xored_more, xored_all}
use Rattle.pad_transfer.proofs.xored.Goals as goal

pub loop-i-preserved : goal.loop-i-preserved
loop-i-preserved c =
    xored_more c.args.left.now c.args.right.now c.loop-i.bytes c.loop-i.i
    (omega (arith, c.told-left, c.loop-i-test.true, c.loop-i.invariant.long)) c.loop-i.invariant

pub returns : goal.returns
returns c =
    xored_all c.args.left.now c.args.right.now c.loop-i.bytes c.loop-i.i (c.told-right ∙ sym c.told-left) (omega arith) c.loop-i.invariant
