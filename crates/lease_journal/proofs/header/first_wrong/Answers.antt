use Rattle.std.proofs.Common.{◌≡◌, false, below_more, sym, ◌∙◌}
use Rattle.lease_journal.specs.Headers.{is_wrong_beside}
use Rattle.lease_journal.proofs.header.first_wrong.Goals as goal

pub returns-then-is_wrong : goal.returns-then-is_wrong
returns-then-is_wrong c = (c.loop-place-test.true, sym c.is_wrong.ensures ∙ c.if-is_wrong.true, c.loop-place.invariant.right)

pub loop-place-preserved : goal.loop-place-preserved
loop-place-preserved c = record {
  right = below_more (λ place. is_wrong_beside c.args.wanted.now c.args.fits c.args.header.now place ≡ false) c.loop-place.place c.loop-place.invariant.right
      (sym c.is_wrong.ensures ∙ c.if-is_wrong.false);
}
