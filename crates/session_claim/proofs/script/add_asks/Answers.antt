use Rattle.std.proofs.Common.{◌-◌}
use Rattle.zk_model.specs.declared.Expect.TheVariants as expect
use Rattle.session_claim.proofs.Places.{place_more}
use Rattle.session_claim.proofs.script.add_asks.Goals as goal

pub loop-i-preserved : goal.loop-i-preserved
loop-i-preserved c =
    place_more (λ k. expect.Ask c.args.height c.args.trees (c.args.count - k)) c.args.places.now.items c.loop-i.places.items c.add.new.places.items c.loop-i.i
    c.loop-i.invariant c.in_ok-add.ensures
