use Rattle.std.proofs.Common.{refl, ap, ◌∙◌}
use Rattle.broker_core.specs.Worlds.{restarted, world_of}
use Rattle.broker_core.proofs.Whole.{restarted_is, restarted_whole}
use Rattle.broker_core.proofs.world.World.crash_broker.Goals as goal

pub invariant_of-self-2 : goal.invariant_of-self-2
invariant_of-self-2 c = restarted_whole _ _ _ c.args.gate c.self.invariant c.in_ok-restart.ensures.lease c.in_ok-restart.ensures.kept

pub returns-clause-taken : goal.returns-clause-taken
returns-clause-taken c =
    let w = c.self.inside in (
      refl,
      restarted_is (world_of w.lease w.core w.nodes.items w.claims.items w.sent.items w.spent.items) _ _ c.args.body c.args.gate
          c.in_ok-restart.ensures.lease c.in_ok-restart.ensures.kept
          ∙ ap (restarted c.args.body c.args.gate) c.self.view_is,
    )
