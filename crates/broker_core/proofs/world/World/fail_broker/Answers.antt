use Rattle.std.proofs.Common.{sym, subst, length, ap, ◌∙◌, ℕ, List}
use Rattle.broker_core.specs.declared.message.Message.{Message}
use Rattle.std.specs.Prelude.{IfOk, OnErr}
use Rattle.broker_core.specs.Safe.{IsCutOff, IsTaken}
use Rattle.broker_core.specs.Worlds.{WorldState, want_to, world_of}
use Rattle.broker_core.specs.declared.event.BrokerEvent.TheVariants as event
use Rattle.broker_core.proofs.Stops.{failed_off_result, failed_result}
use Rattle.broker_core.proofs.Whole.{want_fits}
use Rattle.broker_core.proofs.world.World.fail_broker.Goals as goal

pub lease_some-requires-clause-fits : goal.lease_some-requires-clause-fits
lease_some-requires-clause-fits c =
    want_fits _ _ c.len.result c.args.i c.in-Some.want c.self.invariant c.deref.ensures.value (sym c.in-Some.ensures)

pub returns-clause-taken : goal.returns-clause-taken
returns-clause-taken c =
    let a = c.self.inside in
    let w : WorldState = world_of a.lease a.core a.nodes.items a.claims.items a.sent.items a.spent.items in
    let e = c.lease_some.ensures in
    subst (λ (v : WorldState). IfOk c.lease_some.result (λ b. IsTaken v (event.BrokerFail c.args.i c.args.steps) b (record w { lease = c.lease_some.new.lease }))) c.self.view_is
    (failed_result w c.args.i c.args.steps c.in-Some.want (ap (λ (xs : List Message). want_to xs (length a.nodes.items) c.args.i) (sym c.deref.ensures.value) ∙ ap (λ (n : ℕ). want_to c.deref.result.now n c.args.i) (sym a.nodes.ok.0 ∙ sym c.len.ensures) ∙ sym c.in-Some.ensures) c.lease_some.result c.lease_some.new.lease e.enough e.taken e.few)

pub returns-clause-refused : goal.returns-clause-refused
returns-clause-refused c =
    let a = c.self.inside in
    let w : WorldState = world_of a.lease a.core a.nodes.items a.claims.items a.sent.items a.spent.items in
    subst (λ (v : WorldState). OnErr c.lease_some.result (IsCutOff v (event.BrokerFail c.args.i c.args.steps) (record w { lease = c.lease_some.new.lease }))) c.self.view_is
    (failed_off_result w c.args.i c.args.steps c.in-Some.want (ap (λ (xs : List Message). want_to xs (length a.nodes.items) c.args.i) (sym c.deref.ensures.value) ∙ ap (λ (n : ℕ). want_to c.deref.result.now n c.args.i) (sym a.nodes.ok.0 ∙ sym c.len.ensures) ∙ sym c.in-Some.ensures) c.lease_some.result c.lease_some.new.lease c.lease_some.ensures.refused)
