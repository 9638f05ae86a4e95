use Rattle.std.proofs.Common.{sym, subst, length, ap, ◌∙◌, ℕ, List}
use Rattle.broker_core.specs.Safe.{IsCutOff}
use Rattle.broker_core.specs.Worlds.{WorldState, want_to, world_of}
use Rattle.broker_core.specs.declared.event.BrokerEvent.TheVariants as event
use Rattle.broker_core.specs.declared.message.Message.{Message}
use Rattle.broker_core.proofs.Stops.{served_off, whatever}
use Rattle.broker_core.proofs.Whole.{goes_whole, served_whole, want_fits}
use Rattle.broker_core.proofs.world.World.to_broker.Goals as goal

pub serve-requires-clause-fits : goal.serve-requires-clause-fits
serve-requires-clause-fits c =
    want_fits _ _ c.len.result c.args.i c.in-Some.want c.self.invariant c.deref.ensures.value (sym c.in-Some.ensures)

pub invariant_of-self : goal.invariant_of-self
invariant_of-self c = goes_whole _ _ _ _ c.self.invariant c.in_err-serve.ensures.goes c.in_err-serve.ensures.refused

pub invariant_of-self-2 : goal.invariant_of-self-2
invariant_of-self-2 c =
    let e = c.in_ok-serve.ensures in
    served_whole _ c.in-Some.want _ _ _ c.self.invariant
    (want_fits _ _ c.len.result c.args.i c.in-Some.want c.self.invariant c.deref.ensures.value (sym c.in-Some.ensures)) e.lease e.kept e.sent

pub returns-in_err-serve-clause-refused : goal.returns-in_err-serve-clause-refused
returns-in_err-serve-clause-refused c =
    let a = c.self.inside in
    let e = c.in_err-serve.ensures in
    let w : WorldState = world_of a.lease a.core a.nodes.items a.claims.items a.sent.items a.spent.items in
    let now : WorldState = world_of c.serve.new.lease c.serve.new.core a.nodes.items a.claims.items c.serve.new.sent.items a.spent.items in
    whatever c.from_residual.result (subst (λ (v : WorldState). IsCutOff v (event.ToBroker c.args.i) now) c.self.view_is
    (served_off w now c.args.i c.in-Some.want (ap (λ (xs : List Message). want_to xs (length a.nodes.items) c.args.i) (sym c.deref.ensures.value) ∙ ap (λ (n : ℕ). want_to c.deref.result.now n c.args.i) (sym a.nodes.ok.0 ∙ sym c.len.ensures) ∙ sym c.in-Some.ensures) e.stopped
    (λ i. world_of c.serve.new.lease (e.refused.0 i) a.nodes.items a.claims.items (e.refused.1 i) a.spent.items)))
