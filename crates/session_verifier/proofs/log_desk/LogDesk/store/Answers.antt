use Rattle.std.proofs.Common.{◌≡◌, ℕ, List, Option, Some, sym, ap, ◌∙◌, subst}
use Rattle.std.specs.Option.{option_map}
use Rattle.zk_port.specs.Changes.{change}
use Rattle.session_verifier.specs.ServiceLogs.{TriesLogs}
use Rattle.session_verifier.proofs.LogStores.{tries_more}
use Rattle.session_verifier.proofs.log_desk.LogDesk.store.Goals as goal

pub invariant_of-self : goal.invariant_of-self
invariant_of-self g c =
    let (shelf, notices, prefix, follows, desk) = c.self.invariant in
    let same : Some c.in-Some-Some.prefix.now ≡ g.W.Watch.prefix = sym (ap (option_map (λ p. p.now)) c.in-Some-Some.is-0) ∙ prefix in
    let old = g.F.Shelf.state c.self.inside.shelf.now in
    let new = g.F.Shelf.state c.store_log.new.shelf in (
      shelf,
      notices,
      prefix,
      follows,
      record {
        tried = subst (λ (p : Option (List ℕ)). TriesLogs p (change g.W.Watch.first new) c.store_log.new.faults.failed) same
            (tries_more c.in-Some-Some.prefix.now _ c.in-Some-Some.span.start g.W.Watch.first old new c.self.inside.faults c.store_log.new.faults
            (subst (λ (p : Option (List ℕ)). TriesLogs p (change g.W.Watch.first old) c.self.inside.faults.failed) (sym same) desk.tried)
            c.store_log.ensures);
        quiet = desk.quiet;
      },
    )
