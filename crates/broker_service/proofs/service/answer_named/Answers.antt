use Rattle.std.proofs.Common.{ℕ, subst}
use Rattle.lease_store.specs.Leases.{IsClosed}
use Rattle.broker_service.specs.Left.{IsBrokered}
use Rattle.broker_service.proofs.Outcomes.{blocks_once, blocks_safe, journal_refuses}
use Rattle.broker_service.proofs.Whole.{brokered}
use Rattle.broker_service.proofs.service.answer_named.Given.{Over}
use Rattle.broker_service.proofs.service.answer_named.Goals as goal

-- what is left of it
left : (g : Over) (c : goal.After-close-disk g) → IsBrokered g.D.Link.Link.state g.B.Disk.state g.N.LeaseName.start (g.B.Disk.state c.close-disk.result) g.N.LeaseName.id
    c.args.parts.base g.N.LeaseName.total c.args.passes.items c.answer_from_none-stop.new.notes.items
left g c =
    brokered g.D.Link.Link.state g.B.Disk.state g.N.LeaseName.start (g.B.Disk.state c.close-disk.result) g.N.LeaseName.id c.args.parts.base g.N.LeaseName.total
    c.args.passes.items c.answer_from_none-stop.new.notes.items c.answer_from_none-stop.new.passes.items
    (λ k d l. (c.requires.own k d l).1) c.answer_from_none-stop.ensures.served
    (subst (λ (b : ℕ). IsClosed g.N.LeaseName.start (g.B.Disk.state c.close-disk.result) g.N.LeaseName.id b g.N.LeaseName.total c.answer_from_none-stop.new.passes.items)
    c.named-store.ensures.base c.close-disk.ensures)

pub returns-clause-left : goal.returns-clause-left
returns-clause-left g c = left g c

pub returns-clause-once : goal.returns-clause-once
returns-clause-once g c = blocks_once _ _ _ _ _ _ _ _ _ (left g c)

pub returns-clause-safe : goal.returns-clause-safe
returns-clause-safe g c = blocks_safe _ _ _ _ _ _ _ _ _ (left g c)

pub returns-clause-refused : goal.returns-clause-refused
returns-clause-refused g c = journal_refuses _ _ _ _ _ _ _ _ _ (left g c)
