use Rattle.std.proofs.Common.{◌≡◌, ℕ, List, Some, IfOk, ◌∙◌, subst}
use Rattle.lease_journal.proofs.Moments.{stays_then}
use Rattle.twin_journal.specs.Starts.{IsTwinOpened}
use Rattle.twin_journal.proofs.starting.open.Goals as goal

pub returns-in-Ok-clause-opened : goal.returns-in-Ok-clause-opened
returns-in-Ok-clause-opened g c =
    subst (λ content. IfOk c.open_at.result (λ o. (bytes : List ℕ) → content ≡ Some bytes
    → IsTwinOpened c.args.name.kind c.args.name.id c.args.name.total o.begin o.slots o.used o.last o.active.second o.active.generation o.active.other_open bytes))
    (c.find_begin.ensures.stays.content ∙ c.sync.ensures.stays.content) c.open_at.ensures.opened

pub returns-in-Ok-clause-stays : goal.returns-in-Ok-clause-stays
returns-in-Ok-clause-stays g c =
    stays_then (g.met.B.Disk.counts_now c.args.disk.now) c.sync.ensures.stays
    (stays_then (g.met.B.Disk.counts_now c.sync.new.self) c.find_begin.ensures.stays c.open_at.ensures.stays)
