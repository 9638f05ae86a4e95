use Rattle.session_verifier.proofs.LogStores.{Settles}
use Rattle.session_verifier.proofs.service_logs.settle_each.Given as goal

-- the logs of the notes so far are settled
abbrev pub invariant-loop-note : goal.invariant-loop-note
invariant-loop-note g l = Settles l.prefix l.notes l.note-index (g.F.Shelf.state l.initial.shelf) (g.F.Shelf.state l.shelf) l.fn.before l.faults
