use Rattle.session_pool.specs.Works.{IsShiftOf}
use Rattle.session_pool.proofs.serving.serve_rest.Given as goal

abbrev pub invariant-rest : goal.invariant-rest
invariant-rest g l = IsShiftOf g.W.Shift.is_note g.W.Shift.granted g.W.Shift.refused g.W.Shift.size g.N.LeaseName.total
    (g.S.Session.is_note l.session) g.S.Session.granted g.S.Session.refused (g.S.Session.size l.session) (g.S.Session.total l.session)

abbrev pub decreases-rest : goal.decreases-rest
decreases-rest g l = l.doorway.wanted
