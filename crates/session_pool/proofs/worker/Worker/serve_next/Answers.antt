use Rattle.session_pool.proofs.Works.{next_worker}
use Rattle.session_pool.proofs.worker.Worker.serve_next.Goals as goal

pub invariant_of-self-2 : goal.invariant_of-self-2
invariant_of-self-2 g c =
    next_worker _ _ _ _ _ _ _ _ _ _ _ _ c.self.inside.pass c.serve_one-note.new.pass _ _ _ _ c.self.inside.notes.items _ _ c.serve_one-note.result
    c.requires c.self.invariant c.serve_one-note.ensures.own c.serve_one-note.ensures.goes c.serve_one-note.ensures.served
    c.in-Some.ensures.parts c.in-Some.ensures.amount c.in-Some.ensures.notes c.push_reserved.ensures.items
