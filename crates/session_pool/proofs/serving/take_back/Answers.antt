use Rattle.std.proofs.Common.{◌≡◌, ◌+◌, ◌≤◌, true, arith, vec_len, vec_capacity}
use Rattle.std.specs.Prelude.{is_ok}
use Rattle.session_pool.proofs.Back.{one_back}
use Rattle.session_pool.proofs.serving.take_back.Goals as goal

pub returns-clause-back : goal.returns-clause-back
returns-clause-back g c =
    let w = c.worker.inside in
    let old = c.args.notes.now in
    let a = c.requires.back.counted in
    let b = c.worker.invariant.counted in
    let fits : vec_len old + vec_len w.notes ≤ vec_capacity old = omega (arith, a, b, old.ok.0, w.notes.ok.0, c.bound.ensures.bound, c.bound.ensures.amount, c.merge.ensures.amount, c.requires.notes) in
    let worked : is_ok c.append-moved.result ≡ true = c.append-moved.ensures.succeeds fits in
    one_back g.W.Shift.granted g.W.Shift.refused g.W.Shift.is_note g.W.Shift.fresh g.W.Shift.size g.N.LeaseName.table g.N.LeaseName.total
    c.args.passes.now.items c.push_reserved.new.self.items w.pass w.share.parts w.share.amount c.args.all.now.amount c.merge.new.self.amount c.bound.new.mine.amount old.items c.append-moved.new.self.items w.notes.items
    c.requires.back c.worker.invariant c.push_reserved.ensures.items c.merge.ensures.amount c.bound.ensures.amount (rw worked at c.append-moved.ensures.items)
