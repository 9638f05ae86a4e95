use Rattle.std.proofs.Common.{◌≡◌, ◌+◌, ◌≤◌, vec_len, vec_capacity}
use Rattle.session_pool.specs.Works.{AreBack}
use Rattle.session_pool.proofs.serving.take_all_back.Given as goal

abbrev pub invariant-loop-worker : goal.invariant-loop-worker
invariant-loop-worker g l = record {
  room : vec_len l.passes + vec_len l.workers ≤ vec_capacity l.passes;
  notes : g.W.Run.sessions ≤ vec_capacity l.notes;
  parts : l.all.parts + vec_len l.workers ≡ l.fn.all.parts + vec_len l.fn.workers;
  each : vec_len l.passes + vec_len l.workers ≡ vec_len l.fn.workers;
  back : AreBack g.W.Shift.granted g.W.Shift.refused g.W.Shift.is_note g.W.Shift.fresh g.W.Shift.size
      g.N.LeaseName.table g.N.LeaseName.total l.passes.items l.all.amount l.notes.items;
}

abbrev pub decreases-loop-worker : goal.decreases-loop-worker
decreases-loop-worker g l = vec_len l.workers
