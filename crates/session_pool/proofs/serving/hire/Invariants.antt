use Rattle.std.proofs.Common.{◌≡◌, ◌+◌, ◌<◌, ◌≤◌, All, vec_len, vec_capacity}
use Rattle.lease_store.specs.Leases.{IsPassAt}
use Rattle.session_pool.specs.Notes.{IsUnused}
use Rattle.session_pool.proofs.serving.hire.Given as goal

abbrev pub invariant-loop-pass : goal.invariant-loop-pass
invariant-loop-pass g l = record {
  own : All (IsPassAt g.N.LeaseName.table g.N.LeaseName.total) l.passes.items;
  fresh : g.W.Shift.fresh → All IsUnused l.passes.items;
  room : vec_len l.workers + vec_len l.passes ≤ vec_capacity l.workers;
  kept_room : vec_capacity l.passes ≡ vec_capacity l.fn.passes;
  hired : vec_len l.workers + vec_len l.passes ≡ vec_len l.fn.workers + vec_len l.fn.passes;
  some_parts : vec_len l.passes < l.all.parts;
  parts : l.all.parts + vec_len l.fn.passes ≡ l.fn.all.parts + vec_len l.passes;
  amount : l.all.amount ≡ 0;
}

abbrev pub decreases-loop-pass : goal.decreases-loop-pass
decreases-loop-pass g l = vec_len l.passes
