use Rattle.std.proofs.Common.{◌≡◌, ◌+◌, [], ◌++◌, All, vec_len}
use Rattle.lease_words.specs.Views.{taken_in}
use Rattle.lease_words.specs.Calls.{all_reports, all_entries, all_met_by}
use Rattle.lease_words.proofs.gathering.take_in.Given as goal

abbrev pub invariant-loop-pass : goal.invariant-loop-pass
invariant-loop-pass g l = record {
  own : (l.seat.table_id ≡ l.initial.seat.table_id) × (l.seat.id ≡ l.initial.seat.id);
  slots : l.seat.me.1 ≡ [];
  view : l.seat.me.0 ≡ taken_in l.initial.seat.me.0 l.seat.me.0.reports l.seat.me.0.entries l.seat.me.0.met;
  reports : all_reports l.passes.items ++ l.seat.me.0.reports ≡ all_reports l.initial.passes.items;
  entries : all_entries l.passes.items ++ l.seat.me.0.entries ≡ all_entries l.initial.passes.items;
  met : l.seat.me.0.met + all_met_by l.passes.items ≡ l.initial.seat.me.0.met + all_met_by l.initial.passes.items;
  passes : All (λ p. p.seat.table_id ≡ l.shared.table_id) l.passes.items;
}

abbrev pub decreases-loop-pass : goal.decreases-loop-pass
decreases-loop-pass g l = vec_len l.passes
