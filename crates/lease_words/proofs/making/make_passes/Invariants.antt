use Rattle.std.proofs.Common.{◌≡◌, [], length}
use Rattle.lease_words.specs.Views.{journal_of}
use Rattle.lease_words.specs.Calls.{AreFresh}
use Rattle.lease_words.proofs.making.make_passes.Given as goal

abbrev pub invariant-loop : goal.invariant-loop
invariant-loop g l = record {
  own : l.seat.table_id ≡ l.initial.seat.table_id;
  seat : l.seat.me ≡ (journal_of l.shared.key.keeper l.shared.key.bounds.base l.total l.counter, []);
  count : length l.made.items ≡ l.counter;
  fresh : AreFresh l.shared.table_id l.shared.key.bounds.base l.total l.made.items;
}
