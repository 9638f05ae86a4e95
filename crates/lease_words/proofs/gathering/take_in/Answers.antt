use Rattle.std.proofs.Common.{◌≡◌, ap, ◌∙◌, arith}
use Rattle.lease_words.specs.Views.{after_join}
use Rattle.lease_words.specs.Calls.{seen, entries_of}
use Rattle.lease_words.proofs.OneFault.{join_met}
use Rattle.lease_words.proofs.Taking.{taken_more, view_more, all_split, met_more}
use Rattle.lease_words.proofs.gathering.take_in.Goals as goal

pub join_seat-requires : goal.join_seat-requires
join_seat-requires g c =
    let v = c.loop-pass.invariant in
    let three = c.requires.own.1 in
    let pass = c.in-Some.pass in
    let items = c.in-Some.ensures.items in
    (v.own.0 ∙ c.requires.own.0, (all_split (λ p. p.seat.table_id ≡ c.args.shared.now.table_id) _ _ _ items v.passes).1, pass.is_pass.slots, omega arith, join_met g.K.Keeper.label g.K.Keeper.stores _ _ _ _ _ (ap (λ x. x.journal) v.view ∙ c.requires.journal.journal) pass.is_pass.view.0)

pub loop-pass-preserved : goal.loop-pass-preserved
loop-pass-preserved g c =
    let v = c.loop-pass.invariant in
    let j = c.join_seat.ensures in
    let pass = c.in-Some.pass in
    let items = c.in-Some.ensures.items in
    let me : c.join_seat.new.seat.me.0 ≡ after_join c.loop-pass.seat.me.0 c.in-Some.pass.seat.me.0 = ap (λ m. m.0) j.2 in
    record {
      own = (j.0 ∙ v.own.0, j.1 ∙ v.own.1);
      slots = ap (λ m. m.1) j.2 ∙ v.slots;
      view = view_more c.args.seat.now.me.0 c.loop-pass.seat.me.0 c.in-Some.pass.seat.me.0 c.join_seat.new.seat.me.0 v.view me;
      reports = taken_more (λ p. (seen p).reports) _ _ pass _ _ _ items (ap (λ x. x.reports) me) v.reports;
      entries = taken_more entries_of _ _ pass _ _ _ items (ap (λ x. x.entries) me) v.entries;
      met = let more = met_more _ _ pass items in let here = ap (λ x. x.met) me in omega (arith, more, here, v.met);
      passes = (all_split (λ p. p.seat.table_id ≡ c.args.shared.now.table_id) _ _ _ items v.passes).0;
    }
