use Rattle.std.proofs.Common.{◌≡◌, ◌∷◌, length, rules}
use Rattle.std.specs.Prelude.{Ok}
use Rattle.std.specs.Vec.Iter.{into_iter_items}
use Rattle.round_fan.proofs.Adding.{none_added, one_added, all_added}
use Rattle.round_fan.proofs.rounds.add_all.Goals as goal

pub loop-block-init : goal.loop-block-init
loop-block-init g c start size first came begun are =
    let all_left : into_iter_items c.into_iter-block-iterator.result ≡ c.args.made.items = search rules in
    none_added (g.U.Rounds.Makes c.args.rounds.now) start size first came c.args.made.items (into_iter_items c.into_iter-block-iterator.result) c.args.all.now all_left begun

pub loop-block-preserved : goal.loop-block-preserved
loop-block-preserved g c start size first came begun are =
    let next : into_iter_items c.loop-block.block-iterator ≡ Ok c.in_ok-block.field-0 ∷ into_iter_items c.next.new.self = search rules in
    one_added (g.U.Rounds.Makes c.args.rounds.now) start size first came c.args.made.items (into_iter_items c.loop-block.block-iterator) (into_iter_items c.next.new.self)
    c.in_ok-block.field-0 c.loop-block.all c.add.new.all c.in_ok-add.ensures next are (c.loop-block.invariant start size first came begun are)

pub returns : goal.returns
returns g c start size first came begun are =
    let none : length (into_iter_items c.loop-block.block-iterator) ≡ 0 = search rules in
    all_added (g.U.Rounds.Makes c.args.rounds.now) start size first came c.args.made.items (into_iter_items c.loop-block.block-iterator) c.loop-block.all
    none are.all (c.loop-block.invariant start size first came begun are)
