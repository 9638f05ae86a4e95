use Rattle.std.proofs.Common.{◌+◌, ◌-◌, ◌*◌, ◌/◌, ◌%◌, nat_eq, get_or, refl, ◌∙◌, ap}
use Rattle.zk_model.specs.Bytes.{xor_bytes}
use Rattle.ggm_tree.proofs.Filled.{choice_is, filled_is}
use Rattle.ggm_tree.proofs.puncturing.fill_sibling.Goals as goal

pub returns-clause-filled : goal.returns-clause-filled
returns-clause-filled c =
    filled_is c.args.level c.args.height c.args.place c.from.result c.width-count.result
    ((c.args.place / 2 * 2 + c.from.result) * c.width-count.result)
    ((c.args.place / 2 * 2 + c.from.result) * c.width-count.result + c.width-count.result - (c.args.place / 2 * 2 + c.from.result) * c.width-count.result)
    c.args.sum.now c.add.new.sum c.args.held.now c.split_at_mut-above.result.0.now c.split_at_mut-above.result.1.now c.write_leaves.new.sums
    c.index-above-level.result c.args.leaves.now c.write_leaves.new.leaves c.split_at_mut-above.ensures.value c.split_at_mut-above.ensures.front_len
    (c.add.ensures ∙ ap (λ start. xor_bytes start c.args.sum.now) (c.choice-sibling.ensures ∙ choice_is (nat_eq (c.args.place % 2) 0)
    (get_or c.split_at_mut-above.result.0.now c.args.level c.index-above-level.result))) c.from.ensures c.width-count.ensures.value refl refl
    c.requires.room c.write_leaves.auto.leaves c.write_leaves.ensures.sums c.write_leaves.ensures.leaves
