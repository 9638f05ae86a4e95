use Rattle.std.proofs.Common.{◌≡◌, ◌+◌, ◌^◌, ℕ, length, replicate, refl, subst, sym, ◌∙◌, ap, arith}
use Rattle.ggm_tree.proofs.Found.{IsFound, found_none, found_more, found_all, sibling_room}
use Rattle.ggm_tree.proofs.Trees.{written}
use Rattle.ggm_tree.proofs.puncturing.puncture.Goals as goal

pub loop-level-init : goal.loop-level-init
loop-level-init c =
    found_none c.args.height c.args.missing c.args.sums.now _ c.zeros-held.result c.in_ok-leaves.leaves.items c.requires.place (omega arith)
    c.zeros-held.ensures refl
    (c.in_ok-leaves.ensures.items_if_clones_equal (λ y same. same) ∙ ap (λ n. replicate {A = ℕ} n 0) c.width.ensures.value)

pub fill_sibling-requires-clause-room : goal.fill_sibling-requires-clause-room
fill_sibling-requires-clause-room c =
    let long : length c.deref_mut.result.now ≡ 2 ^ c.args.height = ap length c.deref_mut.ensures.value ∙ c.loop-level.invariant.long in
    omega (arith, long, sibling_room c.args.height c.args.missing c.loop-level.level c.requires.place c.loop-level-test.true)

pub loop-level-preserved : goal.loop-level-preserved
loop-level-preserved c =
    subst (IsFound c.args.height c.args.missing (c.loop-level.level + 1) c.args.sums.now c.fill_sibling.new.held)
    (sym (written c.loop-level.leaves.len c.loop-level.leaves.items c.deref_mut.result.now c.fill_sibling.new.leaves c.loop-level.leaves.ok.0
    c.deref_mut.ensures.value c.fill_sibling.auto.leaves))
    (found_more c.args.height c.args.missing c.loop-level.level _ _ c.args.sums.now c.loop-level.held c.fill_sibling.new.held
    c.deref_mut.result.now c.fill_sibling.new.leaves c.requires.place c.loop-level-test.true refl refl c.fill_sibling.auto.held
    c.fill_sibling.auto.leaves c.fill_sibling.ensures.octets c.fill_sibling.ensures.filled
    (subst (IsFound c.args.height c.args.missing c.loop-level.level c.args.sums.now c.loop-level.held) (sym c.deref_mut.ensures.value) c.loop-level.invariant))

pub returns-clause-leaves : goal.returns-clause-leaves
returns-clause-leaves c =
    let last : c.loop-level.level ≡ c.args.height = omega arith in
    found_all c.args.height c.args.missing c.args.sums.now c.loop-level.held c.loop-level.leaves.items c.requires.place c.requires.count
    (subst (λ (level : ℕ). IsFound c.args.height c.args.missing level c.args.sums.now c.loop-level.held c.loop-level.leaves.items) last
    c.loop-level.invariant)
