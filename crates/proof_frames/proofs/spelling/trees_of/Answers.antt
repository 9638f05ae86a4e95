use Rattle.std.proofs.Common.{◌≡◌, ◌+◌, ◌*◌, ◌≤◌, [], ◌∷◌, sym, ap, ◌∙◌, arith, subst, length, length-append}
use Rattle.std.specs.Prelude.{All, vec_capacity}
use Rattle.std.proofs.lemmas.List.Elements.{All-push}
use Rattle.proof_frames.specs.Rows.{FitsFields, repeat, tree_fields}
use Rattle.proof_frames.proofs.FrameLemmas.{item_taken, all_last}
use Rattle.proof_frames.proofs.TreeFrames.{FirstTree, first_tree}
use Rattle.proof_frames.proofs.spelling.trees_of.Given.{Over}
use Rattle.proof_frames.proofs.spelling.trees_of.Goals.{After-SIZE}
use Rattle.proof_frames.proofs.spelling.trees_of.Goals as goal

-- the tree that is due
first_of : (g : Over) (c : After-SIZE g)
    → FirstTree (length c.pop.new.self.items) (c.SIZE.result * c.args.height + 8) c.args.height g.L.Level.SIZE g.L.Level.most c.loop-levels.rest.now
first_of g c =
    first_tree (length c.pop.new.self.items) (c.SIZE.result * c.args.height + 8) c.args.height g.L.Level.SIZE g.L.Level.most (length c.loop-levels.rooms.levels.items)
    c.loop-levels.rest.now (ap (λ n. n * c.args.height + 8) c.SIZE.ensures) (ap length c.in-Some.ensures.items ∙ length-append c.pop.new.self.items _) c.loop-levels.invariant.rest

pub split_at-requires : goal.split_at-requires
split_at-requires g c = (first_of g (goal.at.split_at-requires g c).After-SIZE).enough

pub tree_of-requires-clause-tree : goal.tree_of-requires-clause-tree
tree_of-requires-clause-tree g c =
    let first = first_of g (goal.at.tree_of-requires-clause-tree g c).After-SIZE in
    subst (FitsFields (tree_fields c.args.height g.L.Level.SIZE g.L.Level.most)) (sym c.split_at.ensures.front) first.word

pub tree_of-requires-clause-empty : goal.tree_of-requires-clause-empty
tree_of-requires-clause-empty g c =
    (all_last (λ room. (room.items ≡ []) × (c.args.height ≤ vec_capacity room)) c.loop-levels.rooms.levels.items c.pop.new.self.items c.in-Some.levels c.in-Some.ensures.items
    c.loop-levels.invariant.blank).1.0

pub tree_of-requires-clause-room : goal.tree_of-requires-clause-room
tree_of-requires-clause-room g c =
    (all_last (λ room. (room.items ≡ []) × (c.args.height ≤ vec_capacity room)) c.loop-levels.rooms.levels.items c.pop.new.self.items c.in-Some.levels c.in-Some.ensures.items
    c.loop-levels.invariant.blank).1.1

pub loop-levels-preserved : goal.loop-levels-preserved
loop-levels-preserved g c =
    let first = first_of g (goal.at.loop-levels-preserved g c).After-SIZE in
    let popped = c.in-Some.ensures.items in
    record {
      bytes = item_taken g.T.Spelled.spelling c.loop-levels.rooms.trees.items c.push_reserved.new.self.items _ c.split_at.result.0.now c.split_at.result.1.now c.loop-levels.rest.now
          c.args.payload.now (c.SIZE.result * c.args.height + 8) c.push_reserved.ensures.items c.tree_of.ensures.spelled c.split_at.ensures.front c.split_at.ensures.back
          c.loop-levels.invariant.bytes;
      each = subst (All (g.T.Tree.is_tree c.args.height)) (sym c.push_reserved.ensures.items)
          (All-push (g.T.Tree.is_tree c.args.height) c.loop-levels.rooms.trees.items _ c.loop-levels.invariant.each c.tree_of.ensures.fits);
      rest = subst (FitsFields (repeat (length c.pop.new.self.items) (tree_fields c.args.height g.L.Level.SIZE g.L.Level.most))) (sym c.split_at.ensures.back) first.others;
      blank = (all_last (λ room. (room.items ≡ []) × (c.args.height ≤ vec_capacity room)) c.loop-levels.rooms.levels.items c.pop.new.self.items c.in-Some.levels popped
          c.loop-levels.invariant.blank).0;
      count = omega (arith, ap length popped, length-append c.pop.new.self.items (c.in-Some.levels ∷ []), ap length c.push_reserved.ensures.items, length-append c.loop-levels.rooms.trees.items (c.tree_of.result ∷ []));
      room = omega arith;
    }
