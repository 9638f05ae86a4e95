use Rattle.std.proofs.Common.{◌≡◌, ◌∷◌, ◌++◌, [], refl, rules}
use Rattle.std.specs.Vec.Iter.{into_iter_items}
use Rattle.proof_frames.specs.declared.frame.Frame.TheVariants.{ExtendReply}
use Rattle.zk_model.specs.Frames as model
use Rattle.session_core.proofs.Rounds.{one_framed}
use Rattle.session_core.proofs.round_frames.reply_frames.Goals as goal

pub loop-trees-preserved : goal.loop-trees-preserved
loop-trees-preserved c =
    let next : into_iter_items c.loop-trees.trees-iterator ≡ c.in-Some.trees ∷ into_iter_items c.next.new.self = search rules in
    let pushed : c.push.new.self.items ≡ c.loop-trees.frames.items ++ ExtendReply c.in-Some.trees ∷ [] = search rules in
    one_framed model.replies c.loop-trees.frames.items c.push.new.self.items (ExtendReply c.in-Some.trees) c.in-Some.trees _ _ _ c.loop-trees.invariant next pushed refl
