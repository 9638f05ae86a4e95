use Rattle.std.proofs.Common.{refl, ◌∙◌, ap}
use Rattle.zk_model.specs.Transcript.{TreeAsk}
use Rattle.zk_model.specs.Tree.{tree_leaves}
use Rattle.zk_model.specs.Correlations.{tree_root}
use Rattle.vole_extend.specs.Rounds.{VerifierTurn}
use Rattle.vole_extend.proofs.Replied.{reply_is}
use Rattle.vole_extend.proofs.verifier.VerifierRound.reply_tree.Goals as goal

pub returns : goal.returns
returns c =
    let leaves = tree_leaves (tree_root c.args.self.now.file c.args.self.now.unit c.args.tree) c.args.self.now.file.params.height in
    reply_is c.args.self.now c.args.tree c.args.ask.now c.key-key.result c.base_key-base_key.result c.ask.inside.base_correction
    c.verifier_reply_sum-leaf_offset.result leaves
    c.pads.result.now c.args.sums.now c.in_ok-messages.messages.items c.deref.result.now
    (record {
      pads_are = c.pads.ensures.pads;
      flips_are = c.deref.ensures.value ∙ ap (λ (ask : TreeAsk). ask.flips) c.ask.view_is;
      sums_are = c.requires.sums;
      masked = c.in_ok-messages.ensures.messages;
      key_is = c.key-key.ensures.key ∙ ap (λ (turn : VerifierTurn). turn.file.key) c.self.view_is;
      base_key_is = c.base_key-base_key.ensures;
      correction_is = ap (λ (ask : TreeAsk). ask.base_correction) c.ask.view_is;
      leaves_are = refl;
      offset_is = c.verifier_reply_sum-leaf_offset.ensures.reply leaves c.requires.leaf_sum;
    })
