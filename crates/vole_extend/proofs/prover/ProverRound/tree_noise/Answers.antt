use Rattle.std.proofs.Common.{◌∙◌, ap}
use Rattle.zk_model.specs.Mac.{Pair}
use Rattle.zk_model.specs.Transcript.{TreeReply}
use Rattle.zk_model.specs.declared.Params.{Params}
use Rattle.vole_extend.specs.Levels.{chosen_sums}
use Rattle.vole_extend.proofs.Asked.{of_tree, noise_is}
use Rattle.vole_extend.proofs.prover.ProverRound.tree_noise.Goals as goal

pub returns-clause-noise : goal.returns-clause-noise
returns-clause-noise c =
    noise_is c.args.self.now c.args.tree c.hidden-place.result.place c.hidden-place.result.noise c.from-height.result c.base_mac.inside.m
    c.reply.inside.leaf_offset c.transfers.result.now c.base_pair.result c.args.reply.now c.deref-2.result.now c.deref-3.result.now
    c.in_ok-leaves.leaves.items c.in_ok-entries.entries.items
    (of_tree c.hidden-place.ensures.place c.hidden-place.ensures.inside c.hidden-place.ensures.noise
    c.transfers.ensures.transfers c.transfers.ensures.count c.base_pair.ensures)
    (record {
      tall = c.from-height.ensures ∙ ap (λ (params : Params). params.height) c.params.ensures.params;
      unmasked = c.deref-2.ensures.value ∙ c.in_ok-sums.ensures.sums
          ∙ ap (chosen_sums c.hidden-place.result.place c.transfers.result.now)
          (c.deref.ensures.value ∙ ap (λ (reply : TreeReply). reply.messages) c.reply.view_is);
      punctured = c.in_ok-leaves.ensures.leaves;
      read = c.deref-3.ensures.value;
      mac_is = ap (λ (pair : Pair). pair.m) c.base_mac.view_is;
      offset_is = ap (λ (reply : TreeReply). reply.leaf_offset) c.reply.view_is;
      noisy = c.in_ok-entries.ensures.noise;
    })
