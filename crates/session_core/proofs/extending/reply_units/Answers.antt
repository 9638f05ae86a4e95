use Rattle.std.proofs.Common.{◌≡◌, ◌∙◌, ◌+◌, ◌-◌, ◌*◌, ◌++◌, [], List, ap, sym, length, map, flat_map, refl, arith, rules, zero-add, length-append}
use Rattle.std.specs.Prelude.{slice_index_or}
use Rattle.std.specs.List.{range_with_len}
use Rattle.std.proofs.lemmas.List.{length-map}
use Rattle.zk_model.specs.Transcript.{Grant, TreeAsk}
use Rattle.zk_model.specs.Files.{correlations_per_unit}
use Rattle.zk_model.specs.Correlations.{unit_keys}
use Rattle.zk_model.specs.Replies.{unit_reply}
use Rattle.zk_model.specs.Frames as model
use Rattle.zk_model.specs.Frames.{AreAsks}
use Rattle.proof_frames.specs.Frames.{frame_value}
use Rattle.proof_frames.specs.declared.frame.Frame.{Frame}
use Rattle.session_core.specs.Extending.{asks_in, asks_of}
use Rattle.session_core.proofs.Rounds.{asks_at, one_more, one_part_more, map_twice, numbered}
use Rattle.session_core.proofs.extending.reply_units.Goals as goal

pub reply_unit-requires-clause-asks : goal.reply_unit-requires-clause-asks
reply_unit-requires-clause-asks c =
    (asks_at (AreAsks c.args.file.now.params.height c.args.file.now.params.trees) c.args.asked.now c.loop-i.i c.index-asked-i.result
    c.asks_in.result.now c.requires.asks c.loop-i-test.true c.index-asked-i.is c.asks_in.ensures).1

pub loop-i-preserved : goal.loop-i-preserved
loop-i-preserved c =
    let far = c.loop-i.invariant in
    let file = c.args.file.now in
    let start = ap (λ (g : Grant). g.start) c.grant.view_is in
    let there = (asks_at (AreAsks file.params.height file.params.trees) c.args.asked.now c.loop-i.i c.index-asked-i.result
    c.asks_in.result.now c.requires.asks c.loop-i-test.true c.index-asked-i.is c.asks_in.ensures).0 in
    let more : c.extend_from_slice.new.self.items ≡ c.loop-i.keys.items ++ c.in_ok-reply.reply.keys.items = search rules in
    let keys = c.in_ok-reply.ensures.keys ∙ ap (λ n. unit_keys file (n + c.loop-i.i)) start in (
      one_more frame_value (λ k. model.replies (unit_reply file (c.args.grant.start + k) (slice_index_or (asks_of c.args.asked.now) k []))) 0 c.loop-i.i c.loop-i.i
          c.loop-i.replies.items c.push.new.self.items _ (zero-add c.loop-i.i) far.0 c.in_ok-push.ensures.items
          (ap model.replies (c.in_ok-reply.ensures.replies ∙ (λ i. unit_reply file (start i + c.loop-i.i) (there i)))),
      one_part_more (unit_keys file) c.args.grant.start c.loop-i.i (c.args.grant.start + c.loop-i.i)
          c.loop-i.keys.items c.extend_from_slice.new.self.items c.in_ok-reply.reply.keys.items refl far.1 more keys,
      omega (arith, far.2, ap length more, length-append c.loop-i.keys.items c.in_ok-reply.reply.keys.items, c.in_ok-reply.ensures.count),
    )

pub returns-clause-replies : goal.returns-clause-replies
returns-clause-replies c =
    let far = c.loop-i.invariant in
    let file = c.args.file.now in
    let asks : List (List TreeAsk) = asks_of c.args.asked.now in
    let counted = length-map c.args.asked.now (λ (f : Frame). asks_in (frame_value f)) in
    let end : c.loop-i.i ≡ length asks = omega (arith, c.loop-i-test.false, c.loop-i.auto.i-end, counted) in
    far.0
    ∙ map_twice model.replies (λ k. unit_reply file (c.args.grant.start + k) (slice_index_or asks k [])) (range_with_len 0 c.loop-i.i)
    ∙ ap (map model.replies)
    (ap (λ n. map (λ k. unit_reply file (c.args.grant.start + k) (slice_index_or asks k [])) (range_with_len 0 n)) end
    ∙ sym (numbered (unit_reply file) c.args.grant.start asks [] []))

pub returns-clause-keys : goal.returns-clause-keys
returns-clause-keys c =
    let far = c.loop-i.invariant in
    let end : c.loop-i.i ≡ c.args.grant.start + c.args.grant.count - c.args.grant.start = omega (arith, c.loop-i-test.false, c.loop-i.auto.i-end, c.requires.count) in
    far.1 ∙ ap (λ n. flat_map (unit_keys c.args.file.now) (range_with_len c.args.grant.start n)) end

pub returns-clause-count : goal.returns-clause-count
returns-clause-count c =
    let far = c.loop-i.invariant in
    let end : c.loop-i.i ≡ c.args.grant.count = omega (arith, c.loop-i-test.false, c.loop-i.auto.i-end, c.requires.count) in
    far.2 ∙ ap (λ n. n * correlations_per_unit c.args.file.now.params) end
