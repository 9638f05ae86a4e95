use Rattle.std.proofs.Common.{List, ◌≤◌, ◌+◌, take, drop, rules, arith, subst}
use Rattle.mult_check.proofs.Streaming.{block_read, block_joined}
use Rattle.mult_check.proofs.walked.next_part.Goals as goal

pub loop-done-preserved : goal.loop-done-preserved
loop-done-preserved g c =
    let all = g.W.Walk.all c.args.walk.now in
    let first = g.W.Walk.met c.args.walk.now in
    let before = take c.loop-done.done (drop first all) in
    let read = block_read all (g.W.Walk.all c.loop-done.walk) first c.loop-done.done (g.W.Walk.met c.loop-done.walk) c.min-more.result c.take_block.new.block.items c.deref.result.now
    (g.met.W.Walk.kept_all c.args.walk.now c.loop-done.walk c.loop-done.invariant.1) c.loop-done.invariant.2 c.in_ok-take_block.ensures.block c.deref.ensures.value in
    let room : c.loop-done.done + c.min-more.result ≤ c.args.count = search rules in (
      room,
      g.met.W.Walk.kept_both c.args.walk.now c.loop-done.walk c.take_block.new.walk c.loop-done.invariant.1 c.take_block.ensures.kept,
      omega (arith, c.in_ok-take_block.ensures.met, c.loop-done.invariant.2),
      subst (λ (l : List g.row.T.Denot). g.P.Sums.Over c.args.none l c.and-whole.result) (block_joined all first c.loop-done.done c.min-more.result)
          (c.and-whole.ensures c.args.none before (take c.min-more.result (drop (first + c.loop-done.done) all)) c.loop-done.invariant.3
          (subst (λ (l : List g.row.T.Denot). g.P.Sums.Over c.args.none l c.in_ok-part.part) read c.in_ok-part.ensures)),
    )
