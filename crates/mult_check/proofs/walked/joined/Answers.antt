use Rattle.std.proofs.Common.{List, length, ◌≡◌, ◌≤◌, ◌*◌, take, drop, arith, subst, sym}
use Rattle.mult_check.proofs.Streaming.{no_part, one_joined, all_joined}
use Rattle.mult_check.proofs.walked.joined.Goals as goal

pub loop-part-init : goal.loop-part-init
loop-part-init g c block size all each = subst (λ (l : List g.row.T.Denot). g.P.Sums.Over c.args.none l c.args.none) (no_part block size) c.requires

pub loop-part-preserved : goal.loop-part-preserved
loop-part-preserved g c block size all each =
    subst (λ (l : List g.row.T.Denot). g.P.Sums.Over c.args.none l c.and-whole.result) (one_joined block size c.loop-part.part-index)
    (c.and-whole.ensures c.args.none (take (c.loop-part.part-index * size) block) (take size (drop (c.loop-part.part-index * size) block))
    (c.loop-part.invariant block size all each)
    (subst (g.P.Sums.Over c.args.none (take size (drop (c.loop-part.part-index * size) block))) (sym c.part-item.is)
    (each c.loop-part.part-index c.part-item.result c.loop-part-test.true)))

pub returns : goal.returns
returns g c block size all each =
    let end : c.loop-part.part-index ≡ length c.args.parts.now = omega (arith, c.loop-part-test.false, c.loop-part.auto.part-index-end) in
    subst (λ (l : List g.row.T.Denot). g.P.Sums.Over c.args.none l c.loop-part.whole)
    (all_joined block size c.loop-part.part-index (subst (λ n. length block ≤ n * size) (sym end) all))
    (c.loop-part.invariant block size all each)
