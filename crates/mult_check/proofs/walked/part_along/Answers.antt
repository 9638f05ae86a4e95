use Rattle.std.proofs.Common.{◌++◌, ◌∷◌, [], List, ap, arith, drop, length, refl, subst, take}
use Rattle.mult_check.proofs.Streaming.{one_taken}
use Rattle.mult_check.proofs.walked.part_along.Goals as goal

pub loop-taken-preserved : goal.loop-taken-preserved
loop-taken-preserved g c =
    let before = take c.loop-taken._taken (drop (g.W.Walk.met c.args.walk.now) (g.W.Walk.all c.args.walk.now)) in
    let after = before ++ c.next_item.result ∷ [] in
    let same = g.met.W.Walk.kept_all c.args.walk.now c.loop-taken.walk c.loop-taken.invariant.0 in
    let kept = g.met.W.Walk.kept_both c.args.walk.now c.loop-taken.walk c.next_item.new.walk c.loop-taken.invariant.0 c.next_item.ensures.kept in (
      kept,
      omega (arith, c.next_item.ensures.met, c.loop-taken.invariant.1),
      ap length (g.met.W.Walk.kept_all c.args.walk.now c.next_item.new.walk kept),
      subst (λ (l : List g.row.T.Denot). g.P.Sums.Over c.args.none l c.with_next-part.result)
          (one_taken (g.W.Walk.all c.args.walk.now) (g.W.Walk.all c.loop-taken.walk) (g.W.Walk.met c.args.walk.now) (g.W.Walk.met c.loop-taken.walk) c.loop-taken._taken
          c.next_item.result before after same c.loop-taken.invariant.1 (omega (arith, c.loop-taken-test.true, c.requires.there)) c.next_item.ensures.item refl refl)
          (c.with_next-part.ensures c.args.none before c.loop-taken.invariant.3),
    )
