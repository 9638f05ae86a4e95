use Rattle.std.proofs.Common.{List, ◌≡◌, ◌+◌, length, take, rules, arith, subst}
use Rattle.std.proofs.lemmas.List.{length-take-le}
use Rattle.round_fan.proofs.Adding.{some_behind}
use Rattle.round_fan.proofs.rounds.some_at_a_time.Goals as goal

pub loop-done-preserved : goal.loop-done-preserved
loop-done-preserved g c =
    let came = c.args.came.now in
    let place : c.args.start + c.loop-done.done ≡ c.args.start + length (take c.loop-done.done came) =
    omega (arith, length-take-le c.loop-done.done came c.loop-done.invariant.0) in (
      search rules,
      subst (λ (l : List g.row.X.Denot). g.U.Rounds.Makes c.args.rounds.now c.args.start l c.side_by_side.new.all) (some_behind came c.loop-done.done c.min.result)
          (c.in_ok-side_by_side.ensures c.args.start (take c.loop-done.done came) place c.loop-done.invariant.1),
    )
