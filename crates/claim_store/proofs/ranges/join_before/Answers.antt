use Rattle.std.proofs.Common.{◌<◌, ◌-◌, arith, rules}
use Rattle.lease_core.specs.Spans.{span}
use Rattle.claim_store.proofs.Places.{apart_before, none_before, touches_before}
use Rattle.claim_store.proofs.ranges.join_before.Goals.{else-place-gt0-via-then-place-gt0+else-ranges-place, else-place-gt0-via-else-place-gt0}
use Rattle.claim_store.proofs.ranges.join_before.Goals as goal

pub returns-then-ranges-place-clause-joined : goal.returns-then-ranges-place-clause-joined
returns-then-ranges-place-clause-joined c =
    let some : 0 < c.args.place = search rules in
    touches_before c.args.span c.args.ranges.now c.args.place (c.args.place - 1) (span 0 0) c.requires.rising c.requires.some c.requires.place
    (omega (arith, some)) (search rules)

pub returns-clause-joined : goal.returns-clause-joined
returns-clause-joined c =
    elim c.else-place-gt0.branch [
      | else-place-gt0-via-then-place-gt0+else-ranges-place w ↦
          none_before c.args.span c.args.ranges.now c.args.place c.requires.some c.requires.place
          (apart_before c.args.span c.args.ranges.now c.args.place (span 0 0) c.requires.rising c.requires.place (search rules))
      | else-place-gt0-via-else-place-gt0 w ↦
          none_before c.args.span c.args.ranges.now c.args.place c.requires.some c.requires.place
          (λ k d below. absurd (omega (arith, below, w.if-place-gt0.false)))
    ]
