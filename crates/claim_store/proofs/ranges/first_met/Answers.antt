use Rattle.std.proofs.Common.{arith, sym, rules}
use Rattle.lease_core.specs.Spans.{span}
use Rattle.claim_store.proofs.Places.{met_found, met_no_more, met_not}
use Rattle.claim_store.proofs.ranges.first_met.Goals.{else-first-ranges-via-then-first-ranges+else-ranges-first, else-first-ranges-via-else-first-ranges}
use Rattle.claim_store.proofs.ranges.first_met.Goals as goal

pub returns-then-ranges-first : goal.returns-then-ranges-first
returns-then-ranges-first c =
    let e = c.ended_by-first.ensures in
    sym (met_found c.args.span c.args.ranges.now c.ended_by-first.result (span 0 0) e.before (search rules)
    (e.behind c.ended_by-first.result (span 0 0) (omega arith) (search rules)) (search rules))

pub returns : goal.returns
returns c =
    let e = c.ended_by-first.ensures in
    elim c.else-first-ranges.branch [
      | else-first-ranges-via-then-first-ranges+else-ranges-first w ↦
          sym (met_not c.args.span c.args.ranges.now c.ended_by-first.result (span 0 0) c.requires e.before (search rules) (search rules))
      | else-first-ranges-via-else-first-ranges w ↦
          sym (met_no_more c.args.span c.args.ranges.now c.ended_by-first.result e.before (search rules))
    ]
