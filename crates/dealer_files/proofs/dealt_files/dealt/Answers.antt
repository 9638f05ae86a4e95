use Rattle.std.proofs.Common.{refl, inr, arith}
use Rattle.dealer_files.proofs.Matching.{match_more, match_of, first_unmatched}
use Rattle.dealer_files.proofs.dealt_files.dealt.Goals as goal

pub loop-unit-preserved : goal.loop-unit-preserved
loop-unit-preserved c =
    match_more c.args.prover.now c.args.verifier.now c.loop-unit.unit c.if-not-heads_agree.ensures.files.0 c.if-not-heads_agree.ensures.files.1
    (c.if-not-heads_agree.ensures.agree.0 refl) (omega (arith, c.loop-unit-test.true, c.total-unit-end.ensures.total)) c.loop-unit.invariant
    (c.if-not-units_match.ensures.0 refl)

pub returns-then-not-units_match-clause-dealt : goal.returns-then-not-units_match-clause-dealt
returns-then-not-units_match-clause-dealt c = (
  λ no. cc,
  λ are. c.if-not-units_match.ensures.1 (match_of c.args.prover.now c.args.verifier.now c.loop-unit.unit c.if-not-heads_agree.ensures.files.0
      (omega (arith, c.loop-unit-test.true, c.total-unit-end.ensures.total)) are),
)

pub returns-then-not-units_match-clause-first : goal.returns-then-not-units_match-clause-first
returns-then-not-units_match-clause-first c =
    inr (first_unmatched c.args.prover.now c.args.verifier.now c.loop-unit.unit c.if-not-heads_agree.ensures.files.0
    (c.if-not-heads_agree.ensures.agree.0 refl) (omega (arith, c.loop-unit-test.true, c.total-unit-end.ensures.total)) c.loop-unit.invariant
    (λ match. let no = c.if-not-units_match.ensures.1 match in cc))
