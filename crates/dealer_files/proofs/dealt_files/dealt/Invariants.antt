use Rattle.dealer_files.proofs.Matching.{MatchBefore}
use Rattle.dealer_files.proofs.dealt_files.dealt.Given as goal

abbrev pub invariant-loop-unit : goal.invariant-loop-unit
invariant-loop-unit l = MatchBefore l.prover l.verifier l.unit
