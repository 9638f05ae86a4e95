use Rattle.std.proofs.Common.{ℕ, List, ◌++◌, take}
use Rattle.zk_model.specs.Check.{Triple}
use Rattle.mult_check.specs.Parts.{AreSumsOf}
use Rattle.mult_check.proofs.parts.ProverPart.extend.Given as goal

abbrev pub invariant-loop-triple : goal.invariant-loop-triple
invariant-loop-triple l = (challenge : ℕ) (before : List Triple) → AreSumsOf challenge before l.initial.self
    → AreSumsOf challenge (before ++ take l.triple-index l.triples) l.self
