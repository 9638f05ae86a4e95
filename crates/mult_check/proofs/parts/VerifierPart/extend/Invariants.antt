use Rattle.std.proofs.Common.{ℕ, List, ◌++◌, take}
use Rattle.zk_model.specs.Check.{KeyTriple}
use Rattle.mult_check.specs.Parts.{IsSumOf}
use Rattle.mult_check.proofs.parts.VerifierPart.extend.Given as goal

abbrev pub invariant-loop-triple : goal.invariant-loop-triple
invariant-loop-triple l = (key challenge : ℕ) (before : List KeyTriple) → IsSumOf key challenge before l.initial.self
    → IsSumOf key challenge (before ++ take l.triple-index l.triples) l.self
