use Rattle.std.proofs.Common.{refl}
use Rattle.arith_reader.specs.declared.lines.PairName.TheVariants.{Add, Mul}
use Rattle.arith_reader.proofs.PlainLines.{chosen_name}
use Rattle.arith_reader.proofs.lines.name_here.Goals as goal
use Rattle.arith_reader.proofs.lines.name_here.Goals.{then-front-eq65, else-front-eq65}

pub returns : goal.returns
returns c = elim c.if-front-eq65.branch [
  | then-front-eq65 w ↦ chosen_name c.args.text.now c.in_ok-front.front.now c.in_ok-front.behind.now c.if-front-eq65.name _ Add c.in_ok-front.ensures.cases (c.are_same.ensures c.if-not-are_same.false) w.name-is refl refl
  | else-front-eq65 w ↦ chosen_name c.args.text.now c.in_ok-front.front.now c.in_ok-front.behind.now c.if-front-eq65.name _ Mul c.in_ok-front.ensures.cases (c.are_same.ensures c.if-not-are_same.false) w.name-is refl refl
]
