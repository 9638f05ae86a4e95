use Rattle.std.proofs.Common.{refl}
use Rattle.bristol_reader.proofs.PlainLines.{plain_heading}
use Rattle.bristol_reader.proofs.lines.plain_heading.Goals as goal

pub returns-then-are_same : goal.returns-then-are_same
returns-then-are_same c =
    plain_heading c.args.text.now c.in_ok-front.front.now c.in_ok-front.behind.now 50 _ c.in_ok-front.ensures.cases (c.are_same.ensures c.if-are_same.true) refl refl

pub returns-then-are_same-2 : goal.returns-then-are_same-2
returns-then-are_same-2 c =
    plain_heading c.args.text.now c.in_ok-front.front.now c.in_ok-front.behind.now 49 _ c.in_ok-front.ensures.cases (c.are_same-2.ensures c.if-are_same-2.true) refl refl
