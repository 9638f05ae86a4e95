use Rattle.std.proofs.Common.{arith}
use Rattle.text_tokens.proofs.Splitting.{short_digit, short_ended}
use Rattle.text_tokens.proofs.Shorts.{below, starts_number}
use Rattle.text_tokens.proofs.numbers.number_here.Goals as goal

pub returns-then-ends_number : goal.returns-then-ends_number
returns-then-ends_number g c =
    starts_number c.args.text.now c.loop-i.i c.loop-i.value (below c.loop-i.i c.loop-i.value (omega arith) c.loop-i.invariant.small)
    (short_ended c.args.text.now c.in_ok-front.front.now c.loop-i.i c.loop-i.value c.in_ok-front.ensures.cases.same c.in_ok-front.ensures.cases.enough (omega arith) (omega arith) (c.ends_number.ensures c.if-ends_number.true)
    c.loop-i.invariant.scanned)

pub loop-i-preserved : goal.loop-i-preserved
loop-i-preserved g c =
    let more = short_digit c.args.text.now c.in_ok-front.front.now c.loop-i.i c.loop-i.value c.digit_value-digit.result c.in_ok-front.ensures.cases.same c.in_ok-front.ensures.cases.enough
    (omega arith) (omega arith) (c.digit_value-digit.ensures (omega arith)) c.loop-i.invariant.scanned c.loop-i.invariant.small in
    record { scanned = more.0; small = more.1 }
