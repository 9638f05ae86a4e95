use Rattle.std.proofs.Common.{◌≡◌, ◌+◌, ◌-◌, length, ◌∙◌, sym, arith}
use Rattle.lease_core.proofs.Codes.{last_of_get}
use Rattle.lease_core.proofs.lists.last_of.Goals as goal

pub returns-in-Some : goal.returns-in-Some
returns-in-Some c =
    let h = c.in-Some.ensures.item in
    let some_number = h.3.0 in
    let n : length c.args.numbers.now ≡ length c.args.numbers.now - 1 + 1 = omega arith in
    h.3.1 0 ∙ sym (last_of_get c.args.numbers.now (length c.args.numbers.now - 1) n)
