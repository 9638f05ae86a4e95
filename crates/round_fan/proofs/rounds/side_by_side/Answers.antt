use Rattle.std.proofs.Common.{◌≡◌, ◌+◌, ◌/◌, ◌%◌, min, length, rules, arith}
use Rattle.round_fan.proofs.Adding.{chunks_made}
use Rattle.round_fan.proofs.rounds.side_by_side.Goals as goal

pub returns : goal.returns
returns g c from first place begun =
    let came = c.args.came.now in
    let size = c.args.size in
    let made = c.in_ok-made.made.items in
    let count : length made ≡ length came / size + min 1 (length came % size) = let len = c.in_ok-made.ensures.len in search rules in
    c.in_ok-add_all.ensures from size first came begun
    (chunks_made (g.U.Rounds.Makes c.args.rounds.now) from c.args.start size first came made place c.requires.some count
    (λ i other below.
    let chunk = (c.in_ok-made.ensures.each i other below).1 in
    (chunk.argument.now, chunk.argument_is.value, omega (arith, chunk.argument_is.in_bounds), chunk.call)))
