use Rattle.std.proofs.Common.{List, ◌<◌, ◌≤◌, ◌*◌, ◌∙◌, length, take, drop, get_or, arith, rules, sym, subst}
use Rattle.std.proofs.lemmas.Grind.{div_ceil_times}
use Rattle.mult_check.proofs.walked.block_part.Goals as goal

pub returns : goal.returns
returns g c =
    let size = c.div_ceil-size.result in
    let long = c.if-block-lt-LEAST_SHARED.false in
    let all = (div_ceil_times (length c.args.block.now) c.args.workers c.requires.some).0 in
    let some : 0 < size = search rules in
    let counted = c.deref.ensures.len ∙ c.in_ok-parts.ensures.len in
    c.joined.ensures c.args.block.now size
    (subst (λ n. length c.args.block.now ≤ n * size) (sym counted) (div_ceil_times (length c.args.block.now) size some).0)
    (λ i d below. let made = (c.in_ok-parts.ensures.each i d (omega (arith, below, c.deref.ensures.len))).1 in
    subst (λ (l : List g.row.P.Denot). g.P.Sums.Over c.args.none (take size (drop (i * size) c.args.block.now)) (get_or l i d)) (sym c.deref.ensures.value)
    (subst (λ (l : List g.row.T.Denot). g.P.Sums.Over c.args.none l (get_or c.in_ok-parts.parts.items i d)) made.argument_is.value made.call))
