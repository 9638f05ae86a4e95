use Rattle.std.proofs.Common.{◌≤◌, ◌-◌, rules, arith, map, take, drop, refl}
use Rattle.mult_check.proofs.Products.{holds_of_none, holds_of_more}
use Rattle.mult_check.proofs.sections.part_between.Goals as goal

pub loop-at-init : goal.loop-at-init
loop-at-init g c = (
  omega arith,
  c.requires.order,
  refl,
  holds_of_none (λ l. g.P.Sums.Over c.args.none l c.args.none) (g.W.Held.of c.args.wires.now) (g.W.Held.products c.args.wires.now) c.args.first c.requires.none,
)

pub loop-at-preserved : goal.loop-at-preserved
loop-at-preserved g c =
    let of = g.W.Held.of c.args.wires.now in
    let products = g.W.Held.products c.args.wires.now in
    let room : c.min-count.result ≤ c.args.end = search rules in (
      search rules,
      search rules,
      search rules,
      holds_of_more (λ l. g.P.Sums.Over c.args.none l c.with-part.result) of products c.args.first c.loop-at.at c.min-count.result
          c.read_block.new.items c.loop-at.invariant.0 (search rules)
          (c.with-part.ensures c.args.none (map of (take (c.loop-at.at - c.args.first) (drop c.args.first products))) c.loop-at.invariant.3),
    )
