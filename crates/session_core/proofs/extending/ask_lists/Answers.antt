use Rattle.std.proofs.Common.{◌≡◌, ◌∙◌, ◌+◌, ◌-◌, ap, sym, map, arith, Vec, Global}
use Rattle.std.specs.List.{range_with_len}
use Rattle.zk_model.specs.Transcript.{Grant, TreeAsk}
use Rattle.zk_model.specs.HonestProver.{honest_asks}
use Rattle.round_fan.specs.Fans.{lists_of}
use Rattle.vole_extend.specs.Rounds.{ProverTurn}
use Rattle.session_core.proofs.Rounds.{one_more}
use Rattle.session_core.proofs.extending.ask_lists.Goals as goal

pub loop-unit-init : goal.loop-unit-init
loop-unit-init c =
    let start = ap (λ (g : Grant). g.start) c.grant.view_is in
    let count = ap (λ (g : Grant). g.count) c.grant.view_is in
    let none : c.grant.inside.start - c.args.grant.start ≡ 0 = omega (arith, start) in (
      omega (arith, start),
      omega (arith, start, count, c.from.ensures),
      ap lists_of c.in_ok-asks.ensures.items
          ∙ ap (λ n. map (honest_asks c.args.file.now) (range_with_len c.args.grant.start n)) (sym none),
    )

pub loop-unit-preserved : goal.loop-unit-preserved
loop-unit-preserved c =
    let far = c.loop-unit.invariant in
    let next : c.loop-unit.unit + 1 - c.args.grant.start ≡ (c.loop-unit.unit - c.args.grant.start) + 1 = omega (arith, far.0) in (
      omega (arith, far.0),
      far.1,
      one_more (λ (v : Vec TreeAsk Global). v.items) (honest_asks c.args.file.now) c.args.grant.start (c.loop-unit.unit - c.args.grant.start) c.loop-unit.unit
          c.loop-unit.asks.items c.push.new.self.items _ (omega (arith, far.0)) far.2 c.in_ok-push.ensures.items (c.in_ok-trees.ensures.asks ∙ ap (λ (turn : ProverTurn). honest_asks turn.file turn.unit) c.new.ensures)
          ∙ ap (λ n. map (honest_asks c.args.file.now) (range_with_len c.args.grant.start n)) (sym next),
    )

pub returns : goal.returns
returns c =
    let far = c.loop-unit.invariant in
    let end : c.loop-unit.unit - c.args.grant.start ≡ c.args.grant.count = omega (arith, far.0, far.1, c.loop-unit-test.false) in
    far.2 ∙ ap (λ n. map (honest_asks c.args.file.now) (range_with_len c.args.grant.start n)) end
