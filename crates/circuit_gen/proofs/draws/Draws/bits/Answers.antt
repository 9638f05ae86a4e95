use Rattle.std.proofs.Common.{◌≡◌, ◌∙◌, ap, refl, arith, map}
use Rattle.std.specs.List.{range_with_len}
use Rattle.circuit_gen.specs.Generated.{draw, state_after, generated_bit, generated_bits}
use Rattle.circuit_gen.proofs.Drawing.{draw_is, more_bits}
use Rattle.circuit_gen.proofs.draws.Draws.bits.Goals as goal

pub loop-i-init : goal.loop-i-init
unfolding state_after
loop-i-init c = record { state = refl; bits = c.new-bits.ensures.items }

pub loop-i-preserved : goal.loop-i-preserved
loop-i-preserved c =
    let number = c.args.self.now.state in
    let i = c.loop-i._i in
    let drawn : c.next.result ≡ draw number i = c.next.ensures.draw ∙ draw_is number c.loop-i.self.state i c.loop-i.invariant.state in
    record {
      state = c.next.ensures.state ∙ drawn;
      bits = more_bits number i c.next.result c.loop-i.bits.items c.push.new.self.items c.loop-i.invariant.bits drawn c.in_ok-push.ensures.items;
    }

pub returns-clause-bits : goal.returns-clause-bits
unfolding generated_bits
returns-clause-bits c =
    let all : c.loop-i._i ≡ 64 = omega arith in
    c.loop-i.invariant.bits ∙ ap (λ n. map (generated_bit c.args.self.now.state) (range_with_len 0 n)) all
