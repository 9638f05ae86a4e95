use Rattle.std.proofs.Common.{◌+◌, ◌<◌, ◌∙◌, ℕ, List, length, arith, ap, subst, sym}
use Rattle.std.specs.Global.{Vec}
use Rattle.packed_gates.specs.declared.packed.PackedStep.{PackedStep}
use Rattle.gate_translate.proofs.Splitting.{AreSplit, one_kept, one_taken}
use Rattle.gate_translate.proofs.arithmetic.take_assertions.Goals as goal
use Rattle.gate_translate.proofs.arithmetic.take_assertions.Goals.{in-Assert+in_ok-push, in_default}

pub loop-i-preserved : goal.loop-i-preserved
loop-i-preserved c = elim c.match-rule.branch [
  | in-Assert+in_ok-push w ↦
      subst (λ (k : ℕ). AreSplit c.args.rules.now.items c.args.opened.now.items (c.loop-i.i + 1) k c.match-rule.rules.items c.match-rule.opened.items) (sym w.kept-is)
      (subst (λ (now : List PackedStep). AreSplit c.args.rules.now.items c.args.opened.now.items (c.loop-i.i + 1) c.loop-i.kept now c.match-rule.opened.items)
      (ap (λ (v : Vec PackedStep). v.items) (sym w.rules-is))
      (one_taken c.args.rules.now.items c.args.opened.now.items c.loop-i.i c.loop-i.kept c.loop-i.rules.items c.loop-i.opened.items c.match-rule.opened.items
      c.index-rule.result.now c.index-rule.result.now w.in-Assert.a c.loop-i.invariant below c.index-rule.ensures w.in-Assert.is
      (ap (λ (v : Vec ℕ). v.items) w.opened-is ∙ w.in_ok-push.ensures.items)))
  | in_default w ↦
      subst (λ (k : ℕ). AreSplit c.args.rules.now.items c.args.opened.now.items (c.loop-i.i + 1) k c.match-rule.rules.items c.match-rule.opened.items) (sym w.kept-is)
      (subst (λ (opened : List ℕ). AreSplit c.args.rules.now.items c.args.opened.now.items (c.loop-i.i + 1) (c.loop-i.kept + 1) c.match-rule.rules.items opened)
      (ap (λ (v : Vec ℕ). v.items) (sym w.opened-is))
      (one_kept c.args.rules.now.items c.args.opened.now.items c.loop-i.i c.loop-i.kept c.loop-i.rules.items c.match-rule.rules.items c.loop-i.opened.items
      c.index-rule.result.now c.index-rule.result.now c.loop-i.invariant below c.index-rule.ensures w.in_default.not-Assert (ap (λ (v : Vec PackedStep). v.items) w.rules-is)))
]
  where
    below : c.loop-i.i < length c.args.rules.now.items
    below = omega (arith, c.loop-i-test.true, c.len-i-end.ensures, c.args.rules.now.ok.0)
