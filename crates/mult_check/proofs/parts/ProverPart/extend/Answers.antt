use Rattle.std.proofs.Common.{List, ◌++◌, arith, refl, subst, sym, take}
use Rattle.zk_model.specs.Check.{Triple}
use Rattle.mult_check.specs.Parts.{AreSumsOf}
use Rattle.mult_check.proofs.Over.{one_behind, none_behind, all_behind}
use Rattle.mult_check.proofs.parts.ProverPart.extend.Goals as goal

pub loop-triple-init : goal.loop-triple-init
loop-triple-init c challenge before start =
    subst (λ (l : List Triple). AreSumsOf challenge l c.args.self.now) (none_behind before c.args.triples.now 0 refl) start

pub loop-triple-preserved : goal.loop-triple-preserved
loop-triple-preserved c challenge before start =
    subst (λ (l : List Triple). AreSumsOf challenge l c.push.new.self)
    (sym (one_behind before c.args.triples.now c.loop-triple.triple-index c.triple-item.result c.loop-triple-test.true c.triple-item.is))
    (c.push.ensures challenge (before ++ take c.loop-triple.triple-index c.args.triples.now) (c.loop-triple.invariant challenge before start))

pub returns : goal.returns
returns c challenge before start =
    subst (λ (l : List Triple). AreSumsOf challenge l c.loop-triple.self)
    (all_behind before c.args.triples.now c.loop-triple.triple-index (omega (arith, c.loop-triple-test.false)))
    (c.loop-triple.invariant challenge before start)
