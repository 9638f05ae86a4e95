use Rattle.std.proofs.Common.{◌∙◌, ap, arith}
use Rattle.std.proofs.lemmas.Grind.{get_or_default_zero}
use Rattle.linear_code.specs.Codes.{output_at}
use Rattle.linear_code.proofs.Outputs.{outputs_more, outputs_all}
use Rattle.linear_code.proofs.code.Columns.apply.Goals as goal

pub loop-j-preserved : goal.loop-j-preserved
loop-j-preserved c =
    outputs_more (output_at c.args.self.now.seed c.args.base.now) c.args.noise.now c.loop-j.outputs.items c.push.new.self.items c.loop-j.j c.output.result
    (c.output.ensures ∙ ap (output_at c.args.self.now.seed c.args.base.now c.loop-j.j)
    (c.index-noise-j.is ∙ get_or_default_zero c.args.noise.now c.loop-j.j c.index-noise-j.result c.loop-j-test.true))
    c.in_ok-push.ensures.items c.loop-j.invariant

pub returns-clause-outputs : goal.returns-clause-outputs
returns-clause-outputs c =
    outputs_all (output_at c.args.self.now.seed c.args.base.now) c.args.noise.now c.loop-j.outputs.items c.loop-j.j
    (omega (arith, c.loop-j-test.false, c.loop-j.auto.j-end)) c.loop-j.invariant
