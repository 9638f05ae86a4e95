use Rattle.std.proofs.Common.{◌≡◌, ◌<◌, ◌∙◌, take, ap, subst}
use Rattle.zk_model.specs.Mac.{values_of, macs_of}
use Rattle.zk_model.specs.Extension.{code_outputs}
use Rattle.zk_model.specs.Files.{prover_unit}
use Rattle.zk_model.specs.declared.Params.{Params}
use Rattle.linear_code.specs.Codes.{Code}
use Rattle.vole_extend.proofs.Found.{extension_is}
use Rattle.vole_extend.proofs.prover.ProverRound.finish.Goals as goal

pub returns-clause-pairs : goal.returns-clause-pairs
returns-clause-pairs c =
    extension_is c.args.self.now c.args.replies.now c.in_ok-noise.noise.items c.in_ok-pairs.pairs.items c.params-base.ensures.file
    (subst (λ (params : Params). c.args.self.now.unit < params.total) c.params-base.ensures.params c.params-base.ensures.within)
    c.in_ok-noise.ensures.noise
    (c.in_ok-pairs.ensures.values ∙ (λ i. code_outputs (seed i) (values_of (base i)) (values_of (c.deref.ensures.value i))))
    (c.in_ok-pairs.ensures.macs ∙ (λ i. code_outputs (seed i) (macs_of (base i)) (macs_of (c.deref.ensures.value i))))
  where
    seed : c.args.columns.now.seed ≡ c.args.self.now.file.code_seed
    seed = ap (λ (code : Code). code.seed) c.requires.columns

    base : take c.params-base.result.base c.pairs.result.now
        ≡ take c.args.self.now.file.params.base (prover_unit c.args.self.now.file c.args.self.now.unit).pairs
    base = λ i. take (c.params-base.ensures.params i).base (c.pairs.ensures.pairs i)
