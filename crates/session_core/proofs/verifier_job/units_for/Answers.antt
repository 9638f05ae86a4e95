use Rattle.std.proofs.Common.{◌≡◌, ℕ, max, ap, ◌∙◌, arith}
use Rattle.zk_model.specs.Program.{part_count}
use Rattle.session_core.proofs.verifier_job.units_for.Goals as goal

turned : (n : ℕ) → max n 1 ≡ max 1 n
turned n = omega arith

pub returns : goal.returns
returns c =
    c.max.ensures ∙ ap (λ n. max n 1) c.parts.ensures
    ∙ ap (λ size. max (part_count c.args.need size) 1) c.correlations_per_unit.ensures.count
    ∙ turned _
