-- The units of a session give as many correlations as it takes.
use Rattle.std.proofs.Common.{◌≡◌, ℕ, List, length, ◌+◌, ◌-◌, ◌*◌, ◌≤◌, sym, subst, arith, le_refl}
use Rattle.std.proofs.lemmas.Nat.{mul-le}
use Rattle.std.proofs.lemmas.Nat.{div_below}
use Rattle.zk_model.specs.Program.{Program, part_count, correlations_needed}
use Rattle.zk_model.specs.Files.{AreParams, correlations_per_unit}
use Rattle.zk_model.specs.Mac.{Pair}
use Rattle.zk_model.specs.Transcript.{Grant, IsGrant, units_for}
use Rattle.zk_model.specs.declared.Params.{Params}
use Rattle.session_core.specs.Jobs.{ProverJob}
use Rattle.session_core.specs.Fixing.{AreEnough}
use Rattle.zk_laws.proofs.Views.{gives_some, parts_hold}

-- so many units give enough
pub enough_units : (params : Params) (program : Program) (section count total : ℕ) → AreParams params
    → count ≡ units_for params (correlations_needed program section) → total ≡ count * correlations_per_unit params
    → correlations_needed program section ≤ total
enough_units params program section count total are counted is =
    subst (λ n. correlations_needed program section ≤ n) (sym is)
    (parts_hold (correlations_needed program section) (correlations_per_unit params) count (gives_some params params.kind are.limits) counted)

-- parts of one item at least are no more than the items
pub parts_within : (n size : ℕ) → 1 ≤ size → part_count n size ≤ n
parts_within n size some =
    let more = mul-le n 1 n size (le_refl n) some in
    let below = div_below (n + (size - 1)) size (n + 1) some (omega (arith, more, some)) in
    omega (arith, below)

-- the units of a grant give enough for a prover's job
pub enough_granted : (here job : ProverJob) (grant : Grant) (pairs : List Pair) → here ≡ job → AreParams here.file.params
    → IsGrant job.file.params job.statement.program grant → length pairs ≡ grant.count * correlations_per_unit job.file.params
    → AreEnough here grant.section_length pairs
enough_granted here job grant pairs same are granted counted =
    subst (λ (j : ProverJob). AreEnough j grant.section_length pairs) (sym same)
    (enough_units job.file.params job.statement.program grant.section_length grant.count (length pairs)
    (subst (λ (j : ProverJob). AreParams j.file.params) same are) granted.count counted)
