use Rattle.std.proofs.Common.{◌≡◌, ℕ, arith, subst}
use Rattle.lease_store.specs.Ceilings.{SaysCeiling}
use Rattle.status_command.proofs.Reporting.{low_ceiling}
use Rattle.status_command.proofs.used_units.leased_units.Goals as goal

pub returns-clause-says : goal.returns-clause-says
returns-clause-says g c = λ bytes known.
    let file = c.args.file.now in
    let base = c.in-Ok.opened.0.base in
    let says = c.in-Ok.ensures.base bytes known in
    let low = low_ceiling file.id file.params.total base bytes says in
    let same : base ≡ c.min-used.result = omega (arith, low, c.base.ensures, c.min-used.ensures, c.total.ensures.total) in
    subst (λ (n : ℕ). SaysCeiling file.id file.params.total n bytes) same says
