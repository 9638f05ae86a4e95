-- The places of answers are short.
use Rattle.std.proofs.Common.{ℕ, zero, suc, ◌+◌, ◌≤◌, [], ◌∷◌, length, arith}
use Rattle.std.specs.Prelude.{All}
use Rattle.zk_model.specs.Program.{Program, section_count}
use Rattle.zk_model.specs.declared.Expect.TheVariants as expect
use Rattle.zk_model.specs.declared.limits.TheConstants.{MAX_GATES, MAX_WIRES}
use Rattle.proof_frames.specs.Readings.{IsShortPlace}
use Rattle.session_core.proofs.Enough.{parts_within}

pub answers_short : (program : Program) (section_length : ℕ) → 1 ≤ section_length → length program.products ≤ MAX_WIRES
    → length program.opened ≤ MAX_WIRES + MAX_GATES
    → All IsShortPlace (expect.Sums (section_count program section_length) ∷ expect.Openings (length program.opened) ∷ [])
answers_short program section_length some products opened zero d below =
    let few = parts_within (length program.products) section_length some in omega (arith, few, products)
answers_short program section_length some products opened (suc zero) d below = omega (arith, opened)
answers_short program section_length some products opened (suc (suc k)) d below = absurd (omega (arith, below))
