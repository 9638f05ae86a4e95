-- Why claims can't be had, and what is not a cause where a shelf tells what is wanted.
use Rattle.std.proofs.Common.{◌≡◌, ℕ, List, None, refl, inl, inr}
use Rattle.std.specs.Prelude.{◌≢◌}
use Rattle.bristol_reader.specs.Laws.{OneCircuit}
use Rattle.arith_reader.specs.Laws.{TextsAreExact}
use Rattle.element_file.specs.Laws.{ElementsAreExact}
use Rattle.file_commands.specs.Effects.{ShelfChange, NameFailed}
use Rattle.file_commands.specs.declared.refusal.Refusal.{Refusal}
use Rattle.file_commands.specs.declared.refusal.Refusal.TheVariants as stop
use Rattle.file_commands.proofs.Causes.{claim_lacks}
use Rattle.claim_files.specs.NamedClaims.{HasClaimed, IsClaimName, LacksStatement}
use Rattle.claim_files.specs.declared.claim_names.ClaimNames.{ClaimNames}
use Rattle.claim_files.specs.declared.claim_names.ClaimNames.TheVariants as names
use Rattle.claim_files.proofs.ArithCauses.{arith_claim_lacks}

-- where what is claimed about stands there, and no call failed, only memory can be wanting
pub statement_lacks : OneCircuit → TextsAreExact → ElementsAreExact → (claim : ClaimNames) (shelf : ShelfChange) → shelf.old.told ≢ None
    → HasClaimed shelf.old.told claim → ((name : List ℕ) → IsClaimName claim name → ¬ NameFailed name shelf) → (why : Refusal)
    → LacksStatement claim shelf why → why ≡ stop.NoMemory
statement_lacks one texts exact (names.Boolean claim) shelf tells ready calm why cause =
    claim_lacks one claim.circuit claim.public claim.outputs shelf tells ready (calm claim.circuit refl) why cause
statement_lacks one texts exact (names.Arithmetic claim) shelf tells ready calm why cause =
    arith_claim_lacks texts exact claim.circuit claim.outputs shelf ready.circuit ready.is.0 tells ready.file ready.is.1 ready.is.2
    (calm claim.circuit (inl refl)) (calm claim.outputs (inr refl)) why cause

-- nothing is evaluated where a claim is loaded
pub not_unsatisfied : (claim : ClaimNames) (shelf : ShelfChange) (output : ℕ) → LacksStatement claim shelf (stop.Unsatisfied output) → ⊥
not_unsatisfied (names.Boolean claim) shelf output cause = absurd cause
not_unsatisfied (names.Arithmetic claim) shelf output (inl cause) = absurd cause
not_unsatisfied (names.Arithmetic claim) shelf output (inr cause) = absurd cause.is

-- nor are words read
pub not_usage : (claim : ClaimNames) (shelf : ShelfChange) → LacksStatement claim shelf stop.Usage → ⊥
not_usage (names.Boolean claim) shelf cause = absurd cause
not_usage (names.Arithmetic claim) shelf (inl cause) = absurd cause
not_usage (names.Arithmetic claim) shelf (inr cause) = absurd cause.is
