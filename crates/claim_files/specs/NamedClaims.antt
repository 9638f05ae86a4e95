-- Claims about circuits of either kind, as words name them: which files are loaded, which statement they are, and why there is none.
use Rattle.std.specs.Prelude.{◌≡◌, ◌≤◌, ℕ, Bool, List, All, length, Option}
use Rattle.zk_model.specs.Arithmetic.{Arith, SatisfiesElements}
use Rattle.zk_model.specs.Circuit.{Circuit}
use Rattle.zk_model.specs.Headline.{AreSatisfyingBits}
use Rattle.zk_model.specs.Statement.{Statement}
use Rattle.zk_model.specs.declared.StatementKind.{StatementKind}
use Rattle.zk_model.specs.declared.StatementKind.TheVariants.{Boolean, Arithmetic}
use Rattle.zk_port.specs.Files.{Files}
use Rattle.file_commands.specs.Effects.{ShelfChange}
use Rattle.file_commands.specs.Stops.{ClaimStop, HasCircuit, IsClaim}
use Rattle.file_commands.specs.declared.refusal.Refusal.{Refusal}
use Rattle.claim_files.specs.ArithFiles.{ArithClaimStop, HasArith, IsArithClaim, IsEither, IsElementsFile}
use Rattle.claim_files.specs.declared.claim_names.ClaimNames.{ClaimNames}
use Rattle.claim_files.specs.declared.claim_names.ClaimNames.TheVariants as names

-- the kind of its statement
abbrev pub kind_named : ClaimNames → StatementKind
kind_named (names.Boolean claim) = Boolean
kind_named (names.Arithmetic claim) = Arithmetic

-- all of them are of one kind
abbrev pub AreOfOneKind : List ClaimNames → Type 0
AreOfOneKind claims = (kind : StatementKind) × All (λ claim. kind_named claim ≡ kind) claims

-- the names of its files
abbrev pub IsClaimName : ClaimNames → List ℕ → Type 0
IsClaimName (names.Boolean claim) name = name ≡ claim.circuit
IsClaimName (names.Arithmetic claim) name = IsEither claim.circuit claim.outputs name

-- what is claimed: that some bits, behind these public ones, make a circuit give these outputs; or that some elements make an arithmetic
-- circuit give these outputs, and meet its assertions
pub data Claimed : Type 0 where
  OfBits : Circuit → List Bool → List Bool → Claimed
  OfElements : Arith → List ℕ → Claimed

-- private inputs with which it is so
abbrev pub AreSatisfying : Claimed → List ℕ → Type 0
AreSatisfying (OfBits circuit public outputs) inputs = AreSatisfyingBits circuit public outputs inputs
AreSatisfying (OfElements circuit outputs) inputs = SatisfiesElements circuit inputs outputs

-- where a shelf tells, this is what the names claim, and this its statement
abbrev pub IsClaimOf : Option Files → ClaimNames → Claimed → Statement → Type 0
IsClaimOf told (names.Boolean claim) (OfBits circuit public outputs) statement =
    (public ≡ claim.public) × (outputs ≡ claim.outputs) × IsClaim told claim.circuit public outputs circuit statement
IsClaimOf told (names.Arithmetic claim) (OfElements circuit outputs) statement =
    IsArithClaim told claim.circuit claim.outputs circuit outputs statement
IsClaimOf told claim claimed statement = ⊥

abbrev pub IsStatementOf : Option Files → ClaimNames → Statement → Type 0
IsStatementOf told claim statement = (claimed : Claimed) × IsClaimOf told claim claimed statement

-- why there is none: its circuit can't be had, or does not fit the public bits, or has another number of outputs; or these can't be had
abbrev pub LacksStatement : ClaimNames → ShelfChange → Refusal → Type 0
LacksStatement (names.Boolean claim) shelf stop = ClaimStop claim.circuit claim.public claim.outputs shelf stop
LacksStatement (names.Arithmetic claim) shelf stop = ArithClaimStop claim.circuit claim.outputs shelf stop

-- where a shelf tells, its circuit has inputs for the public bits, and as many outputs as are claimed
abbrev pub HasClaimed : Option Files → ClaimNames → Type 0
HasClaimed told (names.Boolean claim) = HasCircuit told claim.circuit
    (λ circuit. (length claim.public ≤ circuit.inputs) × (length claim.outputs ≡ circuit.outputs))
HasClaimed told (names.Arithmetic claim) = HasArith told claim.circuit
    (λ circuit. (outputs : List ℕ) × IsElementsFile told claim.outputs outputs × (length outputs ≡ circuit.outputs))
