-- Proofs that some bits, behind public ones, make a Boolean circuit give outputs.
use Rattle.std.specs.Prelude.{◌≡◌, ◌≢◌, ◌⊎◌, ◌≤◌, ◌++◌, ℕ, List, map, take, get_or, length, Bool, false, Option}
use Rattle.bool_eval.specs.Answers.{AreOnlyOutputs}
use Rattle.zk_model.specs.Bits.{from_bit}
use Rattle.zk_model.specs.Circuit.{Circuit, AreWireBits, Satisfies}
use Rattle.zk_model.specs.Files.{ProverFile}
use Rattle.zk_model.specs.HonestProver.{IsWitness}
use Rattle.zk_model.specs.Statement.{Statement}
use Rattle.zk_port.specs.Files.{Files}
use Rattle.session_core.specs.Jobs.{ProverJob, prover_from, prover_of}
use Rattle.session_rehearsal.specs.Rehearsals.{IsWrongLength}
use Rattle.file_commands.specs.Effects.{ShelfChange}
use Rattle.file_commands.specs.Stops.{HasCircuit, HasFewInputs, IsClaim, CircuitStop}
use Rattle.file_commands.specs.declared.refusal.Refusal.{Refusal}
use Rattle.file_commands.specs.declared.refusal.Refusal.TheVariants.{ManyPublic, WrongBits, WrongOutputs, Unsatisfied, NoMemory}
use Rattle.prove_command.specs.NamedProofs.{BitsProof}

-- where a shelf tells, this claim stands under the circuit's name, and at the bits the circuit gives the claimed outputs: these are the bits
-- of all wires then, and they are what proves the statement
pub record IsWitnessed
    (told : Option Files)
    (proof : BitsProof)
    (circuit : Circuit)
    (statement : Statement)
    (wires : List Bool) : Type 0 where
  pub claim : IsClaim told proof.circuit proof.public proof.outputs circuit statement
  pub wires_are : AreWireBits circuit (proof.public ++ proof.bits) wires
  pub satisfied : Satisfies circuit (proof.public ++ proof.bits) proof.outputs
  pub witness : (file : ProverFile)
      → IsWitness statement (map from_bit proof.bits) (map from_bit wires) (prover_of statement wires file).given

-- there is such a circuit, these are its bits, and with these values of the inputs a prover has the given values that the bits make
pub record HasWires (told : Option Files) (proof : BitsProof) (statement : Statement) (inputs : List ℕ) (wires : List Bool)
    : Type 0 where
  pub circuit : Circuit
  pub witnessed : IsWitnessed told proof circuit statement wires
  pub proves : (file : ProverFile) → prover_from statement inputs file ≡ prover_of statement wires file

-- a prover is to prove the claim by the bits
pub record IsBitsJob (told : Option Files) (proof : BitsProof) (job : ProverJob) : Type 0 where
  pub circuit : Circuit
  pub wires : List Bool
  pub witnessed : IsWitnessed told proof circuit job.statement wires
  pub job_is : job ≡ prover_of job.statement wires job.file

-- ---- why the bits prove nothing

-- this is the first place where two lists of bits differ
pub record BitDiffersFirst (place : ℕ) (some others : List Bool) : Type 0 where
  pub same : take place some ≡ take place others
  pub differs : get_or some place false ≢ get_or others place false

-- the circuit gives these outputs at the bits, and no others; as many are claimed, and this is the first that differs
pub record GivesOther (circuit : Circuit) (proof : BitsProof) (output : ℕ) : Type 0 where
  pub outputs : List Bool
  pub gives : Satisfies circuit (proof.public ++ proof.bits) outputs
  pub only : AreOnlyOutputs circuit (proof.public ++ proof.bits) outputs
  pub count : length proof.outputs ≡ circuit.outputs
  pub differs : BitDiffersFirst output outputs proof.outputs

-- Why a circuit has no bits of all wires that prove the claim, the first of these: it has fewer inputs than there are public bits, or
-- another number of private inputs, or of outputs, or gives other outputs.
abbrev pub WiresStop : Circuit → BitsProof → Refusal → Type 0
WiresStop circuit proof (ManyPublic inputs got) = HasFewInputs circuit proof.public inputs got
WiresStop circuit proof (WrongBits need got) =
    (length proof.public ≤ circuit.inputs) × IsWrongLength circuit proof.public proof.bits need got
WiresStop circuit proof (WrongOutputs need got) = (length (proof.public ++ proof.bits) ≡ circuit.inputs) × (need ≡ circuit.outputs)
    × (got ≡ length proof.outputs) × (need ≢ got)
WiresStop circuit proof (Unsatisfied output) = GivesOther circuit proof output
WiresStop circuit proof NoMemory = Unit {0}
WiresStop circuit proof stop = ⊥

-- why there is no claim that the bits prove: the circuit can't be had, or has no such bits
abbrev pub BitsProofStop : BitsProof → ShelfChange → Refusal → Type 0
BitsProofStop proof shelf stop = CircuitStop proof.circuit shelf stop
    ⊎ HasCircuit shelf.old.told proof.circuit (λ circuit. WiresStop circuit proof stop)

-- ---- where they do

-- the circuit has as many inputs as there are bits, and gives the claimed outputs at them
pub record IsSatisfied (proof : BitsProof) (circuit : Circuit) : Type 0 where
  pub inputs : length (proof.public ++ proof.bits) ≡ circuit.inputs
  pub outputs : length proof.outputs ≡ circuit.outputs
  pub satisfied : Satisfies circuit (proof.public ++ proof.bits) proof.outputs
