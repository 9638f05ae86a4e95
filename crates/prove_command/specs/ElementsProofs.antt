-- Proofs that some elements make an arithmetic circuit give outputs and meet its assertions.
use Rattle.std.specs.Prelude.{◌≡◌, ◌≢◌, ◌⊎◌, ◌+◌, ◌++◌, ℕ, List, take, get_or, length, Option}
use Rattle.arith_eval.specs.Answers.{AreOnlyOutputs, products_in}
use Rattle.zk_model.specs.Arithmetic.{Arith, AreComputed, IsFirstFailed, SatisfiesElements}
use Rattle.zk_model.specs.HonestProver.{IsWitness}
use Rattle.zk_model.specs.Statement.{Statement}
use Rattle.zk_port.specs.Files.{Files}
use Rattle.session_core.specs.Jobs.{ProverJob, prover_from}
use Rattle.claim_files.specs.ArithFiles.{ArithStop, ElementsStop, HasArith, IsArithClaim, IsElementsFile}
use Rattle.file_commands.specs.Effects.{ShelfChange}
use Rattle.file_commands.specs.declared.refusal.Refusal.{Refusal}
use Rattle.file_commands.specs.declared.refusal.Refusal.TheVariants.{Unsatisfied, NoMemory}
use Rattle.prove_command.specs.NamedProofs.{ElementsProof}

-- where a shelf tells, this claim stands under the names of the circuit and of the outputs, and these elements under that of the values;
-- at them the circuit gives the outputs, and its assertions are met
pub record IsSolved (told : Option Files) (proof : ElementsProof) (circuit : Arith) (statement : Statement) (inputs : List ℕ)
    : Type 0 where
  pub outputs : List ℕ
  pub claim : IsArithClaim told proof.circuit proof.outputs circuit outputs statement
  pub values : IsElementsFile told proof.values inputs
  pub satisfied : SatisfiesElements circuit inputs outputs

-- the inputs, and then the elements that the circuit computes of them on the wires that products set
abbrev pub AreGivenValues : Arith → List ℕ → List ℕ → Type 0
AreGivenValues circuit inputs given =
    (elements : List ℕ) × AreComputed circuit inputs elements × (given ≡ inputs ++ products_in elements circuit.gates)

-- a prover is to prove the claim by the elements: there are values of all wires then, which are what proves the statement
pub record IsElementsJob (told : Option Files) (proof : ElementsProof) (job : ProverJob) : Type 0 where
  pub circuit : Arith
  pub inputs : List ℕ
  pub solved : IsSolved told proof circuit job.statement inputs
  pub job_is : job ≡ prover_from job.statement inputs job.file
  pub wires : List ℕ
  pub witness : IsWitness job.statement inputs wires job.given

-- ---- why the elements prove nothing

-- the first assertion of the circuit that the values do not meet is said by its number behind the outputs
pub record IsUnmetAt (circuit : Arith) (values : List ℕ) (place : ℕ) : Type 0 where
  pub assert : ℕ
  pub value : ℕ
  pub failed : IsFirstFailed circuit values assert value
  pub place_is : place ≡ circuit.outputs + assert

-- this is the first place where two lists of elements differ
pub record ElementDiffersFirst (place : ℕ) (some others : List ℕ) : Type 0 where
  pub same : take place some ≡ take place others
  pub differs : get_or some place 0 ≢ get_or others place 0

-- the circuit gives these outputs at the values, and no others, and its assertions are met; this is the first output that differs from the
-- claimed one
pub record GivesOtherElements (circuit : Arith) (values claimed : List ℕ) (output : ℕ) : Type 0 where
  pub outputs : List ℕ
  pub gives : SatisfiesElements circuit values outputs
  pub only : AreOnlyOutputs circuit values outputs
  pub differs : ElementDiffersFirst output outputs claimed

-- why values do not make a circuit give these outputs: they do not meet an assertion; or they meet all, and the circuit gives others
abbrev pub ValuesStop : Arith → List ℕ → List ℕ → Refusal → Type 0
ValuesStop circuit values outputs (Unsatisfied place) =
    IsUnmetAt circuit values place ⊎ GivesOtherElements circuit values outputs place
ValuesStop circuit values outputs NoMemory = Unit {0}
ValuesStop circuit values outputs stop = ⊥

-- where a shelf tells, the text under the name says elements, so many, of which this holds
pub record HasElements (told : Option Files) (name : List ℕ) (count : ℕ) (Holds : List ℕ → Type 0) : Type 0 where
  pub elements : List ℕ
  pub file : IsElementsFile told name elements
  pub counted : length elements ≡ count
  pub is : Holds elements

-- why a circuit gives no outputs that the elements prove, the first of these: the file of the values does not give as many as it has
-- inputs; that of the outputs not as many as it has; or the values do not make it give these
abbrev pub SolvedStop : Arith → ElementsProof → ShelfChange → Refusal → Type 0
SolvedStop circuit proof shelf stop = ElementsStop proof.values circuit.inputs shelf stop
    ⊎ HasElements shelf.old.told proof.values circuit.inputs (λ values. ElementsStop proof.outputs circuit.outputs shelf stop
    ⊎ HasElements shelf.old.told proof.outputs circuit.outputs (λ outputs. ValuesStop circuit values outputs stop))

-- why there is no claim that they prove: the circuit can't be had, or gives no such outputs
abbrev pub ElementsProofStop : ElementsProof → ShelfChange → Refusal → Type 0
ElementsProofStop proof shelf stop = ArithStop proof.circuit shelf stop
    ⊎ HasArith shelf.old.told proof.circuit (λ circuit. SolvedStop circuit proof shelf stop)

-- ---- where they do

-- where a shelf tells, values stand under their name, and outputs under theirs, which the circuit gives at them
pub record HasSolution (told : Option Files) (proof : ElementsProof) (circuit : Arith) : Type 0 where
  pub values : List ℕ
  pub values_file : IsElementsFile told proof.values values
  pub outputs : List ℕ
  pub outputs_file : IsElementsFile told proof.outputs outputs
  pub satisfied : SatisfiesElements circuit values outputs
