-- What either end of a session is to do.
use Rattle.std.specs.Prelude.{◌≡◌, ◌<◌, ◌≤◌, ℕ, Bool, Option, None, Some, List, [], ◌∷◌, ◌++◌, map, length, slice_index_or, All}
use Rattle.zk_model.specs.Bits.{from_bit}
use Rattle.zk_model.specs.Boolean.{bits_of_products}
use Rattle.zk_model.specs.Program.{Program, correlations_needed}
use Rattle.zk_model.specs.Circuit.{Circuit, IsWellFormed, AreWireBits}
use Rattle.zk_model.specs.Statement.{Statement, circuit_statement}
use Rattle.zk_model.specs.Files.{ProverFile, VerifierFile}
use Rattle.zk_model.specs.Check.{AllBelow}
use Rattle.zk_model.specs.Transcript.{Grant, Hello, IsHelloFor, units_for}
use Rattle.zk_model.specs.ServedVerifier.{VerifierTask}
use Rattle.zk_model.specs.declared.Params.{Params}
use Rattle.zk_model.specs.declared.StatementKind.{StatementKind}
use Rattle.zk_model.specs.Arithmetic.{Arith, AreComputed}
use Rattle.zk_model.specs.Arithmetic.{IsWellFormed as IsWellFormedArith}
use Rattle.zk_model.specs.ArithProgram.{arith_program}
use Rattle.wire_auth.specs.Values.{given_from, given_made}
use Rattle.session_core.specs.declared.wire_values.WireValues.{WireValues}
use Rattle.session_core.specs.declared.wire_values.WireValues.TheVariants.{Bits, Given}
use Rattle.session_core.specs.declared.verifier_job.TooLarge.{TooLarge}
use Rattle.zk_model.specs.declared.limits.TheConstants.{MAX_SECTION_LENGTH, MAX_STATEMENTS, MAX_UNITS}

-- a statement of these parts: its kind, a program, the values of its public wires and the claimed ones, and the digests of the circuit, of the claims
-- and of the public values
abbrev pub statement_of : StatementKind → Program → List ℕ → List ℕ → List ℕ → List ℕ → List ℕ → Statement
statement_of kind program public claims circuit outputs public_digest = record {
  kind = kind;
  program = program;
  public = public;
  claims = claims;
  circuit = circuit;
  outputs = outputs;
  public_digest = public_digest;
}

-- a verifier's file and statement, and how many products its sections have
pub record VerifierJob : Type 0 where
  pub task : VerifierTask
  pub section_length : ℕ

-- the units that its session takes
abbrev pub units_of_job : VerifierJob → ℕ
units_of_job job = units_for job.task.file.params (correlations_needed job.task.statement.program job.section_length)

-- a length of sections within its limits, and few units
pub record IsVerifierJob (job : VerifierJob) : Type 0 where
  pub section_some : 1 ≤ job.section_length
  pub section_most : job.section_length ≤ MAX_SECTION_LENGTH
  pub units_most : units_of_job job ≤ MAX_UNITS

-- The jobs of a verifier over its one file, each about another statement, of which there is at least one.
pub record VerifierJobs : Type 0 where
  pub first : VerifierJob
  pub others : List VerifierJob

-- all of them
abbrev pub all_jobs : VerifierJobs → List VerifierJob
all_jobs jobs = jobs.first ∷ jobs.others

-- of one statement
abbrev pub one_job : VerifierJob → VerifierJobs
one_job job = record { first = job; others = [] }

-- the one of this number, counted from 0
abbrev pub job_at : VerifierJobs → ℕ → VerifierJob
job_at jobs n = slice_index_or (all_jobs jobs) n jobs.first

-- the one about the statement that was taken, and the first where none was
abbrev pub noted_job : VerifierJobs → Option ℕ → VerifierJob
noted_job jobs None = jobs.first
noted_job jobs (Some n) = job_at jobs n

-- they are over the file of the first, about statements of its kind, and few
pub record AreVerifierJobs (jobs : VerifierJobs) : Type 0 where
  pub one_file : All (λ job. job.task.file ≡ jobs.first.task.file) jobs.others
  pub one_kind : All (λ job. job.task.statement.kind ≡ jobs.first.task.statement.kind) jobs.others
  pub few : length (all_jobs jobs) ≤ MAX_STATEMENTS

-- a hello for the file and the statement of a job
abbrev pub IsHelloOf : VerifierJob → Hello → Type 0
IsHelloOf job hello = IsHelloFor job.task.file.id job.task.statement hello

-- the hello is for the job of this number, and for none before it
pub record IsFirstFor (jobs : VerifierJobs) (n : ℕ) (hello : Hello) : Type 0 where
  pub within : n < length (all_jobs jobs)
  pub fits : IsHelloOf (job_at jobs n) hello
  pub first : AllBelow n (λ k. ¬ IsHelloOf (job_at jobs k) hello)

-- it is for none of them
abbrev pub IsForNone : VerifierJobs → Hello → Type 0
IsForNone jobs hello = AllBelow (length (all_jobs jobs)) (λ k. ¬ IsHelloOf (job_at jobs k) hello)

-- what a hello is taken for: the first job that it is for, if there is one
abbrev pub TakesHello : VerifierJobs → Hello → Option ℕ → Type 0
TakesHello jobs hello None = IsForNone jobs hello
TakesHello jobs hello (Some n) = IsFirstFor jobs n hello

-- the grant of its units from this one on
abbrev pub granted_from : VerifierJob → ℕ → Grant
granted_from job start = record { start = start; count = units_of_job job; section_length = job.section_length }

-- a prover's statement, its file, and its given values
pub record ProverJob : Type 0 where
  pub statement : Statement
  pub file : ProverFile
  pub given : List ℕ

-- the job of a verifier with this statement, this file and sections of this length
abbrev pub verifier_of : Statement → VerifierFile → ℕ → VerifierJob
verifier_of statement file section_length =
    record { task = record { file = file; statement = statement }; section_length = section_length }

-- the job of a prover with this statement, these values of its private inputs and this file: its given values are those that the
-- statement's public values and the inputs make
abbrev pub prover_from : Statement → List ℕ → ProverFile → ProverJob
prover_from statement inputs file =
    record { statement = statement; file = file; given = given_made statement.program statement.public inputs }

-- with the given values that these bits of all wires make
abbrev pub prover_of : Statement → List Bool → ProverFile → ProverJob
prover_of statement bits file =
    record { statement = statement; file = file; given = bits_of_products statement.program.products bits }

-- they are as many as a program has wires, or given values
abbrev pub AreFor : Program → WireValues → Type 0
AreFor program (Bits bits) = length bits.items ≡ program.wires
AreFor program (Given given) = length given.items ≡ program.givens

-- the given values that they make
abbrev pub given_by : Program → WireValues → List ℕ
given_by program (Bits bits) = bits_of_products program.products bits.items
given_by program (Given given) = given.items

-- values of wires of a program, that make these given values
pub record AreWitnessValues (given : List ℕ) (program : Program) (values : WireValues) : Type 0 where
  pub whole : AreFor program values
  pub made : given ≡ given_by program values

-- The first is the second for each claim about a circuit, where the private inputs are bits and the others the bits that the circuit
-- has on all wires then.
abbrev pub InputBitsProve : Type 0
InputBitsProve = (circuit : Circuit) (digest : List ℕ) (public outputs inputs bits : List Bool) (file : ProverFile)
    → IsWellFormed circuit → length public ≤ circuit.inputs → AreWireBits circuit (public ++ inputs) bits
    → prover_from (circuit_statement circuit digest public outputs) (map from_bit inputs) file
    ≡ prover_of (circuit_statement circuit digest public outputs) bits file

-- The elements that an arithmetic circuit computes on all wires make the given values that its inputs make.
abbrev pub ElementsProve : Type 0
ElementsProve = (circuit : Arith) (inputs elements : List ℕ) → IsWellFormedArith circuit → AreComputed circuit inputs elements
    → given_made (arith_program circuit) [] inputs ≡ given_from (arith_program circuit) elements

-- as many given values as the program has
pub record IsProverJob (job : ProverJob) : Type 0 where
  pub counted : length job.given ≡ job.statement.program.givens

-- What a prover tests of a grant: a length of sections within its limits, as many units as the program then needs, and few.
pub record Suits (params : Params) (program : Program) (grant : Grant) : Type 0 where
  pub section_some : 1 ≤ grant.section_length
  pub section_most : grant.section_length ≤ MAX_SECTION_LENGTH
  pub count : grant.count ≡ units_for params (correlations_needed program grant.section_length)
  pub count_most : grant.count ≤ MAX_UNITS

-- the session of such a job would take more than 4,096 units
pub record IsTooLarge (job : VerifierJob) (found : TooLarge) : Type 0 where
  pub need : found.need ≡ correlations_needed job.task.statement.program job.section_length
  pub units : found.units ≡ units_of_job job
  pub many : MAX_UNITS < found.units
