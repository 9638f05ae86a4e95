-- What a rehearsal gives, and why there is none.
use Rattle.std.specs.Prelude.{◌≡◌, ◌≢◌, ◌<◌, ◌≤◌, ℕ, List, ◌++◌, length, map, drop, replicate, Bool}
use Rattle.zk_model.specs.Bits.{from_bit}
use Rattle.zk_model.specs.Circuit.{Circuit, IsWellFormed, AreWireBits, Satisfies, output_wire}
use Rattle.zk_model.specs.Program.{section_count, correlations_needed}
use Rattle.zk_model.specs.Boolean.{private_inputs, circuit_program}
use Rattle.zk_model.specs.Arithmetic.{Arith, IsFirstFailed, SatisfiesElements}
use Rattle.zk_model.specs.Statement.{Statement, arith_statement, circuit_statement}
use Rattle.zk_model.specs.Files.{IsProverFile, IsVerifierFile, AreDealt}
use Rattle.dealer_files.specs.Dealing.{dealt_prover, dealt_verifier}
use Rattle.zk_model.specs.Transcript.{Transcript, units_for, bytes_from, verdict_frame}
use Rattle.zk_model.specs.View.{verdict_code, verdict_number}
use Rattle.zk_model.specs.HonestProver.{ProverTask}
use Rattle.zk_model.specs.ServedVerifier.{VerifierTask}
use Rattle.zk_model.specs.BothEnds.{IsHonestSession}
use Rattle.zk_model.specs.declared.Kind.{Kind}
use Rattle.zk_model.specs.declared.Kind.TheVariants.{Direct, Extended}
use Rattle.zk_model.specs.declared.Params.{Params}
use Rattle.zk_model.specs.declared.Side.{Side}
use Rattle.zk_model.specs.declared.Side.TheVariants.{Verifier}
use Rattle.zk_model.specs.declared.Verdict.{Verdict}
use Rattle.zk_model.specs.declared.Verdict.TheVariants.{Accepted}
use Rattle.session_core.specs.Ends.{whole_grant}
use Rattle.session_rehearsal.specs.declared.rehearsal.Rehearsal.{Rehearsal}
use Rattle.session_rehearsal.specs.declared.rehearsal.ArithRehearseFault.{ArithRehearseFault}
use Rattle.session_rehearsal.specs.declared.rehearsal.ArithRehearseFault.TheVariants as arith
use Rattle.session_rehearsal.specs.declared.rehearsal.RehearseFault.{RehearseFault}
use Rattle.session_rehearsal.specs.declared.rehearsal.RehearseFault.TheVariants.{WrongLength, TooLarge, NoMemory}
use Rattle.zk_model.specs.declared.limits.TheConstants.{MAX_UNITS}

-- what the files of a rehearsal are dealt for: this many direct units, or of kind extended with 8 trees of height 10 and
-- 64 base correlations for the code
abbrev pub rehearsed_params : Kind → ℕ → Params
rehearsed_params Direct total = record { kind = Direct; height = 0; trees = 0; base = 0; total = total }
rehearsed_params Extended total = record { kind = Extended; height = 10; trees = 8; base = 64; total = total }

-- the correlations of a session about a circuit, with sections of this many products
abbrev pub rehearsal_need : Circuit → List Bool → ℕ → ℕ
rehearsal_need circuit public section = correlations_needed (circuit_program (length public) circuit) section

-- the units of this kind that give so many; how many a file has in all does not matter
abbrev pub units_rehearsed : Kind → ℕ → ℕ
units_rehearsed kind need = units_for (rehearsed_params kind 0) need

abbrev pub rehearsal_units : Circuit → List Bool → Kind → ℕ → ℕ
rehearsal_units circuit public kind section = units_rehearsed kind (rehearsal_need circuit public section)

-- the digest of a circuit's text, which a rehearsal does not have: 32 zero bytes
abbrev pub no_digest : List ℕ
no_digest = replicate 32 0

-- what the prover has: the file of the seed for so many units of a kind, the statement, and the values of its inputs
abbrev pub rehearsed_prover : Statement → List ℕ → Kind → ℕ → List ℕ → ProverTask
rehearsed_prover statement inputs kind units seed =
    record { file = dealt_prover (rehearsed_params kind units) seed; statement = statement; inputs = inputs }

-- and what the verifier has
abbrev pub rehearsed_verifier : Statement → Kind → ℕ → List ℕ → VerifierTask
rehearsed_verifier statement kind units seed = record { file = dealt_verifier (rehearsed_params kind units) seed; statement = statement }

-- the last frame of the log is the verifier's, and says this verdict
pub record EndsWithVerdict (verdict : Verdict) (log : List (Side × ℕ)) : Type 0 where
  pub before : List (Side × ℕ)
  pub ends : log ≡ before ++ bytes_from Verifier (verdict_frame (verdict_code verdict) (verdict_number verdict))

-- The numbers are those of a session about this statement in these sections, and the log is that of an honest prover with these values of
-- its inputs and a verifier, with the files that the seed gives, who accepts.
pub record IsRehearsalAbout {O : Type 0} (statement : Statement) (inputs : List ℕ) (kind : Kind) (section : ℕ) (seed : List ℕ) (r : Rehearsal O)
    : Type 0 where
  pub products : r.products ≡ length statement.program.products
  pub sections : r.sections ≡ section_count statement.program section
  pub need : r.need ≡ correlations_needed statement.program section
  pub units : r.units ≡ units_rehearsed kind (correlations_needed statement.program section)
  pub units_most : r.units ≤ MAX_UNITS
  pub transcript : Transcript
  pub session : IsHonestSession
      (rehearsed_prover statement inputs kind r.units seed)
      (rehearsed_verifier statement kind r.units seed)
      (whole_grant r.units section)
      transcript r.verdict r.log
  pub ends : EndsWithVerdict r.verdict r.log
  pub accepted : r.verdict ≡ Accepted

-- The outputs are the only ones that the circuit gives at the public bits and then the private ones, and the rehearsal is about that.
pub record IsRehearsalOf (circuit : Circuit) (public bits : List Bool) (kind : Kind) (section : ℕ) (seed : List ℕ) (r : Rehearsal (List Bool))
    : Type 0 where
  pub satisfied : Satisfies circuit (public ++ bits) r.outputs
  pub only : (others : List Bool) → Satisfies circuit (public ++ bits) others → others ≡ r.outputs
  pub about : IsRehearsalAbout (circuit_statement circuit no_digest public r.outputs) (map from_bit bits) kind section seed r

-- The outputs are the only ones that the arithmetic circuit gives at the values, which meet its assertions, and the rehearsal is about that.
pub record IsArithRehearsalOf (circuit : Arith) (values : List ℕ) (kind : Kind) (section : ℕ) (seed : List ℕ) (r : Rehearsal (List ℕ))
    : Type 0 where
  pub satisfied : SatisfiesElements circuit values r.outputs
  pub only : (others : List ℕ) → SatisfiesElements circuit values others → others ≡ r.outputs
  pub about : IsRehearsalAbout (arith_statement circuit no_digest r.outputs) values kind section seed r

-- the bits are not as many as the private inputs
pub record IsWrongLength (circuit : Circuit) (public bits : List Bool) (need got : ℕ) : Type 0 where
  pub needed : need ≡ private_inputs (length public) circuit
  pub given : got ≡ length bits
  pub differ : need ≢ got

-- the bits are as many as the private inputs, and the session takes too many units
pub record IsRehearsalTooLarge (circuit : Circuit) (public bits : List Bool) (kind : Kind) (section need units : ℕ) : Type 0 where
  pub inputs : length bits ≡ private_inputs (length public) circuit
  pub needed : need ≡ rehearsal_need circuit public section
  pub counted : units ≡ rehearsal_units circuit public kind section
  pub many : MAX_UNITS < units

-- why there is no rehearsal
abbrev pub RehearseCause : Circuit → List Bool → List Bool → Kind → ℕ → RehearseFault → Type 0
RehearseCause circuit public bits kind section (WrongLength need got) = IsWrongLength circuit public bits need got
RehearseCause circuit public bits kind section (TooLarge need units) = IsRehearsalTooLarge circuit public bits kind section need units
RehearseCause circuit public bits kind section NoMemory = Unit {0}

-- a session about a statement takes so many correlations, and too many units
pub record IsTooLargeAbout (statement : Statement) (kind : Kind) (section need units : ℕ) : Type 0 where
  pub needed : need ≡ correlations_needed statement.program section
  pub counted : units ≡ units_rehearsed kind (correlations_needed statement.program section)
  pub many : MAX_UNITS < units

-- why there is none about a statement
abbrev pub AboutCause : Statement → Kind → ℕ → RehearseFault → Type 0
AboutCause statement kind section (WrongLength need got) = ⊥
AboutCause statement kind section (TooLarge need units) = IsTooLargeAbout statement kind section need units
AboutCause statement kind section NoMemory = Unit {0}

-- Why there is none of an arithmetic circuit: there are more or fewer values than inputs; this assertion is the first that is not met; they
-- are all met, and the session takes too many units.
abbrev pub ArithRehearseCause : Arith → List ℕ → Kind → ℕ → ArithRehearseFault → Type 0
ArithRehearseCause circuit values kind section (arith.WrongLength need got) =
    (need ≡ circuit.inputs) × (got ≡ length values) × (need ≢ got)
ArithRehearseCause circuit values kind section (arith.AssertFailed assert value) = IsFirstFailed circuit values assert value
ArithRehearseCause circuit values kind section (arith.TooLarge need units) =
    (outputs : List ℕ) × SatisfiesElements circuit values outputs
    × IsTooLargeAbout (arith_statement circuit no_digest outputs) kind section need units
ArithRehearseCause circuit values kind section arith.NoMemory = Unit {0}

-- the statement is that the circuit gives these outputs, which are the last of the bits that it has on its wires at the public
-- inputs and then the private ones
pub record IsClaimed (circuit : Circuit) (public inputs bits outputs : List Bool) (statement : Statement) : Type 0 where
  pub formed : IsWellFormed circuit
  pub few : length public ≤ circuit.inputs
  pub met : AreWireBits circuit (public ++ inputs) bits
  pub last : outputs ≡ drop (output_wire circuit 0) bits
  pub stated : statement ≡ circuit_statement circuit no_digest public outputs

-- the two files that the seed gives are files as they are read, and dealt together
pub record AreRehearsedFiles (kind : Kind) (units : ℕ) (seed : List ℕ) : Type 0 where
  pub prover : IsProverFile (dealt_prover (rehearsed_params kind units) seed)
  pub verifier : IsVerifierFile (dealt_verifier (rehearsed_params kind units) seed)
  pub dealt : AreDealt (dealt_prover (rehearsed_params kind units) seed) (dealt_verifier (rehearsed_params kind units) seed)
