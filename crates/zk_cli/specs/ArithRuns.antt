-- `rehearse-arith CIRCUIT VALUES [--section G] [--extended]`: what it hands back and says, and what it promises of its run.
use Rattle.std.specs.Prelude.{◌≡◌, ◌≢◌, ◌⊎◌, ℕ, List, Option, None}
use Rattle.zk_model.specs.Arithmetic.{Arith, SatisfiesElements}
use Rattle.zk_model.specs.ArithProgram.{arith_program}
use Rattle.zk_model.specs.Program.{correlations_needed}
use Rattle.zk_model.specs.Statement.{arith_statement}
use Rattle.zk_port.specs.Files.{Files}
use Rattle.command_words.specs.Words.{RehearseArithAsk}
use Rattle.session_rehearsal.specs.Rehearsals.{IsArithRehearsalOf, IsTooLargeAbout, no_digest, units_rehearsed}
use Rattle.session_rehearsal.specs.declared.rehearsal.Rehearsal.{Rehearsal}
use Rattle.claim_files.specs.ArithFiles.{ArithStop, ElementsStop, HasArith, IsArithFile, IsEither, IsElementsFile}
use Rattle.file_commands.specs.Effects.{Effects, HasFailed, OnlyLoads, ShelfChange}
use Rattle.file_commands.specs.Stops.{IsOfStop, PrintsMade, SaysStop}
use Rattle.file_commands.specs.declared.refusal.Refusal.{Refusal}
use Rattle.file_commands.specs.declared.refusal.Refusal.TheVariants.{Unsatisfied, TooLarge}
use Rattle.prove_command.specs.ElementsProofs.{IsUnmetAt}
use Rattle.zk_cli.specs.RehearseRuns.{Accepts, AnswersFor, arith_lines, verdict_status}
use Rattle.zk_cli.specs.declared.finish.Part.{Part}
use Rattle.zk_cli.specs.declared.finish.Part.TheVariants.{Plain, RehearsedElements}

-- where a shelf tells, the texts under both names say a circuit and values of which this holds
pub record HasValues (told : Option Files) (ask : RehearseArithAsk) (Holds : Arith → List ℕ → Type 0) : Type 0 where
  pub circuit : Arith
  pub file : IsArithFile told ask.circuit circuit
  pub values : List ℕ
  pub values_file : IsElementsFile told ask.values values
  pub is : Holds circuit values

-- this is a rehearsal of the circuit under the name, at the values: its outputs are the only ones there, its numbers are the defined ones,
-- and its log is that of an honest session over the files of the seed
abbrev pub IsArithRehearsed : Option Files → RehearseArithAsk → List ℕ → Rehearsal (List ℕ) → Type 0
IsArithRehearsed told ask seed r =
    HasValues told ask (λ circuit values. IsArithRehearsalOf circuit values ask.kind ask.section seed r)

-- they meet all, and the session takes too many units
pub record IsArithTooLarge (ask : RehearseArithAsk) (circuit : Arith) (values : List ℕ) (need units : ℕ) : Type 0 where
  pub outputs : List ℕ
  pub satisfied : SatisfiesElements circuit values outputs
  pub large : IsTooLargeAbout (arith_statement circuit no_digest outputs) ask.kind ask.section need units

-- Why there is no rehearsal, the first of these: the circuit can't be had; nor the values, as many as it has inputs; an assertion is not
-- met; it takes too many units.
abbrev pub ArithRehearseStop : RehearseArithAsk → ShelfChange → Refusal → Type 0
ArithRehearseStop ask shelf (Unsatisfied place) = HasValues shelf.old.told ask (λ circuit values. IsUnmetAt circuit values place)
ArithRehearseStop ask shelf (TooLarge need units) =
    HasValues shelf.old.told ask (λ circuit values. IsArithTooLarge ask circuit values need units)
ArithRehearseStop ask shelf other = ArithStop ask.circuit shelf other
    ⊎ HasArith shelf.old.told ask.circuit (λ circuit. ElementsStop ask.values circuit.inputs shelf other)

-- such a rehearsal is handed back, and its lines are written; or nothing is, and the line of a stop is, which has its cause
abbrev pub SaysArithRehearsal : {L : Type 0} → RehearseArithAsk → List ℕ → Part L → Effects → Type 0
SaysArithRehearsal ask seed (RehearsedElements r) run =
    IsArithRehearsed run.shelf.old.told ask seed r
    × PrintsMade (verdict_status r.verdict) (arith_lines r) run.status run.sink
SaysArithRehearsal ask seed Plain run = SaysStop (ArithRehearseStop ask run.shelf) run
SaysArithRehearsal ask seed part run = ⊥

-- What the status says. 0: the rehearsal is accepted, and its lines are written; that of a stop which has its cause; 4: a call for one of
-- the names failed, or one of the sink; 7: no memory.
abbrev pub ArithMeans : {L : Type 0} → RehearseArithAsk → Part L → Effects → Type 0
ArithMeans ask part run =
    ((run.status ≡ 0) × Accepts part run.sink)
    ⊎ IsOfStop (ArithRehearseStop ask run.shelf) run.status
    ⊎ ((run.status ≡ 4) × HasFailed (IsEither ask.circuit ask.values) run)
    ⊎ (run.status ≡ 7)

-- a shelf that tells has this circuit and these values, which satisfy it
pub record IsArithReady (told : Option Files) (ask : RehearseArithAsk) (circuit : Arith) : Type 0 where
  pub tells : told ≢ None
  pub file : IsArithFile told ask.circuit circuit
  pub values : List ℕ
  pub values_file : IsElementsFile told ask.values values
  pub outputs : List ℕ
  pub satisfied : SatisfiesElements circuit values outputs

-- the units of a session about a circuit
abbrev pub arith_units : Arith → RehearseArithAsk → ℕ
arith_units circuit ask = units_rehearsed ask.kind (correlations_needed (arith_program circuit) ask.section)

-- What is handed back and said, or the line of a stop with its cause; nothing but both files is asked of the shelf; what the status says;
-- and where the shelf tells a circuit and values that satisfy it, and nothing fails, the rehearsal is accepted, unless it takes too many
-- units.
pub record RehearsesArith {L : Type 0} (ask : RehearseArithAsk) (seed : List ℕ) (part : Part L) (run : Effects) : Type 0 where
  pub lines : SaysArithRehearsal ask seed part run
  pub kept : OnlyLoads (IsEither ask.circuit ask.values) run.shelf
  pub means : ArithMeans ask part run
  pub done : (circuit : Arith) → IsArithReady run.shelf.old.told ask circuit
      → ¬ HasFailed (IsEither ask.circuit ask.values) run → AnswersFor (arith_units circuit ask) run.status
