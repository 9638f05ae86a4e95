-- `rehearse CIRCUIT BITS [--section G] [--extended] [--public BITS]`: what it hands back and says, and what it promises of its run.
use Rattle.std.specs.Prelude.{◌≡◌, ◌⊎◌, ◌<◌, ◌≤◌, ℕ, List, ◌++◌, codes, length, Bool, Option, []}
use Rattle.std.specs.Fmt.{decimal}
use Rattle.zk_model.specs.Circuit.{Circuit}
use Rattle.zk_model.specs.declared.Verdict.{Verdict}
use Rattle.zk_model.specs.declared.Verdict.TheVariants.{Accepted, RejectedSum, RejectedOpening}
use Rattle.zk_model.specs.declared.limits.TheConstants.{MAX_UNITS}
use Rattle.zk_port.specs.Files.{Files}
use Rattle.command_words.specs.BitWords.{Bits}
use Rattle.command_words.specs.BitWords.{bits_word}
use Rattle.command_words.specs.Words.{RehearseAsk}
use Rattle.command_words.specs.declared.asks.GenerateAsk.{GenerateAsk}
use Rattle.element_file.specs.Elements.{elements_word}
use Rattle.session_rehearsal.specs.Rehearsals.{IsRehearsalOf, IsWrongLength, IsRehearsalTooLarge, EndsWithVerdict}
use Rattle.session_rehearsal.specs.Rehearsals.{rehearsal_units}
use Rattle.session_rehearsal.specs.declared.rehearsal.Rehearsal.{Rehearsal}
use Rattle.file_commands.specs.Effects.{ShelfChange, SinkChange, Effects, OnlyLoads, IsName, HasFailed, SinkFailed}
use Rattle.file_commands.specs.Stops.{PrintsMade, WritesAll, SaysStop, StatusMeans, HasCircuit, HasFewInputs, IsCircuitReady, CircuitStop}
use Rattle.zk_cli.specs.declared.finish.Part.{Part}
use Rattle.zk_cli.specs.declared.finish.Part.TheVariants.{Plain, Rehearsed, RehearsedElements}
use Rattle.file_commands.specs.declared.refusal.Refusal.{Refusal}
use Rattle.file_commands.specs.declared.refusal.Refusal.TheVariants.{ManyPublic, WrongBits, TooLarge, NoMemory}
use Rattle.circuit_gen.specs.Generated.{generated_bits, generated_circuit}

-- 0 where the verifier accepts
abbrev pub verdict_status : Verdict → ℕ
verdict_status Accepted = 0
verdict_status (RejectedSum section) = 1
verdict_status (RejectedOpening output) = 1

-- what the verifier says
abbrev pub verdict_line : Verdict → List ℕ
verdict_line Accepted = codes "accepted\n"
verdict_line (RejectedSum section) = codes "rejected sum " ++ decimal section ++ codes "\n"
verdict_line (RejectedOpening output) = codes "rejected opening " ++ decimal output ++ codes "\n"

-- what a session takes: so many products, in so many sections, and so many correlations and units
abbrev pub numbers_line : ℕ → ℕ → ℕ → ℕ → List ℕ
numbers_line products sections need units =
    codes "products " ++ decimal products ++ codes " sections " ++ decimal sections
    ++ codes " correlations " ++ decimal need ++ codes " units " ++ decimal units ++ codes "\n"

-- the outputs, which are written so, the numbers and the verdict, a line each
abbrev pub lines_with : {O : Type 0} → List ℕ → Rehearsal O → List ℕ
lines_with outputs r =
    codes "outputs " ++ outputs ++ codes "\n" ++ numbers_line r.products r.sections r.need r.units ++ verdict_line r.verdict

abbrev pub rehearsal_lines : Rehearsal (List Bool) → List ℕ
rehearsal_lines r = lines_with (bits_word r.outputs) r

-- the same of an arithmetic circuit
abbrev pub arith_lines : Rehearsal (List ℕ) → List ℕ
arith_lines r = lines_with (elements_word r.outputs) r

-- this is a rehearsal of the circuit under the name: its outputs are the only ones at the bits, its numbers are the
-- defined ones, and its log is that of an honest session over the files of the seed
abbrev pub IsRehearsed : Option Files → RehearseAsk Bits → List ℕ → Rehearsal (List Bool) → Type 0
IsRehearsed told ask seed r =
    HasCircuit told ask.circuit (λ circuit. IsRehearsalOf circuit ask.public ask.bits ask.kind ask.section seed r)

-- Why there is no rehearsal, the first of these: the circuit can't be had; it has fewer inputs than there are public bits, or another
-- number of private ones; it takes too many units.
abbrev pub RehearseStop : RehearseAsk Bits → ShelfChange → Refusal → Type 0
RehearseStop ask shelf (ManyPublic inputs got) = HasCircuit shelf.old.told ask.circuit (λ circuit. HasFewInputs circuit ask.public inputs got)
RehearseStop ask shelf (WrongBits need got) =
    HasCircuit shelf.old.told ask.circuit (λ circuit. (length ask.public ≤ circuit.inputs) × IsWrongLength circuit ask.public ask.bits need got)
RehearseStop ask shelf (TooLarge need units) =
    HasCircuit shelf.old.told ask.circuit
    (λ circuit. (length ask.public ≤ circuit.inputs) × IsRehearsalTooLarge circuit ask.public ask.bits ask.kind ask.section need units)
RehearseStop ask shelf stop = CircuitStop ask.circuit shelf stop

-- such a rehearsal is handed back, and its lines are written; or nothing is, and the line of a stop is, which has its cause
abbrev pub SaysRehearsal : {L : Type 0} → (Rehearsal (List Bool) → Type 0) → (Refusal → Type 0) → Part L → Effects → Type 0
SaysRehearsal Is Stops (Rehearsed r) run =
    Is r × PrintsMade (verdict_status r.verdict) (rehearsal_lines r) run.status run.sink
SaysRehearsal Is Stops Plain run = SaysStop Stops run
SaysRehearsal Is Stops part run = ⊥

-- a rehearsal is handed back that is accepted, and its log ends so; all lines are written, and the sink did not fail
abbrev pub Accepts : {L : Type 0} → Part L → SinkChange → Type 0
Accepts (Rehearsed r) sink =
    (r.verdict ≡ Accepted) × EndsWithVerdict Accepted r.log × WritesAll (rehearsal_lines r) sink
Accepts (RehearsedElements r) sink =
    (r.verdict ≡ Accepted) × EndsWithVerdict Accepted r.log × WritesAll (arith_lines r) sink
Accepts part sink = ⊥

-- memory aside, a session that takes so many units is rehearsed and accepted exactly where they are at most 4,096
abbrev pub AnswersFor : ℕ → ℕ → Type 0
AnswersFor units status =
    ((status ≡ 0) × (units ≤ MAX_UNITS)) ⊎ ((status ≡ 9) × (MAX_UNITS < units)) ⊎ (status ≡ 7)

-- What is handed back and said, or the line of a stop with its cause; nothing but the circuit's file is asked of the
-- shelf; what the status says; and where the shelf tells a circuit that the bits fit, and nothing fails, the rehearsal
-- is accepted, unless it takes too many units.
pub record Rehearses {L : Type 0} (ask : RehearseAsk Bits) (seed : List ℕ) (part : Part L) (run : Effects) : Type 0 where
  pub lines : SaysRehearsal (IsRehearsed run.shelf.old.told ask seed) (RehearseStop ask run.shelf) part run
  pub kept : OnlyLoads (IsName ask.circuit) run.shelf
  pub means : StatusMeans (Accepts part run.sink) (RehearseStop ask run.shelf) (IsName ask.circuit) run
  pub done : (circuit : Circuit) → IsCircuitReady run.shelf.old.told ask.circuit (ask.public ++ ask.bits) circuit
      → ¬ HasFailed (IsName ask.circuit) run → AnswersFor (rehearsal_units circuit ask.public ask.kind ask.section) run.status

-- ---- `rehearse --gates N --number S [--section G] [--extended]`: of a circuit that is drawn from a number, at its input bits

-- this is a rehearsal of that circuit
abbrev pub IsGenerated : GenerateAsk → List ℕ → Rehearsal (List Bool) → Type 0
IsGenerated ask seed r = IsRehearsalOf (generated_circuit ask.gates ask.number) [] (generated_bits ask.number) ask.kind ask.section seed r

-- why there is none: it takes too many units, or memory is missing
abbrev pub GenerateStop : GenerateAsk → Refusal → Type 0
GenerateStop ask (TooLarge need units) = IsRehearsalTooLarge (generated_circuit ask.gates ask.number) [] (generated_bits ask.number) ask.kind ask.section need units
GenerateStop ask NoMemory = Unit {0}
GenerateStop ask stop = ⊥

-- the same as of a circuit's file, but for that file: nothing is asked of the shelf
pub record Generates {L : Type 0} (ask : GenerateAsk) (seed : List ℕ) (part : Part L) (run : Effects) : Type 0 where
  pub lines : SaysRehearsal (IsGenerated ask seed) (GenerateStop ask) part run
  pub kept : run.shelf.new ≡ run.shelf.old
  pub means : StatusMeans (Accepts part run.sink) (GenerateStop ask) (λ name. ⊥) run
  pub done : ¬ SinkFailed run.sink
      → AnswersFor (rehearsal_units (generated_circuit ask.gates ask.number) [] ask.kind ask.section) run.status
