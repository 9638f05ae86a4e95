-- `eval CIRCUIT BITS`: what it says, and what it promises of its run.
use Rattle.std.specs.Prelude.{◌≡◌, ◌≢◌, ◌⊎◌, ℕ, List, ◌++◌, codes, length, Bool, Option}
use Rattle.zk_model.specs.Circuit.{Circuit, Satisfies}
use Rattle.zk_port.specs.Files.{Files}
use Rattle.bool_eval.specs.Answers.{AreOnlyOutputs}
use Rattle.command_words.specs.BitWords.{Bits}
use Rattle.command_words.specs.BitWords.{bits_word}
use Rattle.command_words.specs.Words.{EvalAsk}
use Rattle.file_commands.specs.Effects.{ShelfChange, Effects, OnlyLoads, IsName, HasFailed, IsDone}
use Rattle.file_commands.specs.Stops.{PrintsMade, WritesAll, SaysStop, StatusMeans, HasCircuit, IsCircuitReady, CircuitStop}
use Rattle.file_commands.specs.declared.refusal.Refusal.{Refusal}
use Rattle.file_commands.specs.declared.refusal.Refusal.TheVariants.{WrongBits}

-- the outputs, on one line
abbrev pub outputs_line : List Bool → List ℕ
outputs_line outputs = bits_word outputs ++ codes "\n"

-- the circuit under the name gives these outputs at the bits, and no others
abbrev pub GivesOutputs : Option Files → EvalAsk Bits → List Bool → Type 0
GivesOutputs told ask outputs =
    HasCircuit told ask.circuit
    (λ circuit. Satisfies circuit ask.bits outputs × AreOnlyOutputs circuit ask.bits outputs)

-- why there are no outputs: the circuit has another number of inputs, or can't be had
abbrev pub EvalStop : EvalAsk Bits → ShelfChange → Refusal → Type 0
EvalStop ask shelf (WrongBits need got) =
    HasCircuit shelf.old.told ask.circuit
    (λ circuit. (need ≡ circuit.inputs) × (got ≡ length ask.bits) × (need ≢ got))
EvalStop ask shelf stop = CircuitStop ask.circuit shelf stop

-- the line of the outputs that the circuit gives is written, or that of a stop, which has its cause
abbrev pub EvalLines : EvalAsk Bits → Effects → Type 0
EvalLines ask run =
    ((outputs : List Bool) × GivesOutputs run.shelf.old.told ask outputs
    × PrintsMade 0 (outputs_line outputs) run.status run.sink)
    ⊎ SaysStop (EvalStop ask run.shelf) run

-- the line of the outputs that the circuit gives is written, and the sink did not fail
abbrev pub WritesOutputs : EvalAsk Bits → Effects → Type 0
WritesOutputs ask run =
    (outputs : List Bool) × GivesOutputs run.shelf.old.told ask outputs × WritesAll (outputs_line outputs) run.sink

-- The line of the only outputs that the circuit gives at the bits is written, or that of a stop with its cause; nothing
-- but the circuit's file is asked of the shelf; what the status says; and all is done where the shelf tells a circuit
-- that the bits fit, and nothing fails.
pub record Evaluates (ask : EvalAsk Bits) (run : Effects) : Type 0 where
  pub lines : EvalLines ask run
  pub kept : OnlyLoads (IsName ask.circuit) run.shelf
  pub statuses : (run.status ≡ 0) ⊎ (run.status ≡ 3) ⊎ (run.status ≡ 4) ⊎ (run.status ≡ 7)
  pub means : StatusMeans (WritesOutputs ask run) (EvalStop ask run.shelf) (IsName ask.circuit) run
  pub done : (circuit : Circuit) → IsCircuitReady run.shelf.old.told ask.circuit ask.bits circuit
      → ¬ HasFailed (IsName ask.circuit) run → IsDone run.status
