-- What is said of an evaluation gives what its record promises.
use Rattle.std.proofs.Common.{◌≡◌, ◌⊎◌, ℕ, List, Bool, refl, ap, sym, ◌∙◌, subst, inl, inr, arith}
use Rattle.zk_model.specs.Circuit.{Circuit}
use Rattle.bristol_reader.specs.Laws.{OneCircuit}
use Rattle.command_words.specs.BitWords.{Bits}
use Rattle.command_words.specs.Words.{EvalAsk}
use Rattle.file_commands.specs.EvalRuns.{Evaluates, EvalLines, EvalStop, GivesOutputs, WritesOutputs, outputs_line}
use Rattle.file_commands.specs.Effects.{ShelfChange, Effects, OnlyLoads, IsName, HasFailed, IsDone, NameFailed}
use Rattle.file_commands.specs.Stops.{CircuitStop, IsOfStop, IsCircuitReady, PrintsMade, StatusMeans, stop_status}
use Rattle.file_commands.specs.declared.refusal.Refusal.{Refusal}
use Rattle.file_commands.specs.declared.refusal.Refusal.TheVariants as stop
use Rattle.file_commands.proofs.Causes.{told_circuit, circuit_lacks}
use Rattle.file_commands.proofs.Means.{made_means, stop_means, no_nine}

pub eval_of_circuit : (ask : EvalAsk Bits) (shelf : ShelfChange) (why : Refusal) → CircuitStop ask.circuit shelf why → EvalStop ask shelf why
eval_of_circuit ask shelf (stop.WrongBits need got) cause = absurd cause
eval_of_circuit ask shelf other cause = cause

pub says_outputs : (ask : EvalAsk Bits) (run : Effects) (outputs shown : List Bool) → shown ≡ outputs
    → GivesOutputs run.shelf.old.told ask outputs → PrintsMade 0 (outputs_line shown) run.status run.sink → EvalLines ask run
says_outputs ask run outputs shown same gives prints =
    inl (outputs, gives, subst (λ o. PrintsMade 0 (outputs_line o) run.status run.sink) same prints)

abbrev Means : EvalAsk Bits → Effects → Type 0
Means ask run = StatusMeans (WritesOutputs ask run) (EvalStop ask run.shelf) (IsName ask.circuit) run

means : (ask : EvalAsk Bits) (run : Effects) → EvalLines ask run → Means ask run
means ask run (inl says) =
    made_means (WritesOutputs ask run) (EvalStop ask run.shelf) (IsName ask.circuit) (outputs_line says.0) run
    (λ all. (says.0, says.1, all)) says.2
means ask run (inr says) =
    stop_means (WritesOutputs ask run) (EvalStop ask run.shelf) (IsName ask.circuit) run
    (λ cause. cause) (λ cause. cause) (λ count cause. cause) (λ output cause. cause) (λ failed. (ask.circuit, refl, failed)) says

statuses : (ask : EvalAsk Bits) (run : Effects) → Means ask run
    → (run.status ≡ 0) ⊎ (run.status ≡ 3) ⊎ (run.status ≡ 4) ⊎ (run.status ≡ 7)
statuses ask run (inl m) = inl m.0
statuses ask run (inr (inl m)) = inr (inl m.0)
statuses ask run (inr (inr (inl m))) = inr (inr (inl m.0))
statuses ask run (inr (inr (inr (inl at)))) = inr (inr (inr at))
statuses ask run (inr (inr (inr (inr m)))) = absurd (no_nine (EvalStop ask run.shelf) (λ need units cause. cause) m.1)

lacks : OneCircuit → (ask : EvalAsk Bits) (shelf : ShelfChange) (circuit : Circuit) → IsCircuitReady shelf.old.told ask.circuit ask.bits circuit
    → ¬ NameFailed ask.circuit shelf → (why : Refusal) → EvalStop ask shelf why → why ≡ stop.NoMemory
lacks one ask shelf circuit ready calm (stop.WrongBits need got) cause =
    let same = told_circuit one shelf.old.told ask.circuit circuit cause.circuit ready.tells ready.file cause.file in
    absurd (cause.is.2 (cause.is.0 ∙ ap (λ c. c.inputs) same ∙ sym ready.inputs ∙ sym cause.is.1))
lacks one ask shelf circuit ready calm other cause = circuit_lacks one ask.circuit shelf circuit ready.tells ready.file calm other cause

done : OneCircuit → (ask : EvalAsk Bits) (run : Effects) (circuit : Circuit) → IsCircuitReady run.shelf.old.told ask.circuit ask.bits circuit
    → ¬ HasFailed (IsName ask.circuit) run → Means ask run → IsDone run.status
done one ask run circuit ready calm means = of_means means
  where
    seven : (status : ℕ) → IsOfStop (EvalStop ask run.shelf) status → status ≡ 7
    seven status found = found.2 ∙ ap stop_status (lacks one ask run.shelf circuit ready
        (λ failed. calm (inl (ask.circuit, refl, failed))) found.0 found.1)

    of_means : Means ask run → IsDone run.status
    of_means (inl m) = inl m.0
    of_means (inr (inl m)) = let e = seven 3 m.1 in absurd (omega (arith, e))
    of_means (inr (inr (inl m))) = absurd (calm m.1)
    of_means (inr (inr (inr (inl at)))) = inr at
    of_means (inr (inr (inr (inr m)))) = let e = seven 9 m.1 in absurd (omega (arith, e))

pub evaluates : OneCircuit → (ask : EvalAsk Bits) (run : Effects) → EvalLines ask run → OnlyLoads (IsName ask.circuit) run.shelf
    → Evaluates ask run
evaluates one ask run lines kept =
    let all = means ask run lines in record {
      lines = lines;
      kept = kept;
      statuses = statuses ask run all;
      means = all;
      done = λ circuit ready calm. done one ask run circuit ready calm all;
    }
