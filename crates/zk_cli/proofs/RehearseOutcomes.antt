-- What is handed back and said of a rehearsal gives what its record promises.
use Rattle.std.proofs.Common.{◌≡◌, ◌⊎◌, ◌<◌, ◌≤◌, ◌-◌, ◌++◌, ℕ, Bool, List, length, refl, ap, sym, ◌∙◌, subst, inl, inr, arith, []}
use Rattle.std.proofs.lemmas.List.{length-append}
use Rattle.zk_model.specs.Circuit.{Circuit}
use Rattle.zk_model.specs.declared.limits.TheConstants.{MAX_UNITS}
use Rattle.bristol_reader.specs.Laws.{OneCircuit}
use Rattle.command_words.specs.BitWords.{Bits}
use Rattle.command_words.specs.Words.{RehearseAsk}
use Rattle.command_words.specs.declared.asks.GenerateAsk.{GenerateAsk}
use Rattle.session_rehearsal.specs.Rehearsals.{EndsWithVerdict, rehearsal_units}
use Rattle.zk_cli.specs.RehearseRuns.{Rehearses, RehearseStop, Accepts, AnswersFor, verdict_status, rehearsal_lines, SaysRehearsal, IsRehearsed, IsGenerated, GenerateStop, Generates}
use Rattle.file_commands.specs.Effects.{ShelfChange, Effects, OnlyLoads, IsName, HasFailed, NameFailed, SinkFailed}
use Rattle.file_commands.specs.Stops.{CircuitStop, IsOfStop, IsCircuitReady, PrintsMade, StatusMeans, stop_status, SaysStop}
use Rattle.zk_cli.specs.declared.finish.Part.{Part}
use Rattle.zk_cli.specs.declared.finish.Part.TheVariants.{Brokered, Plain, Proved, Rehearsed, RehearsedClaim, RehearsedElements, Served}
use Rattle.file_commands.specs.declared.refusal.Refusal.{Refusal}
use Rattle.file_commands.specs.declared.refusal.Refusal.TheVariants as stop
use Rattle.file_commands.proofs.Causes.{told_circuit, circuit_lacks}
use Rattle.file_commands.proofs.Means.{made_means, stop_means}
use Rattle.circuit_gen.specs.Generated.{generated_circuit}
use Rattle.zk_model.specs.declared.Verdict.TheVariants.{Accepted}
use Rattle.session_rehearsal.specs.declared.rehearsal.Rehearsal.{Rehearsal}

pub rehearse_of_circuit : (ask : RehearseAsk Bits) (shelf : ShelfChange) (why : Refusal) → CircuitStop ask.circuit shelf why
    → RehearseStop ask shelf why
rehearse_of_circuit ask shelf (stop.ManyPublic inputs got) cause = absurd cause
rehearse_of_circuit ask shelf (stop.WrongBits need got) cause = absurd cause
rehearse_of_circuit ask shelf (stop.TooLarge need units) cause = absurd cause
rehearse_of_circuit ask shelf other cause = cause

abbrev Lines : {L : Type 0} → RehearseAsk Bits → List ℕ → Part L → Effects → Type 0
Lines ask seed part run = SaysRehearsal (IsRehearsed run.shelf.old.told ask seed) (RehearseStop ask run.shelf) part run

abbrev Means : {L : Type 0} → RehearseAsk Bits → Part L → Effects → Type 0
Means ask part run = StatusMeans (Accepts part run.sink) (RehearseStop ask run.shelf) (IsName ask.circuit) run

-- what the status says of any rehearsal that is accepted, and of a stop
rehearsal_means : {L : Type 0} (Is : Rehearsal (List Bool) → Type 0) (Stops : Refusal → Type 0) (IsNamed : List ℕ → Type 0) (part : Part L) (run : Effects)
    → ((r : Rehearsal (List Bool)) → Is r → (r.verdict ≡ Accepted) × EndsWithVerdict r.verdict r.log)
    → (SaysStop Stops run → StatusMeans (Accepts {L = L} Plain run.sink) Stops IsNamed run)
    → SaysRehearsal Is Stops part run → StatusMeans (Accepts part run.sink) Stops IsNamed run
rehearsal_means {L} Is Stops IsNamed (Rehearsed r) run accepts stops lines =
    let is = accepts r lines.0 in
    made_means (Accepts {L = L} (Rehearsed r) run.sink) Stops IsNamed (rehearsal_lines r) run
    (λ all. (is.0, subst (λ v. EndsWithVerdict v r.log) is.0 is.1, all))
    (subst (λ v. PrintsMade (verdict_status v) (rehearsal_lines r) run.status run.sink) is.0 lines.1)
rehearsal_means Is Stops IsNamed Plain run accepts stops lines = stops lines
rehearsal_means Is Stops IsNamed (Served notes) run accepts stops lines = absurd lines
rehearsal_means Is Stops IsNamed (Proved note) run accepts stops lines = absurd lines
rehearsal_means Is Stops IsNamed (RehearsedClaim r) run accepts stops lines = absurd lines
rehearsal_means Is Stops IsNamed (Brokered notes) run accepts stops lines = absurd lines
rehearsal_means Is Stops IsNamed (RehearsedElements r) run accepts stops lines = absurd lines

means : {L : Type 0} (ask : RehearseAsk Bits) (seed : List ℕ) (part : Part L) (run : Effects) → Lines ask seed part run
    → Means ask part run
means {L} ask seed part run lines =
    rehearsal_means (IsRehearsed run.shelf.old.told ask seed) (RehearseStop ask run.shelf) (IsName ask.circuit) part run
    (λ r is. (is.is.about.accepted, is.is.about.ends))
    (stop_means (Accepts {L = L} Plain run.sink) (RehearseStop ask run.shelf) (IsName ask.circuit) run
    (λ cause. cause) (λ cause. cause) (λ count cause. cause) (λ output cause. cause) (λ failed. (ask.circuit, refl, failed))) lines

-- why a run stops that a shelf tells a fitting circuit: for want of memory, or since it takes too many units
lacks : OneCircuit → (ask : RehearseAsk Bits) (shelf : ShelfChange) (circuit : Circuit)
    → IsCircuitReady shelf.old.told ask.circuit (ask.public ++ ask.bits) circuit → ¬ NameFailed ask.circuit shelf → (why : Refusal) → RehearseStop ask shelf why
    → (stop_status why ≡ 7) ⊎ ((stop_status why ≡ 9) × (MAX_UNITS < rehearsal_units circuit ask.public ask.kind ask.section))
lacks one ask shelf circuit ready calm (stop.ManyPublic inputs got) cause =
    let same = ap (λ c. c.inputs) (told_circuit one shelf.old.told ask.circuit circuit cause.circuit ready.tells ready.file cause.file) in
    let whole = length-append ask.public ask.bits in
    let fits = ready.inputs in
    let has = cause.is.has in
    let given = cause.is.given in
    let beyond = cause.is.beyond in
    absurd (omega (arith, same, whole, fits, has, given, beyond))
lacks one ask shelf circuit ready calm (stop.WrongBits need got) cause =
    let same = told_circuit one shelf.old.told ask.circuit circuit cause.circuit ready.tells ready.file cause.file in
    let inputs = ap (λ c. c.inputs) same in
    let whole = length-append ask.public ask.bits in
    let fits = ready.inputs in
    let all : cause.circuit.inputs - length ask.public ≡ length ask.bits = omega (arith, inputs, whole, fits) in
    absurd (cause.is.1.differ (cause.is.1.needed ∙ all ∙ sym cause.is.1.given))
lacks one ask shelf circuit ready calm (stop.TooLarge need units) cause =
    let same = told_circuit one shelf.old.told ask.circuit circuit cause.circuit ready.tells ready.file cause.file in
    inr (
      refl,
      subst (λ c. MAX_UNITS < rehearsal_units c ask.public ask.kind ask.section) same (subst (λ n. MAX_UNITS < n) cause.is.1.counted cause.is.1.many),
    )
lacks one ask shelf circuit ready calm other cause =
    inl (ap stop_status (circuit_lacks one ask.circuit shelf circuit ready.tells ready.file calm other cause))

-- a rehearsal that is handed back takes few enough units
few_units : {L : Type 0} → OneCircuit → (ask : RehearseAsk Bits) (seed : List ℕ) (part : Part L) (run : Effects) (circuit : Circuit)
    → IsCircuitReady run.shelf.old.told ask.circuit (ask.public ++ ask.bits) circuit → Lines ask seed part run → Accepts part run.sink
    → rehearsal_units circuit ask.public ask.kind ask.section ≤ MAX_UNITS
few_units one ask seed (Rehearsed r) run circuit ready lines accepts =
    let made = lines.0 in
    let same = told_circuit one run.shelf.old.told ask.circuit circuit made.circuit ready.tells ready.file made.file in
    subst (λ c. rehearsal_units c ask.public ask.kind ask.section ≤ MAX_UNITS) same (subst (λ n. n ≤ MAX_UNITS) made.is.about.units made.is.about.units_most)
few_units one ask seed Plain run circuit ready lines accepts = absurd accepts
few_units one ask seed (Served notes) run circuit ready lines accepts = absurd accepts
few_units one ask seed (Proved note) run circuit ready lines accepts = absurd accepts
few_units one ask seed (RehearsedClaim r) run circuit ready lines accepts = absurd accepts
few_units one ask seed (Brokered notes) run circuit ready lines accepts = absurd accepts
few_units one ask seed (RehearsedElements r) run circuit ready lines accepts = absurd lines

done : {L : Type 0} → OneCircuit → (ask : RehearseAsk Bits) (seed : List ℕ) (part : Part L) (run : Effects) (circuit : Circuit)
    → Lines ask seed part run → IsCircuitReady run.shelf.old.told ask.circuit (ask.public ++ ask.bits) circuit → ¬ HasFailed (IsName ask.circuit) run
    → Means ask part run → AnswersFor (rehearsal_units circuit ask.public ask.kind ask.section) run.status
done {L} one ask seed part run circuit lines ready calm means = of_means means
  where
    of_stop : (status : ℕ) → IsOfStop (RehearseStop ask run.shelf) status
        → (status ≡ 7) ⊎ ((status ≡ 9) × (MAX_UNITS < rehearsal_units circuit ask.public ask.kind ask.section))
    of_stop status found =
        elim (lacks one ask run.shelf circuit ready (λ failed. calm (inl (ask.circuit, refl, failed))) found.0 found.1) [
          | inl seven ↦ inl (found.2 ∙ seven)
          | inr nine ↦ inr (found.2 ∙ nine.0, nine.1)
        ]

    of_means : Means ask part run → AnswersFor (rehearsal_units circuit ask.public ask.kind ask.section) run.status
    of_means (inl m) = inl (m.0, few_units one ask seed part run circuit ready lines m.1)
    of_means (inr (inl m)) = elim (of_stop 3 m.1) [
      | inl e ↦ absurd (omega (arith, e))
      | inr nine ↦ let e = nine.0 in absurd (omega (arith, e))
    ]
    of_means (inr (inr (inl m))) = absurd (calm m.1)
    of_means (inr (inr (inr (inl at)))) = inr (inr at)
    of_means (inr (inr (inr (inr m)))) = elim (of_stop 9 m.1) [
      | inl e ↦ absurd (omega (arith, e))
      | inr nine ↦ inr (inl (m.0, nine.1))
    ]

pub rehearses : {L : Type 0} → OneCircuit → (ask : RehearseAsk Bits) (seed : List ℕ) (part : Part L) (run : Effects)
    → Lines ask seed part run → OnlyLoads (IsName ask.circuit) run.shelf → Rehearses ask seed part run
rehearses one ask seed part run lines kept =
    let all = means ask seed part run lines in record {
      lines = lines;
      kept = kept;
      means = all;
      done = λ circuit ready calm. done one ask seed part run circuit lines ready calm all;
    }

-- ---- of a generated circuit

-- a rehearsal that is handed back takes few enough units
generated_units : {L : Type 0} (ask : GenerateAsk) (seed : List ℕ) (part : Part L) (run : Effects)
    → SaysRehearsal (IsGenerated ask seed) (GenerateStop ask) part run → Accepts part run.sink
    → rehearsal_units (generated_circuit ask.gates ask.number) [] ask.kind ask.section ≤ MAX_UNITS
generated_units ask seed (Rehearsed r) run lines accepts = subst (λ n. n ≤ MAX_UNITS) lines.0.about.units lines.0.about.units_most
generated_units ask seed Plain run lines accepts = absurd accepts
generated_units ask seed (Served notes) run lines accepts = absurd accepts
generated_units ask seed (Proved note) run lines accepts = absurd accepts
generated_units ask seed (RehearsedClaim r) run lines accepts = absurd accepts
generated_units ask seed (Brokered notes) run lines accepts = absurd accepts
generated_units ask seed (RehearsedElements r) run lines accepts = absurd lines

-- it stops for want of memory, or since it takes too many units
generated_lacks : (ask : GenerateAsk) (why : Refusal) → GenerateStop ask why
    → (stop_status why ≡ 7)
    ⊎ ((stop_status why ≡ 9) × (MAX_UNITS < rehearsal_units (generated_circuit ask.gates ask.number) [] ask.kind ask.section))
generated_lacks ask (stop.TooLarge need units) cause = inr (refl, subst (λ n. MAX_UNITS < n) cause.counted cause.many)
generated_lacks ask stop.NoMemory cause = inl refl
generated_lacks ask other cause = absurd cause

generated_done : {L : Type 0} (ask : GenerateAsk) (seed : List ℕ) (part : Part L) (run : Effects)
    → SaysRehearsal (IsGenerated ask seed) (GenerateStop ask) part run → ¬ SinkFailed run.sink
    → StatusMeans (Accepts part run.sink) (GenerateStop ask) (λ name. ⊥) run
    → AnswersFor (rehearsal_units (generated_circuit ask.gates ask.number) [] ask.kind ask.section) run.status
generated_done ask seed part run lines calm (inl m) = inl (m.0, generated_units ask seed part run lines m.1)
generated_done ask seed part run lines calm (inr (inl m)) = elim (generated_lacks ask m.1.0 m.1.1) [
  | inl e ↦ let is = m.1.2 in absurd (omega (arith, is, e))
  | inr e ↦ let is = m.1.2 in let nine = e.0 in absurd (omega (arith, is, nine))
]
generated_done ask seed part run lines calm (inr (inr (inl m))) = elim m.1 [
  | inl named ↦ absurd named.1
  | inr failed ↦ absurd (calm failed)
]
generated_done ask seed part run lines calm (inr (inr (inr (inl at)))) = inr (inr at)
generated_done ask seed part run lines calm (inr (inr (inr (inr m)))) = elim (generated_lacks ask m.1.0 m.1.1) [
  | inl e ↦ let is = m.1.2 in absurd (omega (arith, is, e))
  | inr e ↦ inr (inl (m.0, e.1))
]

pub generates : {L : Type 0} (ask : GenerateAsk) (seed : List ℕ) (part : Part L) (run : Effects)
    → SaysRehearsal (IsGenerated ask seed) (GenerateStop ask) part run → run.shelf.new ≡ run.shelf.old → Generates ask seed part run
generates {L} ask seed part run lines kept =
    let all : StatusMeans (Accepts part run.sink) (GenerateStop ask) (λ name. ⊥) run =
    rehearsal_means (IsGenerated ask seed) (GenerateStop ask) (λ name. ⊥) part run (λ r is. (is.about.accepted, is.about.ends))
    (stop_means (Accepts {L = L} Plain run.sink) (GenerateStop ask) (λ name. ⊥) run
    (λ cause. cause) (λ cause. cause) (λ count cause. cause) (λ output cause. cause) (λ failed. absurd failed)) lines in
    record { lines = lines; kept = kept; means = all; done = λ calm. generated_done ask seed part run lines calm all }
