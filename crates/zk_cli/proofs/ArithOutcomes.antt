-- What is handed back and said of a rehearsal of an arithmetic circuit gives what its record promises.
use Rattle.std.proofs.Common.{◌≡◌, ◌⊎◌, ◌<◌, ◌≤◌, ◌∙◌, ℕ, List, refl, ap, sym, subst, inl, inr}
use Rattle.arith_laws.proofs.OneList.{unmet}
use Rattle.arith_reader.specs.Laws.{TextsAreExact}
use Rattle.command_words.specs.Words.{RehearseArithAsk}
use Rattle.element_file.specs.Laws.{ElementsAreExact}
use Rattle.claim_files.proofs.ArithCauses.{arith_lacks, elements_lack, told_arith, told_elements}
use Rattle.file_commands.proofs.Means.{any_answers, zero_answers}
use Rattle.claim_files.specs.ArithFiles.{ArithStop, ElementsStop, IsArithFile, IsEither}
use Rattle.file_commands.specs.Effects.{Effects, HasFailed, NameFailed, OnlyLoads, ShelfChange}
use Rattle.file_commands.specs.Stops.{PrintsMade, stop_line, stop_status}
use Rattle.file_commands.specs.declared.refusal.Refusal.{Refusal}
use Rattle.file_commands.specs.declared.refusal.Refusal.TheVariants as stop
use Rattle.session_rehearsal.proofs.Rehearsed.{sized_values}
use Rattle.session_rehearsal.specs.Rehearsals.{EndsWithVerdict}
use Rattle.zk_cli.specs.ArithRuns.{ArithMeans, ArithRehearseStop, IsArithReady, RehearsesArith, SaysArithRehearsal, arith_units}
use Rattle.zk_cli.specs.RehearseRuns.{Accepts, AnswersFor, arith_lines, verdict_status}
use Rattle.zk_cli.specs.declared.finish.Part.{Part}
use Rattle.zk_cli.specs.declared.finish.Part.TheVariants.{Brokered, Plain, Proved, Rehearsed, RehearsedClaim, RehearsedElements, Served}
use Rattle.zk_model.specs.Arithmetic.{Arith, SatisfiesElements}
use Rattle.zk_model.specs.declared.limits.TheConstants.{MAX_UNITS}

-- what the status says
means : {L : Type 0} (ask : RehearseArithAsk) (seed : List ℕ) (part : Part L) (run : Effects) → SaysArithRehearsal ask seed part run
    → ArithMeans ask part run
means ask seed (RehearsedElements r) run lines =
    let about = lines.0.is.about in
    let printed = subst (λ v. PrintsMade (verdict_status v) (arith_lines r) run.status run.sink) about.accepted lines.1 in
    elim (zero_answers (arith_lines r) run.status run.sink printed) [
      | inl all ↦ inl (all.0, (about.accepted, subst (λ v. EndsWithVerdict v r.log) about.accepted about.ends, all.1))
      | inr (inl failed) ↦ inr (inr (inl (failed.0, inr failed.1)))
      | inr (inr seven) ↦ inr (inr (inr seven))
    ]
means ask seed Plain run lines = elim (any_answers (stop_status lines.stop) (stop_line lines.stop) run.status run.sink lines.prints) [
  | inl same ↦ inr (inl (lines.stop, lines.cause, same))
  | inr (inl failed) ↦ inr (inr (inl (failed.0, inr failed.1)))
  | inr (inr seven) ↦ inr (inr (inr seven))
]
means ask seed (Rehearsed r) run lines = absurd lines
means ask seed (Served notes) run lines = absurd lines
means ask seed (Proved note) run lines = absurd lines
means ask seed (RehearsedClaim r) run lines = absurd lines
means ask seed (Brokered notes) run lines = absurd lines

-- why a run stops that a shelf tells a circuit and values that satisfy it: for want of memory, or since it takes too many units
lacks : TextsAreExact → ElementsAreExact → (ask : RehearseArithAsk) (shelf : ShelfChange) (circuit : Arith)
    → IsArithReady shelf.old.told ask circuit → ¬ NameFailed ask.circuit shelf → ¬ NameFailed ask.values shelf → (why : Refusal)
    → ArithRehearseStop ask shelf why → (stop_status why ≡ 7) ⊎ ((stop_status why ≡ 9) × (MAX_UNITS < arith_units circuit ask))
lacks texts exact ask shelf circuit ready calm still (stop.Unsatisfied place) cause =
    let same = told_arith texts shelf.old.told ask.circuit circuit cause.circuit ready.tells ready.file cause.file in
    let values = told_elements exact shelf.old.told ask.values ready.values cause.values ready.tells ready.values_file cause.values_file in
    absurd (unmet cause.circuit cause.values cause.is.assert cause.is.value cause.file.says.is.well_formed cause.is.failed ready.outputs
    (subst (λ (q : Arith × List ℕ). SatisfiesElements q.0 q.1 ready.outputs) (λ i. (sym same i, sym values i)) ready.satisfied))
lacks texts exact ask shelf circuit ready calm still (stop.TooLarge need units) cause =
    let same = told_arith texts shelf.old.told ask.circuit circuit cause.circuit ready.tells ready.file cause.file in
    inr (
      refl,
      subst (λ c. MAX_UNITS < arith_units c ask) same (subst (λ n. MAX_UNITS < n) cause.is.large.counted cause.is.large.many),
    )
lacks texts exact ask shelf circuit ready calm still other (inl cause) =
    inl (ap stop_status (arith_lacks ask.circuit shelf circuit ready.tells ready.file calm other cause))
lacks texts exact ask shelf circuit ready calm still other (inr cause) =
    let same = told_arith texts shelf.old.told ask.circuit circuit cause.circuit ready.tells ready.file cause.file in
    let sized = sized_values circuit ready.values ready.outputs ready.file.says.is.well_formed ready.satisfied in
    inl (ap stop_status (elements_lack exact ask.values cause.circuit.inputs shelf ready.values ready.tells ready.values_file
    (sized ∙ ap (λ c. c.inputs) (sym same)) still other cause.is))

-- a rehearsal that is handed back takes few enough units
few_units : {L : Type 0} → TextsAreExact → (ask : RehearseArithAsk) (seed : List ℕ) (part : Part L) (run : Effects) (circuit : Arith)
    → IsArithReady run.shelf.old.told ask circuit → SaysArithRehearsal ask seed part run → Accepts part run.sink → arith_units circuit ask ≤ MAX_UNITS
few_units texts ask seed (RehearsedElements r) run circuit ready lines accepts =
    let made = lines.0 in
    let same = told_arith texts run.shelf.old.told ask.circuit circuit made.circuit ready.tells ready.file made.file in
    subst (λ c. arith_units c ask ≤ MAX_UNITS) same (subst (λ n. n ≤ MAX_UNITS) made.is.about.units made.is.about.units_most)
few_units texts ask seed Plain run circuit ready lines accepts = absurd accepts
few_units texts ask seed (Rehearsed r) run circuit ready lines accepts = absurd lines
few_units texts ask seed (Served notes) run circuit ready lines accepts = absurd accepts
few_units texts ask seed (Proved note) run circuit ready lines accepts = absurd accepts
few_units texts ask seed (RehearsedClaim r) run circuit ready lines accepts = absurd accepts
few_units texts ask seed (Brokered notes) run circuit ready lines accepts = absurd accepts

done : {L : Type 0} → TextsAreExact → ElementsAreExact → (ask : RehearseArithAsk) (seed : List ℕ) (part : Part L) (run : Effects) (circuit : Arith)
    → SaysArithRehearsal ask seed part run → IsArithReady run.shelf.old.told ask circuit → ¬ HasFailed (IsEither ask.circuit ask.values) run
    → ArithMeans ask part run → AnswersFor (arith_units circuit ask) run.status
done texts exact ask seed part run circuit lines ready calm (inl m) = inl (m.0, few_units texts ask seed part run circuit ready lines m.1)
done texts exact ask seed part run circuit lines ready calm (inr (inl found)) =
    elim (lacks texts exact ask run.shelf circuit ready (λ failed. calm (inl (ask.circuit, inl refl, failed)))
    (λ failed. calm (inl (ask.values, inr refl, failed))) found.0 found.1) [
      | inl seven ↦ inr (inr (found.2 ∙ seven))
      | inr nine ↦ inr (inl (found.2 ∙ nine.0, nine.1))
    ]
done texts exact ask seed part run circuit lines ready calm (inr (inr (inl m))) = absurd (calm m.1)
done texts exact ask seed part run circuit lines ready calm (inr (inr (inr at))) = inr (inr at)

pub rehearses_arith : {L : Type 0} → TextsAreExact → ElementsAreExact → (ask : RehearseArithAsk) (seed : List ℕ) (part : Part L) (run : Effects)
    → SaysArithRehearsal ask seed part run → OnlyLoads (IsEither ask.circuit ask.values) run.shelf → RehearsesArith ask seed part run
rehearses_arith texts exact ask seed part run lines kept =
    let all = means ask seed part run lines in record {
      lines = lines;
      kept = kept;
      means = all;
      done = λ circuit ready calm. done texts exact ask seed part run circuit lines ready calm all;
    }

-- ---- why a run stops before there is a rehearsal

pub rehearse_of_arith : (ask : RehearseArithAsk) (shelf : ShelfChange) (why : Refusal) → ArithStop ask.circuit shelf why → ArithRehearseStop ask shelf why
rehearse_of_arith ask shelf (stop.Unsatisfied place) cause = absurd cause
rehearse_of_arith ask shelf (stop.TooLarge need units) cause = absurd cause
rehearse_of_arith ask shelf other cause = inl cause

pub rehearse_of_elements : (ask : RehearseArithAsk) (shelf : ShelfChange) (circuit : Arith) (why : Refusal)
    → IsArithFile shelf.old.told ask.circuit circuit → ElementsStop ask.values circuit.inputs shelf why → ArithRehearseStop ask shelf why
rehearse_of_elements ask shelf circuit (stop.Unsatisfied place) file cause = absurd cause
rehearse_of_elements ask shelf circuit (stop.TooLarge need units) file cause = absurd cause
rehearse_of_elements ask shelf circuit other file cause = inr (record { circuit = circuit; file = file; is = cause })
