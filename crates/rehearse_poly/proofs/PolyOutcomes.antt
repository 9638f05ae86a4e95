-- What is handed back and said of a rehearsal of constraints gives what its record promises.
use Rattle.std.proofs.Common.{◌≡◌, ◌⊎◌, ◌<◌, ◌≤◌, ◌∙◌, ℕ, List, length, Option, None, Some, refl, ap, sym, subst, inl, inr, []}
use Rattle.poly_text.specs.Laws.{TextsAreExact}
use Rattle.poly_text.specs.Texts.{IsPolyText}
use Rattle.command_words.specs.Words.{RehearsePolyAsk}
use Rattle.element_file.specs.Laws.{ElementsAreExact}
use Rattle.claim_files.proofs.ArithCauses.{elements_lack, told_elements}
use Rattle.claim_files.specs.ArithFiles.{IsEither}
use Rattle.poly_model.specs.Constraints.{AreMet, Constraints, degree}
use Rattle.poly_files.specs.PolyFiles.{HasPoly, IsPolyFile, IsUnmetIn, PolyWitnessStop}
use Rattle.poly_files.proofs.PolyCauses.{poly_lacks, told_poly}
use Rattle.zk_port.specs.Files.{Files}
use Rattle.zk_model.specs.declared.limits.TheConstants.{MAX_UNITS}
use Rattle.file_commands.proofs.Means.{any_answers, zero_answers}
use Rattle.file_commands.specs.Effects.{Effects, HasFailed, NameFailed, OnlyLoads, ShelfChange}
use Rattle.file_commands.specs.Stops.{PrintsMade, stop_line, stop_status}
use Rattle.file_commands.specs.declared.refusal.Refusal.{Refusal}
use Rattle.file_commands.specs.declared.refusal.Refusal.TheVariants as stop
use Rattle.claim_rehearsal.specs.declared.rehearsal.ClaimRehearsal.{ClaimRehearsal}
use Rattle.rehearse_poly.specs.declared.rehearsing.PolyRehearsal.{PolyRehearsal}
use Rattle.rehearse_poly.specs.PolyRuns.{AnswersFor, HasMet, IsPolyReady, IsPolyRehearsal, PolyAccepts, PolyMeans, PolyRehearseStop, RehearsesPoly, SaysPolyRehearsal, TakesTooMany, lines_of, numbers_lines, poly_lines, poly_units}

-- ---- what is said

-- the lines are those of the constraints
said_of : (ask : RehearsePolyAsk) (seed : List ℕ) (p : PolyRehearsal) (run : Effects) → IsPolyRehearsal run.shelf.old.told ask seed p
    → PrintsMade 0 (lines_of p) run.status run.sink → SaysPolyRehearsal ask seed (Some p.rehearsal) run
said_of ask seed p run is prints = record {
  constraints = is.constraints;
  digest = is.digest;
  values = is.values;
  witness = is.witness;
  is = (
    is.is.rehearsed,
    subst (λ l. PrintsMade 0 l run.status run.sink)
        (λ i. numbers_lines (is.is.variables i) (is.is.count i) (is.is.degree_is i) p.rehearsal.need p.rehearsal.units) prints,
  );
}

-- why there are no constraints with values is why there is no rehearsal
pub rehearse_of_witness : (ask : RehearsePolyAsk) (shelf : ShelfChange) (why : Refusal) → PolyWitnessStop ask.text ask.values shelf why
    → PolyRehearseStop ask shelf why
rehearse_of_witness ask shelf (stop.TooLarge need units) (inl cause) = absurd cause
rehearse_of_witness ask shelf (stop.TooLarge need units) (inr cause) = elim cause.is [ inl none ↦ absurd none | inr other ↦ absurd other.is ]
rehearse_of_witness ask shelf other cause = cause

-- and so are too many units
pub rehearse_of_units : (ask : RehearsePolyAsk) (shelf : ShelfChange) (why : Refusal)
    → HasMet shelf.old.told ask (λ constraints digest values. TakesTooMany constraints ask.kind why) → PolyRehearseStop ask shelf why
rehearse_of_units ask shelf (stop.TooLarge need units) cause = cause
rehearse_of_units ask shelf stop.NoMemory cause = inl tt
rehearse_of_units ask shelf other cause = absurd cause.is

-- ---- what the status says

means : (ask : RehearsePolyAsk) (seed : List ℕ) (rehearsal : Option ClaimRehearsal) (run : Effects) → SaysPolyRehearsal ask seed rehearsal run
    → PolyMeans ask seed rehearsal run
means ask seed (Some r) run lines = elim (zero_answers (poly_lines lines.constraints r) run.status run.sink lines.is.1) [
  | inl all ↦ inl (
    all.0,
    record {
      constraints = lines.constraints;
      digest = lines.digest;
      values = lines.values;
      witness = lines.witness;
      is = (lines.is.0, all.1);
    },
  )
  | inr (inl failed) ↦ inr (inr (inl (failed.0, inr failed.1)))
  | inr (inr seven) ↦ inr (inr (inr seven))
]
means ask seed None run lines = elim (any_answers (stop_status lines.stop) (stop_line lines.stop) run.status run.sink lines.prints) [
  | inl same ↦ inr (inl (lines.stop, lines.cause, same))
  | inr (inl failed) ↦ inr (inr (inl (failed.0, inr failed.1)))
  | inr (inr seven) ↦ inr (inr (inr seven))
]

-- a text with its digest is one without
undigested : (told : Option Files) (name : List ℕ) (constraints : Constraints) (digest : List ℕ) → HasPoly told name constraints digest
    → IsPolyFile told name constraints
undigested told name constraints digest file = record { text = file.text; loaded = file.loaded; says = file.says.0 }

-- values that meet all have no first one that they do not meet
none_unmet : (constraints : Constraints) (values : List ℕ) (why : Refusal) → AreMet constraints values → IsUnmetIn constraints values why → ⊥
none_unmet constraints values (stop.Unsatisfied constraint) met cause = cause.fails (met constraint [] cause.below)
none_unmet constraints values other met cause = cause

-- where a shelf tells constraints and values that meet them, and no call failed, only memory can be wanting
witness_lacks : TextsAreExact → ElementsAreExact → (ask : RehearsePolyAsk) (shelf : ShelfChange) (constraints : Constraints)
    → IsPolyReady shelf.old.told ask constraints → ¬ NameFailed ask.text shelf → ¬ NameFailed ask.values shelf → (why : Refusal)
    → PolyWitnessStop ask.text ask.values shelf why → stop_status why ≡ 7
witness_lacks texts exact ask shelf constraints ready calm still why (inl cause) =
    ap stop_status (poly_lacks ask.text shelf constraints ready.tells ready.file calm why cause)
witness_lacks texts exact ask shelf constraints ready calm still why (inr cause) =
    let same : cause.constraints ≡ constraints = told_poly texts shelf.old.told ask.text constraints cause.constraints ready.tells ready.file cause.file in
    elim cause.is [
      | inl none ↦ ap stop_status (elements_lack exact ask.values cause.constraints.variables shelf ready.values ready.tells ready.values_are.file
          (ready.values_are.counted ∙ ap (λ (c : Constraints). c.variables) (sym same)) still why none)
      | inr unmet ↦ let values = told_elements exact shelf.old.told ask.values ready.values unmet.values ready.tells ready.values_are.file unmet.file.file in
          absurd (none_unmet cause.constraints unmet.values why
          (subst (λ (q : Constraints × List ℕ). AreMet q.0 q.1) (λ i. (sym same i, sym values i)) ready.met) unmet.is)
    ]

-- why a run stops then: for want of memory, or since it takes too many units
lacks : TextsAreExact → ElementsAreExact → (ask : RehearsePolyAsk) (shelf : ShelfChange) (constraints : Constraints)
    → IsPolyReady shelf.old.told ask constraints → ¬ NameFailed ask.text shelf → ¬ NameFailed ask.values shelf → (why : Refusal)
    → PolyRehearseStop ask shelf why → (stop_status why ≡ 7) ⊎ ((stop_status why ≡ 9) × (MAX_UNITS < poly_units constraints ask.kind))
lacks texts exact ask shelf constraints ready calm still (stop.TooLarge need units) cause =
    let file = undigested shelf.old.told ask.text cause.constraints cause.digest cause.witness.constraints_file in
    let same : cause.constraints ≡ constraints = told_poly texts shelf.old.told ask.text constraints cause.constraints ready.tells ready.file file in
    inr (
      refl,
      subst (λ (c : Constraints). MAX_UNITS < poly_units c ask.kind) same (subst (λ n. MAX_UNITS < n) cause.is.counted cause.is.many),
    )
lacks texts exact ask shelf constraints ready calm still other cause = inl (witness_lacks texts exact ask shelf constraints ready calm still other cause)

-- a rehearsal that is accepted takes few enough units
few_units : TextsAreExact → (ask : RehearsePolyAsk) (seed : List ℕ) (rehearsal : Option ClaimRehearsal) (run : Effects) (constraints : Constraints)
    → IsPolyReady run.shelf.old.told ask constraints → PolyAccepts ask seed rehearsal run → poly_units constraints ask.kind ≤ MAX_UNITS
few_units texts ask seed (Some r) run constraints ready accepts =
    let file = undigested run.shelf.old.told ask.text accepts.constraints accepts.digest accepts.witness.constraints_file in
    let same : accepts.constraints ≡ constraints = told_poly texts run.shelf.old.told ask.text constraints accepts.constraints ready.tells ready.file file in
    let about = accepts.is.0.about in
    subst (λ (c : Constraints). poly_units c ask.kind ≤ MAX_UNITS) same (subst (λ n. n ≤ MAX_UNITS) about.units about.units_most)
few_units texts ask seed None run constraints ready accepts = absurd accepts

done : TextsAreExact → ElementsAreExact → (ask : RehearsePolyAsk) (seed : List ℕ) (rehearsal : Option ClaimRehearsal) (run : Effects) (constraints : Constraints)
    → IsPolyReady run.shelf.old.told ask constraints → ¬ HasFailed (IsEither ask.text ask.values) run → PolyMeans ask seed rehearsal run
    → AnswersFor (poly_units constraints ask.kind) run.status
done texts exact ask seed rehearsal run constraints ready calm (inl m) = inl (m.0, few_units texts ask seed rehearsal run constraints ready m.1)
done texts exact ask seed rehearsal run constraints ready calm (inr (inl found)) =
    elim (lacks texts exact ask run.shelf constraints ready (λ failed. calm (inl (ask.text, inl refl, failed)))
    (λ failed. calm (inl (ask.values, inr refl, failed))) found.0 found.1) [
      | inl seven ↦ inr (inr (found.2 ∙ seven))
      | inr nine ↦ inr (inl (found.2 ∙ nine.0, nine.1))
    ]
done texts exact ask seed rehearsal run constraints ready calm (inr (inr (inl m))) = absurd (calm m.1)
done texts exact ask seed rehearsal run constraints ready calm (inr (inr (inr at))) = inr (inr at)

pub rehearses_poly : TextsAreExact → ElementsAreExact → (ask : RehearsePolyAsk) (seed : List ℕ) (rehearsal : Option ClaimRehearsal) (run : Effects)
    → SaysPolyRehearsal ask seed rehearsal run → OnlyLoads (IsEither ask.text ask.values) run.shelf → RehearsesPoly ask seed rehearsal run
rehearses_poly texts exact ask seed rehearsal run lines kept =
    let all = means ask seed rehearsal run lines in record {
      lines = lines;
      kept = kept;
      means = all;
      done = λ constraints ready calm. done texts exact ask seed rehearsal run constraints ready calm all;
    }

-- so does a rehearsal whose lines are written
pub rehearses_made : TextsAreExact → ElementsAreExact → (ask : RehearsePolyAsk) (seed : List ℕ) (p : PolyRehearsal) (run : Effects)
    → IsPolyRehearsal run.shelf.old.told ask seed p → PrintsMade 0 (lines_of p) run.status run.sink
    → OnlyLoads (IsEither ask.text ask.values) run.shelf → RehearsesPoly ask seed (Some p.rehearsal) run
rehearses_made texts exact ask seed p run is prints kept =
    rehearses_poly texts exact ask seed (Some p.rehearsal) run (said_of ask seed p run is prints) kept
