-- What is said of a dealing gives what each status says.
use Rattle.std.proofs.Common.{◌≡◌, ◌⊎◌, ◌<◌, ℕ, zero, suc, List, [], length, Option, None, Some, refl, ap, ◌∙◌, subst, inl, inr, arith}
use Rattle.std.specs.Option.{option_map}
use Rattle.zk_model.specs.Files as model
use Rattle.dealer_files.specs.Dealing.{dealt_prover, dealt_verifier}
use Rattle.zk_port.specs.Files.{Files}
use Rattle.zk_port.specs.Files as port
use Rattle.zk_port.specs.Shelves.{ShelfState}
use Rattle.file_commands.specs.Effects.{ShelfChange, Effects, CountsStay, SomeFailed, OnlyStores, HasFailed, IsDone}
use Rattle.file_commands.specs.DealRuns.{Deals, DealLines, IsDealName, StopsStoring, StoresDealt, all_stored, dealt_lines, dealt_stores, file_lines, file_stores, next_name}
use Rattle.file_commands.specs.declared.deal_command.Stored.TheVariants.{ProverFile, VerifierFile, ProverJournal, VerifierJournal}
use Rattle.zk_port.specs.Changes.{change}
use Rattle.file_commands.specs.Stops.{PrintsMade, WritesAll, StatusMeans, IsOfStop, stop_status}
use Rattle.command_words.specs.Words.{DealAsk}
use Rattle.file_commands.specs.declared.refusal.Refusal.{Refusal}
use Rattle.file_commands.specs.declared.refusal.Refusal.TheVariants as stop
use Rattle.file_commands.proofs.Means.{made_means, stop_means}

-- ---- a stop

-- nothing is stored, for want of memory
pub stores_none : (ask : DealAsk) (seed : List ℕ) (a : ShelfState) → StopsStoring (dealt_stores ask seed) (change a a) stop.NoMemory
stores_none ask seed a = record {
  done = 0;
  some = omega arith;
  others = same a.told;
  cause = inl refl;
}
  where
    same : (told : Option Files) → port.OthersStay (next_name 0 (dealt_stores ask seed)) (option_map (all_stored []) told) told
    same None = refl
    same (Some files) = λ other not. refl

-- ---- what is stored

pub stores_dealt : (ask : DealAsk) (seed : List ℕ) (prover : model.ProverFile) (verifier : model.VerifierFile) (shelf : ShelfChange)
    → prover ≡ dealt_prover ask.params seed → verifier ≡ dealt_verifier ask.params seed
    → shelf.new.told ≡ option_map (all_stored (file_stores ask.name prover verifier)) shelf.old.told → CountsStay shelf
    → StoresDealt ask seed shelf
stores_dealt ask seed prover verifier shelf is_prover is_verifier files counts = record {
  files = files
      ∙ ap (λ p. option_map (all_stored (file_stores ask.name p verifier)) shelf.old.told) is_prover
      ∙ ap (λ v. option_map (all_stored (file_stores ask.name (dealt_prover ask.params seed) v)) shelf.old.told) is_verifier;
  counts = counts;
}

pub stops_dealt : (ask : DealAsk) (seed : List ℕ) (prover : model.ProverFile) (verifier : model.VerifierFile) (shelf : ShelfChange) (why : Refusal)
    → prover ≡ dealt_prover ask.params seed → verifier ≡ dealt_verifier ask.params seed
    → StopsStoring (file_stores ask.name prover verifier) shelf why → StopsStoring (dealt_stores ask seed) shelf why
stops_dealt ask seed prover verifier shelf why is_prover is_verifier stops =
    subst (λ v. StopsStoring (file_stores ask.name (dealt_prover ask.params seed) v) shelf why) is_verifier
    (subst (λ p. StopsStoring (file_stores ask.name p verifier) shelf why) is_prover stops)

pub says_dealt : (ask : DealAsk) (seed : List ℕ) (prover : model.ProverFile) (run : Effects)
    → prover ≡ dealt_prover ask.params seed → StoresDealt ask seed run.shelf → PrintsMade 0 (file_lines prover) run.status run.sink
    → DealLines ask seed run
says_dealt ask seed prover run is_prover stores prints =
    inl (stores, subst (λ p. PrintsMade 0 (file_lines p) run.status run.sink) is_prover prints)

-- ---- what a run means

-- the store that stops is for one of the four names
next_is_one : (name : List ℕ) (prover : model.ProverFile) (verifier : model.VerifierFile) (done : ℕ)
    → done < length (file_stores name prover verifier) → IsDealName name (next_name done (file_stores name prover verifier))
next_is_one name prover verifier zero some = (ProverFile, refl)
next_is_one name prover verifier (suc zero) some = (VerifierFile, refl)
next_is_one name prover verifier (suc (suc zero)) some = (ProverJournal, refl)
next_is_one name prover verifier (suc (suc (suc zero))) some = (VerifierJournal, refl)
next_is_one name prover verifier (suc (suc (suc (suc more)))) some = absurd (omega (arith, some))

-- a stop of storing has one of two statuses
of_storing : (stores : List (List ℕ × List ℕ)) (shelf : ShelfChange) (why : Refusal) → StopsStoring stores shelf why
    → (stop_status why ≡ 7) ⊎ (why ≡ stop.ShelfFailed)
of_storing stores shelf why stops = elim stops.cause [ inl e ↦ inl (ap stop_status e) | inr failed ↦ inr failed.0 ]

undoored : stop.DoorFailed ≡ stop.ShelfFailed → ⊥
undoored same = cc

failed_store : (ask : DealAsk) (seed : List ℕ) (shelf : ShelfChange) → StopsStoring (dealt_stores ask seed) shelf stop.ShelfFailed
    → SomeFailed (IsDealName ask.name) shelf
failed_store ask seed shelf stops = elim stops.cause [
  | inl e ↦ let s : 4 ≡ 7 = ap stop_status e in absurd (omega (arith, s))
  | inr failed ↦ (
    next_name stops.done (dealt_stores ask seed),
    next_is_one ask.name (dealt_prover ask.params seed) (dealt_verifier ask.params seed) stops.done stops.some,
    failed.1,
  )
]

abbrev Does : DealAsk → List ℕ → Effects → Type 0
Does ask seed run = StoresDealt ask seed run.shelf × WritesAll (dealt_lines ask seed) run.sink

abbrev Means : DealAsk → List ℕ → Effects → Type 0
Means ask seed run = StatusMeans (Does ask seed run) (StopsStoring (dealt_stores ask seed) run.shelf) (IsDealName ask.name) run

means : (ask : DealAsk) (seed : List ℕ) (run : Effects) → DealLines ask seed run → Means ask seed run
means ask seed run (inl says) =
    made_means (Does ask seed run) (StopsStoring (dealt_stores ask seed) run.shelf) (IsDealName ask.name)
    (dealt_lines ask seed) run (λ all. (says.0, all)) says.1
means ask seed run (inr says) =
    stop_means (Does ask seed run) (StopsStoring (dealt_stores ask seed) run.shelf) (IsDealName ask.name) run
    no_usage no_door no_disk no_other (failed_store ask seed run.shelf) says
  where
    no_usage : ¬ StopsStoring (dealt_stores ask seed) run.shelf stop.Usage
    no_usage stops = elim (of_storing (dealt_stores ask seed) run.shelf stop.Usage stops) [
      | inl e ↦ omega (arith, e)
      | inr e ↦ let s : 2 ≡ 4 = ap stop_status e in omega (arith, s)
    ]

    no_disk : (count : ℕ) → ¬ StopsStoring (dealt_stores ask seed) run.shelf (stop.JournalFailed count)
    no_disk count stops = elim (of_storing (dealt_stores ask seed) run.shelf (stop.JournalFailed count) stops) [
      | inl e ↦ omega (arith, e)
      | inr e ↦ let s : 5 ≡ 4 = ap stop_status e in omega (arith, s)
    ]

    no_other : (output : ℕ) → ¬ StopsStoring (dealt_stores ask seed) run.shelf (stop.Unsatisfied output)
    no_other output stops = elim (of_storing (dealt_stores ask seed) run.shelf (stop.Unsatisfied output) stops) [
      | inl e ↦ omega (arith, e)
      | inr e ↦ let s : 1 ≡ 4 = ap stop_status e in omega (arith, s)
    ]

    no_door : ¬ StopsStoring (dealt_stores ask seed) run.shelf stop.DoorFailed
    no_door stops = elim (of_storing (dealt_stores ask seed) run.shelf stop.DoorFailed stops) [
      | inl e ↦ omega (arith, e)
      | inr e ↦ undoored e
    ]

-- no other status is that of a stop of storing
four_or_seven : (ask : DealAsk) (seed : List ℕ) (shelf : ShelfChange) (status : ℕ)
    → IsOfStop (StopsStoring (dealt_stores ask seed) shelf) status → (status ≡ 7) ⊎ (status ≡ 4)
four_or_seven ask seed shelf status found = elim (of_storing (dealt_stores ask seed) shelf found.0 found.1) [
  | inl e ↦ inl (found.2 ∙ e)
  | inr e ↦ inr (found.2 ∙ ap stop_status e)
]

statuses : (ask : DealAsk) (seed : List ℕ) (run : Effects) → Means ask seed run
    → (run.status ≡ 0) ⊎ (run.status ≡ 4) ⊎ (run.status ≡ 7)
statuses ask seed run (inl m) = inl m.0
statuses ask seed run (inr (inl m)) = absurd (elim (four_or_seven ask seed run.shelf 3 m.1) [ inl e ↦ omega (arith, e) | inr e ↦ omega (arith, e) ])
statuses ask seed run (inr (inr (inl m))) = inr (inl m.0)
statuses ask seed run (inr (inr (inr (inl at)))) = inr (inr at)
statuses ask seed run (inr (inr (inr (inr m)))) =
    absurd (elim (four_or_seven ask seed run.shelf 9 m.1) [ inl e ↦ omega (arith, e) | inr e ↦ omega (arith, e) ])

done : (ask : DealAsk) (seed : List ℕ) (run : Effects) → ¬ HasFailed (IsDealName ask.name) run → Means ask seed run → IsDone run.status
done ask seed run calm (inl m) = inl m.0
done ask seed run calm (inr (inl m)) = absurd (elim (four_or_seven ask seed run.shelf 3 m.1) [ inl e ↦ omega (arith, e) | inr e ↦ omega (arith, e) ])
done ask seed run calm (inr (inr (inl m))) = absurd (calm m.1)
done ask seed run calm (inr (inr (inr (inl at)))) = inr at
done ask seed run calm (inr (inr (inr (inr m)))) =
    absurd (elim (four_or_seven ask seed run.shelf 9 m.1) [ inl e ↦ omega (arith, e) | inr e ↦ omega (arith, e) ])

pub deals : (ask : DealAsk) (seed : List ℕ) (run : Effects) → DealLines ask seed run → OnlyStores (IsDealName ask.name) run.shelf
    → Deals ask seed run
deals ask seed run lines kept =
    let all = means ask seed run lines in record {
      lines = lines;
      kept = kept;
      statuses = statuses ask seed run all;
      means = all;
      done = λ calm. done ask seed run calm all;
    }
