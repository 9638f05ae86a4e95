-- What is said of a new node gives what each status says.
use Rattle.std.proofs.Common.{◌≡◌, ◌⊎◌, ℕ, List, Option, None, Some, refl, ap, inl, inr, arith}
use Rattle.std.specs.Prelude.{◌≢◌}
use Rattle.dealer_files.specs.Faults.{IsDealtFile}
use Rattle.zk_model.specs.declared.Side.TheVariants.{Verifier}
use Rattle.zk_port.specs.Files.{Files, OthersStay}
use Rattle.command_words.specs.Words.{NodeAsk}
use Rattle.file_commands.specs.Effects.{Effects, HasFailed, IsDone, IsName, OnlyAsks, OtherNamesStay, ShelfChange, SomeFailed}
use Rattle.file_commands.specs.Stops.{FileStop, HasText, StatusMeans, WritesAll, stop_status}
use Rattle.file_commands.specs.declared.refusal.Refusal.{Refusal}
use Rattle.file_commands.specs.declared.refusal.Refusal.TheVariants as stop
use Rattle.file_commands.proofs.Causes.{file_7}
use Rattle.file_commands.proofs.Means.{made_means, no_nine, stop_means}
use Rattle.node_command.specs.NodeRuns.{IsNodeName, KeepsOthers, MakesNode, NodeLines, NodeStop, StopsStore, StoresNode, journal_of, node_line}

-- ---- other files

pub others_kept : (name : List ℕ) (old new : Option Files) → OthersStay name old new → OtherNamesStay (IsName name) old new
others_kept name None new stays = stays
others_kept name (Some old) None stays = absurd stays
others_kept name (Some old) (Some new) stays = stays

pub others_same : (IsNamed : List ℕ → Type 0) (told : Option Files) → OtherNamesStay IsNamed told told
others_same IsNamed None = refl
others_same IsNamed (Some files) = λ other not. refl

-- ---- causes

-- a store that stops has one of two statuses
of_store : (ask : NodeAsk) (shelf : ShelfChange) (why : Refusal) → StopsStore ask shelf why → (stop_status why ≡ 7) ⊎ (why ≡ stop.ShelfFailed)
of_store ask shelf why stops = elim stops.cause [ inl e ↦ inl (ap stop_status e) | inr failed ↦ inr failed.0 ]

-- no stop of another kind
unstopped : (ask : NodeAsk) (shelf : ShelfChange) (why : Refusal) → ¬ FileStop Verifier ask.file shelf why → ¬ (stop_status why ≡ 7)
    → ¬ (why ≡ stop.ShelfFailed) → ¬ NodeStop ask shelf why
unstopped ask shelf why file seven failed (inl lacks) = file lacks.0
unstopped ask shelf why file seven failed (inr stops) = elim (of_store ask shelf why stops) [ inl e ↦ seven e | inr e ↦ failed e ]

shelf_failed : (ask : NodeAsk) (shelf : ShelfChange) → NodeStop ask shelf stop.ShelfFailed → SomeFailed (IsNodeName ask) shelf
shelf_failed ask shelf (inl lacks) = (ask.file, inl refl, lacks.0)
shelf_failed ask shelf (inr stops) = elim stops.cause [
  | inl e ↦ let s : 4 ≡ 7 = ap stop_status e in absurd (omega (arith, s))
  | inr failed ↦ (journal_of ask, inr refl, failed.1)
]

-- ---- what a run means

abbrev Means : NodeAsk → Effects → Type 0
Means ask run = StatusMeans (StoresNode ask run.shelf × WritesAll (node_line ask.node) run.sink) (NodeStop ask run.shelf) (IsNodeName ask) run

means : (ask : NodeAsk) (run : Effects) → NodeLines ask run → Means ask run
means ask run (inl says) =
    made_means (StoresNode ask run.shelf × WritesAll (node_line ask.node) run.sink) (NodeStop ask run.shelf) (IsNodeName ask)
    (node_line ask.node) run (λ all. (says.0, all)) says.1
means ask run (inr says) =
    stop_means (StoresNode ask run.shelf × WritesAll (node_line ask.node) run.sink) (NodeStop ask run.shelf) (IsNodeName ask) run
    (unstopped ask run.shelf stop.Usage (λ no. no) (λ e. omega (arith, e)) (λ e. let s : 2 ≡ 4 = ap stop_status e in omega (arith, s)))
    (unstopped ask run.shelf stop.DoorFailed (λ no. no) (λ e. omega (arith, e)) (λ e. undoored e))
    (λ count. unstopped ask run.shelf (stop.JournalFailed count) (λ no. no) (λ e. omega (arith, e))
    (λ e. let s : 5 ≡ 4 = ap stop_status e in omega (arith, s)))
    (λ output. unstopped ask run.shelf (stop.Unsatisfied output) (λ no. no) (λ e. omega (arith, e))
    (λ e. let s : 1 ≡ 4 = ap stop_status e in omega (arith, s)))
    (shelf_failed ask run.shelf) says
  where
    undoored : stop.DoorFailed ≡ stop.ShelfFailed → ⊥
    undoored same = cc

small : (ask : NodeAsk) (shelf : ShelfChange) (need units : ℕ) → ¬ NodeStop ask shelf (stop.TooLarge need units)
small ask shelf need units = unstopped ask shelf (stop.TooLarge need units) (λ no. no) (λ e. omega (arith, e))
    (λ e. let s : 9 ≡ 4 = ap stop_status e in omega (arith, s))

statuses : (ask : NodeAsk) (run : Effects) → Means ask run → (run.status ≡ 0) ⊎ (run.status ≡ 3) ⊎ (run.status ≡ 4) ⊎ (run.status ≡ 7)
statuses ask run (inl m) = inl m.0
statuses ask run (inr (inl m)) = inr (inl m.0)
statuses ask run (inr (inr (inl m))) = inr (inr (inl m.0))
statuses ask run (inr (inr (inr (inl at)))) = inr (inr (inr at))
statuses ask run (inr (inr (inr (inr m)))) = absurd (no_nine (NodeStop ask run.shelf) (small ask run.shelf) m.1)

-- where a verifier's file stands there, and nothing failed
lacks_7 : (ask : NodeAsk) (shelf : ShelfChange) → shelf.old.told ≢ None → HasText shelf.old.told ask.file (IsDealtFile Verifier)
    → ¬ SomeFailed (IsNodeName ask) shelf → (why : Refusal) → NodeStop ask shelf why → stop_status why ≡ 7
lacks_7 ask shelf tells dealt calm why (inl lacks) =
    file_7 Verifier ask.file shelf tells dealt (λ failed. calm (ask.file, inl refl, failed)) why lacks.0
lacks_7 ask shelf tells dealt calm why (inr stops) = elim stops.cause [
  | inl e ↦ ap stop_status e
  | inr failed ↦ absurd (calm (journal_of ask, inr refl, failed.1))
]

done : (ask : NodeAsk) (run : Effects) → run.shelf.old.told ≢ None → HasText run.shelf.old.told ask.file (IsDealtFile Verifier)
    → ¬ HasFailed (IsNodeName ask) run → Means ask run → IsDone run.status
done ask run tells dealt calm (inl m) = inl m.0
done ask run tells dealt calm (inr (inl m)) =
    let e = lacks_7 ask run.shelf tells dealt (λ failed. calm (inl failed)) m.1.0 m.1.1 in let s = m.1.2 in absurd (omega (arith, e, s))
done ask run tells dealt calm (inr (inr (inl m))) = absurd (calm m.1)
done ask run tells dealt calm (inr (inr (inr (inl at)))) = inr at
done ask run tells dealt calm (inr (inr (inr (inr m)))) = absurd (no_nine (NodeStop ask run.shelf) (small ask run.shelf) m.1)

pub makes_node : (ask : NodeAsk) (run : Effects) → NodeLines ask run → KeepsOthers ask run.shelf → OnlyAsks (IsNodeName ask) run.shelf
    → MakesNode ask run
makes_node ask run lines others asked =
    let all = means ask run lines in record {
      lines = lines;
      others = others;
      asked = asked;
      statuses = statuses ask run all;
      means = all;
      done = λ tells dealt calm. done ask run tells dealt calm all;
    }
