-- What is said of a session about constraints gives what its record promises.
use Rattle.std.proofs.Common.{ℕ, Option, None, Some, ap, subst, inl, inr}
use Rattle.zk_port.specs.Links.{LinkState}
use Rattle.command_words.specs.Words.{ProvePolyAsk}
use Rattle.session_prover.specs.declared.note.ProverNote.{ProverNote}
use Rattle.file_commands.specs.Effects.{DoorChange, Effects, OnlyLoads}
use Rattle.file_commands.specs.Journals.{DiskChange}
use Rattle.file_commands.specs.Stops.{PrintsMade, stop_line, stop_status}
use Rattle.file_commands.proofs.Means.{any_answers, zero_answers}
use Rattle.prove_command.specs.ProveRuns.{proved_line, proved_status}
use Rattle.prove_command.proofs.ProveOutcomes.{is_accepted}
use Rattle.prove_poly.specs.PolyProofs.{IsPolyName, ProvePolyLines, ProvePolyMeans, ProvesPoly}

note_means : {L : Type 0} (ask : ProvePolyAsk) (note : ProverNote L) (disk : DiskChange) (door : DoorChange) (run : Effects)
    → PrintsMade (proved_status note.outcome) (proved_line note.granted disk.new.faults note.outcome) run.status run.sink
    → ProvePolyMeans ask (Some note) disk door run
note_means ask note disk door run prints = elim (is_accepted note.outcome) [
  | inl same ↦ (elim (zero_answers (proved_line note.granted disk.new.faults note.outcome) run.status run.sink
      (subst (λ (n : ℕ). PrintsMade n (proved_line note.granted disk.new.faults note.outcome) run.status run.sink) (ap proved_status same) prints)) [
        | inl whole ↦ inl (whole.0, same, whole.1)
        | inr other ↦ inr (inr other)
      ])
  | inr differs ↦ (elim (any_answers (proved_status note.outcome) (proved_line note.granted disk.new.faults note.outcome) run.status run.sink prints) [
    | inl e ↦ inr (inl (e, differs))
    | inr other ↦ inr (inr other)
  ])
]

lines_mean : {L : Type 0} (link_tells : L → LinkState) (ask : ProvePolyAsk) (note : Option (ProverNote L)) (disk : DiskChange) (door : DoorChange) (run : Effects)
    → ProvePolyLines link_tells ask note disk door run → ProvePolyMeans ask note disk door run
lines_mean link_tells ask (Some note) disk door run says = note_means ask note disk door run says.1
lines_mean link_tells ask None disk door run says = elim (any_answers (stop_status says.stop) (stop_line says.stop) run.status run.sink says.prints) [
  | inl e ↦ inl (says.stop, says.cause, e)
  | inr other ↦ inr other
]

pub proves_poly : {L : Type 0} (link_tells : L → LinkState) (ask : ProvePolyAsk) (note : Option (ProverNote L)) (disk : DiskChange) (door : DoorChange) (run : Effects)
    → ProvePolyLines link_tells ask note disk door run → OnlyLoads (IsPolyName ask) run.shelf
    → ProvesPoly link_tells ask note disk door run
proves_poly link_tells ask note disk door run lines kept = record {
  lines = lines;
  means = lines_mean link_tells ask note disk door run lines;
  kept = kept;
}
