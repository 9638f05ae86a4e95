-- What a run of the program hands back of a session of a prover.
use Rattle.std.specs.Prelude.{◌≡◌, Option, None, Some}
use Rattle.zk_port.specs.Links.{LinkState}
use Rattle.session_prover.specs.declared.note.ProverNote.{ProverNote}
use Rattle.file_commands.specs.Effects.{DoorChange, Effects}
use Rattle.file_commands.specs.Journals.{DiskChange}
use Rattle.prove_command.specs.Proofs.{Proof}
use Rattle.prove_command.specs.ProveRuns.{Proves}
use Rattle.zk_cli.specs.declared.finish.Part.{Part}
use Rattle.zk_cli.specs.declared.finish.Part.TheVariants.{Plain, Proved}

-- the note of the session, if one was held
abbrev pub proved_part : {L : Type 0} → Option (ProverNote L) → Part L
proved_part None = Plain
proved_part (Some note) = Proved note

-- it is handed back, and the run is one that proves this
pub record ProvesPart {L : Type 0} (link_tells : L → LinkState) (proof : Proof) (part : Part L) (disk : DiskChange)
    (door : DoorChange) (run : Effects) : Type 0 where
  pub note : Option (ProverNote L)
  pub part_is : part ≡ proved_part note
  pub proves : Proves link_tells proof note disk door run
