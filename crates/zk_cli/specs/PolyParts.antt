-- What a run of the program hands back of the commands about polynomial constraints.
use Rattle.std.specs.Prelude.{◌≡◌, ℕ, List, Option, None, Some, Vec}
use Rattle.std.specs.Option.{option_map}
use Rattle.std.specs.declared.alloc.Global.{Global}
use Rattle.zk_port.specs.Links.{LinkState}
use Rattle.claim_rehearsal.specs.declared.rehearsal.ClaimRehearsal.{ClaimRehearsal}
use Rattle.session_prover.specs.declared.note.ProverNote.{ProverNote}
use Rattle.session_verifier.specs.declared.note.SessionNote.{SessionNote}
use Rattle.command_words.specs.Words.{ProvePolyAsk, RehearsePolyAsk, ServePolyAsk}
use Rattle.file_commands.specs.Effects.{DoorChange, Effects}
use Rattle.file_commands.specs.Journals.{DiskChange}
use Rattle.prove_poly.specs.PolyProofs.{ProvesPoly}
use Rattle.rehearse_poly.specs.PolyRuns.{RehearsesPoly}
use Rattle.serve_poly.specs.PolyServices.{ServesPoly}
use Rattle.zk_cli.specs.ProvedParts.{proved_part}
use Rattle.zk_cli.specs.declared.finish.Part.{Part}
use Rattle.zk_cli.specs.declared.finish.Part.TheVariants.{Plain, RehearsedClaim, Served}

-- the rehearsal, if there is one
abbrev pub rehearsed_part : {L : Type 0} → Option ClaimRehearsal → Part L
rehearsed_part None = Plain
rehearsed_part (Some rehearsal) = RehearsedClaim rehearsal

-- it is handed back, and the run is one that rehearses these constraints
pub record RehearsesPolyPart {L : Type 0} (ask : RehearsePolyAsk) (seed : List ℕ) (part : Part L) (run : Effects) : Type 0 where
  pub rehearsal : Option ClaimRehearsal
  pub part_is : part ≡ rehearsed_part rehearsal
  pub rehearses : RehearsesPoly ask seed rehearsal run

-- the note of a session is handed back, if one was held, and the run is one that proves that these constraints are met
pub record ProvesPolyPart {L : Type 0} (link_tells : L → LinkState) (ask : ProvePolyAsk) (part : Part L) (disk : DiskChange)
    (door : DoorChange) (run : Effects) : Type 0 where
  pub note : Option (ProverNote L)
  pub part_is : part ≡ proved_part note
  pub proves : ProvesPoly link_tells ask note disk door run

-- the notes of the sessions, if the door listened
abbrev pub served_part : {L : Type 0} → Option (Vec (SessionNote L) Global) → Part L
served_part None = Plain
served_part (Some notes) = Served notes

-- they are handed back, and the run is one that serves these constraints
pub record ServesPolyPart {L : Type 0} (link_tells : L → LinkState) (ask : ServePolyAsk) (part : Part L) (disk : DiskChange)
    (door : DoorChange) (run : Effects) : Type 0 where
  pub notes : Option (Vec (SessionNote L) Global)
  pub part_is : part ≡ served_part notes
  pub serves : ServesPoly link_tells ask (option_map (λ n. n.items) notes) disk door run
