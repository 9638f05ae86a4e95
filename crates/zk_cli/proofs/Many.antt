-- A service of the claims that a file of statements names.
use Rattle.std.proofs.Common.{◌≡◌, List, refl, ap, ◌∙◌, subst, inl, inr}
use Rattle.std.specs.Prelude.{◌≢◌, None}
use Rattle.zk_port.specs.Changes.{change}
use Rattle.zk_port.specs.Disks.{DiskState}
use Rattle.zk_port.specs.Doors.{DoorState}
use Rattle.zk_port.specs.Links.{LinkState}
use Rattle.session_verifier.specs.declared.note.SessionNote.{SessionNote}
use Rattle.command_words.specs.Words.{ServeManyAsk}
use Rattle.statement_file.specs.Claims.{NamedClaim, HasFault, NamesClaims}
use Rattle.claim_files.specs.Services.{Service, service_of_many}
use Rattle.statement_file.specs.declared.fault.StatementFault.TheVariants.{BadLine, Count}
use Rattle.statement_file.proofs.OneReading.{no_fault, one_list}
use Rattle.file_commands.specs.Effects.{DoorChange, Effects, IsName, NameFailed, OnlyLoads, ShelfChange}
use Rattle.file_commands.specs.Journals.{DiskChange, disk_change}
use Rattle.file_commands.specs.Stops.{HasText, SaysStop, stop_status}
use Rattle.file_commands.specs.declared.refusal.Refusal.{Refusal}
use Rattle.file_commands.specs.declared.refusal.Refusal.TheVariants as stop
use Rattle.file_commands.proofs.Causes.{load_lacks, told_text}
use Rattle.file_commands.proofs.Journals.{untouched}
use Rattle.file_commands.proofs.Means.{IsHigh, stop_answers}
use Rattle.zk_cli.specs.ManyRuns.{ServesMany, StatementsStop}
use Rattle.zk_cli.specs.Runs.{EachNote, OfNotes}
use Rattle.zk_cli.specs.ServeRuns.{HasServeFailed, IsServable, IsWithHonestProver, Serves}
use Rattle.zk_cli.specs.declared.finish.Part.{Part}
use Rattle.zk_cli.specs.declared.finish.Part.TheVariants.{Brokered, Plain, Proved, Rehearsed, RehearsedClaim, RehearsedElements, Served}

-- what holds of the sessions that are handed back
pub of_notes : {L : Type 0} (part : Part L) (P Q : List (SessionNote L) → Type 0) → ((notes : List (SessionNote L)) → P notes → Q notes)
    → OfNotes part P → OfNotes part Q
of_notes (Served notes) P Q then holds = then notes.items holds
of_notes Plain P Q then holds = tt
of_notes (Rehearsed r) P Q then holds = tt
of_notes (RehearsedElements r) P Q then holds = tt
of_notes (Proved note) P Q then holds = tt
of_notes (RehearsedClaim r) P Q then holds = tt
of_notes (Brokered notes) P Q then holds = tt

-- ---- why there are no claims

statements_high : (ask : ServeManyAsk) (shelf : ShelfChange) (why : Refusal) → StatementsStop ask shelf why → IsHigh why
statements_high ask shelf (stop.Unsatisfied output) cause = absurd cause
statements_high ask shelf other cause = tt

-- where the file of statements names claims, for want of memory alone
statements_7 : (ask : ServeManyAsk) (shelf : ShelfChange) (claims : List NamedClaim) → shelf.old.told ≢ None
    → HasText shelf.old.told ask.statements (λ text. NamesClaims text claims) → ¬ NameFailed ask.statements shelf
    → (why : Refusal) → StatementsStop ask shelf why → stop_status why ≡ 7
statements_7 ask shelf claims tells named calm (stop.StatementLine line) cause =
    let same = told_text shelf.old.told ask.statements named.text cause.text tells named.loaded.stands cause.loaded.stands in
    absurd (no_fault named.text claims named.says (BadLine line) (subst (λ text. HasFault text (BadLine line)) same cause.says))
statements_7 ask shelf claims tells named calm (stop.StatementCount lines) cause =
    let same = told_text shelf.old.told ask.statements named.text cause.text tells named.loaded.stands cause.loaded.stands in
    absurd (no_fault named.text claims named.says (Count lines) (subst (λ text. HasFault text (Count lines)) same cause.says))
statements_7 ask shelf claims tells named calm other cause =
    ap stop_status (load_lacks ask.statements shelf named.text tells named.loaded calm other cause)

pub serves_none : {L : Type 0} (link_tells : L → LinkState) (ask : ServeManyAsk) (disk : DiskState) (door : DoorState) (run : Effects)
    → SaysStop (StatementsStop ask run.shelf) run → OnlyLoads (IsName ask.statements) run.shelf
    → ServesMany link_tells ask Plain (disk_change disk disk) (change door door) run
serves_none link_tells ask disk door run says kept =
    let answers = stop_answers says.stop run.status run.sink (statements_high ask run.shelf says.stop says.cause) says.prints in
    record {
      runs = inr (record {
        plain = refl;
        lines = says;
        means = (elim answers [ inl e ↦ inl (says.stop, says.cause, e) | inr seven ↦ inr seven ]);
        kept = kept;
        untouched = untouched disk;
        unheard = refl;
      });
      done = λ service is ready calm quiet honest. (elim answers [
        | inl e ↦ inr (e ∙ statements_7 ask run.shelf is.0 ready.files.tells is.1 calm says.stop says.cause)
        | inr seven ↦ inr seven
      ]);
    }

-- ---- the service of its claims

pub serves_claims : {L : Type 0} (link_tells : L → LinkState) (ask : ServeManyAsk) (claims : List NamedClaim) (part : Part L)
    (disk : DiskChange) (door : DoorChange) (run : Effects) → HasText run.shelf.old.told ask.statements (λ text. NamesClaims text claims)
    → Serves link_tells (service_of_many ask claims) part disk door run → ServesMany link_tells ask part disk door run
serves_claims link_tells ask claims part disk door run named serves = record {
  runs = inl (service_of_many ask claims, (claims, named, refl), serves);
  done = λ service is ready calm quiet honest.
      let same_text = told_text run.shelf.old.told ask.statements named.text is.1.text ready.files.tells named.loaded.stands is.1.loaded.stands in
      let same : is.0 ≡ claims = one_list named.text is.0 claims (subst (λ text. NamesClaims text is.0) same_text is.1.says) named.says in
      let service_is : service ≡ service_of_many ask claims = is.2 ∙ ap (service_of_many ask) same in
      serves.done (subst (IsServable run.shelf.old.told disk.old) service_is ready)
      (subst (λ (s : Service). ¬ HasServeFailed s disk door run) service_is quiet)
      (subst (λ (s : Service). EachNote part (IsWithHonestProver link_tells run.shelf.old.told s)) service_is honest);
}
