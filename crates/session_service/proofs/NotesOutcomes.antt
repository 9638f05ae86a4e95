-- What is said of the sessions that were served gives what the status says.
use Rattle.std.proofs.Common.{◌≡◌, ◌≢◌, ◌⊎◌, ℕ, zero, suc, Bool, true, false, List, [], ◌∷◌, All, Option, refl, sym, ap, ◌∙◌, subst, inl, inr, arith}
use Rattle.std.specs.Prelude.{◌==◌, ◌||◌, if◌then◌else◌}
use Rattle.zk_port.specs.Counts.{Rose}
use Rattle.zk_port.specs.Doors.{DoorState}
use Rattle.session_pool.specs.Notes.{IsMarked}
use Rattle.session_verifier.specs.Outcomes.{grant_fault}
use Rattle.session_verifier.specs.declared.note.SessionNote.{SessionNote}
use Rattle.session_verifier.specs.declared.note.VerifierOutcome.{VerifierOutcome}
use Rattle.session_verifier.specs.declared.note.VerifierOutcome.TheVariants.{Accepted, RejectedSum, RejectedOpening, PeerEnded, BadFrame, BadHello, Exhausted, Device, Broken, NoBlock, Broker, Link, NoMemory}
use Rattle.file_commands.specs.Journals.{DiskChange}
use Rattle.session_verifier.specs.NoteLines.{IsServedText, has_status, served_status, failures, outcome_status}
use Rattle.file_commands.specs.Effects.{ShelfChange, DoorChange, Effects}
use Rattle.session_service.specs.NotesMean.{NotesMean}
use Rattle.session_service.specs.ServiceRuns.{LeadsSessions, Place, Sessions}
use Rattle.session_verifier.specs.ServiceLogs.{KeepsLogs, SaysService, no_faults}
use Rattle.session_verifier.specs.declared.service_logs.LogFaults.{LogFaults}
use Rattle.file_commands.specs.Stops.{Prints, after_sink_fault}
use Rattle.file_commands.proofs.Journals.{rose_by}

true_is_false : true ≡ false → ⊥
true_is_false same = cc

-- ---- the first status that applies

abbrev chain : Bool → Bool → Bool → Bool → Bool → Bool → Bool → Bool → ℕ
chain door shelf memory one four five six seven =
    if memory || seven then 7 else if five then 5 else if six then 6 else if door || shelf || four then 4 else if one then 1 else 0

-- all is well
pub record IsCalm (door shelf memory one four five six seven : Bool) : Type 0 where
  pub door_is : door ≡ false
  pub shelf_is : shelf ≡ false
  pub memory_is : memory ≡ false
  pub one_is : one ≡ false
  pub four_is : four ≡ false
  pub five_is : five ≡ false
  pub six_is : six ≡ false
  pub seven_is : seven ≡ false

abbrev ChainMeans : Bool → Bool → Bool → Bool → Bool → Bool → Bool → Bool → ℕ → Type 0
ChainMeans door shelf memory one four five six seven status =
    ((status ≡ 0) × IsCalm door shelf memory one four five six seven)
    ⊎ ((status ≡ 1) × (one ≡ true))
    ⊎ ((status ≡ 4) × ((door ≡ true) ⊎ (shelf ≡ true) ⊎ (four ≡ true)))
    ⊎ ((status ≡ 5) × (five ≡ true))
    ⊎ ((status ≡ 6) × (six ≡ true))
    ⊎ (status ≡ 7)

chain_means : (door shelf memory one four five six seven : Bool)
    → ChainMeans door shelf memory one four five six seven (chain door shelf memory one four five six seven)
chain_means door shelf true one four five six seven = inr (inr (inr (inr (inr refl))))
chain_means door shelf false one four five six true = inr (inr (inr (inr (inr refl))))
chain_means door shelf false one four true six false = inr (inr (inr (inl (refl, refl))))
chain_means door shelf false one four false true false = inr (inr (inr (inr (inl (refl, refl)))))
chain_means true shelf false one four false false false = inr (inr (inl (refl, inl refl)))
chain_means false true false one four false false false = inr (inr (inl (refl, inr (inl refl))))
chain_means false false false one true false false false = inr (inr (inl (refl, inr (inr refl))))
chain_means false false false true false false false false = inr (inl (refl, refl))
chain_means false false false false false false false false = inl (
  refl,
  record {
    door_is = refl;
    shelf_is = refl;
    memory_is = refl;
    one_is = refl;
    four_is = refl;
    five_is = refl;
    six_is = refl;
    seven_is = refl;
  },
)

-- ---- notes of which none has a status but 0

is_accepted : (outcome : VerifierOutcome) → (outcome_status outcome == 1) ≡ false → (outcome_status outcome == 4) ≡ false
    → (outcome_status outcome == 5) ≡ false → (outcome_status outcome == 6) ≡ false → (outcome_status outcome == 7) ≡ false → outcome ≡ Accepted
is_accepted Accepted one four five six seven = refl
is_accepted (RejectedSum section left right) one four five six seven = absurd (true_is_false one)
is_accepted (RejectedOpening output left right) one four five six seven = absurd (true_is_false one)
is_accepted (PeerEnded at) one four five six seven = absurd (true_is_false one)
is_accepted (BadFrame place) one four five six seven = absurd (true_is_false one)
is_accepted (BadHello differs) one four five six seven = absurd (true_is_false one)
is_accepted (Exhausted at count total) one four five six seven = absurd (true_is_false six)
is_accepted Device one four five six seven = absurd (true_is_false five)
is_accepted (Broken first) one four five six seven = absurd (true_is_false five)
is_accepted (NoBlock wants) one four five six seven = absurd (true_is_false one)
is_accepted Broker one four five six seven = absurd (true_is_false four)
is_accepted Link one four five six seven = absurd (true_is_false four)
is_accepted NoMemory one four five six seven = absurd (true_is_false seven)

first_is : (a b : Bool) → (a || b) ≡ false → a ≡ false
first_is true b same = absurd (true_is_false same)
first_is false b same = refl

rest_is : (a b : Bool) → (a || b) ≡ false → b ≡ false
rest_is true b same = absurd (true_is_false same)
rest_is false b same = same

pub either_is : (a b : Bool) → (a || b) ≡ true → (a ≡ true) ⊎ (b ≡ true)
either_is true b same = inl refl
either_is false b same = inr same

-- a note has no such status, and the others have none
first_has : {L : Type 0} (status : ℕ) (note : SessionNote L) (notes : List (SessionNote L)) → has_status (note ∷ notes) status ≡ false
    → (outcome_status note.outcome == status) ≡ false
first_has status note notes same = first_is (outcome_status note.outcome == status) (has_status notes status) same

rest_has : {L : Type 0} (status : ℕ) (note : SessionNote L) (notes : List (SessionNote L)) → has_status (note ∷ notes) status ≡ false
    → has_status notes status ≡ false
rest_has status note notes same = rest_is (outcome_status note.outcome == status) (has_status notes status) same

all_accepted : {L : Type 0} (notes : List (SessionNote L)) → has_status notes 1 ≡ false → has_status notes 4 ≡ false
    → has_status notes 5 ≡ false → has_status notes 6 ≡ false → has_status notes 7 ≡ false → All (λ note. note.outcome ≡ Accepted) notes
all_accepted [] one four five six seven place default within = absurd (omega (arith, within))
all_accepted (note ∷ notes) one four five six seven zero default within =
    is_accepted note.outcome (first_has 1 note notes one) (first_has 4 note notes four) (first_has 5 note notes five)
    (first_has 6 note notes six) (first_has 7 note notes seven)
all_accepted (note ∷ notes) one four five six seven (suc place) default within =
    all_accepted notes (rest_has 1 note notes one) (rest_has 4 note notes four) (rest_has 5 note notes five)
    (rest_has 6 note notes six) (rest_has 7 note notes seven) place default (omega (arith, within))

-- ---- a journal that failed

marks_one : (mark : ℕ) (outcome : VerifierOutcome) → (outcome_status outcome == 5) ≡ true → IsMarked mark (grant_fault outcome) → mark ≢ 0
marks_one mark Accepted five marked = absurd (true_is_false (sym five))
marks_one mark (RejectedSum section left right) five marked = absurd (true_is_false (sym five))
marks_one mark (RejectedOpening output left right) five marked = absurd (true_is_false (sym five))
marks_one mark (PeerEnded at) five marked = absurd (true_is_false (sym five))
marks_one mark (BadFrame place) five marked = absurd (true_is_false (sym five))
marks_one mark (BadHello differs) five marked = absurd (true_is_false (sym five))
marks_one mark (Exhausted at count total) five marked = absurd (true_is_false (sym five))
marks_one mark Device five marked = marked
marks_one mark (Broken first) five marked = marked
marks_one mark (NoBlock wants) five marked = absurd (true_is_false (sym five))
marks_one mark Broker five marked = absurd (true_is_false (sym five))
marks_one mark Link five marked = absurd (true_is_false (sym five))
marks_one mark NoMemory five marked = absurd (true_is_false (sym five))

marks : {L : Type 0} (mark : ℕ) (notes : List (SessionNote L)) → has_status notes 5 ≡ true
    → All (λ note. IsMarked mark (grant_fault note.outcome)) notes → mark ≢ 0
marks mark [] five marked = absurd (true_is_false (sym five))
marks mark (note ∷ notes) five marked = elim (either_is (outcome_status note.outcome == 5) (has_status notes 5) five) [
  | inl here ↦ marks_one mark note.outcome here (marked 0 note (omega arith))
  | inr there ↦ marks mark notes there (λ place default within. marked (suc place) default (omega (arith, within)))
]

-- ---- logs

-- where no call for a log failed and memory was not missing, nothing did
all_kept : {L : Type 0} (prefix : Option (List ℕ)) (notes : List (SessionNote L)) (shelf : ShelfChange) (faults : LogFaults)
    → KeepsLogs prefix notes shelf faults → faults.failed ≡ false → faults.lacked ≡ false → KeepsLogs prefix notes shelf no_faults
all_kept prefix notes shelf faults kept failed lacked =
    subst (λ (f : Bool × Bool). KeepsLogs prefix notes shelf (record { failed = f.0; lacked = f.1 })) (λ i. (failed i, lacked i)) kept

-- ---- the status

module _ {L : Type 0} (prefix : Option (List ℕ)) (notes : List (SessionNote L)) (disk : DiskChange) (door : DoorChange) (run : Effects)
    (door_failed memory_failed : Bool) (says : SaysService prefix notes door_failed memory_failed run)
    (failed : door_failed ≡ true → Rose door.old.next_faults door.new.next_faults)
    (calm : door_failed ≡ false → door.new.next_faults ≡ door.old.next_faults)
    (heard : door.new.listen_faults ≡ door.old.listen_faults)
    (marked : has_status notes 5 ≡ true → Rose disk.old.faults disk.new.faults) where
  abbrev faults : LogFaults
  faults = says.faults

  abbrev status : ℕ
  status = served_status notes (failures door_failed faults.failed (memory_failed || faults.lacked))

  abbrev Means : ℕ → Type 0
  Means = ChainMeans door_failed faults.failed (memory_failed || faults.lacked)
      (has_status notes 1) (has_status notes 4) (has_status notes 5) (has_status notes 6) (has_status notes 7)

  failed_so : (door_failed ≡ true) ⊎ (faults.failed ≡ true) ⊎ (has_status notes 4 ≡ true) → run.status ≡ 4 → NotesMean prefix notes disk door run
  failed_so (inl at_door) is = inr (inr (inl (is, inl (inr (failed at_door)))))
  failed_so (inr (inl at_log)) is = inr (inr (inl (is, inr (inl (says.logs.tried.cause at_log)))))
  failed_so (inr (inr link)) is = inr (inr (inl (is, inr (inr (inr link)))))

  five_so : has_status notes 5 ≡ true → run.status ≡ 5 → NotesMean prefix notes disk door run
  five_so five is = inr (inr (inr (inl (is, marked five, five))))

  mean_written : (text : List ℕ) → IsServedText notes door_failed text → Means status → Prints status text run.status run.sink
      → NotesMean prefix notes disk door run
  mean_written text served means (inr (inr short)) = inr (inr (inr (inr (inr short.0))))
  mean_written text served (inl zero_is) (inl whole) =
      let well = zero_is.1 in
      inl (
        whole.0 ∙ zero_is.0,
        record {
          each = all_accepted notes well.one_is well.four_is well.five_is well.six_is well.seven_is;
          lines = (text, subst (λ (at_door : Bool). IsServedText notes at_door text) well.door_is served, whole.1);
          logs = all_kept prefix notes run.shelf faults says.logs well.shelf_is
              (rest_is memory_failed faults.lacked well.memory_is);
          listen_quiet = heard;
          next_quiet = calm well.door_is;
        },
      )
  mean_written text served (inr (inl one)) (inl whole) = inr (inl (whole.0 ∙ one.0, one.1))
  mean_written text served (inr (inr (inl four))) (inl whole) = failed_so four.1 (whole.0 ∙ four.0)
  mean_written text served (inr (inr (inr (inl five)))) (inl whole) = five_so five.1 (whole.0 ∙ five.0)
  mean_written text served (inr (inr (inr (inr (inl six))))) (inl whole) = inr (inr (inr (inr (inl (whole.0 ∙ six.0, six.1)))))
  mean_written text served (inr (inr (inr (inr (inr seven))))) (inl whole) = inr (inr (inr (inr (inr (whole.0 ∙ seven)))))
  mean_written text served (inl zero_is) (inr (inl fault)) =
      inr (inr (inl (fault.0 ∙ ap after_sink_fault zero_is.0, inr (inr (inl fault.2)))))
  mean_written text served (inr (inl one)) (inr (inl fault)) = inr (inr (inl (fault.0 ∙ ap after_sink_fault one.0, inr (inr (inl fault.2)))))
  mean_written text served (inr (inr (inl four))) (inr (inl fault)) = inr (inr (inl (fault.0 ∙ ap after_sink_fault four.0, inr (inr (inl fault.2)))))
  mean_written text served (inr (inr (inr (inl five)))) (inr (inl fault)) = five_so five.1 (fault.0 ∙ ap after_sink_fault five.0)
  mean_written text served (inr (inr (inr (inr (inl six))))) (inr (inl fault)) =
      inr (inr (inr (inr (inl (fault.0 ∙ ap after_sink_fault six.0, six.1)))))
  mean_written text served (inr (inr (inr (inr (inr seven))))) (inr (inl fault)) =
      inr (inr (inr (inr (inr (fault.0 ∙ ap after_sink_fault seven)))))

  pub notes_mean : NotesMean prefix notes disk door run
  notes_mean = elim says.lines [
    | inl written ↦ mean_written written.0 written.1 (chain_means door_failed faults.failed (memory_failed || faults.lacked)
        (has_status notes 1) (has_status notes 4) (has_status notes 5) (has_status notes 6) (has_status notes 7)) written.2
    | inr short ↦ inr (inr (inr (inr (inr short.0))))
  ]

-- of sessions that were led
pub led_mean : {L : Type 0} (at : Place) (led : Sessions L) (notes : List (SessionNote L)) (door_failed memory_failed : Bool) (disk : DiskChange) (door : DoorChange)
    (run : Effects) → LeadsSessions at led notes door_failed memory_failed disk door → SaysService at.options.logs notes door_failed memory_failed run
    → NotesMean at.options.logs notes disk door run
led_mean at led notes door_failed memory_failed disk door run leads says =
    notes_mean at.options.logs notes disk door run door_failed memory_failed says leads.taken.failed leads.taken.calm
    (ap (λ (s : DoorState). s.listen_faults) leads.taken.rest)
    (λ five. rose_by disk.old.faults leads.mark disk.new.faults (leads.kept.rose (marks leads.mark notes five leads.marked)))
