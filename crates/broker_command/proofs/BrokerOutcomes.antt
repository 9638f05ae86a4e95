-- What is said of the exchanges gives what the status says.
use Rattle.std.proofs.Common.{◌≡◌, ◌⊎◌, ℕ, Bool, true, false, List, All, Contains, Option, None, Some, IfSome, refl, ap, ◌∙◌, subst, inl, inr, arith}
use Rattle.std.proofs.lemmas.List.Elements.{All-contains}
use Rattle.std.specs.Prelude.{◌||◌, if◌then◌else◌}
use Rattle.zk_model.specs.declared.Side.TheVariants.{Verifier}
use Rattle.zk_port.specs.Counts.{Rose}
use Rattle.zk_port.specs.Disks.{DiskState}
use Rattle.zk_port.specs.Doors.{DoorState}
use Rattle.zk_port.specs.Links.{LinkState}
use Rattle.lease_store.specs.declared.LeaseFault.{LeaseFault}
use Rattle.broker_links.specs.declared.note.BrokerNote.{BrokerNote}
use Rattle.broker_service.specs.Granted.{IsMarkedFault, refusal}
use Rattle.broker_service.proofs.Told.{refused_all}
use Rattle.file_commands.specs.Effects.{DoorChange, Effects, ShelfChange, SinkChange}
use Rattle.file_commands.specs.Journals.{DiskChange, IsCeilingsFault, JournalStop}
use Rattle.file_commands.specs.Stops.{FileStop, ListenStop, Prints, PrintsMade, WritesAll, stop_line, stop_status}
use Rattle.file_commands.specs.declared.refusal.Refusal.{Refusal}
use Rattle.file_commands.specs.declared.refusal.Refusal.TheVariants as stop
use Rattle.lease_journal.specs.declared.fault.StartFault.{StartFault}
use Rattle.file_commands.proofs.Journals.{rose_by}
use Rattle.file_commands.proofs.Means.{IsHigh, any_answers, file_status, stop_answers, zero_answers}
use Rattle.command_words.specs.Words.{BrokerAsk}
use Rattle.broker_command.specs.BrokerRuns.{BrokerLines, BrokerMeans, BrokerStop, NotesMean, SaysNotes, SomeLinkFailed, TakesAll}
use Rattle.broker_command.specs.NoteLines.{brokered_status, brokered_text, has_status}
use Rattle.broker_command.proofs.Endings.{IsLinkOf, all_granted, is_link, is_out, is_refused, lacks_want, links_failed, some_note}

-- ---- the first status that applies

abbrev chain : Bool → Bool → Bool → Bool → Bool → Bool → Bool → ℕ
chain door memory one four five six seven =
    if memory || seven then 7 else if five then 5 else if six then 6 else if door || four then 4 else if one then 1 else 0

-- all is well
record IsCalm (door one four five six seven : Bool) : Type 0 where
  pub door_is : door ≡ false
  pub one_is : one ≡ false
  pub four_is : four ≡ false
  pub five_is : five ≡ false
  pub six_is : six ≡ false
  pub seven_is : seven ≡ false

abbrev ChainMeans : Bool → Bool → Bool → Bool → Bool → Bool → ℕ → Type 0
ChainMeans door one four five six seven status =
    ((status ≡ 0) × IsCalm door one four five six seven)
    ⊎ ((status ≡ 1) × (one ≡ true))
    ⊎ ((status ≡ 4) × ((door ≡ true) ⊎ (four ≡ true)))
    ⊎ ((status ≡ 5) × (five ≡ true))
    ⊎ ((status ≡ 6) × (six ≡ true))
    ⊎ (status ≡ 7)

chain_means : (door memory one four five six seven : Bool)
    → ChainMeans door one four five six seven (chain door memory one four five six seven)
chain_means door true one four five six seven = inr (inr (inr (inr (inr refl))))
chain_means door false one four five six true = inr (inr (inr (inr (inr refl))))
chain_means door false one four true six false = inr (inr (inr (inl (refl, refl))))
chain_means door false one four false true false = inr (inr (inr (inr (inl (refl, refl)))))
chain_means true false one four false false false = inr (inr (inl (refl, inl refl)))
chain_means false false one true false false false = inr (inr (inl (refl, inr refl)))
chain_means false false true false false false false = inr (inl (refl, refl))
chain_means false false false false false false false = inl (
  refl,
  record { door_is = refl; one_is = refl; four_is = refl; five_is = refl; six_is = refl; seven_is = refl },
)

-- a line of status 7 gives that status
seven_prints : (text : List ℕ) (answer : ℕ) (sink : SinkChange) → Prints 7 text answer sink → answer ≡ 7
seven_prints text answer sink (inl whole) = whole.0
seven_prints text answer sink (inr (inl fault)) = fault.0
seven_prints text answer sink (inr (inr short)) = short.0

seven_answers : (text : List ℕ) (answer : ℕ) (sink : SinkChange) → PrintsMade 7 text answer sink → answer ≡ 7
seven_answers text answer sink (inl prints) = seven_prints text answer sink prints
seven_answers text answer sink (inr prints) = seven_prints (stop_line stop.NoMemory) answer sink prints

-- ---- the status of exchanges

module _ {B L : Type 0} (link_tells : L → LinkState) (state : B → DiskState) (ask : BrokerAsk) (notes : List (BrokerNote L LeaseFault))
    (disk : DiskChange) (door : DoorChange) (run : Effects) (says : SaysNotes link_tells state ask notes disk door run) where
  abbrev status : ℕ
  status = brokered_status notes says.door_failed says.memory_failed

  abbrev mark : ℕ
  mark = says.answers.wants.mark

  abbrev Means : Type 0
  Means = NotesMean link_tells notes disk door run

  refused : All (λ note. IfSome (refusal note.outcome) (IsMarkedFault mark)) notes
  refused = let wants = says.answers.wants in refused_all notes wants.asks wants.told (IsMarkedFault mark) wants.marked

  -- that of one note
  refused_one : (note : BrokerNote L LeaseFault) → Contains notes note → IfSome (refusal note.outcome) (IsMarkedFault mark)
  refused_one note among = All-contains (λ (n : BrokerNote L LeaseFault). IfSome (refusal n.outcome) (IsMarkedFault mark)) notes note refused among

  one_so : has_status notes 1 ≡ true → run.status ≡ 1 → Means
  one_so one is = let found = some_note notes 1 one in inr (inl (is, (found.0, found.1, lacks_want found.0.outcome found.2)))

  link_so : has_status notes 4 ≡ true → SomeLinkFailed link_tells notes
  link_so four =
      let found = some_note notes 4 four in
      let wants = says.answers.wants in (
        found.0,
        found.1,
        All-contains (IsLinkOf link_tells state) notes found.0 (links_failed link_tells state notes wants.asks _ _ wants.exchanges) found.1
            (is_link found.0.outcome found.2),
      )

  four_so : (says.door_failed ≡ true) ⊎ (has_status notes 4 ≡ true) → run.status ≡ 4 → Means
  four_so (inl failed) is = inr (inr (inl (is, inl (inr (says.answers.wants.taken.failed failed)))))
  four_so (inr link) is = inr (inr (inl (is, inr (inr (link_so link)))))

  five_so : has_status notes 5 ≡ true → run.status ≡ 5 → Means
  five_so five is =
      let found = some_note notes 5 five in
      let of = is_refused mark found.0.outcome found.2 (refused_one found.0 found.1) in
      inr (inr (inr (inl (is, rose_by disk.old.faults mark disk.new.faults (says.answers.wants.kept.rose of.1), (found.0, found.1, of.0)))))

  six_so : has_status notes 6 ≡ true → run.status ≡ 6 → Means
  six_so six is =
      let found = some_note notes 6 six in
      inr (inr (inr (inr (inl (is, (found.0, found.1, is_out mark found.0.outcome found.2 (refused_one found.0 found.1)))))))

  -- all is well, and the lines are written
  zero_so : IsCalm says.door_failed (has_status notes 1) (has_status notes 4) (has_status notes 5) (has_status notes 6) (has_status notes 7)
      → run.status ≡ 0 → WritesAll (brokered_text notes says.door_failed) run.sink → Means
  zero_so calm is written =
      let taken = says.answers.wants.taken in
      inl (
        is,
        record {
          each = all_granted notes calm.one_is calm.four_is calm.five_is calm.six_is calm.seven_is;
          lines = subst (λ (failed : Bool). WritesAll (brokered_text notes failed) run.sink) calm.door_is written;
          listen_quiet = ap (λ (s : DoorState). s.listen_faults) taken.rest;
          next_quiet = taken.calm calm.door_is;
        },
      )

  -- whatever else it is: the sink failed, or memory was missing
  above : (n : ℕ) → status ≡ n → (run.status ≡ n → Means) → Means
  above n is so = elim (any_answers status (brokered_text notes says.door_failed) run.status run.sink says.prints) [
    | inl e ↦ so (e ∙ is)
    | inr (inl failed) ↦ inr (inr (inl (failed.0, inr (inl failed.1))))
    | inr (inr seven) ↦ inr (inr (inr (inr (inr seven))))
  ]

  of_chain : ChainMeans says.door_failed (has_status notes 1) (has_status notes 4) (has_status notes 5) (has_status notes 6) (has_status notes 7) status → Means
  of_chain (inl zero_is) =
      let prints : PrintsMade 0 (brokered_text notes says.door_failed) run.status run.sink =
      subst (λ (n : ℕ). PrintsMade n (brokered_text notes says.door_failed) run.status run.sink) zero_is.0 says.prints in
      elim (zero_answers (brokered_text notes says.door_failed) run.status run.sink prints) [
        | inl whole ↦ zero_so zero_is.1 whole.0 whole.1
        | inr (inl failed) ↦ inr (inr (inl (failed.0, inr (inl failed.1))))
        | inr (inr seven) ↦ inr (inr (inr (inr (inr seven))))
      ]
  of_chain (inr (inl one)) = above 1 one.0 (one_so one.1)
  of_chain (inr (inr (inl four))) = above 4 four.0 (four_so four.1)
  of_chain (inr (inr (inr (inl five)))) = above 5 five.0 (five_so five.1)
  of_chain (inr (inr (inr (inr (inl six))))) = above 6 six.0 (six_so six.1)
  of_chain (inr (inr (inr (inr (inr seven))))) = above 7 seven (λ is. inr (inr (inr (inr (inr is)))))

  pub notes_mean : Means
  notes_mean = of_chain (chain_means says.door_failed says.memory_failed (has_status notes 1) (has_status notes 4) (has_status notes 5)
      (has_status notes 6) (has_status notes 7))

  -- all links were taken, unless the door failed or memory was missing
  pub all_taken : TakesAll ask notes door ⊎ Rose door.old.next_faults door.new.next_faults ⊎ (run.status ≡ 7)
  all_taken = by_flags says.door_failed says.memory_failed refl refl
    where
      by_flags : (failed lacked : Bool) → says.door_failed ≡ failed → says.memory_failed ≡ lacked
          → TakesAll ask notes door ⊎ Rose door.old.next_faults door.new.next_faults ⊎ (run.status ≡ 7)
      by_flags true lacked is other = inr (inl (says.answers.wants.taken.failed is))
      by_flags false true is other = inr (inr (seven_answers (brokered_text notes says.door_failed) run.status run.sink
          (subst (λ (b : Bool). PrintsMade (brokered_status notes says.door_failed b) (brokered_text notes says.door_failed) run.status run.sink)
          other says.prints)))
      by_flags false false is other = inl (says.answers.wants.taken.all is other)

-- ---- the status of a stop

abbrev IsOfSome : ℕ → Type 0
IsOfSome status = (status ≡ 3) ⊎ (status ≡ 4) ⊎ (status ≡ 5) ⊎ (status ≡ 7)

file_statuses : (name : List ℕ) (shelf : ShelfChange) (why : Refusal) → FileStop Verifier name shelf why → IsOfSome (stop_status why)
file_statuses name shelf (stop.BadFile fault) cause = elim (file_status fault) [ inl e ↦ inl e | inr e ↦ inr (inr (inr e)) ]
file_statuses name shelf stop.ShelfFailed cause = inr (inl refl)
file_statuses name shelf (stop.TooLong limit) cause = inl refl
file_statuses name shelf stop.NoMemory cause = inr (inr (inr refl))
file_statuses name shelf other cause = absurd cause

journal_statuses : (Cause : StartFault → Type 0) (disk : DiskChange) (why : Refusal) → JournalStop Cause disk why → IsOfSome (stop_status why)
journal_statuses Cause disk (stop.JournalFailed count) cause = inr (inr (inl refl))
journal_statuses Cause disk (stop.JournalShort need got) cause = inl refl
journal_statuses Cause disk (stop.JournalHeader place) cause = inl refl
journal_statuses Cause disk (stop.JournalBody slot) cause = inl refl
journal_statuses Cause disk stop.NoMemory cause = inr (inr (inr refl))
journal_statuses Cause disk other cause = absurd cause

listen_statuses : (address : List ℕ) (patience : ℕ) (door : DoorChange) (why : Refusal) → ListenStop address patience door why
    → IsOfSome (stop_status why)
listen_statuses address patience door stop.DoorFailed cause = inr (inl refl)
listen_statuses address patience door stop.NoMemory cause = inr (inr (inr refl))
listen_statuses address patience door other cause = absurd cause

stop_statuses : (ask : BrokerAsk) (shelf : ShelfChange) (disk : DiskChange) (door : DoorChange) (why : Refusal)
    → BrokerStop ask shelf disk door why → IsOfSome (stop_status why)
stop_statuses ask shelf disk door why (inl lacks) = file_statuses ask.file shelf why lacks.0
stop_statuses ask shelf disk door why (inr (file, stands, opening)) = elim opening.cause [
  | inl journal ↦ journal_statuses (IsCeilingsFault file.id file.params.total disk.old) disk why journal.0
  | inr unheard ↦ listen_statuses ask.address ask.timeout door why unheard
]

-- a broker does not stop for other outputs
is_high : (ask : BrokerAsk) (shelf : ShelfChange) (disk : DiskChange) (door : DoorChange) (why : Refusal)
    → BrokerStop ask shelf disk door why → IsHigh why
is_high ask shelf disk door (stop.Unsatisfied output) cause =
    elim (stop_statuses ask shelf disk door (stop.Unsatisfied output) cause) [
      | inl e ↦ omega (arith, e)
      | inr (inl e) ↦ omega (arith, e)
      | inr (inr (inl e)) ↦ omega (arith, e)
      | inr (inr (inr e)) ↦ omega (arith, e)
    ]
is_high ask shelf disk door other cause = tt

-- ---- the run

pub broker_takes : {B L : Type 0} (link_tells : L → LinkState) (state : B → DiskState) (ask : BrokerAsk)
    (notes : Option (List (BrokerNote L LeaseFault))) (disk : DiskChange) (door : DoorChange) (run : Effects)
    → BrokerLines link_tells state ask notes disk door run
    → IfSome notes (λ taken. TakesAll ask taken door ⊎ Rose door.old.next_faults door.new.next_faults ⊎ (run.status ≡ 7))
broker_takes link_tells state ask (Some notes) disk door run says = all_taken link_tells state ask notes disk door run says
broker_takes link_tells state ask None disk door run says = tt

pub broker_means : {B L : Type 0} (link_tells : L → LinkState) (state : B → DiskState) (ask : BrokerAsk)
    (notes : Option (List (BrokerNote L LeaseFault))) (disk : DiskChange) (door : DoorChange) (run : Effects)
    → BrokerLines link_tells state ask notes disk door run → BrokerMeans link_tells ask notes disk door run
broker_means link_tells state ask (Some notes) disk door run says = notes_mean link_tells state ask notes disk door run says
broker_means link_tells state ask None disk door run says =
    elim (stop_answers says.stop run.status run.sink (is_high ask run.shelf disk door says.stop says.cause) says.prints) [
      | inl e ↦ inl (says.stop, says.cause, e)
      | inr e ↦ inr e
    ]

abbrev pub IsOfAll : ℕ → Type 0
IsOfAll status = (status ≡ 0) ⊎ (status ≡ 1) ⊎ (status ≡ 3) ⊎ (status ≡ 4) ⊎ (status ≡ 5) ⊎ (status ≡ 6) ⊎ (status ≡ 7)

pub broker_statuses : {L : Type 0} (link_tells : L → LinkState) (ask : BrokerAsk) (notes : Option (List (BrokerNote L LeaseFault)))
    (disk : DiskChange) (door : DoorChange) (run : Effects) → BrokerMeans link_tells ask notes disk door run → IsOfAll run.status
broker_statuses link_tells ask (Some notes) disk door run (inl zero_is) = inl zero_is.0
broker_statuses link_tells ask (Some notes) disk door run (inr (inl one)) = inr (inl one.0)
broker_statuses link_tells ask (Some notes) disk door run (inr (inr (inl four))) = inr (inr (inr (inl four.0)))
broker_statuses link_tells ask (Some notes) disk door run (inr (inr (inr (inl five)))) = inr (inr (inr (inr (inl five.0))))
broker_statuses link_tells ask (Some notes) disk door run (inr (inr (inr (inr (inl six))))) = inr (inr (inr (inr (inr (inl six.0)))))
broker_statuses link_tells ask (Some notes) disk door run (inr (inr (inr (inr (inr seven))))) = inr (inr (inr (inr (inr (inr seven)))))
broker_statuses link_tells ask None disk door run (inl of) = elim (stop_statuses ask run.shelf disk door of.0 of.1) [
  | inl e ↦ inr (inr (inl (of.2 ∙ e)))
  | inr (inl e) ↦ inr (inr (inr (inl (of.2 ∙ e))))
  | inr (inr (inl e)) ↦ inr (inr (inr (inr (inl (of.2 ∙ e)))))
  | inr (inr (inr e)) ↦ inr (inr (inr (inr (inr (inr (of.2 ∙ e))))))
]
broker_statuses link_tells ask None disk door run (inr seven) = inr (inr (inr (inr (inr (inr seven)))))
