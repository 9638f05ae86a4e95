-- What is known of units, of files, and of a disk of which nothing is asked.
use Rattle.std.proofs.Common.{◌≡◌, ◌<◌, ◌≤◌, ◌-◌, ◌+◌, ℕ, zero, suc, List, [], ◌∷◌, All, length, get_or, true, Option, None, Some, refl, subst, inl, arith, ap}
use Rattle.std.proofs.lemmas.Bool.Decides.{nat_tests}
use Rattle.std.proofs.lemmas.List.Sums.{sum_by-cons}
use Rattle.std.specs.Option.{option_map}
use Rattle.std.specs.Prelude.{sum_by}
use Rattle.claim_store.specs.ClaimedRanges.{RiseFrom}
use Rattle.lease_journal.specs.Journals.{AreSound, body_before, keeps_rule}
use Rattle.zk_model.specs.declared.JournalKind.TheVariants.{Ceilings}
use Rattle.zk_model.specs.declared.Params.{Params}
use Rattle.zk_model.specs.declared.Span.{Span}
use Rattle.zk_port.specs.Disks.{Choice}
use Rattle.zk_port.specs.Files.{Files}
use Rattle.lease_store.specs.Ceilings.{SaysCeiling}
use Rattle.dealer_files.specs.Faults.{IsFirstFileFault}
use Rattle.dealer_files.specs.declared.fault.FileFault.{FileFault}
use Rattle.command_words.specs.Words.{StatusAsk}
use Rattle.file_commands.specs.Effects.{ShelfChange}
use Rattle.file_commands.specs.Stops.{IsLoaded}
use Rattle.file_commands.specs.declared.refusal.Refusal.{Refusal}
use Rattle.file_commands.specs.declared.refusal.Refusal.TheVariants.{BadFile}
use Rattle.file_commands.specs.Journals.{DiskChange, IsUntouched, JournalStop, OnlyReads, OpensJournal}
use Rattle.status_command.specs.StatusRuns.{DealtStop, HasAskedCircuit, HasStatus, IsDealing, IsJournalFault, LacksJournal, LeavesSessions, SaysUsed, TakesUnits, sessions_in, side_of, status_journal, status_text, units_of}
use Rattle.status_command.specs.declared.dealing.Dealing.{Dealing}
use Rattle.status_command.specs.declared.session_size.SessionSize.{SessionSize}

-- ---- units

-- ranges that rise up to a total have no more units than that
pub units_rising : (low total : ℕ) (ranges : List Span) → RiseFrom low ranges → All (λ (s : Span). (s.start < s.end) × (s.end ≤ total)) ranges
    → sum_by units_of ranges ≤ total - low
units_rising low total [] rising within = omega arith
units_rising low total (s ∷ ranges) rising within =
    let here = within 0 s (omega arith) in
    let rest = units_rising (s.end + 1) total ranges rising.2 (λ place default inside. within (suc place) default (omega (arith, inside))) in
    rw sum_by-cons (omega (arith, here, rest, rising.0, rising.1))

-- a ceiling that a journal says is at most its total
low_body : (total before : ℕ) (body : ℕ × ℕ) → keeps_rule Ceilings total before body ≡ true → body.0 ≤ total
low_body total before body keeps = grind (arith, nat_tests)

low_before : (total : ℕ) (bodies : List (ℕ × ℕ)) → AreSound Ceilings total bodies → (count : ℕ) → count ≤ length bodies
    → (body_before bodies count).0 ≤ total
low_before total bodies sound zero within = omega arith
low_before total bodies sound (suc count) within =
    low_body total (body_before bodies count).0 (get_or bodies count (0, 0)) (sound count (omega (arith, within)))

pub low_ceiling : (id : List ℕ) (total ceiling : ℕ) (bytes : List ℕ) → SaysCeiling id total ceiling bytes → ceiling ≤ total
low_ceiling id total ceiling bytes says =
    subst (λ (n : ℕ). n ≤ total) says.last (low_before total says.bodies says.says.sound (length says.bodies) (omega arith))

-- ---- files

-- the circuit that is asked about stands there
pub has_asked : (told : Option Files) (asked : Option (List ℕ)) (params : Params) (units : Option ℕ) → TakesUnits told asked params units
    → HasAskedCircuit told asked
has_asked told None params units takes = tt
has_asked told (Some name) params units takes = (takes.circuit, takes.file)

-- sessions of the units that one takes are left
sessions_taken : (told : Option Files) (asked : Option (List ℕ)) (params : Params) (left : ℕ) (session : Option SessionSize)
    → TakesUnits told asked params (option_map (λ (s : SessionSize). s.units) session)
    → LeavesSessions told asked params left (option_map (λ (s : SessionSize). sessions_in s.units left) session)
sessions_taken told None params left None takes = refl
sessions_taken told None params left (Some session) takes = absurd (cc)
sessions_taken told (Some name) params left None takes = let is = takes.is in absurd (cc)
sessions_taken told (Some name) params left (Some session) takes = record {
  circuit = takes.circuit;
  file = takes.file;
  is = ap (option_map (λ (n : ℕ). sessions_in n left)) takes.is;
}

-- and so of what is known of the file that was found
pub leaves_sessions : (told : Option Files) (asked : Option (List ℕ)) (dealing found : Dealing) (used : ℕ) (session : Option SessionSize)
    (sessions : Option ℕ) → dealing ≡ found → TakesUnits told asked found.params (option_map (λ (s : SessionSize). s.units) session)
    → sessions ≡ option_map (λ (s : SessionSize). sessions_in s.units (dealing.params.total - used)) session
    → LeavesSessions told asked found.params (found.params.total - used) sessions
leaves_sessions told asked dealing found used session sessions same takes is =
    rw is (rw same (sessions_taken told asked found.params (found.params.total - used) session takes))

-- a dealt file can't be had whose bytes are none
pub dealt_of_bytes : (name : List ℕ) (number : Option ℕ) (shelf : ShelfChange) (text read : List ℕ) (fault : FileFault)
    → IsLoaded shelf.old.told name text → read ≡ text → IsFirstFileFault (side_of number read) read fault
    → DealtStop name number shelf (BadFile fault)
dealt_of_bytes name number shelf text read fault loaded same first =
    record { text = text; loaded = loaded; says = subst (λ (bytes : List ℕ). IsFirstFileFault (side_of number bytes) bytes fault) same first }

-- ---- the disk

-- a disk of which nothing is asked is read alone
pub untouched_is_read : (choice : Choice) (disk : DiskChange) → IsUntouched disk → OnlyReads choice disk
untouched_is_read choice disk stays = record {
  chosen = inl stays.chosen;
  stays = record {
    chosen = refl;
    content = stays.stays.content;
    room = stays.stays.room;
    crash = stays.stays.crash;
    time = record { later = stays.stays.time.later; nothing_else = stays.stays.time.nothing_else; keeps = stays.stays.time.keeps };
  };
  later = let still = stays.still in omega (arith, still);
}

-- ---- the node that is asked about

-- what is said by the number that a file was loaded with is said by the number that is asked about
pub has_status : (ask : StatusAsk) (told : Option Files) (disk : DiskChange) (number : Option ℕ) → number ≡ ask.node → (dealing : Dealing)
    → IsDealing told ask.file ask.node dealing → OpensJournal (status_journal ask.file number) disk → (used : ℕ)
    → SaysUsed number dealing disk.old used → used ≤ dealing.params.total → (sessions : Option ℕ)
    → LeavesSessions told ask.circuit dealing.params (dealing.params.total - used) sessions
    → HasStatus ask told disk (status_text ask.node dealing used sessions)
has_status ask told disk number same dealing file opens used says within sessions left = record {
  dealing = dealing;
  file = file;
  opens = subst (λ (n : Option ℕ). OpensJournal (status_journal ask.file n) disk) same opens;
  used = used;
  says = subst (λ (n : Option ℕ). SaysUsed n dealing disk.old used) same says;
  within = within;
  sessions = sessions;
  left = left;
  text_is = refl;
}

-- and so is why its journal is not opened
pub lacks_journal : (ask : StatusAsk) (told : Option Files) (disk : DiskChange) (why : Refusal) (number : Option ℕ) → number ≡ ask.node
    → (dealing : Dealing) → IsDealing told ask.file ask.node dealing → HasAskedCircuit told ask.circuit
    → OnlyReads (status_journal ask.file number) disk → JournalStop (IsJournalFault number dealing disk.old) disk why
    → LacksJournal ask told disk why
lacks_journal ask told disk why number same dealing file circuit reads cause = record {
  dealing = dealing;
  file = file;
  circuit = circuit;
  reads = subst (λ (n : Option ℕ). OnlyReads (status_journal ask.file n) disk) same reads;
  cause = subst (λ (n : Option ℕ). JournalStop (IsJournalFault n dealing disk.old) disk why) same cause;
}
