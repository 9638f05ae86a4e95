-- What notes are to the entries of the passes by which they were served.
use Rattle.std.specs.Prelude.{◌≡◌, ℕ, ◌+◌, ◌<◌, ◌≤◌, ◌⊎◌, max, List, [], ◌∷◌, length, All, Contains, Option, None, Some, IfSome, Result}
use Rattle.std.specs.List.{sum_by}
use Rattle.atomic_table.specs.Seated.{TableId}
use Rattle.zk_model.specs.declared.Span.{Span}
use Rattle.zk_model.specs.declared.limits.TheConstants.{MAX_UNITS}
use Rattle.lease_words.specs.Views.{inside, times_drawn, units_drawn}
use Rattle.lease_words.specs.Calls.{entries_of, known_of, mark_of, met_of, greatest_end, all_entries, all_met_by}
use Rattle.lease_words.specs.declared.fault.Exhausted.{Exhausted as Refusal}
use Rattle.lease_words.specs.declared.pass.Pass.{Pass}
use Rattle.lease_words.specs.declared.view.Entry.{Entry}
use Rattle.lease_store.specs.Leases.{IsPassAt}
use Rattle.lease_store.specs.declared.LeaseFault.TheVariants.{Exhausted, Device, Broken}
use Rattle.lease_store.specs.declared.grantor.GrantFault.{GrantFault}
use Rattle.lease_store.specs.declared.grantor.GrantFault.TheVariants.{Lease, NoMemory, NoBlock, Broker}
use Rattle.session_pool.specs.Notes.{IsNoteOf, IsMarked, TellsMark, faults_met}

-- What the workers of a run agree on is this of the session: what its notes say, and that its units are those of the store
pub record IsShiftOf {M : Type 0} (is_note : M → Type 0) (granted : M → Option Span) (refused : M → Option GrantFault)
    (size : M → ℕ) (total : ℕ) (IsNote : Option (Result Span GrantFault) → M → Type 0) (session_granted : M → Option Span)
    (session_refused : M → Option GrantFault) (session_size : M → ℕ) (session_total : ℕ) : Type 0 where
  pub total_is : total ≡ session_total
  pub notes : (note : M) → IsNoteOf IsNote note → is_note note
  pub granted_is : (note : M) → granted note ≡ session_granted note
  pub refused_is : (note : M) → refused note ≡ session_refused note
  pub size_is : (note : M) → size note ≡ session_size note

-- 1 where a granted span has the unit, and else 0
abbrev pub counts_unit : Option Span → ℕ → ℕ
counts_unit None unit = 0
counts_unit (Some s) unit = inside s.start s.end unit

-- how often a unit was granted
abbrev pub times_granted : {M : Type 0} → (M → Option Span) → ℕ → List M → ℕ
times_granted granted unit notes = sum_by (λ m. counts_unit (granted m) unit) notes

-- a granted span is not empty, has so many units, and ends at or below a known ceiling and within the total
abbrev pub IsUpTo : ℕ → ℕ → ℕ → Option Span → Type 0
IsUpTo units total known granted =
    IfSome granted (λ s. (s.start < s.end) × (s.end ≡ s.start + units) × (s.end ≤ known) × (s.end ≤ total))

-- So many units that are refused for want of them end above the total, and at or below the greatest end of what was drawn. As many as the
-- refused session takes itself end there too, or above by no more than what notes take and nobody drew.
abbrev pub IsReachedBy : ℕ → ℕ → ℕ → ℕ → ℕ → ℕ → GrantFault → Type 0
IsReachedBy units own total reach drawn taken (Lease (Exhausted at count all)) =
    (at + units ≤ reach) × (count ≡ units) × (all ≡ total) × (total < at + units) × (at + own + drawn ≤ reach + taken)
IsReachedBy units own total reach drawn taken (Lease Device) = Unit {0}
IsReachedBy units own total reach drawn taken (Lease (Broken first)) = Unit {0}
IsReachedBy units own total reach drawn taken NoMemory = ⊥
IsReachedBy units own total reach drawn taken (NoBlock wants) = ⊥
IsReachedBy units own total reach drawn taken Broker = ⊥

-- the same of entries and of notes, one of which takes so many units
pub record IsPoolReached {M : Type 0} (size : M → ℕ) (total : ℕ) (entries : List Entry) (notes : List M) (own : ℕ)
    (fault : GrantFault) : Type 0 where
  pub drawer : M
  pub among : Contains notes drawer
  pub least : 1 ≤ size drawer
  pub most : size drawer ≤ MAX_UNITS
  pub reached : IsReachedBy (size drawer) own total (greatest_end 0 entries) (units_drawn entries) (sum_by size notes) fault

-- a store with this mark may have such a pass
abbrev pub AllowsMark : Pass → ℕ → Type 0
AllowsMark p mark = (mark_of p ≡ 0) ⊎ (mark_of p ≡ mark)

-- What notes are to entries, to a known ceiling and to the marks that a store may have: each is a note of the session; no unit is
-- granted more often than drawn; a journal's failure is that of the mark; and where the passes had not drawn before, no more units are
-- drawn than all notes take, and what is refused was drawn.
pub record IsWork {M : Type 0} (granted : M → Option Span) (refused : M → Option GrantFault) (is_note : M → Type 0)
    (fresh : Type 0) (size : M → ℕ) (total : ℕ) (entries : List Entry) (known : ℕ) (Allows : ℕ → Type 0)
    (notes : List M) : Type 0 where
  pub rightly : All is_note notes
  pub once : (unit : ℕ) → times_granted granted unit notes ≤ times_drawn unit entries
  pub upto : All (λ m. IsUpTo (size m) total known (granted m)) notes
  pub marked : (mark : ℕ) → Allows mark → All (λ m. IsMarked mark (refused m) × TellsMark mark (refused m)) notes
  pub drawn : fresh → units_drawn entries ≤ sum_by size notes
  pub reached : fresh → All (λ m. IfSome (refused m) (IsPoolReached size total entries notes (size m))) notes

-- a refusal that a pass keeps was drawn
abbrev pub IsRefusalKept : {M : Type 0} → Type 0 → (M → ℕ) → ℕ → List M → Pass → Type 0
IsRefusalKept fresh size total notes p = fresh → (e : Refusal) → p.kept ≡ Some e
    → IsPoolReached size total (entries_of p) notes 0 (Lease (Exhausted e.at e.count e.total))

-- what a worker keeps
pub record IsWorker {M : Type 0} (granted : M → Option Span) (refused : M → Option GrantFault) (is_note : M → Type 0)
    (fresh : Type 0) (size : M → ℕ) (table : TableId) (total : ℕ) (pass : Pass) (parts amount : ℕ) (notes : List M) : Type 0 where
  pub own : IsPassAt table total pass
  pub part : parts ≡ 1
  pub counted : amount ≡ length notes
  pub work : IsWork granted refused is_note fresh size total (entries_of pass) (known_of pass) (AllowsMark pass) notes
  pub kept : IsRefusalKept fresh size total notes pass
  pub faults : faults_met refused notes ≤ met_of pass

-- the greatest ceiling that one of these passes knows
abbrev pub most_known : List Pass → ℕ
most_known [] = 0
most_known (p ∷ ps) = max (known_of p) (most_known ps)

-- what came back of some workers
pub record AreBack {M : Type 0} (granted : M → Option Span) (refused : M → Option GrantFault) (is_note : M → Type 0)
    (fresh : Type 0) (size : M → ℕ) (table : TableId) (total : ℕ) (passes : List Pass) (amount : ℕ) (notes : List M) : Type 0 where
  pub own : All (IsPassAt table total) passes
  pub counted : amount ≡ length notes
  pub work : IsWork granted refused is_note fresh size total (all_entries passes) (most_known passes)
      (λ mark. All (λ p. AllowsMark p mark) passes) notes
  pub faults : faults_met refused notes ≤ all_met_by passes
