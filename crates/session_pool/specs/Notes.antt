-- What notes of sessions say of the units that they leased.
use Rattle.std.specs.Prelude.{◌≡◌, ◌≢◌, ◌⊎◌, ℕ, ◌+◌, ◌-◌, ◌<◌, ◌≤◌, max, List, [], length, All, Contains, sum_by, Option, None, Some, IfSome, Result, Ok, Err}
use Rattle.zk_model.specs.declared.Span.{Span}
use Rattle.zk_model.specs.declared.limits.TheConstants.{MAX_UNITS}
use Rattle.zk_port.specs.Disks.{DiskState}
use Rattle.lease_core.specs.Machine.{ceiling_for}
use Rattle.lease_words.specs.declared.pass.Pass.{Pass}
use Rattle.lease_words.specs.Calls.{entries_of}
use Rattle.lease_store.specs.Leases.{IsClosed, Leased}
use Rattle.lease_store.specs.declared.LeaseFault.TheVariants.{Exhausted, Device, Broken}
use Rattle.lease_store.specs.declared.grantor.GrantFault.{GrantFault}
use Rattle.lease_store.specs.declared.grantor.GrantFault.TheVariants.{Lease, NoMemory, NoBlock, Broker}

-- the units that were leased, if any were
abbrev pub granted_by : Option (Result Span GrantFault) → Option Span
granted_by None = None
granted_by (Some (Ok span)) = Some span
granted_by (Some (Err fault)) = None

-- What a lease of a store does to a pass, where a session is answered so: nothing else is the answer of a store
abbrev pub LeasedAs : Pass → ℕ → Result Span GrantFault → Pass → Type 0
LeasedAs p units (Ok span) q = Leased p units (Ok span) q
LeasedAs p units (Err (Lease fault)) q = Leased p units (Err fault) q
LeasedAs p units (Err NoMemory) q = ⊥
LeasedAs p units (Err (NoBlock wants)) q = ⊥
LeasedAs p units (Err Broker) q = ⊥

-- what a session that asked for so many units once at most, and was answered so, does to its pass
abbrev pub Lends : Pass → ℕ → Option (Result Span GrantFault) → Pass → Type 0
Lends p units None q = q ≡ p
Lends p units (Some answer) q = LeasedAs p units answer q

-- One session that was served: its note is that of such an answer, and the answer is what became of the pass. So the pass has one entry
-- more at most, of as many units as the note's size, and none where nobody was asked.
pub record IsSessionServed {M : Type 0} (IsNote : Option (Result Span GrantFault) → M → Type 0) (granted : M → Option Span)
    (refused : M → Option GrantFault) (size : M → ℕ) (note : M) (p q : Pass) : Type 0 where
  pub answer : Option (Result Span GrantFault)
  pub is_note : IsNote answer note
  pub granted_is : granted note ≡ granted_by answer
  pub refused_is : IfSome (refused note) (λ fault. answer ≡ Some (Err fault))
  pub lends : Lends p (size note) answer q
  pub sized : IfSome answer (λ _. (1 ≤ size note) × (size note ≤ MAX_UNITS))

-- an answer that a store gives: units, or why a lease of them was refused
abbrev pub IsOfStore : Option (Result Span GrantFault) → Type 0
IsOfStore None = Unit {0}
IsOfStore (Some (Ok span)) = Unit {0}
IsOfStore (Some (Err (Lease fault))) = Unit {0}
IsOfStore (Some (Err NoMemory)) = ⊥
IsOfStore (Some (Err (NoBlock wants))) = ⊥
IsOfStore (Some (Err Broker)) = ⊥

-- a note of a session, however a store answered it
abbrev pub IsNoteOf : {M : Type 0} → (Option (Result Span GrantFault) → M → Type 0) → M → Type 0
IsNoteOf IsNote note = (answer : Option (Result Span GrantFault)) × IsOfStore answer × IsNote answer note

-- two granted spans have no unit in common
abbrev pub AreGrantsApart : Option Span → Option Span → Type 0
AreGrantsApart None b = Unit {0}
AreGrantsApart (Some s) None = Unit {0}
AreGrantsApart (Some s) (Some t) = (s.end ≤ t.start) ⊎ (t.end ≤ s.start)

-- a granted span has so many units, and lies between these
abbrev pub IsBetween : ℕ → ℕ → ℕ → Option Span → Type 0
IsBetween units base ceiling granted =
    IfSome granted (λ s. (base ≤ s.start) × (s.end ≡ s.start + units) × (s.end ≤ ceiling))

-- a pass that has not drawn
abbrev pub IsUnused : Pass → Type 0
IsUnused p = (p.kept ≡ None) × (entries_of p ≡ [])

-- units are refused for want of them only at or below this one: so many from there on end above the total
abbrev pub IsRefusedBy : ℕ → ℕ → ℕ → Option GrantFault → Type 0
IsRefusedBy units total last None = Unit {0}
IsRefusedBy units total last (Some (Lease (Exhausted at count all))) =
    (at ≤ last) × (count ≡ units) × (all ≡ total) × (total < at + units)
IsRefusedBy units total last (Some (Lease Device)) = Unit {0}
IsRefusedBy units total last (Some (Lease (Broken first))) = Unit {0}
IsRefusedBy units total last (Some NoMemory) = ⊥
IsRefusedBy units total last (Some (NoBlock wants)) = ⊥
IsRefusedBy units total last (Some Broker) = ⊥

-- Why a note is refused among these: by a draw of as many units as one of them takes (itself, or an earlier one of its pass, which keeps
-- its first refusal and answers it again). Units are wanting only at or below the base and all that the notes take but for that one, and
-- but for the note itself.
pub record IsRefusedAmong {M : Type 0} (size : M → ℕ) (base total : ℕ) (notes : List M) (note : M)
    (fault : GrantFault) : Type 0 where
  pub drawer : M
  pub among : Contains notes drawer
  pub least : 1 ≤ size drawer
  pub most : size drawer ≤ MAX_UNITS
  pub refused : IsRefusedBy (size drawer) total (base + (sum_by size notes - max (size drawer) (size note))) (Some fault)

-- a journal that is said to have failed is marked
abbrev pub IsMarked : ℕ → Option GrantFault → Type 0
IsMarked mark None = Unit {0}
IsMarked mark (Some (Lease (Exhausted at count total))) = Unit {0}
IsMarked mark (Some (Lease Device)) = mark ≢ 0
IsMarked mark (Some (Lease (Broken first))) = mark ≢ 0
IsMarked mark (Some NoMemory) = ⊥
IsMarked mark (Some (NoBlock wants)) = ⊥
IsMarked mark (Some Broker) = ⊥

-- a journal that failed before is told by its mark
abbrev pub TellsMark : ℕ → Option GrantFault → Type 0
TellsMark mark None = Unit {0}
TellsMark mark (Some (Lease (Exhausted at count total))) = Unit {0}
TellsMark mark (Some (Lease Device)) = Unit {0}
TellsMark mark (Some (Lease (Broken first))) = first ≡ mark
TellsMark mark (Some NoMemory) = ⊥
TellsMark mark (Some (NoBlock wants)) = ⊥
TellsMark mark (Some Broker) = ⊥

-- 1 where the journal failed in a session's own lease, and else 0
abbrev pub meets_fault : Option GrantFault → ℕ
meets_fault None = 0
meets_fault (Some (Lease (Exhausted at count total))) = 0
meets_fault (Some (Lease Device)) = 1
meets_fault (Some (Lease (Broken first))) = 0
meets_fault (Some NoMemory) = 0
meets_fault (Some (NoBlock wants)) = 0
meets_fault (Some Broker) = 0

-- in how many sessions it did
abbrev pub faults_met : {M : Type 0} → (M → Option GrantFault) → List M → ℕ
faults_met refused notes = sum_by (λ note. meets_fault (refused note)) notes

-- What is left of the store that served these notes. It is closed with its passes; every granted span has its note's size and lies between
-- the base and the ceiling, which the content and each image of the disk recover, or a higher one, and ends within the total; and where a
-- journal is said to have failed, the store is marked, so a call of the disk failed, and one that failed before is told by that mark; it is
-- said to have failed in the lease of one session at most. Where no pass had drawn before, the ceiling is the base, or at most the one for as
-- many units as all notes take. There was a pass for each worker.
pub record IsLeft {M : Type 0} (fresh : Type 0) (start disk : DiskState) (id : List ℕ) (base total workers : ℕ) (size : M → ℕ)
    (granted : M → Option Span) (refused : M → Option GrantFault) (notes : List M) : Type 0 where
  pub passes : List Pass
  pub closed : IsClosed start disk id base total passes
  pub spans : All (λ note. IsBetween (size note) base closed.ceiling (granted note)) notes
  pub within : All (λ note. IfSome (granted note) (λ span. span.end ≤ total)) notes
  pub marked : All (λ note. IsMarked closed.mark (refused note)) notes
  pub told : All (λ note. TellsMark closed.mark (refused note)) notes
  pub once : faults_met refused notes ≤ 1
  pub most : fresh → closed.ceiling ≤ max base (ceiling_for total (base + sum_by size notes))
  pub count : length passes ≡ workers
