-- What leases do to a pass, and what holds once a store is closed.
use Rattle.std.specs.Prelude.{◌≡◌, ◌≢◌, ◌⊎◌, ℕ, ◌+◌, ◌<◌, ◌≤◌, max, List, [], ◌∷◌, ◌++◌, Some, None, IfSome, IsSomeAnd, Result, Ok, Err}
use Rattle.atomic_table.specs.Seated.{TableId}
use Rattle.zk_port.specs.Counts.{Rose}
use Rattle.zk_port.specs.Disks.{DiskState, LeavesOnly}
use Rattle.zk_port.specs.Images.{Only}
use Rattle.zk_model.specs.declared.Span.{Span}
use Rattle.lease_core.specs.Machine.{ceiling_for}
use Rattle.lease_words.specs.Views.{entry, units_drawn, after_draw, after_look}
use Rattle.lease_words.specs.Calls.{seen, entries_of, number_of, known_of, looks_of, mark_of, met_of, all_entries, all_met_by, Drew, AreGathered}
use Rattle.lease_words.specs.declared.pass.Pass.{Pass}
use Rattle.lease_store.specs.Ceilings.{FindsCeiling, SaysCeiling}
use Rattle.lease_store.specs.declared.LeaseFault.{LeaseFault}
use Rattle.lease_store.specs.declared.LeaseFault.TheVariants as lease
use Rattle.lease_store.specs.declared.fault.TryFault.{TryFault}
use Rattle.lease_store.specs.declared.fault.TryFault.TheVariants as attempt

-- a pass of this table of words, which has so many units
abbrev pub IsPassAt : TableId → ℕ → Pass → Type 0
IsPassAt table total p = (p.seat.table_id ≡ table) × (p.total ≡ total)

-- what a pass doesn't lose: its place at the table, its number, the greatest ceiling that it knows, its looks, a mark that it knows, and the
-- faults that were met for it
pub record PassGoesOn (p q : Pass) : Type 0 where
  pub table : q.seat.table_id ≡ p.seat.table_id
  pub seat : q.seat.id ≡ p.seat.id
  pub total : q.total ≡ p.total
  pub number : number_of q ≡ number_of p
  pub known : known_of p ≤ known_of q
  pub looks : looks_of p ≤ looks_of q
  pub mark : (mark_of p ≡ 0) ⊎ (mark_of q ≡ mark_of p)
  pub met : met_of p ≤ met_of q

-- a pass that drew nothing in between
pub record Watched (p q : Pass) : Type 0 where
  pub goes : PassGoesOn p q
  pub kept : q.kept ≡ p.kept
  pub entries : entries_of q ≡ entries_of p

-- the newest entry is of so many units from start on, up to the total at most, and no refusal is kept
pub record HasDrawnUnits (p : Pass) (start count : ℕ) (q : Pass) : Type 0 where
  pub was_free : p.kept ≡ None
  pub is_free : q.kept ≡ None
  pub entry_is : entries_of q ≡ entries_of p ++ entry (number_of p) start count ∷ []
  pub within : start + count ≤ p.total

-- the units from start on are burnt: the journal failed, the pass looked since, the ceiling that it saw is below their end, and it
-- knows the mark
pub record IsBurnt (p : Pass) (start count : ℕ) (q : Pass) : Type 0 where
  pub drawn : HasDrawnUnits p start count q
  pub above : known_of q < start + count
  pub marked : mark_of q ≢ 0
  pub looked : looks_of p < looks_of q

-- What a lease does: a span that ends where the pass knows that it may, or no units within the total, as a draw says; or a span
-- that is burnt, where a fault was met for the pass in this call, or in another one before
abbrev pub Leased : Pass → ℕ → Result Span LeaseFault → Pass → Type 0
Leased p count (Ok s) q = HasDrawnUnits p s.start count q × (s.end ≡ s.start + count) × (s.end ≤ known_of q)
Leased p count (Err (lease.Exhausted at n total)) q = Drew p count (Err (record { at = at; count = n; total = total })) q
Leased p count (Err lease.Device) q = (met_of p < met_of q) × (start : ℕ) × IsBurnt p start count q
Leased p count (Err (lease.Broken first)) q = (mark_of q ≡ first) × (start : ℕ) × IsBurnt p start count q

-- it is refused because the journal failed
abbrev pub IsJournals : Result Span LeaseFault → Type 0
IsJournals (Ok s) = ⊥
IsJournals (Err (lease.Exhausted at n total)) = ⊥
IsJournals (Err lease.Device) = Unit {0}
IsJournals (Err (lease.Broken first)) = Unit {0}

-- what a try does, by one draw and one look: a span where its end is at most the ceiling seen, or no units within the total; or
-- a span that needs room, above that ceiling
abbrev pub Tried : Pass → ℕ → Result Span TryFault → Pass → Type 0
Tried p count (Ok s) q =
    HasDrawnUnits p s.start count q × (s.end ≡ s.start + count) × (s.end ≤ known_of q)
    × (seen q ≡ after_look (after_draw (seen p) s.start count) (known_of q))
Tried p count (Err (attempt.Exhausted at n total)) q = Drew p count (Err (record { at = at; count = n; total = total })) q
Tried p count (Err (attempt.NeedsRoom end known)) q =
    (start : ℕ) × HasDrawnUnits p start count q × (end ≡ start + count) × (known < end)
    × (seen q ≡ after_look (after_draw (seen p) start count) known)

-- What holds of all passes of a store and of its disk, which at first was as `start` says: what was drawn tiles, no pass knows a
-- ceiling above this one, and none a mark but 0 and this one. This ceiling is the base, or at most the one that the draws asked for. It was
-- known where the disk says its content now; where it was known, the content and each image say this ceiling or a higher one, and each image
-- since the start the base or a higher one; with no mark the content says this very ceiling, a crash leaves the content, and no call of the
-- disk failed. For one pass at most a fault was met, once. A mark is the count of faults to which a call of the disk raised it since the start.
pub record IsClosed (start disk : DiskState) (id : List ℕ) (base total : ℕ) (passes : List Pass) : Type 0 where
  pub ceiling : ℕ
  pub mark : ℕ
  pub grows : base ≤ ceiling
  pub gathered : AreGathered base ceiling mark passes
  pub most : ceiling ≤ max base (ceiling_for total (base + units_drawn (all_entries passes)))
  pub told : (bytes : List ℕ) → disk.content ≡ Some bytes → (first : List ℕ) × (start.content ≡ Some first)
  pub read : (first : List ℕ) → start.content ≡ Some first → IsSomeAnd disk.content (FindsCeiling id total ceiling first)
  pub durable : (first : List ℕ) → start.content ≡ Some first → (image : List ℕ) → disk.images image → FindsCeiling id total ceiling first image
  pub any_moment : (first : List ℕ) → start.content ≡ Some first → LeavesOnly start disk (FindsCeiling id total base first)
  pub exact : mark ≡ 0 → IfSome disk.content (SaysCeiling id total ceiling)
  pub only : mark ≡ 0 → Only disk.content disk.images
  pub still : mark ≡ 0 → disk.faults ≡ start.faults
  pub once : all_met_by passes ≤ 1
  pub rose : mark ≢ 0 → Rose start.faults mark × (mark ≤ disk.faults)
  pub chosen : disk.chosen ≡ start.chosen
  pub room : disk.room ≡ start.room
