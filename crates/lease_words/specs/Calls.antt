-- What callers see of the lease words.
use Rattle.std.specs.List.{sum_by}
use Rattle.std.specs.Prelude.{◌≡◌, ℕ, ◌+◌, ◌<◌, ◌≤◌, max, ◌⊎◌, List, [], ◌∷◌, ◌++◌, length, None, Some, Result, Ok, Err, MatchOption, slice_index_or, All, AllPairs, flat_map}
use Rattle.atomic_table.specs.Seated.{TableId}
use Rattle.zk_model.specs.declared.Span.{Span}
use Rattle.lease_core.specs.Machine.{ceiling_for}
use Rattle.lease_words.specs.Views.{end_of, report, own, units_drawn, after_draw, taken_in}
use Rattle.lease_words.specs.declared.fault.Exhausted.{Exhausted}
use Rattle.lease_words.specs.declared.pass.Pass.{Pass}
use Rattle.lease_words.specs.declared.pass.FaultWord.{FaultWord}
use Rattle.lease_words.specs.declared.pass.JournalSeat.{JournalSeat}
use Rattle.lease_words.specs.declared.pass.Receipt.{Receipt}
use Rattle.lease_words.specs.declared.view.Entry.{Entry}
use Rattle.lease_words.specs.declared.view.Report.{Report}
use Rattle.lease_words.specs.declared.view.View.{View}
use Rattle.lease_words.specs.declared.table.Words.{Words}

-- what a pass knows: all of it, its entries, its number, the ceiling and the mark that it saw last, its looks
abbrev pub seen : Pass → View
seen p = p.seat.me.0

abbrev pub entries_of : Pass → List Entry
entries_of p = (seen p).entries

abbrev pub number_of : Pass → ℕ
number_of p = (own (seen p)).number

abbrev pub known_of : Pass → ℕ
known_of p = (own (seen p)).known

abbrev pub mark_of : Pass → ℕ
mark_of p = (own (seen p)).mark

abbrev pub looks_of : Pass → ℕ
looks_of p = (seen p).looks

-- how many faults of the journal it met
abbrev pub met_of : Pass → ℕ
met_of p = (seen p).met

-- how far it knows that units were drawn
abbrev pub drawn_by_pass : Pass → ℕ
drawn_by_pass p = (seen p).drawn

-- and how far a receipt says so
abbrev pub drawn_on : Receipt → ℕ
drawn_on r = r.seat.me.0.drawn

-- how many a word says
abbrev pub met_on : FaultWord → ℕ
met_on w = w.seat.me.0.met

-- what the journal's seat knows
abbrev pub journal_view : {K : Type 0} → JournalSeat K → View
journal_view j = j.seat.me.0

-- the ceiling that the journal's seat knows, the mark that it set, how many passes it made, and the total
abbrev pub ceiling_of : {K : Type 0} → JournalSeat K → ℕ
ceiling_of j = (journal_view j).ceiling

abbrev pub own_mark_of : {K : Type 0} → JournalSeat K → ℕ
own_mark_of j = (journal_view j).own_mark

abbrev pub made_of : {K : Type 0} → JournalSeat K → ℕ
made_of j = (journal_view j).made

abbrev pub limit_of : {K : Type 0} → JournalSeat K → ℕ
limit_of j = (journal_view j).total

-- how far it knows that units were drawn
abbrev pub known_drawn_of : {K : Type 0} → JournalSeat K → ℕ
known_drawn_of j = (journal_view j).drawn

-- the highest ceiling that was asked for by the draws that the journal's seat knows of
abbrev pub asked_by_seat : {K : Type 0} → JournalSeat K → ℕ
asked_by_seat j = ceiling_for (limit_of j) (known_drawn_of j)

-- how many faults it met, and gave no word of
abbrev pub own_met_of : {K : Type 0} → JournalSeat K → ℕ
own_met_of j = (journal_view j).met

-- the name of what the seat is to own
abbrev pub keeper_of : {K : Type 0} → JournalSeat K → List ℕ
keeper_of j = (journal_view j).keeper

-- which table the words lie in, where its units begin, and how many there are
abbrev pub words_id : {K : Type 0} → Words K → TableId
words_id w = w.table.shared.table_id

abbrev pub base_of : {K : Type 0} → Words K → ℕ
base_of w = w.table.shared.key.bounds.base

abbrev pub total_of : {K : Type 0} → Words K → ℕ
total_of w = w.table.shared.key.bounds.total

-- the pass, the seat, or the receipt, is of these words
abbrev pub IsPassOf : {K : Type 0} → Words K → Pass → Type 0
IsPassOf w p = p.seat.table_id ≡ words_id w

abbrev pub IsSeatOf : {K : Type 0} → Words K → JournalSeat K → Type 0
IsSeatOf w j = j.seat.table_id ≡ words_id w

abbrev pub IsReceiptOf : {K : Type 0} → Words K → Receipt → Type 0
IsReceiptOf w r = r.seat.table_id ≡ words_id w

abbrev pub IsWordOf : {K : Type 0} → Words K → FaultWord → Type 0
IsWordOf words w = w.seat.table_id ≡ words_id words

-- the pass with this number, as it is made
abbrev pub IsFreshPass : TableId → ℕ → ℕ → ℕ → Pass → Type 0
IsFreshPass table base total number p = (p.seat.table_id ≡ table)
    × (p.total ≡ total)
    × (p.kept ≡ None)
    × (entries_of p ≡ [])
    × ((seen p).reports ≡ report number base 0 ∷ [])
    × (looks_of p ≡ 0)

-- each of these is the pass with its place's number, as it is made
abbrev pub AreFresh : TableId → ℕ → ℕ → List Pass → Type 0
AreFresh table base total passes =
    (k : ℕ) (d : Pass) → k < length passes → IsFreshPass table base total k (slice_index_or passes k d)

-- the same pass at the same table
abbrev pub IsSame : Pass → Pass → Type 0
IsSame p q = (q.seat.table_id ≡ p.seat.table_id) × (q.seat.id ≡ p.seat.id) × (q.total ≡ p.total)

-- an entry of this count that ends above the total, and the refusal that tells of it
abbrev pub IsExhausted : Pass → ℕ → Exhausted → Pass → Type 0
IsExhausted p count e q =
    (seen q ≡ after_draw (seen p) e.at count)
    × (e.count ≡ count)
    × (e.total ≡ p.total)
    × (p.total < e.at + e.count)

-- what a draw does: a span, with its entry, where it ends within the total; or an entry that is refused; or, where
-- the pass keeps a refusal, the same again, and no step
abbrev pub Drew : Pass → ℕ → Result Span Exhausted → Pass → Type 0
Drew p count (Ok s) q =
    (p.kept ≡ None)
    × (q.kept ≡ None)
    × (seen q ≡ after_draw (seen p) s.start count)
    × (s.end ≡ s.start + count)
    × (s.end ≤ p.total)
Drew p count (Err e) q =
    (q.kept ≡ Some e)
    × MatchOption p.kept (IsExhausted p count e q) (λ k. (e ≡ k) × (seen q ≡ seen p))

-- what the pass drew in between begins at or after the end of each that it drew before
abbrev pub RisesFrom : Pass → Pass → Type 0
RisesFrom p q = (e : Entry) → entries_of q ≡ entries_of p ++ e ∷ [] → All (λ d. end_of d ≤ e.start) (entries_of p)

-- the entries, and the reports, of these passes in order
abbrev pub all_entries : List Pass → List Entry
all_entries passes = flat_map entries_of passes

abbrev pub all_reports : List Pass → List Report
all_reports passes = flat_map (λ p. (seen p).reports) passes

-- the faults that these passes met
abbrev pub all_met_by : List Pass → ℕ
all_met_by passes = sum_by met_of passes

-- the journal's seat once it has taken in these passes
abbrev pub with_passes : View → List Pass → View
with_passes v passes = taken_in v (all_reports passes) (all_entries passes) (v.met + all_met_by passes)

-- the greatest end, or the base where there is no entry
abbrev pub greatest_end : ℕ → List Entry → ℕ
greatest_end base [] = base
greatest_end base (e ∷ es) = max (end_of e) (greatest_end base es)

-- one ends where the other starts, or before
abbrev pub AreEntriesApart : Entry → Entry → Type 0
AreEntriesApart d e = (end_of d ≤ e.start) ⊎ (end_of e ≤ d.start)

-- What holds of all passes of a table together, whose journal's seat knows this ceiling and this mark: no two entries
-- have a unit in common, refused ones among them; each starts at or above the base; their counts add up to the
-- greatest end less the base; no pass knows a greater ceiling, or a mark other than 0 and this one
pub record AreGathered (base ceiling mark : ℕ) (passes : List Pass) : Type 0 where
  pub apart : AllPairs AreEntriesApart (all_entries passes)
  pub above : All (λ e. base ≤ e.start) (all_entries passes)
  pub tile : base + units_drawn (all_entries passes) ≡ greatest_end base (all_entries passes)
  pub known : All (λ p. known_of p ≤ ceiling) passes
  pub marks : All (λ p. (mark_of p ≡ 0) ⊎ (mark_of p ≡ mark)) passes
