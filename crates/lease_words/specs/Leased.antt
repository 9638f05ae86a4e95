-- What the rule of the lease table says, in plain words about all entries, all reports and all seats.
use Rattle.std.specs.Prelude.{◌≡◌, ◌≢◌, ℕ, ◌+◌, ◌*◌, ◌<◌, ◌≤◌, ◌⊎◌, true, List, All, AllPairs, flat_map}
use Rattle.std.specs.List.{Contains}
use mathlib.Core.Option.{some}
use lib.ListN.{get_elem?}
use Rattle.lease_words.specs.Views.{end_of, units_drawn, entry_overshoots, own, IsPassView}
use Rattle.lease_words.specs.Rule.{AreWordsKept, passes_made}
use Rattle.lease_words.specs.Calls.{AreEntriesApart}
use Rattle.lease_words.specs.declared.view.Bounds.{Bounds}
use Rattle.lease_words.specs.declared.view.Entry.{Entry}
use Rattle.lease_words.specs.declared.view.Report.{Report}
use Rattle.lease_words.specs.declared.view.View.{View}
use Rattle.zk_model.specs.declared.limits.TheConstants.{MAX_PASSES, MAX_UNITS}

-- all that was drawn, and what every pass knows, whether it is out or was taken in
abbrev pub entries_known : List View → List Entry
entries_known views = flat_map (λ v. v.entries) views

abbrev pub reports_known : List View → List Report
reports_known views = flat_map (λ v. v.reports) views

-- the seat has this view
abbrev pub Sits : List View → ℕ → View → Type 0
Sits views seat v = get_elem? views seat ≡ some v

-- the seat is the journal's
abbrev pub IsJournalSeat : List View → ℕ → Type 0
IsJournalSeat views seat = (v : View) × Sits views seat v × (v.journal ≡ true)

-- the seat is that of the pass with this number
abbrev pub IsPassSeat : List View → ℕ → ℕ → Type 0
IsPassSeat views seat number = (v : View) × Sits views seat v × IsPassView v × ((own v).number ≡ number)

-- the entry stands in the view of this seat
abbrev pub Knows : List View → ℕ → Entry → Type 0
Knows views seat e = (v : View) × Sits views seat v × Contains v.entries e

-- the view is the journal's, and has this ceiling and this mark
abbrev pub IsJournalAt : ℕ → ℕ → View → Type 0
IsJournalAt shown mark v = (v.journal ≡ true) × (v.ceiling ≡ shown) × (v.own_mark ≡ mark)

-- where both end above the total, they are of two passes
abbrev pub AreOfTwoPasses : ℕ → Entry → Entry → Type 0
AreOfTwoPasses total d e = total < end_of d → total < end_of e → d.pass ≢ e.pass

-- what the three words and all seats are to each other, between any two steps
pub record IsLeased (b : Bounds) (next shown mark : ℕ) (views : List View) : Type 0 where
  -- entries have no unit in common, start at or above the base, end at or below next, and count what was drawn
  pub apart : AllPairs AreEntriesApart (entries_known views)
  pub above : All (λ e. b.base ≤ e.start) (entries_known views)
  pub below : All (λ e. end_of e ≤ next) (entries_known views)
  pub counts : b.base + units_drawn (entries_known views) ≡ next
  -- entries that end above the total are of different passes, and bound what was drawn beyond it
  pub once : AllPairs (AreOfTwoPasses b.total) (entries_known views)
  pub bound : next ≤ b.total + MAX_UNITS * entry_overshoots b.total (entries_known views)
  -- there is one journal's seat, and it knows the ceiling and the mark
  pub journal : (seat : ℕ) × (v : View) × Sits views seat v × IsJournalAt shown mark v
  pub alone : (i j : ℕ) → IsJournalSeat views i → IsJournalSeat views j → i ≡ j
  -- the base is at most every known ceiling, these at most the one shown, and that at most the total
  pub ceiling : (b.base ≤ shown) × (shown ≤ b.total)
  pub known : All (λ r. (b.base ≤ r.known) × (r.known ≤ shown)) (reports_known views)
  -- numbers of passes differ and are below those made, which are at most 1,024
  pub numbers : AllPairs (λ r s. r.number ≢ s.number) (reports_known views)
  pub made : All (λ r. r.number < passes_made views) (reports_known views)
  pub few : passes_made views ≤ MAX_PASSES
  -- what a pass drew stands in its own view while it is out; numbers not made have no entries
  pub own_entries : (i j : ℕ) (e : Entry) → IsPassSeat views i e.pass → Knows views j e → i ≡ j
  pub entries_made : All (λ e. e.pass < passes_made views) (entries_known views)
  -- every known mark is 0 or the journal's
  pub marks : All (λ r. (r.mark ≡ 0) ⊎ (r.mark ≡ mark)) (reports_known views)

-- the rule says this
abbrev pub RuleIsLeased : Type 0
RuleIsLeased =
    (b : Bounds) (next shown mark : ℕ) (views : List View)
    → AreWordsKept b next shown mark views
    → IsLeased b next shown mark views
