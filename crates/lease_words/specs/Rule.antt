-- The rule of the lease table: a fact about its three words and about what all seats know. Word 0 is the unit after
-- the last one drawn, word 1 the ceiling shown, word 2 the journal's mark. It is spelled by sums over all seats;
-- `Leased.antt` has what it says.
use Rattle.std.specs.Prelude.{◌≡◌, ℕ, ◌+◌, ◌*◌, ◌<◌, ◌≤◌, ◌⊎◌, true, false, cond, List, length, slice_index, All}
use Rattle.std.specs.List.{sum_by}
use mathlib.Core.Option.{some}
use lib.ListN.{get_elem?}
use Rattle.atomic_table.specs.Table.{State}
use Rattle.lease_words.specs.Views.{inside, times_drawn, units_drawn, entry_overshoots, entry_overshoots_of, reports_of}
use Rattle.lease_words.specs.declared.view.Bounds.{Bounds}
use Rattle.lease_words.specs.declared.view.View.{View}
use Rattle.zk_model.specs.declared.limits.TheConstants.{MAX_PASSES, MAX_STORE_UNITS, MAX_UNITS}

-- what one seat knows fits the ceiling shown and the mark
pub record Fits (b : Bounds) (shown mark seat : ℕ) (v : View) : Type 0 where
  -- the journal's seat is the first one; it knows the ceiling and the mark, and no other seat makes passes
  pub first : v.journal ≡ true → seat ≡ 0
  pub knows : v.journal ≡ true → v.ceiling ≡ shown
  pub marks : v.journal ≡ true → v.own_mark ≡ mark
  pub makes : v.journal ≡ false → v.made ≡ 0
  pub journal_total : v.journal ≡ true → v.total ≡ b.total
  pub total : 0 < length v.reports → v.total ≡ b.total
  -- what was seen of the ceiling and of the mark
  pub known : All (λ r. (b.base ≤ r.known) × (r.known ≤ shown)) v.reports
  pub marked : All (λ r. (r.mark ≡ 0) ⊎ (r.mark ≡ mark)) v.reports
  -- an entry stands where its pass is reported
  pub named : All (λ e. 0 < reports_of e.pass v.reports) v.entries
  pub sized : All (λ e. (0 < e.count) × (e.count ≤ MAX_UNITS)) v.entries
  -- a pass has at most one entry that ends above the total
  pub once : (number : ℕ) → entry_overshoots_of b.total number v.entries ≤ reports_of number v.reports
  pub few : entry_overshoots b.total v.entries ≤ length v.reports

-- how many passes were made
abbrev pub passes_made : List View → ℕ
passes_made views = sum_by (λ v. v.made) views

-- how many reports of a pass there are at all seats
abbrev pub all_reports_of : ℕ → List View → ℕ
all_reports_of number views = sum_by (λ v. reports_of number v.reports) views

-- what the three words and all seats keep
pub record AreWordsKept (b : Bounds) (next shown mark : ℕ) (views : List View) : Type 0 where
  -- each unit from base up to next was drawn once, and no other
  pub tiled : (unit : ℕ) → sum_by (λ v. times_drawn unit v.entries) views ≡ inside b.base next unit
  pub counted : b.base + sum_by (λ v. units_drawn v.entries) views ≡ next
  -- what was drawn beyond the total
  pub bounded : next ≤ b.total + MAX_UNITS * sum_by (λ v. entry_overshoots b.total v.entries) views
  -- each number below the passes made has one report
  pub numbered : (number : ℕ) → all_reports_of number views ≡ inside 0 (passes_made views) number
  pub reported : sum_by (λ v. length v.reports) views ≡ passes_made views
  pub few : passes_made views ≤ MAX_PASSES
  pub journal : sum_by (λ v. cond v.journal 1 0) views ≡ 1
  pub ceiling : (b.base ≤ shown) × (shown ≤ b.total)
  pub limit : b.total ≤ MAX_STORE_UNITS
  pub each : (seat : ℕ) (v : View) → get_elem? views seat ≡ some v → Fits b shown mark seat v

-- the rule
abbrev pub LeaseRule : Bounds → State (Unit {0}) View → Type 0
LeaseRule b s =
    (length s.words ≡ 3)
    × AreWordsKept b (slice_index s.words 0) (slice_index s.words 1) (slice_index s.words 2) s.views
