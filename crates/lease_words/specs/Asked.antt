-- The rule of the lease table, with what the ceiling was raised for.
use Rattle.std.specs.Prelude.{◌≡◌, ℕ, ◌≤◌, max, List, slice_index}
use mathlib.Core.Option.{some}
use lib.ListN.{get_elem?}
use Rattle.atomic_table.specs.Table.{State}
use Rattle.lease_core.specs.Machine.{ceiling_for}
use Rattle.lease_words.specs.Stored.{StoredRule}
use Rattle.lease_words.specs.declared.view.Bounds.{Bounds}
use Rattle.lease_words.specs.declared.view.Key.{Key}
use Rattle.lease_words.specs.declared.view.View.{View}

-- units were drawn as far as each seat knows
abbrev pub AreDrawn : ℕ → List View → Type 0
AreDrawn next views = (seat : ℕ) (v : View) → get_elem? views seat ≡ some v → v.drawn ≤ next

-- the ceiling is that of the start, or at most the one for all units that were drawn
abbrev pub IsAskedFor : Bounds → ℕ → ℕ → Type 0
IsAskedFor b next shown = shown ≤ max b.base (ceiling_for b.total next)

-- the rule of what is stored; seats know of no more units than were drawn, and no ceiling is shown that was not asked for
abbrev pub AskedRule : {K : Type 0} → (K → List ℕ) → (K → ℕ → Type 0) → Key → State (Unit {0}) View → Type 0
AskedRule label stores key s =
    StoredRule label stores key s
    × AreDrawn (slice_index s.words 0) s.views
    × IsAskedFor key.bounds (slice_index s.words 0) (slice_index s.words 1)
