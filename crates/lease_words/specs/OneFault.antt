-- The rule of the lease table, with who met the journal's fault.
use Rattle.std.specs.Prelude.{◌≡◌, ℕ, ◌≤◌, List, slice_index}
use Rattle.std.specs.List.{sum_by}
use Rattle.atomic_table.specs.Table.{State}
use Rattle.lease_words.specs.Asked.{AskedRule}
use Rattle.lease_words.specs.declared.view.Key.{Key}
use Rattle.lease_words.specs.declared.view.View.{View}

-- how many faults all seats met
abbrev pub all_met : List View → ℕ
all_met views = sum_by (λ v. v.met) views

-- one seat at most met a fault, and none where the journal is not marked
abbrev pub IsMetOnce : ℕ → List View → Type 0
IsMetOnce mark views = (all_met views ≤ 1) × (mark ≡ 0 → all_met views ≡ 0)

-- the rule of what was asked for; and one seat at most met the fault by which the journal is marked
abbrev pub MetRule : {K : Type 0} → (K → List ℕ) → (K → ℕ → Type 0) → Key → State (Unit {0}) View → Type 0
MetRule label stores key s = AskedRule label stores key s × IsMetOnce (slice_index s.words 2) s.views
