-- The rule of the lease table, with what keeps the ceiling.
use Rattle.std.specs.Prelude.{◌≡◌, ℕ, ◌≤◌, true, List, slice_index, All}
use mathlib.Core.Option.{some}
use lib.ListN.{get_elem?}
use Rattle.atomic_table.specs.Table.{State, Me, Step}
use Rattle.lease_words.specs.Rule.{LeaseRule}
use Rattle.lease_words.specs.Steps.{Draws, Looks}
use Rattle.lease_words.specs.Views.{end_of, own}
use Rattle.lease_words.specs.declared.view.Key.{Key}
use Rattle.lease_words.specs.declared.view.View.{View}

-- there was a keeper that stored this ceiling or a higher one
abbrev pub IsStored : {K : Type 0} → (K → ℕ → Type 0) → ℕ → Type 0
IsStored {K} stores ceiling = (keeper : K) × stores keeper ceiling

-- so it was of a ceiling at or above this one
abbrev pub IsStoredAbove : {K : Type 0} → (K → ℕ → Type 0) → ℕ → Type 0
IsStoredAbove stores known = (shown : ℕ) × (known ≤ shown) × IsStored stores shown

-- there was a keeper of this name that did
abbrev pub IsStoredBy : {K : Type 0} → (K → List ℕ) → (K → ℕ → Type 0) → List ℕ → ℕ → Type 0
IsStoredBy {K} label stores name ceiling = (keeper : K) × (label keeper ≡ name) × stores keeper ceiling

-- the journal's seat knows this name
abbrev pub IsNamed : List ℕ → List View → Type 0
IsNamed name views = (seat : ℕ) (v : View) → get_elem? views seat ≡ some v → v.journal ≡ true → v.keeper ≡ name

-- the rule of the words, the journal's seat knows the keeper's name, and the keeper of that name stored the ceiling shown
abbrev pub StoredRule : {K : Type 0} → (K → List ℕ) → (K → ℕ → Type 0) → Key → State (Unit {0}) View → Type 0
StoredRule label stores key s =
    LeaseRule key.bounds s × IsNamed key.keeper s.views × IsStoredBy label stores key.keeper (slice_index s.words 1)

-- a draw tells that the ceiling which its pass knows is stored, and that what the pass drew before ends at or before what it draws
abbrev pub DrawsStored : {K : Type 0} → (K → ℕ → Type 0) → Step (Unit {0}) → Me (Unit {0}) View → ℕ → Me (Unit {0}) View → Type 0
DrawsStored stores step me found now =
    Draws step me found now × IsStoredAbove stores (own me.0).known × All (λ e. end_of e ≤ found) me.0.entries

-- a look tells that what it found is stored
abbrev pub LooksStored : {K : Type 0} → (K → ℕ → Type 0) → Step (Unit {0}) → Me (Unit {0}) View → ℕ → Me (Unit {0}) View → Type 0
LooksStored stores step me found now = Looks step me found now × IsStored stores found
