-- Which files are asked for, in one call, in several, and in none.
use Rattle.std.proofs.Common.{◌≡◌, ◌⊎◌, ◌≤◌, ℕ, List, Bool, true, false, IsFalse, refl, ap, ◌∙◌, subst, inl, inr, arith}
use Rattle.zk_port.specs.Changes.{change}
use Rattle.zk_port.specs.Counts.{Rose, CountsNames}
use Rattle.zk_port.specs.Shelves.{ShelfState}
use Rattle.file_commands.specs.Effects.{ShelfChange, SomeFailed, CountsStay, OnlyAsks, OnlyLoads, IsName}

rose_more : (a b c : ℕ) → Rose a b → b ≤ c → Rose a c
rose_more a b c rose more = omega (arith, rose, more)

counts_stay : (a b c : ShelfState) → CountsStay (change a b) → CountsStay (change b c) → CountsStay (change a c)
counts_stay a b c one two = record {
  all = two.all ∙ one.all;
  each = λ name. two.each name ∙ one.each name;
}

-- what failed after calls that did not
failed_later : (IsNamed : List ℕ → Type 0) (a b c : ShelfState) → CountsStay (change a b)
    → SomeFailed IsNamed (change b c) → SomeFailed IsNamed (change a c)
failed_later IsNamed a b c quiet failed = (
  failed.0,
  failed.1,
  subst (λ n. Rose n (c.faults_of failed.0)) (quiet.each failed.0) failed.2,
)

-- and before others
failed_before : (IsNamed : List ℕ → Type 0) (a b c : ShelfState) → SomeFailed IsNamed (change a b)
    → ((other : List ℕ) → b.faults_of other ≤ c.faults_of other) → SomeFailed IsNamed (change a c)
failed_before IsNamed a b c failed later = (
  failed.0,
  failed.1,
  rose_more (a.faults_of failed.0) (b.faults_of failed.0) (c.faults_of failed.0) failed.2 (later failed.0),
)

-- one call, for one of the names
pub asks_one : (IsNamed : List ℕ → Type 0) (name : List ℕ) (failed : Bool) (a b : ShelfState) → IsNamed name
    → CountsNames failed name a.faults_of b.faults_of → (IsFalse failed → b.faults ≡ a.faults) → OnlyAsks IsNamed (change a b)
asks_one IsNamed name failed a b is counts quiet = record { later = counts.later; counts = by_answer failed refl }
  where
    by_answer : (answer : Bool) → failed ≡ answer → SomeFailed IsNamed (change a b) ⊎ CountsStay (change a b)
    by_answer true e = inl (name, is, counts.rose e)
    by_answer false e = inr record { all = quiet e; each = counts.stays e }

-- calls after others
pub asks_both : (IsNamed : List ℕ → Type 0) (a b c : ShelfState) → OnlyAsks IsNamed (change a b)
    → OnlyAsks IsNamed (change b c) → OnlyAsks IsNamed (change a c)
asks_both IsNamed a b c one two = record {
  later = λ other. let x = one.later other in let y = two.later other in omega (arith, x, y);
  counts = of_both one.counts two.counts;
}
  where
    of_both : SomeFailed IsNamed (change a b) ⊎ CountsStay (change a b) → SomeFailed IsNamed (change b c) ⊎ CountsStay (change b c)
        → SomeFailed IsNamed (change a c) ⊎ CountsStay (change a c)
    of_both (inl failed) second = inl (failed_before IsNamed a b c failed two.later)
    of_both (inr quiet) (inl failed) = inl (failed_later IsNamed a b c quiet failed)
    of_both (inr quiet) (inr still) = inr (counts_stay a b c quiet still)

-- of names among others
pub asks_among : (IsNamed IsOther : List ℕ → Type 0) (shelf : ShelfChange) → ((name : List ℕ) → IsNamed name → IsOther name)
    → OnlyAsks IsNamed shelf → OnlyAsks IsOther shelf
asks_among IsNamed IsOther shelf among asks = record { later = asks.later; counts = of_counts asks.counts }
  where
    of_counts : SomeFailed IsNamed shelf ⊎ CountsStay shelf → SomeFailed IsOther shelf ⊎ CountsStay shelf
    of_counts (inl failed) = inl (failed.0, among failed.0 failed.1, failed.2)
    of_counts (inr stay) = inr stay

-- no call
pub asks_nothing : (IsNamed : List ℕ → Type 0) (a : ShelfState) → OnlyAsks IsNamed (change a a)
asks_nothing IsNamed a = record {
  later = λ other. omega arith;
  counts = inr record { all = refl; each = λ name. refl };
}

-- ---- loads

pub loads_only : (name : List ℕ) (failed : Bool) (a b : ShelfState) → CountsNames failed name a.faults_of b.faults_of
    → b.told ≡ a.told → (IsFalse failed → b ≡ a) → OnlyLoads (IsName name) (change a b)
loads_only name failed a b counts told stays = record {
  told = told;
  asked = asks_one (IsName name) name failed a b refl counts (λ calm. ap (λ (s : ShelfState). s.faults) (stays calm));
}

pub loads_both : (IsNamed : List ℕ → Type 0) (a b c : ShelfState) → OnlyLoads IsNamed (change a b)
    → OnlyLoads IsNamed (change b c) → OnlyLoads IsNamed (change a c)
loads_both IsNamed a b c one two = record {
  told = two.told ∙ one.told;
  asked = asks_both IsNamed a b c one.asked two.asked;
}

pub loads_among : (IsNamed IsOther : List ℕ → Type 0) (shelf : ShelfChange) → ((name : List ℕ) → IsNamed name → IsOther name)
    → OnlyLoads IsNamed shelf → OnlyLoads IsOther shelf
loads_among IsNamed IsOther shelf among loads = record {
  told = loads.told;
  asked = asks_among IsNamed IsOther shelf among loads.asked;
}

pub loads_nothing : (IsNamed : List ℕ → Type 0) (a : ShelfState) → OnlyLoads IsNamed (change a a)
loads_nothing IsNamed a = record { told = refl; asked = asks_nothing IsNamed a }
