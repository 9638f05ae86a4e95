-- Lists of vectors, and the pairs of units that stand one unit after another.
use Rattle.std.proofs.Common.{◌≡◌, ◌⊎◌, inl, inr, ℕ, ◌+◌, ◌-◌, ◌*◌, ◌^◌, ◌<◌, ◌≤◌, List, [], ◌++◌, length, get_or, sym, ◌∙◌, ap, subst, arith, rules, length-append, Vec, Global}
use Rattle.std.specs.Prelude.{All, slice_index_or}
use Rattle.std.proofs.lemmas.List.{length-map, get_or-map, get_or_append_left, get_or-append-add}
use Rattle.std.proofs.lemmas.List.Concat.{flat_map-append}
use Rattle.zk_model.specs.Mac.{Pair}
use Rattle.zk_model.specs.Files.{correlations_per_unit}
use Rattle.zk_model.specs.declared.Kind.TheVariants.{Extended}
use Rattle.zk_model.specs.declared.Params.{Params}
use Rattle.linear_code.specs.Codes.{Code}
use Rattle.vole_extend.specs.Rounds.{unit_code}
use Rattle.round_fan.specs.Fans.{lists_of, AreRoundUnits, Fit, DoFit}

-- ---- lists of vectors

-- what came for all units fits each of them
pub all_fit : {A : Type 0} (Are : ℕ → ℕ → List A → Type 0) (params : Params) (code_seed : List ℕ) (code : Code) (start : ℕ) (came : List (Vec A Global))
    → params.kind ≡ Extended → start + length came ≤ params.total → code ≡ unit_code params code_seed → All (Are params.height params.trees) (lists_of came)
    → DoFit (λ unit (one : Vec A Global). Fit Are params code_seed code unit one.items) start came
all_fit Are params code_seed code start came extended within columns all i one below at = record {
  extended = extended;
  within = omega (arith, below, within);
  columns = columns;
  fits = subst (Are params.height params.trees)
      (get_or-map (λ (v : Vec _ Global). v.items) came i one [] below ∙ ap (λ (v : Vec _ Global). v.items) (sym at))
      (all i [] (omega (arith, below, length-map came (λ (v : Vec _ Global). v.items))));
}

-- ---- units

-- two runs of units give as many as one of them all
pub counts : (n m c : ℕ) → n * c + m * c ≡ (n + m) * c
counts n m c = omega arith

-- how many correlations a unit gives
pub per_unit : (params : Params) → params.kind ≡ Extended → correlations_per_unit params ≡ params.trees * 2 ^ params.height
per_unit params extended = search (rules, extended)

-- of other facts
pub units_as : (P Q : ℕ → List Pair → Type 0) (n : ℕ) (pairs : List Pair) → ((i : ℕ) (unit : List Pair) → i < n → P i unit → Q i unit)
    → AreRoundUnits P n pairs → AreRoundUnits Q n pairs
units_as P Q n pairs turn are = record {
  units = are.units;
  one_each = are.one_each;
  each = λ i below. turn i (slice_index_or are.units i []) below (are.each i below);
  joined = are.joined;
}

le_or_lt : (m n : ℕ) → (m ≤ n) ⊎ (n < m)
le_or_lt m n = grind arith

-- one run of units after another
pub units_joined : (Holds : ℕ → List Pair → Type 0) (n m : ℕ) (a b : List Pair) → AreRoundUnits Holds n a → AreRoundUnits (λ i unit. Holds (n + i) unit) m b
    → AreRoundUnits Holds (n + m) (a ++ b)
units_joined Holds n m a b front back = record {
  units = front.units ++ back.units;
  one_each = length-append front.units back.units ∙ (λ i. front.one_each i + back.one_each i);
  each = λ i below. at i below (le_or_lt n i);
  joined = (λ i. front.joined i ++ back.joined i) ∙ sym (flat_map-append (λ unit. unit) front.units back.units);
}
  where
    far : (i : ℕ) → i < n + m → (k : ℕ) → n + k ≡ i → Holds i (slice_index_or (front.units ++ back.units) i [])
    far i below k is =
        let there : get_or (front.units ++ back.units) (n + k) [] ≡ get_or back.units k [] =
        ap (λ j. get_or (front.units ++ back.units) (j + k) []) (sym front.one_each) ∙ get_or-append-add front.units back.units k [] in
        subst (λ j. Holds j (slice_index_or (front.units ++ back.units) j [])) is
        (subst (Holds (n + k)) (sym there) (back.each k (omega (arith, is, below))))

    at : (i : ℕ) → i < n + m → (n ≤ i) ⊎ (i < n) → Holds i (slice_index_or (front.units ++ back.units) i [])
    at i below (inr before) =
        subst (Holds i) (sym (get_or_append_left front.units back.units [] i (omega (arith, front.one_each, before)))) (front.each i before)
    at i below (inl behind) = far i below (i - n) (omega (arith, behind))
