-- What is claimed, what is held of it, and what was granted.
use Rattle.std.proofs.Common.{◌≡◌, ℕ, ◌+◌, ◌<◌, ◌≤◌, max, ◌⊎◌, inl, inr, Bool, true, false, ◌||◌, List, [], ◌∷◌, ◌++◌, get_or, refl, sym, ◌∙◌, subst, arith, All, Option, None, Some, IfSome}
use Rattle.std.specs.List.{AllPairs}
use Rattle.std.proofs.lemmas.Bool.{cases_lt, leb-true, or_left, or_right, true≢false, not-true}
use Rattle.std.proofs.lemmas.Bool.Decides.{nat_tests}
use Rattle.std.proofs.lemmas.List.Elements.{All-nil, All-push, All-weaker}
use Rattle.std.proofs.lemmas.List.Folds.{list_any-append}
use Rattle.std.proofs.lemmas.List.Quantifiers.{all_pairs_push}
use Rattle.zk_model.specs.declared.Span.{Span}
use Rattle.claim_store.specs.ClaimedRanges.{AreMerged, has_unit, is_claimed}
use Rattle.claim_store.specs.Claims.{first_met}
use Rattle.claim_store.proofs.Meeting.{none_apart}
use Rattle.claim_store.proofs.Units.{unit_met, within_unit}
use Rattle.broker_core.specs.Nodes.{drawn_part, left_part, may_draw}
use Rattle.session_pool.specs.Notes.{AreGrantsApart}

-- each unit of a span is one of the later claims, and none of the earlier
abbrev pub IsNew : List Span → List Span → Span → Type 0
IsNew earlier later s = (unit : ℕ) → has_unit unit s ≡ true → (is_claimed later unit ≡ true) × (is_claimed earlier unit ≡ false)

-- it has so many units, at least one, up to the total, which are new
pub record IsGrantedSo (units total : ℕ) (earlier later : List Span) (s : Span) : Type 0 where
  pub least : 1 ≤ units
  pub size : s.end ≡ s.start + units
  pub within : s.end ≤ total
  pub new : IsNew earlier later s

-- What was granted to these, and is held yet, is claimed, and was not at first: no unit of it twice.
pub record AreHeld {M : Type 0} (granted : M → Option Span) (size : M → ℕ) (total : ℕ) (first : List Span) (notes : List M) (held : Option Span)
    (claims : List Span) : Type 0 where
  pub kept : (unit : ℕ) → is_claimed first unit ≡ true → is_claimed claims unit ≡ true
  pub holds : IfSome held (λ s. (s.end ≤ total) × IsNew first claims s)
  pub each : All (λ m. IfSome (granted m) (λ s. IsGrantedSo (size m) total first claims s)) notes
  pub clear : All (λ m. AreGrantsApart (granted m) held) notes
  pub apart : AllPairs (λ m n. AreGrantsApart (granted m) (granted n)) notes

pub none_held : {M : Type 0} (granted : M → Option Span) (size : M → ℕ) (total : ℕ) (first : List Span) → AreHeld granted size total first [] None first
none_held granted size total first = record {
  kept = λ unit claimed. claimed;
  holds = tt;
  each = All-nil (λ m. IfSome (granted m) (λ s. IsGrantedSo (size m) total first first s));
  clear = All-nil (λ m. AreGrantsApart (granted m) None);
  apart = λ i j d before inside. absurd (omega (arith, inside));
}

-- ---- two spans

apart_none : (a : Option Span) → AreGrantsApart a None
apart_none None = tt
apart_none (Some s) = tt

-- spans of which one has the units of claims, and the other none, are apart
pub apart_by : (s t : Span) → s.start < s.end → t.start < t.end → ((unit : ℕ) → has_unit unit s ≡ true → has_unit unit t ≡ true → ⊥)
    → (s.end ≤ t.start) ⊎ (t.end ≤ s.start)
apart_by s t one other none = by (cases_lt t.start s.end) (cases_lt s.start t.end) where
  by : ((t.start < s.end) ⊎ (s.end ≤ t.start)) → ((s.start < t.end) ⊎ (t.end ≤ s.start)) → (s.end ≤ t.start) ⊎ (t.end ≤ s.start)
  by (inr end) rest = inl end
  by (inl a) (inr end) = inr end
  by (inl a) (inl b) = absurd (none (max s.start t.start)
      (within_unit (max s.start t.start) s (omega arith) (omega (arith, a, one))) (within_unit (max s.start t.start) t (omega arith) (omega (arith, b, other))))

-- ---- a block that is taken

-- a unit that is claimed then
more_claimed : (claims new : List Span) (s : Span) (unit : ℕ) → AreMerged (claims ++ s ∷ []) new
    → is_claimed new unit ≡ (is_claimed claims unit || (has_unit unit s || false))
more_claimed claims new s unit merged = merged.same unit ∙ list_any-append (has_unit unit) claims (s ∷ [])

pub claimed_before : (claims new : List Span) (s : Span) (unit : ℕ) → AreMerged (claims ++ s ∷ []) new → is_claimed claims unit ≡ true
    → is_claimed new unit ≡ true
claimed_before claims new s unit merged claimed =
    more_claimed claims new s unit merged ∙ or_left (is_claimed claims unit) (has_unit unit s || false) claimed

claimed_now : (claims new : List Span) (s : Span) (unit : ℕ) → AreMerged (claims ++ s ∷ []) new → has_unit unit s ≡ true → is_claimed new unit ≡ true
claimed_now claims new s unit merged has =
    more_claimed claims new s unit merged
    ∙ or_right (is_claimed claims unit) (has_unit unit s || false) (or_left (has_unit unit s) false has)

-- a free span has no unit of the claims
free_of : (claims : List Span) (s : Span) (unit : ℕ) → first_met s claims ≡ None → has_unit unit s ≡ true → is_claimed claims unit ≡ true → ⊥
free_of claims s unit free has claimed =
    true≢false (sym (unit_met s claims unit has claimed) ∙ not-true _ (none_apart s claims free))

not_claimed : (claims : List Span) (unit : ℕ) → (is_claimed claims unit ≡ true → ⊥) → is_claimed claims unit ≡ false
not_claimed claims unit = by (is_claimed claims unit) where
  by : (b : Bool) → (b ≡ true → ⊥) → b ≡ false
  by true none = absurd (none refl)
  by false none = refl

pub block_held : {M : Type 0} (granted : M → Option Span) (size : M → ℕ) (total : ℕ) (first : List Span) (notes : List M) (held : Option Span)
    (claims new : List Span) (s : Span) → AreHeld granted size total first notes held claims → AreMerged (claims ++ s ∷ []) new
    → first_met s claims ≡ None → s.start < s.end → s.end ≤ total → AreHeld granted size total first notes (Some s) new
block_held {M} granted size total first notes held claims new s are merged free some low = record {
  kept = λ unit claimed. claimed_before claims new s unit merged (are.kept unit claimed);
  holds = (
    low,
    λ unit has. (
      claimed_now claims new s unit merged has,
      not_claimed first unit (λ claimed. free_of claims s unit free has (are.kept unit claimed)),
    ),
  );
  each = All-weaker (λ m. IfSome (granted m) (λ g. IsGrantedSo (size m) total first claims g)) (λ m. IfSome (granted m) (λ g. IsGrantedSo (size m) total first new g))
      (λ m. later (size m) (granted m)) notes are.each;
  clear = All-weaker (λ m. IfSome (granted m) (λ g. IsGrantedSo (size m) total first claims g)) (λ m. AreGrantsApart (granted m) (Some s))
      (λ m. clear_of (size m) (granted m)) notes are.each;
  apart = are.apart;
}
  where
    later : (units : ℕ) (g : Option Span) → IfSome g (λ g. IsGrantedSo units total first claims g) → IfSome g (λ g. IsGrantedSo units total first new g)
    later units None so = tt
    later units (Some g) so = record {
      least = so.least;
      size = so.size;
      within = so.within;
      new = λ unit has. (claimed_before claims new s unit merged (so.new unit has).0, (so.new unit has).1);
    }

    clear_of : (units : ℕ) (g : Option Span) → IfSome g (λ g. IsGrantedSo units total first claims g) → AreGrantsApart g (Some s)
    clear_of units None so = tt
    clear_of units (Some g) so = let size_is = so.size in let least = so.least in
        apart_by g s (omega (arith, size_is, least)) some (λ unit has other. free_of claims s unit free other (so.new unit has).0)

-- a block that is given up
pub block_gone : {M : Type 0} (granted : M → Option Span) (size : M → ℕ) (total : ℕ) (first : List Span) (notes : List M) (held : Option Span)
    (claims : List Span) → AreHeld granted size total first notes held claims → AreHeld granted size total first notes None claims
block_gone granted size total first notes held claims are = record {
  kept = are.kept;
  holds = tt;
  each = are.each;
  clear = All-weaker (λ m. AreGrantsApart (granted m) held) (λ m. AreGrantsApart (granted m) None) (λ m clear. apart_none (granted m)) notes are.clear;
  apart = are.apart;
}

-- ---- a session

-- it was granted nothing
pub session_none : {M : Type 0} (granted : M → Option Span) (size : M → ℕ) (total : ℕ) (first : List Span) (notes : List M) (held : Option Span)
    (claims : List Span) (note : M) → AreHeld granted size total first notes held claims → granted note ≡ None
    → AreHeld granted size total first (notes ++ note ∷ []) held claims
session_none {M} granted size total first notes held claims note are none = record {
  kept = are.kept;
  holds = are.holds;
  each = All-push (λ m. IfSome (granted m) (λ s. IsGrantedSo (size m) total first claims s)) notes note are.each
      (subst (λ (g : Option Span). IfSome g (λ s. IsGrantedSo (size note) total first claims s)) (sym none) tt);
  clear = All-push (λ m. AreGrantsApart (granted m) held) notes note are.clear
      (subst (λ (g : Option Span). AreGrantsApart g held) (sym none) tt);
  apart = all_pairs_push (λ m n. AreGrantsApart (granted m) (granted n)) notes note are.apart
      (λ k d below. subst (λ (g : Option Span). AreGrantsApart (granted (get_or notes k d)) g) (sym none) (apart_none (granted (get_or notes k d))));
}

-- it was granted the front of the block
pub session_drawn : {M : Type 0} (granted : M → Option Span) (size : M → ℕ) (total : ℕ) (first : List Span) (notes : List M) (block : Span)
    (claims : List Span) (note : M) → AreHeld granted size total first notes (Some block) claims → 1 ≤ size note
    → may_draw (Some block) (size note) ≡ true → granted note ≡ Some (drawn_part block (size note))
    → AreHeld granted size total first (notes ++ note ∷ []) (Some (left_part block (size note))) claims
session_drawn {M} granted size total first notes block claims note are least may is = record {
  kept = are.kept;
  holds = (are.holds.0, λ unit has. are.holds.1 unit (in_left unit has));
  each = All-push (λ m. IfSome (granted m) (λ s. IsGrantedSo (size m) total first claims s)) notes note are.each
      (subst (λ (g : Option Span). IfSome g (λ s. IsGrantedSo (size note) total first claims s)) (sym is) drawn);
  clear = All-push (λ m. AreGrantsApart (granted m) (Some left)) notes note
      (All-weaker (λ m. AreGrantsApart (granted m) (Some block)) (λ m. AreGrantsApart (granted m) (Some left)) (λ m. clear_left (granted m)) notes are.clear)
      (subst (λ (g : Option Span). AreGrantsApart g (Some left)) (sym is) (inl (omega arith)));
  apart = all_pairs_push (λ m n. AreGrantsApart (granted m) (granted n)) notes note are.apart
      (λ k d below. subst (λ (g : Option Span). AreGrantsApart (granted (get_or notes k d)) g) (sym is) (clear_drawn (granted (get_or notes k d)) (are.clear k d below)));
}
  where
    left : Span
    left = left_part block (size note)

    enough : block.start + size note ≤ block.end
    enough = leb-true (block.start + size note) block.end may

    in_left : (unit : ℕ) → has_unit unit (left_part block (size note)) ≡ true → has_unit unit block ≡ true
    in_left unit has = grind (arith, nat_tests)

    in_drawn : (unit : ℕ) → has_unit unit (drawn_part block (size note)) ≡ true → has_unit unit block ≡ true
    in_drawn unit has = let few = enough in grind (arith, nat_tests)

    drawn : IsGrantedSo (size note) total first claims (drawn_part block (size note))
    drawn = record {
      least = least;
      size = refl;
      within = let few = enough in let low = are.holds.0 in omega (arith, few, low);
      new = λ unit has. are.holds.1 unit (in_drawn unit has);
    }

    clear_left : (g : Option Span) → AreGrantsApart g (Some block) → AreGrantsApart g (Some (left_part block (size note)))
    clear_left None clear = tt
    clear_left (Some g) (inl low) = inl (omega (arith, low))
    clear_left (Some g) (inr high) = inr high

    clear_drawn : (g : Option Span) → AreGrantsApart g (Some block) → AreGrantsApart g (Some (drawn_part block (size note)))
    clear_drawn None clear = tt
    clear_drawn (Some g) (inl low) = inl low
    clear_drawn (Some g) (inr high) = inr (let few = enough in omega (arith, high, few))
