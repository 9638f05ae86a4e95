-- The rule, in plain words.
use Rattle.std.proofs.Common.{◌≡◌, ◌≢◌, ℕ, zero, suc, ◌+◌, ◌<◌, ◌≤◌, ◌⊎◌, ⊎_elim, Bool, true, false, cond, ◌&&◌, List, [], ◌∷◌, length, get_or, refl, sym, ap, ◌∙◌, subst, arith, nat_eq, nat_lt, All}
use Rattle.std.specs.List.{sum_by, flat_map}
use Rattle.std.proofs.lemmas.List.Sums.{sum_by-cons, sum_by-append, get_or-le-sum_by}
use Rattle.std.proofs.lemmas.List.{get_or_append_left, get_or-append-add, length-append}
use Rattle.std.proofs.lemmas.List.Elements.{All-nil, All-append, All-contains}
use Rattle.std.proofs.lemmas.Bool.{cases_lt, cases_eq, eq-eqb, lt-ltb, and_from}
use mathlib.Core.Option.{some, some-injective, some-ne-none}
use lib.ListN.{get_elem?}
use Rattle.lease_words.specs.Views.{end_of, inside, times_drawn, entry_overshoots_of, reports_of, own, IsPassView}
use Rattle.lease_words.specs.Rule.{AreWordsKept, passes_made}
use Rattle.lease_words.specs.Leased.{entries_known, reports_known, Sits, RuleIsLeased}
use Rattle.lease_words.specs.declared.view.Bounds.{Bounds}
use Rattle.lease_words.specs.declared.view.Entry.{Entry}
use Rattle.lease_words.specs.declared.view.Report.{Report}
use Rattle.lease_words.specs.declared.view.View.{View}
use Rattle.lease_words.proofs.Sums.{total_at, total_two}
use Rattle.lease_words.proofs.Keeps.{named_by, journal_count}
use Rattle.lease_words.proofs.Whole.{are_apart, is_within, two_le, at_most_one, within}

-- a sum over all entries, or all reports, view by view
sum_flat : {A : Type 0} (part : View → List A) (f : A → ℕ) (views : List View) → sum_by (λ (v : View). sum_by f (part v)) views ≡ sum_by f (flat_map part views)
sum_flat part f [] = refl
sum_flat part f (v ∷ vs) = let i = sum_flat part f vs in omega (arith, sum_by-cons (λ (u : View). sum_by f (part u)) v vs, sum_by-append f (part v) (flat_map part vs))

all_flat : {A : Type 0} (part : View → List A) (P : A → Type 0) (views : List View) → ((j : ℕ) (u : View) → get_elem? views j ≡ some u → All P (part u)) → All P (flat_map part views)
all_flat part P [] h = All-nil P
all_flat part P (v ∷ vs) h = All-append P (part v) (flat_map part vs) (h 0 v refl) (all_flat part P vs (λ j u e. h (suc j) u e))

some_there : (f : View → ℕ) (views : List View) → 0 < sum_by f views → (j : ℕ) × (u : View) × (get_elem? views j ≡ some u) × (0 < f u)
some_there f [] h = absurd (omega arith)
some_there f (v ∷ vs) h = ⊎_elim (λ (x : 0 < f v). (0, v, refl, x)) (λ (x : f v ≤ 0). let i = some_there f vs (omega (arith, sum_by-cons f v vs)) in (suc i.0, i.1, i.2, i.3)) (cases_lt 0 (f v))

is_one : (b : Bool) → 0 < cond {A = ℕ} b 1 0 → b ≡ true
is_one true h = refl
is_one false h = absurd (omega arith)

one_is : (b : Bool) → b ≡ true → cond {A = ℕ} b 1 0 ≡ 1
one_is b e = ap (λ (x : Bool). cond {A = ℕ} x 1 0) e

pub own_reported : (v : View) → IsPassView v → reports_of (own v).number v.reports ≡ 1
own_reported v p =
    let h : reports_of (own v).number v.reports ≡ 0 + cond {A = ℕ} (nat_eq (own v).number (own v).number) 1 0 = ap (reports_of (own v).number) p.1 in
    let o = one_is (nat_eq (own v).number (own v).number) (eq-eqb (own v).number (own v).number refl) in omega arith

pub same_seat : (b : Bounds) (next shown mark : ℕ) (views : List View) → AreWordsKept b next shown mark views → (i j : ℕ) (u v : View) (number : ℕ) → Sits views i u → Sits views j v
    → 0 < reports_of number u.reports → 0 < reports_of number v.reports → i ≡ j
same_seat b next shown mark views k i j u v number at at' h g = ⊎_elim (λ (x : j ≡ i). sym x)
    (λ (x : j ≡ i → ⊥). let t = total_two (named_by number) views i j u v at at' x in let n = k.numbered number in let o = at_most_one 0 (passes_made views) number in absurd (omega arith)) (cases_eq j i)

-- two seats of passes have two numbers
pub other_number : (b : Bounds) (next shown mark : ℕ) (views : List View) → AreWordsKept b next shown mark views → (i j : ℕ) (u v : View) → Sits views i u → Sits views j v → IsPassView u → IsPassView v → i ≢ j
    → (own u).number ≢ (own v).number
other_number b next shown mark views k i j u v at at' p q away same =
    away (same_seat b next shown mark views k i j u v (own u).number at at' (let o = own_reported u p in omega arith)
    (subst (λ (x : ℕ). 0 < reports_of x v.reports) (sym same) (let o = own_reported v q in omega arith)))

named_made : (b : Bounds) (next shown mark : ℕ) (views : List View) → AreWordsKept b next shown mark views → (seat : ℕ) (v : View) (number : ℕ) → Sits views seat v → 0 < reports_of number v.reports → number < passes_made views
named_made b next shown mark views k seat v number at h =
    let t = total_at (named_by number) views seat v at in let n = k.numbered number in (within 0 (passes_made views) number (omega arith)).1

pub reported_at : (rs : List Report) (i : ℕ) (d : Report) → i < length rs → 0 < reports_of (get_or rs i d).number rs
reported_at rs i d l =
    let n : ℕ = (get_or rs i d).number in
    let a = get_or-le-sum_by (λ (r : Report). cond {A = ℕ} (nat_eq r.number n) 1 0) rs i d l in
    let o = one_is (nat_eq n n) (eq-eqb n n refl) in omega arith

number_made : (b : Bounds) (next shown mark : ℕ) (views : List View) → AreWordsKept b next shown mark views → (seat : ℕ) (v : View) → Sits views seat v → (i : ℕ) (d : Report) → i < length v.reports → (get_or v.reports i d).number < passes_made views
number_made b next shown mark views k seat v at i d l = named_made b next shown mark views k seat v (get_or v.reports i d).number at (reported_at v.reports i d l)

-- a pass's number is below those made
pub pass_made : (b : Bounds) (next shown mark : ℕ) (views : List View) → AreWordsKept b next shown mark views → (seat : ℕ) (v : View) → Sits views seat v → IsPassView v → (own v).number < passes_made views
pass_made b next shown mark views k seat v at p = named_made b next shown mark views k seat v (own v).number at (let o = own_reported v p in omega arith)

pub rule_is_leased : RuleIsLeased
rule_is_leased b next shown mark views k =
    let es : List Entry = entries_known views in
    let tiled : (unit : ℕ) → times_drawn unit es ≡ inside b.base next unit = λ unit. sym (sum_flat (λ (v : View). v.entries) (λ (e : Entry). inside e.start (end_of e) unit) views) ∙ k.tiled unit in
    let sized : All (λ e. (0 < e.count) × (e.count ≤ 4096)) es = all_flat (λ (v : View). v.entries) (λ e. (0 < e.count) × (e.count ≤ 4096)) views (λ j u g. (k.each j u g).sized) in
    let over = sum_flat (λ (v : View). v.entries) (λ (e : Entry). cond {A = ℕ} (nat_lt b.total (end_of e)) 1 0) views in
    let lone = some_there journal_count views (let j = k.journal in omega arith) in
    let first = k.each lone.0 lone.1 lone.2 in
    let is = is_one lone.1.journal lone.3 in
    record {
      apart = are_apart b.base next es tiled sized;
      above = λ i d l. (is_within b.base next es tiled sized i d l).0;
      below = λ i d l. (is_within b.base next es tiled sized i d l).1;
      counts = let s = sum_flat (λ (v : View). v.entries) (λ (e : Entry). e.count) views in let c = k.counted in omega arith;
      once = λ i j d h l p q same.
          let x : Entry = get_or es i d in let y : Entry = get_or es j d in
          let test : Entry → ℕ = λ e. cond {A = ℕ} (nat_eq e.pass y.pass && nat_lt b.total (end_of e)) 1 0 in
          let two = two_le test es i j d h l in
          let a = one_is (nat_eq x.pass y.pass && nat_lt b.total (end_of x)) (and_from (nat_eq x.pass y.pass) (nat_lt b.total (end_of x)) (eq-eqb x.pass y.pass same) (lt-ltb b.total (end_of x) p)) in
          let c = one_is (nat_eq y.pass y.pass && nat_lt b.total (end_of y)) (and_from (nat_eq y.pass y.pass) (nat_lt b.total (end_of y)) (eq-eqb y.pass y.pass refl) (lt-ltb b.total (end_of y) q)) in
          let s = sum_flat (λ (v : View). v.entries) test views in let n = k.numbered y.pass in let o = at_most_one 0 (passes_made views) y.pass in
          let le = over_le y.pass views (λ j u g. (k.each j u g).once y.pass) in
          omega arith;
      bound = let c = k.bounded in omega arith;
      journal = (lone.0, lone.1, lone.2, (is, first.knows is, first.marks is));
      alone = λ i j u v. (k.each i u.0 u.1).first u.2 ∙ sym ((k.each j v.0 v.1).first v.2);
      ceiling = k.ceiling;
      known = all_flat (λ (v : View). v.reports) (λ r. (b.base ≤ r.known) × (r.known ≤ shown)) views (λ j u g. (k.each j u g).known);
      numbers = λ i j d h l same.
          let rs : List Report = reports_known views in
          let x : Report = get_or rs i d in let y : Report = get_or rs j d in
          let test : Report → ℕ = λ r. cond {A = ℕ} (nat_eq r.number y.number) 1 0 in
          let two = two_le test rs i j d h l in
          let a = one_is (nat_eq x.number y.number) (eq-eqb x.number y.number same) in
          let c = one_is (nat_eq y.number y.number) (eq-eqb y.number y.number refl) in
          let s = sum_flat (λ (v : View). v.reports) test views in let n = k.numbered y.number in let o = at_most_one 0 (passes_made views) y.number in
          omega arith;
      made = all_flat (λ (v : View). v.reports) (λ r. r.number < passes_made views) views (λ j u g i d l. number_made b next shown mark views k j u g i d l);
      few = k.few;
      own_entries = λ i j e p has. same_seat b next shown mark views k i j p.0 has.0 e.pass p.1 has.1
          (subst (λ (x : ℕ). 0 < reports_of x p.0.reports) p.3 (let o = own_reported p.0 p.2 in omega arith))
          (All-contains (λ (x : Entry). 0 < reports_of x.pass has.0.reports) has.0.entries e (k.each j has.0 has.1).named has.2);
      entries_made = all_flat (λ (v : View). v.entries) (λ e. e.pass < passes_made views) views
          (λ j u g i d l. let h = (k.each j u g).named i d l in let t = total_at (named_by (get_or u.entries i d).pass) views j u g in let n = k.numbered (get_or u.entries i d).pass in
          (within 0 (passes_made views) (get_or u.entries i d).pass (omega arith)).1);
      marks = all_flat (λ (v : View). v.reports) (λ r. (r.mark ≡ 0) ⊎ (r.mark ≡ mark)) views (λ j u g. (k.each j u g).marked);
    } where
      over_le : (number : ℕ) (vs : List View) → ((j : ℕ) (u : View) → get_elem? vs j ≡ some u → entry_overshoots_of b.total number u.entries ≤ reports_of number u.reports) → sum_by (λ (u : View). entry_overshoots_of b.total number u.entries) vs ≤ sum_by (named_by number) vs
      over_le number [] h = omega arith
      over_le number (x ∷ xs) h = let a = h 0 x refl in let i = over_le number xs (λ j u e. h (suc j) u e) in omega (arith, sum_by-cons (λ (u : View). entry_overshoots_of b.total number u.entries) x xs, sum_by-cons (named_by number) x xs)

part_flat : {A : Type 0} (part : View → List A) (P : A → Type 0) (views : List View) (j : ℕ) (u : View) → get_elem? views j ≡ some u → All P (flat_map part views) → All P (part u)
part_flat part P [] j u at all = absurd (some-ne-none u (sym at))
part_flat part P (v ∷ vs) zero u at all = subst (λ (x : View). All P (part x)) (some-injective v u at) (λ k d l. subst P (get_or_append_left (part v) (flat_map part vs) d k l) (all k d (let sum = length-append (part v) (flat_map part vs) in omega (arith, l, sum))))
part_flat part P (v ∷ vs) (suc j) u at all = part_flat part P vs j u at (λ k d l.
    let sum = length-append (part v) (flat_map part vs) in
    subst P (get_or-append-add (part v) (flat_map part vs) k d) (all (length (part v) + k) d (omega (arith, l, sum))))

-- what a seat drew ends at or below the next unit
pub entries_below : (b : Bounds) (next shown mark : ℕ) (views : List View) (seat : ℕ) (v : View) → AreWordsKept b next shown mark views → get_elem? views seat ≡ some v → All (λ e. end_of e ≤ next) v.entries
entries_below b next shown mark views seat v k at =
    part_flat (λ (u : View). u.entries) (λ e. end_of e ≤ next) views seat v at (rule_is_leased b next shown mark views k).below
