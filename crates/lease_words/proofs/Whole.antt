-- The seat that has taken in all passes knows all entries, and these tile.
use Rattle.std.proofs.Common.{◌≡◌, ◌≢◌, ℕ, zero, suc, ◌+◌, ◌-◌, ◌<◌, ◌≤◌, max, ◌⊎◌, inl, inr, ⊎_elim, true, List, [], ◌∷◌, length, get_or, refl, sym, ap, ◌∙◌, subst, arith, All}
use Rattle.std.specs.List.{sum_by, AllPairs, flat_map}
use Rattle.std.proofs.lemmas.List.Sums.{sum_by-cons, get_or-le-sum_by}
use Rattle.std.proofs.lemmas.List.{get_or_append_left, get_or-append-add, length-append}
use Rattle.std.proofs.lemmas.Bool.{false_from_ne_true, cases_lt}
use Rattle.std.proofs.lemmas.Bool.Decides.{nat_tests}
use mathlib.Core.Option.{some}
use lib.ListN.{get_elem?}
use Rattle.lease_words.specs.Views.{end_of, inside, times_drawn, units_drawn, reports_of, own, nobody}
use Rattle.lease_words.specs.Rule.{Fits, AreWordsKept, passes_made}
use Rattle.lease_words.specs.Calls.{greatest_end, AreEntriesApart, AreGathered, seen, all_entries, mark_of}
use Rattle.lease_words.specs.declared.view.Bounds.{Bounds}
use Rattle.lease_words.specs.declared.view.Entry.{Entry}
use Rattle.lease_words.specs.declared.view.Report.{Report}
use Rattle.lease_words.specs.declared.view.View.{View}
use Rattle.lease_words.specs.declared.pass.Pass.{Pass}
use Rattle.lease_words.proofs.Sums.{total_only, total_two}
use Rattle.lease_words.proofs.Keeps.{drawn_at, units_of, report_count, made_by}

-- ---- one seat has all

pub others_unmade : (b : Bounds) (next shown mark : ℕ) (views : List View) (seat : ℕ) (v : View) → AreWordsKept b next shown mark views → get_elem? views seat ≡ some v → v.journal ≡ true
    → passes_made views ≡ v.made
others_unmade b next shown mark views seat v k at is =
    let z = (k.each seat v at).first is in
    total_only made_by views seat v at (λ j u other g. (k.each j u g).makes (false_from_ne_true u.journal (λ y. other ((k.each j u g).first y ∙ sym z))))

nothing_reported : (rs : List Report) (es : List Entry) → length rs ≡ 0 → All (λ e. 0 < reports_of e.pass rs) es → es ≡ []
nothing_reported [] [] z h = refl
nothing_reported [] (e ∷ es) z h = let a = h 0 e (omega arith) in absurd (omega arith)
nothing_reported (r ∷ rs) es z h = absurd (omega arith)

pub others_empty : (b : Bounds) (next shown mark : ℕ) (views : List View) (seat : ℕ) (v : View) → AreWordsKept b next shown mark views → get_elem? views seat ≡ some v → v.journal ≡ true
    → length v.reports ≡ v.made → (j : ℕ) (u : View) → j ≢ seat → get_elem? views j ≡ some u → u.entries ≡ []
others_empty b next shown mark views seat v k at is all j u other g =
    let made = others_unmade b next shown mark views seat v k at is in
    let two = total_two report_count views seat j v u at g other in
    let sum = k.reported in
    nothing_reported u.reports u.entries (omega arith) (k.each j u g).named

pub tiles_whole : (b : Bounds) (next shown mark : ℕ) (views : List View) (seat : ℕ) (v : View) → AreWordsKept b next shown mark views → get_elem? views seat ≡ some v → v.journal ≡ true
    → length v.reports ≡ v.made → (unit : ℕ) → times_drawn unit v.entries ≡ inside b.base next unit
tiles_whole b next shown mark views seat v k at is all unit =
    sym (total_only (drawn_at unit) views seat v at (λ j u other g. ap (times_drawn unit) (others_empty b next shown mark views seat v k at is all j u other g))) ∙ k.tiled unit

pub counts_whole : (b : Bounds) (next shown mark : ℕ) (views : List View) (seat : ℕ) (v : View) → AreWordsKept b next shown mark views → get_elem? views seat ≡ some v → v.journal ≡ true
    → length v.reports ≡ v.made → b.base + units_drawn v.entries ≡ next
counts_whole b next shown mark views seat v k at is all =
    let s = total_only units_of views seat v at (λ j u other g. ap units_drawn (others_empty b next shown mark views seat v k at is all j u other g)) in let t = k.counted in omega arith

-- ---- lists of entries that tile

pub two_le : {A : Type 0} (f : A → ℕ) (xs : List A) (i j : ℕ) (d : A) → i < j → j < length xs → f (get_or xs i d) + f (get_or xs j d) ≤ sum_by f xs
two_le f [] i j d h l = absurd (omega arith)
two_le f (x ∷ xs) i zero d h l = absurd (omega arith)
two_le f (x ∷ xs) zero (suc j) d h l = let a = get_or-le-sum_by f xs j d (omega arith) in omega (arith, sum_by-cons f x xs)
two_le f (x ∷ xs) (suc i) (suc j) d h l = let a = two_le f xs i j d (omega arith) (omega arith) in omega (arith, sum_by-cons f x xs)

covers : (low high unit : ℕ) → low ≤ unit → unit < high → inside low high unit ≡ 1
covers low high unit a b = grind (arith, nat_tests)

pub at_most_one : (low high unit : ℕ) → inside low high unit ≤ 1
at_most_one low high unit = grind (arith, nat_tests)

pub within : (low high unit : ℕ) → 0 < inside low high unit → (low ≤ unit) × (unit < high)
within low high unit h = (grind (arith, nat_tests), grind (arith, nat_tests))

module _ (base next : ℕ) (es : List Entry) (tiled : (unit : ℕ) → times_drawn unit es ≡ inside base next unit) (sized : All (λ e. (0 < e.count) × (e.count ≤ 4096)) es) where
  pub is_within : (k : ℕ) (d : Entry) → k < length es → (base ≤ (get_or es k d).start) × (end_of (get_or es k d) ≤ next)
  is_within k d l =
      let e : Entry = get_or es k d in let some_count = (sized k d l).0 in
      let a = get_or-le-sum_by (λ (x : Entry). inside x.start (end_of x) e.start) es k d l in
      let b = get_or-le-sum_by (λ (x : Entry). inside x.start (end_of x) (end_of e - 1)) es k d l in
      let p = covers e.start (end_of e) e.start (omega arith) (omega arith) in
      let q = covers e.start (end_of e) (end_of e - 1) (omega arith) (omega arith) in
      let s = tiled e.start in let t = tiled (end_of e - 1) in
      let u = within base next e.start (omega arith) in let w = within base next (end_of e - 1) (omega arith) in
      (u.0, omega arith)

  pub are_apart : AllPairs AreEntriesApart es
  are_apart i j d h l = ⊎_elim inl
      (λ (x : (get_or es j d).start < end_of (get_or es i d)). ⊎_elim inr
      (λ (y : (get_or es i d).start < end_of (get_or es j d)).
      let e : Entry = get_or es i d in let f : Entry = get_or es j d in
      let ce = (sized i d (omega arith)).0 in let cf = (sized j d l).0 in
      let unit : ℕ = max e.start f.start in
      let a = two_le (λ (z : Entry). inside z.start (end_of z) unit) es i j d h l in
      let p = covers e.start (end_of e) unit (omega arith) (omega arith) in let q = covers f.start (end_of f) unit (omega arith) (omega arith) in
      let t = tiled unit in let o = at_most_one base next unit in absurd (omega arith)) (le_or (end_of (get_or es j d)) (get_or es i d).start))
      (le_or (end_of (get_or es i d)) (get_or es j d).start)
    where
      le_or : (a b : ℕ) → (a ≤ b) ⊎ (b < a)
      le_or a b = ⊎_elim inr inl (cases_lt b a)

greatest_le : (base next : ℕ) (es : List Entry) → base ≤ next → ((k : ℕ) (d : Entry) → k < length es → end_of (get_or es k d) ≤ next) → greatest_end base es ≤ next
greatest_le base next [] b h = b
greatest_le base next (e ∷ es) b h = let a = h 0 e (omega arith) in let i = greatest_le base next es b (λ k d l. h (suc k) d (omega arith)) in omega arith

greatest_covers : (base unit : ℕ) (es : List Entry) → 0 < times_drawn unit es → unit < greatest_end base es
greatest_covers base unit [] h = absurd (omega arith)
greatest_covers base unit (e ∷ es) h = ⊎_elim
    (λ (x : 0 < inside e.start (end_of e) unit). let w = within e.start (end_of e) unit x in omega arith)
    (λ (x : inside e.start (end_of e) unit ≤ 0). let i = greatest_covers base unit es (omega (arith, sum_by-cons (λ (z : Entry). inside z.start (end_of z) unit) e es)) in omega arith)
    (cases_lt 0 (inside e.start (end_of e) unit))

base_below : (base : ℕ) (es : List Entry) → base ≤ greatest_end base es
base_below base [] = omega arith
base_below base (e ∷ es) = let i = base_below base es in omega arith

pub greatest_is : (base next : ℕ) (es : List Entry) → base ≤ next → ((unit : ℕ) → times_drawn unit es ≡ inside base next unit) → ((k : ℕ) (d : Entry) → k < length es → end_of (get_or es k d) ≤ next) → greatest_end base es ≡ next
greatest_is base next es b tiled ends = ⊎_elim
    (λ (h : base < next). let a = greatest_le base next es b ends in let t = tiled (next - 1) in let c = covers base next (next - 1) (omega arith) (omega arith) in let g = greatest_covers base (next - 1) es (omega arith) in omega arith)
    (λ (h : next ≤ base). let a = greatest_le base next es b ends in let l = base_below base es in omega arith)
    (cases_lt base next)

-- ---- the passes whose reports one seat has

pub count_reports : (ps : List Pass) → length (flat_map (λ (p : Pass). (seen p).reports) ps) ≡ length ps
count_reports [] = refl
count_reports (p ∷ ps) = let one : length (seen p).reports ≡ 1 = ap length p.is_pass.view.1 in let i = count_reports ps in omega (arith, length-append (seen p).reports (flat_map (λ (q : Pass). (seen q).reports) ps))

pub each_report : (P : Report → Type 0) (ps : List Pass) → All P (flat_map (λ (p : Pass). (seen p).reports) ps) → All (λ p. P (own (seen p))) ps
each_report P [] h k d l = absurd (omega arith)
each_report P (p ∷ ps) h zero d l =
    let r : Report = own (seen p) in let rest : List Report = flat_map (λ (q : Pass). (seen q).reports) ps in
    let one : length (seen p).reports ≡ 1 = ap length p.is_pass.view.1 in
    let a = h 0 nobody (omega (arith, length-append (seen p).reports rest)) in
    subst P (get_or_append_left (seen p).reports rest nobody 0 (omega arith)) a
each_report P (p ∷ ps) h (suc k) d l =
    let rest : List Report = flat_map (λ (q : Pass). (seen q).reports) ps in
    each_report P ps (λ i e m. subst P (get_or-append-add (seen p).reports rest i e) (h (length (seen p).reports + i) e (omega (arith, length-append (seen p).reports rest)))) k d (omega arith)

-- all of it
pub gathered : (b : Bounds) (next shown mark : ℕ) (views : List View) (seat : ℕ) (v : View) (ps : List Pass) → AreWordsKept b next shown mark views → get_elem? views seat ≡ some v → v.journal ≡ true
    → v.reports ≡ flat_map (λ (p : Pass). (seen p).reports) ps → v.entries ≡ all_entries ps → v.made ≡ length ps → AreGathered b.base v.ceiling v.own_mark ps
gathered b next shown mark views seat v ps k at is reports entries made =
    let fits : Fits b shown mark seat v = k.each seat v at in
    let all : length v.reports ≡ v.made = ap length reports ∙ count_reports ps ∙ sym made in
    let tiled : (unit : ℕ) → times_drawn unit (all_entries ps) ≡ inside b.base next unit = λ unit. sym (ap (times_drawn unit) entries) ∙ tiles_whole b next shown mark views seat v k at is all unit in
    let counted : b.base + units_drawn (all_entries ps) ≡ next = sym (ap (λ (x : List Entry). b.base + units_drawn x) entries) ∙ counts_whole b next shown mark views seat v k at is all in
    let sized : All (λ e. (0 < e.count) × (e.count ≤ 4096)) (all_entries ps) = subst (λ (x : List Entry). All (λ e. (0 < e.count) × (e.count ≤ 4096)) x) entries fits.sized in
    let known : All (λ r. (b.base ≤ r.known) × (r.known ≤ shown)) (flat_map (λ (p : Pass). (seen p).reports) ps) = subst (λ (x : List Report). All (λ r. (b.base ≤ r.known) × (r.known ≤ shown)) x) reports fits.known in
    let marks : All (λ r. (r.mark ≡ 0) ⊎ (r.mark ≡ mark)) (flat_map (λ (p : Pass). (seen p).reports) ps) = subst (λ (x : List Report). All (λ r. (r.mark ≡ 0) ⊎ (r.mark ≡ mark)) x) reports fits.marked in
    let ceiling = fits.knows is in let own_mark = fits.marks is in
    record {
      apart = are_apart b.base next (all_entries ps) tiled sized;
      above = λ i d l. (is_within b.base next (all_entries ps) tiled sized i d l).0;
      tile = counted ∙ sym (greatest_is b.base next (all_entries ps) (omega arith) tiled (λ i d l. (is_within b.base next (all_entries ps) tiled sized i d l).1));
      known = λ i d l. let h = each_report (λ r. (b.base ≤ r.known) × (r.known ≤ shown)) ps known i d l in omega arith;
      marks = λ i d l. subst (λ (x : ℕ). ((mark_of (get_or ps i d)) ≡ 0) ⊎ ((mark_of (get_or ps i d)) ≡ x)) (sym own_mark) (each_report (λ r. (r.mark ≡ 0) ⊎ (r.mark ≡ mark)) ps marks i d l);
    }
