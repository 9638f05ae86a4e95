-- For the code of the machine.
use Rattle.std.proofs.Common.{◌≡◌, ◌≢◌, ℕ, zero, suc, ◌+◌, ◌*◌, ◌<◌, ◌≤◌, ⊎_elim, Bool, true, false, cond, ◌&&◌, List, [], ◌∷◌, ◌++◌, length, get_or, take, refl, sym, ap, ◌∙◌, arith, Option, None, Some, nat_eq, nat_lt, All}
use Rattle.std.proofs.lemmas.List.Sums.{sum_by-cons, sum_by_push}
use Rattle.std.proofs.lemmas.List.{take_more}
use Rattle.std.proofs.lemmas.List.Elements.{All-push}
use Rattle.std.proofs.lemmas.Bool.{cases_lt, cases_eq, eq-eqb, ne_eqb, or_parts}
use Rattle.std.proofs.lemmas.Bool.Decides.{nat_tests}
use Rattle.lease_core.specs.Spans.{span}
use Rattle.lease_core.specs.Machine.{last_of, last_drawn, or_else, is_passed}
use Rattle.lease_core.specs.Limits.{overshoots, overshoots_of, IsBounded, IsLimited}
use Rattle.lease_core.proofs.Keeps.{last_of_push}
use Rattle.zk_model.specs.declared.Span.{Span}
use Rattle.lease_core.specs.declared.event.Drawn.{Drawn}

pub last_of_get : (xs : List ℕ) (n : ℕ) → length xs ≡ n + 1 → last_of xs ≡ get_or xs n 0
last_of_get [] n e = absurd (omega arith)
last_of_get (x ∷ []) zero e = refl
last_of_get (x ∷ []) (suc n) e = absurd (omega arith)
last_of_get (x ∷ y ∷ ys) zero e = absurd (omega arith)
last_of_get (x ∷ y ∷ ys) (suc n) e = last_of_get (y ∷ ys) n (omega arith)

pub last_drawn_push : (pass : ℕ) (ds : List Drawn) (d : Drawn) → last_drawn pass (ds ++ d ∷ []) ≡ cond (nat_eq d.pass pass) (Some d.span) (last_drawn pass ds)
last_drawn_push pass [] d = refl
last_drawn_push pass (x ∷ xs) d = ap (λ o. or_else o (cond (nat_eq x.pass pass) (Some x.span) None)) (last_drawn_push pass xs d) ∙ by_test (nat_eq d.pass pass) where
  by_test : (b : Bool) → or_else (cond b (Some d.span) (last_drawn pass xs)) (cond (nat_eq x.pass pass) (Some x.span) None) ≡ cond b (Some d.span) (or_else (last_drawn pass xs) (cond (nat_eq x.pass pass) (Some x.span) None))
  by_test true = refl
  by_test false = refl

pub last_drawn_more : (pass : ℕ) (ds : List Drawn) (i : ℕ) (d : Drawn) → i < length ds → last_drawn pass (take (i + 1) ds) ≡ cond (nat_eq (get_or ds i d).pass pass) (Some (get_or ds i d).span) (last_drawn pass (take i ds))
last_drawn_more pass ds i d l = ap (last_drawn pass) (take_more ds i d l) ∙ last_drawn_push pass (take i ds) (get_or ds i d)

-- ---- at most one span of each of so many passes ends above the total, so there are at most so many

abbrev below_sum : (ℕ → ℕ) → ℕ → ℕ
below_sum f zero = 0
below_sum f (suc n) = f n + below_sum f n

below_add : (f g h : ℕ → ℕ) (n : ℕ) → ((p : ℕ) → h p ≡ f p + g p) → below_sum h n ≡ below_sum f n + below_sum g n
below_add f g h zero e = omega arith
below_add f g h (suc n) e = let i = below_add f g h n e in let x = e n in omega arith

below_one : (f : ℕ → ℕ) (n : ℕ) → ((p : ℕ) → f p ≤ 1) → below_sum f n ≤ n
below_one f zero h = omega arith
below_one f (suc n) h = let i = below_one f n h in let x = h n in omega arith

below_at : (f : ℕ → ℕ) (q n : ℕ) → q < n → f q ≤ below_sum f n
below_at f q zero h = absurd (omega arith)
below_at f q (suc n) h = ⊎_elim (λ (x : q < n). let i = below_at f q n x in omega arith) (λ (x : n ≤ q). let e : q ≡ n = omega arith in let g : f q ≡ f n = ap f e in omega arith) (cases_lt q n)

pub all_counted : (total passes : ℕ) (ds : List Drawn) → All (λ d. d.pass < passes) ds → overshoots total ds ≤ below_sum (λ p. overshoots_of total p ds) passes
all_counted total passes [] h = omega arith
all_counted total passes (d ∷ ds) h =
    let b : Bool = nat_lt total d.span.end in
    let one : ℕ → ℕ = λ p. cond {A = ℕ} (nat_eq d.pass p && b) 1 0 in
    let i = all_counted total passes ds (λ k e l. h (suc k) e (omega arith)) in
    let a = below_at one d.pass passes (h 0 d (omega arith)) in
    let s : one d.pass ≡ cond {A = ℕ} b 1 0 = ap (λ (x : Bool). cond {A = ℕ} (x && b) 1 0) (eq-eqb d.pass d.pass refl) in
    let j = below_add one (λ p. overshoots_of total p ds) (λ p. overshoots_of total p (d ∷ ds)) passes (λ p. sum_by-cons (λ (x : Drawn). cond {A = ℕ} (nat_eq x.pass p && nat_lt total x.span.end) 1 0) d ds) in
    omega (arith, sum_by-cons (λ (x : Drawn). cond {A = ℕ} (nat_lt total x.span.end) 1 0) d ds)

pub few_over : (total passes base next : ℕ) (ds : List Drawn) → IsBounded total passes base next ds → next ≤ total + 4096 * passes
few_over total passes base next ds b =
    let a = all_counted total passes ds b.below in let c = below_one (λ p. overshoots_of total p ds) passes b.once in let n = b.next_low in omega arith

none_passed : (total pass : ℕ) (ds : List Drawn) → is_passed total pass ds ≡ false → overshoots_of total pass ds ≡ 0
none_passed total pass [] h = refl
none_passed total pass (d ∷ ds) h =
    let p = or_parts (nat_eq d.pass pass && nat_lt total d.span.end) (is_passed total pass ds) h in
    let i = none_passed total pass ds p.1 in
    let z : cond {A = ℕ} (nat_eq d.pass pass && nat_lt total d.span.end) 1 0 ≡ 0 = ap (λ (x : Bool). cond {A = ℕ} x 1 0) p.0 in
    omega (arith, sum_by-cons (λ (x : Drawn). cond {A = ℕ} (nat_eq x.pass pass && nat_lt total x.span.end) 1 0) d ds)

pub draw_bounded : (total passes base next pass n : ℕ) (ds : List Drawn) → IsBounded total passes base next ds → pass < passes → n ≤ 4096 → is_passed total pass ds ≡ false
    → IsBounded total passes base (next + n) (ds ++ record { pass = pass; span = span next (next + n) } ∷ [])
draw_bounded total passes base next pass n ds b low few free = record {
  base_low = b.base_low;
  next_low = let s = sum_by_push (λ (x : Drawn). cond {A = ℕ} (nat_lt total x.span.end) 1 0) ds (record { pass = pass; span = span next (next + n) }) in let h = b.next_low in next_le (overshoots total ds) (overshoots total (ds ++ record { pass = pass; span = span next (next + n) } ∷ [])) h (omega arith);
  below = All-push (λ (d : Drawn). d.pass < passes) ds (record { pass = pass; span = span next (next + n) }) b.below low;
  once = λ p. let s = sum_by_push (λ (x : Drawn). cond {A = ℕ} (nat_eq x.pass p && nat_lt total x.span.end) 1 0) ds (record { pass = pass; span = span next (next + n) }) in let h = b.once p in let z = none_passed total pass ds free in
      ⊎_elim (λ (e : p ≡ pass). let g : overshoots_of total p ds ≡ overshoots_of total pass ds = ap (λ (x : ℕ). overshoots_of total x ds) e in let o = at_most (nat_eq pass p && nat_lt total (next + n)) in omega arith)
      (λ (e : p ≡ pass → ⊥). let g : cond {A = ℕ} (nat_eq pass p && nat_lt total (next + n)) 1 0 ≡ 0 = ap (λ (x : Bool). cond {A = ℕ} (x && nat_lt total (next + n)) 1 0) (ne_eqb pass p (λ q. e (sym q))) in omega arith) (cases_eq p pass);
} where
  at_most : (b : Bool) → cond {A = ℕ} b 1 0 ≤ 1
  at_most true = omega arith
  at_most false = omega arith

  next_le : (before now : ℕ) → next ≤ total + 4096 * before → now ≡ before + cond {A = ℕ} (nat_lt total (next + n)) 1 0 → next + n ≤ total + 4096 * now
  next_le before now h e = grind (arith, nat_tests)

pub found_here : (pass : ℕ) (ds : List Drawn) (i : ℕ) (d : Drawn) (found : Option Span) → i < length ds → (get_or ds i d).pass ≡ pass → found ≡ Some (get_or ds i d).span → found ≡ last_drawn pass (take (i + 1) ds)
found_here pass ds i d found l e g = g ∙ sym (last_drawn_more pass ds i d l ∙ ap (λ (b : Bool). cond b (Some (get_or ds i d).span) (last_drawn pass (take i ds))) (eq-eqb (get_or ds i d).pass pass e))

pub found_before : (pass : ℕ) (ds : List Drawn) (i : ℕ) (d : Drawn) (found old : Option Span) → i < length ds → (get_or ds i d).pass ≢ pass → found ≡ old → old ≡ last_drawn pass (take i ds) → found ≡ last_drawn pass (take (i + 1) ds)
found_before pass ds i d found old l n g h = g ∙ h ∙ sym (last_drawn_more pass ds i d l ∙ ap (λ (b : Bool). cond b (Some (get_or ds i d).span) (last_drawn pass (take i ds))) (ne_eqb (get_or ds i d).pass pass n))

pub limited_push : (total passes ceiling shown : ℕ) (slots known : List ℕ) → IsLimited total passes ceiling shown slots known → IsLimited total passes ceiling shown (slots ++ ceiling ∷ []) known
limited_push total passes ceiling shown slots known l = let e = last_of_push slots ceiling in let c = l.ceiling_low in
    record { total_low = l.total_low; passes_low = l.passes_low; ceiling_low = l.ceiling_low; slots_low = omega arith; known_all = l.known_all }
