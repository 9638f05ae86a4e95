-- Spans that were drawn one after another.
use Rattle.std.proofs.Common.{◌≡◌, ℕ, zero, suc, ◌<◌, ◌≤◌, ◌⊎◌, inl, inr, Bool, true, false, not, cond, List, [], ◌∷◌, ◌++◌, length, get_or, refl, sym, ap, ◌∙◌, subst, arith, Option, None, Some, nat_eq, nat_lt}
use Rattle.std.proofs.lemmas.Bool.{true≢false, and_parts, and_from, and_cases, or_parts, not-true, eq-eqb, eqb-true, ltb-false}
use Rattle.lease_core.specs.Spans.{span, same_span, meets, has_span, meets_any, IsApart}
use Rattle.lease_core.specs.Machine.{last_drawn, is_open}
use Rattle.zk_model.specs.declared.Span.{Span}
use Rattle.lease_core.specs.declared.event.Drawn.{Drawn}

-- from low on, each begins at or after the end of the one before, has a unit, and ends at most at high
abbrev pub Chain : ℕ → List Drawn → ℕ → Type 0
Chain low [] high = low ≤ high
Chain low (d ∷ ds) high = (low ≤ d.span.start) × (d.span.start < d.span.end) × Chain d.span.end ds high

abbrev pub Has : List Drawn → Span → Type 0
Has [] s = ⊥
Has (d ∷ ds) s = (d.span ≡ s) ⊎ Has ds s

pub chain_push : (low high end : ℕ) (pass : ℕ) (ds : List Drawn) → Chain low ds high → high < end → Chain low (ds ++ record { pass = pass; span = span high end } ∷ []) end
chain_push low high end pass [] h l = (h, l, omega arith)
chain_push low high end pass (d ∷ ds) h l = (h.0, h.1, chain_push d.span.end high end pass ds h.2 l)

pub has_push : (ds : List Drawn) (d : Drawn) (s : Span) → Has ds s → Has (ds ++ d ∷ []) s
has_push [] d s h = elim h [ ]
has_push (x ∷ ds) d s (inl e) = inl e
has_push (x ∷ ds) d s (inr h) = inr (has_push ds d s h)

pub has_within : (low high : ℕ) (ds : List Drawn) (s : Span) → Chain low ds high → Has ds s → (low ≤ s.start) × (s.start < s.end) × (s.end ≤ high)
has_within low high [] s h k = elim k [ ]
has_within low high (d ∷ ds) s h (inl e) = let P : Span → Type 0 = λ t. (low ≤ t.start) × (t.start < t.end) × (t.end ≤ high) in subst P e (h.0, h.1, chain_le d.span.end high ds h.2) where
  chain_le : (low high : ℕ) (ds : List Drawn) → Chain low ds high → low ≤ high
  chain_le low high [] h = h
  chain_le low high (d ∷ ds) h = let i = chain_le d.span.end high ds h.2 in omega arith
has_within low high (d ∷ ds) s h (inr k) = let i = has_within d.span.end high ds s h.2 k in (omega arith, i.1, i.2)

pub same_or_apart : (low high : ℕ) (ds : List Drawn) (s t : Span) → Chain low ds high → Has ds s → Has ds t → (s ≡ t) ⊎ IsApart s t
same_or_apart low high [] s t h e f = elim e [ ]
same_or_apart low high (d ∷ ds) s t h (inl e) (inl f) = inl (sym e ∙ f)
same_or_apart low high (d ∷ ds) s t h (inl e) (inr f) = let i = has_within d.span.end high ds t h.2 f in let x : d.span.end ≡ s.end = ap (λ (z : Span). z.end) e in inr (inl (omega arith))
same_or_apart low high (d ∷ ds) s t h (inr e) (inl f) = let i = has_within d.span.end high ds s h.2 e in let x : d.span.end ≡ t.end = ap (λ (z : Span). z.end) f in inr (inr (omega arith))
same_or_apart low high (d ∷ ds) s t h (inr e) (inr f) = same_or_apart d.span.end high ds s t h.2 e f

cond_some : (b : Bool) (x s : Span) → cond b (Some x) None ≡ Some s → x ≡ s
cond_some true x s e = cc
cond_some false x s e = absurd (cc)

-- the last span that a pass drew was drawn
pub last_is_had : (pass : ℕ) (ds : List Drawn) (s : Span) → last_drawn pass ds ≡ Some s → Has ds s
last_is_had pass [] s e = absurd (cc)
last_is_had pass (d ∷ ds) s e = last_case (last_drawn pass ds) refl (last_is_had pass ds s) where
  last_case : (o : Option Span) → last_drawn pass ds ≡ o → (last_drawn pass ds ≡ Some s → Has ds s) → Has (d ∷ ds) s
  last_case None is ih = let f = rw is at e in inl (cond_some (nat_eq d.pass pass) d.span s f)
  last_case (Some t) is ih = let f = rw is at e in let same : t ≡ s = cc in inr (ih (is ∙ ap (λ (z : Span). Some z) same))

pub same_span-true : (a b : Span) → same_span a b ≡ true → a ≡ b
same_span-true a b e = let p = and_parts (nat_eq a.start b.start) (nat_eq a.end b.end) e in let x = eqb-true a.start b.start p.0 in let y = eqb-true a.end b.end p.1 in λ i. record { start = x i; end = y i }

pub not_had-differs : (s t : Span) (spent : List Span) → has_span t spent ≡ false → (k : ℕ) (d : Span) → k < length spent → get_or spent k d ≡ t → ⊥
not_had-differs s t [] h k d l e = absurd (omega arith)
not_had-differs s t (x ∷ xs) h zero d l e = let p = or_parts (same_span x t) (has_span t xs) h in true≢false (sym (same_span-is x t e) ∙ p.0) where
  same_span-is : (x t : Span) → x ≡ t → same_span x t ≡ true
  same_span-is x t e = let a : x.start ≡ t.start = ap (λ (z : Span). z.start) e in let b : x.end ≡ t.end = ap (λ (z : Span). z.end) e in and_from (nat_eq x.start t.start) (nat_eq x.end t.end) (eq-eqb x.start t.start a) (eq-eqb x.end t.end b)
not_had-differs s t (x ∷ xs) h (suc k) d l e = not_had-differs s t xs (or_parts (same_span x t) (has_span t xs) h).1 k d (omega arith) e

-- a span that meets none of these is apart from each
pub meets_none-apart : (s : Span) (xs : List Span) → meets_any s xs ≡ false → (k : ℕ) (d : Span) → k < length xs → IsApart (get_or xs k d) s
meets_none-apart s [] h k d l = absurd (omega arith)
meets_none-apart s (x ∷ xs) h zero d l = apart (and_cases (nat_lt x.start s.end) (nat_lt s.start x.end) (or_parts (meets x s) (meets_any s xs) h).0) where
  apart : ((nat_lt x.start s.end ≡ false) ⊎ (nat_lt s.start x.end ≡ false)) → IsApart x s
  apart (inl e) = inr (ltb-false x.start s.end e)
  apart (inr e) = inl (ltb-false s.start x.end e)
meets_none-apart s (x ∷ xs) h (suc k) d l = meets_none-apart s xs (or_parts (meets x s) (meets_any s xs) h).1 k d (omega arith)

-- what is_open says
pub open_parts : (o : Option Span) (spent : List Span) (test : Span → Bool) → is_open o spent test ≡ true → (s : Span) × (o ≡ Some s) × (has_span s spent ≡ false) × (test s ≡ true)
open_parts None spent test e = absurd (true≢false (sym e))
open_parts (Some s) spent test e = let p = and_parts (not (has_span s spent)) (test s) e in (s, refl, not-true (has_span s spent) p.0, p.1)
