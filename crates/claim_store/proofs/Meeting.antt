-- Spans that have units in common, and claims.
use Rattle.std.proofs.Common.{◌≡◌, ℕ, zero, suc, ◌<◌, ◌≤◌, ◌⊎◌, inl, inr, Bool, true, false, not, ◌&&◌, List, [], ◌∷◌, ◌++◌, length, get_or, refl, sym, ap, ◌∙◌, arith, None, nat_lt, nat_le}
use Rattle.std.specs.Option.{is_none}
use Rattle.std.proofs.lemmas.Bool.{and_parts, and_cases, or_parts, not-true, ltb-true, leb-true, ltb-false}
use Rattle.std.proofs.lemmas.List.Elements.{All-nil, All-push}
use Rattle.std.proofs.lemmas.List.Quantifiers.{all_pairs_push}
use Rattle.lease_core.specs.Spans.{meets, meets_any, IsApart}
use Rattle.zk_model.specs.declared.Span.{Span}
use Rattle.claim_store.specs.Claims.{AreClaims, first_met, may_follow}

-- there is no first one exactly where none has a unit in common
pub none_met : (s : Span) (claims : List Span) → is_none (first_met s claims) ≡ not (meets_any s claims)
none_met s [] = refl
none_met s (c ∷ claims) = by_case (meets c s) refl (none_met s claims) where
  by_case : (b : Bool) → meets c s ≡ b → is_none (first_met s claims) ≡ not (meets_any s claims) → is_none (first_met s (c ∷ claims)) ≡ not (meets_any s (c ∷ claims))
  by_case true e more = rw e refl
  by_case false e more = rw e more

pub none_apart : (s : Span) (claims : List Span) → first_met s claims ≡ None → not (meets_any s claims) ≡ true
none_apart s claims none = sym (none_met s claims) ∙ ap is_none none

-- a span that meets none of these is apart from each
apart_from : (s : Span) (claims : List Span) → meets_any s claims ≡ false → (k : ℕ) (d : Span) → k < length claims → IsApart (get_or claims k d) s
apart_from s [] h k d l = absurd (omega arith)
apart_from s (c ∷ claims) h zero d l = apart (and_cases (nat_lt c.start s.end) (nat_lt s.start c.end) (or_parts (meets c s) (meets_any s claims) h).0) where
  apart : ((nat_lt c.start s.end ≡ false) ⊎ (nat_lt s.start c.end ≡ false)) → IsApart c s
  apart (inl e) = inr (ltb-false c.start s.end e)
  apart (inr e) = inl (ltb-false s.start c.end e)
apart_from s (c ∷ claims) h (suc k) d l = apart_from s claims (or_parts (meets c s) (meets_any s claims) h).1 k d (omega arith)

pub no_claims : (total : ℕ) → AreClaims total []
no_claims total = record {
  apart = λ i j d before inside. absurd (omega (arith, inside));
  within = All-nil (λ (s : Span). (s.start < s.end) × (s.end ≤ total));
}

-- a span may stand after claims that it does not meet
pub claims_more : (total : ℕ) (claims : List Span) (s : Span) → AreClaims total claims → s.start < s.end → s.end ≤ total → not (meets_any s claims) ≡ true
    → AreClaims total (claims ++ s ∷ [])
claims_more total claims s are some low free = record {
  apart = all_pairs_push IsApart claims s are.apart (apart_from s claims (not-true (meets_any s claims) free));
  within = All-push (λ (c : Span). (c.start < c.end) × (c.end ≤ total)) claims s are.within (some, low);
}

pub claims_follow : (total : ℕ) (claims : List Span) (s : Span) → AreClaims total claims → may_follow total claims s ≡ true → AreClaims total (claims ++ s ∷ [])
claims_follow total claims s are may =
    let all = and_parts (nat_lt s.start s.end && nat_le s.end total) (not (meets_any s claims)) may in
    let fits = and_parts (nat_lt s.start s.end) (nat_le s.end total) all.0 in
    claims_more total claims s are (ltb-true s.start s.end fits.0) (leb-true s.end total fits.1) all.1
