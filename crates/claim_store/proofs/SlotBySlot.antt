-- Claims as they are read, slot after slot.
use Rattle.std.proofs.Common.{◌≡◌, ◌+◌, ◌-◌, ℕ, List, [], ◌∷◌, ◌++◌, Bool, true, false, not, ◌&&◌, nat_lt, nat_le, refl, ap, sym, ◌∙◌, subst, arith}
use Rattle.std.proofs.lemmas.Bool.{and_parts, leb-true, ltb-true, not-true}
use Rattle.std.proofs.lemmas.List.Sums.{sum_by_push}
use Rattle.claim_store.specs.ClaimedRanges.{AreMerged, RiseFrom}
use Rattle.lease_journal.specs.Journals.{body_at, first_bodies}
use Rattle.lease_journal.specs.Twins.{claimed_units}
use Rattle.zk_model.specs.declared.JournalKind.TheVariants.{Claims}
use Rattle.zk_model.specs.declared.Span.{Span}
use Rattle.lease_core.specs.Spans.{meets_any}
use Rattle.lease_journal.proofs.Putting.{first_more}
use Rattle.claim_store.specs.Claims.{AreClaims, bodies_of, claim_at, first_claims, may_follow}
use Rattle.claim_store.specs.Ranges.{with_span}
use Rattle.claim_store.proofs.Claiming.{MayStand}
use Rattle.claim_store.proofs.Joining.{merged_more, with_units_count}
use Rattle.claim_store.proofs.Meeting.{claims_more, no_claims}
use Rattle.claim_store.proofs.Slots.{claims_next, units_are}
use Rattle.claim_store.proofs.Units.{HaveUnits, rising_have_units, same_met}

-- these ranges are those of the claims in the first slots, and have as many units as their bodies
pub record AreReadTo (total at used : ℕ) (ranges : List Span) (bytes : List ℕ) : Type 0 where
  pub sound : AreClaims total (first_claims at used bytes)
  pub merged : AreMerged (first_claims at used bytes) ranges
  pub units : claimed_units Claims (first_bodies at used bytes) ≡ claimed_units Claims (bodies_of ranges)

pub none_read : (total at : ℕ) (bytes : List ℕ) → AreReadTo total at 0 [] bytes
none_read total at bytes = record {
  sound = no_claims total;
  merged = record { rising = tt; same = λ unit. refl };
  units = refl;
}

-- a span that may stand after these ranges
pub stands_after : (total : ℕ) (ranges : List Span) (s : Span) → may_follow total ranges s ≡ true → MayStand total ranges s
stands_after total ranges s may =
    let all = and_parts (nat_lt s.start s.end && nat_le s.end total) (not (meets_any s ranges)) may in
    let fits = and_parts (nat_lt s.start s.end) (nat_le s.end total) all.0 in
    record { some = ltb-true s.start s.end fits.0; low = leb-true s.end total fits.1; none = not-true (meets_any s ranges) all.1 }

-- it may stand after ranges where it may after their claims
pub follows_same : (total : ℕ) (claims ranges : List Span) (s : Span) → AreClaims total claims → AreMerged claims ranges
    → may_follow total claims s ≡ may_follow total ranges s
follows_same total claims ranges s are merged = by (nat_lt s.start s.end) refl where
  have_units : HaveUnits claims
  have_units k d below = (are.within k d below).0

  by : (b : Bool) → nat_lt s.start s.end ≡ b → may_follow total claims s ≡ may_follow total ranges s
  by true e =
      ap (λ t. (nat_lt s.start s.end && nat_le s.end total) && not t)
      (same_met s claims ranges (ltb-true s.start s.end e) have_units (rising_have_units 0 ranges merged.rising) (λ unit. sym (merged.same unit)))
  by false e = rw e refl

module _ (total at used : ℕ) (ranges : List Span) (bytes : List ℕ) (claim : Span) (read : AreReadTo total at used ranges bytes)
    (rising : RiseFrom 0 ranges) (may : may_follow total ranges claim ≡ true) (is : claim ≡ claim_at at bytes used) where
  stands : MayStand total ranges claim
  stands = stands_after total ranges claim may

  claims_are : first_claims at (used + 1) bytes ≡ first_claims at used bytes ++ claim ∷ []
  claims_are = claims_next at used bytes ∙ ap (λ s. first_claims at used bytes ++ s ∷ []) (sym is)

  one_more : AreClaims total (first_claims at used bytes ++ claim ∷ [])
  one_more =
      let follows = stands_after total (first_claims at used bytes) claim (follows_same total (first_claims at used bytes) ranges claim read.sound read.merged ∙ may) in
      claims_more total (first_claims at used bytes) claim read.sound follows.some follows.low (ap not follows.none)

  units_then : claimed_units Claims (first_bodies at (used + 1) bytes) ≡ claimed_units Claims (bodies_of (with_span claim ranges))
  units_then =
      let bodies = ap (claimed_units Claims) (first_more at used bytes) ∙ sum_by_push (λ (b : ℕ × ℕ). b.1 - b.0) (first_bodies at used bytes) (body_at at bytes used) in
      let size = ap (λ (s : Span). s.end - s.start) is in
      omega (arith, bodies, size, read.units, units_are ranges, units_are (with_span claim ranges), with_units_count claim ranges stands.some rising)

  pub one_read : AreReadTo total at (used + 1) (with_span claim ranges) bytes
  one_read = record {
    sound = subst (AreClaims total) (sym claims_are) one_more;
    merged = subst (λ l. AreMerged l (with_span claim ranges)) (sym claims_are)
        (merged_more (first_claims at used bytes) ranges claim read.merged stands.some stands.none);
    units = units_then;
  }
