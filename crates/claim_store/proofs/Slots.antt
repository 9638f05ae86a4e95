-- Claims and the bodies of slots.
use Rattle.std.proofs.Common.{◌≡◌, ℕ, ◌+◌, ◌-◌, List, [], ◌∷◌, ◌++◌, length, get_or, ◌<◌, refl, sym, ap, ◌∙◌, arith}
use Rattle.std.proofs.lemmas.List.{get_or-map, length-map, map-append}
use Rattle.std.proofs.lemmas.List.FromFn.{map-range_with_len_more}
use Rattle.std.proofs.lemmas.List.Sums.{sum_by-cons}
use Rattle.claim_store.specs.ClaimedRanges.{claim_of, claims_of, is_claimed}
use Rattle.lease_journal.specs.Journals.{body_at, first_bodies}
use Rattle.lease_journal.specs.Twins.{claimed_units}
use Rattle.zk_model.specs.declared.JournalKind.TheVariants.{Claims}
use Rattle.zk_model.specs.declared.Span.{Span}
use Rattle.lease_journal.proofs.Putting.{first-at, length-first}
use Rattle.twin_journal.proofs.TwinLaws.{recovers_one, says_recovers}
use Rattle.claim_store.specs.Claims.{BytesSayOneList, bodies_of, claim_at, first_claims}
use Rattle.claim_store.proofs.Joining.{units_of}
use Rattle.claim_store.proofs.Units.{ranges_one}

-- the claims of bodies
pub claims_back : (claims : List Span) → claims_of (bodies_of claims) ≡ claims
claims_back [] = refl
claims_back (claim ∷ claims) = ap (λ l. claim ∷ l) (claims_back claims)

pub claims_one_more : (bodies : List (ℕ × ℕ)) (s : Span) → claims_of (bodies ++ (s.start, s.end) ∷ []) ≡ claims_of bodies ++ s ∷ []
claims_one_more bodies s = map-append claim_of bodies ((s.start, s.end) ∷ [])

-- one slot more has one claim more
pub claims_next : (at used : ℕ) (bytes : List ℕ) → first_claims at (used + 1) bytes ≡ first_claims at used bytes ++ claim_at at bytes used ∷ []
claims_next at used bytes =
    ap claims_of (map-range_with_len_more (body_at at bytes) 0 used used (omega arith))
    ∙ map-append claim_of (first_bodies at used bytes) (body_at at bytes used ∷ [])

-- how many claims there are in the first slots, and which
pub claims_count : (at used : ℕ) (bytes : List ℕ) → length (first_claims at used bytes) ≡ used
claims_count at used bytes = length-map (first_bodies at used bytes) claim_of ∙ length-first at used bytes

pub claims_get : (at used : ℕ) (bytes : List ℕ) (slot : ℕ) (d : Span) → slot < used → get_or (first_claims at used bytes) slot d ≡ claim_at at bytes slot
claims_get at used bytes slot d inside =
    get_or-map claim_of (first_bodies at used bytes) slot (0, 0) d (omega (arith, inside, length-first at used bytes))
    ∙ ap claim_of (first-at at used bytes slot inside)

-- bodies have as many units as their claims
pub units_are : (claims : List Span) → claimed_units Claims (bodies_of claims) ≡ units_of claims
units_are [] = refl
units_are (claim ∷ claims) =
    sum_by-cons (λ (b : ℕ × ℕ). b.1 - b.0) (claim.start, claim.end) (bodies_of claims)
    ∙ ap (λ n. (claim.end - claim.start) + n) (units_are claims)
    ∙ sym (sum_by-cons (λ (s : Span). s.end - s.start) claim claims)

pub bytes_say_one_list : BytesSayOneList
bytes_say_one_list total begin slots bytes some others one other =
    let bodies : one.bodies ≡ other.bodies = recovers_one begin slots bytes one.bodies other.bodies
    (says_recovers begin slots one.generation one.bodies bytes one.says).recovered
    (says_recovers begin slots other.generation other.bodies bytes other.says).recovered in
    ranges_one 0 some others one.merged.rising other.merged.rising
    (λ unit. one.merged.same unit ∙ ap (λ l. is_claimed (claims_of l) unit) bodies ∙ sym (other.merged.same unit))
