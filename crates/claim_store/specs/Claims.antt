-- Claims of units, and what a disk keeps of them.
use Rattle.std.specs.Prelude.{◌≡◌, ◌≢◌, ◌⊎◌, ℕ, ◌-◌, ◌<◌, ◌≤◌, ◌^◌, List, [], ◌∷◌, ◌++◌, length, map, Option, Some, IfSome, Bool, not, ◌&&◌, nat_lt, nat_le, All, refl}
use Rattle.std.specs.List.{find}
use Rattle.std.specs.Coded.{Coded, code_by, coded×, coded_ℕ, coded_list}
use Rattle.zk_port.specs.Disks.{DiskState}
use Rattle.zk_port.specs.Images.{Only}
use Rattle.claim_store.specs.ClaimedRanges.{AreMerged, RiseFrom, claim_of, claims_of}
use Rattle.lease_journal.specs.Journals.{AreUsed, body_at, first_bodies}
use Rattle.lease_journal.specs.Twins.{IsActive, MayHaveGeneration, SaysTwin, area_at, claimed_units}
use Rattle.zk_model.specs.declared.JournalKind.TheVariants.{Claims}
use Rattle.zk_model.specs.declared.Span.{Span}
use Rattle.lease_core.specs.Spans.{meets, meets_any, AreApart}
use Rattle.twin_journal.specs.States.{TwinState}
use Rattle.twin_journal.specs.States as twin

-- A store of claims: its disk, where on it the journal begins, how many units there are, how many slots an area has and are in use, the
-- disk's count of faults at the first call of it that failed, or 0, and the merged ranges of the claims
pub record ClaimState (D : Type 0) : Type 0 where
  pub disk : D
  pub begin : ℕ
  pub total : ℕ
  pub slots : ℕ
  pub used : ℕ
  pub fault : ℕ
  pub claims : List Span

-- the store over an open journal
abbrev pub state_of : {D : Type 0} → TwinState D → ℕ → List Span → ClaimState D
state_of journal total claims = record {
  disk = journal.disk;
  begin = journal.begin;
  total = total;
  slots = journal.slots;
  used = journal.used;
  fault = journal.fault;
  claims = claims;
}

-- a span is stored as the pair of its ends
abbrev pub span_code : Coded Span
span_code = code_by (ℕ × ℕ) (coded× coded_ℕ coded_ℕ) (λ s. (s.start, s.end)) (λ p. record { start = p.0; end = p.1 }) (λ _. refl)

abbrev pub claim_state_code : {D : Type 0} → Coded D → Coded (ClaimState D)
claim_state_code {D} disk =
    code_by (D × (ℕ × (ℕ × (ℕ × (ℕ × (ℕ × List Span))))))
    (coded× disk (coded× coded_ℕ (coded× coded_ℕ (coded× coded_ℕ (coded× coded_ℕ (coded× coded_ℕ (coded_list span_code)))))))
    (λ s. (s.disk, (s.begin, (s.total, (s.slots, (s.used, (s.fault, s.claims)))))))
    (λ p. record {
      disk = p.0;
      begin = p.1.0;
      total = p.1.1.0;
      slots = p.1.1.1.0;
      used = p.1.1.1.1.0;
      fault = p.1.1.1.1.1.0;
      claims = p.1.1.1.1.1.1;
    })
    (λ _. refl)

-- ---- claims

-- no two have a unit in common; each has a unit, and ends at or below the total
pub record AreClaims (total : ℕ) (claims : List Span) : Type 0 where
  pub apart : AreApart claims
  pub within : All (λ s. (s.start < s.end) × (s.end ≤ total)) claims

-- the first of these that has a unit in common with the span: of ranges that rise the one of least start
abbrev pub first_met : Span → List Span → Option Span
first_met s claims = find (λ c. meets c s) claims

-- whether the span may stand after these claims
abbrev pub may_follow : ℕ → List Span → Span → Bool
may_follow total claims s = (nat_lt s.start s.end && nat_le s.end total) && not (meets_any s claims)

-- ---- slots

-- the bodies of slots that have these claims
abbrev pub bodies_of : List Span → List (ℕ × ℕ)
bodies_of claims = map (λ s. (s.start, s.end)) claims

-- the claim in a slot of an area, and those in its first slots
abbrev pub claim_at : ℕ → List ℕ → ℕ → Span
claim_at at bytes slot = claim_of (body_at at bytes slot)

abbrev pub first_claims : ℕ → ℕ → List ℕ → List Span
first_claims at used bytes = claims_of (first_bodies at used bytes)

-- so many slots of the active area are in use
pub record AreInUse (begin slots used : ℕ) (bytes : List ℕ) : Type 0 where
  pub second : Bool
  pub active : IsActive begin slots bytes second
  pub are : AreUsed (area_at begin slots second) slots used bytes

-- The journal that begins at a place of these bytes says these ranges: they are those of its bodies, which are claims, and its generation is
-- one that there may be for them. In its active area no slot after one that is not open is open.
pub record SaysClaims (total begin slots : ℕ) (claims : List Span) (bytes : List ℕ) : Type 0 where
  pub generation : ℕ
  pub bodies : List (ℕ × ℕ)
  pub says : SaysTwin begin slots generation bodies bytes
  pub may_have : MayHaveGeneration Claims bodies generation
  pub sound : AreClaims total (claims_of bodies)
  pub merged : AreMerged (claims_of bodies) claims

-- it says the ranges of these and of one span more
pub record SaysMore (total begin slots : ℕ) (claims : List Span) (s : Span) (bytes : List ℕ) : Type 0 where
  pub ranges : List Span
  pub merged : AreMerged (claims ++ s ∷ []) ranges
  pub says : SaysClaims total begin slots ranges bytes

-- it says these, or those of these and of one span more
abbrev pub SaysOldOrNewClaims : ℕ → ℕ → ℕ → List Span → Span → List ℕ → Type 0
SaysOldOrNewClaims total begin slots claims s bytes = SaysClaims total begin slots claims bytes ⊎ SaysMore total begin slots claims s bytes

-- ---- disks

-- where the disk tells its content, that and every image says these claims
abbrev pub AreDurable : {D : Type 0} → (D → DiskState) → ClaimState D → Type 0
AreDurable disk_state state = IfSome (disk_state state.disk).content (λ bytes.
    SaysClaims state.total state.begin state.slots state.claims bytes
    × ((image : List ℕ) → (disk_state state.disk).images image → SaysClaims state.total state.begin state.slots state.claims image))

-- the content, which is these bytes, and every image says these claims, or those of these and of one span more, which is the same for all
-- and may stand after them
pub record AreUnsure {D : Type 0} (disk_state : D → DiskState) (state : ClaimState D) (bytes : List ℕ) : Type 0 where
  pub under_way : Span
  pub sound : AreClaims state.total (state.claims ++ under_way ∷ [])
  pub read : SaysOldOrNewClaims state.total state.begin state.slots state.claims under_way bytes
  pub each : (image : List ℕ) → (disk_state state.disk).images image
      → SaysOldOrNewClaims state.total state.begin state.slots state.claims under_way image

-- the bodies of a journal have these ranges, and as many units; their generation is one that there may be for them
pub record HaveRanges (total : ℕ) (claims : List Span) (generation : ℕ) (bodies : List (ℕ × ℕ)) : Type 0 where
  pub may_have : MayHaveGeneration Claims bodies generation
  pub sound : AreClaims total (claims_of bodies)
  pub merged : AreMerged (claims_of bodies) claims
  pub units : claimed_units Claims bodies ≡ claimed_units Claims (bodies_of claims)

-- what a store knows of these bytes, which are the content
pub record AreKnown {D : Type 0} (disk_state : D → DiskState) (journal : TwinState D) (total : ℕ) (claims : List Span) (bytes : List ℕ) : Type 0 where
  pub bodies : List (ℕ × ℕ)
  pub kept : twin.IsKept disk_state journal bodies bytes
  pub have : HaveRanges total claims journal.generation bodies

-- What a store keeps. Of the bytes it knows nothing where there may be as many generations as their number has room for.
pub record IsStoreKept {D : Type 0} (disk_state : D → DiskState) (journal : TwinState D) (total : ℕ) (claims : List Span) : Type 0 where
  pub few : length claims ≤ journal.used
  pub sound : AreClaims total claims
  pub rising : RiseFrom 0 claims
  pub says : journal.fault ≡ 0 → total < 2 ^ 64 - 1 → (bytes : List ℕ) → (disk_state journal.disk).content ≡ Some bytes
      → AreKnown disk_state journal total claims bytes
  pub only : journal.fault ≡ 0 → Only (disk_state journal.disk).content (disk_state journal.disk).images
  pub unsure : journal.fault ≢ 0 → total < 2 ^ 64 - 1 → (bytes : List ℕ) → (disk_state journal.disk).content ≡ Some bytes
      → AreUnsure disk_state (state_of journal total claims) bytes

-- bytes say one list of claims, so that a start on them finds that list
abbrev pub BytesSayOneList : Type 0
BytesSayOneList =
    (total begin slots : ℕ) (bytes : List ℕ) (some others : List Span)
    → SaysClaims total begin slots some bytes → SaysClaims total begin slots others bytes → some ≡ others
