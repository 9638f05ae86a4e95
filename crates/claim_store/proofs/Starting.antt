-- What a store finds at its start.
use Rattle.std.proofs.Common.{◌≡◌, ◌<◌, ◌≤◌, ℕ, suc, List, [], ◌∷◌, length, get_or, Bool, true, false, not, ◌&&◌, All, Option, Some, None, IfSome, inl, inr, refl, ap, sym, ◌∙◌, subst, arith}
use Rattle.std.proofs.lemmas.Bool.{true≢false}
use Rattle.std.proofs.lemmas.Bool.Decides.{nat_tests}
use Rattle.std.proofs.lemmas.List.{get_or-map, length-map}
use Rattle.zk_port.specs.Disks.{DiskState}
use Rattle.zk_port.specs.Images.{Only}
use Rattle.claim_store.specs.ClaimedRanges.{AreMerged, RiseFrom, claim_of, claims_of}
use Rattle.zk_model.specs.declared.Span.{Span}
use Rattle.zk_model.specs.declared.JournalKind.TheVariants.{Claims}
use Rattle.lease_journal.specs.Journals.{AreSound, body_at, body_before, first_bodies, keeps_rule, last_body}
use Rattle.lease_journal.specs.Twins.{HoldsTwin, MayHaveGeneration, SaysTwin, area_at, claimed_units, twin_slots_at}
use Rattle.lease_core.specs.Spans.{IsApart, meets, meets_any, span}
use Rattle.lease_journal.specs.declared.fault.StartFault.{StartFault}
use Rattle.lease_journal.specs.declared.fault.StartFault.TheVariants as start
use Rattle.lease_journal.proofs.Scanning.{used_recovers}
use Rattle.twin_journal.specs.Starts.{FileCause, IsTwinOpened}
use Rattle.twin_journal.specs.States.{TwinState}
use Rattle.twin_journal.specs.States as twin
use Rattle.twin_journal.proofs.TwinLaws.{recovers_one, says_recovers, starts_again}
use Rattle.claim_store.specs.declared.fault.StoreFault.{StoreFault}
use Rattle.claim_store.specs.declared.fault.StoreFault.TheVariants as store
use Rattle.claim_store.specs.Claims.{AreClaims, IsStoreKept, SaysClaims, bodies_of, claim_at, first_claims}
use Rattle.claim_store.specs.Causes.{ClaimsStartAgain, IsFirstMeeting, ClaimReadCause, StoreCause}
use Rattle.claim_store.proofs.Slots.{claims_count, claims_get}

-- no image but the content, over calls that change neither
pub only_on : (content_old content_new : Option (List ℕ)) (images_old images_new : List ℕ → Type 0) → content_new ≡ content_old
    → ((c : List ℕ) → images_new c → images_old c) → Only content_old images_old → Only content_new images_new
only_on content_old content_new images_old images_new same fewer only = subst (λ o. Only o images_new) (sym same) (here content_old only) where
  here : (o : Option (List ℕ)) → Only o images_old → Only o images_new
  here None only = tt
  here (Some file) only = λ c left. only c (fewer c left)

-- the claims of the slots in use, as they were read
pub record AreRead (total at used generation : ℕ) (claims : List Span) (bytes : List ℕ) : Type 0 where
  pub may_have : MayHaveGeneration Claims (first_bodies at used bytes) generation
  pub sound : AreClaims total (first_claims at used bytes)
  pub merged : AreMerged (first_claims at used bytes) claims
  pub units : claimed_units Claims (first_bodies at used bytes) ≡ claimed_units Claims (bodies_of claims)

module _ {D : Type 0} (disk_state : D → DiskState) (old : TwinState D) (disk : D) (total : ℕ) (claims : List Span) where
  abbrev area : ℕ
  area = area_at old.begin old.slots old.second

  -- the journal is the same on another disk of the same content
  kept_on : (bodies : List (ℕ × ℕ)) (bytes : List ℕ) → twin.IsKept disk_state old bodies bytes → (disk_state disk).content ≡ Some bytes
      → twin.IsKept disk_state (record old { disk = disk; fault = 0 }) bodies bytes
  kept_on bodies bytes kept is = record {
    sound = refl;
    content = is;
    count = kept.count;
    area = kept.area;
    other_opened = kept.other_opened;
    other_closed = kept.other_closed;
  }

  pub begins_here : length claims ≤ old.used → AreClaims total claims → RiseFrom 0 claims
      → ((bytes : List ℕ) → (disk_state disk).content ≡ Some bytes → twin.IsKept disk_state old (first_bodies (area_at old.begin old.slots old.second) old.used bytes) bytes)
      → ((bytes : List ℕ) → (disk_state disk).content ≡ Some bytes
      → AreRead total (area_at old.begin old.slots old.second) old.used old.generation claims bytes)
      → Only (disk_state disk).content (disk_state disk).images
      → IsStoreKept disk_state (record old { disk = disk; fault = 0 }) total claims
  begins_here few sound rising kept read only = record {
    few = few;
    sound = sound;
    rising = rising;
    says = λ whole small bytes is.
        let r = read bytes is in
        record {
          bodies = first_bodies area old.used bytes;
          kept = kept_on (first_bodies area old.used bytes) bytes (kept bytes is) is;
          have = record { may_have = r.may_have; sound = r.sound; merged = r.merged; units = r.units };
        };
    only = λ whole. only;
    unsure = λ broken. absurd (broken refl);
  }

pub begins : {D : Type 0} (disk_state : D → DiskState) (old new : TwinState D) (total : ℕ) (claims : List Span)
    → new ≡ record old { disk = new.disk; fault = new.fault } → new.fault ≡ 0
    → length claims ≤ old.used → AreClaims total claims → RiseFrom 0 claims
    → ((bytes : List ℕ) → (disk_state new.disk).content ≡ Some bytes → twin.IsKept disk_state old (first_bodies (area_at old.begin old.slots old.second) old.used bytes) bytes)
    → ((bytes : List ℕ) → (disk_state new.disk).content ≡ Some bytes
    → AreRead total (area_at old.begin old.slots old.second) old.used old.generation claims bytes)
    → Only (disk_state new.disk).content (disk_state new.disk).images
    → IsStoreKept disk_state new total claims
begins {D} disk_state old new total claims state none few sound rising kept read only =
    let is : new ≡ record old { disk = new.disk; fault = 0 } = state ∙ ap (λ n. record old { disk = new.disk; fault = n }) none in
    subst (λ (j : TwinState D). IsStoreKept disk_state j total claims) (sym is)
    (begins_here disk_state old new.disk total claims few sound rising kept read only)

-- the bytes of a start say the claims that were read
pub says_read : {D : Type 0} (disk_state : D → DiskState) (journal : TwinState D) (total used : ℕ) (claims : List Span) (bytes : List ℕ)
    → twin.IsKept disk_state journal (first_bodies (area_at journal.begin journal.slots journal.second) used bytes) bytes
    → AreRead total (area_at journal.begin journal.slots journal.second) used journal.generation claims bytes
    → SaysClaims total journal.begin journal.slots claims bytes
says_read disk_state journal total used claims bytes kept read = record {
  generation = journal.generation;
  bodies = first_bodies (area_at journal.begin journal.slots journal.second) used bytes;
  says = record { second = journal.second; area = kept.area };
  may_have = read.may_have;
  sound = read.sound;
  merged = read.merged;
}

-- where the content says claims and no other image is left, they are durable
pub durable_at : (total begin slots : ℕ) (claims : List Span) (content : Option (List ℕ)) (images : List ℕ → Type 0)
    → ((bytes : List ℕ) → content ≡ Some bytes → SaysClaims total begin slots claims bytes) → Only content images
    → IfSome content (λ bytes. SaysClaims total begin slots claims bytes × ((image : List ℕ) → images image → SaysClaims total begin slots claims image))
durable_at total begin slots claims None images says only = tt
durable_at total begin slots claims (Some bytes) images says only =
    (says bytes refl, λ image left. subst (SaysClaims total begin slots claims) (sym (only image left)) (says bytes refl))

-- what is found in the slots of an open journal: its own rules are kept
meets_only : (kept meets : Bool) → kept ≡ true → (kept && not meets) ≡ false → meets ≡ true
meets_only true true keeps refused = refl
meets_only true false keeps refused = absurd (cc)
meets_only false meets keeps refused = absurd (cc)

module _ (id : List ℕ) (total begin slots used : ℕ) (last : ℕ × ℕ) (second : Bool) (generation : ℕ) (other_open : Bool) (bytes : List ℕ)
    (holds : HoldsTwin Claims id total begin slots bytes)
    (opened : IsTwinOpened Claims id total begin slots used last second generation other_open bytes) where
  first_meeting : (slot : ℕ) → slot < used → AreClaims total (first_claims (area_at begin slots second) slot bytes)
      → meets_any (claim_at (area_at begin slots second) bytes slot) (first_claims (area_at begin slots second) slot bytes) ≡ true
      → IsFirstMeeting id total bytes slot
  first_meeting slot inside before meet = record {
    begin = begin;
    slots = slots;
    holds = holds;
    second = second;
    active = opened.found.active;
    used = used;
    slots_used = opened.slots_used;
    sound = opened.sound;
    may_have = subst (MayHaveGeneration Claims (first_bodies (area_at begin slots second) used bytes)) (sym opened.found.generation_is) opened.may_have;
    inside = inside;
    before = before;
    meets = meet;
  }

  pub read_cause : (e : StoreFault) → ClaimReadCause total (area_at begin slots second) used bytes e → StoreCause id total bytes e
  read_cause store.NoMemory cause = tt
  read_cause (store.Journal start.Device) cause = tt
  read_cause (store.Journal (start.Short need got)) cause = absurd cause
  read_cause (store.Journal (start.BadHeader place)) cause = absurd cause
  read_cause (store.Journal (start.BadBody slot)) cause = inr (first_meeting slot cause.0 cause.1
      (meets_only (keeps_rule Claims total (last_body (area_at begin slots second) bytes slot).0 (body_at (area_at begin slots second) bytes slot))
      (meets_any (claim_at (area_at begin slots second) bytes slot) (first_claims (area_at begin slots second) slot bytes))
      (opened.sound slot cause.0) cause.2))

-- the journal's own reasons
pub own_cause : (id : List ℕ) (total : ℕ) (bytes : List ℕ) (fault : StartFault) → FileCause Claims id total bytes fault
    → StoreCause id total bytes (store.Journal fault)
own_cause id total bytes start.Device cause = tt
own_cause id total bytes (start.Short need got) cause = cause
own_cause id total bytes (start.BadHeader place) cause = cause
own_cause id total bytes (start.BadBody slot) cause = inl cause

-- claims that have no unit in common are not refused
pub not_met : (s : Span) (claims : List Span) → ((k : ℕ) (d : Span) → k < length claims → IsApart (get_or claims k d) s) → meets_any s claims ≡ false
not_met s [] apart = refl
not_met s (c ∷ claims) apart =
    let rest : meets_any s claims ≡ false = not_met s claims (λ k d below. apart (suc k) d (omega (arith, below))) in
    let first : meets c s ≡ false = one (apart 0 c (omega arith)) in
    rw (first, rest) refl
  where
    one : IsApart c s → meets c s ≡ false
    one (inl before) = grind (arith, nat_tests)
    one (inr behind) = grind (arith, nat_tests)

pub bodies_sound : (total : ℕ) (bodies : List (ℕ × ℕ)) → All (λ s. (s.start < s.end) × (s.end ≤ total)) (claims_of bodies) → AreSound Claims total bodies
bodies_sound total bodies within place below =
    let fits = within place (span 0 0) (omega (arith, below, length-map bodies claim_of)) in
    let is : get_or (claims_of bodies) place (span 0 0) ≡ claim_of (get_or bodies place (0, 0)) = get_or-map claim_of bodies place (0, 0) (span 0 0) below in
    let here = subst (λ (s : Span). (s.start < s.end) × (s.end ≤ total)) is fits in
    keeps_body total (body_before bodies place).0 (get_or bodies place (0, 0)) here.0 here.1
  where
    keeps_body : (total before : ℕ) (body : ℕ × ℕ) → body.0 < body.1 → body.1 ≤ total → keeps_rule Claims total before body ≡ true
    keeps_body total before body some low = grind (arith, nat_tests)

module _ (id : List ℕ) (total begin slots : ℕ) (claims : List Span) (bytes : List ℕ)
    (holds : HoldsTwin Claims id total begin slots bytes) (says : SaysClaims total begin slots claims bytes) where
  own : (fault : StartFault) → FileCause Claims id total bytes fault → fault ≡ start.Device
  own fault cause = starts_again Claims id total begin slots says.generation says.bodies bytes fault holds says.says
      (bodies_sound total says.bodies says.sound.within) says.may_have cause

  no_meeting : (slot : ℕ) → IsFirstMeeting id total bytes slot → ⊥
  no_meeting slot cause =
      let at : ℕ = area_at cause.begin cause.slots cause.second in
      let place : begin ≡ cause.begin = sym holds.begins ∙ cause.holds.begins in
      let count : slots ≡ cause.slots = sym holds.stands.says ∙ ap (λ n. twin_slots_at n bytes) place ∙ cause.holds.stands.says in
      let there : SaysTwin cause.begin cause.slots says.generation says.bodies bytes =
      subst (λ n. SaysTwin cause.begin n says.generation says.bodies bytes) count (subst (λ n. SaysTwin n slots says.generation says.bodies bytes) place says.says) in
      let bodies : says.bodies ≡ first_bodies at cause.used bytes =
      recovers_one cause.begin cause.slots bytes says.bodies (first_bodies at cause.used bytes)
      (says_recovers cause.begin cause.slots says.generation says.bodies bytes there).recovered
      (record { second = cause.second; active = cause.active; recovered = used_recovers at cause.slots cause.used bytes cause.slots_used }) in
      let all : AreClaims total (first_claims at cause.used bytes) = subst (λ l. AreClaims total (claims_of l)) bodies says.sound in
      let none : meets_any (claim_at at bytes slot) (first_claims at slot bytes) ≡ false =
      not_met (claim_at at bytes slot) (first_claims at slot bytes) (λ k d below.
      let inside : k < slot = omega (arith, below, claims_count at slot bytes) in
      let pair : IsApart (get_or (first_claims at cause.used bytes) k d) (get_or (first_claims at cause.used bytes) slot d) =
      all.apart k slot d inside (omega (arith, cause.inside, claims_count at cause.used bytes)) in
      subst (λ x. IsApart x (claim_at at bytes slot)) (claims_get at cause.used bytes k d (omega (arith, inside, cause.inside)) ∙ sym (claims_get at slot bytes k d inside))
      (subst (λ y. IsApart (get_or (first_claims at cause.used bytes) k d) y) (claims_get at cause.used bytes slot d cause.inside) pair)) in
      true≢false (sym cause.meets ∙ none)

pub claims_start_again : ClaimsStartAgain
claims_start_again id total begin slots claims bytes store.NoMemory holds says cause = inr refl
claims_start_again id total begin slots claims bytes (store.Journal start.Device) holds says cause = inl refl
claims_start_again id total begin slots claims bytes (store.Journal (start.Short need got)) holds says cause =
    inl (ap store.Journal (own id total begin slots claims bytes holds says (start.Short need got) cause))
claims_start_again id total begin slots claims bytes (store.Journal (start.BadHeader place)) holds says cause =
    inl (ap store.Journal (own id total begin slots claims bytes holds says (start.BadHeader place) cause))
claims_start_again id total begin slots claims bytes (store.Journal (start.BadBody slot)) holds says (inl cause) =
    inl (ap store.Journal (own id total begin slots claims bytes holds says (start.BadBody slot) cause))
claims_start_again id total begin slots claims bytes (store.Journal (start.BadBody slot)) holds says (inr cause) =
    absurd (no_meeting id total begin slots claims bytes holds says slot cause)
