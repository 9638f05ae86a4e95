-- What a claim makes of a store.
use Rattle.std.proofs.Common.{◌≡◌, ◌<◌, ◌≤◌, ◌+◌, ◌-◌, ◌^◌, ◌++◌, inl, inr, ℕ, List, [], ◌∷◌, length, nat_lt, Bool, true, false, not, Option, Some, None, IfSome, ⊎_elim, refl, ap, sym, ◌∙◌, subst, arith}
use Rattle.std.proofs.lemmas.Bool.{not-true}
use Rattle.std.proofs.lemmas.List.Sums.{sum_by_push}
use Rattle.zk_port.specs.Disks.{DiskState, LeavesOnly}
use Rattle.zk_port.specs.Images.{Only, StepsBy}
use Rattle.claim_store.specs.ClaimedRanges.{AreMerged, RiseFrom, claims_of}
use Rattle.lease_journal.specs.Twins as twins
use Rattle.lease_journal.specs.Twins.{MayHaveGeneration, SaysTwin, claimed_units}
use Rattle.zk_model.specs.declared.JournalKind.TheVariants.{Claims}
use Rattle.zk_model.specs.declared.Span.{Span}
use Rattle.lease_core.specs.Spans.{meets_any, span}
use Rattle.lease_journal.proofs.Moments.{leaves_also, started}
use Rattle.twin_journal.specs.States.{TwinState}
use Rattle.twin_journal.specs.States as twin
use Rattle.claim_store.specs.Claims.{AreClaims, AreDurable, AreKnown, ClaimState, HaveRanges, IsStoreKept, SaysClaims, SaysOldOrNewClaims, bodies_of, first_met, state_of}
use Rattle.claim_store.specs.Causes.{AreFewClaims, AreMore, IsFree}
use Rattle.claim_store.specs.Ranges.{with_span}
use Rattle.claim_store.specs.Writes.{next_bodies, next_generation, next_used}
use Rattle.claim_store.proofs.Joining.{few_units, merged_more, merged_self, units_of, with_length, with_units_count}
use Rattle.claim_store.proofs.Meeting.{claims_more, none_apart}
use Rattle.claim_store.proofs.Slots.{claims_back, claims_one_more, units_are}
use Rattle.claim_store.proofs.Units.{HaveUnits, merged_sound, rising_have_units, same_met}

-- a content that is known after a step was known before it
known_before : (step : List ℕ → List ℕ → Type 0) (old new : Option (List ℕ)) (bytes : List ℕ) → StepsBy step old new → new ≡ Some bytes → (was : List ℕ) × (old ≡ Some was)
known_before step None new bytes steps is = absurd (both (sym steps ∙ is))
  where
    both : ◌≡◌ {A = Option (List ℕ)} None (Some bytes) → ⊥
    both e = cc e
known_before step (Some was) new bytes steps is = (was, refl)

if_also : {P Q : List ℕ → Type 0} (o : Option (List ℕ)) → IfSome o P → ((bytes : List ℕ) → P bytes → Q bytes) → IfSome o Q
if_also None none wider = tt
if_also (Some bytes) p wider = wider bytes p

-- bodies that have these ranges say them
ranges_said : (total begin slots generation : ℕ) (claims : List Span) (bodies : List (ℕ × ℕ)) (bytes : List ℕ) → HaveRanges total claims generation bodies
    → SaysTwin begin slots generation bodies bytes → SaysClaims total begin slots claims bytes
ranges_said total begin slots generation claims bodies bytes have says =
    record { generation = generation; bodies = bodies; says = says; may_have = have.may_have; sound = have.sound; merged = have.merged }

-- what is known of the content says the claims
says_of : {D : Type 0} (disk_state : D → DiskState) (journal : TwinState D) (total : ℕ) (claims : List Span) (bytes : List ℕ)
    → AreKnown disk_state journal total claims bytes → SaysClaims total journal.begin journal.slots claims bytes
says_of disk_state journal total claims bytes known =
    ranges_said total journal.begin journal.slots journal.generation claims known.bodies bytes known.have (record { second = journal.second; area = known.kept.area })

-- what a store keeps says that its claims are durable
pub durable_of : {D : Type 0} (disk_state : D → DiskState) (journal : TwinState D) (total : ℕ) (claims : List Span) → IsStoreKept disk_state journal total claims
    → journal.fault ≡ 0 → total < 2 ^ 64 - 1 → AreDurable disk_state (state_of journal total claims)
durable_of {D} disk_state journal total claims kept whole small = told (disk_state journal.disk).content refl where
  told : (o : Option (List ℕ)) → (disk_state journal.disk).content ≡ o → IfSome o (λ bytes.
      SaysClaims total journal.begin journal.slots claims bytes
      × ((image : List ℕ) → (disk_state journal.disk).images image → SaysClaims total journal.begin journal.slots claims image))
  told None is = tt
  told (Some bytes) is =
      let here = says_of disk_state journal total claims bytes (kept.says whole small bytes is) in (
        here,
        λ image left. subst (SaysClaims total journal.begin journal.slots claims) (sym (subst (λ o. Only o (disk_state journal.disk).images) is (kept.only whole) image left)) here,
      )

-- a span against which nothing speaks
pub record MayStand (total : ℕ) (claims : List Span) (s : Span) : Type 0 where
  pub some : s.start < s.end
  pub low : s.end ≤ total
  pub none : meets_any s claims ≡ false

pub stand_free : (total start count : ℕ) (claims : List Span) → 1 ≤ count → start + count ≤ total → first_met (span start (start + count)) claims ≡ None
    → MayStand total claims (span start (start + count))
stand_free total start count claims any low none = record {
  some = omega (arith, any);
  low = low;
  none = not-true (meets_any (span start (start + count)) claims) (none_apart (span start (start + count)) claims none);
}

pub may_stand : {D : Type 0} (state : ClaimState D) (start count : ℕ) (s : Span) → s ≡ span start (start + count) → 1 ≤ count → IsFree state start count
    → MayStand state.total state.claims s
may_stand state start count s is any free =
    let P : Span → Type 0 = MayStand state.total state.claims in
    subst P (sym is) (stand_free state.total start count state.claims any free.within free.apart)

-- ---- the ranges of one span more

module _ (total : ℕ) (claims : List Span) (s : Span) (sound : AreClaims total claims) (rising : RiseFrom 0 claims) (may : MayStand total claims s) where
  pub with_merged : AreMerged (claims ++ s ∷ []) (with_span s claims)
  with_merged = merged_more claims claims s (merged_self claims rising) may.some may.none

  pub more_sound : AreClaims total (claims ++ s ∷ [])
  more_sound = claims_more total claims s sound may.some may.low (ap not may.none)

  pub with_sound : AreClaims total (with_span s claims)
  with_sound = merged_sound total (claims ++ s ∷ []) (with_span s claims) more_sound with_merged

  pub more_of : (slots : ℕ) → slots < length (with_span s claims) → AreMore slots claims s
  more_of slots more = record { ranges = with_span s claims; merged = with_merged; more = more }

  pub few_of : (slots : ℕ) → length (with_span s claims) ≤ slots → AreFewClaims slots claims s
  few_of slots few = record { ranges = with_span s claims; merged = with_merged; few = few }

  -- how many units there are then
  units_with : units_of (with_span s claims) ≡ (s.end - s.start) + units_of claims
  units_with = with_units_count s claims may.some rising

  units_fit : units_of (with_span s claims) ≤ total
  units_fit = omega (arith, few_units 0 total (with_span s claims) with_merged.rising with_sound.within)

  module _ (generation : ℕ) (bodies : List (ℕ × ℕ)) (have : HaveRanges total claims generation bodies) where
    pub generation_fits : total < 2 ^ 64 - 1 → generation + 1 < 2 ^ 64
    generation_fits small = omega (arith, small, have.may_have.most, have.units, units_are claims, units_with, units_fit, may.some)

    pub bodies_apart : meets_any s (claims_of bodies) ≡ false
    bodies_apart =
        let have_units : HaveUnits (claims_of bodies) = λ k d below. (have.sound.within k d below).0 in
        same_met s (claims_of bodies) claims may.some have_units (rising_have_units 0 claims rising) (λ unit. sym (have.merged.same unit))
        ∙ may.none

    -- one body more
    put_units : claimed_units Claims (bodies ++ (s.start, s.end) ∷ []) ≡ claimed_units Claims (bodies_of (with_span s claims))
    put_units = omega (arith, sum_by_push (λ (b : ℕ × ℕ). b.1 - b.0) bodies (s.start, s.end), have.units, units_are claims, units_with, units_are (with_span s claims))

    have_put : HaveRanges total (with_span s claims) generation (bodies ++ (s.start, s.end) ∷ [])
    have_put = record {
      may_have = record {
        least = have.may_have.least;
        most = omega (arith, have.may_have.most, sum_by_push (λ (b : ℕ × ℕ). b.1 - b.0) bodies (s.start, s.end));
      };
      sound = subst (AreClaims total) (sym (claims_one_more bodies s))
          (claims_more total (claims_of bodies) s have.sound may.some may.low (ap not bodies_apart));
      merged = subst (λ l. AreMerged l (with_span s claims)) (sym (claims_one_more bodies s))
          (merged_more (claims_of bodies) claims s have.merged may.some may.none);
      units = put_units;
    }

    -- the ranges in place of all bodies
    have_ranges : HaveRanges total (with_span s claims) (generation + 1) (bodies_of (with_span s claims))
    have_ranges = record {
      may_have = record {
        least = omega arith;
        most = omega (arith, have.may_have.most, have.units, units_are claims, units_with, units_are (with_span s claims), may.some);
      };
      sound = subst (AreClaims total) (sym (claims_back (with_span s claims))) with_sound;
      merged = subst (λ l. AreMerged l (with_span s claims)) (sym (claims_back (with_span s claims))) (merged_self (with_span s claims) with_merged.rising);
      units = refl;
    }

    pub have_next : (used slots : ℕ) → HaveRanges total (with_span s claims) (next_generation used slots generation) (next_bodies used slots bodies s (with_span s claims))
    have_next used slots = by (nat_lt used slots) refl where
      by : (b : Bool) → nat_lt used slots ≡ b → HaveRanges total (with_span s claims) (next_generation used slots generation) (next_bodies used slots bodies s (with_span s claims))
      by true e = rw e have_put
      by false e = rw e have_ranges

    -- what the journal says while the span is written
    pub old_or_new : (begin slots used : ℕ) (image : List ℕ)
        → twins.SaysOldOrNew begin slots generation bodies (next_generation used slots generation) (next_bodies used slots bodies s (with_span s claims)) image
        → SaysOldOrNewClaims total begin slots claims s image
    old_or_new begin slots used image one = ⊎_elim
        (λ says. inl (ranges_said total begin slots generation claims bodies image have says))
        (λ says. inr (record {
          ranges = with_span s claims;
          merged = with_merged;
          says = ranges_said total begin slots (next_generation used slots generation) (with_span s claims) (next_bodies used slots bodies s (with_span s claims)) image
              (have_next used slots) says;
        }))
        one.says

-- ---- the store

module _ {D : Type 0} (disk_state : D → DiskState) (journal : TwinState D) (total : ℕ) (claims : List Span) (kept : IsStoreKept disk_state journal total claims) where
  -- with no call of the disk the claims are read
  pub reads_still : (s : Span) → journal.fault ≡ 0 → total < 2 ^ 64 - 1 → (bytes : List ℕ) → (disk_state journal.disk).content ≡ Some bytes
      → IfSome (disk_state journal.disk).content (SaysOldOrNewClaims total journal.begin journal.slots claims s)
  reads_still s whole small bytes is =
      subst (λ o. IfSome o (SaysOldOrNewClaims total journal.begin journal.slots claims s)) (sym is)
      (inl (says_of disk_state journal total claims bytes (kept.says whole small bytes is)))

  -- with no call of the disk nothing else is left
  pub still : (s : Span) → ((c : List ℕ) → (disk_state journal.disk).images_since (disk_state journal.disk).moment c → (disk_state journal.disk).images c)
      → journal.fault ≡ 0 → total < 2 ^ 64 - 1 → (bytes : List ℕ) → (disk_state journal.disk).content ≡ Some bytes
      → LeavesOnly (disk_state journal.disk) (disk_state journal.disk) (SaysOldOrNewClaims total journal.begin journal.slots claims s)
  still s only_now whole small bytes is = started (disk_state journal.disk) (λ image left.
      let durable = subst (λ o. IfSome o (λ file. SaysClaims total journal.begin journal.slots claims file
      × ((c : List ℕ) → (disk_state journal.disk).images c → SaysClaims total journal.begin journal.slots claims c))) is
      (durable_of disk_state journal total claims kept whole small) in
      inl (durable.1 image (only_now image left)))

  module _ (s : Span) (may : MayStand total claims s) (whole : journal.fault ≡ 0) (new : TwinState D)
      (begins : new.begin ≡ journal.begin) (slots_are : new.slots ≡ journal.slots) where
    -- what a write of the span says of the bodies, where these are the ranges with it
    abbrev pub Says : List Span → List (ℕ × ℕ) → List ℕ → Type 0
    Says ranges bodies image = twins.SaysOldOrNew journal.begin journal.slots journal.generation bodies
        (next_generation journal.used journal.slots journal.generation) (next_bodies journal.used journal.slots bodies s ranges) image

    abbrev pub AnyMoment : List Span → Type 0
    AnyMoment ranges = (bytes : List ℕ) (bodies : List (ℕ × ℕ)) → twin.IsKept disk_state journal bodies bytes → journal.generation + 1 < 2 ^ 64
        → LeavesOnly (disk_state journal.disk) (disk_state new.disk) (Says ranges bodies)

    abbrev pub Read : List Span → Type 0
    Read ranges = (bytes : List ℕ) (bodies : List (ℕ × ℕ)) → twin.IsKept disk_state journal bodies bytes → journal.generation + 1 < 2 ^ 64
        → IfSome (disk_state new.disk).content (Says ranges bodies)

    abbrev pub Recovered : List Span → Type 0
    Recovered ranges = (bytes : List ℕ) (bodies : List (ℕ × ℕ)) → twin.IsKept disk_state journal bodies bytes → journal.generation + 1 < 2 ^ 64
        → IfSome (disk_state new.disk).content (twin.IsKept disk_state new (next_bodies journal.used journal.slots bodies s ranges))

    abbrev pub Turned : Type 0
    Turned = journal.generation + 1 < 2 ^ 64 → new.generation ≡ next_generation journal.used journal.slots journal.generation

    module _ (small : total < 2 ^ 64 - 1) (bytes : List ℕ) (is : (disk_state journal.disk).content ≡ Some bytes) where
      known : AreKnown disk_state journal total claims bytes
      known = kept.says whole small bytes is

      fits : journal.generation + 1 < 2 ^ 64
      fits = generation_fits total claims s kept.sound kept.rising may journal.generation known.bodies known.have small

      claims_then : (image : List ℕ) → Says (with_span s claims) known.bodies image → SaysOldOrNewClaims total journal.begin journal.slots claims s image
      claims_then image one =
          old_or_new total claims s kept.sound kept.rising may journal.generation known.bodies known.have journal.begin journal.slots journal.used image one

      leaves_here : AnyMoment (with_span s claims) → LeavesOnly (disk_state journal.disk) (disk_state new.disk) (SaysOldOrNewClaims total journal.begin journal.slots claims s)
      leaves_here write = leaves_also {Q = SaysOldOrNewClaims total journal.begin journal.slots claims s} (write bytes known.bodies known.kept fits) claims_then

      reads_here : Read (with_span s claims) → IfSome (disk_state new.disk).content (SaysOldOrNewClaims total journal.begin journal.slots claims s)
      reads_here write = if_also {Q = SaysOldOrNewClaims total journal.begin journal.slots claims s} (disk_state new.disk).content (write bytes known.bodies known.kept fits) claims_then

      now_known : (now : List ℕ) → (disk_state new.disk).content ≡ Some now → Recovered (with_span s claims) → Turned
          → AreKnown disk_state new total (with_span s claims) now
      now_known now there recovered generation = record {
        bodies = next_bodies journal.used journal.slots known.bodies s (with_span s claims);
        kept = subst (λ o. IfSome o (twin.IsKept disk_state new (next_bodies journal.used journal.slots known.bodies s (with_span s claims)))) there
            (recovered bytes known.bodies known.kept fits);
        have = subst (λ n. HaveRanges total (with_span s claims) n (next_bodies journal.used journal.slots known.bodies s (with_span s claims))) (sym (generation fits))
            (have_next total claims s kept.sound kept.rising may journal.generation known.bodies known.have journal.used journal.slots);
      }

    pub leaves : (ranges : List Span) → ranges ≡ with_span s claims → AnyMoment ranges → total < 2 ^ 64 - 1 → (bytes : List ℕ) → (disk_state journal.disk).content ≡ Some bytes
        → LeavesOnly (disk_state journal.disk) (disk_state new.disk) (SaysOldOrNewClaims total journal.begin journal.slots claims s)
    leaves ranges are write small bytes is = leaves_here small bytes is (subst AnyMoment are write)

    pub reads : (ranges : List Span) → ranges ≡ with_span s claims → Read ranges → total < 2 ^ 64 - 1 → (bytes : List ℕ) → (disk_state journal.disk).content ≡ Some bytes
        → IfSome (disk_state new.disk).content (SaysOldOrNewClaims total journal.begin journal.slots claims s)
    reads ranges are read small bytes is = reads_here small bytes is (subst Read are read)

    module _ (step : List ℕ → List ℕ → Type 0) (steps : StepsBy step (disk_state journal.disk).content (disk_state new.disk).content) where
      claimed_here : Recovered (with_span s claims) → Turned → new.used ≡ next_used journal.used journal.slots (with_span s claims)
          → new.fault ≡ 0 → Only (disk_state new.disk).content (disk_state new.disk).images
          → IsStoreKept disk_state new total (with_span s claims)
      claimed_here recovered generation used none only = record {
        few = enough (nat_lt journal.used journal.slots) refl;
        sound = with_sound total claims s kept.sound kept.rising may;
        rising = (with_merged total claims s kept.sound kept.rising may).rising;
        says = λ free small now there.
            let was = known_before step (disk_state journal.disk).content (disk_state new.disk).content now steps there in
            now_known small was.0 was.1 now there recovered generation;
        only = λ free. only;
        unsure = λ broken. absurd (broken none);
      }
        where
          enough : (b : Bool) → nat_lt journal.used journal.slots ≡ b → length (with_span s claims) ≤ new.used
          enough true e = rw (used, e) (omega (arith, with_length s claims, kept.few))
          enough false e = rw (used, e) (omega arith)

      pub claimed : (ranges : List Span) → ranges ≡ with_span s claims → Recovered ranges → Turned → new.used ≡ next_used journal.used journal.slots ranges
          → new.fault ≡ 0 → Only (disk_state new.disk).content (disk_state new.disk).images
          → IsStoreKept disk_state new total ranges
      claimed ranges are recovered generation used none only =
          subst (IsStoreKept disk_state new total) (sym are)
          (claimed_here (subst Recovered are recovered) generation (subst (λ r. new.used ≡ next_used journal.used journal.slots r) are used) none only)

      pub refused : (ranges : List Span) → ranges ≡ with_span s claims → 0 < new.fault → new.used ≡ journal.used → AnyMoment ranges → Read ranges
          → ((t : ℕ) (c : List ℕ) → t ≤ (disk_state new.disk).moment → (disk_state new.disk).images c → (disk_state new.disk).images_since t c)
          → IsStoreKept disk_state new total claims
      refused ranges are marked used_are write read counts = record {
        few = omega (arith, kept.few, used_are);
        sound = kept.sound;
        rising = kept.rising;
        says = λ free. absurd (omega (arith, free, marked));
        only = λ free. absurd (omega (arith, free, marked));
        unsure = λ broken small now there.
            let was = known_before step (disk_state journal.disk).content (disk_state new.disk).content now steps there in
            let left = leaves ranges are write small was.0 was.1 in
            let told = subst (λ o. IfSome o (SaysOldOrNewClaims total journal.begin journal.slots claims s)) there (reads ranges are read small was.0 was.1) in
            record {
              under_way = s;
              sound = more_sound total claims s kept.sound kept.rising may;
              read = moved now told;
              each = λ image here. moved image (left.each image (counts (disk_state journal.disk).moment image left.later here));
            };
      }
        where
          moved : (image : List ℕ) → SaysOldOrNewClaims total journal.begin journal.slots claims s image → SaysOldOrNewClaims total new.begin new.slots claims s image
          moved image one = subst (λ n. SaysOldOrNewClaims total n new.slots claims s image) (sym begins)
              (subst (λ n. SaysOldOrNewClaims total journal.begin n claims s image) (sym slots_are) one)
