-- A journal of claims that was opened, and added to as its claimant says.
use Rattle.std.proofs.Common.{◌≡◌, ◌⊎◌, ◌+◌, ◌-◌, ◌^◌, ◌<◌, ◌≤◌, ◌++◌, ◌∷◌, [], ℕ, List, Option, None, Some, Result, Ok, Err, IsSomeAnd, IfSome, refl, sym, ap, ◌∙◌, subst, inl, inr, arith}
use Rattle.std.specs.Prelude.{MatchOption}
use Rattle.claim_store.specs.ClaimedRanges.{AreMerged, RiseFrom}
use Rattle.lease_journal.specs.Twins.{HoldsTwin}
use Rattle.zk_model.specs.declared.JournalKind.TheVariants as kind
use Rattle.zk_model.specs.declared.Span.{Span}
use Rattle.zk_port.specs.Counts.{Rose}
use Rattle.zk_port.specs.Disks.{Choice, DiskState, LeavesOnly}
use Rattle.zk_port.specs.Images.{Only, StepsBy}
use Rattle.zk_port.specs.Logs.{appended}
use Rattle.lease_core.specs.Spans.{span}
use Rattle.lease_journal.proofs.Moments.{leaves_also, leaves_both}
use Rattle.claim_store.specs.Claims.{ClaimState, AreClaims, AreDurable, AreInUse, SaysClaims, SaysOldOrNewClaims, first_met}
use Rattle.claim_store.proofs.Meeting.{claims_more, none_apart}
use Rattle.claim_store.specs.declared.ClaimFault.{ClaimFault}
use Rattle.claim_store.specs.declared.ClaimFault.TheVariants.{Broken, OutOfRange, Overlap, Full, Device, NoMemory}
use Rattle.session_prover.specs.Stores.{StoreClaims}
use Rattle.file_commands.specs.ClaimedUnits.{AllHave, AnswersClaim, FindsClaims, FindsMore, KeepsClaims, LeavesAll, LeavesClaims, MayFind, MovesBy, MovesClaims, JournalPlace}
use Rattle.file_commands.specs.Journals.{OpensJournal, disk_change}

-- free units stand after the claims
free_follow : (total : ℕ) (claims : List Span) (start count : ℕ) (claimed : Span) → claimed ≡ span start (start + count) → start + count ≤ total
    → first_met (span start (start + count)) claims ≡ None → AreClaims total claims → start < start + count → AreClaims total (claims ++ claimed ∷ [])
free_follow total claims start count claimed is low apart sound some =
    subst (λ s. AreClaims total (claims ++ s ∷ [])) (sym is) (claims_more total claims (span start (start + count)) sound some low (none_apart (span start (start + count)) claims apart))

some_of : {X : Type 0} (o : Option X) (x : X) (P : X → Type 0) → o ≡ Some x → IfSome o P → P x
some_of None x P is if = cc
some_of (Some y) x P is if = subst P (cc) if

-- where the content was told, it is still
goes_on : (step : List ℕ → List ℕ → Type 0) (old new : Option (List ℕ)) (first : List ℕ) → old ≡ Some first → StepsBy step old new
    → (bytes : List ℕ) × (new ≡ Some bytes)
goes_on step None new first known steps = cc
goes_on step (Some old) None first known steps = absurd steps
goes_on step (Some old) (Some bytes) first known steps = (bytes, refl)

some_and : {X : Type 0} (o : Option X) (x : X) (P : X → Type 0) → o ≡ Some x → P x → IsSomeAnd o P
some_and o x P is has = subst (λ (p : Option _). IsSomeAnd p P) (sym is) has

-- who claims from a store moves it, whatever else it holds
pub by_store : {C D : Type 0} (store_of : C → ClaimState D) (disk_state : D → DiskState) (before after : C) (store later : ClaimState D)
    (asked : Option (ℕ × ℕ)) (answer : Option (Result Span ClaimFault)) → store_of before ≡ store → later ≡ store_of after
    → MatchOption answer (after ≡ before) (λ a. IsSomeAnd asked (λ units. StoreClaims disk_state (store_of before) units.0 units.1 a (store_of after)))
    → MatchOption answer (later ≡ store) (λ a. IsSomeAnd asked (λ units. StoreClaims disk_state store units.0 units.1 a later))
by_store store_of disk_state before after store later asked None from to same = to ∙ ap store_of same ∙ from
by_store {C} {D} store_of disk_state before after store later asked (Some answer) from to moved =
    subst (λ (p : ClaimState D × ClaimState D). IsSomeAnd asked (λ units. StoreClaims disk_state p.0 units.0 units.1 answer p.1))
    (λ i. (from i, sym to i)) moved

-- where a store's journal is
abbrev pub place_of : {D : Type 0} → ClaimState D → JournalPlace
place_of store = record { begin = store.begin; slots = store.slots }

module _ {D : Type 0} (disk_state : D → DiskState) (old : DiskState) (store : ClaimState D) (choice : Choice) (id : List ℕ) (total : ℕ)
    (only_now : (image : List ℕ) → old.images_since old.moment image → old.images image)
    (opens : OpensJournal choice (disk_change old (disk_state store.disk)))
    (holds : (bytes : List ℕ) → old.content ≡ Some bytes → HoldsTwin kind.Claims id total store.begin store.slots bytes)
    (says : (bytes : List ℕ) → old.content ≡ Some bytes → SaysClaims total store.begin store.slots store.claims bytes)
    (only : Only (disk_state store.disk).content (disk_state store.disk).images) where
  abbrev mid : DiskState
  mid = disk_state store.disk

  known_mid : (first : List ℕ) → old.content ≡ Some first → mid.content ≡ Some first
  known_mid first known = opens.stays.content ∙ known

  finds_first : (first : List ℕ) → old.content ≡ Some first → FindsClaims id total (place_of store) store.claims first
  finds_first first known = record { holds = holds first known; says = says first known }

  image_is : (first : List ℕ) → old.content ≡ Some first → (image : List ℕ) → mid.images image → image ≡ first
  image_is first known = some_of mid.content first (λ file. (c : List ℕ) → mid.images c → c ≡ file) (known_mid first known) only

  all_first : (first : List ℕ) → old.content ≡ Some first → AllHave (FindsClaims id total (place_of store) store.claims) mid
  all_first first known = record {
    read = some_and mid.content first (FindsClaims id total (place_of store) store.claims) (known_mid first known) (finds_first first known);
    durable = λ image some. subst (FindsClaims id total (place_of store) store.claims) (sym (image_is first known image some)) (finds_first first known);
  }

  -- a moment before the journal was opened, or this one
  moment_of : (t : ℕ) (image : List ℕ) → t ≤ old.moment → mid.images_since t image → old.images_since t image ⊎ old.images image
  moment_of t image earlier since = elim (opens.stays.time.nothing_else t image earlier since) [
    | inl was ↦ inl was
    | inr now ↦ inr (opens.stays.crash image now)
  ]

  now_of : (image : List ℕ) → mid.images_since old.moment image → old.images image
  now_of image since = elim (moment_of old.moment image (omega arith) since) [ inl was ↦ only_now image was | inr now ↦ now ]

  leaves_all : LeavesAll id total (place_of store) store.claims (disk_change old mid)
  leaves_all = record {
    left = all_first;
    any_moment = record {
      later = opens.stays.time.later;
      each = now_of;
      before = moment_of;
    };
    still = opens.still;
  }

  -- what a crash leaves since then, since before
  leaves_since : (P : List ℕ → Type 0) (new : DiskState) → LeavesOnly mid new P → LeavesOnly old new (λ image. old.images image ⊎ P image)
  leaves_since P new leaves =
      let later = opens.stays.time.later in
      let more = leaves.later in
      record {
        later = omega (arith, later, more);
        each = λ image since. elim (leaves.before old.moment image later since) [
          | inl was ↦ inl (now_of image was)
          | inr has ↦ inr has
        ];
        before = λ t image earlier since. elim (leaves.before t image (omega (arith, earlier, later)) since) [
          | inl was ↦ (elim (moment_of t image earlier was) [ inl first ↦ inl first | inr now ↦ inr (inl now) ])
          | inr has ↦ inr (inr has)
        ];
      }

  module _ (later : ClaimState D) (whole : store.fault ≡ 0) (total_is : store.total ≡ total) (small : store.total < 2 ^ 64 - 1) (closed : AreClaims later.total later.claims)
      (counts_now : (t : ℕ) (image : List ℕ) → t ≤ (disk_state later.disk).moment → (disk_state later.disk).images image
      → (disk_state later.disk).images_since t image)
      (sound : AreClaims total store.claims)
      (start count : ℕ) (answer : Result Span ClaimFault) (moved : StoreClaims disk_state store start count answer later) where
    abbrev new : DiskState
    new = disk_state later.disk

    abbrev asked : Span
    asked = span start (start + count)

    abbrev one_way : List ℕ → Type 0
    one_way = MayFind id total (place_of store) store.claims (start, count)

    held : (first : List ℕ) → old.content ≡ Some first → LeavesOnly mid new (HoldsTwin kind.Claims id total store.begin store.slots)
    held first known = (moved.holds id total).any_moment
        (λ image some. subst (HoldsTwin kind.Claims id total store.begin store.slots) (sym (image_is first known image some)) (holds first known))

    since_mid : (image : List ℕ) → new.images image → new.images_since mid.moment image
    since_mid image some = counts_now mid.moment image moved_later some
      where
        moved_later : mid.moment ≤ new.moment
        moved_later = moved.changes.any_moment.later

    -- bytes in which the journal stands find what they say
    finds_either : (bytes : List ℕ) → HoldsTwin kind.Claims id total store.begin store.slots bytes
        → SaysOldOrNewClaims total store.begin store.slots store.claims asked bytes → one_way bytes
    finds_either bytes here (inl has) = inl (record { holds = here; says = has })
    finds_either bytes here (inr has) = inr (record { ranges = has.ranges; merged = has.merged; finds = record { holds = here; says = has.says } })

    said : (bytes : List ℕ) → SaysOldOrNewClaims store.total store.begin store.slots store.claims asked bytes → SaysOldOrNewClaims total store.begin store.slots store.claims asked bytes
    said bytes has = subst (λ n. SaysOldOrNewClaims n store.begin store.slots store.claims asked bytes) total_is has

    bytes_now : (first : List ℕ) → old.content ≡ Some first → (bytes : List ℕ) × (new.content ≡ Some bytes)
    bytes_now first known = goes_on _ mid.content new.content first (known_mid first known) moved.changes.content

    held_now : (first : List ℕ) → old.content ≡ Some first → (bytes : List ℕ) → new.content ≡ Some bytes → HoldsTwin kind.Claims id total store.begin store.slots bytes
    held_now first known bytes is = some_of new.content bytes (HoldsTwin kind.Claims id total store.begin store.slots) is
        ((moved.holds id total).content (subst (λ (o : Option (List ℕ)). IfSome o (HoldsTwin kind.Claims id total store.begin store.slots)) (sym (known_mid first known)) (holds first known)))

    held_image : (first : List ℕ) → old.content ≡ Some first → (image : List ℕ) → new.images image → HoldsTwin kind.Claims id total store.begin store.slots image
    held_image first known image some = (held first known).each image (since_mid image some)

    moments : (first : List ℕ) → old.content ≡ Some first → LeavesOnly mid new one_way
    moments first known =
        leaves_also (leaves_both (held first known) (moved.any_moment whole small first (known_mid first known)))
        (λ image both. finds_either image both.0 (said image both.1))

    any_moment : (first : List ℕ) → old.content ≡ Some first → LeavesOnly old new (λ image. old.images image ⊎ one_way image)
    any_moment first known = leaves_since one_way new (moments first known)

    -- ---- by the answer

    either : (first : List ℕ) → old.content ≡ Some first → AllHave one_way new
    either first known =
        let now = bytes_now first known in
        record {
          read = some_and new.content now.0 one_way now.1 (finds_either now.0 (held_now first known now.0 now.1) (said now.0
              (some_of new.content now.0 (SaysOldOrNewClaims store.total store.begin store.slots store.claims asked) now.1
              (moved.read whole small first (known_mid first known)))));
          durable = λ image some. (moments first known).each image (since_mid image some);
        }

    durable_finds : (claimed : Span) → AreMerged (store.claims ++ claimed ∷ []) later.claims → AreDurable disk_state later → (first : List ℕ) → old.content ≡ Some first
        → AllHave (FindsMore id total (place_of store) store.claims claimed) new
    durable_finds claimed merged durable first known =
        let now = bytes_now first known in
        let has : SaysClaims total store.begin store.slots later.claims now.0 × ((image : List ℕ) → new.images image → SaysClaims total store.begin store.slots later.claims image) =
        subst (λ (p : ℕ × (ℕ × ℕ)). SaysClaims p.0 p.1.0 p.1.1 later.claims now.0 × ((image : List ℕ) → new.images image → SaysClaims p.0 p.1.0 p.1.1 later.claims image))
        (λ i. ((moved.total ∙ total_is) i, (moved.begin i, moved.slots i)))
        (some_of new.content now.0 (λ bytes. SaysClaims later.total later.begin later.slots later.claims bytes
        × ((image : List ℕ) → new.images image → SaysClaims later.total later.begin later.slots later.claims image)) now.1 durable) in
        record {
          read = some_and new.content now.0 (FindsMore id total (place_of store) store.claims claimed) now.1
              (record { ranges = later.claims; merged = merged; finds = record { holds = held_now first known now.0 now.1; says = has.0 } });
          durable = λ image some. record { ranges = later.claims; merged = merged; finds = record { holds = held_image first known image some; says = has.1 image some } };
        }

    same_finds : later ≡ store → (first : List ℕ) → old.content ≡ Some first → AllHave (FindsClaims id total (place_of store) store.claims) new
    same_finds same first known =
        subst (λ (s : ClaimState D). AllHave (FindsClaims id total (place_of store) store.claims) (disk_state s.disk)) (sym same) (all_first first known)

    same_faults : later ≡ store → new.faults ≡ old.faults
    same_faults same = ap (λ (s : ClaimState D). (disk_state s.disk).faults) same ∙ opens.still

  moves : (later : ClaimState D) (whole : store.fault ≡ 0) (total_is : store.total ≡ total) (small : store.total < 2 ^ 64 - 1) (closed : AreClaims later.total later.claims)
      (counts_now : (t : ℕ) (image : List ℕ) → t ≤ (disk_state later.disk).moment → (disk_state later.disk).images image
      → (disk_state later.disk).images_since t image)
      (sound : AreClaims total store.claims)
      (start count : ℕ) (answer : Result Span ClaimFault) (moved : StoreClaims disk_state store start count answer later)
      → MovesClaims id total (place_of store) store.used store.claims (start, count) answer (disk_change old (disk_state later.disk))
  moves later whole total_is small closed counts_now sound start count answer moved = record {
    cause = cause_of answer moved;
    left = left_of answer moved;
    any_moment = any_moment later whole total_is small closed counts_now sound start count answer moved;
  }
    where
      same : (answer : Result Span ClaimFault) → StoreClaims disk_state store start count answer later → later ≡ store
          → (disk_state later.disk).faults ≡ old.faults
      same answer moved is = same_faults later whole total_is small closed counts_now sound start count answer moved is

      cause_of : (answer : Result Span ClaimFault) → StoreClaims disk_state store start count answer later
          → AnswersClaim total store.slots store.used store.claims (start, count) answer (disk_change old (disk_state later.disk))
      cause_of (Ok claimed) moved = (
        moved.span,
        free_follow total store.claims start count claimed moved.span (subst (λ n. start + count ≤ n) total_is moved.free.within) moved.free.apart sound (omega (arith, moved.some)),
        moved.faults ∙ opens.still,
      )
      cause_of (Err Device) moved = subst (λ (n : ℕ). Rose n (disk_state later.disk).faults) opens.still moved.cause.1
      cause_of (Err (Broken first)) moved = absurd (moved.cause.0.1 whole)
      cause_of (Err (OutOfRange end)) moved = (
        moved.cause.0.0 ∙ total_is,
        subst (λ (n : ℕ). n < start + count) total_is moved.cause.0.2,
        same (Err (OutOfRange end)) moved moved.cause.1,
      )
      cause_of (Err (Overlap earlier)) moved = (moved.cause.0.2, same (Err (Overlap earlier)) moved moved.cause.1)
      cause_of (Err (Full used)) moved = (moved.cause.0.0, moved.cause.0.4, moved.cause.0.5, same (Err (Full used)) moved moved.cause.1)
      cause_of (Err NoMemory) moved = same (Err NoMemory) moved moved.cause.1

      kept : (answer : Result Span ClaimFault) → StoreClaims disk_state store start count answer later → later ≡ store
          → (first : List ℕ) → old.content ≡ Some first → AllHave (FindsClaims id total (place_of store) store.claims) (disk_state later.disk)
      kept answer moved is = same_finds later whole total_is small closed counts_now sound start count answer moved is

      left_of : (answer : Result Span ClaimFault) → StoreClaims disk_state store start count answer later
          → (first : List ℕ) → old.content ≡ Some first
          → LeavesClaims id total (place_of store) store.claims (start, count) answer (disk_state later.disk)
      left_of (Ok claimed) moved = durable_finds later whole total_is small closed counts_now sound start count (Ok claimed) moved
          claimed moved.claimed (moved.durable small)
      left_of (Err Device) moved = either later whole total_is small closed counts_now sound start count (Err Device) moved
      left_of (Err (Broken first)) moved = kept (Err (Broken first)) moved moved.cause.1
      left_of (Err (OutOfRange end)) moved = kept (Err (OutOfRange end)) moved moved.cause.1
      left_of (Err (Overlap earlier)) moved = kept (Err (Overlap earlier)) moved moved.cause.1
      left_of (Err (Full used)) moved = kept (Err (Full used)) moved moved.cause.1
      left_of (Err NoMemory) moved = kept (Err NoMemory) moved moved.cause.1

  kept_by : (sound : AreClaims total store.claims) (rising : RiseFrom 0 store.claims)
      (in_use : (bytes : List ℕ) → old.content ≡ Some bytes → AreInUse store.begin store.slots store.used bytes)
      (asked : Option (ℕ × ℕ)) (answer : Option (Result Span ClaimFault)) (now : DiskState)
      → now.chosen ≡ appended (choice ∷ []) old.chosen → now.room ≡ old.room
      → MovesBy id total (place_of store) store.used store.claims asked answer (disk_change old now)
      → KeepsClaims choice id total asked answer (disk_change old now)
  kept_by sound rising in_use asked answer now chosen room moved = record {
    chosen = chosen;
    room = room;
    place = place_of store;
    used = store.used;
    claims = store.claims;
    sound = sound;
    rising = rising;
    in_use = in_use;
    recovered = finds_first;
    moved = moved;
  }

  pub keeps_claims : (later : ClaimState D) (whole : store.fault ≡ 0) (total_is : store.total ≡ total) (small : store.total < 2 ^ 64 - 1) (sound : AreClaims total store.claims)
      (rising : RiseFrom 0 store.claims)
      (in_use : (bytes : List ℕ) → old.content ≡ Some bytes → AreInUse store.begin store.slots store.used bytes)
      (closed : AreClaims later.total later.claims)
      (counts_now : (t : ℕ) (image : List ℕ) → t ≤ (disk_state later.disk).moment → (disk_state later.disk).images image
      → (disk_state later.disk).images_since t image)
      (asked : Option (ℕ × ℕ)) (answer : Option (Result Span ClaimFault))
      → MatchOption answer (later ≡ store) (λ a. IsSomeAnd asked (λ units. StoreClaims disk_state store units.0 units.1 a later))
      → KeepsClaims choice id total asked answer (disk_change old (disk_state later.disk))
  keeps_claims later whole total_is small sound rising in_use closed counts_now asked None same =
      subst (λ (s : ClaimState D). KeepsClaims choice id total asked None (disk_change old (disk_state s.disk))) (sym same)
      (kept_by sound rising in_use asked None (disk_state store.disk) opens.chosen opens.stays.room leaves_all)
  keeps_claims later whole total_is small sound rising in_use closed counts_now None (Some answer) moved = absurd moved
  keeps_claims later whole total_is small sound rising in_use closed counts_now (Some units) (Some answer) moved =
      kept_by sound rising in_use (Some units) (Some answer) (disk_state later.disk) (moved.changes.chosen ∙ opens.chosen)
      (moved.changes.room ∙ opens.stays.room) (moves later whole total_is small closed counts_now sound units.0 units.1 answer moved)
