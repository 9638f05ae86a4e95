-- What each step of a compaction leaves of a journal.
use Rattle.std.proofs.Common.{◌≡◌, ◌<◌, ◌≤◌, ◌+◌, ◌*◌, ℕ, List, [], ◌∷◌, Bool, true, false, not, length, get_or, Option, Some, None, IfSome, inl, inr, ⊎_elim, refl, ap, sym, ◌∙◌, subst, arith}
use Rattle.std.specs.Option.{option_map}
use Rattle.std.specs.Int.{w64, from_le_bytes}
use Rattle.std.proofs.lemmas.Bool.{cases_eq}
use Rattle.zk_port.specs.Disks.{DiskState, LeavesOnly}
use Rattle.zk_port.specs.Images.{IsTorn, Only, StepsBy, written_at}
use Rattle.zk_port.proofs.Torn.{torn_by_write}
use Rattle.lease_journal.specs.Journals.{IsTidy, Recovers, number_at}
use Rattle.lease_journal.specs.Twins.{GoesBefore, IsAreaOf, IsHeadOpen, SaysOldOrNew, generation_at, head_at, twin_length}
use Rattle.lease_journal.specs.Keeps.{ChangesAt, Keeps}
use Rattle.lease_journal.proofs.Moments.{leaves_also, leaves_both}
use Rattle.lease_journal.proofs.Torn.{same_part, written_inside}
use Rattle.twin_journal.specs.States.{IsKept, TwinState}
use Rattle.twin_journal.specs.Compactions.{Closes, HasByte, IsTurned, IsAreaWritten, MayTurn}
use Rattle.twin_journal.specs.Filling.{AreBodySlots}
use Rattle.twin_journal.proofs.SameAreas.{area_ends, area_stays, beside_same, filled_recovers, filled_tidy, own_gate, own_generation, recovers_still, tidy_same}

goes_greater : (k : Bool) (g h : ℕ) → h < g → GoesBefore k g h
goes_greater false g h less = omega (arith, less)
goes_greater true g h less = omega (arith, less)

goes_along : (k : Bool) (g h g_now h_now : ℕ) → g_now ≡ g → h_now ≡ h → GoesBefore k g h → GoesBefore k g_now h_now
goes_along false g h g_now h_now own other before = omega (arith, own, other, before)
goes_along true g h g_now h_now own other before = omega (arith, own, other, before)

pub not_not : (k : Bool) → not (not k) ≡ k
not_not false = refl
not_not true = refl

module _ (begin slots active generation : ℕ) (second : Bool) (bodies next : List (ℕ × ℕ)) (head : ℕ) (head_is : head ≡ head_at begin slots (not second))
    (ahead : active < generation) where
  abbrev Says : List ℕ → Type 0
  Says = SaysOldOrNew begin slots active bodies generation next

  gate_at : (image : List ℕ) → get_or image (head + 31) 0 ≡ get_or image (head_at begin slots (not second) + 31) 0
  gate_at image = ap (λ h. get_or image (h + 31) 0) head_is

  as_old : (image : List ℕ) → IsAreaOf begin slots second active bodies image → Says image
  as_old image area = record { says = inl (record { second = second; area = area }) }

  -- from bytes in which the active area stands
  module _ (c : List ℕ) (area : IsAreaOf begin slots second active bodies c) (full : begin + twin_length slots ≤ length c) where
    head_ends : head + 32 * (slots + 1) ≤ length c
    head_ends = omega (arith, head_is, area_ends begin slots (not second) (length c) full)

    own_bytes : (at n : ℕ) (image : List ℕ) → head ≤ at → at + n ≤ head + 32 * (slots + 1) → IsTorn at n c image
        → (i : ℕ) → i < 32 * (slots + 1) → get_or image (head_at begin slots second + i) 0 ≡ get_or c (head_at begin slots second + i) 0
    own_bytes at n image low high torn = beside_same begin slots at n second c image full torn (omega (arith, low, head_is)) (omega (arith, high, head_is))

    -- while the gate is closed
    pub closing : (image : List ℕ) → Closes (head + 31) c image → IsAreaOf begin slots second active bodies image
    closing image closes =
        let torn = closes.torn in
        let own = own_bytes (head + 31) 1 image (omega arith) (omega arith) torn in
        area_stays begin slots active second bodies c image area full torn.least own (λ is_open.
        let was_open : IsHeadOpen begin slots c (not second) = sym (gate_at c) ∙ closes.was_open (gate_at image ∙ is_open) in
        let other : generation_at begin slots image (not second) ≡ generation_at begin slots c (not second) =
        ap (from_le_bytes w64) (same_part c image (head_at begin slots (not second)) 8 (omega (arith, head_is, head_ends)) (omega (arith, head_is, head_ends, torn.least)) (λ i below.
        torn.kept (head_at begin slots (not second) + i) (omega (arith, below, head_is, head_ends)) (inl (omega (arith, below, head_is))))) in
        goes_along second (generation_at begin slots c second) (generation_at begin slots c (not second)) (generation_at begin slots image second) (generation_at begin slots image (not second))
        (own_generation begin slots active second bodies c image area full torn.least own ∙ sym area.generation_is) other (area.active.before was_open))

    -- while the other area is written, whose gate is closed
    pub writing : (byte : ℕ) (image : List ℕ) → ¬ (byte ≡ 90) → IsTorn head (32 * (slots + 1)) c image → HasByte (head + 31) byte image
        → IsAreaOf begin slots second active bodies image
    writing byte image shut torn gate =
        area_stays begin slots active second bodies c image area full torn.least (own_bytes head (32 * (slots + 1)) image (omega arith) (omega arith) torn)
        (λ is_open. absurd (shut (sym gate.is ∙ gate_at image ∙ is_open)))

    -- while the gate is opened, once the other area is written
    module _ (written : IsAreaWritten head slots generation next c) (few : length next ≤ slots) (image : List ℕ) (torn : IsTorn (head + 31) 1 c image) where
      own : (i : ℕ) → i < 32 * (slots + 1) → get_or image (head_at begin slots second + i) 0 ≡ get_or c (head_at begin slots second + i) 0
      own = own_bytes (head + 31) 1 image (omega arith) (omega arith) torn

      new_slots : (i : ℕ) → i < 32 * slots → get_or image (head + 32 + i) 0 ≡ get_or c (head + 32 + i) 0
      new_slots i inside = torn.kept (head + 32 + i) (omega (arith, inside, head_ends)) (inr (omega arith))

      new_generation : generation_at begin slots image (not second) ≡ generation
      new_generation =
          ap (number_at image) (sym head_is)
          ∙ ap (from_le_bytes w64) (same_part c image head 8 (omega (arith, head_ends)) (omega (arith, head_ends, torn.least)) (λ i below.
          torn.kept (head + i) (omega (arith, below, head_ends)) (inl (omega (arith, below)))))
          ∙ written.generation_is

      pub opened_area : get_or image (head + 31) 0 ≡ 90 → IsAreaOf begin slots (not second) generation next image
      opened_area is_open = record {
        active = record {
          opened = sym (gate_at image) ∙ is_open;
          before = λ other_open.
              goes_along (not second) generation active (generation_at begin slots image (not second)) (generation_at begin slots image (not (not second)))
              new_generation
              (ap (generation_at begin slots image) (not_not second) ∙ own_generation begin slots active second bodies c image area full torn.least own)
              (goes_greater (not second) generation active ahead);
        };
        generation_is = new_generation;
        tidy = subst (λ h. IsTidy (h + 32) slots image) head_is
            (tidy_same (head + 32) slots c image (omega (arith, head_ends)) torn.least new_slots (filled_tidy (head + 32) slots next c written.filled));
        recovered = subst (λ h. Recovers (h + 32) slots image next) head_is
            (recovers_still (head + 32) slots c image (omega (arith, head_ends)) torn.least new_slots next (filled_recovers (head + 32) slots next c few written.filled));
      }

      pub opening : Says image
      opening = ⊎_elim
          (λ is_open. record { says = inr (record { second = not second; area = opened_area is_open }) })
          (λ shut. as_old image (area_stays begin slots active second bodies c image area full torn.least own (λ is_open. absurd (shut (gate_at image ∙ is_open)))))
          (cases_eq (get_or image (head + 31) 0) 90)

      pub turned : get_or image (head + 31) 0 ≡ 90 → IsTurned begin slots second generation next image
      turned is_open = record {
        area = opened_area is_open;
        other = own_gate begin slots active second bodies c image area full torn.least own ∙ area.active.opened;
        exact = subst (λ h. AreBodySlots (h + 32) slots next image) head_is (λ slot below i inside.
            let there : head + 32 + 32 * slot + i ≡ head + 32 + (32 * slot + i) = omega arith in
            ap (λ p. get_or image p 0) there ∙ new_slots (32 * slot + i) (omega (arith, below, inside)) ∙ sym (ap (λ p. get_or c p 0) there)
            ∙ written.filled.exact slot below i inside);
      }

-- ---- over a disk

-- the active area stands in what the disk tells, and in each image
pub record Standing (disk : DiskState) (begin slots active : ℕ) (second : Bool) (bodies : List (ℕ × ℕ)) : Type 0 where
  pub bytes : List ℕ
  pub content : disk.content ≡ Some bytes
  pub only : (image : List ℕ) → disk.images image → image ≡ bytes
  pub full : begin + twin_length slots ≤ length bytes
  pub area : IsAreaOf begin slots second active bodies bytes

-- and the gate of the other area is closed
pub record Closed (disk : DiskState) (begin slots active head : ℕ) (second : Bool) (bodies : List (ℕ × ℕ)) : Type 0 where
  pub stands : Standing disk begin slots active second bodies
  pub shut : ¬ (get_or stands.bytes (head + 31) 0 ≡ 90)

-- or that area is written
pub record Written (disk : DiskState) (begin slots active head generation : ℕ) (second : Bool) (bodies next : List (ℕ × ℕ)) : Type 0 where
  pub stands : Standing disk begin slots active second bodies
  pub written : IsAreaWritten head slots generation next stands.bytes

-- what a step makes of a content that is told
record Stepped (step : List ℕ → List ℕ → Type 0) (old : List ℕ) (new : Option (List ℕ)) : Type 0 where
  now : List ℕ
  is : new ≡ Some now
  taken : step old now

stepped : (step : List ℕ → List ℕ → Type 0) (old : List ℕ) (content new : Option (List ℕ)) → content ≡ Some old → StepsBy step content new → Stepped step old new
stepped step old content new is steps = each new (subst (λ o. StepsBy step o new) is steps)
  where
    each : (new : Option (List ℕ)) → StepsBy step (Some old) new → Stepped step old new
    each None steps = absurd steps
    each (Some now) taken = record { now = now; is = refl; taken = taken }

told_has : (P : List ℕ → Type 0) (content : Option (List ℕ)) (bytes : List ℕ) → content ≡ Some bytes → IfSome content P → P bytes
told_has P content bytes is has = subst (λ o. IfSome o P) is has

tells : (P : List ℕ → Type 0) (content : Option (List ℕ)) (bytes : List ℕ) → content ≡ Some bytes → P bytes → IfSome content P
tells P content bytes is has = subst (λ o. IfSome o P) (sym is) has

module _ (begin slots active generation : ℕ) (second : Bool) (bodies next : List (ℕ × ℕ)) (head : ℕ) (is_open : Bool) (c : List ℕ)
    {old : DiskState} (may : MayTurn old begin slots second head active generation is_open bodies c) where
  abbrev AllSay : List ℕ → Type 0
  AllSay = SaysOldOrNew begin slots active bodies generation next

  old_says : (image : List ℕ) → IsAreaOf begin slots second active bodies image → AllSay image
  old_says image area = as_old begin slots active generation second bodies next head may.head_is may.ahead image area

  gate_open : is_open ≡ true → get_or c (head + 31) 0 ≡ 90
  gate_open opens = ap (λ h. get_or c (h + 31) 0) may.head_is ∙ may.opened opens

  gate_shut : is_open ≡ false → ¬ (get_or c (head + 31) 0 ≡ 90)
  gate_shut shut is = may.closed shut (sym (ap (λ h. get_or c (h + 31) 0) may.head_is) ∙ is)

  closes_area : (image : List ℕ) → Closes (head + 31) c image → IsAreaOf begin slots second active bodies image
  closes_area image closes = closing begin slots active generation second bodies next head may.head_is may.ahead c may.area may.full image closes

  -- the first step
  module _ {middle : DiskState} where
    pub first_moments : ((bytes : List ℕ) → old.content ≡ Some bytes → ((image : List ℕ) → old.images image → image ≡ bytes)
        → (is_open ≡ true → get_or bytes (head + 31) 0 ≡ 90) → LeavesOnly old middle (Closes (head + 31) bytes))
        → LeavesOnly old middle AllSay
    first_moments closes = leaves_also (closes c may.content may.only gate_open) (λ image left. old_says image (closes_area image left))

    pub first_read : ((bytes : List ℕ) → old.content ≡ Some bytes → (is_open ≡ true → get_or bytes (head + 31) 0 ≡ 90) → IfSome middle.content (Closes (head + 31) bytes))
        → ChangesAt (head + 31) 1 old middle → IfSome middle.content AllSay
    first_read closes changes =
        let now = stepped (IsTorn (head + 31) 1) c old.content middle.content may.content changes.content in
        let left = told_has (Closes (head + 31) c) middle.content now.now now.is (closes c may.content gate_open) in
        tells AllSay middle.content now.now now.is (old_says now.now (closes_area now.now left))

    pub closed_then : ((bytes : List ℕ) → old.content ≡ Some bytes → (is_open ≡ true → get_or bytes (head + 31) 0 ≡ 90) → IfSome middle.content (Closes (head + 31) bytes))
        → ChangesAt (head + 31) 1 old middle
        → ((bytes : List ℕ) → old.content ≡ Some bytes → ((image : List ℕ) → old.images image → image ≡ bytes) → Only middle.content middle.images)
        → ((bytes : List ℕ) → old.content ≡ Some bytes → (is_open ≡ false → ¬ (get_or bytes (head + 31) 0 ≡ 90)) → IfSome middle.content (λ now. ¬ (get_or now (head + 31) 0 ≡ 90)))
        → Closed middle begin slots active head second bodies
    closed_then closes changes durable closed =
        let now = stepped (IsTorn (head + 31) 1) c old.content middle.content may.content changes.content in
        let left = told_has (Closes (head + 31) c) middle.content now.now now.is (closes c may.content gate_open) in
        record {
          stands = record {
            bytes = now.now;
            content = now.is;
            only = subst (λ o. Only o middle.images) now.is (durable c may.content may.only);
            full = omega (arith, may.full, now.taken.least);
            area = closes_area now.now left;
          };
          shut = told_has (λ now. ¬ (get_or now (head + 31) 0 ≡ 90)) middle.content now.now now.is (closed c may.content gate_shut);
        }

  -- the second step
  module _ {middle later : DiskState} (closed : Closed middle begin slots active head second bodies)
      (changes : ChangesAt head (32 * (slots + 1)) middle later) (gate : (byte : ℕ) → Keeps (HasByte (head + 31) byte) middle later) where
    byte : ℕ
    byte = get_or closed.stands.bytes (head + 31) 0

    has_byte : HasByte (head + 31) (get_or closed.stands.bytes (head + 31) 0) closed.stands.bytes
    has_byte = record { inside = omega (arith, may.head_is, area_ends begin slots (not second) (length closed.stands.bytes) closed.stands.full); is = refl }

    writes_area : (image : List ℕ) → IsTorn head (32 * (slots + 1)) closed.stands.bytes image → HasByte (head + 31) (get_or closed.stands.bytes (head + 31) 0) image
        → IsAreaOf begin slots second active bodies image
    writes_area image torn has =
        writing begin slots active generation second bodies next head may.head_is may.ahead closed.stands.bytes closed.stands.area closed.stands.full
        (get_or closed.stands.bytes (head + 31) 0) image closed.shut torn has

    pub second_moments : LeavesOnly middle later AllSay
    second_moments = leaves_also
        (leaves_both changes.any_moment
        ((gate (get_or closed.stands.bytes (head + 31) 0)).any_moment (λ image left. subst (HasByte (head + 31) (get_or closed.stands.bytes (head + 31) 0)) (sym (closed.stands.only image left)) has_byte)))
        (λ image both.
        let torn : IsTorn head (32 * (slots + 1)) closed.stands.bytes image = subst (λ was. IsTorn head (32 * (slots + 1)) was image) (closed.stands.only both.0.0 both.0.1) both.0.2 in
        old_says image (writes_area image torn both.1))

    -- what the disk tells after it
    record SecondTold : Type 0 where
      now : List ℕ
      is : later.content ≡ Some now
      longer : length closed.stands.bytes ≤ length now
      area : IsAreaOf begin slots second active bodies now

    second_told : SecondTold
    second_told =
        let now = stepped (IsTorn head (32 * (slots + 1))) closed.stands.bytes middle.content later.content closed.stands.content changes.content in
        let has = told_has (HasByte (head + 31) (get_or closed.stands.bytes (head + 31) 0)) later.content now.now now.is
        ((gate (get_or closed.stands.bytes (head + 31) 0)).content (tells (HasByte (head + 31) (get_or closed.stands.bytes (head + 31) 0)) middle.content closed.stands.bytes closed.stands.content has_byte)) in
        record { now = now.now; is = now.is; longer = now.taken.least; area = writes_area now.now now.taken has }

    pub second_read : IfSome later.content AllSay
    second_read = tells AllSay later.content second_told.now second_told.is (old_says second_told.now second_told.area)

    pub written_then : Only later.content later.images
        → ((bytes : List ℕ) → middle.content ≡ Some bytes → head + 32 ≤ length bytes → IfSome later.content (IsAreaWritten head slots generation next))
        → Written later begin slots active head generation second bodies next
    written_then durable written = record {
      stands = record {
        bytes = second_told.now;
        content = second_told.is;
        only = subst (λ o. Only o later.images) second_told.is durable;
        full = omega (arith, closed.stands.full, second_told.longer);
        area = second_told.area;
      };
      written = told_has (IsAreaWritten head slots generation next) later.content second_told.now second_told.is
          (written closed.stands.bytes closed.stands.content (omega (arith, may.head_is, area_ends begin slots (not second) (length closed.stands.bytes) closed.stands.full)));
    }

  -- the last step
  module _ {later new : DiskState} (wrote : Written later begin slots active head generation second bodies next)
      (few : length next ≤ slots) (changes : ChangesAt (head + 31) 1 later new) where
    opens : (image : List ℕ) → IsTorn (head + 31) 1 wrote.stands.bytes image → AllSay image
    opens image torn =
        opening begin slots active generation second bodies next head may.head_is may.ahead wrote.stands.bytes wrote.stands.area wrote.stands.full wrote.written few image torn

    pub third_moments : LeavesOnly later new AllSay
    third_moments = leaves_also changes.any_moment (λ image torn.
        opens image (subst (λ was. IsTorn (head + 31) 1 was image) (wrote.stands.only torn.0 torn.1) torn.2))

    pub third_read : IfSome new.content AllSay
    third_read =
        let now = stepped (IsTorn (head + 31) 1) wrote.stands.bytes later.content new.content wrote.stands.content changes.content in
        tells AllSay new.content now.now now.is (opens now.now now.taken)

    pub third_turned : new.content ≡ option_map (written_at (head + 31) (90 ∷ [])) later.content → IfSome new.content (IsTurned begin slots second generation next)
    third_turned is =
        let image : List ℕ = written_at (head + 31) (90 ∷ []) wrote.stands.bytes in
        let here : head + 31 ≡ head + 31 + 0 = omega arith in
        let gate : get_or (written_at (head + 31) (90 ∷ []) wrote.stands.bytes) (head + 31) 0 ≡ 90 =
        ap (λ p. get_or (written_at (head + 31) (90 ∷ []) wrote.stands.bytes) p 0) here ∙ written_inside (head + 31) (90 ∷ []) wrote.stands.bytes 0 (omega arith) in
        tells (IsTurned begin slots second generation next) new.content (written_at (head + 31) (90 ∷ []) wrote.stands.bytes)
        (is ∙ ap (option_map (written_at (head + 31) (90 ∷ []))) wrote.stands.content)
        (turned begin slots active generation second bodies next head may.head_is may.ahead wrote.stands.bytes wrote.stands.area wrote.stands.full wrote.written few
        (written_at (head + 31) (90 ∷ []) wrote.stands.bytes) (torn_by_write (head + 31) (90 ∷ []) wrote.stands.bytes) gate)

pub told_also : (P Q : List ℕ → Type 0) (content : Option (List ℕ)) → ((c : List ℕ) → P c → Q c) → IfSome content P → IfSome content Q
told_also P Q None follows has = tt
told_also P Q (Some c) follows has = follows c has

-- a journal that is kept may turn
pub kept_may : {D : Type 0} (state : D → DiskState) (twin : TwinState D) (bodies : List (ℕ × ℕ)) (bytes : List ℕ) (head generation : ℕ) → IsKept state twin bodies bytes
    → ((image : List ℕ) → (state twin.disk).images image → image ≡ bytes) → twin.begin + twin_length twin.slots ≤ length bytes
    → head ≡ head_at twin.begin twin.slots (not twin.second) → twin.generation < generation
    → MayTurn (state twin.disk) twin.begin twin.slots twin.second head twin.generation generation twin.other_open bodies bytes
kept_may state twin bodies bytes head generation kept only full there ahead = record {
  content = kept.content;
  only = only;
  full = full;
  area = kept.area;
  head_is = there;
  ahead = ahead;
  opened = kept.other_opened;
  closed = kept.other_closed;
}

-- and has then turned
pub kept_turned : {D : Type 0} (state : D → DiskState) (twin : TwinState D) (second : Bool) (bodies : List (ℕ × ℕ)) → twin.fault ≡ 0 → twin.used ≡ length bodies
    → twin.second ≡ not second → twin.other_open ≡ true
    → (content : (c : List ℕ) × ((state twin.disk).content ≡ Some c)) → IfSome (state twin.disk).content (IsTurned twin.begin twin.slots second twin.generation bodies)
    → IfSome (state twin.disk).content (IsKept state twin bodies)
kept_turned state twin second bodies sound used is opens content turns =
    let now : IsTurned twin.begin twin.slots second twin.generation bodies content.0 = told_has (IsTurned twin.begin twin.slots second twin.generation bodies) (state twin.disk).content content.0 content.1 turns in
    tells (IsKept state twin bodies) (state twin.disk).content content.0 content.1 (record {
      sound = sound;
      content = content.1;
      count = sym used;
      area = subst (λ k. IsAreaOf twin.begin twin.slots k twin.generation bodies content.0) (sym is) now.area;
      other_opened = λ _. subst (IsHeadOpen twin.begin twin.slots content.0) (sym (ap not is ∙ not_not second)) now.other;
      other_closed = λ shut. absurd (both (sym opens ∙ shut));
    })
  where
    both : true ≡ false → ⊥
    both e = cc e

-- a disk that told its content goes on to tell one
pub goes_on_telling : (at n : ℕ) (old : List ℕ) (content new : Option (List ℕ)) → content ≡ Some old → StepsBy (IsTorn at n) content new → (c : List ℕ) × (new ≡ Some c)
goes_on_telling at n old content new is steps =
    let now = stepped (IsTorn at n) old content new is steps in
    (now.now, now.is)
