-- What raising the ceiling makes of the desk.
use Rattle.std.proofs.Common.{◌≡◌, ◌<◌, ◌≤◌, ◌+◌, ◌*◌, ◌^◌, ◌==◌, ℕ, List, Bool, true, false, Some, IfSome, ⊎_elim, ap, sym, refl, ◌∙◌, subst, arith}
use Rattle.std.proofs.lemmas.Bool.Decides.{nat_tests}
use Rattle.zk_port.specs.Counts.{Rose}
use Rattle.zk_port.specs.Disks.{DiskState, LeavesOnly}
use Rattle.zk_port.specs.Images.{IsTorn, Only}
use Rattle.zk_model.specs.declared.JournalKind.TheVariants.{Ceilings}
use Rattle.zk_model.specs.declared.limits.TheConstants.{MAX_STORE_UNITS}
use Rattle.lease_journal.specs.Journals.{AreSound, keeps_rule}
use Rattle.lease_journal.specs.Twins.{MayHaveGeneration, SaysOldOrNew, SaysTwin, area_at, head_at, twin_begin, twin_ceiling_slots}
use Rattle.lease_journal.specs.declared.fault.JournalFault.{JournalFault}
use Rattle.lease_journal.specs.declared.fault.JournalFault.TheVariants.{Device, Broken, Full}
use Rattle.lease_journal.specs.Keeps.{ChangesAt}
use Rattle.lease_journal.proofs.Keeping.{changes_wider}
use Rattle.lease_journal.proofs.Moments.{leaves_also, leaves_both, then_leaves}
use Rattle.lease_words.specs.Views.{after_mark, after_raise}
use Rattle.lease_words.specs.declared.view.View.{View}
use Rattle.twin_journal.specs.States.{IsKept, TwinState}
use Rattle.twin_journal.proofs.TwinHeaders.{holds_torn}
use Rattle.lease_store.specs.Ceilings.{FindsCeiling, HasCeilings, last_ceiling}
use Rattle.lease_store.specs.Desks.{CoverCause, IsLeaseDesk, IsKeptAt}
use Rattle.lease_store.specs.Raising.{after_ceiling, raised_bodies, raised_generation}
use Rattle.lease_store.proofs.Bodies.{last_next, may_next, sound_next}
use Rattle.lease_store.proofs.Contents.{known_after, known_before, some_and, some_of}
use Rattle.lease_store.proofs.Places.{begins_once}
use Rattle.lease_store.proofs.Rounding.{IsRounded}

-- the total of a desk is that of its name
pub few_named : (own total : ℕ) → own ≡ total → own ≤ MAX_STORE_UNITS → total ≤ MAX_STORE_UNITS
few_named own total is few = omega (arith, is, few)

-- a refusal that is not due to the device in this call changes no fault
pub not_device : (fault fault_now before now : ℕ) (e : JournalFault) → CoverCause fault fault_now before now e → (e ≡ Device → ⊥) → fault_now ≡ fault
not_device fault fault_now before now Device cause other = absurd (other refl)
not_device fault fault_now before now (Broken first) cause other = cause.2
not_device fault fault_now before now (Full count) cause other = absurd cause

-- so the journal is as it was
pub unchanged : {D : Type 0} (old now : TwinState D) → now ≡ record old { disk = now.disk; fault = now.fault } → now.disk ≡ old.disk → now.fault ≡ old.fault → now ≡ old
unchanged old now kept disk fault = kept ∙ (λ i. record old { disk = disk i; fault = fault i })

-- a slot is left
pub not_all_used : (used slots : ℕ) → used < slots → (used == slots) ≡ false
not_all_used used slots below = grind (arith, nat_tests)

-- a put and a compaction write into the areas
pub put_changes : (begin slots used : ℕ) (second : Bool) → used < slots → {old new : DiskState} → ChangesAt (area_at begin slots second + 32 * used) 32 old new
    → ChangesAt (begin + 64) (64 * (slots + 1)) old new
put_changes begin slots used false below changes =
    changes_wider (area_at begin slots false + 32 * used) 32 (begin + 64) (64 * (slots + 1)) (omega arith) (omega (arith, below)) changes
put_changes begin slots used true below changes =
    changes_wider (area_at begin slots true + 32 * used) 32 (begin + 64) (64 * (slots + 1)) (omega arith) (omega (arith, below)) changes

pub compact_changes : (begin slots : ℕ) (second : Bool) → {old new : DiskState} → ChangesAt (head_at begin slots second) (32 * (slots + 1)) old new
    → ChangesAt (begin + 64) (64 * (slots + 1)) old new
compact_changes begin slots false changes = changes_wider (begin + 64) (32 * (slots + 1)) (begin + 64) (64 * (slots + 1)) (omega arith) (omega arith) changes
compact_changes begin slots true changes =
    changes_wider (begin + 64 + 32 * (slots + 1)) (32 * (slots + 1)) (begin + 64) (64 * (slots + 1)) (omega arith) (omega arith) changes

-- a lower ceiling is found too
pub finds_lower : (id : List ℕ) (total low high : ℕ) (first bytes : List ℕ) → low ≤ high → FindsCeiling id total high first bytes → FindsCeiling id total low first bytes
finds_lower id total low high first bytes within found = record {
  begin = found.begin;
  generation = found.generation;
  bodies = found.bodies;
  says = found.says;
  reaches = omega (arith, within, found.reaches);
  began = found.began;
}

-- what stays of the journal, and what is new
record GoesOn {D : Type 0} (full : Bool) (old now : TwinState D) (ceiling : ℕ) : Type 0 where
  pub begin : now.begin ≡ old.begin
  pub slots : now.slots ≡ old.slots
  pub last : now.last.0 ≡ ceiling
  pub fault : now.fault ≡ old.fault
  pub generation : old.generation + 1 < 2 ^ 64 → now.generation ≡ raised_generation full old.generation

goes_on : {D : Type 0} (full : Bool) (old now : TwinState D) (ceiling : ℕ) → now ≡ after_ceiling full old now.disk ceiling → GoesOn full old now ceiling
goes_on {D} true old now ceiling is = record {
  begin = ap (λ (t : TwinState D). t.begin) is;
  slots = ap (λ (t : TwinState D). t.slots) is;
  last = ap (λ (t : TwinState D). t.last.0) is;
  fault = ap (λ (t : TwinState D). t.fault) is;
  generation = λ small. omega (arith, small, ap (λ (t : TwinState D). t.generation) is);
}
goes_on {D} false old now ceiling is = record {
  begin = ap (λ (t : TwinState D). t.begin) is;
  slots = ap (λ (t : TwinState D). t.slots) is;
  last = ap (λ (t : TwinState D). t.last.0) is;
  fault = ap (λ (t : TwinState D). t.fault) is;
  generation = λ small. ap (λ (t : TwinState D). t.generation) is;
}

-- the next generation is a number of 8 bytes
small_next : (total last generation : ℕ) (bodies : List (ℕ × ℕ)) → total ≤ MAX_STORE_UNITS → last ≤ total → last_ceiling bodies ≡ last
    → MayHaveGeneration Ceilings bodies generation → generation + 1 < 2 ^ 64
small_next total last generation bodies few low is may = omega (arith, few, low, is, may.most)

module _ {D : Type 0} (state : D → DiskState) (start : DiskState) (id : List ℕ) (total base : ℕ) (old : TwinState D) (v : View)
    (desk : IsLeaseDesk state start id total base old v) (few : total ≤ MAX_STORE_UNITS) (end ceiling : ℕ) (rounded : IsRounded total end old.last.0 ceiling) (free : old.fault ≡ 0)
    (full : Bool) (now : TwinState D) (changes : ChangesAt (old.begin + 64) (64 * (old.slots + 1)) (state old.disk) (state now.disk)) where
  abbrev step : List ℕ → List ℕ → Type 0
  step = IsTorn (old.begin + 64) (64 * (old.slots + 1))

  small : (bytes : List ℕ) → IsKeptAt state id total old bytes → old.generation + 1 < 2 ^ 64
  small bytes was = small_next total old.last.0 old.generation was.bodies few desk.low was.last was.says.may_have

  -- of bytes that differ behind the header alone
  module _ (bytes image : List ℕ) (was : IsKeptAt state id total old bytes) (torn : IsTorn (old.begin + 64) (64 * (old.slots + 1)) bytes image) where
    has : (generation : ℕ) (bodies : List (ℕ × ℕ)) → SaysTwin old.begin old.slots generation bodies image → AreSound Ceilings total bodies
        → MayHaveGeneration Ceilings bodies generation → HasCeilings id total old.begin generation bodies image
    has generation bodies says sound may = record {
      holds = holds_torn Ceilings id total old.begin (twin_ceiling_slots total) (old.begin + 64) (64 * (old.slots + 1)) (omega arith) bytes image torn was.says.holds;
      says = subst (λ n. SaysTwin old.begin n generation bodies image) desk.slots_are says;
      sound = sound;
      may_have = may;
    }

    sound_new : AreSound Ceilings total (raised_bodies full was.bodies (ceiling, 0))
    sound_new = sound_next full total was.bodies ceiling was.says.sound (ap (λ n. keeps_rule Ceilings total n (ceiling, 0)) was.last ∙ rounded.rule)

    may_new : MayHaveGeneration Ceilings (raised_bodies full was.bodies (ceiling, 0)) (raised_generation full old.generation)
    may_new = may_next full was.bodies old.generation ceiling (omega (arith, was.last, rounded.above)) was.says.may_have

    found_one : (first : List ℕ) → twin_begin Ceilings first ≡ old.begin
        → SaysOldOrNew old.begin old.slots old.generation was.bodies (raised_generation full old.generation) (raised_bodies full was.bodies (ceiling, 0)) image
        → FindsCeiling id total old.last.0 first image
    found_one first began one = ⊎_elim
        (λ says. record {
          begin = old.begin;
          generation = old.generation;
          bodies = was.bodies;
          says = has old.generation was.bodies says was.says.sound was.says.may_have;
          reaches = omega (arith, was.last);
          began = began;
        })
        (λ says. record {
          begin = old.begin;
          generation = raised_generation full old.generation;
          bodies = raised_bodies full was.bodies (ceiling, 0);
          says = has (raised_generation full old.generation) (raised_bodies full was.bodies (ceiling, 0)) says sound_new may_new;
          reaches = omega (arith, last_next full was.bodies (ceiling, 0), rounded.above);
          began = began;
        })
        one.says

    kept_new : GoesOn full old now ceiling → IsKept state now (raised_bodies full was.bodies (ceiling, 0)) image → IsKeptAt state id total now image
    kept_new goes kept =
        let there : SaysTwin now.begin now.slots now.generation (raised_bodies full was.bodies (ceiling, 0)) image = record { second = now.second; area = kept.area } in
        let here : SaysTwin old.begin old.slots (raised_generation full old.generation) (raised_bodies full was.bodies (ceiling, 0)) image =
        subst (λ n. SaysTwin n old.slots (raised_generation full old.generation) (raised_bodies full was.bodies (ceiling, 0)) image) goes.begin
        (subst (λ n. SaysTwin now.begin n (raised_generation full old.generation) (raised_bodies full was.bodies (ceiling, 0)) image) goes.slots
        (subst (λ n. SaysTwin now.begin now.slots n (raised_bodies full was.bodies (ceiling, 0)) image) (goes.generation (small bytes was)) there)) in
        record {
          bodies = raised_bodies full was.bodies (ceiling, 0);
          kept = kept;
          says = subst (λ n. HasCeilings id total n now.generation (raised_bodies full was.bodies (ceiling, 0)) image) (sym goes.begin)
              (subst (λ n. HasCeilings id total old.begin n (raised_bodies full was.bodies (ceiling, 0)) image) (sym (goes.generation (small bytes was)))
              (has (raised_generation full old.generation) (raised_bodies full was.bodies (ceiling, 0)) here sound_new may_new));
          last = last_next full was.bodies (ceiling, 0) ∙ sym goes.last;
        }

  -- the journal begins where the first one began
  began_there : (first bytes : List ℕ) → IsKeptAt state id total old bytes → FindsCeiling id total old.last.0 first bytes → twin_begin Ceilings first ≡ old.begin
  began_there first bytes was found = found.began ∙ begins_once bytes found.begin old.begin found.says.holds.begins was.says.holds.begins

  told_before : (bytes : List ℕ) → (state now.disk).content ≡ Some bytes → (first : List ℕ) × (start.content ≡ Some first)
  told_before bytes is = let was = known_before step (state old.disk).content (state now.disk).content bytes changes.content is in desk.told was.0 was.1

  -- a crash meanwhile leaves the ceiling, or a higher one
  module _ (leaves : (bytes : List ℕ) (bodies : List (ℕ × ℕ)) → IsKept state old bodies bytes → old.generation + 1 < 2 ^ 64
      → LeavesOnly (state old.disk) (state now.disk) (SaysOldOrNew old.begin old.slots old.generation bodies (raised_generation full old.generation) (raised_bodies full bodies (ceiling, 0)))) where
    pub raise_leaves : (first : List ℕ) → start.content ≡ Some first → LeavesOnly (state old.disk) (state now.disk) (FindsCeiling id total old.last.0 first)
    raise_leaves first begun =
        let was = some_of (state old.disk).content (desk.read first begun) in
        let kept = desk.kept free was.0 was.1 in
        leaves_also (leaves_both (leaves was.0 kept.bodies kept.kept (small was.0 kept)) changes.any_moment) (λ image both.
        let from = both.1 in
        let torn : IsTorn (old.begin + 64) (64 * (old.slots + 1)) was.0 image =
        subst (λ b. IsTorn (old.begin + 64) (64 * (old.slots + 1)) b image) (subst (λ o. Only o (state old.disk).images) was.1 (desk.only free) from.0 from.1) from.2 in
        found_one was.0 image kept torn first (began_there first was.0 kept was.2) both.0)

    leaves_base : (first : List ℕ) → start.content ≡ Some first → LeavesOnly start (state now.disk) (FindsCeiling id total base first)
    leaves_base first begun =
        then_leaves (desk.any_moment first begun)
        (leaves_also (raise_leaves first begun) (λ image found. finds_lower id total base old.last.0 first image desk.risen found))

    pub raised : now ≡ after_ceiling full old now.disk ceiling
        → ((bytes : List ℕ) (bodies : List (ℕ × ℕ)) → IsKept state old bodies bytes → old.generation + 1 < 2 ^ 64
        → IfSome (state now.disk).content (IsKept state now (raised_bodies full bodies (ceiling, 0))))
        → Only (state now.disk).content (state now.disk).images → (state now.disk).faults ≡ (state old.disk).faults
        → IsLeaseDesk state start id total base now (after_raise v ceiling)
    raised is recovered only same = record {
      total_is = desk.total_is;
      ceiling = sym goes.last;
      mark = desk.mark ∙ sym goes.fault;
      low = omega (arith, goes.last, rounded.low);
      slots_are = goes.slots ∙ desk.slots_are;
      risen = omega (arith, desk.risen, goes.last, rounded.above);
      kept = λ none bytes told. kept_now bytes told;
      only = λ none. only;
      told = told_before;
      read = λ first begun. let found = known_now first begun in some_and (FindsCeiling id total now.last.0 first) (state now.disk).content found.0 found.1 found.2;
      durable = λ first begun image left.
          let found = known_now first begun in
          let there : image ≡ found.0 = subst (λ o. Only o (state now.disk).images) found.1 only image left in
          subst (FindsCeiling id total now.last.0 first) (sym there) found.2;
      any_moment = leaves_base;
      chosen = changes.chosen ∙ desk.chosen;
      room = changes.room ∙ desk.room;
      later = omega (arith, desk.later, same);
      still = λ none. same ∙ desk.still free;
      rose = λ some. absurd (some (goes.fault ∙ free));
    }
      where
        goes : GoesOn full old now ceiling
        goes = goes_on full old now ceiling is

        kept_at : (was bytes : List ℕ) → (state old.disk).content ≡ Some was → (state now.disk).content ≡ Some bytes → step was bytes → IsKeptAt state id total now bytes
        kept_at was bytes there here torn =
            let kept = desk.kept free was there in
            kept_new was bytes kept torn goes
            (subst (λ o. IfSome o (IsKept state now (raised_bodies full kept.bodies (ceiling, 0)))) here (recovered was kept.bodies kept.kept (small was kept)))

        kept_now : (bytes : List ℕ) → (state now.disk).content ≡ Some bytes → IsKeptAt state id total now bytes
        kept_now bytes told = let was = known_before step (state old.disk).content (state now.disk).content bytes changes.content told in kept_at was.0 bytes was.1 told was.2

        known_now : (first : List ℕ) → start.content ≡ Some first → (bytes : List ℕ) × ((state now.disk).content ≡ Some bytes) × FindsCeiling id total now.last.0 first bytes
        known_now first begun =
            let was = some_of (state old.disk).content (desk.read first begun) in
            let here = known_after step (state old.disk).content (state now.disk).content was.0 changes.content was.1 in
            let kept = kept_at was.0 here.0 was.1 here.1 here.2 in (
              here.0,
              here.1,
              record {
                begin = now.begin;
                generation = now.generation;
                bodies = kept.bodies;
                says = kept.says;
                reaches = omega (arith, kept.last);
                began = began_there first was.0 (desk.kept free was.0 was.1) was.2 ∙ sym goes.begin;
              },
            )

    pub refused : now ≡ record old { disk = now.disk; fault = now.fault }
        → ((bytes : List ℕ) (bodies : List (ℕ × ℕ)) → IsKept state old bodies bytes → old.generation + 1 < 2 ^ 64
        → IfSome (state now.disk).content (SaysOldOrNew old.begin old.slots old.generation bodies (raised_generation full old.generation) (raised_bodies full bodies (ceiling, 0))))
        → ((t : ℕ) (c : List ℕ) → t ≤ (state now.disk).moment → (state now.disk).images c → (state now.disk).images_since t c)
        → (state old.disk).faults ≤ (state now.disk).faults → Rose (state old.disk).faults (state now.disk).faults → now.fault ≡ (state now.disk).faults → 0 < now.fault
        → IsLeaseDesk state start id total base now (after_mark v now.fault)
    refused kept_state read counts grows rose is some = subst (λ t. IsLeaseDesk state start id total base t (after_mark v now.fault)) (sym kept_state) (record {
      total_is = desk.total_is;
      ceiling = desk.ceiling;
      mark = refl;
      low = desk.low;
      slots_are = desk.slots_are;
      risen = desk.risen;
      kept = λ none. absurd (omega (arith, none, some));
      only = λ none. absurd (omega (arith, none, some));
      told = told_before;
      read = λ first begun.
          let was = some_of (state old.disk).content (desk.read first begun) in
          let here = known_after step (state old.disk).content (state now.disk).content was.0 changes.content was.1 in
          let kept = desk.kept free was.0 was.1 in
          let one = subst (λ o. IfSome o (SaysOldOrNew old.begin old.slots old.generation kept.bodies (raised_generation full old.generation) (raised_bodies full kept.bodies (ceiling, 0)))) here.1
          (read was.0 kept.bodies kept.kept (small was.0 kept)) in
          some_and (FindsCeiling id total old.last.0 first) (state now.disk).content here.0 here.1
          (found_one was.0 here.0 kept here.2 first (began_there first was.0 kept was.2) one);
      durable = λ first begun image left.
          let may = raise_leaves first begun in
          may.each image (counts (state old.disk).moment image may.later left);
      any_moment = leaves_base;
      chosen = changes.chosen ∙ desk.chosen;
      room = changes.room ∙ desk.room;
      later = omega (arith, desk.later, grows);
      still = λ none. absurd (omega (arith, none, some));
      rose = λ any. (omega (arith, desk.later, grows, rose, is), omega (arith, is));
    })
