-- What a journal of ceilings stores stays stored.
use Rattle.std.proofs.Common.{◌≡◌, ◌≤◌, ℕ, List, [], Bool, true, false, Some, Result, Ok, Err, IsSomeAnd, OnOk, ap, sym, ◌∙◌, subst, arith}
use Rattle.zk_port.specs.Disks.{DiskState}
use Rattle.zk_model.specs.declared.limits.TheConstants.{MAX_STORE_UNITS}
use Rattle.lease_journal.specs.declared.fault.JournalFault.{JournalFault}
use Rattle.lease_journal.specs.declared.fault.JournalFault.TheVariants.{Device, Broken, Full}
use Rattle.lease_journal.proofs.Moments.{leaves_also, started}
use Rattle.lease_words.specs.Views.{journal_of}
use Rattle.lease_words.specs.declared.view.View.{View}
use Rattle.twin_journal.specs.States.{TwinState}
use Rattle.lease_store.specs.Ceilings.{FindsCeiling}
use Rattle.lease_store.specs.Desks.{IsLeaseDesk}
use Rattle.lease_store.specs.Raising.{after_ceiling, are_all_used}
use Rattle.lease_store.specs.Storing.{LeavesCeiling, CeilingMayFollow, Moved, Stores}
use Rattle.lease_store.specs.Stops.{WasStored}
use Rattle.lease_store.proofs.Covering.{finds_lower, not_device, raise_leaves, raised, refused, unchanged}
use Rattle.lease_store.proofs.Rounding.{IsRounded}
use Rattle.lease_store.proofs.Starting.{opens}

-- what a desk keeps is stored
module _ {D : Type 0} (state : D → DiskState) (start : DiskState) (id : List ℕ) (total base : ℕ) (journal : TwinState D) (v : View)
    (desk : IsLeaseDesk state start id total base journal v) where
  found_in : (bytes : List ℕ) → (state journal.disk).content ≡ Some bytes → (first : List ℕ) → start.content ≡ Some first → FindsCeiling id total journal.last.0 first bytes
  found_in bytes is first begun = subst (λ o. IsSomeAnd o (FindsCeiling id total journal.last.0 first)) is (desk.read first begun)

  -- the same, from where the content begins
  from_here : (bytes : List ℕ) → (state journal.disk).content ≡ Some bytes → (first : List ℕ) → start.content ≡ Some first → (image : List ℕ)
      → FindsCeiling id total journal.last.0 first image → FindsCeiling id total journal.last.0 bytes image
  from_here bytes is first begun image found =
      let here = found_in bytes is first begun in
      record {
        begin = found.begin;
        generation = found.generation;
        bodies = found.bodies;
        says = found.says;
        reaches = found.reaches;
        began = here.says.holds.begins ∙ sym here.began ∙ found.began;
      }

  pub stores_of : total ≤ MAX_STORE_UNITS → (ceiling : ℕ) → ceiling ≤ journal.last.0 → Stores state total journal ceiling
  stores_of few ceiling reaches = record {
    id = id;
    few = few;
    low = desk.low;
    slots_are = desk.slots_are;
    reaches = reaches;
    kept = desk.kept;
    only = desk.only;
    read = λ bytes is. let first = desk.told bytes is in from_here bytes is first.0 first.1 bytes (found_in bytes is first.0 first.1);
    each = λ bytes is image left. let first = desk.told bytes is in from_here bytes is first.0 first.1 image (desk.durable first.0 first.1 image left);
  }

-- the same of the total that the journal keeps itself
pub desk_stores : {D : Type 0} (state : D → DiskState) (start : DiskState) (id : List ℕ) (own total base : ℕ) (journal : TwinState D) (v : View) → own ≡ total
    → IsLeaseDesk state start id total base journal v → own ≤ MAX_STORE_UNITS → Stores state own journal journal.last.0
desk_stores state start id own total base journal v is desk few =
    subst (λ n. Stores state n journal journal.last.0) (sym is) (stores_of state start id total base journal v desk (omega (arith, is, few)) journal.last.0 (omega arith))

-- a ceiling that was put is the last one
last_new : {D : Type 0} (full : Bool) (old now : TwinState D) (ceiling : ℕ) → now ≡ after_ceiling full old now.disk ceiling → now.last.0 ≡ ceiling
last_new {D} true old now ceiling is = ap (λ (t : TwinState D). t.last.0) is
last_new {D} false old now ceiling is = ap (λ (t : TwinState D). t.last.0) is

-- a lower ceiling is stored too
pub stores_lower : {D : Type 0} (state : D → DiskState) (total : ℕ) (journal : TwinState D) (low high : ℕ) → low ≤ high → Stores state total journal high → Stores state total journal low
stores_lower state total journal low high under s = record {
  id = s.id;
  few = s.few;
  low = s.low;
  slots_are = s.slots_are;
  reaches = omega (arith, under, s.reaches);
  kept = s.kept;
  only = s.only;
  read = s.read;
  each = s.each;
}

-- so it is of all that ends at or below it
pub stored_below : {D : Type 0} (state : D → DiskState) (total : ℕ) (journal : TwinState D) (end found : ℕ) → end ≤ found → Stores state total journal found → WasStored state end
stored_below state total journal end found under s = (total, journal, stores_lower state total journal end found under s)

module _ {D : Type 0} (state : D → DiskState)
    (counts_now : (disk : D) (t : ℕ) (c : List ℕ) → t ≤ (state disk).moment → (state disk).images c → (state disk).images_since t c)
    (only_now : (disk : D) (c : List ℕ) → (state disk).images_since (state disk).moment c → (state disk).images c)
    (total : ℕ) (old : TwinState D) where
  -- a journal that has not failed is a desk that has just started
  desk_of : old.fault ≡ 0 → (c : ℕ) → (s : Stores state total old c) → IsLeaseDesk state (state old.disk) s.id total old.last.0 old (journal_of [] old.last.0 total 0)
  desk_of free c s = opens state s.id [] total 0 old (record { slots_are = s.slots_are; low = s.low }) free (s.kept free) (s.only free) (only_now old.disk)

  module _ (ceiling : ℕ) (may : CeilingMayFollow total old.last.0 ceiling) (now : TwinState D) where
    rounded : IsRounded total ceiling old.last.0 ceiling
    rounded = record { reaches = omega arith; low = may.low; above = may.above; rule = may.rule }

    stored_new : Moved state old ceiling (Ok tt) now → (c : ℕ) → Stores state total old c → (n : ℕ) → n ≤ now.last.0 → Stores state total now n
    stored_new moved c s n under =
        let desk = raised state (state old.disk) s.id total old.last.0 old (journal_of [] old.last.0 total 0) (desk_of moved.served c s) s.few ceiling ceiling rounded moved.served
        (are_all_used old) now moved.changes moved.any_moment moved.state_is moved.recovered moved.durable moved.faults in
        stores_of state (state old.disk) s.id total old.last.0 now _ desk s.few n under

    is_last : Moved state old ceiling (Ok tt) now → now.last.0 ≡ ceiling
    is_last moved = last_new (are_all_used old) old now ceiling moved.state_is

    -- what was asked for is stored
    pub stores_asked : (result : Result (Unit {0}) JournalFault) → Moved state old ceiling result now → OnOk result ((c : ℕ) → Stores state total old c → Stores state total now ceiling)
    stores_asked (Ok tt) moved = λ c s. let is = is_last moved in stored_new moved c s ceiling (omega (arith, is))
    stores_asked (Err fault) moved = tt

    device : Moved state old ceiling (Err Device) now → (c : ℕ) → Stores state total old c → Stores state total now c
    device moved c s =
        let free = moved.cause.0 in
        let desk = refused state (state old.disk) s.id total old.last.0 old (journal_of [] old.last.0 total 0) (desk_of free c s) s.few ceiling ceiling rounded free
        (are_all_used old) now moved.changes moved.any_moment moved.state_kept moved.read (counts_now now.disk) moved.faults_grow moved.cause.1 moved.cause.2 moved.cause.3 in
        stores_of state (state old.disk) s.id total old.last.0 now _ desk s.few c (omega (arith, s.reaches, desk.risen))

    same : (fault : JournalFault) → (fault ≡ Device → ⊥) → Moved state old ceiling (Err fault) now → now ≡ old
    same fault other moved =
        let kept = not_device _ _ _ _ fault moved.cause other in
        unchanged old now moved.state_kept (moved.unserved kept) kept

    -- what was stored stays stored
    pub keeps : (result : Result (Unit {0}) JournalFault) → Moved state old ceiling result now → (c : ℕ) → Stores state total old c → Stores state total now c
    keeps (Ok tt) moved c s = let is = is_last moved in stored_new moved c s c (omega (arith, s.reaches, is, may.above))
    keeps (Err Device) moved c s = device moved c s
    keeps (Err (Broken first)) moved c s = subst (λ t. Stores state total t c) (sym (same (Broken first) (λ e. cc e) moved)) s
    keeps (Err (Full slots)) moved c s = subst (λ t. Stores state total t c) (sym (same (Full slots) (λ e. cc e) moved)) s

    -- and is so at each moment meanwhile
    moments_free : old.fault ≡ 0 → (result : Result (Unit {0}) JournalFault) → Moved state old ceiling result now → (c : ℕ) → Stores state total old c → LeavesCeiling state total old now c
    moments_free free result moved c s bytes is = (
      s.id,
      leaves_also (raise_leaves state (state old.disk) s.id total old.last.0 old (journal_of [] old.last.0 total 0) (desk_of free c s) s.few ceiling ceiling rounded free
          (are_all_used old) now moved.changes moved.any_moment bytes is) (λ image found. finds_lower s.id total c old.last.0 bytes image s.reaches found),
    )

    moments_same : now ≡ old → (c : ℕ) → Stores state total old c → LeavesCeiling state total old now c
    moments_same is c s = subst (λ t. LeavesCeiling state total old t c) (sym is) (λ bytes told. (
      s.id,
      started (state old.disk) (λ image left. finds_lower s.id total c old.last.0 bytes image s.reaches (s.each bytes told image (only_now old.disk image left))),
    ))

    pub moments : (result : Result (Unit {0}) JournalFault) → Moved state old ceiling result now → (c : ℕ) → Stores state total old c → LeavesCeiling state total old now c
    moments (Ok tt) moved c s = moments_free moved.served (Ok tt) moved c s
    moments (Err Device) moved c s = moments_free moved.cause.0 (Err Device) moved c s
    moments (Err (Broken first)) moved c s = moments_same (same (Broken first) (λ e. cc e) moved) c s
    moments (Err (Full slots)) moved c s = moments_same (same (Full slots) (λ e. cc e) moved) c s
