-- What a journal says at its start.
use Rattle.std.proofs.Common.{◌≡◌, ◌≤◌, ℕ, zero, suc, List, length, get_or, true, Some, IsSomeAnd, refl, ap, sym, ◌∙◌, subst, arith}
use Rattle.std.proofs.lemmas.Bool.Decides.{nat_tests}
use Rattle.zk_port.specs.Counts.{Rose}
use Rattle.zk_port.specs.Disks.{DiskState}
use Rattle.zk_port.specs.Images.{Only}
use Rattle.zk_model.specs.declared.JournalKind.TheVariants.{Ceilings}
use Rattle.lease_journal.specs.Journals.{AreSound, body_before, first_bodies, keeps_rule}
use Rattle.lease_journal.specs.Twins.{HoldsTwin, SaysTwin, are_twin_slots, area_at, twin_begin, twin_ceiling_slots}
use Rattle.lease_journal.specs.Scans.{HasRead}
use Rattle.lease_journal.proofs.Moments.{leaves_also, started}
use Rattle.lease_journal.proofs.Sound.{slots_sound}
use Rattle.twin_journal.specs.Starts.{IsTwinOpened}
use Rattle.twin_journal.specs.States.{IsKept, TwinState}
use Rattle.lease_words.specs.Views.{journal_of}
use Rattle.lease_words.specs.declared.view.View.{View}
use Rattle.lease_store.specs.Ceilings.{FindsCeiling, HasCeilingHeader, HasCeilings, SaysCeiling}
use Rattle.lease_store.specs.Desks.{Begins, IsLeaseDesk, IsKeptAt}
use Rattle.lease_store.proofs.Bodies.{last_of_first}
use Rattle.lease_store.proofs.Places.{holds_there}
use Rattle.lease_store.proofs.Covering.{finds_lower}

-- the last ceiling is at most the total, also where the disk tells no content
low_ceiling : (total : ℕ) (bodies : List (ℕ × ℕ)) → AreSound Ceilings total bodies → (count : ℕ) → count ≤ length bodies → (body_before bodies count).0 ≤ total
low_ceiling total bodies sound zero within = omega arith
low_ceiling total bodies sound (suc count) within = low (body_before bodies count).0 (get_or bodies count (0, 0)) (sound count (omega (arith, within)))
  where
    low : (before : ℕ) (body : ℕ × ℕ) → keeps_rule Ceilings total before body ≡ true → body.0 ≤ total
    low before body keeps = grind (arith, nat_tests)

right_slots : (total slots : ℕ) → are_twin_slots Ceilings total slots ≡ true → slots ≡ twin_ceiling_slots total
right_slots total slots right = grind (arith, nat_tests)

-- the slots and the ceiling of a journal that was opened
pub record IsRight (total slots last : ℕ) : Type 0 where
  pub slots_are : slots ≡ twin_ceiling_slots total
  pub low : last ≤ total

pub opens_right : (total slots used : ℕ) (last : ℕ × ℕ) → are_twin_slots Ceilings total slots ≡ true → HasRead Ceilings total used last → IsRight total slots last.0
opens_right total slots used last fits read =
    let is : last.0 ≡ (body_before read.bodies used).0 = ap (λ (b : ℕ × ℕ). b.0) read.last_is in
    record {
      slots_are = right_slots total slots fits;
      low = omega (arith, is, low_ceiling total read.bodies read.sound used (omega (arith, read.count)));
    }

-- the bytes say the last ceiling
pub kept_at : {D : Type 0} (state : D → DiskState) (id other : List ℕ) (total : ℕ) (journal : TwinState D) (bytes : List ℕ) → journal.slots ≡ twin_ceiling_slots total
    → twin_begin Ceilings bytes ≡ journal.begin
    → IsTwinOpened Ceilings other total journal.begin journal.slots journal.used journal.last journal.second journal.generation journal.other_open bytes
    → HasCeilingHeader id total bytes
    → IsKept state journal (first_bodies (area_at journal.begin journal.slots journal.second) journal.used bytes) bytes → IsKeptAt state id total journal bytes
kept_at state id other total journal bytes are begins opened header kept = record {
  bodies = first_bodies (area_at journal.begin journal.slots journal.second) journal.used bytes;
  kept = kept;
  says = record {
    holds = subst (λ n. HoldsTwin Ceilings id total journal.begin n bytes) are (holds_there id total journal.begin journal.slots bytes begins opened.stands.says header);
    says = subst (λ n. SaysTwin journal.begin n journal.generation (first_bodies (area_at journal.begin journal.slots journal.second) journal.used bytes) bytes) are
        (record { second = journal.second; area = kept.area });
    sound = slots_sound Ceilings total (area_at journal.begin journal.slots journal.second) journal.used bytes opened.sound;
    may_have = opened.may_have;
  };
  last = last_of_first (area_at journal.begin journal.slots journal.second) journal.used bytes ∙ ap (λ (b : ℕ × ℕ). b.0) (sym opened.last_is);
}

second_zero : (total before : ℕ) (body : ℕ × ℕ) → keeps_rule Ceilings total before body ≡ true → body.1 ≡ 0
second_zero total before body keeps = grind (arith, nat_tests)

pub says_ceiling : (id : List ℕ) (total begin generation ceiling : ℕ) (bodies : List (ℕ × ℕ)) (bytes : List ℕ) → HasCeilings id total begin generation bodies bytes
    → (body_before bodies (length bodies)).0 ≡ ceiling → SaysCeiling id total ceiling bytes
says_ceiling id total begin generation ceiling bodies bytes says last = record {
  begin = begin;
  generation = generation;
  bodies = bodies;
  says = says;
  last = last;
  seconds = λ place below. second_zero total (body_before bodies place).0 (get_or bodies place (0, 0)) (says.sound place below);
}

pub kept_says : {D : Type 0} (state : D → DiskState) (id : List ℕ) (total : ℕ) (journal : TwinState D) (bytes : List ℕ) → IsKeptAt state id total journal bytes
    → SaysCeiling id total journal.last.0 bytes
kept_says state id total journal bytes kept = says_ceiling id total journal.begin journal.generation journal.last.0 kept.bodies bytes kept.says kept.last

found_at : {D : Type 0} (state : D → DiskState) (id : List ℕ) (total : ℕ) (journal : TwinState D) (bytes : List ℕ) → IsKeptAt state id total journal bytes
    → FindsCeiling id total journal.last.0 bytes bytes
found_at state id total journal bytes kept = record {
  begin = journal.begin;
  generation = journal.generation;
  bodies = kept.bodies;
  says = kept.says;
  reaches = omega (arith, kept.last);
  began = kept.says.holds.begins;
}

module _ {D : Type 0} (state : D → DiskState) (id name : List ℕ) (total passes : ℕ) (journal : TwinState D) where
  pub opens : IsRight total journal.slots journal.last.0 → journal.fault ≡ 0
      → ((bytes : List ℕ) → (state journal.disk).content ≡ Some bytes → IsKeptAt state id total journal bytes)
      → Only (state journal.disk).content (state journal.disk).images
      → ((c : List ℕ) → (state journal.disk).images_since (state journal.disk).moment c → (state journal.disk).images c)
      → IsLeaseDesk state (state journal.disk) id total journal.last.0 journal (journal_of name journal.last.0 total passes)
  opens right none kept only only_now = record {
    total_is = refl;
    ceiling = refl;
    mark = sym none;
    low = right.low;
    slots_are = right.slots_are;
    risen = omega arith;
    kept = λ free. kept;
    only = λ free. only;
    told = λ bytes is. (bytes, is);
    read = λ first is. subst (λ o. IsSomeAnd o (FindsCeiling id total journal.last.0 first)) (sym is) (found first is);
    durable = durable;
    any_moment = λ first is. started (state journal.disk) (λ image left. durable first is image (only_now image left));
    chosen = refl;
    room = refl;
    later = omega arith;
    still = λ free. refl;
    rose = λ some. absurd (some none);
  }
    where
      found : (first : List ℕ) → (state journal.disk).content ≡ Some first → FindsCeiling id total journal.last.0 first first
      found first is = found_at state id total journal first (kept first is)

      durable : (first : List ℕ) → (state journal.disk).content ≡ Some first → (image : List ℕ) → (state journal.disk).images image
          → FindsCeiling id total journal.last.0 first image
      durable first is image left =
          subst (FindsCeiling id total journal.last.0 first) (sym (subst (λ o. Only o (state journal.disk).images) is only image left)) (found first is)

-- a disk begins at itself
pub begins_here : (s : DiskState) → ((c : List ℕ) → s.images_since s.moment c → s.images c) → Begins s s
begins_here s only_now = record { chosen = refl; content = refl; room = refl; faults = refl; any_moment = started s only_now }

-- the desk of a store that has a name
pub named : {D : Type 0} (state : D → DiskState) (start : DiskState) (id : List ℕ) (total base : ℕ) (journal : TwinState D) (v : View)
    → Begins start (state journal.disk) → base ≡ journal.last.0
    → IsLeaseDesk state (state journal.disk) id total base journal v → IsLeaseDesk state start id total base journal v
named state start id total base journal v begins same desk = record {
  total_is = desk.total_is;
  ceiling = desk.ceiling;
  mark = desk.mark;
  low = desk.low;
  slots_are = desk.slots_are;
  risen = desk.risen;
  kept = desk.kept;
  only = desk.only;
  told = λ bytes is. (bytes, sym begins.content ∙ is);
  read = λ first is. desk.read first (begins.content ∙ is);
  durable = λ first is. desk.durable first (begins.content ∙ is);
  any_moment = λ first is. leaves_also begins.any_moment
      (λ image left. finds_lower id total base journal.last.0 first image desk.risen (desk.durable first (begins.content ∙ is) image left));
  chosen = begins.chosen;
  room = begins.room;
  later = omega (arith, begins.faults);
  still = λ free. begins.faults;
  rose = λ some. let both = desk.rose some in (subst (λ n. Rose n journal.fault) begins.faults both.0, both.1);
}
