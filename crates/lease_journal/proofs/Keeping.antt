-- What stays of a journal while one slot is written.
use Rattle.std.proofs.Common.{◌≡◌, ◌≢◌, ◌<◌, ◌≤◌, ◌+◌, ◌==◌, ◌&&◌, ◌||◌, not, nat_lt, nat_le, if◌then◌else◌, inl, inr, ℕ, List, length, get_or, false, Option, Some, None, IfSome, IsSomeAnd, ⊎_elim, refl, ap, sym, ◌∙◌, subst, arith}
use Rattle.std.specs.Option.{option_map}
use Rattle.std.proofs.lemmas.Bool.{cases_eq}
use Rattle.std.specs.Int.{w64, from_le_bytes}
use Rattle.zk_port.specs.Disks.{DiskState, Stays, Steps}
use Rattle.zk_port.specs.Images.{IsOutside, IsTorn, StepsBy, written_at}
use Rattle.zk_port.proofs.Torn.{torn_by_write}
use Rattle.zk_model.specs.declared.JournalKind.{JournalKind}
use Rattle.lease_journal.specs.Journals.{SameWhere, are_slots, journal_header, slots_at}
use Rattle.lease_journal.specs.Twins.{HasMovedHeader, is_wrong_beside_gate}
use Rattle.lease_journal.specs.Keeps.{ChangesAt, IsSpared, Keeps}
use Rattle.lease_journal.specs.Steps.{TornFrom}
use Rattle.lease_journal.proofs.Moments.{goes_on, leaves_also, started, then_leaves}
use Rattle.lease_journal.proofs.Torn.{same_part, untorn}

-- a torn write is one of a wider range
pub torn_wider : (at n from m : ℕ) (old new : List ℕ) → from ≤ at → at + n ≤ from + m → IsTorn at n old new → IsTorn from m old new
torn_wider at n from m old new low high torn = record {
  least = torn.least;
  most = omega (arith, torn.most, high);
  kept = λ place inside outside. torn.kept place inside
      (⊎_elim (λ ahead. inl (omega (arith, ahead, low))) (λ behind. inr (omega (arith, behind, high))) outside);
}

-- two torn writes of one range are one
pub torn_again : (at n : ℕ) (a b c : List ℕ) → IsTorn at n a b → IsTorn at n b c → IsTorn at n a c
torn_again at n a b c first second = record {
  least = omega (arith, first.least, second.least);
  most = omega (arith, first.most, second.most);
  kept = λ place inside outside. second.kept place (omega (arith, inside, first.least)) outside ∙ first.kept place inside outside;
}

-- at each place of the header but the gate of the migration
pub record SameBeside (old new : List ℕ) : Type 0 where
  pub whole : 64 ≤ length old
  pub longer : length old ≤ length new
  pub same : (place : ℕ) → place < 64 → place ≢ 15 → get_or new place 0 ≡ get_or old place 0

pub torn_beside : (at n : ℕ) (old new : List ℕ) → (((place : ℕ) → place < 64 → place ≢ 15 → IsOutside at n place)) → 64 ≤ length old → IsTorn at n old new → SameBeside old new
torn_beside at n old new beside whole torn = record {
  whole = whole;
  longer = torn.least;
  same = λ place inside apart. torn.kept place (omega (arith, inside, whole)) (beside place inside apart);
}

pub moved_slots : (old new : List ℕ) → SameBeside old new → slots_at new ≡ slots_at old
moved_slots old new kept =
    ap (from_le_bytes w64) (same_part old new 24 8 (omega (arith, kept.whole)) (omega (arith, kept.whole, kept.longer))
    (λ i below. kept.same (24 + i) (omega (arith, below)) (λ e. omega (arith, e))))

moved_wrong : (kind : JournalKind) (id : List ℕ) (total : ℕ) (old new : List ℕ) → SameBeside old new → (place : ℕ) → place < 64
    → is_wrong_beside_gate kind id total new place ≡ is_wrong_beside_gate kind id total old place
moved_wrong kind id total old new kept place inside = ⊎_elim
    (λ gate. at_gate new gate ∙ sym (at_gate old gate))
    (λ apart.
    let byte : get_or new place 0 ≡ get_or old place 0 = kept.same place inside apart in
    let slots : slots_at new ≡ slots_at old = moved_slots old new kept in
    λ i. not (place == 15) && (if place == 24 then not (are_slots kind total (slots i))
    else ((nat_lt place 24 || nat_le 32 place) && not (byte i == get_or (journal_header kind id total 0) place 0))))
    (cases_eq place 15)
  where
    at_gate : (bytes : List ℕ) → place ≡ 15 → is_wrong_beside_gate kind id total bytes place ≡ false
    at_gate bytes gate = subst (λ p. is_wrong_beside_gate kind id total bytes p ≡ false) (sym gate) refl

pub moved_kept : (kind : JournalKind) (id : List ℕ) (total : ℕ) (old new : List ℕ) → SameBeside old new → HasMovedHeader kind id total old → HasMovedHeader kind id total new
moved_kept kind id total old new kept header = record {
  whole = omega (arith, header.whole, kept.longer);
  right = λ place inside. moved_wrong kind id total old new kept place inside ∙ header.right place inside;
}

-- changes of a wider range, and changes of one range one after another
pub step_content : (step wider : List ℕ → List ℕ → Type 0) → ((a b : List ℕ) → step a b → wider a b) → (before after : Option (List ℕ)) → StepsBy step before after → StepsBy wider before after
step_content step wider may None after none = none
step_content step wider may (Some a) (Some b) torn = may a b torn
step_content step wider may (Some a) None none = none

steps_content : (at n : ℕ) (x y z : Option (List ℕ)) → StepsBy (IsTorn at n) x y → StepsBy (IsTorn at n) y z → StepsBy (IsTorn at n) x z
steps_content at n None y z first second = subst (λ o. StepsBy (IsTorn at n) o z) first second
steps_content at n (Some a) None z first second = absurd first
steps_content at n (Some a) (Some b) None first second = second
steps_content at n (Some a) (Some b) (Some c) first second = torn_again at n a b c first second

pub changes_wider : {old new : DiskState} (at n from m : ℕ) → from ≤ at → at + n ≤ from + m → ChangesAt at n old new → ChangesAt from m old new
changes_wider {old} {new} at n from m low high changes = record {
  chosen = changes.chosen;
  room = changes.room;
  content = step_content (IsTorn at n) (IsTorn from m) (λ a b torn. torn_wider at n from m a b low high torn) old.content new.content changes.content;
  crash = λ c left. let was = changes.crash c left in (was.0, was.1, torn_wider at n from m was.0 c low high was.2);
  any_moment = leaves_also changes.any_moment (λ c was. (was.0, was.1, torn_wider at n from m was.0 c low high was.2));
}

pub changes_then : {old middle new : DiskState} (at n : ℕ) → ChangesAt at n old middle → ChangesAt at n middle new → ChangesAt at n old new
changes_then {old} {middle} {new} at n first second = record {
  chosen = second.chosen ∙ first.chosen;
  room = second.room ∙ first.room;
  content = steps_content at n old.content middle.content new.content first.content second.content;
  crash = λ c left. both c (second.crash c left);
  any_moment = then_leaves first.any_moment (leaves_also second.any_moment both);
}
  where
    both : (c : List ℕ) → TornFrom at n middle.images c → TornFrom at n old.images c
    both c later = let was = first.crash later.0 later.1 in (was.0, was.1, torn_again at n was.0 later.0 c was.2 later.2)

-- no call changes nothing
pub changes_none : (at n : ℕ) (s : DiskState) → ((c : List ℕ) → s.images_since s.moment c → s.images c) → ChangesAt at n s s
changes_none at n s only = record {
  chosen = refl;
  room = refl;
  content = here s.content;
  crash = λ c left. (c, left, untorn at n c);
  any_moment = started s (λ c left. (c, only c left, untorn at n c));
}
  where
    here : (o : Option (List ℕ)) → StepsBy (IsTorn at n) o o
    here None = refl
    here (Some bytes) = untorn at n bytes

-- one write, and then a sync
pub changes_write : (at n : ℕ) {old new : DiskState} → ((c : List ℕ) → old.images_since old.moment c → old.images c)
    → Steps (IsTorn at n) old new → StepsBy (IsTorn at n) old.content new.content → ChangesAt at n old new
changes_write at n {old} {new} only steps content = record {
  chosen = steps.chosen;
  room = steps.room;
  content = content;
  crash = steps.crash;
  any_moment = goes_on (changes_none at n old only).any_moment steps.time steps.crash;
}

pub changes_sync : (at n : ℕ) {old middle new : DiskState} → ChangesAt at n old middle → Stays middle new → ChangesAt at n old new
changes_sync at n {old} {middle} {new} changes stays = record {
  chosen = stays.chosen ∙ changes.chosen;
  room = stays.room ∙ changes.room;
  content = subst (λ o. StepsBy (IsTorn at n) old.content o) (sym stays.content) changes.content;
  crash = λ c left. changes.crash c (stays.crash c left);
  any_moment = goes_on changes.any_moment stays.time (λ c left. changes.crash c (stays.crash c left));
}

pub steps_written : (at : ℕ) (bytes : List ℕ) (old new : Option (List ℕ)) → new ≡ option_map (written_at at bytes) old → StepsBy (IsTorn at (length bytes)) old new
steps_written at bytes None new is = is
steps_written at bytes (Some old) new is = subst (λ o. IsSomeAnd o (IsTorn at (length bytes) old)) (sym is) (torn_by_write at bytes old)

-- what changes of one range keep
pub keeps : {old new : DiskState} (at n : ℕ) (P : List ℕ → Type 0) → ChangesAt at n old new → ((a b : List ℕ) → P a → IsTorn at n a b → P b) → Keeps P old new
keeps {old} {new} at n P changes step = record {
  content = in_content old.content new.content changes.content;
  any_moment = λ had. leaves_also changes.any_moment (λ c torn. step torn.0 c (had torn.0 torn.1) torn.2);
}
  where
    in_content : (before after : Option (List ℕ)) → StepsBy (IsTorn at n) before after → IfSome before P → IfSome after P
    in_content None after none had = subst (λ o. IfSome o P) (sym none) tt
    in_content (Some a) (Some b) torn had = step a b had torn
    in_content (Some a) None torn had = tt

-- a write of a body or of a gate spares what stands beside both
spared_step : (first : List ℕ) (at from n : ℕ) → ((place : ℕ) → IsSpared first at place → IsOutside from n place) → (a b : List ℕ)
    → SameWhere (IsSpared first at) first a → IsTorn from n a b → SameWhere (IsSpared first at) first b
spared_step first at from n beside a b had torn = record {
  longer = omega (arith, had.longer, torn.least);
  same = λ place spared. torn.kept place (omega (arith, spared.0, had.longer)) (beside place spared) ∙ had.same place spared;
}

pub spares_body : {old new : DiskState} (at : ℕ) → ChangesAt at 16 old new → (first : List ℕ) → Keeps (SameWhere (IsSpared first at) first) old new
spares_body at changes first =
    keeps at 16 (SameWhere (IsSpared first at) first) changes (spared_step first at at 16 (λ place spared. spared.1))

pub spares_both : {old middle new : DiskState} (at : ℕ) → ChangesAt at 16 old middle → ChangesAt (at + 31) 1 middle new → (first : List ℕ)
    → Keeps (SameWhere (IsSpared first at) first) old new
spares_both {old} {middle} {new} at body gate first = record {
  content = λ had. later.content (sooner.content had);
  any_moment = λ had. then_leaves (sooner.any_moment had) (later.any_moment (λ c left.
      let was = body.crash c left in
      spared_step first at at 16 (λ place spared. spared.1) was.0 c (had was.0 was.1) was.2));
}
  where
    sooner : Keeps (SameWhere (IsSpared first at) first) old middle
    sooner = spares_body at body first

    later : Keeps (SameWhere (IsSpared first at) first) middle new
    later = keeps (at + 31) 1 (SameWhere (IsSpared first at) first) gate (spared_step first at (at + 31) 1 (λ place spared. spared.2))
