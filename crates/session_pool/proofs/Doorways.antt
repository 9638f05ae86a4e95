-- What a doorway keeps behind each answer of the door.
use Rattle.std.proofs.Common.{◌≡◌, ℕ, ◌+◌, ◌<◌, ◌≤◌, Bool, true, false, refl, sym, ap, ◌∙◌, subst, arith, add-one}
use Rattle.std.specs.Prelude.{◌||◌, cond, nat_eq}
use Rattle.std.proofs.lemmas.Bool.Decides.{nat_tests}
use Rattle.zk_port.specs.Counts.{Rose, counted}
use Rattle.zk_port.specs.Doors.{DoorState, OnlyTakes, after_refused_next}
use Rattle.session_pool.specs.Doors.{called}
use Rattle.session_pool.specs.Doorways.{IsDoorway, is_done}

called_next : (n before : ℕ) → called (n + 1) before ≡ counted true (called n before)
called_next n before = rw (add-one n)

-- this door, but for what `next` changes
abbrev but_for : DoorState → DoorState → DoorState
but_for new old = record old { left = new.left; offers = new.offers; nexts = new.nexts; next_faults = new.next_faults }

rest_goes : (first old new was : DoorState) → old ≡ but_for old first → new ≡ was → but_for new was ≡ but_for new old → new ≡ but_for new first
rest_goes first old new was before now same = ap (but_for new) now ∙ same ∙ ap (but_for new) before

module _ (first old new : DoorState) (wanted total taken sessions : ℕ) (w : IsDoorway first wanted old total taken sessions false false false) where
  asked_more : new.nexts ≡ counted true old.nexts → new.nexts ≡ called (taken + 1) first.nexts
  asked_more is = is ∙ ap (counted true) w.asked ∙ sym (called_next taken first.nexts)

  gives : (total_now : ℕ) → total_now ≡ total + 1 → taken < sessions → old.left ≡ new.left + 1 → OnlyTakes old new → new.next_faults ≡ old.next_faults
      → IsDoorway first wanted new total_now (taken + 1) sessions false false false
  gives total_now total_is some takes only calm = record {
    counted = let a = w.counted in omega (arith, a, total_is);
    sessions_are = w.sessions_are;
    most = omega (arith, some);
    left_is = let a = w.left_is in omega (arith, a, takes);
    none = λ x. (cc);
    rest = rest_goes first old new _ w.rest only refl;
    asked = asked_more (ap (λ d. d.nexts) only);
    short = λ x. (cc);
    failed = λ x. (cc);
    calm = λ x. calm ∙ w.calm refl;
    later = let a = w.later in omega (arith, a, calm);
  }

  -- the call was refused
  refused : (failed unserved : Bool) → (failed || unserved) ≡ true → taken < sessions → new ≡ after_refused_next new.next_faults old → (failed ≡ true → Rose old.next_faults new.next_faults)
      → (failed ≡ false → new.next_faults ≡ old.next_faults) → old.next_faults ≤ new.next_faults → IsDoorway first wanted new total taken sessions false failed unserved
  refused failed unserved one some is rose calm more = record {
    counted = w.counted;
    sessions_are = w.sessions_are;
    most = w.most;
    left_is = let a = w.left_is in let b : new.left ≡ old.left = ap (λ d. d.left) is in omega (arith, a, b);
    none = λ x. (cc);
    rest = rest_goes first old new _ w.rest is refl;
    asked = subst (λ b. new.nexts ≡ called (cond b (taken + 1) taken) first.nexts) (sym one) (asked_more (ap (λ d. d.nexts) is));
    short = λ x. some;
    failed = λ x. subst (λ (n : ℕ). Rose n new.next_faults) (w.calm refl) (rose x);
    calm = λ x. calm x ∙ w.calm refl;
    later = let a = w.later in omega (arith, a, more);
  }

  fails : taken < sessions → new ≡ after_refused_next new.next_faults old → Rose old.next_faults new.next_faults → old.next_faults ≤ new.next_faults
      → IsDoorway first wanted new total taken sessions false true false
  fails some is rose more = refused true false refl some is (λ x. rose) (λ x. absurd cc) more

  is_unserved : taken < sessions → new ≡ after_refused_next new.next_faults old → new.next_faults ≡ old.next_faults → IsDoorway first wanted new total taken sessions false false true
  is_unserved some is calm = refused false true refl some is (λ x. absurd cc) (λ x. calm) (omega (arith, calm))

-- ---- where it is not done

none_of : (b e d m : Bool) → (b || e || d || m) ≡ false → (b ≡ false) × (e ≡ false) × (d ≡ false) × (m ≡ false)
none_of true e d m h = absurd (cc)
none_of false true d m h = absurd (cc)
none_of false false true m h = absurd (cc)
none_of false false false true h = absurd (cc)
none_of false false false false h = (refl, refl, refl, refl)

fewer : (taken sessions : ℕ) → nat_eq taken sessions ≡ false → taken ≤ sessions → taken < sessions
fewer taken sessions other most = grind (arith, nat_tests)

-- nor was a worker starved
calls : (taken sessions : ℕ) (emptied door_failed memory_failed starved : Bool) → is_done taken sessions emptied door_failed (memory_failed || starved) ≡ false
    → (is_done taken sessions emptied door_failed memory_failed ≡ false) × (starved ≡ false)
calls taken sessions emptied door_failed true starved going = let f = (none_of (nat_eq taken sessions) emptied door_failed true going).3 in absurd (cc)
calls taken sessions emptied door_failed false starved going =
    let calm = (none_of (nat_eq taken sessions) emptied door_failed starved going).3 in
    (subst (λ b. is_done taken sessions emptied door_failed b ≡ false) calm going, calm)

-- so links are still wanted
pub some_wanted : (taken sessions : ℕ) (emptied door_failed memory_failed starved : Bool) → is_done taken sessions emptied door_failed (memory_failed || starved) ≡ false → taken ≤ sessions
    → taken < sessions
some_wanted taken sessions emptied door_failed memory_failed starved going most =
    fewer taken sessions (none_of (nat_eq taken sessions) emptied door_failed (memory_failed || starved) going).0 most

-- who is not starved has no room to want
not_starved : (starved : Bool) (taken sessions : ℕ) → starved ≡ false → starved ≡ true → taken < sessions
not_starved starved taken sessions calm is = absurd (cc)

module _ (first old new : DoorState) (wanted total taken sessions : ℕ) (emptied door_failed memory_failed starved : Bool)
    (w : IsDoorway first wanted old total taken sessions emptied door_failed memory_failed) (going : is_done taken sessions emptied door_failed (memory_failed || starved) ≡ false) where
  still : (is_done taken sessions emptied door_failed memory_failed ≡ false) × (starved ≡ false)
  still = calls taken sessions emptied door_failed memory_failed starved going

  pub gives_now : (total_now : ℕ) → total_now ≡ total + 1 → old.left ≡ new.left + 1 → OnlyTakes old new → new.next_faults ≡ old.next_faults
      → IsDoorway first wanted new total_now (taken + 1) sessions emptied door_failed memory_failed × (starved ≡ true → taken + 1 < sessions)
  gives_now total_now total_is takes only calm =
      let f = none_of (nat_eq taken sessions) emptied door_failed memory_failed still.0 in
      (rw (f.1, f.2, f.3) (gives first old new wanted total taken sessions (rw (f.1, f.2, f.3) at w) total_now total_is (fewer taken sessions f.0 w.most) takes only calm), not_starved starved (taken + 1) sessions still.1)

  pub fails_now : new ≡ after_refused_next new.next_faults old → Rose old.next_faults new.next_faults → old.next_faults ≤ new.next_faults
      → IsDoorway first wanted new total taken sessions emptied true memory_failed × (starved ≡ true → taken < sessions)
  fails_now is rose more =
      let f = none_of (nat_eq taken sessions) emptied door_failed memory_failed still.0 in
      (rw (f.1, f.3) (fails first old new wanted total taken sessions (rw (f.1, f.2, f.3) at w) (fewer taken sessions f.0 w.most) is rose more), not_starved starved taken sessions still.1)

  pub is_unserved_now : new ≡ after_refused_next new.next_faults old → new.next_faults ≡ old.next_faults
      → IsDoorway first wanted new total taken sessions emptied door_failed true × (starved ≡ true → taken < sessions)
  is_unserved_now is calm =
      let f = none_of (nat_eq taken sessions) emptied door_failed memory_failed still.0 in
      (rw (f.1, f.2) (is_unserved first old new wanted total taken sessions (rw (f.1, f.2, f.3) at w) (fewer taken sessions f.0 w.most) is calm), not_starved starved taken sessions still.1)
