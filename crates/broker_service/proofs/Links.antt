-- Links taken from a door, and exchanges, one after another.
use Rattle.std.proofs.Common.{◌≡◌, ℕ, ◌+◌, ◌<◌, ◌≤◌, inl, inr, true, false, List, [], ◌∷◌, ◌++◌, refl, sym, ap, ◌∙◌, subst, arith, add-one}
use Rattle.zk_port.specs.Counts.{Rose, counted}
use Rattle.zk_port.specs.Disks.{DiskState}
use Rattle.zk_port.specs.Doors.{DoorState, OnlyTakes, after_refused_next}
use Rattle.zk_port.specs.Links.{LinkState}
use Rattle.lease_store.specs.declared.LeaseFault.{LeaseFault}
use Rattle.session_pool.specs.Doors.{TakesLinks, called}
use Rattle.broker_links.specs.Answers.{Asked}
use Rattle.broker_links.specs.declared.note.BrokerNote.{BrokerNote}
use Rattle.broker_service.specs.Turns.{AreExchanges, AreSomeExchanges, IsExchange, IsNoteStep, Keeping}

-- ---- links

called_next : (n before : ℕ) → called (n + 1) before ≡ counted true (called n before)
called_next n before = rw (add-one n)

-- this door, but for what `next` changes
abbrev but_for : DoorState → DoorState → DoorState
but_for new old = record old { left = new.left; offers = new.offers; nexts = new.nexts; next_faults = new.next_faults }

-- so many links left the door, and it was asked for no more
pub record IsTaking (n : ℕ) (old now : DoorState) : Type 0 where
  pub left : now.left + n ≡ old.left
  pub rest : now ≡ but_for now old
  pub asked : now.nexts ≡ called n old.nexts
  pub calm : now.next_faults ≡ old.next_faults

pub none_taken : (door : DoorState) → IsTaking 0 door door
none_taken door = record { left = omega arith; rest = refl; asked = refl; calm = refl }

module _ (n asks : ℕ) (old now : DoorState) (t : IsTaking n old now) where
  rest_goes : (new was : DoorState) → new ≡ was → but_for new was ≡ but_for new now → new ≡ but_for new old
  rest_goes new was is same = ap (but_for new) is ∙ same ∙ ap (but_for new) t.rest

  asked_more : (new : DoorState) → new.nexts ≡ counted true now.nexts → new.nexts ≡ called (n + 1) old.nexts
  asked_more new is = is ∙ ap (counted true) t.asked ∙ sym (called_next n old.nexts)

  pub one_more : (new : DoorState) → now.left ≡ new.left + 1 → OnlyTakes now new → new.next_faults ≡ now.next_faults → IsTaking (n + 1) old new
  one_more new takes only calm = record {
    left = let a = t.left in omega (arith, a, takes);
    rest = rest_goes new _ only refl;
    asked = asked_more new (ap (λ d. d.nexts) only);
    calm = calm ∙ t.calm;
  }

  -- all that are wanted
  pub takes_all : n ≡ asks → TakesLinks asks n false false old now
  takes_all all = record {
    most = omega (arith, all);
    taken = t.left;
    rest = t.rest;
    asked = inl t.asked;
    all = λ a b. inl all;
    done = λ a. (refl, refl, t.asked);
    failed = λ a. absurd (cc);
    calm = λ a. t.calm;
    later = let a = t.calm in omega (arith, a);
  }

  -- memory was missing before the door was asked
  pub takes_none : n < asks → TakesLinks asks n false true old now
  takes_none some = record {
    most = omega (arith, some);
    taken = t.left;
    rest = t.rest;
    asked = inl t.asked;
    all = λ a b. absurd (cc);
    done = λ a. absurd (omega (arith, a, some));
    failed = λ a. absurd (cc);
    calm = λ a. t.calm;
    later = let a = t.calm in omega (arith, a);
  }

  -- the door has none left
  pub takes_rest : (new : DoorState) → n < asks → (now.left ≡ 0) × (new.left ≡ 0) → OnlyTakes now new → new.next_faults ≡ now.next_faults
      → TakesLinks asks n false false old new
  takes_rest new some none only calm = record {
    most = omega (arith, some);
    taken = let a = t.left in let b = none.0 in let c = none.1 in omega (arith, a, b, c);
    rest = rest_goes new _ only refl;
    asked = inr (asked_more new (ap (λ d. d.nexts) only));
    all = λ a b. inr none.1;
    done = λ a. absurd (omega (arith, a, some));
    failed = λ a. absurd (cc);
    calm = λ a. calm ∙ t.calm;
    later = let a = t.calm in omega (arith, a, calm);
  }

  -- the door found no memory
  pub takes_unserved : (new : DoorState) → n < asks → new ≡ after_refused_next new.next_faults now → new.next_faults ≡ now.next_faults
      → TakesLinks asks n false true old new
  takes_unserved new some is calm = record {
    most = omega (arith, some);
    taken = let a = t.left in let b : new.left ≡ now.left = ap (λ d. d.left) is in omega (arith, a, b);
    rest = rest_goes new _ is refl;
    asked = inr (asked_more new (ap (λ d. d.nexts) is));
    all = λ a b. absurd (cc);
    done = λ a. absurd (omega (arith, a, some));
    failed = λ a. absurd (cc);
    calm = λ a. calm ∙ t.calm;
    later = let a = t.calm in omega (arith, a, calm);
  }

  -- the door failed
  pub takes_failed : (new : DoorState) → n < asks → new ≡ after_refused_next new.next_faults now → Rose now.next_faults new.next_faults
      → now.next_faults ≤ new.next_faults → TakesLinks asks n true false old new
  takes_failed new some is rose more = record {
    most = omega (arith, some);
    taken = let a = t.left in let b : new.left ≡ now.left = ap (λ d. d.left) is in omega (arith, a, b);
    rest = rest_goes new _ is refl;
    asked = inr (asked_more new (ap (λ d. d.nexts) is));
    all = λ a b. absurd (cc);
    done = λ a. absurd (omega (arith, a, some));
    failed = λ a. subst (λ (m : ℕ). Rose m new.next_faults) t.calm rose;
    calm = λ a. absurd (cc);
    later = let a = t.calm in omega (arith, a, more);
  }

-- ---- exchanges

module _ {B L : Type 0} (tells : L → LinkState) (state : B → DiskState) where
  exchanged : (notes : List (BrokerNote L LeaseFault)) (asks : List (Asked LeaseFault)) (note : BrokerNote L LeaseFault) (asked : Asked LeaseFault)
      (old mid new : Keeping) → AreExchanges tells state notes asks old mid → IsExchange tells state note asked mid new
      → AreExchanges tells state (notes ++ note ∷ []) (asks ++ asked ∷ []) old new
  exchanged [] [] note asked old mid new are is = (new, subst (λ (k : Keeping). IsExchange tells state note asked k new) are is, refl)
  exchanged [] (a ∷ asks) note asked old mid new are is = absurd are
  exchanged (n ∷ notes) [] note asked old mid new are is = absurd are
  exchanged (n ∷ notes) (a ∷ asks) note asked old mid new are is = (are.0, are.1, exchanged notes asks note asked are.0 mid new are.2 is)

  pub one_exchange_more : (notes : List (BrokerNote L LeaseFault)) (note : BrokerNote L LeaseFault) (old mid new : Keeping)
      → AreSomeExchanges tells state notes old mid → IsNoteStep tells state note mid new → AreSomeExchanges tells state (notes ++ note ∷ []) old new
  one_exchange_more notes note old mid new are is = (are.0 ++ is.0 ∷ [], exchanged notes are.0 note is.0 old mid new are.1 is.1)
