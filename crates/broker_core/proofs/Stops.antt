-- For the code where memory runs out, and where a lease is refused by the journal.
use Rattle.std.proofs.Common.{◌≡◌, ℕ, Bool, true, false, cond, ◌&&◌, List, [], length, take, refl, sym, ap, ◌∙◌, subst, arith, Option, None, Some, nat_le, nat_lt}
use Rattle.std.specs.Prelude.{Result, Ok, Err, IfOk, OnErr}
use Rattle.std.proofs.Math.Seq.{take-length}
use Rattle.std.proofs.lemmas.Bool.{and_parts, false≢true, lt-ltb}
use Rattle.lease_core.specs.Machine.{Machine, after_all}
use Rattle.lease_core.specs.declared.event.Event.{Event}
use Rattle.zk_model.specs.declared.messages.Want.{Want}
use Rattle.broker_core.specs.Leases.{TookSome, steps_for}
use Rattle.broker_core.specs.Messages.{given, want_at}
use Rattle.broker_core.specs.Safe.{IsCutOff, IsTaken}
use Rattle.broker_core.specs.Worlds.{WorldState, is_node, may_lease, want_to, with_steps}
use Rattle.broker_core.specs.declared.event.BrokerEvent.{BrokerEvent}
use Rattle.broker_core.specs.declared.event.BrokerEvent.TheVariants as event
use Rattle.broker_core.proofs.Whole.{want_is}

pub whatever : {A E : Type 0} {X : Type 0} (r : Result A E) → X → OnErr r X
whatever (Ok x) h = tt
whatever (Err e) h = h

-- nothing changed
pub unchanged : (w now : WorldState) (e : BrokerEvent) → now ≡ w → IsCutOff w e now
unchanged w now e is = (w.lease, (0, omega arith, refl), is)

pub unchanged_result : {A E : Type 0} (w now : WorldState) (e : BrokerEvent) (r : Result A E) → OnErr r (now ≡ w) → OnErr r (IsCutOff w e now)
unchanged_result w now e (Ok x) is = tt
unchanged_result w now e (Err x) is = unchanged w now e is

-- some of the steps for a Want that came
pub served_off : (w now : WorldState) (i : ℕ) (want : Want) → want_to w.sent (length w.nodes) i ≡ Some want → TookSome w.lease (steps_for w.lease w.kept want) now.lease
    → now ≡ record w { lease = now.lease } → IsCutOff w (event.ToBroker i) now
served_off w now i want is took same =
    (now.lease, subst (λ (o : Option Want). TookSome w.lease (given o [] (steps_for w.lease w.kept)) now.lease) (sym is) took, same)

module _ (w : WorldState) (i steps : ℕ) (want : Want) (is : want_to w.sent (length w.nodes) i ≡ Some want) where
  pub failed_off : (lease : Machine) → TookSome w.lease (take steps (steps_for w.lease w.kept want)) lease
      → IsCutOff w (event.BrokerFail i steps) (record w { lease = lease })
  failed_off lease took =
      (lease, subst (λ (o : Option Want). TookSome w.lease (given o [] (λ v. take steps (steps_for w.lease w.kept v))) lease) (sym is) took, refl)

  abbrev may : Want → Bool
  may v = is_node w v.node && nat_le steps (length (steps_for w.lease w.kept v))

  -- whether the lease has so many steps
  may_be : may_lease w i steps ≡ nat_le steps (length (steps_for w.lease w.kept want))
  may_be =
      let there = want_is w.sent (length w.nodes) i want is in
      ap (λ (o : Option Want). given o false may) there.0
      ∙ ap (λ (b : Bool). b && nat_le steps (length (steps_for w.lease w.kept want))) (lt-ltb want.node (length w.nodes) there.1)

  pub failed : (b : Bool) (lease : Machine) → b ≡ nat_le steps (length (steps_for w.lease w.kept want))
      → (b ≡ true → lease ≡ after_all w.lease (take steps (steps_for w.lease w.kept want))) → (b ≡ false → lease ≡ w.lease)
      → IsTaken w (event.BrokerFail i steps) b (record w { lease = lease })
  failed true lease enough taken few =
      let there = want_is w.sent (length w.nodes) i want is in (
        may_be ∙ sym enough,
        ap (λ (m : Machine). record w { lease = m }) (taken refl) ∙ sym (ap (λ (o : Option Want). given o w (with_steps w steps)) there.0),
      )
  failed false lease enough taken few = (may_be ∙ sym enough, ap (λ (m : Machine). record w { lease = m }) (few refl))

  pub failed_result : {E : Type 0} (r : Result Bool E) (lease : Machine) → IfOk r (λ b. b ≡ nat_le steps (length (steps_for w.lease w.kept want)))
      → IfOk r (λ b. b ≡ true → lease ≡ after_all w.lease (take steps (steps_for w.lease w.kept want))) → IfOk r (λ b. b ≡ false → lease ≡ w.lease)
      → IfOk r (λ b. IsTaken w (event.BrokerFail i steps) b (record w { lease = lease }))
  failed_result (Ok b) lease enough taken few = failed b lease enough taken few
  failed_result (Err e) lease enough taken few = tt

  pub failed_off_result : {E : Type 0} (r : Result Bool E) (lease : Machine) → OnErr r (TookSome w.lease (take steps (steps_for w.lease w.kept want)) lease)
      → OnErr r (IsCutOff w (event.BrokerFail i steps) (record w { lease = lease }))
  failed_off_result (Ok b) lease took = tt
  failed_off_result (Err e) lease took = failed_off lease took

-- all of the first steps, where memory ran out after them
pub cut_off : (w now : WorldState) (i steps : ℕ) (body : List ℕ) (gate : ℕ) → IsTaken w (event.BrokerFail i steps) true now → IsCutOff w (event.BrokerCut i steps body gate) now
cut_off w now i steps body gate (may, is) = by_want (want_at w.sent i) refl may is where
  test : Want → Bool
  test v = is_node w v.node && nat_le steps (length (steps_for w.lease w.kept v))

  by_want : (o : Option Want) → want_at w.sent i ≡ o → given o false test ≡ true → now ≡ given o w (with_steps w steps)
      → IsCutOff w (event.BrokerCut i steps body gate) now
  by_want None at may is = absurd (false≢true may)
  by_want (Some want) at may is =
      let there = (and_parts (is_node w want.node) _ may).0 in
      let to : want_to w.sent (length w.nodes) i ≡ Some want =
      ap (λ (o : Option Want). given o None (λ v. cond (nat_lt v.node (length w.nodes)) (Some v) None)) at
      ∙ ap (λ (b : Bool). cond b (Some want) None) there in
      let steps_of : List Event = take steps (steps_for w.lease w.kept want) in (
        after_all w.lease steps_of,
        subst (λ (o : Option Want). TookSome w.lease (given o [] (λ v. take steps (steps_for w.lease w.kept v))) (after_all w.lease steps_of)) (sym to)
            (length steps_of, omega arith, ap (after_all w.lease) (sym (take-length steps_of))),
        is,
      )
