-- A deed of a broker is an event of the world.
use Rattle.std.proofs.Common.{◌≡◌, ℕ, ◌+◌, ◌-◌, ◌^◌, ◌<◌, ◌≤◌, min, inl, Bool, true, false, ◌&&◌, List, [], ◌∷◌, ◌++◌, length, replicate, take, refl, sym, ap, ◌∙◌, subst, arith, Option, None, Some, nat_le, nat_lt}
use Rattle.std.specs.List.{All, Contains}
use Rattle.std.specs.Prelude.{IfSome, IsSomeAnd, MatchOption, Result, Ok, Err}
use Rattle.std.specs.Option.{option_and_then}
use Rattle.std.proofs.Math.Seq.{take-length}
use Rattle.std.proofs.lemmas.Bool.{and_from, le-leb, le-ltb, lt-ltb}
use Rattle.std.proofs.lemmas.List.{append-nil, length-replicate, length-set}
use Rattle.std.proofs.lemmas.List.Elements.{All-contains}
use Rattle.std.proofs.lemmas.Option.{MatchOption-at_none, slice_get_read}
use Rattle.zk_model.specs.declared.Span.{Span}
use Rattle.zk_model.specs.declared.messages.Block.{Block}
use Rattle.zk_model.specs.declared.messages.Out.{Out}
use Rattle.zk_model.specs.declared.messages.Want.{Want}
use Rattle.zk_port.specs.Disks.{DiskState}
use Rattle.lease_core.specs.Machine.{after_all, durable}
use Rattle.lease_core.specs.declared.event.Event.{Event}
use Rattle.lease_core.proofs.Reached.{reached_is_consistent}
use Rattle.lease_words.specs.Calls.{IsExhausted, entries_of, greatest_end, number_of, seen}
use Rattle.lease_words.specs.Views.{entry}
use Rattle.lease_words.specs.declared.fault.Exhausted.{Exhausted}
use Rattle.lease_words.specs.declared.pass.Pass.{Pass}
use Rattle.lease_words.specs.declared.view.View.{View}
use Rattle.lease_store.specs.Leases.{HasDrawnUnits, Leased}
use Rattle.lease_store.specs.declared.LeaseFault.{LeaseFault}
use Rattle.lease_store.specs.declared.LeaseFault.TheVariants as lease
use Rattle.broker_core.specs.Leases.{end_for, is_refused, kept_after, kept_of, last_start, lease_end, lease_steps, repeated, steps_for}
use Rattle.broker_core.specs.Messages.{as_want, block_of, given, rounded, units_of, want_at}
use Rattle.broker_core.specs.Sound.{IsSound}
use Rattle.broker_core.specs.Worlds.{WorldState, after_event, is_node, may_happen, restarted, served, with_steps}
use Rattle.broker_core.specs.declared.event.BrokerEvent.{BrokerEvent}
use Rattle.broker_core.specs.declared.event.BrokerEvent.TheVariants as event
use Rattle.broker_core.specs.declared.message.Kept.{Kept}
use Rattle.broker_core.specs.declared.message.LeaseEnd.{LeaseEnd}
use Rattle.broker_core.specs.declared.message.LeaseEnd.TheVariants as end
use Rattle.broker_core.specs.declared.message.Message.{Message}
use Rattle.broker_core.specs.declared.message.Message.TheVariants as message
use Rattle.broker_core.specs.declared.message.Node.{Node}
use Rattle.broker_core.proofs.Keeps.{grant_for}
use Rattle.broker_core.proofs.Serves.{total_all}
use Rattle.broker_core.proofs.Steps.{rounded_fits}
use Rattle.broker_links.specs.declared.reply.Reply.{Reply}
use Rattle.broker_node.specs.BrokerSteps.{IsBrokerStep, IsLeasedFor, reply_of}
use Rattle.broker_node.specs.Nodes.{IsBeside}
use Rattle.broker_node.specs.Steps.{IsBrokerEvent, IsServedBy, IsStepEvent, LeavesNoPut}
use Rattle.broker_node.specs.declared.broker.Reply.{Reply as Decided}
use Rattle.broker_node.specs.declared.broker.Reply.TheVariants as decided
use Rattle.broker_node.proofs.BrokerEvents.{broker_step_is_event}
use Rattle.broker_service.specs.Turns.{Keeping, said_to_node}
use Rattle.broker_laws.specs.BrokerDeeds.{BrokerDeed, BrokerParty, BrokerRun, IsBrokerDeed, RepliesTo, StartsAnew, StopsWithin, broker_party, broker_run, ceiling_after, drawn_end, message_of, raised, replied_in, replies, starts, stops, wanted_in}
use Rattle.broker_laws.proofs.Ceilings.{draw_keeps, draw_unput, ends_last, lease_keeps, lease_raises, lease_unput, restart_keeps, unraised}

-- ---- what is known of a broker and its world

-- each Want is of one of so many nodes
abbrev pub AreOfNodes : ℕ → List Message → Type 0
AreOfNodes nodes sent = (want : Want) → Contains sent (message.Want want) → want.node < nodes

-- the world is this broker's
pub record IsOfBroker (total nodes : ℕ) (broker : BrokerParty) (w : WorldState) : Type 0 where
  pub total_is : w.lease.total ≡ total
  pub places : length w.kept ≡ nodes
  pub numbers : length w.nodes ≡ nodes
  pub unput : w.lease.stage ≡ 0
  pub ceiling : durable w.lease ≡ broker.ceiling
  pub serves : IfSome broker.run (λ run. IsServedBy run.base w.lease run.keeps.pass × (w.kept ≡ run.keeps.kept))

-- an event is possible, after which the world is this broker's, this more was sent, and the nodes are as they were
pub record IsOneOfBroker (total nodes : ℕ) (now : BrokerParty) (more : List Message) (w : WorldState) : Type 0 where
  pub one : BrokerEvent
  pub possible : may_happen w one ≡ true
  pub broker : IsOfBroker total nodes now (after_event w one)
  pub sent : (after_event w one).sent ≡ w.sent ++ more
  pub nodes_are : (after_event w one).nodes ≡ w.nodes
  pub claims : (after_event w one).claims ≡ w.claims
  pub spent : (after_event w one).spent ≡ w.spent
  pub beside : (number : ℕ) → IsBeside w number one

-- a Want that was sent has a place
want_there : (sent : List Message) (want : Want) → Contains sent (message.Want want) → (i : ℕ) × (want_at sent i ≡ Some want)
want_there sent want (k, l, is) = (k, ap (option_and_then as_want) (slice_get_read sent (length sent) k (message.Want want) refl l (sym is)))

-- of one element
All-one : {X : Type 0} (P : X → Type 0) (x : X) → All P (x ∷ []) → P x
All-one P x all = all 0 x (omega arith)

places_kept : (kept : List (Option Kept)) (want : Want) (e : LeaseEnd) → length (kept_after kept want e) ≡ length kept
places_kept kept want (end.Leased s) = length-set kept want.node (Some (record { number = want.number; span = s }))
places_kept kept want (end.Exhausted at) = refl
places_kept kept want end.Refused = refl

module _ (total nodes : ℕ) (broker : BrokerParty) (w : WorldState) (v : IsSound w) (b : IsOfBroker total nodes broker w) where
  -- the ceiling that is shown is the durable one
  shown : durable w.lease ≡ w.lease.shown
  shown = (reached_is_consistent w.lease v.serving.reached).0.durable_before v.serving.up (let none = b.unput in omega (arith, none))

  -- ---- a start

  pub broker_starts : (pass : Pass) (now : BrokerParty) → StartsAnew total nodes pass broker now → IsOneOfBroker total nodes now [] w
  broker_starts pass now s = record {
    one = event.BrokerCrash [] 0;
    possible = refl;
    broker = subst (λ (x : BrokerParty). IsOfBroker total nodes x (restarted [] 0 w)) (sym s.becomes) (record {
      total_is = b.total_is;
      places = length-replicate (length w.kept) None ∙ b.places;
      numbers = b.numbers;
      unput = refl;
      ceiling = restart_keeps w.lease [] b.unput ∙ b.ceiling;
      serves = (
        record {
          pass = record {
            total = b.total_is ∙ sym s.fresh.1;
            refused = subst (λ (o : Option Exhausted). MatchOption o (is_refused (restarted [] 0 w).lease ≡ false)
                (λ k. (is_refused (restarted [] 0 w).lease ≡ true) × (last_start (restarted [] 0 w).lease ≡ k.at))) (sym s.fresh.2) refl;
          };
          next = restart_keeps w.lease [] b.unput ∙ b.ceiling ∙ sym (ap (greatest_end broker.ceiling) s.fresh.3);
        },
        ap (λ (n : ℕ). replicate n None) b.places,
      );
    });
    sent = sym (append-nil w.sent);
    nodes_are = refl;
    claims = refl;
    spent = refl;
    beside = λ number. tt;
  }

  -- ---- a Want comes

  module _ (of : AreOfNodes nodes w.sent) (run : BrokerRun) (serves : IsServedBy run.base w.lease run.keeps.pass × (w.kept ≡ run.keeps.kept))
      (want : Want) (came : Contains w.sent (message.Want want)) (i : ℕ) (is : want_at w.sent i ≡ Some want) where
    there : is_node w want.node ≡ true
    there = lt-ltb want.node (length w.nodes) (let low = of want came in let all = b.numbers in omega (arith, low, all))

    n_fits : (1 ≤ rounded want.count) × (rounded want.count ≤ 4096)
    n_fits = let c = v.counted want came in rounded_fits want.count c.0 c.1

    -- a lease anew
    steps_are : repeated (kept_of w.kept want.node) want.number ≡ None → steps_for w.lease w.kept want ≡ lease_steps w.lease (rounded want.count)
    steps_are anew = ap (λ (o : Option Span). given o (lease_steps w.lease (rounded want.count)) (λ s. [])) anew

    -- units that the machine may draw next
    fits_raised : (at : ℕ) → repeated (kept_of w.kept want.node) want.number ≡ None → is_refused w.lease ≡ false → w.lease.next ≡ at → at + rounded want.count ≤ total
        → durable (after_all w.lease (steps_for w.lease w.kept want)) ≡ raised total broker.ceiling (at + rounded want.count)
    fits_raised at anew free begins within =
        ap (λ (es : List Event). durable (after_all w.lease es)) (steps_are anew)
        ∙ lease_raises w.lease (rounded want.count) b.unput shown free
        (le-ltb w.lease.total (w.lease.next + rounded want.count) (let t = b.total_is in omega (arith, begins, within, t)))
        ∙ (λ j. raised (b.total_is j) (b.ceiling j) (begins j + rounded want.count))

    -- ---- the broker stops within the lease

    module _ (steps_done : ℕ) (few : steps_done ≤ length (steps_for w.lease w.kept want)) where
      cut_is : after_event w (event.BrokerCut i steps_done [] 0) ≡ restarted [] 0 (with_steps w steps_done want)
      cut_is = ap (λ (o : Option Want). given o w (λ x. restarted [] 0 (with_steps w steps_done x))) is

      cut_possible : may_happen w (event.BrokerCut i steps_done [] 0) ≡ true
      cut_possible = ap (λ (o : Option Want). given o false (λ x. is_node w x.node && nat_le steps_done (length (steps_for w.lease w.kept x)))) is
          ∙ and_from (is_node w want.node) _ there (le-leb steps_done (length (steps_for w.lease w.kept want)) few)

      -- with no put under way, the ceiling is what the steps left
      cut_short_to : (ceiling : ℕ) → (with_steps w steps_done want).lease.stage ≡ 0 → durable (with_steps w steps_done want).lease ≡ ceiling
          → IsOneOfBroker total nodes (broker_party ceiling None) [] w
      cut_short_to ceiling none left = record {
        one = event.BrokerCut i steps_done [] 0;
        possible = cut_possible;
        broker = subst (λ (x : WorldState). IsOfBroker total nodes (broker_party ceiling None) x) (sym cut_is) (record {
          total_is = total_all w.lease (take steps_done (steps_for w.lease w.kept want)) ∙ b.total_is;
          places = length-replicate (length w.kept) None ∙ b.places;
          numbers = b.numbers;
          unput = refl;
          ceiling = restart_keeps (with_steps w steps_done want).lease [] none ∙ left;
          serves = tt;
        });
        sent = ap (λ (x : WorldState). x.sent) cut_is ∙ sym (append-nil w.sent);
        nodes_are = ap (λ (x : WorldState). x.nodes) cut_is;
        claims = ap (λ (x : WorldState). x.claims) cut_is;
        spent = ap (λ (x : WorldState). x.spent) cut_is;
        beside = λ number. tt;
      }

    all_steps : take (length (steps_for w.lease w.kept want)) (steps_for w.lease w.kept want) ≡ steps_for w.lease w.kept want
    all_steps = take-length (steps_for w.lease w.kept want)

    all_unput : repeated (kept_of w.kept want.node) want.number ≡ None → (after_all w.lease (steps_for w.lease w.kept want)).stage ≡ 0
    all_unput anew = ap (λ (es : List Event). (after_all w.lease es).stage) (steps_are anew) ∙ lease_unput w.lease (rounded want.count) b.unput

    pub broker_stops : (stored : Bool) (now : BrokerParty) → StopsWithin total want stored run broker now → IsOneOfBroker total nodes now [] w
    broker_stops true now s =
        let may = s.may refl in
        let anew : repeated (kept_of w.kept want.node) want.number ≡ None =
        ap (λ (k : List (Option Kept)). repeated (kept_of k want.node) want.number) serves.1 ∙ may.anew in
        let free : is_refused w.lease ≡ false = MatchOption-at_none _ _ may.free serves.0.pass.refused in
        subst (λ (x : BrokerParty). IsOneOfBroker total nodes x [] w) (sym s.becomes)
        (cut_short_to (length (steps_for w.lease w.kept want)) (omega arith) (raised total broker.ceiling (drawn_end run.base run.keeps + rounded want.count))
        (ap (λ (es : List Event). (after_all w.lease es).stage) all_steps ∙ all_unput anew)
        (ap (λ (es : List Event). durable (after_all w.lease es)) all_steps
        ∙ fits_raised (drawn_end run.base run.keeps) anew free serves.0.next may.within))
    broker_stops false now s =
        subst (λ (x : BrokerParty). IsOneOfBroker total nodes x [] w) (sym s.becomes)
        (cut_short_to 0 (omega arith) broker.ceiling b.unput b.ceiling)

    -- ---- the broker answers

    module _ (now : Keeping) (new : BrokerParty) where
      -- by an event after which the ceiling is this
      event_to : (one : BrokerEvent) (more : List Message) (ceiling : ℕ) → IsBrokerEvent run.base w one now.kept more now.pass → LeavesNoPut w one
          → now.pass.total ≡ run.keeps.pass.total
          → length (after_event w one).kept ≡ length w.kept → (after_event w one).nodes ≡ w.nodes → (after_event w one).claims ≡ w.claims
          → (after_event w one).spent ≡ w.spent → ((number : ℕ) → IsBeside w number one)
          → durable (after_event w one).lease ≡ ceiling → new ≡ broker_party ceiling (Some (broker_run run.base now))
          → IsOneOfBroker total nodes new more w
      event_to one more ceiling e leaves same_total places nodes_are claims spent beside ceiling_is is_new = record {
        one = one;
        possible = e.possible;
        broker = subst (λ (x : BrokerParty). IsOfBroker total nodes x (after_event w one)) (sym is_new) (record {
          total_is = e.serves.pass.total ∙ same_total ∙ sym serves.0.pass.total ∙ b.total_is;
          places = places ∙ b.places;
          numbers = ap (λ (xs : List Node). length xs) nodes_are ∙ b.numbers;
          unput = leaves b.unput;
          ceiling = ceiling_is;
          serves = (e.serves, e.kept);
        });
        sent = e.sent;
        nodes_are = nodes_are;
        claims = claims;
        spent = spent;
        beside = beside;
      }

      comes_to : (more : List Message) (ceiling : ℕ) → IsBrokerEvent run.base w (event.ToBroker i) now.kept more now.pass → LeavesNoPut w (event.ToBroker i)
          → now.pass.total ≡ run.keeps.pass.total
          → durable (after_all w.lease (steps_for w.lease w.kept want)) ≡ ceiling → new ≡ broker_party ceiling (Some (broker_run run.base now))
          → IsOneOfBroker total nodes new more w
      comes_to more ceiling e leaves same_total ceiling_is is_new =
          let after_is : after_event w (event.ToBroker i) ≡ served w want = ap (λ (o : Option Want). given o w (served w)) is in
          event_to (event.ToBroker i) more ceiling e leaves same_total
          (ap (λ (x : WorldState). length x.kept) after_is ∙ places_kept w.kept want (end_for w.lease w.kept want))
          (ap (λ (x : WorldState). x.nodes) after_is) (ap (λ (x : WorldState). x.claims) after_is) (ap (λ (x : WorldState). x.spent) after_is)
          (λ number. tt) (ap (λ (x : WorldState). durable x.lease) after_is ∙ ceiling_is) is_new

      fails_to : (done ceiling : ℕ) → IsBrokerEvent run.base w (event.BrokerFail i done) now.kept [] now.pass
          → (after_all w.lease (take done (steps_for w.lease w.kept want))).stage ≡ 0 → now.pass.total ≡ run.keeps.pass.total
          → durable (after_all w.lease (take done (steps_for w.lease w.kept want))) ≡ ceiling → new ≡ broker_party ceiling (Some (broker_run run.base now))
          → IsOneOfBroker total nodes new [] w
      fails_to done ceiling e none same_total ceiling_is is_new =
          let after_is : after_event w (event.BrokerFail i done) ≡ with_steps w done want = ap (λ (o : Option Want). given o w (with_steps w done)) is in
          event_to (event.BrokerFail i done) [] ceiling e (λ _. ap (λ (x : WorldState). x.lease.stage) after_is ∙ none) same_total
          (ap (λ (x : WorldState). length x.kept) after_is)
          (ap (λ (x : WorldState). x.nodes) after_is) (ap (λ (x : WorldState). x.claims) after_is) (ap (λ (x : WorldState). x.spent) after_is)
          (λ number. tt) (ap (λ (x : WorldState). durable x.lease) after_is ∙ ceiling_is) is_new

    module _ {C : Type 0} (state : C → DiskState) (answer : Result Reply LeaseFault) (stored : Bool) (now : Keeping) (new : BrokerParty)
        (r : RepliesTo state total want answer stored now run broker new) where
      -- what the step drew begins where all that was drawn before ends
      begins : (start : ℕ) → entries_of now.pass ≡ entries_of run.keeps.pass ++ entry (number_of run.keeps.pass) start (rounded want.count) ∷ []
          → greatest_end run.base (entries_of run.keeps.pass) ≡ start
      begins start is_entry = r.turn (entry (number_of run.keeps.pass) start (rounded want.count)) is_entry

      drawn_ends : (start : ℕ) → HasDrawnUnits run.keeps.pass start (rounded want.count) now.pass → drawn_end run.base now ≡ start + rounded want.count
      drawn_ends start d = ap (greatest_end run.base) d.entry_is
          ∙ ends_last run.base (entries_of run.keeps.pass) (number_of run.keeps.pass) start (rounded want.count) (begins start d.entry_is)

      drawn_raised : (start : ℕ) → HasDrawnUnits run.keeps.pass start (rounded want.count) now.pass → repeated (kept_of w.kept want.node) want.number ≡ None
          → durable (after_all w.lease (steps_for w.lease w.kept want)) ≡ raised total broker.ceiling (start + rounded want.count)
      drawn_raised start d anew =
          fits_raised start anew (MatchOption-at_none _ _ d.was_free serves.0.pass.refused) (serves.0.next ∙ begins start d.entry_is)
          (let low = d.within in let t = serves.0.pass.total in let u = b.total_is in omega (arith, low, t, u))

      abbrev Step : Result Decided LeaseFault → Type 0
      Step made = IsBrokerStep w.kept run.keeps.pass want made now.kept now.pass

      abbrev StepBy : Result Decided LeaseFault → Option Span → Type 0
      StepBy made o = MatchOption o (IsLeasedFor w.kept run.keeps.pass want made now.kept now.pass)
          (λ s. (made ≡ Ok (decided.Block (block_of want.node want.number s))) × (now.kept ≡ w.kept) × (now.pass ≡ run.keeps.pass))

      -- a Block, anew or again
      block_ceiling : (blk : Block) → Step (Ok (decided.Block blk))
          → durable (after_all w.lease (steps_for w.lease w.kept want)) ≡ raised total broker.ceiling (blk.start + blk.count)
      block_ceiling blk step = by_repeat (repeated (kept_of w.kept want.node) want.number) refl step where
        by_answer : (granted : Result Span LeaseFault) → repeated (kept_of w.kept want.node) want.number ≡ None
            → Leased run.keeps.pass (rounded want.count) granted now.pass → Ok (decided.Block blk) ≡ reply_of want granted
            → durable (after_all w.lease (steps_for w.lease w.kept want)) ≡ raised total broker.ceiling (blk.start + blk.count)
        by_answer (Ok s) anew l said =
            let same : blk ≡ block_of want.node want.number s = cc in
            let few = n_fits.1 in let size = l.1 in
            let sum : s.start + rounded want.count ≡ s.start + min (s.end - s.start) (2 ^ 32 - 1) = omega (arith, few, size) in
            drawn_raised s.start l.0 anew ∙ ap (raised total broker.ceiling) (sum ∙ ap (λ (x : Block). x.start + x.count) (sym same))
        by_answer (Err (lease.Exhausted at count whole)) anew l said = absurd (cc)
        by_answer (Err lease.Device) anew l said = absurd (cc)
        by_answer (Err (lease.Broken first)) anew l said = absurd (cc)

        by_repeat : (o : Option Span) → repeated (kept_of w.kept want.node) want.number ≡ o → StepBy (Ok (decided.Block blk)) o
            → durable (after_all w.lease (steps_for w.lease w.kept want)) ≡ raised total broker.ceiling (blk.start + blk.count)
        by_repeat None anew l = by_answer l.answer anew l.leased l.replied
        by_repeat (Some s) again (said, keeps, same_pass) =
            let same : blk ≡ block_of want.node want.number s = cc in
            let none : steps_for w.lease w.kept want ≡ [] = ap (λ (o : Option Span). given o (lease_steps w.lease (rounded want.count)) (λ s. [])) again in
            let grant = grant_for w want v (v.counted want came) s (ap (λ (o : Option Span). given o (lease_end w.lease (rounded want.count)) end.Leased) again) in
            let had : Contains w.lease.spent (units_of blk) = subst (λ (x : Block). Contains w.lease.spent (units_of x)) (sym same)
            (subst (λ (es : List Event). Contains (after_all w.lease es).spent (units_of (block_of want.node want.number s))) none grant.units) in
            let low = All-contains (λ (x : Span). x.end ≤ durable w.lease) w.lease.spent (units_of blk) (reached_is_consistent w.lease v.serving.reached).0.spent_durable had in
            let is_ceiling = b.ceiling in
            ap (λ (es : List Event). durable (after_all w.lease es)) none ∙ b.ceiling
            ∙ sym (unraised total broker.ceiling (blk.start + blk.count) (omega (arith, low, is_ceiling)))

      -- an Out
      out_ceiling : (o : Out) → Step (Ok (decided.Out o)) → durable (after_all w.lease (steps_for w.lease w.kept want)) ≡ broker.ceiling
      out_ceiling o step = by_repeat (repeated (kept_of w.kept want.node) want.number) refl step where
        by_kept : (e : Exhausted) → repeated (kept_of w.kept want.node) want.number ≡ None → (k : Option Exhausted)
            → MatchOption k (IsExhausted run.keeps.pass (rounded want.count) e now.pass) (λ x. (e ≡ x) × (seen now.pass ≡ seen run.keeps.pass))
            → MatchOption k (is_refused w.lease ≡ false) (λ x. (is_refused w.lease ≡ true) × (last_start w.lease ≡ x.at))
            → durable (after_all w.lease (steps_for w.lease w.kept want)) ≡ broker.ceiling
        by_kept e anew None h free =
            let at : w.lease.next ≡ e.at = serves.0.next ∙ begins e.at (ap (λ (x : View). x.entries) h.0) in
            let t = serves.0.pass.total in let count = h.1 in let above = h.3 in
            ap (λ (es : List Event). durable (after_all w.lease es)) (steps_are anew)
            ∙ lease_keeps w.lease (rounded want.count) false true free
            (lt-ltb w.lease.total (w.lease.next + rounded want.count) (omega (arith, at, t, count, above))) refl ∙ b.ceiling
        by_kept e anew (Some k) h refused =
            ap (λ (es : List Event). durable (after_all w.lease es)) (steps_are anew)
            ∙ lease_keeps w.lease (rounded want.count) true (nat_lt w.lease.total (w.lease.next + rounded want.count)) refused.0 refl refl ∙ b.ceiling

        by_answer : (granted : Result Span LeaseFault) → repeated (kept_of w.kept want.node) want.number ≡ None
            → Leased run.keeps.pass (rounded want.count) granted now.pass → Ok (decided.Out o) ≡ reply_of want granted
            → durable (after_all w.lease (steps_for w.lease w.kept want)) ≡ broker.ceiling
        by_answer (Ok s) anew l said = absurd (cc)
        by_answer (Err (lease.Exhausted at count whole)) anew l said =
            by_kept (record { at = at; count = count; total = whole }) anew run.keeps.pass.kept l.1 serves.0.pass.refused
        by_answer (Err lease.Device) anew l said = absurd (cc)
        by_answer (Err (lease.Broken first)) anew l said = absurd (cc)

        by_repeat : (s : Option Span) → repeated (kept_of w.kept want.node) want.number ≡ s → StepBy (Ok (decided.Out o)) s
            → durable (after_all w.lease (steps_for w.lease w.kept want)) ≡ broker.ceiling
        by_repeat None anew l = by_answer l.answer anew l.leased l.replied
        by_repeat (Some s) again (said, keeps, same_pass) = absurd (cc)

      -- a lease that the journal refused
      record WasDrawn : Type 0 where
        anew : repeated (kept_of w.kept want.node) want.number ≡ None
        start : ℕ
        drawn : HasDrawnUnits run.keeps.pass start (rounded want.count) now.pass

      was_drawn : (fault : LeaseFault) → Step (Err fault) → WasDrawn
      was_drawn fault step = by_repeat (repeated (kept_of w.kept want.node) want.number) refl step where
        by_answer : (granted : Result Span LeaseFault) → repeated (kept_of w.kept want.node) want.number ≡ None
            → Leased run.keeps.pass (rounded want.count) granted now.pass → Err fault ≡ reply_of want granted → WasDrawn
        by_answer (Ok s) anew l said = absurd (cc)
        by_answer (Err (lease.Exhausted at count whole)) anew l said = absurd (cc)
        by_answer (Err lease.Device) anew l said = record { anew = anew; start = l.1; drawn = l.2.drawn }
        by_answer (Err (lease.Broken first)) anew l said = record { anew = anew; start = l.1; drawn = l.2.drawn }

        by_repeat : (s : Option Span) → repeated (kept_of w.kept want.node) want.number ≡ s → StepBy (Err fault) s → WasDrawn
        by_repeat None anew l = by_answer l.answer anew l.leased l.replied
        by_repeat (Some s) again (said, keeps, same_pass) = absurd (cc)

      same_total : now.pass.total ≡ run.keeps.pass.total
      same_total = r.step.goes.total

      -- after the draw alone, or after all of the lease
      fails_drawn : (fault : LeaseFault) → Step (Err fault) → IsBrokerEvent run.base w (event.BrokerFail i 1) now.kept [] now.pass
          → new ≡ broker_party broker.ceiling (Some (broker_run run.base now)) → IsOneOfBroker total nodes new [] w
      fails_drawn fault step e goes =
          let d = was_drawn fault step in
          fails_to now new 1 broker.ceiling e
          (ap (λ (es : List Event). (after_all w.lease (take 1 es)).stage) (steps_are d.anew) ∙ draw_unput w.lease (rounded want.count) b.unput) same_total
          (ap (λ (es : List Event). durable (after_all w.lease (take 1 es))) (steps_are d.anew) ∙ draw_keeps w.lease (rounded want.count) ∙ b.ceiling) goes

      fails_stored : (fault : LeaseFault) → Step (Err fault)
          → IsBrokerEvent run.base w (event.BrokerFail i (length (steps_for w.lease w.kept want))) now.kept [] now.pass
          → new ≡ broker_party (raised total broker.ceiling (drawn_end run.base now)) (Some (broker_run run.base now)) → IsOneOfBroker total nodes new [] w
      fails_stored fault step e goes =
          let d = was_drawn fault step in
          fails_to now new (length (steps_for w.lease w.kept want)) (raised total broker.ceiling (drawn_end run.base now)) e
          (ap (λ (es : List Event). (after_all w.lease es).stage) all_steps ∙ all_unput d.anew) same_total
          (ap (λ (es : List Event). durable (after_all w.lease es)) all_steps ∙ drawn_raised d.start d.drawn d.anew
          ∙ ap (raised total broker.ceiling) (sym (drawn_ends d.start d.drawn))) goes

      abbrev Goes : Bool → Result Decided LeaseFault → Type 0
      Goes kept_it made = new ≡ broker_party (ceiling_after total broker.ceiling (drawn_end run.base now) kept_it (said_to_node made)) (Some (broker_run run.base now))

      by_made : (kept_it : Bool) (made : Result Decided LeaseFault) → Step made → IsStepEvent run.base w i want made now.kept now.pass → Goes kept_it made
          → IsOneOfBroker total nodes new (message_of (said_to_node made)) w
      by_made kept_it (Ok (decided.Block blk)) step e goes =
          comes_to now new (message.Block blk ∷ []) (raised total broker.ceiling (blk.start + blk.count)) e.0 e.1 same_total (block_ceiling blk step) goes
      by_made kept_it (Ok (decided.Out o)) step e goes =
          comes_to now new (message.Out o ∷ []) broker.ceiling e.0 e.1 same_total (out_ceiling o step) goes
      by_made true (Err lease.Device) step e goes = fails_stored lease.Device step (e.0 (length (steps_for w.lease w.kept want)) e.1 (omega arith)) goes
      by_made false (Err lease.Device) step e goes = fails_drawn lease.Device step (e.0 1 (omega arith) e.1) goes
      by_made kept_it (Err (lease.Broken first)) step e goes = fails_drawn (lease.Broken first) step e.0 goes
      by_made kept_it (Err (lease.Exhausted at count whole)) step e goes = absurd e

      pub broker_replies : IsOneOfBroker total nodes new (message_of answer) w
      broker_replies =
          let step : Step r.step.made = subst (λ (k : List (Option Kept)). IsBrokerStep k run.keeps.pass want r.step.made now.kept now.pass) (sym serves.1) r.step.step in
          subst (λ (a : Result Reply LeaseFault). IsOneOfBroker total nodes new (message_of a) w) (sym r.step.said)
          (by_made stored r.step.made step
          (broker_step_is_event run.base w i want run.keeps.pass now.pass r.step.made now.kept v serves.0 is there step r.step.goes r.turn (inl b.unput))
          (r.becomes ∙ ap (λ (a : Result Reply LeaseFault). broker_party (ceiling_after total broker.ceiling (drawn_end run.base now) stored a) (Some (broker_run run.base now))) r.step.said))

  -- ---- any deed

  pub broker_deed : {C : Type 0} (state : C → DiskState) (d : BrokerDeed) (now : BrokerParty) → AreOfNodes nodes w.sent
      → All (λ want. Contains w.sent (message.Want want)) (wanted_in d) → IsBrokerDeed state total nodes d broker now
      → IsOneOfBroker total nodes now (replied_in d) w
  broker_deed state (starts pass) now of came did = broker_starts pass now did
  broker_deed state (replies want answer stored keeps) now of came did = by_run broker.run b.serves did where
    by_run : (o : Option BrokerRun) → IfSome o (λ run. IsServedBy run.base w.lease run.keeps.pass × (w.kept ≡ run.keeps.kept))
        → IsSomeAnd o (λ run. RepliesTo state total want answer stored keeps run broker now) → IsOneOfBroker total nodes now (message_of answer) w
    by_run None serves h = absurd h
    by_run (Some run) serves h = let sent = All-one (λ x. Contains w.sent (message.Want x)) want came in let at = want_there w.sent want sent in
        broker_replies of run serves want sent at.0 at.1 state answer stored keeps now h
  broker_deed state (stops want stored) now of came did = by_run broker.run b.serves did where
    by_run : (o : Option BrokerRun) → IfSome o (λ run. IsServedBy run.base w.lease run.keeps.pass × (w.kept ≡ run.keeps.kept))
        → IsSomeAnd o (λ run. StopsWithin total want stored run broker now) → IsOneOfBroker total nodes now [] w
    by_run None serves h = absurd h
    by_run (Some run) serves h = let sent = All-one (λ x. Contains w.sent (message.Want x)) want came in let at = want_there w.sent want sent in
        broker_stops of run serves want sent at.0 at.1 stored now h
