-- Each history is a list of possible events.
use Rattle.std.proofs.Common.{◌≡◌, ◌≢◌, ℕ, zero, suc, ◌<◌, ◌⊎◌, inl, inr, Bool, true, false, cond, ◌&&◌, List, [], ◌∷◌, ◌++◌, length, map, refl, sym, ap, ◌∙◌, subst, arith, Option, None, Some, nat_eq}
use Rattle.std.specs.List.{All, Contains}
use Rattle.std.specs.Prelude.{IfSome, IsSomeAnd, Result, Ok, Err, slice_index_or}
use Rattle.std.proofs.lemmas.Bool.{and_from, and_parts, eqb-false, eqb-true, lt-ltb}
use Rattle.std.proofs.lemmas.List.{append-nil, append_assoc, length-replicate}
use Rattle.std.proofs.lemmas.List.Elements.{Contains-append_cases}
use Rattle.zk_model.specs.declared.Span.{Span}
use Rattle.zk_model.specs.declared.messages.Want.{Want}
use Rattle.zk_port.specs.Disks.{DiskState}
use Rattle.lease_core.specs.Machine.{Machine, durable}
use Rattle.lease_core.specs.Spans.{AreApart, EndBy}
use Rattle.lease_store.specs.declared.LeaseFault.{LeaseFault}
use Rattle.broker_core.specs.Sound.{IsSound}
use Rattle.broker_core.specs.Worlds.{WorldState, after_event, after_events, may_all_happen, may_happen, world_at_first}
use Rattle.broker_core.specs.declared.event.BrokerEvent.{BrokerEvent}
use Rattle.broker_core.specs.declared.message.Kept.{Kept}
use Rattle.broker_core.specs.declared.message.Message.{Message}
use Rattle.broker_core.specs.declared.message.Message.TheVariants as message
use Rattle.broker_core.specs.declared.message.NodeClaim.{NodeClaim}
use Rattle.broker_core.proofs.Keeps.{at_first, is_safe, keeps, keeps_all}
use Rattle.broker_core.proofs.Lists.{in_none}
use Rattle.broker_links.specs.declared.reply.Reply.{Reply}
use Rattle.broker_links.specs.declared.reply.Reply.TheVariants as reply
use Rattle.broker_node.specs.Steps.{IsServedBy}
use Rattle.broker_node.specs.Takes.{IsRunning, claims_by}
use Rattle.broker_node.proofs.Nodes.{others_leave}
use Rattle.broker_laws.specs.BrokerDeeds.{BrokerDeed, BrokerParty, BrokerRun, message_of, replied_in, wanted_in}
use Rattle.broker_laws.specs.BrokerDeeds as broker_deed_of
use Rattle.broker_laws.specs.Histories.{BrokerDid, Deed, Did, Happened, NodeDid, Parties, of_broker, of_node, parties_at_first, units_by, units_in}
use Rattle.broker_laws.specs.Laws.{HistoriesAreEvents, HistoriesDrawOnce}
use Rattle.broker_laws.specs.NodeDeeds.{IsPendingWant, IsNodeDeed, NodeDeed, NodeParty, NodeRun, asked_in, came_in, drawn_in}
use Rattle.broker_laws.specs.NodeDeeds as node_deed_of
use Rattle.broker_laws.specs.Worlds.{IsWorldOf}
use Rattle.broker_laws.proofs.BrokerSteps.{AreOfNodes, IsOneOfBroker, broker_deed}
use Rattle.broker_laws.proofs.NodeSteps.{AreOfNode, IsOfNode, node_deed}

-- ---- events one after another

more_events : (w : WorldState) (first more : List BrokerEvent) → after_events w (first ++ more) ≡ after_events (after_events w first) more
more_events w [] more = refl
more_events w (e ∷ first) more = more_events (after_event w e) first more

more_possible : (w : WorldState) (first more : List BrokerEvent) → may_all_happen w first ≡ true → may_all_happen (after_events w first) more ≡ true
    → may_all_happen w (first ++ more) ≡ true
more_possible w [] more ok then = then
more_possible w (e ∷ first) more ok then =
    let p = and_parts (may_happen w e) (may_all_happen (after_event w e) first) ok in
    and_from (may_happen w e) (may_all_happen (after_event w e) (first ++ more)) p.0 (more_possible (after_event w e) first more p.1 then)

-- ---- what is known after each deed

record IsKnown {B : Type 0} (total nodes : ℕ) (p : Parties B) (spent : List Span) (w : WorldState) : Type 0 where
  sound : IsSound w
  world : IsWorldOf total nodes p w
  of : AreOfNodes nodes w.sent
  spent_is : w.spent ≡ spent

-- possible events lead to a world of which this is known
record IsKnownAfter {B : Type 0} (total nodes : ℕ) (p : Parties B) (spent : List Span) (w : WorldState) : Type 0 where
  events : List BrokerEvent
  possible : may_all_happen w events ≡ true
  known : IsKnown total nodes p spent (after_events w events)

-- a list with none of a kind
no_wants : (want : Want) (answer : Result Reply LeaseFault) → Contains (message_of answer) (message.Want want) → ⊥
no_wants want (Ok (reply.Block b)) (k, l, is) = one k l is where
  one : (k : ℕ) → k < 1 → slice_index_or (message.Block b ∷ []) k (message.Want want) ≡ message.Want want → ⊥
  one zero l is = cc
  one (suc k) l is = absurd (omega (arith, l))
no_wants want (Ok (reply.Out o)) (k, l, is) = one k l is where
  one : (k : ℕ) → k < 1 → slice_index_or (message.Out o ∷ []) k (message.Want want) ≡ message.Want want → ⊥
  one zero l is = cc
  one (suc k) l is = absurd (omega (arith, l))
no_wants want (Err fault) h = in_none (message.Want want) h

replies_no_want : (want : Want) (d : BrokerDeed) → Contains (replied_in d) (message.Want want) → ⊥
replies_no_want want (broker_deed_of.starts pass) h = in_none (message.Want want) h
replies_no_want want (broker_deed_of.replies asked answer stored now) h = no_wants want answer h
replies_no_want want (broker_deed_of.stops asked stored) h = in_none (message.Want want) h

module _ {B C : Type 0} (node_disk : B → DiskState) (broker_disk : C → DiskState) (total nodes : ℕ) where
  -- ---- a deed of the broker

  after_broker : (d : BrokerDeed) (old new : Parties B) (spent : List Span) (w : WorldState) → IsKnown total nodes old spent w
      → BrokerDid node_disk broker_disk total nodes d old new → IsKnownAfter total nodes new spent w
  after_broker d old new spent w k did = subst (λ (x : Parties B). IsKnownAfter total nodes x spent w) (sym did.goes) (record {
    events = e.one ∷ [];
    possible = ap (λ (b : Bool). b && true) e.possible;
    known = record {
      sound = keeps w e.one k.sound e.possible;
      world = record {
        total_is = e.broker.total_is;
        places = e.broker.places;
        numbers = e.broker.numbers;
        unput = e.broker.unput;
        ceiling = e.broker.ceiling;
        serves = e.broker.serves;
        runs = λ number. still number (old.nodes number).run (k.world.runs number);
        claims = λ number. ap (λ (cs : List NodeClaim). claims_by cs number) e.claims ∙ k.world.claims number;
        sent = e.sent ∙ ap (λ (ms : List Message). ms ++ replied_in d) k.world.sent;
      };
      of = subst (AreOfNodes nodes) (sym e.sent) more_of;
      spent_is = e.spent ∙ k.spent_is;
    };
  }) where
    e : IsOneOfBroker total nodes did.now (replied_in d) w
    e = broker_deed total nodes old.broker w k.sound (record {
      total_is = k.world.total_is;
      places = k.world.places;
      numbers = k.world.numbers;
      unput = k.world.unput;
      ceiling = k.world.ceiling;
      serves = k.world.serves;
    }) broker_disk d did.now k.of (subst (λ (ms : List Message). All (λ want. Contains ms (message.Want want)) (wanted_in d)) (sym k.world.sent) did.came) did.did

    still : (number : ℕ) (o : Option (NodeRun B)) → IfSome o (λ run. (run.node.node ≡ number) × IsRunning w run.node run.claims)
        → IfSome o (λ run. (run.node.node ≡ number) × IsRunning (after_event w e.one) run.node run.claims)
    still number None h = tt
    still number (Some run) h = (h.0, others_leave w e.one run.node run.claims h.1 e.possible (e.beside run.node.node))

    more_of : AreOfNodes nodes (w.sent ++ replied_in d)
    more_of want h = by_part (Contains-append_cases w.sent (replied_in d) (message.Want want) h) where
      by_part : (Contains w.sent (message.Want want) ⊎ Contains (replied_in d) (message.Want want)) → want.node < nodes
      by_part (inl before) = k.of want before
      by_part (inr none) = absurd (replies_no_want want d none)

  -- ---- a deed of a node

  asked_of : (number : ℕ) (d : NodeDeed B) (old now : NodeParty B) (w : WorldState) (want : Want) → IsOfNode number old w → IsNodeDeed node_disk total number d old now
      → Contains (map message.Want (asked_in d)) (message.Want want) → want.node ≡ number
  asked_of number (node_deed_of.starts claims) old now w want known did h = absurd (in_none (message.Want want) h)
  asked_of number (node_deed_of.asks asked) old now w want known (a, same) (k, l, is) = by_run old.run known.runs a where
    is_asked : (k : ℕ) → k < 1 → slice_index_or (message.Want asked ∷ []) k (message.Want want) ≡ message.Want want → asked ≡ want
    is_asked zero l is = cc
    is_asked (suc k) l is = absurd (omega (arith, l))

    by_run : (o : Option (NodeRun B)) → IfSome o (λ run. (run.node.node ≡ number) × IsRunning w run.node run.claims) → IsSomeAnd o (IsPendingWant asked) → want.node ≡ number
    by_run None runs asks = absurd asks
    by_run (Some run) runs asks = ap (λ (x : Want). x.node) (sym (is_asked k l is) ∙ asks.0) ∙ runs.0
  asked_of number (node_deed_of.meets b answer kept run) old now w want known did h = absurd (in_none (message.Want want) h)
  asked_of number (node_deed_of.draws count drawn run) old now w want known did h = absurd (in_none (message.Want want) h)
  asked_of number (node_deed_of.stops b kept) old now w want known did h = absurd (in_none (message.Want want) h)

  abbrev RunsIn : WorldState → ℕ → NodeParty B → Type 0
  RunsIn now other node = IfSome node.run (λ run. (run.node.node ≡ other) × IsRunning now run.node run.claims)

  after_node : (number : ℕ) (d : NodeDeed B) (old new : Parties B) (spent : List Span) (w : WorldState) → IsKnown total nodes old spent w
      → NodeDid node_disk broker_disk total nodes number d old new → IsKnownAfter total nodes new (spent ++ drawn_in d) w
  after_node number d old new spent w k did = subst (λ (x : Parties B). IsKnownAfter total nodes x (spent ++ drawn_in d) w) (sym did.goes) (record {
    events = e.events;
    possible = e.possible;
    known = record {
      sound = keeps_all w e.events k.sound e.possible;
      world = record {
        total_is = ap (λ (m : Machine). m.total) e.lease ∙ k.world.total_is;
        places = ap (λ (xs : List (Option Kept)). length xs) e.kept ∙ k.world.places;
        numbers = e.numbers ∙ k.world.numbers;
        unput = ap (λ (m : Machine). m.stage) e.lease ∙ k.world.unput;
        ceiling = ap durable e.lease ∙ k.world.ceiling;
        serves = subst (λ (m : Machine). IfSome old.broker.run (λ run. IsServedBy run.base m run.keeps.pass × ((after_events w e.events).kept ≡ run.keeps.kept))) (sym e.lease)
            (subst (λ (xs : List (Option Kept)). IfSome old.broker.run (λ run. IsServedBy run.base w.lease run.keeps.pass × (xs ≡ run.keeps.kept))) (sym e.kept) k.world.serves);
        runs = λ other. runs_at other (nat_eq other number) refl;
        claims = λ other. claims_at other (nat_eq other number) refl;
        sent = e.sent ∙ ap (λ (ms : List Message). ms ++ map message.Want (asked_in d)) k.world.sent;
      };
      of = subst (AreOfNodes nodes) (sym e.sent) more_of;
      spent_is = e.spent ∙ ap (λ (xs : List Span). xs ++ drawn_in d) k.spent_is;
    };
  }) where
    here : IsOfNode number (old.nodes number) w
    here = record { runs = k.world.runs number; claims = k.world.claims number }

    e : AreOfNode number did.now (asked_in d) (drawn_in d) w
    e = node_deed node_disk total number (old.nodes number) w k.sound k.world.total_is
        (lt-ltb number (length w.nodes) (let low = did.there in let all = k.world.numbers in omega (arith, low, all)))
        here d did.now (subst (λ (ms : List Message). All (λ b. Contains ms (message.Block b)) (came_in d)) (sym k.world.sent) did.came) did.did

    still : (other : ℕ) → other ≢ number → (o : Option (NodeRun B)) → IfSome o (λ run. (run.node.node ≡ other) × IsRunning w run.node run.claims)
        → IfSome o (λ run. (run.node.node ≡ other) × IsRunning (after_events w e.events) run.node run.claims)
    still other apart None h = tt
    still other apart (Some run) h = (h.0, e.others_run run.node run.claims (λ same. apart (sym h.0 ∙ same)) h.1)

    runs_at : (other : ℕ) (t : Bool) → nat_eq other number ≡ t → RunsIn (after_events w e.events) other (cond t did.now (old.nodes other))
    runs_at other true is = subst (λ (n : ℕ). RunsIn (after_events w e.events) n did.now) (sym (eqb-true other number is)) e.node.runs
    runs_at other false is = still other (eqb-false other number is) (old.nodes other).run (k.world.runs other)

    claims_at : (other : ℕ) (t : Bool) → nat_eq other number ≡ t → claims_by (after_events w e.events).claims other ≡ (cond t did.now (old.nodes other)).journal
    claims_at other true is = ap (claims_by (after_events w e.events).claims) (eqb-true other number is) ∙ e.node.claims
    claims_at other false is = e.others_claims other (eqb-false other number is) ∙ k.world.claims other

    more_of : AreOfNodes nodes (w.sent ++ map message.Want (asked_in d))
    more_of want h = by_part (Contains-append_cases w.sent (map message.Want (asked_in d)) (message.Want want) h) where
      by_part : (Contains w.sent (message.Want want) ⊎ Contains (map message.Want (asked_in d)) (message.Want want)) → want.node < nodes
      by_part (inl before) = k.of want before
      by_part (inr asked) =
          let low = did.there in let same = asked_of number d (old.nodes number) did.now w want here did.did asked in omega (arith, low, same)

  -- ---- a history

  after_one : (d : Deed B) (old new : Parties B) (spent : List Span) (w : WorldState) → IsKnown total nodes old spent w
      → Did node_disk broker_disk total nodes d old new → IsKnownAfter total nodes new (spent ++ units_by d) w
  after_one (of_node number d) old new spent w k did = after_node number d old new spent w k did
  after_one (of_broker d) old new spent w k did =
      subst (λ (xs : List Span). IsKnownAfter total nodes new xs w) (sym (append-nil spent)) (after_broker d old new spent w k did)

  after_history : (history : List (Deed B)) (old new : Parties B) (spent : List Span) (w : WorldState) → IsKnown total nodes old spent w
      → Happened node_disk broker_disk total nodes history old new → IsKnownAfter total nodes new (spent ++ units_in history) w
  after_history [] old new spent w k same = record {
    events = [];
    possible = refl;
    known = subst (λ (x : Parties B). IsKnown total nodes x (spent ++ []) w) (sym same) (subst (λ (xs : List Span). IsKnown total nodes old xs w) (sym (append-nil spent)) k);
  }
  after_history (d ∷ history) old new spent w k (mid, did, rest) =
      let one = after_one d old mid spent w k did in
      let more = after_history history mid new (spent ++ units_by d) (after_events w one.events) one.known rest in
      record {
        events = one.events ++ more.events;
        possible = more_possible w one.events more.events one.possible more.possible;
        known = subst (λ (x : WorldState). IsKnown total nodes new (spent ++ (units_by d ++ units_in history)) x) (sym (more_events w one.events more.events))
            (subst (λ (xs : List Span). IsKnown total nodes new xs (after_events (after_events w one.events) more.events))
            (append_assoc spent (units_by d) (units_in history)) more.known);
      }

  first_known : IsKnown total nodes (parties_at_first {B = B}) [] (world_at_first total nodes)
  first_known = record {
    sound = at_first total nodes;
    world = record {
      total_is = refl;
      places = length-replicate nodes None;
      numbers = length-replicate nodes _;
      unput = refl;
      ceiling = refl;
      serves = tt;
      runs = λ number. tt;
      claims = λ number. refl;
      sent = refl;
    };
    of = λ want h. absurd (in_none (message.Want want) h);
    spent_is = refl;
  }

pub histories_are_events : {B C : Type 0} (node_disk : B → DiskState) (broker_disk : C → DiskState) → HistoriesAreEvents node_disk broker_disk
histories_are_events node_disk broker_disk total nodes history last happened =
    let k = after_history node_disk broker_disk total nodes history parties_at_first last [] (world_at_first total nodes)
    (first_known node_disk broker_disk total nodes) happened in
    record { events = k.events; possible = k.possible; world = k.known.world; spent = k.known.spent_is }

pub histories_draw_once : {B C : Type 0} (node_disk : B → DiskState) (broker_disk : C → DiskState) → HistoriesDrawOnce node_disk broker_disk
histories_draw_once node_disk broker_disk total nodes history last happened =
    let k = after_history node_disk broker_disk total nodes history parties_at_first last [] (world_at_first total nodes)
    (first_known node_disk broker_disk total nodes) happened in
    let safe = is_safe (after_events (world_at_first total nodes) k.events) k.known.sound in
    record {
      apart = subst AreApart k.known.spent_is safe.spent;
      durable = subst (λ (xs : List Span). EndBy last.broker.ceiling xs) k.known.spent_is
          (subst (λ (c : ℕ). EndBy c (after_events (world_at_first total nodes) k.events).spent) k.known.world.ceiling safe.durable);
    }
