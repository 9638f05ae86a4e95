-- What each party did for itself, joined, is a history.
use Rattle.std.proofs.Common.{◌≡◌, ℕ, Bool, true, false, cond, List, [], ◌∷◌, ◌++◌, map, refl, sym, subst, nat_eq}
use Rattle.std.proofs.lemmas.Bool.{eq-eqb, eqb-true}
use Rattle.zk_port.specs.Disks.{DiskState}
use Rattle.broker_core.specs.declared.message.Message.TheVariants as message
use Rattle.broker_laws.specs.BrokerDeeds.{AreBrokerDeeds, BrokerParty, replied_in}
use Rattle.broker_laws.specs.Histories.{Deed, Happened, Parties, of_broker, of_node, parties_at_first, units_in, with_node_at}
use Rattle.broker_laws.specs.Joins.{HadAllBeenSent, JoinsDrawOnce, JoinsHappen, deeds_of_broker, deeds_of_node}
use Rattle.broker_laws.specs.Laws.{DrawsNoUnitTwice}
use Rattle.broker_laws.specs.NodeDeeds.{AreNodeDeeds, NodeDeed, NodeParty, asked_in}
use Rattle.broker_laws.proofs.Histories.{histories_draw_once}

module _ {B C : Type 0} (node_disk : B → DiskState) (broker_disk : C → DiskState) (total nodes : ℕ) (each : ℕ → NodeParty B) (broker : BrokerParty) where
  -- what is left of a list of deeds leads from these parties to those
  record IsLeft (history : List (Deed B)) (p : Parties B) : Type 0 where
    nodes_did : (number : ℕ) → AreNodeDeeds node_disk total number (deeds_of_node number history) (p.nodes number) (each number)
    broker_did : AreBrokerDeeds broker_disk total nodes (deeds_of_broker history) p.broker broker
    sent : HadAllBeenSent nodes p.sent history

  record HappensTo (history : List (Deed B)) (p : Parties B) : Type 0 where
    last : Parties B
    happened : Happened node_disk broker_disk total nodes history p last
    each_is : (number : ℕ) → last.nodes number ≡ each number
    broker_is : last.broker ≡ broker

  -- the first deed of the node whose deed it is
  own_deeds : (number : ℕ) (d : NodeDeed B) (history : List (Deed B)) (old new : NodeParty B)
      → AreNodeDeeds node_disk total number (deeds_of_node number (of_node number d ∷ history)) old new
      → AreNodeDeeds node_disk total number (d ∷ deeds_of_node number history) old new
  own_deeds number d history old new did =
      subst (λ (t : Bool). AreNodeDeeds node_disk total number (cond t (d ∷ deeds_of_node number history) (deeds_of_node number history)) old new)
      (eq-eqb number number refl) did

  -- what is left of the nodes' deeds behind one of them
  nodes_left : (number : ℕ) (d : NodeDeed B) (history : List (Deed B)) (p : Parties B) (mid : NodeParty B)
      → ((other : ℕ) → AreNodeDeeds node_disk total other (deeds_of_node other (of_node number d ∷ history)) (p.nodes other) (each other))
      → AreNodeDeeds node_disk total number (deeds_of_node number history) mid (each number)
      → (other : ℕ) → AreNodeDeeds node_disk total other (deeds_of_node other history) (with_node_at number mid p.nodes other) (each other)
  nodes_left number d history p mid did rest other = by_test (nat_eq other number) refl (did other) where
    by_test : (t : Bool) → nat_eq other number ≡ t
        → AreNodeDeeds node_disk total other (cond t (d ∷ deeds_of_node other history) (deeds_of_node other history)) (p.nodes other) (each other)
        → AreNodeDeeds node_disk total other (deeds_of_node other history) (cond t mid (p.nodes other)) (each other)
    by_test true is h = subst (λ (n : ℕ). AreNodeDeeds node_disk total n (deeds_of_node n history) mid (each n)) (sym (eqb-true other number is)) rest
    by_test false is h = h

  happens : (history : List (Deed B)) (p : Parties B) → IsLeft history p → HappensTo history p
  happens [] p left = record { last = p; happened = refl; each_is = λ number. sym (left.nodes_did number); broker_is = sym left.broker_did }
  happens (of_node number d ∷ history) p left =
      let own = own_deeds number d history (p.nodes number) (each number) (left.nodes_did number) in
      let q : Parties B = record p { nodes = with_node_at number own.0 p.nodes; sent = p.sent ++ map message.Want (asked_in d) } in
      let more = happens history q (record {
        nodes_did = nodes_left number d history p own.0 left.nodes_did own.2;
        broker_did = left.broker_did;
        sent = left.sent.1;
      }) in record {
        last = more.last;
        happened = (q, record { there = left.sent.0.0; now = own.0; did = own.1; came = left.sent.0.1; goes = refl }, more.happened);
        each_is = more.each_is;
        broker_is = more.broker_is;
      }
  happens (of_broker d ∷ history) p left =
      let q : Parties B = record p { broker = left.broker_did.0; sent = p.sent ++ replied_in d } in
      let more = happens history q (record { nodes_did = left.nodes_did; broker_did = left.broker_did.2; sent = left.sent.1 }) in record {
        last = more.last;
        happened = (q, record { now = left.broker_did.0; did = left.broker_did.1; came = left.sent.0; goes = refl }, more.happened);
        each_is = more.each_is;
        broker_is = more.broker_is;
      }

pub joins_happen : {B C : Type 0} (node_disk : B → DiskState) (broker_disk : C → DiskState) → JoinsHappen node_disk broker_disk
joins_happen node_disk broker_disk total nodes history each broker j =
    let h = happens node_disk broker_disk total nodes each broker history parties_at_first
    (record { nodes_did = j.nodes_did; broker_did = j.broker_did; sent = j.sent }) in
    record { last = h.last; happened = h.happened; each_is = h.each_is; broker_is = h.broker_is }

pub joins_draw_once : {B C : Type 0} (node_disk : B → DiskState) (broker_disk : C → DiskState) → JoinsDrawOnce node_disk broker_disk
joins_draw_once node_disk broker_disk total nodes history each broker j =
    let h = joins_happen node_disk broker_disk total nodes history each broker j in
    subst (λ (p : BrokerParty). DrawsNoUnitTwice p.ceiling (units_in history)) h.broker_is
    (histories_draw_once node_disk broker_disk total nodes history h.last h.happened)
