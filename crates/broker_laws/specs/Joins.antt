-- Histories by what each party did for itself.
use Rattle.std.specs.Prelude.{◌≡◌, ℕ, ◌<◌, cond, List, [], ◌∷◌, ◌++◌, None, All, Contains, map, nat_eq}
use Rattle.zk_port.specs.Disks.{DiskState}
use Rattle.broker_core.specs.declared.message.Message.{Message}
use Rattle.broker_core.specs.declared.message.Message.TheVariants as message
use Rattle.broker_laws.specs.BrokerDeeds.{AreBrokerDeeds, BrokerDeed, BrokerParty, broker_party, replied_in, wanted_in}
use Rattle.broker_laws.specs.Histories.{Deed, Happened, Parties, of_broker, of_node, parties_at_first, units_in}
use Rattle.broker_laws.specs.Laws.{DrawsNoUnitTwice}
use Rattle.broker_laws.specs.NodeDeeds.{AreNodeDeeds, NodeDeed, NodeParty, asked_in, came_in, node_party}

-- the deeds of the node of a number, and of the broker, in order
abbrev pub deeds_of_node : {B : Type 0} → ℕ → List (Deed B) → List (NodeDeed B)
deeds_of_node number [] = []
deeds_of_node number (of_node other d ∷ history) =
    cond (nat_eq number other) (d ∷ deeds_of_node number history) (deeds_of_node number history)
deeds_of_node number (of_broker d ∷ history) = deeds_of_node number history

abbrev pub deeds_of_broker : {B : Type 0} → List (Deed B) → List BrokerDeed
deeds_of_broker [] = []
deeds_of_broker (of_node number d ∷ history) = deeds_of_broker history
deeds_of_broker (of_broker d ∷ history) = d ∷ deeds_of_broker history

-- what a deed sends
abbrev pub sent_by : {B : Type 0} → Deed B → List Message
sent_by (of_node number d) = map message.Want (asked_in d)
sent_by (of_broker d) = replied_in d

-- a deed is of one of so many nodes, or of the broker, and what came in it had been sent
abbrev pub HadBeenSent : {B : Type 0} → ℕ → List Message → Deed B → Type 0
HadBeenSent nodes sent (of_node number d) = (number < nodes) × All (λ b. Contains sent (message.Block b)) (came_in d)
HadBeenSent nodes sent (of_broker d) = All (λ want. Contains sent (message.Want want)) (wanted_in d)

-- what comes in a history had been sent, before it or in it
abbrev pub HadAllBeenSent : {B : Type 0} → ℕ → List Message → List (Deed B) → Type 0
HadAllBeenSent nodes sent [] = Unit {0}
HadAllBeenSent nodes sent (d ∷ history) = HadBeenSent nodes sent d × HadAllBeenSent nodes (sent ++ sent_by d) history

-- In a list of deeds those of each node lead from its blank journal to this, and those of the broker from its own to that; and whatever came had
-- been sent.
pub record AreJoined {B C : Type 0} (node_disk : B → DiskState) (broker_disk : C → DiskState) (total nodes : ℕ) (history : List (Deed B))
    (each : ℕ → NodeParty B) (broker : BrokerParty) : Type 0 where
  pub nodes_did : (number : ℕ) → AreNodeDeeds node_disk total number (deeds_of_node number history) (node_party [] None) (each number)
  pub broker_did : AreBrokerDeeds broker_disk total nodes (deeds_of_broker history) (broker_party 0 None) broker
  pub sent : HadAllBeenSent nodes [] history

-- the parties that it leaves
pub record HappenedTo {B C : Type 0} (node_disk : B → DiskState) (broker_disk : C → DiskState) (total nodes : ℕ) (history : List (Deed B))
    (each : ℕ → NodeParty B) (broker : BrokerParty) : Type 0 where
  pub last : Parties B
  pub happened : Happened node_disk broker_disk total nodes history parties_at_first last
  pub each_is : (number : ℕ) → last.nodes number ≡ each number
  pub broker_is : last.broker ≡ broker

-- Such a list is a history: what each party did for itself may be joined in any order in which messages come after they were sent.
abbrev pub JoinsHappen : {B C : Type 0} → (B → DiskState) → (C → DiskState) → Type 0
JoinsHappen {B} {C} node_disk broker_disk =
    (total nodes : ℕ) (history : List (Deed B)) (each : ℕ → NodeParty B) (broker : BrokerParty)
    → AreJoined node_disk broker_disk total nodes history each broker
    → HappenedTo node_disk broker_disk total nodes history each broker

-- So no unit is drawn twice in it, and what is drawn ends at or below the ceiling that the broker's journal keeps then.
abbrev pub JoinsDrawOnce : {B C : Type 0} → (B → DiskState) → (C → DiskState) → Type 0
JoinsDrawOnce {B} {C} node_disk broker_disk =
    (total nodes : ℕ) (history : List (Deed B)) (each : ℕ → NodeParty B) (broker : BrokerParty)
    → AreJoined node_disk broker_disk total nodes history each broker
    → DrawsNoUnitTwice broker.ceiling (units_in history)
