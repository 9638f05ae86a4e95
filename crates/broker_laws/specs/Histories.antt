-- Histories: what a broker and its nodes did, in the order in which it happened.
use Rattle.std.specs.Prelude.{◌≡◌, ℕ, ◌<◌, cond, List, [], ◌∷◌, ◌++◌, None, All, Contains, flat_map, map, nat_eq}
use Rattle.zk_model.specs.declared.Span.{Span}
use Rattle.zk_port.specs.Disks.{DiskState}
use Rattle.broker_core.specs.declared.message.Message.{Message}
use Rattle.broker_core.specs.declared.message.Message.TheVariants as message
use Rattle.broker_laws.specs.BrokerDeeds.{BrokerDeed, BrokerParty, IsBrokerDeed, broker_party, replied_in, wanted_in}
use Rattle.broker_laws.specs.NodeDeeds.{IsNodeDeed, NodeDeed, NodeParty, asked_in, came_in, drawn_in, node_party}

-- a deed of the node of a number, or of the broker
pub data Deed (B : Type 0) : Type 0 where
  of_node : ℕ → NodeDeed B → Deed B
  of_broker : BrokerDeed → Deed B

-- the broker, each node by its number, and all messages that were sent, in order
pub record Parties (B : Type 0) : Type 0 where
  pub broker : BrokerParty
  pub nodes : ℕ → NodeParty B
  pub sent : List Message

-- before any deed: nothing runs, the journals are blank, and nothing was sent
abbrev pub parties_at_first : {B : Type 0} → Parties B
parties_at_first = record { broker = broker_party 0 None; nodes = λ number. node_party [] None; sent = [] }

-- the nodes, of which the one of this number is this now
abbrev pub with_node_at : {B : Type 0} → ℕ → NodeParty B → (ℕ → NodeParty B) → ℕ → NodeParty B
with_node_at number now nodes other = cond (nat_eq other number) now (nodes other)

module _ {B C : Type 0} (node_disk : B → DiskState) (broker_disk : C → DiskState) (total nodes : ℕ) where
  -- A node of a number below that of all nodes did this. A Block that came had been sent; its Wants are sent.
  pub record NodeDid (number : ℕ) (d : NodeDeed B) (old new : Parties B) : Type 0 where
    pub there : number < nodes
    pub now : NodeParty B
    pub did : IsNodeDeed node_disk total number d (old.nodes number) now
    pub came : All (λ b. Contains old.sent (message.Block b)) (came_in d)
    pub goes : new ≡ record old { nodes = with_node_at number now old.nodes; sent = old.sent ++ map message.Want (asked_in d) }

  -- The broker did this. A Want that came had been sent; its replies are sent.
  pub record BrokerDid (d : BrokerDeed) (old new : Parties B) : Type 0 where
    pub now : BrokerParty
    pub did : IsBrokerDeed broker_disk total nodes d old.broker now
    pub came : All (λ want. Contains old.sent (message.Want want)) (wanted_in d)
    pub goes : new ≡ record old { broker = now; sent = old.sent ++ replied_in d }

  abbrev pub Did : Deed B → Parties B → Parties B → Type 0
  Did (of_node number d) old new = NodeDid number d old new
  Did (of_broker d) old new = BrokerDid d old new

  -- these deeds happened, one after another
  abbrev pub Happened : List (Deed B) → Parties B → Parties B → Type 0
  Happened [] old new = new ≡ old
  Happened (d ∷ history) old new = (mid : Parties B) × Did d old mid × Happened history mid new

-- the units that a deed draws, and all that a history draws, in order
abbrev pub units_by : {B : Type 0} → Deed B → List Span
units_by (of_node number d) = drawn_in d
units_by (of_broker d) = []

abbrev pub units_in : {B : Type 0} → List (Deed B) → List Span
units_in history = flat_map units_by history
