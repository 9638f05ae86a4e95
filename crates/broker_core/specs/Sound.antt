-- What holds of every world that possible events lead to, and why no unit is spent twice.
use Rattle.std.specs.Prelude.{◌≡◌, ℕ, ◌<◌, ◌≤◌, ◌⊎◌, true, Option, Some, List, length, Contains}
use Rattle.lease_core.specs.Kept.{IsReached}
use Rattle.lease_core.specs.Machine.{Machine}
use Rattle.lease_core.specs.Spans.{AreApart, IsApart}
use Rattle.zk_model.specs.declared.Span.{Span}
use Rattle.zk_model.specs.declared.limits.TheConstants.{MAX_UNITS}
use Rattle.broker_core.specs.Leases.{kept_of}
use Rattle.broker_core.specs.Messages.{block_of, units_of}
use Rattle.broker_core.specs.Nodes.{node_at}
use Rattle.broker_core.specs.Worlds.{WorldState}
use Rattle.zk_model.specs.declared.messages.Block.{Block}
use Rattle.broker_core.specs.declared.message.Kept.{Kept}
use Rattle.broker_core.specs.declared.message.Message.{Message}
use Rattle.broker_core.specs.declared.message.Message.TheVariants as message
use Rattle.broker_core.specs.declared.message.Node.{Node}
use Rattle.broker_core.specs.declared.message.NodeClaim.{NodeClaim}
use Rattle.zk_model.specs.declared.messages.Want.{Want}

-- the first span lies within the second; it may be empty
abbrev pub IsPartOf : Span → Span → Type 0
IsPartOf s whole = (whole.start ≤ s.start) × (s.start ≤ s.end) × (s.end ≤ whole.end)

-- the broker's store is up, has its pass, and possible events led to it
pub record IsServing (m : Machine) : Type 0 where
  pub reached : IsReached m
  pub up : m.up ≡ true
  pub has_pass : 0 < m.passes

-- what is in the first is in the second
abbrev pub Grows : List Span → List Span → Type 0
Grows xs ys = (s : Span) → Contains xs s → Contains ys s

-- the store still serves, and what it granted stays granted
pub record Goes (m now : Machine) : Type 0 where
  pub serving : IsServing now
  pub grows : Grows m.spent now.spent

-- each Want is of 1 to 4,096 units
abbrev pub AreCounted : List Message → Type 0
AreCounted sent = (w : Want) → Contains sent (message.Want w) → (1 ≤ w.count) × (w.count ≤ MAX_UNITS)

-- Each Block ever sent has the very units of a span that the broker's store granted; and Blocks to two nodes have no unit in
-- common. (To one node the same units may go many times, and under any number.)
pub record AreGranted (granted : List Span) (sent : List Message) : Type 0 where
  pub granted_units : (b : Block) → Contains sent (message.Block b) → Contains granted (units_of b)
  pub one_node : (a b : Block) → Contains sent (message.Block a) → Contains sent (message.Block b)
      → (a.node ≡ b.node) ⊎ IsApart (units_of a) (units_of b)

-- what the broker keeps of a node it sent to that node, under that number
abbrev pub AreSent : List (Option Kept) → List Message → Type 0
AreSent kept sent = (node : ℕ) (k : Kept) → kept_of kept node ≡ Some k → Contains sent (message.Block (block_of node k.number k.span))

-- a Block with these units was sent to the node
abbrev pub IsSentTo : List Message → ℕ → Span → Type 0
IsSentTo sent node s = (b : Block) × Contains sent (message.Block b) × (b.node ≡ node) × (units_of b ≡ s)

-- what a node claimed was sent to it
abbrev pub AreTheirs : List Message → List NodeClaim → Type 0
AreTheirs sent claims = (c : NodeClaim) → Contains claims c → IsSentTo sent c.node c.span

-- units lie within a claim of the node
abbrev pub IsClaimedBy : List NodeClaim → ℕ → Span → Type 0
IsClaimedBy claims node s = (c : NodeClaim) × Contains claims c × (c.node ≡ node) × IsPartOf s c.span

-- what is left of a node's block lies within a claim of the node, and no unit of it was ever spent
abbrev pub AreUnspent : List NodeClaim → List Span → List Node → Type 0
AreUnspent claims spent nodes = (node : ℕ) (s : Span) → (node_at nodes node).block ≡ Some s
    → IsClaimedBy claims node s × ((t : Span) → Contains spent t → IsApart t s)

-- what was spent lies within a claim of some node
abbrev pub AreClaimed : List NodeClaim → List Span → Type 0
AreClaimed claims spent = (t : Span) → Contains spent t → (node : ℕ) × IsClaimedBy claims node t

pub record IsSound (w : WorldState) : Type 0 where
  pub serving : IsServing w.lease
  pub counted : AreCounted w.sent
  pub granted : AreGranted w.lease.spent w.sent
  pub kept : AreSent w.kept w.sent
  pub theirs : AreTheirs w.sent w.claims
  pub unspent : AreUnspent w.claims w.spent w.nodes
  pub claimed : AreClaimed w.claims w.spent
  pub apart : AreApart w.spent

-- what every world of the code keeps: that, and as many places for what the broker keeps as there are nodes
pub record IsWhole (w : WorldState) : Type 0 where
  pub sound : IsSound w
  pub places : length w.kept ≡ length w.nodes
