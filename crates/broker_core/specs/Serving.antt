-- A Want that comes gives a Block that is taken, where the broker has units.
use Rattle.std.specs.Prelude.{◌≡◌, ◌⊎◌, ℕ, ◌+◌, ◌-◌, ◌^◌, ◌<◌, ◌≤◌, true, List, [], ◌∷◌, length, None, Some}
use Rattle.lease_core.specs.Spans.{span}
use Rattle.zk_model.specs.declared.limits.TheConstants.{MAX_UNITS}
use Rattle.broker_core.specs.Leases.{kept_of, repeated}
use Rattle.broker_core.specs.Messages.{rounded}
use Rattle.broker_core.specs.Nodes.{node_at}
use Rattle.broker_core.specs.Sound.{IsSound}
use Rattle.broker_core.specs.Worlds.{WorldState, after_events, may_all_happen}
use Rattle.broker_core.specs.declared.event.BrokerEvent.{BrokerEvent}
use Rattle.broker_core.specs.declared.event.BrokerEvent.TheVariants as event

-- a node asks for n units, its Want comes to the broker, and the answer comes to the node
abbrev pub ask_and_answer : WorldState → ℕ → ℕ → List BrokerEvent
ask_and_answer w node n = event.Ask node n ∷ event.ToBroker (length w.sent) ∷ event.ToNode (length w.sent + 1) ∷ []

-- The node is one of the broker's, with a next number; the broker does not keep its pending one. So many units are left, rounded up, and no put
-- stands, or none is needed for them.
pub record CanBeServed (w : WorldState) (node n : ℕ) : Type 0 where
  pub there : node < length w.nodes
  pub some : 1 ≤ n
  pub few : n ≤ MAX_UNITS
  pub number : (node_at w.nodes node).number < 2 ^ 64 - 1
  pub anew : repeated (kept_of w.kept node) (node_at w.nodes node).number ≡ None
  pub left : w.lease.next + rounded n ≤ w.lease.total
  pub put : (w.lease.stage ≡ 0) ⊎ (w.lease.next + rounded n ≤ w.lease.shown)

-- then one Ask gives the node the next units, where its Want and the Block arrive
abbrev pub AskGivesBlock : Type 0
AskGivesBlock =
    (w : WorldState) (node n : ℕ)
    → IsSound w → CanBeServed w node n
    → (may_all_happen w (ask_and_answer w node n) ≡ true)
    × ((node_at (after_events w (ask_and_answer w node n)).nodes node).block
    ≡ Some (span w.lease.next (w.lease.next + rounded n)))
