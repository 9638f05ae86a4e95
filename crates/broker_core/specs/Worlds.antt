-- The broker, its nodes, and all that was sent; and what each event does to them.
use Rattle.std.specs.Prelude.{ℕ, Bool, true, false, cond, ◌&&◌, Option, None, Some, List, [], ◌∷◌, ◌++◌, length, take, replicate, nat_lt, nat_le, slice_set}
use Rattle.lease_core.specs.Machine.{Machine, machine_at_first, after, after_all}
use Rattle.lease_core.specs.declared.event.Event.TheVariants.{Begin, Crash}
use Rattle.zk_model.specs.declared.Span.{Span}
use Rattle.zk_model.specs.declared.limits.TheConstants.{MAX_UNITS}
use Rattle.broker_core.specs.Leases.{end_for, kept_after, reply_to, steps_for}
use Rattle.broker_core.specs.Messages.{given, block_at, out_at, units_of, want_at}
use Rattle.broker_core.specs.Nodes.{claims_taken, drawn_part, first_node, left_part, may_cut, may_draw, next_node, node_at, nodes_taken}
use Rattle.broker_core.specs.declared.event.BrokerEvent.{BrokerEvent}
use Rattle.broker_core.specs.declared.event.BrokerEvent.TheVariants as event
use Rattle.zk_model.specs.declared.messages.Block.{Block}
use Rattle.broker_core.specs.declared.message.Kept.{Kept}
use Rattle.broker_core.specs.declared.message.LeaseEnd.{LeaseEnd}
use Rattle.broker_core.specs.declared.message.Message.{Message}
use Rattle.broker_core.specs.declared.message.Message.TheVariants as message
use Rattle.broker_core.specs.declared.message.Node.{Node}
use Rattle.broker_core.specs.declared.message.NodeClaim.{NodeClaim}
use Rattle.zk_model.specs.declared.messages.Want.{Want}

-- The broker's lease machine, whose one pass is 0, and what it keeps of each node; each node's number and block; the claims that the
-- nodes' journals keep, and all messages ever sent, in order; what all nodes spent in all eras
pub record WorldState : Type 0 where
  pub lease : Machine
  pub kept : List (Option Kept)
  pub nodes : List Node
  pub claims : List NodeClaim
  pub sent : List Message
  pub spent : List Span

-- the world after the broker's first start
abbrev pub world_at_first : ℕ → ℕ → WorldState
world_at_first total nodes = record {
  lease = after (machine_at_first total 1) Begin;
  kept = replicate nodes None;
  nodes = replicate nodes first_node;
  claims = [];
  sent = [];
  spent = [];
}

abbrev pub is_node : WorldState → ℕ → Bool
is_node w node = nat_lt node (length w.nodes)

abbrev pub is_count : ℕ → Bool
is_count n = nat_le 1 n && nat_le n MAX_UNITS

-- a Want of a node comes, and its lease has so many steps at least
abbrev pub may_lease : WorldState → ℕ → ℕ → Bool
may_lease w i steps = given (want_at w.sent i) false (λ want.
    is_node w want.node && nat_le steps (length (steps_for w.lease w.kept want)))

-- a Block comes to a node, which takes it and may claim its units
abbrev pub may_take : WorldState → ℕ → Bool
may_take w i = given (block_at w.sent i) false (may_cut w.lease.total w.claims w.nodes)

-- the Want at a place, where its node is one of so many
abbrev pub want_to : List Message → ℕ → ℕ → Option Want
want_to sent nodes i = given (want_at sent i) None (λ want. cond (nat_lt want.node nodes) (Some want) None)

-- whether an event is possible
abbrev pub may_happen : WorldState → BrokerEvent → Bool
may_happen w (event.Ask node n) = is_node w node && is_count n
may_happen w (event.ToBroker i) = given (want_at w.sent i) false (λ want. is_node w want.node)
may_happen w (event.ToNode i) =
    given (block_at w.sent i) (given (out_at w.sent i) false (λ out. is_node w out.node)) (λ b. is_node w b.node)
may_happen w (event.Spend node n) = is_node w node && (is_count n && may_draw (node_at w.nodes node).block n)
may_happen w (event.NodeCrash node) = is_node w node
may_happen w (event.NodeCut i kept) = may_take w i
may_happen w (event.NodeFail i kept) = may_take w i
may_happen w (event.BrokerCrash body gate) = true
may_happen w (event.BrokerCut i steps body gate) = may_lease w i steps
may_happen w (event.BrokerFail i steps) = may_lease w i steps

-- ---- what an event of the broker does

-- so many steps of the lease for a Want took place
abbrev pub with_steps : WorldState → ℕ → Want → WorldState
with_steps w steps want = record w { lease = after_all w.lease (take steps (steps_for w.lease w.kept want)) }

-- the broker crashed, and started anew; it keeps nothing of any node
abbrev pub restarted : List ℕ → ℕ → WorldState → WorldState
restarted body gate w = record w {
  lease = after (after w.lease (Crash body gate)) Begin;
  kept = replicate (length w.kept) None;
}

-- the broker answers a Want by how its lease ended, and keeps what was granted
abbrev pub replied : Want → LeaseEnd → WorldState → WorldState
replied want end w = record w { kept = kept_after w.kept want end; sent = w.sent ++ reply_to want end }

-- a Want comes: all steps of its lease, and the answer
abbrev pub served : WorldState → Want → WorldState
served w want = replied want (end_for w.lease w.kept want) (record w { lease = after_all w.lease (steps_for w.lease w.kept want) })

-- ---- what an event of a node does

abbrev pub with_node : ℕ → Node → WorldState → WorldState
with_node node now w = record w { nodes = slice_set w.nodes node now }

-- a node's journal keeps the units of a Block as claimed
abbrev pub claimed : Block → WorldState → WorldState
claimed b w = record w { claims = w.claims ++ record { node = b.node; span = units_of b } ∷ [] }

-- a Block comes: it is not taken, or the claim is refused, or the node holds it
abbrev pub taken : WorldState → Block → WorldState
taken w b = record w {
  nodes = nodes_taken w.lease.total w.claims w.nodes b;
  claims = claims_taken w.lease.total w.claims w.nodes b;
}

-- a Block comes, and what the node does with it ends within its claim, which is kept or not
abbrev pub cut_short : Bool → Node → WorldState → Block → WorldState
cut_short kept node w b = with_node b.node node (cond kept (claimed b w) w)

-- n units of a block are drawn
abbrev pub spent_of : ℕ → ℕ → WorldState → Span → WorldState
spent_of node n w s = record w {
  nodes = slice_set w.nodes node (record { number = (node_at w.nodes node).number; block = Some (left_part s n) });
  spent = w.spent ++ drawn_part s n ∷ [];
}

-- the world after an event that is possible
abbrev pub after_event : WorldState → BrokerEvent → WorldState
after_event w (event.Ask node n) = record w {
  sent = w.sent ++ message.Want (record { node = node; number = (node_at w.nodes node).number; count = n }) ∷ [];
}
after_event w (event.ToBroker i) = given (want_at w.sent i) w (served w)
after_event w (event.ToNode i) = given (block_at w.sent i) w (taken w)
after_event w (event.Spend node n) = given (node_at w.nodes node).block w (spent_of node n w)
after_event w (event.NodeCrash node) = with_node node first_node w
after_event w (event.NodeCut i kept) = given (block_at w.sent i) w (cut_short kept first_node w)
after_event w (event.NodeFail i kept) =
    given (block_at w.sent i) w (λ b. cut_short kept (next_node (node_at w.nodes b.node) None) w b)
after_event w (event.BrokerCrash body gate) = restarted body gate w
after_event w (event.BrokerCut i steps body gate) =
    given (want_at w.sent i) w (λ want. restarted body gate (with_steps w steps want))
after_event w (event.BrokerFail i steps) = given (want_at w.sent i) w (with_steps w steps)

-- the world after these events
abbrev pub after_events : WorldState → List BrokerEvent → WorldState
after_events w [] = w
after_events w (e ∷ es) = after_events (after_event w e) es

-- whether each is possible when its turn comes
abbrev pub may_all_happen : WorldState → List BrokerEvent → Bool
may_all_happen w [] = true
may_all_happen w (e ∷ es) = may_happen w e && may_all_happen (after_event w e) es

-- a world by its parts
abbrev pub world_of : Machine → List (Option Kept) → List Node → List NodeClaim → List Message → List Span → WorldState
world_of lease kept nodes claims sent spent = record {
  lease = lease;
  kept = kept;
  nodes = nodes;
  claims = claims;
  sent = sent;
  spent = spent;
}
