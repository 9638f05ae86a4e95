-- What a node asks and draws, and what others do, as events of the world.
use Rattle.std.proofs.Common.{◌≡◌, ◌≢◌, ℕ, ◌≤◌, Bool, true, false, cond, ◌&&◌, List, [], ◌∷◌, ◌++◌, length, get_or, set, take, refl, sym, ap, ◌∙◌, subst, arith, Option, None, Some, nat_eq, nat_le, nat_lt}
use Rattle.std.proofs.lemmas.Bool.{and_from, le-leb, ltb-true, ne_eqb}
use Rattle.std.proofs.lemmas.List.{get_or-set_other, get_or-set_same, length-set}
use Rattle.zk_model.specs.declared.Span.{Span}
use Rattle.zk_model.specs.declared.messages.Block.{Block}
use Rattle.zk_model.specs.declared.messages.Want.{Want}
use Rattle.lease_core.specs.Machine.{Machine, after, after_all}
use Rattle.lease_core.specs.declared.event.Event.{Event}
use Rattle.lease_core.specs.declared.event.Event.TheVariants.{Begin, Draw, Look, Put, Raise, Spend, Claim, Crash}
use Rattle.lease_core.specs.declared.event.Moment.TheVariants.{Body, BodySync, Gate, GateSync}
use Rattle.claim_store.specs.ClaimedRanges.{AreMerged}
use Rattle.claim_store.specs.Claims.{ClaimState}
use Rattle.broker_core.specs.Leases.{steps_for}
use Rattle.broker_core.specs.Messages.{block_at, given, units_of, want_at}
use Rattle.broker_core.specs.Nodes.{drawn_part, first_node, left_part, may_claim, may_draw, next_node, node_at, takes}
use Rattle.broker_core.specs.Worlds.{WorldState, after_event, cut_short, is_count, is_node, restarted, served, spent_of, taken, with_node, with_steps}
use Rattle.broker_core.specs.declared.event.BrokerEvent.{BrokerEvent}
use Rattle.broker_core.specs.declared.event.BrokerEvent.TheVariants as event
use Rattle.broker_core.specs.declared.message.Message.TheVariants as message
use Rattle.broker_core.specs.declared.message.Node.{Node}
use Rattle.broker_core.specs.declared.message.NodeClaim.{NodeClaim}
use Rattle.broker_node.specs.NodeStates.{NodeState, keeping}
use Rattle.broker_node.specs.Nodes.{AskIsEvent, DrawIsEvent, IsBeside, OthersLeaveRunning}
use Rattle.broker_node.specs.Takes.{IsEventOf, IsRunning, claims_by}

counts : (n : ℕ) → 1 ≤ n → n ≤ 4096 → is_count n ≡ true
counts n some few = and_from (nat_le 1 n) (nat_le n 4096) (le-leb 1 n some) (le-leb n 4096 few)

pub ask_is_event : {D : Type 0} → AskIsEvent D
ask_is_event w state claims n r some few = (
  record {
    possible = and_from (is_node w state.node) (is_count n) r.there (counts n some few);
    runs = record { there = r.there; own = r.own; total = r.total; kept = r.kept };
  },
  ap (λ (x : Node). w.sent ++ message.Want (record { node = state.node; number = x.number; count = n }) ∷ []) r.own,
)

pub draw_is_event : {D : Type 0} → DrawIsEvent D
draw_is_event w state claims n block r some few is may =
    let held : (node_at w.nodes state.node).block ≡ Some block = ap (λ (x : Node). x.block) r.own ∙ is in (
      record {
        possible = and_from (is_node w state.node) _ r.there (and_from (is_count n) _ (counts n some few) (ap (λ (o : Option Span). may_draw o n) held ∙ may));
        runs = subst (λ (o : Option Span). IsRunning (given o w (spent_of state.node n w)) (keeping state (Some (left_part block n))) claims) (sym held) (record {
          there = ap (nat_lt state.node) (length-set w.nodes state.node (now (node_at w.nodes state.node).number)) ∙ r.there;
          own = get_or-set_same w.nodes state.node (now (node_at w.nodes state.node).number) first_node (ltb-true state.node (length w.nodes) r.there)
              ∙ ap (λ (x : Node). now x.number) r.own;
          total = r.total;
          kept = r.kept;
        });
      },
      ap (λ (o : Option Span). (given o w (spent_of state.node n w)).spent) held,
    ) where
      now : ℕ → Node
      now number = record { number = number; block = Some (left_part block n) }

-- ---- what others do

total_one : (m : Machine) (e : Event) → (after m e).total ≡ m.total
total_one m Begin = refl
total_one m (Draw pass n) = refl
total_one m (Look pass) = refl
total_one m (Put (Body pass)) = refl
total_one m (Put BodySync) = refl
total_one m (Put Gate) = refl
total_one m (Put GateSync) = refl
total_one m Raise = refl
total_one m (Spend pass s) = refl
total_one m (Claim s) = refl
total_one m (Crash body gate) = refl

total_all : (m : Machine) (es : List Event) → (after_all m es).total ≡ m.total
total_all m [] = refl
total_all m (e ∷ es) = total_all (after m e) es ∙ total_one m e

claims_by_other : (claims : List NodeClaim) (c : NodeClaim) (node : ℕ) → c.node ≢ node → claims_by (claims ++ c ∷ []) node ≡ claims_by claims node
claims_by_other [] c node other = ap (λ (b : Bool). cond b (c.span ∷ []) []) (ne_eqb c.node node other)
claims_by_other (d ∷ claims) c node other = ap (λ (xs : List Span). cond (nat_eq d.node node) (d.span ∷ xs) xs) (claims_by_other claims c node other)

module _ {D : Type 0} (w : WorldState) (state : NodeState) (claims : ClaimState D) (r : IsRunning w state claims) where
  -- the broker's store goes on
  leased_on : (now : WorldState) → now.nodes ≡ w.nodes → now.claims ≡ w.claims → now.lease.total ≡ w.lease.total → IsRunning now state claims
  leased_on now nodes all total = record {
    there = ap (λ (xs : List Node). nat_lt state.node (length xs)) nodes ∙ r.there;
    own = ap (λ (xs : List Node). node_at xs state.node) nodes ∙ r.own;
    total = r.total ∙ sym total;
    kept = λ whole. subst (λ (xs : List NodeClaim). AreMerged (claims_by xs state.node) claims.claims) (sym all) (r.kept whole);
  }

  -- another node changes
  other_node : (other : ℕ) (node : Node) (all : List NodeClaim) (now : WorldState) → other ≢ state.node → claims_by all state.node ≡ claims_by w.claims state.node
      → now.nodes ≡ set w.nodes other node → now.claims ≡ all → now.lease.total ≡ w.lease.total → IsRunning now state claims
  other_node other node all now apart same nodes is total = record {
    there = ap (λ (xs : List Node). nat_lt state.node (length xs)) nodes ∙ ap (nat_lt state.node) (length-set w.nodes other node) ∙ r.there;
    own = ap (λ (xs : List Node). node_at xs state.node) nodes ∙ get_or-set_other w.nodes other state.node node first_node (λ e. apart (sym e)) ∙ r.own;
    total = r.total ∙ sym total;
    kept = λ whole. subst (λ (xs : List Span). AreMerged xs claims.claims) (sym (ap (λ (xs : List NodeClaim). claims_by xs state.node) is ∙ same)) (r.kept whole);
  }

  by_want : (then : Want → WorldState) (o : Option Want) → ((want : Want) → IsRunning (then want) state claims) → IsRunning (given o w then) state claims
  by_want then None runs = r
  by_want then (Some want) runs = runs want

  by_block : (then : Block → WorldState) (o : Option Block) → ((b : Block) → o ≡ Some b → IsRunning (then b) state claims) → IsRunning (given o w then) state claims
  by_block then None runs = r
  by_block then (Some b) runs = runs b refl

  claim_apart : (b : Block) → b.node ≢ state.node → claims_by (w.claims ++ record { node = b.node; span = units_of b } ∷ []) state.node ≡ claims_by w.claims state.node
  claim_apart b apart = claims_by_other w.claims (record { node = b.node; span = units_of b }) state.node apart

  takes_apart : (b : Block) → b.node ≢ state.node → IsRunning (taken w b) state claims
  takes_apart b apart = by_take (takes (node_at w.nodes b.node) b) (may_claim w.lease.total w.claims b) where
    after_take : Bool → Bool → WorldState
    after_take t u = record w {
      nodes = cond t (set w.nodes b.node (next_node (node_at w.nodes b.node) (cond u (Some (units_of b)) None))) w.nodes;
      claims = cond (t && u) (w.claims ++ record { node = b.node; span = units_of b } ∷ []) w.claims;
    }

    by_take : (t u : Bool) → IsRunning (after_take t u) state claims
    by_take false u = leased_on (after_take false u) refl refl refl
    by_take true true = other_node b.node (next_node (node_at w.nodes b.node) (Some (units_of b))) (after_take true true).claims (after_take true true) apart (claim_apart b apart) refl refl refl
    by_take true false = other_node b.node (next_node (node_at w.nodes b.node) None) w.claims (after_take true false) apart refl refl refl refl

  cuts_apart : (kept : Bool) (node : Node) (b : Block) → b.node ≢ state.node → IsRunning (cut_short kept node w b) state claims
  cuts_apart true node b apart = other_node b.node node (cut_short true node w b).claims (cut_short true node w b) apart (claim_apart b apart) refl refl refl
  cuts_apart false node b apart = other_node b.node node w.claims (cut_short false node w b) apart refl refl refl refl

  stepped : (want : Want) (steps : ℕ) → IsRunning (with_steps w steps want) state claims
  stepped want steps = leased_on (with_steps w steps want) refl refl (total_all w.lease (take steps (steps_for w.lease w.kept want)))

  pub others_leave_running : (e : BrokerEvent) → IsBeside w state.node e → IsRunning (after_event w e) state claims
  others_leave_running (event.Ask other n) h = record { there = r.there; own = r.own; total = r.total; kept = r.kept }
  others_leave_running (event.ToBroker i) h = by_want (served w) (want_at w.sent i) (λ want. leased_on (served w want) refl refl (total_all w.lease (steps_for w.lease w.kept want)))
  others_leave_running (event.ToNode i) h = by_block (taken w) (block_at w.sent i) (λ b is. takes_apart b (h b is))
  others_leave_running (event.Spend other n) h = by_span (node_at w.nodes other).block where
    by_span : (o : Option Span) → IsRunning (given o w (spent_of other n w)) state claims
    by_span None = r
    by_span (Some s) = other_node other (record { number = (node_at w.nodes other).number; block = Some (left_part s n) }) w.claims (spent_of other n w s) h refl refl refl refl
  others_leave_running (event.NodeCrash other) h = other_node other first_node w.claims (with_node other first_node w) h refl refl refl refl
  others_leave_running (event.NodeCut i kept) h = by_block (cut_short kept first_node w) (block_at w.sent i) (λ b is. cuts_apart kept first_node b (h b is))
  others_leave_running (event.NodeFail i kept) h = by_block (λ b. cut_short kept (next_node (node_at w.nodes b.node) None) w b) (block_at w.sent i)
      (λ b is. cuts_apart kept (next_node (node_at w.nodes b.node) None) b (h b is))
  others_leave_running (event.BrokerCrash body gate) h = leased_on (restarted body gate w) refl refl refl
  others_leave_running (event.BrokerCut i steps body gate) h =
      by_want (λ want. restarted body gate (with_steps w steps want)) (want_at w.sent i)
      (λ want. leased_on (restarted body gate (with_steps w steps want)) refl refl (total_all w.lease (take steps (steps_for w.lease w.kept want))))
  others_leave_running (event.BrokerFail i steps) h = by_want (with_steps w steps) (want_at w.sent i) (λ want. stepped want steps)

pub others_leave : {D : Type 0} → OthersLeaveRunning D
others_leave w e state claims r may h = others_leave_running w state claims r e h
