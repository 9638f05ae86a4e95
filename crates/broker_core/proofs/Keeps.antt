-- Each possible event keeps what holds of a world.
use Rattle.std.proofs.Common.{◌≡◌, ℕ, ◌+◌, ◌<◌, ◌≤◌, inr, Bool, true, false, cond, ◌&&◌, List, [], ◌∷◌, ◌++◌, length, get_or, replicate, set, refl, sym, ap, ◌∙◌, subst, arith, Option, None, Some, nat_eq, nat_le}
use Rattle.std.specs.List.{Contains}
use Rattle.std.proofs.lemmas.List.{append-nil}
use Rattle.std.proofs.lemmas.Bool.{and_parts, eqb-true, false≢true, leb-true, ltb-true, not-true}
use Rattle.std.proofs.lemmas.List.Elements.{All-contains, Contains-get_or, Contains-push}
use Rattle.std.proofs.lemmas.Option.{none-some, same_Some}
use Rattle.lease_core.specs.Machine.{Machine, after, after_all, durable}
use Rattle.lease_core.specs.Spans.{AreApart, IsApart, span}
use Rattle.lease_core.specs.declared.event.Event.TheVariants.{Begin, Crash}
use Rattle.lease_core.proofs.Reached.{reached_is_consistent}
use Rattle.zk_model.specs.declared.Span.{Span}
use Rattle.broker_core.specs.Leases.{end_for, kept_of, lease_end, lease_steps, repeated, steps_for}
use Rattle.broker_core.specs.Messages.{given, block_at, block_of, rounded, units_of, want_at}
use Rattle.broker_core.specs.Nodes.{first_node, has_claimed, may_claim, may_draw, next_node, node_at, takes}
use Rattle.broker_core.specs.Safe.{IsLed, IsSafe, UnitsAreSpentOnce}
use Rattle.broker_core.specs.Sound.{Goes, IsClaimedBy, IsSound}
use Rattle.broker_core.specs.Worlds.{WorldState, after_event, after_events, claimed, cut_short, is_count, is_node, may_all_happen, may_happen, replied, restarted, served, spent_of, taken, with_node, with_steps, world_at_first}
use Rattle.broker_core.specs.declared.event.BrokerEvent.{BrokerEvent}
use Rattle.broker_core.specs.declared.event.BrokerEvent.TheVariants as event
use Rattle.zk_model.specs.declared.messages.Block.{Block}
use Rattle.broker_core.specs.declared.message.Kept.{Kept}
use Rattle.broker_core.specs.declared.message.LeaseEnd.{LeaseEnd}
use Rattle.broker_core.specs.declared.message.LeaseEnd.TheVariants.{Leased, Exhausted, Refused}
use Rattle.broker_core.specs.declared.message.Message.{Message}
use Rattle.broker_core.specs.declared.message.Message.TheVariants as message
use Rattle.broker_core.specs.declared.message.Node.{Node}
use Rattle.zk_model.specs.declared.messages.Want.{Want}
use Rattle.broker_core.proofs.Lists.{block_sent, default_at, in_none, last_apart, want_sent}
use Rattle.broker_core.proofs.Steps.{all_go, lease_goes, leased, restarts, rounded_fits, some_go}
use Rattle.broker_core.proofs.Sending.{IsGrant, counted_more, granted_more, granted_on, kept_more, kept_none, kept_set, theirs_more, theirs_one}
use Rattle.broker_core.proofs.Holding.{CanDraw, all_claimed_more, apart_drawn, claimed_drawn, spent_apart, unspent_drawn, unspent_more, unspent_none, unspent_set}

-- ---- the broker

-- the lease machine goes on
pub goes_on : (w : WorldState) (now : Machine) → IsSound w → Goes w.lease now → IsSound (record w { lease = now })
goes_on w now v g = record {
  serving = g.serving;
  counted = v.counted;
  granted = granted_on w.lease.spent now.spent w.sent v.granted g.grows;
  kept = v.kept;
  theirs = v.theirs;
  unspent = v.unspent;
  claimed = v.claimed;
  apart = v.apart;
}

forgets : (w : WorldState) (n : ℕ) → IsSound w → IsSound (record w { kept = replicate n None })
forgets w n v = record {
  serving = v.serving;
  counted = v.counted;
  granted = v.granted;
  kept = kept_none n w.sent;
  theirs = v.theirs;
  unspent = v.unspent;
  claimed = v.claimed;
  apart = v.apart;
}

pub restarts_sound : (w : WorldState) (body : List ℕ) (gate : ℕ) → IsSound w → IsSound (restarted body gate w)
restarts_sound w body gate v =
    forgets (record w { lease = after (after w.lease (Crash body gate)) Begin }) (length w.kept)
    (goes_on w (after (after w.lease (Crash body gate)) Begin) v (restarts w.lease body gate v.serving))

-- a message more, which is a Want of few units, or a Block that may be sent
pub sends : (w : WorldState) (m : Message) → IsSound w
    → ((want : Want) → m ≡ message.Want want → (1 ≤ want.count) × (want.count ≤ 4096))
    → ((b : Block) → m ≡ message.Block b → IsGrant w.lease.spent w.sent b)
    → IsSound (record w { sent = w.sent ++ m ∷ [] })
sends w m v few grant = record {
  serving = v.serving;
  counted = counted_more w.sent m v.counted few;
  granted = granted_more w.lease.spent w.sent m v.granted grant;
  kept = kept_more w.kept w.sent m v.kept;
  theirs = theirs_more w.sent m w.claims v.theirs;
  unspent = v.unspent;
  claimed = v.claimed;
  apart = v.apart;
}

keeps_one : (w : WorldState) (node : ℕ) (k : Kept) → IsSound w → Contains w.sent (message.Block (block_of node k.number k.span))
    → IsSound (record w { kept = set w.kept node (Some k) })
keeps_one w node k v is = record {
  serving = v.serving;
  counted = v.counted;
  granted = v.granted;
  kept = kept_set w.kept w.sent node k v.kept is;
  theirs = v.theirs;
  unspent = v.unspent;
  claimed = v.claimed;
  apart = v.apart;
}

pub replies : (w : WorldState) (want : Want) (end : LeaseEnd) → IsSound w
    → ((s : Span) → end ≡ Leased s → IsGrant w.lease.spent w.sent (block_of want.node want.number s)) → IsSound (replied want end w)
replies w want (Leased s) v grant =
    let b : Block = block_of want.node want.number s in
    keeps_one (record w { sent = w.sent ++ message.Block b ∷ [] }) want.node (record { number = want.number; span = s })
    (sends w (message.Block b) v (λ want e. absurd (cc)) (λ c e. subst (IsGrant w.lease.spent w.sent) (same_block b c e) (grant s refl)))
    (Contains-push w.sent (message.Block b)) where
      same_block : (b c : Block) → message.Block b ≡ message.Block c → b ≡ c
      same_block b c e = cc
replies w want (Exhausted at) v grant =
    sends w (message.Out (record { node = want.node; number = want.number; at = at })) v (λ w e. absurd (cc)) (λ b e. absurd (cc))
replies w want Refused v grant = subst (λ (sent : List Message). IsSound (record w { sent = sent })) (sym (append-nil w.sent)) v

-- the units of a granted span's Block are the span, where it has no more than a lease may have
units_are : (node number start n : ℕ) → n ≤ 4096 → units_of (block_of node number (span start (start + n))) ≡ span start (start + n)
units_are node number start n few = ap (λ (end : ℕ). span start end) (omega (arith, few))

-- a Block that answers a Want may be sent once the steps of its lease took place
pub grant_for : (w : WorldState) (want : Want) → IsSound w → (1 ≤ want.count) × (want.count ≤ 4096) → (s : Span) → end_for w.lease w.kept want ≡ Leased s
    → IsGrant (after_all w.lease (steps_for w.lease w.kept want)).spent w.sent (block_of want.node want.number s)
grant_for w want v fits s is = by_kept (kept_of w.kept want.node) refl is where
  b : Block
  b = block_of want.node want.number s

  Goal : List Span → Type 0
  Goal granted = IsGrant granted w.sent b

  again : (k : Kept) → kept_of w.kept want.node ≡ Some k → k.number ≡ want.number → k.span ≡ s → Goal w.lease.spent
  again k kept number units =
      let was = v.kept want.node k kept in
      let sent : Contains w.sent (message.Block b) = subst (λ (x : ℕ × Span). Contains w.sent (message.Block (block_of want.node x.0 x.1))) (λ i. (number i, units i)) was in
      record { units = v.granted.granted_units b sent; theirs = λ a h. v.granted.one_node a b h sent }

  anew : lease_end w.lease (rounded want.count) ≡ Leased s → Goal (after_all w.lease (lease_steps w.lease (rounded want.count))).spent
  anew e =
      let n : ℕ = rounded want.count in
      let l = leased w.lease n s e in
      let few : n ≤ 4096 = let high = fits.1 in omega (arith, high) in
      let same : units_of b ≡ s = ap (λ (x : Span). units_of (block_of want.node want.number x)) l.0 ∙ units_are want.node want.number w.lease.next n few ∙ sym l.0 in
      let now = lease_goes w.lease n v.serving (rounded_fits want.count fits.0 fits.1) in
      let apart : AreApart (w.lease.spent ++ s ∷ []) = subst AreApart l.1 (reached_is_consistent _ now.serving.reached).1.spent in
      record {
        units = subst (λ (granted : List Span). Contains granted (units_of b)) (sym l.1)
            (subst (Contains (w.lease.spent ++ s ∷ [])) (sym same) (Contains-push w.lease.spent s));
        theirs = λ a h. inr (subst (IsApart (units_of a)) (sym same) (last_apart w.lease.spent s (units_of a) apart (v.granted.granted_units a h)));
      }

  by_kept : (o : Option Kept) → kept_of w.kept want.node ≡ o → given (repeated o want.number) (lease_end w.lease (rounded want.count)) Leased ≡ Leased s
      → Goal (after_all w.lease (given (repeated o want.number) (lease_steps w.lease (rounded want.count)) (λ s. []))).spent
  by_kept None kept e = anew e
  by_kept (Some k) kept e = by_number (nat_eq k.number want.number) refl e where
    by_number : (t : Bool) → nat_eq k.number want.number ≡ t → given (cond t (Some k.span) None) (lease_end w.lease (rounded want.count)) Leased ≡ Leased s
        → Goal (after_all w.lease (given (cond t (Some k.span) None) (lease_steps w.lease (rounded want.count)) (λ s. []))).spent
    by_number true same e = again k kept (eqb-true k.number want.number same) (let x : k.span ≡ s = cc in x)
    by_number false other e = anew e

-- ---- nodes

-- a node that holds nothing stands at a place
pub empties : (w : WorldState) (node : ℕ) (now : Node) → now.block ≡ None → IsSound w → IsSound (with_node node now w)
empties w node now none v = record {
  serving = v.serving;
  counted = v.counted;
  granted = v.granted;
  kept = v.kept;
  theirs = v.theirs;
  unspent = unspent_none w.claims w.spent w.nodes node now none v.unspent;
  claimed = v.claimed;
  apart = v.apart;
}

-- a Block that was sent is claimed
pub claims : (w : WorldState) (b : Block) → IsSound w → Contains w.sent (message.Block b) → IsSound (claimed b w)
claims w b v is = record {
  serving = v.serving;
  counted = v.counted;
  granted = v.granted;
  kept = v.kept;
  theirs = theirs_one w.sent w.claims b v.theirs is;
  unspent = unspent_more w.claims (record { node = b.node; span = units_of b }) w.spent w.nodes v.unspent;
  claimed = all_claimed_more w.claims (record { node = b.node; span = units_of b }) w.spent v.claimed;
  apart = v.apart;
}

-- the node holds what it claimed, none of which it claimed before
pub holds : (w : WorldState) (b : Block) (number : ℕ) → IsSound w → Contains w.sent (message.Block b) → has_claimed w.claims b.node (units_of b) ≡ false
    → IsSound (with_node b.node (record { number = number; block = Some (units_of b) }) (claimed b w))
holds w b number v is free = let c = claims w b v is in record {
  serving = v.serving;
  counted = v.counted;
  granted = v.granted;
  kept = v.kept;
  theirs = c.theirs;
  unspent = unspent_set (claimed b w).claims w.spent w.nodes b.node (record { number = number; block = Some (units_of b) }) c.unspent
      (λ s e. subst Held (same_Some (units_of b) s e) (
        (record { node = b.node; span = units_of b }, Contains-push w.claims _, refl, (omega arith, omega arith, omega arith)),
        spent_apart w.lease.spent w.sent w.claims w.spent b v.granted v.theirs v.claimed is free,
      ));
  claimed = c.claimed;
  apart = v.apart;
} where
  Held : Span → Type 0
  Held s = IsClaimedBy (claimed b w).claims b.node s × ((t : Span) → Contains w.spent t → IsApart t s)

pub takes_sound : (w : WorldState) (b : Block) → IsSound w → Contains w.sent (message.Block b) → IsSound (taken w b)
takes_sound w b v is = by_take (takes node b) where
  node : Node
  node = node_at w.nodes b.node

  taken_by : Bool → Bool → WorldState
  taken_by t u = record w {
    nodes = cond t (set w.nodes b.node (next_node node (cond u (Some (units_of b)) None))) w.nodes;
    claims = cond (t && u) (w.claims ++ record { node = b.node; span = units_of b } ∷ []) w.claims;
  }

  by_claim : (t : Bool) → may_claim w.lease.total w.claims b ≡ t → IsSound (taken_by true t)
  by_claim true may = holds w b (node.number + 1) v is
      (not-true (has_claimed w.claims b.node (units_of b)) (and_parts (nat_le (b.start + b.count) w.lease.total) _ may).1)
  by_claim false not_may = empties w b.node (next_node node None) refl v

  by_take : (t : Bool) → IsSound (taken_by t (may_claim w.lease.total w.claims b))
  by_take true = by_claim (may_claim w.lease.total w.claims b) refl
  by_take false = v

pub cuts : (w : WorldState) (kept : Bool) (now : Node) (b : Block) → now.block ≡ None → IsSound w → Contains w.sent (message.Block b)
    → IsSound (cut_short kept now w b)
cuts w true now b none v is = empties (claimed b w) b.node now none (claims w b v is)
cuts w false now b none v is = empties w b.node now none v

pub draws : (w : WorldState) (node n : ℕ) (s : Span) → IsSound w → node < length w.nodes → 1 ≤ n → s.start + n ≤ s.end → (node_at w.nodes node).block ≡ Some s
    → IsSound (spent_of node n w s)
draws w node n s v there some fits is = record {
  serving = v.serving;
  counted = v.counted;
  granted = v.granted;
  kept = v.kept;
  theirs = v.theirs;
  unspent = unspent_drawn w.lease.spent w.sent w.claims w.spent w.nodes node s n (node_at w.nodes node).number there v.granted v.theirs can v.claimed v.unspent;
  claimed = claimed_drawn w.claims w.spent node s n can v.claimed;
  apart = apart_drawn w.claims w.spent node s n can v.claimed v.apart;
} where
  can : CanDraw w.claims w.spent node s n
  can = let held = v.unspent node s is in record { claim = held.0; unspent = held.1; some = some; fits = fits }

-- ---- all events

-- what a Want or a Block at a place is, where an event says of it what is possible
want_there : (w : WorldState) (i : ℕ) (test : Want → Bool) (then : Want → WorldState) → IsSound w → given (want_at w.sent i) false test ≡ true
    → ((want : Want) → (1 ≤ want.count) × (want.count ≤ 4096) → test want ≡ true → IsSound (then want)) → IsSound (given (want_at w.sent i) w then)
want_there w i test then v ok next = by_want (want_at w.sent i) refl ok where
  by_want : (o : Option Want) → want_at w.sent i ≡ o → given o false test ≡ true → IsSound (given o w then)
  by_want None is not_there = absurd (false≢true not_there)
  by_want (Some want) is may = next want (v.counted want (want_sent w.sent i want is)) may

block_there : (w : WorldState) (i : ℕ) (then : Block → WorldState) → IsSound w
    → ((b : Block) → Contains w.sent (message.Block b) → IsSound (then b)) → IsSound (given (block_at w.sent i) w then)
block_there w i then v next = by_block (block_at w.sent i) refl where
  by_block : (o : Option Block) → block_at w.sent i ≡ o → IsSound (given o w then)
  by_block None is = v
  by_block (Some b) is = next b (block_sent w.sent i b is)

pub keeps : (w : WorldState) (e : BrokerEvent) → IsSound w → may_happen w e ≡ true → IsSound (after_event w e)
keeps w (event.Ask node n) v ok =
    let count = and_parts (nat_le 1 n) (nat_le n 4096) (and_parts (is_node w node) (is_count n) ok).1 in
    let asked : Want = record { node = node; number = (node_at w.nodes node).number; count = n } in
    sends w (message.Want asked) v
    (λ want e. let same : n ≡ want.count = ap (λ (x : Want). x.count) (same_want asked want e) in
    subst (λ (x : ℕ). (1 ≤ x) × (x ≤ 4096)) same (leb-true 1 n count.0, leb-true n 4096 count.1))
    (λ b e. absurd (cc)) where
      same_want : (x y : Want) → message.Want x ≡ message.Want y → x ≡ y
      same_want x y e = cc
keeps w (event.ToBroker i) v ok = want_there w i _ (served w) v ok (λ want fits may.
    replies (record w { lease = after_all w.lease (steps_for w.lease w.kept want) }) want (end_for w.lease w.kept want)
    (goes_on w (after_all w.lease (steps_for w.lease w.kept want)) v (all_go w.lease w.kept want v.serving fits))
    (λ s is. grant_for w want v fits s is))
keeps w (event.ToNode i) v ok = block_there w i (taken w) v (λ b is. takes_sound w b v is)
keeps w (event.Spend node n) v ok =
    let p = and_parts (is_node w node) (is_count n && may_draw (node_at w.nodes node).block n) ok in
    let q = and_parts (is_count n) (may_draw (node_at w.nodes node).block n) p.1 in
    by_block (node_at w.nodes node).block refl (ltb-true node (length w.nodes) p.0) (leb-true 1 n (and_parts (nat_le 1 n) (nat_le n 4096) q.0).0) q.1 where
      by_block : (o : Option Span) → (node_at w.nodes node).block ≡ o → node < length w.nodes → 1 ≤ n → may_draw o n ≡ true → IsSound (given o w (spent_of node n w))
      by_block None is there some may = absurd (false≢true may)
      by_block (Some s) is there some may = draws w node n s v there some (leb-true (s.start + n) s.end may) is
keeps w (event.NodeCrash node) v ok = empties w node first_node refl v
keeps w (event.NodeCut i kept) v ok = block_there w i (cut_short kept first_node w) v (λ b is. cuts w kept first_node b refl v is)
keeps w (event.NodeFail i kept) v ok = block_there w i (λ b. cut_short kept (next_node (node_at w.nodes b.node) None) w b) v
    (λ b is. cuts w kept (next_node (node_at w.nodes b.node) None) b refl v is)
keeps w (event.BrokerCrash body gate) v ok = restarts_sound w body gate v
keeps w (event.BrokerCut i steps body gate) v ok = want_there w i _ (λ want. restarted body gate (with_steps w steps want)) v ok (λ want fits may.
    restarts_sound (with_steps w steps want) body gate
    (goes_on w (with_steps w steps want).lease v (some_go w.lease w.kept want steps v.serving fits)))
keeps w (event.BrokerFail i steps) v ok = want_there w i _ (with_steps w steps) v ok (λ want fits may.
    goes_on w (with_steps w steps want).lease v (some_go w.lease w.kept want steps v.serving fits))

pub keeps_all : (w : WorldState) (es : List BrokerEvent) → IsSound w → may_all_happen w es ≡ true → IsSound (after_events w es)
keeps_all w [] v ok = v
keeps_all w (e ∷ es) v ok =
    let p = and_parts (may_happen w e) (may_all_happen (after_event w e) es) ok in
    keeps_all (after_event w e) es (keeps w e v p.0) p.1

pub at_first : (total nodes : ℕ) → IsSound (world_at_first total nodes)
at_first total nodes = record {
  serving = record { reached = (total, 1, Begin ∷ [], refl, refl); up = refl; has_pass = omega arith };
  counted = λ want h. absurd (in_none (message.Want want) h);
  granted = record {
    granted_units = λ b h. absurd (in_none (message.Block b) h);
    one_node = λ a b h k. absurd (in_none (message.Block a) h);
  };
  kept = kept_none nodes [];
  theirs = λ c h. absurd (in_none c h);
  unspent = λ node s is. absurd (blank nodes node s is);
  claimed = λ t h. absurd (in_none t h);
  apart = λ i j d a b. absurd (omega arith);
} where
  blank : (n node : ℕ) (s : Span) → (node_at (replicate n first_node) node).block ≡ Some s → ⊥
  blank n node s is = none-some s (sym (ap (λ (x : Node). x.block) (default_at n node first_node)) ∙ is)

-- what was spent ends at or below the durable ceiling
ends_below : (w : WorldState) → IsSound w → (t : Span) → Contains w.spent t → t.end ≤ durable w.lease
ends_below w v t h = in_claim (v.claimed t h) where
  of_block : (b : Block) → Contains w.sent (message.Block b) → (units_of b).end ≤ durable w.lease
  of_block b is = All-contains (λ (s : Span). s.end ≤ durable w.lease) w.lease.spent (units_of b)
      (reached_is_consistent w.lease v.serving.reached).1.durable (v.granted.granted_units b is)

  in_claim : (node : ℕ) × IsClaimedBy w.claims node t → t.end ≤ durable w.lease
  in_claim (node, (c, k, of, (low, units, high))) =
      let from = v.theirs c k in
      let below = of_block from.0 from.1 in
      let same : (units_of from.0).end ≡ c.span.end = ap (λ (s : Span). s.end) from.3 in
      omega (arith, high, below, same)

pub is_safe : (w : WorldState) → IsSound w → IsSafe w
is_safe w v = record {
  spent = v.apart;
  durable = λ k d l. ends_below w v (get_or w.spent k d) (Contains-get_or w.spent k d l);
}

pub units_are_spent_once : UnitsAreSpentOnce
units_are_spent_once total nodes events ok =
    is_safe (after_events (world_at_first total nodes) events) (keeps_all (world_at_first total nodes) events (at_first total nodes) ok)

pub led_sound : (w : WorldState) → IsLed w → IsSound w
led_sound w led = subst IsSound (sym led.4) (keeps_all (world_at_first led.0 led.1) led.2 (at_first led.0 led.1) led.3)
