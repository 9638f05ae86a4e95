-- A Want that comes gives a Block that is taken, where the broker has units.
use Rattle.std.proofs.Common.{◌≡◌, ◌≢◌, ℕ, zero, suc, ◌+◌, ◌-◌, ◌^◌, ◌<◌, ◌≤◌, ◌⊎◌, inl, inr, Bool, true, false, not, cond, ◌&&◌, ◌||◌, List, [], ◌∷◌, ◌++◌, length, get_or, set, All, refl, sym, ap, ◌∙◌, subst, arith, Option, Some, None, nat_eq, nat_le, nat_lt}
use Rattle.std.specs.List.{Contains, list_any}
use Rattle.std.specs.Prelude.{option_and_then, slice_get}
use Rattle.std.proofs.lemmas.Bool.{and_from, eq-eqb, le-leb, le-ltb, lt-ltb, ltb-false, ne_eqb}
use Rattle.std.proofs.lemmas.List.{get_or_push, get_or-set_same, get_or_append_left, length_push, length-set}
use Rattle.std.proofs.lemmas.List.Elements.{All-contains}
use Rattle.std.proofs.lemmas.List.Folds.{list_any_none}
use Rattle.std.proofs.lemmas.Option.{slice_get-get_or}
use Rattle.zk_model.specs.declared.Span.{Span}
use Rattle.zk_model.specs.declared.messages.Block.{Block}
use Rattle.zk_model.specs.declared.messages.Want.{Want}
use Rattle.lease_core.specs.Consistent.{IsConsistent, spans_of}
use Rattle.lease_core.specs.Spans.{AreApart, IsApart, IsWithin, meets, span}
use Rattle.lease_core.specs.Machine.{Machine, after, after_all, is_passed}
use Rattle.lease_core.specs.declared.event.Event.TheVariants.{Begin, Draw, Look, Put, Raise, Spend, Claim, Crash}
use Rattle.lease_core.specs.declared.event.Moment.TheVariants.{Body, BodySync, Gate, GateSync}
use Rattle.lease_core.specs.declared.event.Drawn.{Drawn}
use Rattle.lease_core.specs.declared.event.Event.{Event}
use Rattle.lease_core.proofs.Reached.{is_consistent, reached_inv, reached_is_consistent}
use Rattle.broker_core.specs.Leases.{end_for, grant_end, is_refused, kept_after, kept_of, last_start, lease_end, lease_steps, next_span, repeated, reply_to, steps_for}
use Rattle.broker_core.specs.Messages.{as_block, as_want, block_at, block_of, given, out_at, rounded, units_of, want_at}
use Rattle.broker_core.specs.Nodes.{first_node, has_claimed, may_claim, next_node, node_at, takes}
use Rattle.broker_core.specs.Serving.{AskGivesBlock, CanBeServed, ask_and_answer}
use Rattle.broker_core.specs.Sound.{Goes, IsSound}
use Rattle.broker_core.specs.Worlds.{WorldState, after_event, may_happen, served, taken}
use Rattle.broker_core.specs.declared.event.BrokerEvent.TheVariants as event
use Rattle.broker_core.specs.declared.message.LeaseEnd.{LeaseEnd}
use Rattle.broker_core.specs.declared.message.LeaseEnd.TheVariants.{Leased, Exhausted, Refused}
use Rattle.broker_core.specs.declared.message.Message.{Message}
use Rattle.broker_core.specs.declared.message.Message.TheVariants as message
use Rattle.broker_core.specs.declared.message.Node.{Node}
use Rattle.broker_core.specs.declared.message.NodeClaim.{NodeClaim}
use Rattle.broker_core.proofs.Lists.{last_apart}
use Rattle.broker_core.proofs.Steps.{lease_goes, leased, rounded_fits}

-- a pass whose draws end within the total was not refused
not_refused : (total : ℕ) (ds : List Drawn) → All (λ s. s.end ≤ total) (spans_of ds) → is_passed total 0 ds ≡ false
not_refused total ds all = list_any_none (λ (d : Drawn). nat_eq d.pass 0 && nat_lt total d.span.end) ds (each ds all) where
  and_false : (a : Bool) → (a && false) ≡ false
  and_false true = refl
  and_false false = refl

  each : (ds : List Drawn) → All (λ s. s.end ≤ total) (spans_of ds) → All (λ (d : Drawn). (nat_eq d.pass 0 && nat_lt total d.span.end) ≡ false) ds
  each [] all k x l = absurd (omega (arith, l))
  each (d ∷ ds) all zero x l = ap (λ (b : Bool). nat_eq d.pass 0 && b) (le-ltb total d.span.end (all 0 d.span (omega arith))) ∙ and_false (nat_eq d.pass 0)
  each (d ∷ ds) all (suc k) x l = each ds (λ j y m. all (suc j) y (omega (arith, m))) k x (omega (arith, l))

total_one : (m : Machine) (e : Event) → (after m e).total ≡ m.total
total_one m Begin = refl
total_one m (Draw pass k) = refl
total_one m (Look pass) = refl
total_one m (Put (Body pass)) = refl
total_one m (Put BodySync) = refl
total_one m (Put Gate) = refl
total_one m (Put GateSync) = refl
total_one m Raise = refl
total_one m (Spend pass t) = refl
total_one m (Claim t) = refl
total_one m (Crash body gate) = refl

pub total_all : (m : Machine) (es : List Event) → (after_all m es).total ≡ m.total
total_all m [] = refl
total_all m (e ∷ es) = total_all (after m e) es ∙ total_one m e

-- the message after all that were sent
at_end : (sent : List Message) (m : Message) (k : ℕ) → k ≡ length sent → slice_get (sent ++ m ∷ []) k ≡ Some m
at_end sent m k is =
    slice_get-get_or (sent ++ m ∷ []) k m (let more = length_push sent m in omega (arith, more, is)) ∙ ap Some (get_or_push sent m m k (sym is))

-- a Block of a new span is free of the node's claims
is_free : (w : WorldState) (b : Block) → IsSound w → AreApart (w.lease.spent ++ units_of b ∷ []) → has_claimed w.claims b.node (units_of b) ≡ false
is_free w b v apart = list_any_none (λ (c : NodeClaim). nat_eq c.node b.node && meets c.span (units_of b)) w.claims (λ k d l.
    each (get_or w.claims k d) (k, l, default_same w.claims k d l)) where
      and_false : (a : Bool) → (a && false) ≡ false
      and_false true = refl
      and_false false = refl

      default_same : (cs : List NodeClaim) (k : ℕ) (d : NodeClaim) → k < length cs → get_or cs k (get_or cs k d) ≡ get_or cs k d
      default_same [] k d l = absurd (omega (arith, l))
      default_same (c ∷ cs) zero d l = refl
      default_same (c ∷ cs) (suc k) d l = default_same cs k d (omega (arith, l))

      no_unit : (s t : Span) → IsApart s t → meets s t ≡ false
      no_unit s t (inl h) = ap (λ (x : Bool). nat_lt s.start t.end && x) (le-ltb t.start s.end h) ∙ and_false (nat_lt s.start t.end)
      no_unit s t (inr h) = ap (λ (x : Bool). x && nat_lt t.start s.end) (le-ltb s.start t.end h)

      each : (c : NodeClaim) → Contains w.claims c → (nat_eq c.node b.node && meets c.span (units_of b)) ≡ false
      each c h =
          let from = v.theirs c h in
          let old : Contains w.lease.spent c.span = subst (Contains w.lease.spent) from.3 (v.granted.granted_units from.0 from.1) in
          ap (λ (x : Bool). nat_eq c.node b.node && x) (no_unit c.span (units_of b) (last_apart w.lease.spent (units_of b) c.span apart old)) ∙ and_false (nat_eq c.node b.node)

module _ (w : WorldState) (node n : ℕ) (v : IsSound w) (can : CanBeServed w node n) where
  abbrev want : Want
  want = record { node = node; number = (node_at w.nodes node).number; count = n }

  abbrev units : Span
  units = span w.lease.next (w.lease.next + rounded n)

  abbrev block : Block
  block = block_of node (node_at w.nodes node).number (span w.lease.next (w.lease.next + rounded n))

  fits : (1 ≤ rounded n) × (rounded n ≤ 4096)
  fits = rounded_fits n can.some can.few

  consistent : IsConsistent w.lease
  consistent = (reached_is_consistent w.lease v.serving.reached).0

  free : is_refused w.lease ≡ false
  free = not_refused w.lease.total w.lease.drawn (λ k d l. let within = consistent.drawn_within k d l in let left = can.left in let last = within.2 in omega (arith, last, left))

  ends : lease_end w.lease (rounded n) ≡ Leased units
  ends =
      ap (λ (b : Bool). cond b (Exhausted (last_start w.lease)) (cond (nat_lt w.lease.total (w.lease.next + rounded n)) (Exhausted w.lease.next)
      (grant_end (nat_lt w.lease.shown (w.lease.next + rounded n)) (nat_lt 0 w.lease.stage) units))) free
      ∙ ap (λ (b : Bool). cond b (Exhausted w.lease.next) (grant_end (nat_lt w.lease.shown (w.lease.next + rounded n)) (nat_lt 0 w.lease.stage) units))
      (le-ltb w.lease.total (w.lease.next + rounded n) can.left)
      ∙ by_put can.put where
        by_low : (low : Bool) → grant_end low false units ≡ Leased units
        by_low true = refl
        by_low false = refl

        by_put : ((w.lease.stage ≡ 0) ⊎ (w.lease.next + rounded n ≤ w.lease.shown))
            → grant_end (nat_lt w.lease.shown (w.lease.next + rounded n)) (nat_lt 0 w.lease.stage) units ≡ Leased units
        by_put (inl none) = ap (λ (b : Bool). grant_end (nat_lt w.lease.shown (w.lease.next + rounded n)) b units) (le-ltb 0 w.lease.stage (omega (arith, none)))
            ∙ by_low (nat_lt w.lease.shown (w.lease.next + rounded n))
        by_put (inr low) = ap (λ (b : Bool). grant_end b (nat_lt 0 w.lease.stage) units) (le-ltb w.lease.shown (w.lease.next + rounded n) low)

  -- the Want is new to the broker
  end_is : end_for w.lease w.kept want ≡ Leased units
  end_is = ap (λ (o : Option Span). given o (lease_end w.lease (rounded n)) Leased) can.anew ∙ ends

  steps_are : steps_for w.lease w.kept want ≡ lease_steps w.lease (rounded n)
  steps_are = ap (λ (o : Option Span). given o (lease_steps w.lease (rounded n)) (λ s. [])) can.anew

  units_are : units_of block ≡ units
  units_are = let few = fits.1 in ap (λ (x : ℕ). span w.lease.next x) (omega (arith, few))

  abbrev asked : WorldState
  asked = record w { sent = w.sent ++ message.Want want ∷ [] }

  abbrev answered : WorldState
  answered = record w {
    lease = after_all w.lease (steps_for w.lease w.kept want);
    kept = kept_after w.kept want (end_for w.lease w.kept want);
    sent = (w.sent ++ message.Want want ∷ []) ++ reply_to want (end_for w.lease w.kept want);
  }

  want_is : want_at asked.sent (length w.sent) ≡ Some want
  want_is = ap (option_and_then as_want) (at_end w.sent (message.Want want) (length w.sent) refl)

  block_is : block_at answered.sent (length w.sent + 1) ≡ Some block
  block_is =
      ap (λ (e : LeaseEnd). block_at ((w.sent ++ message.Want want ∷ []) ++ reply_to want e) (length w.sent + 1)) end_is
      ∙ ap (option_and_then as_block) (at_end (w.sent ++ message.Want want ∷ []) (message.Block block) (length w.sent + 1) (sym (length_push w.sent (message.Want want))))

  there : nat_lt node (length w.nodes) ≡ true
  there = lt-ltb node (length w.nodes) can.there

  -- after the three events
  takes_it : takes (node_at w.nodes node) block ≡ true
  takes_it =
      let next = can.number in let some = fits.0 in let few = fits.1 in
      and_from (nat_eq (node_at w.nodes node).number (node_at w.nodes node).number) _ (eq-eqb (node_at w.nodes node).number (node_at w.nodes node).number refl)
      (and_from (not (nat_eq (node_at w.nodes node).number (2 ^ 64 - 1))) _ (ap not (ne_eqb (node_at w.nodes node).number (2 ^ 64 - 1) (λ e. omega (arith, next, e))))
      (ap not (ne_eqb block.count 0 (λ e. omega (arith, some, few, e)))))

  total_is : answered.lease.total ≡ w.lease.total
  total_is = total_all w.lease (steps_for w.lease w.kept want)

  may_claim_it : may_claim answered.lease.total w.claims block ≡ true
  may_claim_it =
      let left = can.left in let few = fits.1 in
      and_from (nat_le (block.start + block.count) answered.lease.total) _ (le-leb (block.start + block.count) answered.lease.total (omega (arith, left, few, total_is)))
      (ap not (is_free w block v new_apart)) where
        l : (units ≡ next_span w.lease (rounded n)) × ((after_all w.lease (lease_steps w.lease (rounded n))).spent ≡ w.lease.spent ++ units ∷ [])
        l = leased w.lease (rounded n) units ends

        new_apart : AreApart (w.lease.spent ++ units_of block ∷ [])
        new_apart = subst (λ (s : Span). AreApart (w.lease.spent ++ s ∷ [])) (sym units_are)
            (subst AreApart l.1 (reached_is_consistent _ (lease_goes w.lease (rounded n) v.serving fits).serving.reached).1.spent)

  asks : may_happen w (event.Ask node n) ≡ true
  asks = and_from (nat_lt node (length w.nodes)) _ there (and_from (nat_le 1 n) (nat_le n 4096) (le-leb 1 n can.some) (le-leb n 4096 can.few))

  comes : may_happen asked (event.ToBroker (length w.sent)) ≡ true
  comes = ap (λ (o : Option Want). given o false (λ x. nat_lt x.node (length w.nodes))) want_is ∙ there

  after_comes : after_event asked (event.ToBroker (length w.sent)) ≡ answered
  after_comes = ap (λ (o : Option Want). given o asked (served asked)) want_is

  arrives : may_happen answered (event.ToNode (length w.sent + 1)) ≡ true
  arrives = ap (λ (o : Option Block). given o (given (out_at answered.sent (length w.sent + 1)) false (λ x. nat_lt x.node (length w.nodes))) (λ b. nat_lt b.node (length w.nodes))) block_is ∙ there

  holds : (node_at (after_event answered (event.ToNode (length w.sent + 1))).nodes node).block ≡ Some units
  holds =
      ap (λ (o : Option Block). (node_at (given o answered (taken answered)).nodes node).block) block_is
      ∙ ap (λ (t : Bool). (node_at (cond t (set w.nodes node (next_node (node_at w.nodes node) (cond (may_claim answered.lease.total w.claims block) (Some (units_of block)) None))) w.nodes) node).block) takes_it
      ∙ ap (λ (t : Bool). (node_at (set w.nodes node (next_node (node_at w.nodes node) (cond t (Some (units_of block)) None))) node).block) may_claim_it
      ∙ ap (λ (x : Node). x.block) (get_or-set_same w.nodes node (next_node (node_at w.nodes node) (Some (units_of block))) first_node can.there)
      ∙ ap Some units_are

pub ask_gives_block : AskGivesBlock
ask_gives_block w node n v can =
    let is = after_comes w node n v can in (
      and_from (may_happen w (event.Ask node n)) _ (asks w node n v can)
          (and_from (may_happen (asked w node n v can) (event.ToBroker (length w.sent))) _ (comes w node n v can)
          (and_from (may_happen (after_event (asked w node n v can) (event.ToBroker (length w.sent))) (event.ToNode (length w.sent + 1))) true
          (subst (λ (x : WorldState). may_happen x (event.ToNode (length w.sent + 1)) ≡ true) (sym is) (arrives w node n v can)) refl)),
      subst (λ (x : WorldState). (node_at (after_event x (event.ToNode (length w.sent + 1))).nodes node).block ≡ Some (units w node n v can)) (sym is) (holds w node n v can),
    )
