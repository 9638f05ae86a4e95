-- For the code of the world: what it keeps, whole, through each event.
use Rattle.std.proofs.Common.{◌≡◌, ℕ, ◌+◌, ◌<◌, ◌≤◌, Bool, true, false, cond, ◌&&◌, List, [], ◌∷◌, ◌++◌, length, replicate, set, refl, sym, ap, ◌∙◌, subst, Option, None, Some, nat_lt}
use Rattle.std.specs.Prelude.{slice_get, Result, Ok, Err, IfOk, OnErr}
use Rattle.std.specs.List.{Contains}
use Rattle.std.proofs.lemmas.Bool.{ltb-true, true≢false}
use Rattle.std.proofs.lemmas.List.{length-replicate, length-set}
use Rattle.std.proofs.lemmas.Option.{cond_some, get_or_from_slice_get, none-some, slice_get_within}
use Rattle.lease_core.specs.Machine.{Machine, after, after_all, is_possible, machine_at_first}
use Rattle.lease_core.specs.Kept.{IsTaken}
use Rattle.lease_core.specs.declared.event.Event.TheVariants.{Begin, Crash}
use Rattle.zk_model.specs.declared.Span.{Span}
use Rattle.broker_core.specs.Leases.{end_for, kept_after, reply_to, steps_for}
use Rattle.broker_core.specs.Messages.{block_at, given, units_of, want_at}
use Rattle.broker_core.specs.Nodes.{claims_taken, first_node, may_claim, next_node, node_at, nodes_taken, takes}
use Rattle.broker_core.specs.Sound.{Goes, IsWhole}
use Rattle.broker_core.specs.Worlds.{WorldState, restarted, want_to, world_at_first, world_of}
use Rattle.zk_model.specs.declared.messages.Block.{Block}
use Rattle.broker_core.specs.declared.message.Kept.{Kept}
use Rattle.broker_core.specs.declared.message.LeaseEnd.{LeaseEnd}
use Rattle.broker_core.specs.declared.message.LeaseEnd.TheVariants.{Leased, Exhausted, Refused}
use Rattle.broker_core.specs.declared.message.Message.{Message}
use Rattle.broker_core.specs.declared.message.Message.TheVariants as message
use Rattle.broker_core.specs.declared.message.Node.{Node}
use Rattle.broker_core.specs.declared.message.NodeClaim.{NodeClaim}
use Rattle.zk_model.specs.declared.messages.Want.{Want}
use Rattle.broker_core.proofs.Lists.{block_sent, want_sent}
use Rattle.broker_core.proofs.Steps.{all_go}
use Rattle.broker_core.proofs.Keeps.{at_first, cuts, draws, empties, goes_on, grant_for, replies, restarts_sound, sends, takes_sound}

-- the Want at a place, of a node that there is
pub want_is : (sent : List Message) (nodes i : ℕ) (want : Want) → want_to sent nodes i ≡ Some want → (want_at sent i ≡ Some want) × (want.node < nodes)
want_is sent nodes i want = by_want (want_at sent i) refl where
  by_want : (o : Option Want) → want_at sent i ≡ o → given o None (λ v. cond (nat_lt v.node nodes) (Some v) None) ≡ Some want
      → (want_at sent i ≡ Some want) × (want.node < nodes)
  by_want None is e = absurd (none-some want e)
  by_want (Some v) is e =
      let p = cond_some (nat_lt v.node nodes) v want e in
      (is ∙ ap Some p.1, subst (λ (x : Want). x.node < nodes) p.1 (ltb-true v.node nodes p.0))

-- it is of few units
pub want_fits : (w : WorldState) (sent : List Message) (nodes i : ℕ) (want : Want) → IsWhole w → sent ≡ w.sent → want_to sent nodes i ≡ Some want
    → (1 ≤ want.count) × (want.count ≤ 4096)
want_fits w sent nodes i want v same is = v.sound.counted want (want_sent w.sent i want
    (subst (λ (all : List Message). want_at all i ≡ Some want) same (want_is sent nodes i want is).0))

pub want_node : (sent : List Message) (nodes i : ℕ) (want : Want) → want_to sent nodes i ≡ Some want → want.node < nodes
want_node sent nodes i want is = (want_is sent nodes i want is).1

pub first_whole : (total nodes : ℕ) → IsWhole (world_at_first total nodes)
first_whole total nodes = record {
  sound = at_first total nodes;
  places = length-replicate nodes None ∙ sym (length-replicate nodes first_node);
}

pub asks_whole : (w : WorldState) (node n number : ℕ) (sent : List Message) → IsWhole w → 1 ≤ n → n ≤ 4096
    → sent ≡ w.sent ++ message.Want (record { node = node; number = number; count = n }) ∷ []
    → IsWhole (world_of w.lease w.kept w.nodes w.claims sent w.spent)
asks_whole w node n number sent v some few is = subst (λ (all : List Message). IsWhole (world_of w.lease w.kept w.nodes w.claims all w.spent)) (sym is)
    (record { sound = sends w (message.Want asked) v.sound counted (λ b e. absurd (cc)); places = v.places }) where
      asked : Want
      asked = record { node = node; number = number; count = n }

      same_want : (x y : Want) → message.Want x ≡ message.Want y → x ≡ y
      same_want x y e = cc

      counted : (want : Want) → message.Want asked ≡ message.Want want → (1 ≤ want.count) × (want.count ≤ 4096)
      counted want e = subst (λ (x : ℕ). (1 ≤ x) × (x ≤ 4096)) (ap (λ (x : Want). x.count) (same_want asked want e)) (some, few)

pub restarted_is : (w : WorldState) (lease : Machine) (kept : List (Option Kept)) (body : List ℕ) (gate : ℕ)
    → ((bytes : List ℕ) → lease ≡ after (after w.lease (Crash bytes gate)) Begin) → kept ≡ replicate (length w.kept) None
    → world_of lease kept w.nodes w.claims w.sent w.spent ≡ restarted body gate w
restarted_is w lease kept body gate is none = λ i. world_of (is body i) (none i) w.nodes w.claims w.sent w.spent

pub restarted_whole : (w : WorldState) (lease : Machine) (kept : List (Option Kept)) (gate : ℕ) → IsWhole w
    → ((bytes : List ℕ) → lease ≡ after (after w.lease (Crash bytes gate)) Begin) → kept ≡ replicate (length w.kept) None
    → IsWhole (world_of lease kept w.nodes w.claims w.sent w.spent)
restarted_whole w lease kept gate v is none = subst IsWhole (sym (restarted_is w lease kept [] gate is none)) (record {
  sound = restarts_sound w [] gate v.sound;
  places = length-replicate (length w.kept) None ∙ v.places;
})

pub crashed_whole : (w : WorldState) (node : ℕ) → IsWhole w → IsWhole (world_of w.lease w.kept (set w.nodes node first_node) w.claims w.sent w.spent)
crashed_whole w node v = record { sound = empties w node first_node refl v.sound; places = v.places ∙ sym (length-set w.nodes node first_node) }

-- the lease of a Want goes on, and nothing else changes
pub goes_whole : (w : WorldState) (lease : Machine) (kept : List (Option Kept)) (sent : List Message) → IsWhole w → Goes w.lease lease → (kept ≡ w.kept) × (sent ≡ w.sent)
    → IsWhole (world_of lease kept w.nodes w.claims sent w.spent)
goes_whole w lease kept sent v goes same = subst IsWhole (λ i. world_of lease (sym same.0 i) w.nodes w.claims (sym same.1 i) w.spent)
    (record { sound = goes_on w lease v.sound goes; places = v.places })

-- a Want is served
pub served_whole : (w : WorldState) (want : Want) (lease : Machine) (kept : List (Option Kept)) (sent : List Message) → IsWhole w → (1 ≤ want.count) × (want.count ≤ 4096)
    → lease ≡ after_all w.lease (steps_for w.lease w.kept want) → kept ≡ kept_after w.kept want (end_for w.lease w.kept want)
    → sent ≡ w.sent ++ reply_to want (end_for w.lease w.kept want) → IsWhole (world_of lease kept w.nodes w.claims sent w.spent)
served_whole w want lease kept sent v fits l k s = subst IsWhole (λ i. world_of (sym l i) (sym k i) w.nodes w.claims (sym s i) w.spent) (record {
  sound = replies (record w { lease = after_all w.lease (steps_for w.lease w.kept want) }) want (end_for w.lease w.kept want)
      (goes_on w (after_all w.lease (steps_for w.lease w.kept want)) v.sound (all_go w.lease w.kept want v.sound.serving fits))
      (λ span is. grant_for w want v.sound fits span is);
  places = kept_length w.kept (end_for w.lease w.kept want) ∙ v.places;
}) where
  kept_length : (all : List (Option Kept)) (end : LeaseEnd) → length (kept_after all want end) ≡ length all
  kept_length all (Leased span) = length-set all want.node (Some (record { number = want.number; span = span }))
  kept_length all (Exhausted at) = refl
  kept_length all Refused = refl

-- units are drawn
pub spent_whole : (w : WorldState) (node n : ℕ) (spender : Node) (s : Span) (spent : List Span) → IsWhole w → slice_get w.nodes node ≡ Some spender → spender.block ≡ Some s
    → 1 ≤ n → s.start + n ≤ s.end → spent ≡ w.spent ++ record { start = s.start; end = s.start + n } ∷ []
    → IsWhole (world_of w.lease w.kept (set w.nodes node (record { number = spender.number; block = Some (record { start = s.start + n; end = s.end }) })) w.claims w.sent spent)
spent_whole w node n spender s spent v there block some fits is =
    subst (λ (all : List Span). IsWhole (world_of w.lease w.kept (set w.nodes node (now spender.number)) w.claims w.sent all)) (sym is)
    (subst (λ (number : ℕ). IsWhole (world_of w.lease w.kept (set w.nodes node (now number)) w.claims w.sent (w.spent ++ record { start = s.start; end = s.start + n } ∷ [])))
    (ap (λ (x : Node). x.number) same)
    (record {
      sound = draws w node n s v.sound (slice_get_within w.nodes node spender there) some fits (ap (λ (x : Node). x.block) same ∙ block);
      places = v.places ∙ sym (length-set w.nodes node (now (node_at w.nodes node).number));
    })) where
      now : ℕ → Node
      now number = record { number = number; block = Some (record { start = s.start + n; end = s.end }) }

      same : node_at w.nodes node ≡ spender
      same = get_or_from_slice_get w.nodes node spender first_node there

-- a new world
pub new_whole : (total nodes : ℕ) (lease now : Machine) (b : Bool) (kept : List (Option Kept)) (all : List Node) (claims : List NodeClaim) (sent : List Message) (spent : List Span)
    → lease ≡ machine_at_first total 1 → IsTaken lease Begin b now → kept ≡ replicate nodes None → all ≡ replicate nodes first_node → claims ≡ [] → sent ≡ []
    → spent ≡ [] → IsWhole (world_of now kept all claims sent spent)
new_whole total nodes lease now true kept all claims sent spent is begun k a c s t =
    subst IsWhole (λ i. world_of (sym (begun.1 ∙ ap (λ (m : Machine). after m Begin) is) i) (sym k i) (sym a i) (sym c i) (sym s i) (sym t i)) (first_whole total nodes)
new_whole total nodes lease now false kept all claims sent spent is begun k a c s t =
    absurd (true≢false (sym (ap (λ (m : Machine). is_possible m Begin) is) ∙ begun.0))

-- ---- a Block

-- the Block was sent
pub block_whole : (w : WorldState) (sent : List Message) (i : ℕ) (b : Block) → sent ≡ w.sent → block_at sent i ≡ Some b → Contains w.sent (message.Block b)
block_whole w sent i b same is = block_sent w.sent i b (subst (λ (all : List Message). block_at all i ≡ Some b) same is)

-- it is delivered, or there is no such node
pub delivered_whole : (w : WorldState) (b : Block) (there : Bool) (nodes : List Node) (claims : List NodeClaim) → IsWhole w → Contains w.sent (message.Block b)
    → nodes ≡ cond there (nodes_taken w.lease.total w.claims w.nodes b) w.nodes → claims ≡ cond there (claims_taken w.lease.total w.claims w.nodes b) w.claims
    → IsWhole (world_of w.lease w.kept nodes claims w.sent w.spent)
delivered_whole w b false nodes claims v is n c = subst IsWhole (λ i. world_of w.lease w.kept (sym n i) (sym c i) w.sent w.spent) (record { sound = v.sound; places = v.places })
delivered_whole w b true nodes claims v is n c = subst IsWhole (λ i. world_of w.lease w.kept (sym n i) (sym c i) w.sent w.spent) (record {
  sound = takes_sound w b v.sound is;
  places = v.places ∙ sym (taken_length (takes (node_at w.nodes b.node) b));
}) where
  taken_length : (t : Bool) → length (cond t (set w.nodes b.node (next_node (node_at w.nodes b.node) (cond (may_claim w.lease.total w.claims b) (Some (units_of b)) None))) w.nodes) ≡ length w.nodes
  taken_length true = length-set w.nodes b.node (next_node (node_at w.nodes b.node) (cond (may_claim w.lease.total w.claims b) (Some (units_of b)) None))
  taken_length false = refl

-- its claim is cut short
pub cut_whole : (w : WorldState) (b : Block) (took kept : Bool) (now : Node) (nodes : List Node) (claims : List NodeClaim) → IsWhole w → Contains w.sent (message.Block b)
    → now.block ≡ None → nodes ≡ cond took (set w.nodes b.node now) w.nodes
    → claims ≡ cond (took && kept) (w.claims ++ record { node = b.node; span = units_of b } ∷ []) w.claims
    → IsWhole (world_of w.lease w.kept nodes claims w.sent w.spent)
cut_whole w b false kept now nodes claims v is none n c = subst IsWhole (λ i. world_of w.lease w.kept (sym n i) (sym c i) w.sent w.spent) (record { sound = v.sound; places = v.places })
cut_whole w b true true now nodes claims v is none n c = subst IsWhole (λ i. world_of w.lease w.kept (sym n i) (sym c i) w.sent w.spent)
    (record { sound = cuts w true now b none v.sound is; places = v.places ∙ sym (length-set w.nodes b.node now) })
cut_whole w b true false now nodes claims v is none n c = subst IsWhole (λ i. world_of w.lease w.kept (sym n i) (sym c i) w.sent w.spent)
    (record { sound = cuts w false now b none v.sound is; places = v.places ∙ sym (length-set w.nodes b.node now) })

-- nothing changed
pub same_whole : (w : WorldState) (nodes : List Node) (claims : List NodeClaim) → IsWhole w → (nodes ≡ w.nodes) × (claims ≡ w.claims)
    → IsWhole (world_of w.lease w.kept nodes claims w.sent w.spent)
same_whole w nodes claims v same = subst IsWhole (λ i. world_of w.lease w.kept (sym same.0 i) (sym same.1 i) w.sent w.spent) (record { sound = v.sound; places = v.places })

-- whatever the calls answer
pub delivered_result : {E : Type 0} (w : WorldState) (b : Block) (r : Result Bool E) (nodes : List Node) (claims : List NodeClaim) → IsWhole w
    → Contains w.sent (message.Block b) → IfOk r (λ there. nodes ≡ cond there (nodes_taken w.lease.total w.claims w.nodes b) w.nodes)
    → IfOk r (λ there. claims ≡ cond there (claims_taken w.lease.total w.claims w.nodes b) w.claims) → OnErr r ((nodes ≡ w.nodes) × (claims ≡ w.claims))
    → IsWhole (world_of w.lease w.kept nodes claims w.sent w.spent)
delivered_result w b (Ok there) nodes claims v is n c e = delivered_whole w b there nodes claims v is n c
delivered_result w b (Err x) nodes claims v is n c e = same_whole w nodes claims v e

pub cut_result : {E : Type 0} (w : WorldState) (b : Block) (r : Result Bool E) (kept : Bool) (now : Node) (nodes : List Node) (claims : List NodeClaim) → IsWhole w
    → Contains w.sent (message.Block b) → now.block ≡ None → IfOk r (λ took. nodes ≡ cond took (set w.nodes b.node now) w.nodes)
    → IfOk r (λ took. claims ≡ cond (took && kept) (w.claims ++ record { node = b.node; span = units_of b } ∷ []) w.claims)
    → OnErr r ((nodes ≡ w.nodes) × (claims ≡ w.claims)) → IsWhole (world_of w.lease w.kept nodes claims w.sent w.spent)
cut_result w b (Ok took) kept now nodes claims v is none n c e = cut_whole w b took kept now nodes claims v is none n c
cut_result w b (Err x) kept now nodes claims v is none n c e = same_whole w nodes claims v e
