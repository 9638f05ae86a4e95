-- A deed of a node is an event of the world, or none.
use Rattle.std.proofs.Common.{◌≡◌, ◌≢◌, ℕ, ◌+◌, ◌-◌, ◌^◌, ◌<◌, ◌≤◌, ◌⊎◌, inl, inr, Bool, true, false, not, cond, ◌&&◌, List, [], ◌∷◌, ◌++◌, length, set, map, refl, sym, ap, ◌∙◌, subst, arith, Option, None, Some, nat_eq, nat_lt}
use Rattle.std.specs.List.{All, Contains}
use Rattle.std.specs.Option.{option_and_then}
use Rattle.std.specs.Prelude.{IfSome, IsSomeAnd, Result, Ok, Err}
use Rattle.std.proofs.lemmas.Bool.{and_from, and_parts, cases_eq, eqb-false, eqb-true, false≢true, ltb-true, ne_eqb, true≢false}
use Rattle.std.proofs.lemmas.List.{append-nil, get_or-set_same, length-set}
use Rattle.std.proofs.lemmas.Option.{none-some, slice_get_read}
use Rattle.zk_model.specs.declared.Span.{Span}
use Rattle.zk_model.specs.declared.messages.Block.{Block}
use Rattle.zk_model.specs.declared.messages.Want.{Want}
use Rattle.zk_port.specs.Disks.{DiskState}
use Rattle.claim_store.specs.ClaimedRanges.{AreMerged}
use Rattle.claim_store.specs.Claims.{ClaimState}
use Rattle.claim_store.specs.declared.ClaimFault.{ClaimFault}
use Rattle.claim_store.specs.declared.ClaimFault.TheVariants.{Broken, OutOfRange, Overlap, Full, Device, NoMemory}
use Rattle.broker_core.specs.Messages.{as_block, block_at, given, units_of}
use Rattle.broker_core.specs.Nodes.{first_node, left_part, may_claim, may_cut, next_node, node_at, takes}
use Rattle.broker_core.specs.Sound.{IsSound}
use Rattle.broker_core.specs.Worlds.{WorldState, after_event, after_events, cut_short, is_node, may_all_happen, may_happen, spent_of, taken}
use Rattle.broker_core.specs.declared.event.BrokerEvent.{BrokerEvent}
use Rattle.broker_core.specs.declared.event.BrokerEvent.TheVariants as event
use Rattle.broker_core.specs.declared.message.Message.{Message}
use Rattle.broker_core.specs.declared.message.Message.TheVariants as message
use Rattle.broker_core.specs.declared.message.Node.{Node}
use Rattle.broker_core.specs.declared.message.NodeClaim.{NodeClaim}
use Rattle.broker_node.specs.NodeStates.{IsTakeOf, NodeState, holding, keeping, starting, takes_own}
use Rattle.broker_node.specs.Nodes.{IsBeside}
use Rattle.broker_node.specs.Takes.{IsEventOf, IsRunning, IsTakeEvent, Recovers, claims_by}
use Rattle.broker_node.proofs.Nodes.{ask_is_event, draw_is_event, others_leave}
use Rattle.broker_node.proofs.Takes.{claims_by_more, start_is_event, take_is_event, takes_agree}
use Rattle.node_grants.specs.Desks.{Desk}
use Rattle.node_grants.specs.Grants.{IsTaken}
use Rattle.broker_laws.specs.NodeDeeds.{IsPendingWant, MayBeClaimed, DrawsUnits, IsNodeDeed, NodeDeed, NodeParty, NodeRun, StartsOver, asked_in, asks, came_in, drawn_in, draws, keeps_units, meets, node_party, node_run, starts, stops, with_units}

-- ---- what is known of a node and its world

-- the node of this number in the world is this one
pub record IsOfNode {B : Type 0} (number : ℕ) (node : NodeParty B) (w : WorldState) : Type 0 where
  pub runs : IfSome node.run (λ run. (run.node.node ≡ number) × IsRunning w run.node run.claims)
  pub claims : claims_by w.claims number ≡ node.journal

-- Events are possible, after which the node of this number is this one; these Wants more were sent and these units more spent; and the broker and all
-- other nodes are as they were.
pub record AreOfNode {B : Type 0} (number : ℕ) (now : NodeParty B) (asked : List Want) (drawn : List Span) (w : WorldState) : Type 0 where
  pub events : List BrokerEvent
  pub possible : may_all_happen w events ≡ true
  pub node : IsOfNode number now (after_events w events)
  pub lease : (after_events w events).lease ≡ w.lease
  pub kept : (after_events w events).kept ≡ w.kept
  pub numbers : length (after_events w events).nodes ≡ length w.nodes
  pub sent : (after_events w events).sent ≡ w.sent ++ map message.Want asked
  pub spent : (after_events w events).spent ≡ w.spent ++ drawn
  pub others_claims : (other : ℕ) → other ≢ number → claims_by (after_events w events).claims other ≡ claims_by w.claims other
  pub others_run : (other : NodeState) (claims : ClaimState B) → other.node ≢ number → IsRunning w other claims
      → IsRunning (after_events w events) other claims

-- ---- claims

claims_by_other : (claims : List NodeClaim) (number : ℕ) (units : Span) (other : ℕ) → other ≢ number
    → claims_by (claims ++ record { node = number; span = units } ∷ []) other ≡ claims_by claims other
claims_by_other [] number units other apart = ap (λ (b : Bool). cond b (units ∷ []) []) (ne_eqb number other (λ e. apart (sym e)))
claims_by_other (d ∷ claims) number units other apart =
    ap (λ (xs : List Span). cond (nat_eq d.node other) (d.span ∷ xs) xs) (claims_by_other claims number units other apart)

-- a claim more, where it is kept
abbrev with_claim : Bool → ℕ → Span → List NodeClaim → List NodeClaim
with_claim kept number units claims = cond kept (claims ++ record { node = number; span = units } ∷ []) claims

claims_with : (kept : Bool) (number : ℕ) (units : Span) (claims : List NodeClaim)
    → claims_by (with_claim kept number units claims) number ≡ with_units kept units (claims_by claims number)
claims_with true number units claims = claims_by_more claims number units
claims_with false number units claims = refl

others_with : (kept : Bool) (number : ℕ) (units : Span) (claims : List NodeClaim) (other : ℕ) → other ≢ number
    → claims_by (with_claim kept number units claims) other ≡ claims_by claims other
others_with true number units claims other apart = claims_by_other claims number units other apart
others_with false number units claims other apart = refl

-- ---- messages

block_there : (sent : List Message) (b : Block) → Contains sent (message.Block b) → (i : ℕ) × (block_at sent i ≡ Some b)
block_there sent b (k, l, is) = (k, ap (option_and_then as_block) (slice_get_read sent (length sent) k (message.Block b) refl l (sym is)))

All-one : {X : Type 0} (P : X → Type 0) (x : X) → All P (x ∷ []) → P x
All-one P x all = all 0 x (omega arith)

-- the Block is one that this node may take: its number is the node's, and it has units
some_units : (own : Node) (b : Block) → takes own b ≡ true → 1 ≤ b.count
some_units own b take = above (nat_eq b.count 0) refl
    (and_parts (not (nat_eq own.number (2 ^ 64 - 1))) _ (and_parts (nat_eq own.number b.number) _ take).1).1 where
      above : (z : Bool) → nat_eq b.count 0 ≡ z → not z ≡ true → 1 ≤ b.count
      above true e h = absurd (false≢true h)
      above false e h = let none = eqb-false b.count 0 e in omega (arith, none)

module _ {B : Type 0} (state : B → DiskState) (total number : ℕ) (node : NodeParty B) (w : WorldState) (v : IsSound w) (whole : w.lease.total ≡ total)
    (there : is_node w number ≡ true) (known : IsOfNode number node w) where
  -- ---- one event, or none

  -- what an event does to all but the node itself
  record IsAside (one : BrokerEvent) (asked : List Want) (drawn : List Span) (kept : Bool) (units : Span) : Type 0 where
    lease : (after_event w one).lease ≡ w.lease
    kept_is : (after_event w one).kept ≡ w.kept
    numbers : length (after_event w one).nodes ≡ length w.nodes
    sent : (after_event w one).sent ≡ w.sent ++ map message.Want asked
    spent : (after_event w one).spent ≡ w.spent ++ drawn
    claims : (after_event w one).claims ≡ with_claim kept number units w.claims
    beside : (other : ℕ) → other ≢ number → IsBeside w other one

  by_event : (one : BrokerEvent) (now : NodeParty B) (asked : List Want) (drawn : List Span) (kept : Bool) (units : Span) → may_happen w one ≡ true
      → IfSome now.run (λ run. (run.node.node ≡ number) × IsRunning (after_event w one) run.node run.claims)
      → now.journal ≡ with_units kept units node.journal → IsAside one asked drawn kept units → AreOfNode number now asked drawn w
  by_event one now asked drawn kept units may runs journal a = record {
    events = one ∷ [];
    possible = ap (λ (b : Bool). b && true) may;
    node = record {
      runs = runs;
      claims = ap (λ (cs : List NodeClaim). claims_by cs number) a.claims ∙ claims_with kept number units w.claims
          ∙ ap (with_units kept units) known.claims ∙ sym journal;
    };
    lease = a.lease;
    kept = a.kept_is;
    numbers = a.numbers;
    sent = a.sent;
    spent = a.spent;
    others_claims = λ other apart. ap (λ (cs : List NodeClaim). claims_by cs other) a.claims ∙ others_with kept number units w.claims other apart;
    others_run = λ other claims apart r. others_leave w one other claims r may (a.beside other.node apart);
  }

  -- nothing happens
  by_none : (now : NodeParty B) → IfSome now.run (λ run. (run.node.node ≡ number) × IsRunning w run.node run.claims) → now.journal ≡ node.journal
      → AreOfNode number now [] [] w
  by_none now runs journal = record {
    events = [];
    possible = refl;
    node = record { runs = runs; claims = known.claims ∙ sym journal };
    lease = refl;
    kept = refl;
    numbers = refl;
    sent = sym (append-nil w.sent);
    spent = sym (append-nil w.spent);
    others_claims = λ other apart. refl;
    others_run = λ other claims apart r. r;
  }

  -- ---- a start

  node_starts : (claims : ClaimState B) (now : NodeParty B) → StartsOver total number claims node now → AreOfNode number now [] [] w
  node_starts claims now s =
      let found : Recovers w number claims.total claims.begin claims.slots s.bytes = record {
        ranges = s.left.ranges;
        merged = subst (λ (xs : List Span). AreMerged xs s.left.ranges) (sym known.claims) s.left.merged;
        says = s.left.says;
      } in
      let e = start_is_event w number claims s.bytes there (s.total_is ∙ sym whole) found s.read in
      subst (λ (x : NodeParty B). AreOfNode number x [] [] w) (sym s.becomes)
      (by_event (event.NodeCrash number) (node_party node.journal (Some (node_run (starting number) claims))) [] [] false (units_of_none) e.possible (refl, e.runs) refl (record {
        lease = refl;
        kept_is = refl;
        numbers = length-set w.nodes number first_node;
        sent = sym (append-nil w.sent);
        spent = sym (append-nil w.spent);
        claims = refl;
        beside = λ other apart same. apart (sym same);
      })) where
        units_of_none : Span
        units_of_none = record { start = 0; end = 0 }

  -- ---- a run goes on

  module _ (run : NodeRun B) (own : run.node.node ≡ number) (r : IsRunning w run.node run.claims) where
    no_units : Span
    no_units = record { start = 0; end = 0 }

    node_asks : (want : Want) → IsPendingWant want run → IfSome node.run (λ x. (x.node.node ≡ number) × IsRunning w x.node x.claims) → node.run ≡ Some run
        → AreOfNode number node (want ∷ []) [] w
    node_asks want (is, some, few) runs up =
        let e = ask_is_event w run.node run.claims want.count r some few in
        by_event (event.Ask run.node.node want.count) node (want ∷ []) [] false no_units e.0.possible
        (subst (λ (o : Option (NodeRun B)). IfSome o (λ x. (x.node.node ≡ number) × IsRunning (after_event w (event.Ask run.node.node want.count)) x.node x.claims))
        (sym up) (own, e.0.runs)) refl (record {
          lease = refl;
          kept_is = refl;
          numbers = refl;
          sent = e.1 ∙ ap (λ (x : Want). w.sent ++ message.Want x ∷ []) (sym is);
          spent = sym (append-nil w.spent);
          claims = refl;
          beside = λ other apart. tt;
        })

    node_draws : (count : ℕ) (drawn : Span) (now : NodeRun B) → DrawsUnits count drawn run now
        → AreOfNode number (node_party node.journal (Some now)) [] (drawn ∷ []) w
    node_draws count drawn now (some, few, door, tries, d) =
        let e = draw_is_event w run.node run.claims count d.block r some few d.held d.enough in
        let node_is : now.node ≡ keeping run.node (Some (left_part d.block count)) = ap (λ (x : Desk B (Unit {0})). x.node) d.rest in
        let claims_are : now.claims ≡ run.claims = ap (λ (x : Desk B (Unit {0})). x.claims) d.rest in
        by_event (event.Spend run.node.node count) (node_party node.journal (Some now)) [] (drawn ∷ []) false no_units e.0.possible (
          ap (λ (x : NodeState). x.node) node_is ∙ own,
          subst (λ (x : ClaimState B). IsRunning (after_event w (event.Spend run.node.node count)) now.node x) (sym claims_are)
              (subst (λ (x : NodeState). IsRunning (after_event w (event.Spend run.node.node count)) x run.claims) (sym node_is) e.0.runs),
        ) refl (record {
          lease = same_lease (node_at w.nodes run.node.node).block;
          kept_is = same_kept (node_at w.nodes run.node.node).block;
          numbers = same_numbers (node_at w.nodes run.node.node).block;
          sent = same_sent (node_at w.nodes run.node.node).block ∙ sym (append-nil w.sent);
          spent = e.1 ∙ ap (λ (x : Span). w.spent ++ x ∷ []) (sym d.drawn_is);
          claims = same_claims (node_at w.nodes run.node.node).block;
          beside = λ other apart same. apart (sym same ∙ own);
        }) where
          then : Option Span → WorldState
          then o = given o w (spent_of run.node.node count w)

          same_lease : (o : Option Span) → (given o w (spent_of run.node.node count w)).lease ≡ w.lease
          same_lease None = refl
          same_lease (Some s) = refl

          same_kept : (o : Option Span) → (given o w (spent_of run.node.node count w)).kept ≡ w.kept
          same_kept None = refl
          same_kept (Some s) = refl

          same_sent : (o : Option Span) → (given o w (spent_of run.node.node count w)).sent ≡ w.sent
          same_sent None = refl
          same_sent (Some s) = refl

          same_claims : (o : Option Span) → (given o w (spent_of run.node.node count w)).claims ≡ w.claims
          same_claims None = refl
          same_claims (Some s) = refl

          same_numbers : (o : Option Span) → length (given o w (spent_of run.node.node count w)).nodes ≡ length w.nodes
          same_numbers None = refl
          same_numbers (Some s) = length-set w.nodes run.node.node (record { number = (node_at w.nodes run.node.node).number; block = Some (left_part s count) })

    -- ---- a Block comes

    module _ (b : Block) (mine : b.node ≡ number) (i : ℕ) (is : block_at w.sent i ≡ Some b) where
      to_is : after_event w (event.ToNode i) ≡ taken w b
      to_is = ap (λ (o : Option Block). given o w (taken w)) is

      fail_is : (kept : Bool) → after_event w (event.NodeFail i kept) ≡ cut_short kept (next_node (node_at w.nodes b.node) None) w b
      fail_is kept = ap (λ (o : Option Block). given o w (λ c. cut_short kept (next_node (node_at w.nodes c.node) None) w c)) is

      cut_is : (kept : Bool) → after_event w (event.NodeCut i kept) ≡ cut_short kept first_node w b
      cut_is kept = ap (λ (o : Option Block). given o w (cut_short kept first_node w)) is

      apart_from : (one : WorldState → ℕ → Type 0) → (other : ℕ) → other ≢ number → (c : Block) → block_at w.sent i ≡ Some c → c.node ≢ other
      apart_from one other apart c is_c same =
          let alike : b ≡ c = same_block (sym is ∙ is_c) in
          apart (sym same ∙ ap (λ (x : Block). x.node) (sym alike) ∙ mine) where
            same_block : Some b ≡ Some c → b ≡ c
            same_block e = cc

      -- the claims of a world in which a claim ended within
      cut_aside : (kept : Bool) (now : Node) (one : BrokerEvent) → after_event w one ≡ cut_short kept now w b
          → ((other : ℕ) → other ≢ number → IsBeside w other one) → IsAside one [] [] kept (units_of b)
      cut_aside kept now one after_is beside = record {
        lease = ap (λ (x : WorldState). x.lease) after_is ∙ same_lease kept;
        kept_is = ap (λ (x : WorldState). x.kept) after_is ∙ same_kept kept;
        numbers = ap (λ (x : WorldState). length x.nodes) after_is ∙ same_numbers kept;
        sent = ap (λ (x : WorldState). x.sent) after_is ∙ same_sent kept ∙ sym (append-nil w.sent);
        spent = ap (λ (x : WorldState). x.spent) after_is ∙ same_spent kept ∙ sym (append-nil w.spent);
        claims = ap (λ (x : WorldState). x.claims) after_is ∙ more_claims kept;
        beside = beside;
      } where
        same_lease : (k : Bool) → (cut_short k now w b).lease ≡ w.lease
        same_lease true = refl
        same_lease false = refl

        same_kept : (k : Bool) → (cut_short k now w b).kept ≡ w.kept
        same_kept true = refl
        same_kept false = refl

        same_sent : (k : Bool) → (cut_short k now w b).sent ≡ w.sent
        same_sent true = refl
        same_sent false = refl

        same_spent : (k : Bool) → (cut_short k now w b).spent ≡ w.spent
        same_spent true = refl
        same_spent false = refl

        same_numbers : (k : Bool) → length (cut_short k now w b).nodes ≡ length w.nodes
        same_numbers true = length-set w.nodes b.node now
        same_numbers false = length-set w.nodes b.node now

        more_claims : (k : Bool) → (cut_short k now w b).claims ≡ with_claim k number (units_of b) w.claims
        more_claims true = ap (λ (n : ℕ). w.claims ++ record { node = n; span = units_of b } ∷ []) mine
        more_claims false = refl

      -- ---- where it is delivered

      abbrev nodes_by : Bool → Bool → List Node
      nodes_by t u = cond t (set w.nodes b.node (next_node (node_at w.nodes b.node) (cond u (Some (units_of b)) None))) w.nodes

      at_number : (x : Node) → node_at (set w.nodes b.node x) number ≡ x
      at_number x = subst (λ (n : ℕ). node_at (set w.nodes b.node x) n ≡ x) mine
          (get_or-set_same w.nodes b.node x first_node (subst (λ (n : ℕ). n < length w.nodes) (sym mine) (ltb-true number (length w.nodes) there)))

      own_at : node_at w.nodes b.node ≡ run.node.own
      own_at = ap (node_at w.nodes) (mine ∙ sym own) ∙ r.own

      -- whether it was claimed, by what the node then is
      moved : (t u keeps : Bool) → node_at (nodes_by t u) number ≡ next_node run.node.own (cond keeps (Some (units_of b)) None) → (t && u) ≡ keeps
      moved false u keeps e =
          let same : run.node.own.number ≡ run.node.own.number + 1 =
          ap (λ (x : Node). x.number) (sym own_at ∙ ap (node_at w.nodes) mine ∙ e) in
          absurd (omega (arith, same))
      moved true true true e = refl
      moved true false false e = refl
      moved true true false e = absurd (none-some (units_of b) (sym (ap (λ (x : Node). x.block) (sym (at_number _) ∙ e))))
      moved true false true e = absurd (none-some (units_of b) (ap (λ (x : Node). x.block) (sym (at_number _) ∙ e)))

      stayed : (t u : Bool) → node_at (nodes_by t u) number ≡ run.node.own → (t && u) ≡ false
      stayed false u e = refl
      stayed true u e =
          let same : run.node.own.number + 1 ≡ run.node.own.number =
          ap (λ (x : Node). x.number + 1) (sym own_at) ∙ ap (λ (x : Node). x.number) (sym (at_number _) ∙ e) in
          absurd (omega (arith, same))

      -- the claims of the world in which it was delivered
      to_aside : (keeps : Bool) → (takes (node_at w.nodes b.node) b && may_claim w.lease.total w.claims b) ≡ keeps → IsAside (event.ToNode i) [] [] keeps (units_of b)
      to_aside keeps so = record {
        lease = ap (λ (x : WorldState). x.lease) to_is;
        kept_is = ap (λ (x : WorldState). x.kept) to_is;
        numbers = ap (λ (x : WorldState). length x.nodes) to_is ∙ same_numbers (takes (node_at w.nodes b.node) b) (may_claim w.lease.total w.claims b);
        sent = ap (λ (x : WorldState). x.sent) to_is ∙ sym (append-nil w.sent);
        spent = ap (λ (x : WorldState). x.spent) to_is ∙ sym (append-nil w.spent);
        claims = ap (λ (x : WorldState). x.claims) to_is
            ∙ (λ j. cond (so j) (w.claims ++ record { node = mine j; span = units_of b } ∷ []) w.claims);
        beside = λ other apart. apart_from (λ x n. Unit {0}) other apart;
      } where
        same_numbers : (t u : Bool) → length (nodes_by t u) ≡ length w.nodes
        same_numbers false u = refl
        same_numbers true u = length-set w.nodes b.node (next_node (node_at w.nodes b.node) (cond u (Some (units_of b)) None))

      module _ (answer : Result Bool ClaimFault) (now : NodeRun B) where
        to_runs : IsEventOf w (event.ToNode i) now.node now.claims → now.node.node ≡ number
            → node_at (nodes_by (takes (node_at w.nodes b.node) b) (may_claim w.lease.total w.claims b)) number ≡ now.node.own
        to_runs e now_own = ap (λ (x : WorldState). node_at x.nodes number) (sym to_is) ∙ ap (node_at (after_event w (event.ToNode i)).nodes) (sym now_own) ∙ e.runs.own

        -- delivered, and claimed or not
        delivered : (keeps : Bool) → IsEventOf w (event.ToNode i) now.node now.claims → now.node.node ≡ number
            → (takes (node_at w.nodes b.node) b && may_claim w.lease.total w.claims b) ≡ keeps
            → AreOfNode number (node_party (with_units keeps (units_of b) node.journal) (Some now)) [] [] w
        delivered keeps e now_own so =
            by_event (event.ToNode i) (node_party (with_units keeps (units_of b) node.journal) (Some now)) [] [] keeps (units_of b) e.possible (now_own, e.runs) refl (to_aside keeps so)

        -- the node took it, and holds this
        took : (keeps : Bool) → IsEventOf w (event.ToNode i) now.node now.claims → now.node ≡ holding run.node (cond keeps (Some (units_of b)) None)
            → AreOfNode number (node_party (with_units keeps (units_of b) node.journal) (Some now)) [] [] w
        took keeps e holds =
            let now_own : now.node.node ≡ number = ap (λ (x : NodeState). x.node) holds ∙ own in
            delivered keeps e now_own (moved (takes (node_at w.nodes b.node) b) (may_claim w.lease.total w.claims b) keeps
            (to_runs e now_own ∙ ap (λ (x : NodeState). x.own) holds))

        -- the claim failed
        failed : (keeps : Bool) → IsEventOf w (event.NodeFail i keeps) now.node now.claims → now.node ≡ holding run.node None
            → AreOfNode number (node_party (with_units keeps (units_of b) node.journal) (Some now)) [] [] w
        failed keeps e holds =
            by_event (event.NodeFail i keeps) (node_party (with_units keeps (units_of b) node.journal) (Some now)) [] [] keeps (units_of b) e.possible
            (ap (λ (x : NodeState). x.node) holds ∙ own, e.runs) refl
            (cut_aside keeps (next_node (node_at w.nodes b.node) None) (event.NodeFail i keeps) (fail_is keeps) (λ other apart. apart_from (λ x n. Unit {0}) other apart))

      node_meets : (answer : Result Bool ClaimFault) (kept : Bool) (now : NodeRun B) → IsTakeOf run.node run.claims b answer now.node now.claims
          → IsTakeEvent w i answer now.node now.claims
          → AreOfNode number (node_party (with_units (keeps_units answer kept) (units_of b) node.journal) (Some now)) [] [] w
      node_meets (Ok true) kept now t e = took (Ok true) now true e t.1
      node_meets (Ok false) kept now t e =
          let now_own : now.node.node ≡ number = ap (λ (x : NodeState). x.node) t.1 ∙ own in
          delivered (Ok false) now false e now_own (stayed (takes (node_at w.nodes b.node) b) (may_claim w.lease.total w.claims b)
          (to_runs (Ok false) now e now_own ∙ ap (λ (x : NodeState). x.own) t.1))
      node_meets (Err Device) kept now t e = failed (Err Device) now kept (e kept) t.1
      node_meets (Err (Broken first)) kept now t (inl e) = took (Err (Broken first)) now false e t.1
      node_meets (Err (Broken first)) kept now t (inr e) = failed (Err (Broken first)) now false e t.1
      node_meets (Err (OutOfRange most)) kept now t e = took (Err (OutOfRange most)) now false e t.1
      node_meets (Err (Overlap earlier)) kept now t e = took (Err (Overlap earlier)) now false e t.1
      node_meets (Err (Full slots)) kept now t e = failed (Err (Full slots)) now false e t.1
      node_meets (Err NoMemory) kept now t e = failed (Err NoMemory) now false e t.1

      -- ---- the node stops within the claim

      node_stops : (kept : Bool) → MayBeClaimed b run → AreOfNode {B = B} number (node_party (with_units kept (units_of b) node.journal) None) [] [] w
      node_stops kept (take_own, free) =
          let take : takes (node_at w.nodes b.node) b ≡ true =
          ap (λ (x : Node). takes x b) own_at ∙ (and_parts (nat_eq run.node.node b.node) (takes run.node.own b) take_own).1 in
          let merged : AreMerged (claims_by w.claims b.node) run.claims.claims =
          subst (λ (n : ℕ). AreMerged (claims_by w.claims n) run.claims.claims) (own ∙ sym mine) (r.kept free.whole) in
          let may : may_claim w.lease.total w.claims b ≡ true =
          (takes_agree w b run.claims.claims v (some_units (node_at w.nodes b.node) b take) merged).1
          (subst (λ (n : ℕ). b.start + b.count ≤ n) r.total free.within, free.apart) in
          let here : nat_lt b.node (length w.nodes) ≡ true = ap (λ (n : ℕ). nat_lt n (length w.nodes)) mine ∙ there in
          by_event (event.NodeCut i kept) (node_party (with_units kept (units_of b) node.journal) None) [] [] kept (units_of b)
          (ap (λ (o : Option Block). given o false (may_cut w.lease.total w.claims w.nodes)) is
          ∙ and_from (nat_lt b.node (length w.nodes)) _ here (and_from (takes (node_at w.nodes b.node) b) _ take may))
          tt refl
          (cut_aside kept first_node (event.NodeCut i kept) (cut_is kept) (λ other apart. apart_from (λ x n. Unit {0}) other apart))

    -- one that is another node's is not taken
    node_passes : (b : Block) (answer : Result Bool ClaimFault) (kept : Bool) (now : NodeRun B) → b.node ≢ number
        → IsTakeOf run.node run.claims b answer now.node now.claims
        → AreOfNode number (node_party (with_units (keeps_units answer kept) (units_of b) node.journal) (Some now)) [] [] w
    node_passes b answer kept now other t = by_answer answer t where
      not_own : takes_own run.node b ≡ false
      not_own = ap (λ (x : Bool). x && takes run.node.own b) (ne_eqb run.node.node b.node (λ e. other (sym e ∙ own)))

      by_answer : (a : Result Bool ClaimFault) → IsTakeOf run.node run.claims b a now.node now.claims
          → AreOfNode number (node_party (with_units (keeps_units a kept) (units_of b) node.journal) (Some now)) [] [] w
      by_answer (Ok false) h = by_none (node_party node.journal (Some now)) (
        ap (λ (x : NodeState). x.node) h.1 ∙ own,
        subst (λ (x : ClaimState B). IsRunning w now.node x) (sym h.2) (subst (λ (x : NodeState). IsRunning w x run.claims) (sym h.1) r),
      ) refl
      by_answer (Ok true) h = absurd (true≢false (sym h.0 ∙ not_own))
      by_answer (Err fault) h = absurd (true≢false (sym h.0 ∙ not_own))

    node_meets_any : (b : Block) (answer : Result Bool ClaimFault) (kept : Bool) (now : NodeRun B) → Contains w.sent (message.Block b)
        → IsTaken state run.node run.claims b answer now.node now.claims
        → AreOfNode number (node_party (with_units (keeps_units answer kept) (units_of b) node.journal) (Some now)) [] [] w
    node_meets_any b answer kept now came t = by_number (cases_eq b.node number) where
      by_number : ((b.node ≡ number) ⊎ (b.node ≡ number → ⊥))
          → AreOfNode number (node_party (with_units (keeps_units answer kept) (units_of b) node.journal) (Some now)) [] [] w
      by_number (inl mine) = node_meets b mine (block_there w.sent b came).0 (block_there w.sent b came).1 answer kept now t.taken
          (take_is_event w (block_there w.sent b came).0 b run.node now.node run.claims now.claims answer
          (state run.claims.disk).faults (state now.claims.disk).faults v r (block_there w.sent b came).1 (mine ∙ sym own) t.taken t.cause)
      by_number (inr other) = node_passes b answer kept now other t.taken

    node_stops_any : (b : Block) (kept : Bool) → Contains w.sent (message.Block b) → MayBeClaimed b run
        → AreOfNode {B = B} number (node_party (with_units kept (units_of b) node.journal) None) [] [] w
    node_stops_any b kept came c =
        node_stops b (sym (eqb-true run.node.node b.node (and_parts (nat_eq run.node.node b.node) (takes run.node.own b) c.0).0) ∙ own)
        (block_there w.sent b came).0 (block_there w.sent b came).1 kept c

  -- ---- any deed

  pub node_deed : (d : NodeDeed B) (now : NodeParty B) → All (λ b. Contains w.sent (message.Block b)) (came_in d) → IsNodeDeed state total number d node now
      → AreOfNode number now (asked_in d) (drawn_in d) w
  node_deed (starts claims) now came did = node_starts claims now did
  node_deed (asks want) now came (h, same) = subst (λ (x : NodeParty B). AreOfNode number x (want ∷ []) [] w) (sym same) (by_run node.run refl known.runs h) where
    by_run : (o : Option (NodeRun B)) → node.run ≡ o → IfSome o (λ run. (run.node.node ≡ number) × IsRunning w run.node run.claims) → IsSomeAnd o (IsPendingWant want)
        → AreOfNode number node (want ∷ []) [] w
    by_run None up runs a = absurd a
    by_run (Some run) up runs a = node_asks run runs.0 runs.1 want a known.runs up
  node_deed (meets b answer kept run_now) now came (h, same) = subst (λ (x : NodeParty B). AreOfNode number x [] [] w) (sym same) (by_run node.run known.runs h) where
    by_run : (o : Option (NodeRun B)) → IfSome o (λ run. (run.node.node ≡ number) × IsRunning w run.node run.claims)
        → IsSomeAnd o (λ run. IsTaken state run.node run.claims b answer run_now.node run_now.claims)
        → AreOfNode number (node_party (with_units (keeps_units answer kept) (units_of b) node.journal) (Some run_now)) [] [] w
    by_run None runs t = absurd t
    by_run (Some run) runs t = node_meets_any run runs.0 runs.1 b answer kept run_now (All-one (λ x. Contains w.sent (message.Block x)) b came) t
  node_deed (draws count drawn run_now) now came (h, same) = subst (λ (x : NodeParty B). AreOfNode number x [] (drawn ∷ []) w) (sym same) (by_run node.run known.runs h) where
    by_run : (o : Option (NodeRun B)) → IfSome o (λ run. (run.node.node ≡ number) × IsRunning w run.node run.claims)
        → IsSomeAnd o (λ run. DrawsUnits count drawn run run_now)
        → AreOfNode number (node_party node.journal (Some run_now)) [] (drawn ∷ []) w
    by_run None runs d = absurd d
    by_run (Some run) runs d = node_draws run runs.0 runs.1 count drawn run_now d
  node_deed (stops b kept) now came (h, same) = subst (λ (x : NodeParty B). AreOfNode number x [] [] w) (sym same) (by_run node.run known.runs h) where
    by_run : (o : Option (NodeRun B)) → IfSome o (λ run. (run.node.node ≡ number) × IsRunning w run.node run.claims) → IsSomeAnd o (MayBeClaimed b)
        → AreOfNode {B = B} number (node_party (with_units kept (units_of b) node.journal) None) [] [] w
    by_run None runs c = absurd c
    by_run (Some run) runs c = node_stops_any run runs.0 runs.1 b kept (All-one (λ x. Contains w.sent (message.Block x)) b came) c
