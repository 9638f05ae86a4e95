-- A grant of a node is a list of its deeds.
use Rattle.std.proofs.Common.{◌≡◌, ℕ, zero, suc, ◌≤◌, inl, inr, Bool, List, [], ◌∷◌, ◌++◌, refl, sym, ap, ◌∙◌, subst, Some}
use Rattle.std.specs.List.{All, AllZip}
use Rattle.std.specs.Prelude.{Result, Ok, Err}
use Rattle.std.proofs.lemmas.Grind.{flat_map-append}
use Rattle.std.proofs.lemmas.List.{append-nil, append_assoc}
use Rattle.zk_model.specs.Messages.{block_frame, out_frame}
use Rattle.zk_model.specs.declared.Side.{Side}
use Rattle.zk_model.specs.declared.Side.TheVariants.{Prover}
use Rattle.zk_model.specs.declared.Span.{Span}
use Rattle.zk_model.specs.declared.messages.Block.{Block}
use Rattle.zk_model.specs.declared.messages.Want.{Want}
use Rattle.zk_port.specs.Disks.{DiskState}
use Rattle.zk_port.specs.Links.{LinkState}
use Rattle.frame_link.specs.Lines.{snapshot}
use Rattle.lease_store.specs.declared.grantor.GrantFault.{GrantFault}
use Rattle.lease_store.specs.declared.grantor.GrantFault.TheVariants as grant
use Rattle.claim_store.specs.Claims.{ClaimState}
use Rattle.broker_core.specs.Messages.{units_of}
use Rattle.broker_links.specs.Tries.{IsTryCause}
use Rattle.broker_links.specs.declared.note.Try.{Try}
use Rattle.broker_links.specs.declared.note.TryOutcome.{TryOutcome}
use Rattle.broker_links.specs.declared.note.TryOutcome.TheVariants as outcome
use Rattle.broker_node.specs.NodeStates.{NodeState}
use Rattle.node_grants.specs.Desks.{Desk, Draws, desk}
use Rattle.node_grants.specs.Grants.{ComesTo, IsGrantOf, IsTryResult, MakesTry, Ports, Tried, ports_of, want_of}
use Rattle.broker_laws.specs.Laws.{GrantsAreDeeds, GrantsByDeeds, LogsWant, all_brought, brought_by}
use Rattle.std.proofs.lemmas.List.Elements.{All-append, All-cons, All-nil}
use Rattle.broker_laws.specs.NodeDeeds.{AreNodeDeeds, IsWithinRun, NodeDeed, NodeParty, all_asked, all_came, all_drawn, asked_in, asks, came_in, drawn_in, draws, keeps_units, meets, node_party, node_run, with_units}
use Rattle.broker_laws.proofs.Chains.{node_deeds_more, zip_more}

-- the want went out whole, or nothing did
logs_want : (want : Want) (first link : LinkState) (result : TryOutcome) (log : List (Side × ℕ))
    → IsTryCause want (snapshot Prover [] first) result (snapshot Prover log link) → LogsWant want log
logs_want want first link (outcome.Block b) log h = inl (block_frame b, h.logged)
logs_want want first link (outcome.Out o) log h = inl (out_frame o, h.logged)
logs_want want first link (outcome.PeerEnded at) log h = inl (h.0.rest, h.0.logged)
logs_want want first link (outcome.BadFrame at) log h = inl (h.rest, h.logged)
logs_want want first link outcome.Link log (rose, inl h) = inl (h.rest, h.logged)
logs_want want first link outcome.Link log (rose, inr h) = inr h.none
logs_want want first link outcome.NoMemory log (inl h) = inl (h.rest, h.logged)
logs_want want first link outcome.NoMemory log (inr (inl h)) = inr h.none
logs_want want first link outcome.NoMemory log (inr (inr h)) = inr h.none

module _ {B L : Type 0} (ports : Ports B L) (count total number : ℕ) (kept : Bool) (some : 1 ≤ count) (few : count ≤ 4096) where
  -- a node that runs, and what its journal keeps
  abbrev running : List Span → NodeState → ClaimState B → NodeParty B
  running journal node claims = node_party journal (Some (node_run node claims))

  -- tries that are made, as deeds; nothing is drawn in them
  record TriesByDeeds (journal : List Span) (old new : Desk B L) : Type 0 where
    deeds : List (NodeDeed B)
    left : List Span
    did : AreNodeDeeds ports.state total number deeds (running journal old.node old.claims) (running left new.node new.claims)
    tries : List (Try L)
    made : new.tries ≡ old.tries ++ tries
    asked : AllZip (λ want t. LogsWant want t.log) (all_asked deeds) tries
    came : all_came deeds ≡ all_brought tries
    drawn : all_drawn deeds ≡ []
    within : All (IsWithinRun kept) deeds

  -- none
  no_tries : (journal : List Span) (old new : Desk B L) → new.node ≡ old.node → new.claims ≡ old.claims → new.tries ≡ old.tries → TriesByDeeds journal old new
  no_tries journal old new node claims tries = record {
    deeds = [];
    left = journal;
    did = λ i. running journal (node i) (claims i);
    tries = [];
    made = tries ∙ sym (append-nil old.tries);
    asked = tt;
    came = refl;
    drawn = refl;
    within = All-nil (IsWithinRun kept);
  }

  -- some, and some more
  more_tries : (journal : List Span) (old mid new : Desk B L) → (first : TriesByDeeds journal old mid) → TriesByDeeds first.left mid new → TriesByDeeds journal old new
  more_tries journal old mid new first more = record {
    deeds = first.deeds ++ more.deeds;
    left = more.left;
    did = node_deeds_more ports.state total number first.deeds more.deeds (running journal old.node old.claims) (running first.left mid.node mid.claims)
        (running more.left new.node new.claims) first.did more.did;
    tries = first.tries ++ more.tries;
    made = more.made ∙ ap (λ (ts : List (Try L)). ts ++ more.tries) first.made ∙ append_assoc old.tries first.tries more.tries;
    asked = subst (λ (wants : List Want). AllZip (λ want (t : Try L). LogsWant want t.log) wants (first.tries ++ more.tries))
        (sym (flat_map-append asked_in first.deeds more.deeds))
        (zip_more (λ want (t : Try L). LogsWant want t.log) (all_asked first.deeds) (all_asked more.deeds) first.tries more.tries first.asked more.asked);
    came = flat_map-append came_in first.deeds more.deeds ∙ (λ i. first.came i ++ more.came i)
        ∙ sym (flat_map-append (λ (t : Try L). brought_by t.outcome) first.tries more.tries);
    drawn = flat_map-append drawn_in first.deeds more.deeds ∙ (λ i. first.drawn i ++ more.drawn i);
    within = All-append (IsWithinRun kept) first.deeds more.deeds first.within more.within;
  }

  -- one try
  one_try : (result : Result (Unit {0}) GrantFault) (journal : List Span) (old new : Desk B L) → MakesTry ports count result old new → TriesByDeeds journal old new
  one_try result journal old new m = by_outcome m.made.outcome refl m.comes where
    want : Want
    want = want_of old.node count

    sent : LogsWant want m.made.log
    sent = logs_want want m.first (ports.tells m.made.link) m.made.outcome m.made.log m.is_try.cause

    -- the want alone is sent
    no_block : brought_by m.made.outcome ≡ [] → new.node ≡ old.node → new.claims ≡ old.claims → TriesByDeeds journal old new
    no_block none node claims = record {
      deeds = asks want ∷ [];
      left = journal;
      did = (running journal old.node old.claims, ((refl, some, few), refl), λ i. running journal (node i) (claims i));
      tries = m.made ∷ [];
      made = m.kept;
      asked = (sent, tt);
      came = ap (λ (bs : List Block). bs ++ []) (sym none);
      drawn = refl;
      within = All-cons (IsWithinRun kept) (asks want) [] tt (All-nil (IsWithinRun kept));
    }

    by_outcome : (of : TryOutcome) → m.made.outcome ≡ of → ComesTo ports.state of old.node old.claims result new.node new.claims → TriesByDeeds journal old new
    by_outcome (outcome.Block b) is (answer, taken, ends) = record {
      deeds = asks want ∷ meets b answer kept (node_run new.node new.claims) ∷ [];
      left = with_units (keeps_units answer kept) (units_of b) journal;
      did = (
        running journal old.node old.claims,
        ((refl, some, few), refl),
        (running (with_units (keeps_units answer kept) (units_of b) journal) new.node new.claims, (taken, refl), refl),
      );
      tries = m.made ∷ [];
      made = m.kept;
      asked = (sent, tt);
      came = ap (λ (o : TryOutcome). brought_by o ++ []) (sym is);
      drawn = refl;
      within = All-cons (IsWithinRun kept) (asks want) (meets b answer kept (node_run new.node new.claims) ∷ []) tt
          (All-cons (IsWithinRun kept) (meets b answer kept (node_run new.node new.claims)) [] refl (All-nil (IsWithinRun kept)));
    }
    by_outcome (outcome.Out o) is c = no_block (ap brought_by is) c.0 c.1
    by_outcome (outcome.PeerEnded at) is c = no_block (ap brought_by is) c.0 c.1
    by_outcome (outcome.BadFrame place) is c = no_block (ap brought_by is) c.0 c.1
    by_outcome outcome.Link is c = no_block (ap brought_by is) c.0 c.1
    by_outcome outcome.NoMemory is c = no_block (ap brought_by is) c.0 c.1

  -- so many
  all_tries : (n : ℕ) (journal : List Span) (old new : Desk B L) → Tried ports count n old new → TriesByDeeds journal old new
  all_tries zero journal old new same = no_tries journal old new (ap (λ (d : Desk B L). d.node) same) (ap (λ (d : Desk B L). d.claims) same) (ap (λ (d : Desk B L). d.tries) same)
  all_tries (suc n) journal old new (mid, tried, lacks, made) =
      let first = all_tries n journal old mid tried in more_tries journal old mid new first (one_try (Ok tt) first.left mid new made)

  -- and one that ends the grant
  last_try : (fault : GrantFault) (journal : List Span) (old new : Desk B L) → IsTryResult ports count (Err fault) old new → TriesByDeeds journal old new
  last_try fault journal old new (inl made) = one_try (Err fault) journal old new made
  last_try fault journal old new (inr (inl lacks)) = no_tries journal old new (ap (λ (d : Desk B L). d.node) lacks.rest) (ap (λ (d : Desk B L). d.claims) lacks.rest) (ap (λ (d : Desk B L). d.tries) lacks.rest)
  last_try fault journal old new (inr (inr none)) = no_tries journal old new (ap (λ (d : Desk B L). d.node) none.1) (ap (λ (d : Desk B L). d.claims) none.1) (ap (λ (d : Desk B L). d.tries) none.1)

  -- nothing is granted
  grants_none : (fault : GrantFault) (journal : List Span) (old new : Desk B L) → TriesByDeeds journal old new
      → GrantsByDeeds ports.state total number (Err fault) kept journal old new
  grants_none fault journal old new t =
      record { deeds = t.deeds; left = t.left; did = t.did; tries = t.tries; made = t.made; asked = t.asked; came = t.came; drawn = t.drawn; within = t.within }

  ungranted : (fault : GrantFault) (n : ℕ) (journal : List Span) (old mid new : Desk B L) → Tried ports count n old mid → IsTryResult ports count (Err fault) mid new
      → GrantsByDeeds ports.state total number (Err fault) kept journal old new
  ungranted fault n journal old mid new tried ends =
      let first = all_tries n journal old mid tried in
      grants_none fault journal old new (more_tries journal old mid new first (last_try fault first.left mid new ends))

  -- the desk's draw
  draws_units : (drawn : Span) (old new : Desk B L) → (d : Draws count drawn old new)
      → Draws {B = B} {L = Unit {0}} count drawn (desk old.node old.claims old.door []) (desk new.node new.claims old.door [])
  draws_units drawn old new d = record {
    block = d.block;
    held = d.held;
    enough = d.enough;
    drawn_is = d.drawn_is;
    rest = ap (λ (x : Desk B L). desk {B = B} {L = Unit {0}} x.node x.claims old.door []) d.rest;
  }

  granted : (n : ℕ) (drawn : Span) (journal : List Span) (old mid new : Desk B L) → Tried ports count n old mid → Draws count drawn mid new
      → GrantsByDeeds ports.state total number (Ok drawn) kept journal old new
  granted n drawn journal old mid new tried d =
      let t = all_tries n journal old mid tried in
      let draw : NodeDeed B = draws count drawn (node_run new.node new.claims) in
      record {
        deeds = t.deeds ++ draw ∷ [];
        left = t.left;
        did = node_deeds_more ports.state total number t.deeds (draw ∷ []) (running journal old.node old.claims) (running t.left mid.node mid.claims)
            (running t.left new.node new.claims) t.did
            (running t.left new.node new.claims, ((some, few, mid.door, [], draws_units drawn mid new d), refl), refl);
        tries = t.tries;
        made = ap (λ (x : Desk B L). x.tries) d.rest ∙ t.made;
        asked = subst (λ (wants : List Want). AllZip (λ want (x : Try L). LogsWant want x.log) wants t.tries)
            (sym (flat_map-append asked_in t.deeds (draw ∷ []) ∙ append-nil (all_asked t.deeds))) t.asked;
        came = flat_map-append came_in t.deeds (draw ∷ []) ∙ append-nil (all_came t.deeds) ∙ t.came;
        drawn = flat_map-append drawn_in t.deeds (draw ∷ []) ∙ ap (λ (xs : List Span). xs ++ drawn ∷ []) t.drawn;
        within = All-append (IsWithinRun kept) t.deeds (draw ∷ []) t.within (All-cons (IsWithinRun kept) draw [] tt (All-nil (IsWithinRun kept)));
      }

  pub grant_by_deeds : (answer : Result Span GrantFault) (journal : List Span) (old new : Desk B L) → IsGrantOf ports count answer old new
      → GrantsByDeeds ports.state total number answer kept journal old new
  grant_by_deeds (Ok drawn) journal old new g = granted g.tries drawn journal old g.mid new g.tried g.draws
  grant_by_deeds (Err (grant.Lease fault)) journal old new g = ungranted (grant.Lease fault) g.tries journal old g.mid new g.tried g.ends
  grant_by_deeds (Err grant.NoMemory) journal old new g = ungranted grant.NoMemory g.tries journal old g.mid new g.tried g.ends
  grant_by_deeds (Err (grant.NoBlock wants)) journal old new g = grants_none (grant.NoBlock wants) journal old new (all_tries wants journal old new g.tried)
  grant_by_deeds (Err grant.Broker) journal old new g = ungranted grant.Broker g.tries journal old g.mid new g.tried g.ends

pub grants_are_deeds : {B L : Type 0} (tells : L → LinkState) (state : B → DiskState) → GrantsAreDeeds tells state
grants_are_deeds tells state broker patience count total number answer kept journal old new some few g =
    grant_by_deeds (ports_of tells state broker patience) count total number kept some few answer journal old new g
