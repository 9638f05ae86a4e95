-- What a node does with a Block, and its crashes, as events of the world.
use Rattle.std.proofs.Common.{◌≡◌, ◌≢◌, ℕ, suc, ◌+◌, ◌-◌, ◌^◌, ◌<◌, ◌≤◌, ◌⊎◌, inl, inr, Bool, true, false, not, cond, ◌&&◌, ◌||◌, List, [], ◌∷◌, ◌++◌, length, get_or, set, All, refl, sym, ap, ◌∙◌, subst, arith, Option, None, Some, nat_eq, nat_le, nat_lt}
use Rattle.std.specs.List.{Contains, list_any}
use Rattle.std.specs.Option.{is_none}
use Rattle.std.specs.Prelude.{Result, Ok, Err, IfErr, ◌↔◌}
use Rattle.std.proofs.lemmas.Bool.{and_from, and_parts, eq-eqb, eqb-false, false≢true, le-leb, leb-true, ltb-true, not-true, not_from_false, true≢false}
use Rattle.std.proofs.lemmas.List.{get_or-set_same, length-set}
use Rattle.std.proofs.lemmas.List.Elements.{All-contains, All-cons, All-nil}
use Rattle.std.proofs.lemmas.List.Folds.{list_any-append}
use Rattle.std.proofs.lemmas.Option.{none-some}
use Rattle.zk_model.specs.declared.Span.{Span}
use Rattle.zk_model.specs.declared.messages.Block.{Block}
use Rattle.lease_core.specs.Spans.{meets, meets_any}
use Rattle.lease_core.proofs.Reached.{reached_is_consistent}
use Rattle.claim_store.specs.ClaimedRanges.{AreMerged, is_claimed}
use Rattle.claim_store.specs.Causes.{ClaimCause, IsFree}
use Rattle.claim_store.specs.Claims.{ClaimState, first_met}
use Rattle.claim_store.specs.declared.ClaimFault.{ClaimFault}
use Rattle.claim_store.specs.declared.ClaimFault.TheVariants.{Broken, OutOfRange, Overlap, Full, Device, NoMemory}
use Rattle.claim_store.proofs.Meeting.{none_apart, none_met}
use Rattle.claim_store.proofs.Joining.{merged_through}
use Rattle.claim_store.proofs.Slots.{bytes_say_one_list}
use Rattle.claim_store.proofs.Units.{HaveUnits, rising_have_units, same_met}
use Rattle.broker_core.specs.Messages.{block_at, given, out_at, units_of}
use Rattle.broker_core.specs.Nodes.{first_node, has_claimed, may_claim, may_cut, next_node, node_at, takes}
use Rattle.broker_core.specs.Sound.{IsSound}
use Rattle.broker_core.specs.Worlds.{WorldState, after_event, cut_short, may_happen, taken}
use Rattle.broker_core.specs.declared.event.BrokerEvent.TheVariants as event
use Rattle.broker_core.specs.declared.message.Message.TheVariants as message
use Rattle.broker_core.specs.declared.message.Node.{Node}
use Rattle.broker_core.specs.declared.message.NodeClaim.{NodeClaim}
use Rattle.broker_node.specs.NodeStates.{IsTakeOf, NodeState, holding, takes_own}
use Rattle.broker_node.specs.Takes.{CutIsEvent, IsEventOf, IsRunning, IsTakeEvent, Recovers, StartIsEvent, TakeIsEvent, TakesAgree, claims_by}

-- ---- claims of a node

pub has_is_met : (claims : List NodeClaim) (node : ℕ) (s : Span) → has_claimed claims node s ≡ meets_any s (claims_by claims node)
has_is_met [] node s = refl
has_is_met (c ∷ claims) node s = by_node (nat_eq c.node node) (has_is_met claims node s) where
  by_node : (b : Bool) → has_claimed claims node s ≡ meets_any s (claims_by claims node)
      → ((b && meets c.span s) || has_claimed claims node s) ≡ meets_any s (cond b (c.span ∷ claims_by claims node) (claims_by claims node))
  by_node true more = ap (λ (x : Bool). meets c.span s || x) more
  by_node false more = more

pub claims_by_more : (claims : List NodeClaim) (node : ℕ) (s : Span)
    → claims_by (claims ++ record { node = node; span = s } ∷ []) node ≡ claims_by claims node ++ s ∷ []
claims_by_more [] node s = ap (λ (b : Bool). cond b (s ∷ []) []) (eq-eqb node node refl)
claims_by_more (c ∷ claims) node s = by_node (nat_eq c.node node) (claims_by_more claims node s) where
  all : List NodeClaim
  all = claims ++ record { node = node; span = s } ∷ []

  by_node : (b : Bool) → claims_by all node ≡ claims_by claims node ++ s ∷ []
      → cond b (c.span ∷ claims_by all node) (claims_by all node) ≡ cond b (c.span ∷ claims_by claims node) (claims_by claims node) ++ s ∷ []
  by_node true more = ap (λ (xs : List Span). c.span ∷ xs) more
  by_node false more = more

contains_later : (c : NodeClaim) (claims : List NodeClaim) (d : NodeClaim) → Contains claims d → Contains (c ∷ claims) d
contains_later c claims d (k, l, is) = (suc k, omega (arith, l), is)

all_by : (P : Span → Type 0) (claims : List NodeClaim) (node : ℕ) → ((c : NodeClaim) → Contains claims c → P c.span) → All P (claims_by claims node)
all_by P [] node each = All-nil P
all_by P (c ∷ claims) node each = by_node (nat_eq c.node node) (all_by P claims node (λ d h. each d (contains_later c claims d h))) where
  by_node : (b : Bool) → All P (claims_by claims node) → All P (cond b (c.span ∷ claims_by claims node) (claims_by claims node))
  by_node true more = All-cons P c.span (claims_by claims node) (each c (0, omega arith, refl)) more
  by_node false more = more

-- each has a unit, since the store granted it
pub have_units : (w : WorldState) (node : ℕ) → IsSound w → HaveUnits (claims_by w.claims node)
have_units w node v = all_by (λ s. s.start < s.end) w.claims node (λ c h.
    let from = v.theirs c h in
    subst (λ (s : Span). s.start < s.end) from.3
    (All-contains (λ (s : Span). s.start < s.end) w.lease.spent (units_of from.0) (reached_is_consistent w.lease v.serving.reached).0.spent_units
    (v.granted.granted_units from.0 from.1)))

-- ---- claims of a node and of its store

is_none-true : {A : Type 0} (o : Option A) → is_none o ≡ true → o ≡ None
is_none-true None h = refl
is_none-true (Some x) h = absurd (false≢true h)

-- a claim is free by the world and by ranges alike
met_alike : (w : WorldState) (b : Block) (ranges : List Span) → IsSound w → 1 ≤ b.count → AreMerged (claims_by w.claims b.node) ranges
    → has_claimed w.claims b.node (units_of b) ≡ meets_any (units_of b) ranges
met_alike w b ranges v some merged =
    has_is_met w.claims b.node (units_of b)
    ∙ same_met (units_of b) (claims_by w.claims b.node) ranges (omega (arith, some)) (have_units w b.node v) (rising_have_units 0 ranges merged.rising)
    (λ unit. sym (merged.same unit))

pub takes_agree : TakesAgree
takes_agree w b ranges v some merged = (there, back) where
  alike : has_claimed w.claims b.node (units_of b) ≡ meets_any (units_of b) ranges
  alike = met_alike w b ranges v some merged

  there : may_claim w.lease.total w.claims b ≡ true → (b.start + b.count ≤ w.lease.total) × (first_met (units_of b) ranges ≡ None)
  there may =
      let p = and_parts (nat_le (b.start + b.count) w.lease.total) _ may in (
        leb-true (b.start + b.count) w.lease.total p.0,
        is_none-true (first_met (units_of b) ranges) (none_met (units_of b) ranges ∙ ap not (sym alike) ∙ p.1),
      )

  back : (b.start + b.count ≤ w.lease.total) × (first_met (units_of b) ranges ≡ None) → may_claim w.lease.total w.claims b ≡ true
  back (low, none) = and_from (nat_le (b.start + b.count) w.lease.total) _ (le-leb (b.start + b.count) w.lease.total low)
      (ap not alike ∙ none_apart (units_of b) ranges none)

-- ---- a Block that comes

module _ {D : Type 0} (w : WorldState) (i : ℕ) (b : Block) (state : NodeState) (claims : ClaimState D) (v : IsSound w) (r : IsRunning w state claims)
    (is : block_at w.sent i ≡ Some b) (same : b.node ≡ state.node) where
  there : nat_lt b.node (length w.nodes) ≡ true
  there = ap (λ (n : ℕ). nat_lt n (length w.nodes)) same ∙ r.there

  own : node_at w.nodes b.node ≡ state.own
  own = ap (node_at w.nodes) same ∙ r.own

  takes_is : takes_own state b ≡ takes (node_at w.nodes b.node) b
  takes_is = ap (λ (t : Bool). t && takes state.own b) (eq-eqb state.node b.node (sym same)) ∙ ap (λ (n : Node). takes n b) (sym own)

  kept : claims.fault ≡ 0 → AreMerged (claims_by w.claims b.node) claims.claims
  kept whole = subst (λ (n : ℕ). AreMerged (claims_by w.claims n) claims.claims) (sym same) (r.kept whole)

  -- the world once the node has this, and its claims are these
  abbrev with_own : Node → List NodeClaim → WorldState
  with_own own all = record w { nodes = set w.nodes b.node own; claims = all }

  abbrev claimed : List NodeClaim
  claimed = w.claims ++ record { node = b.node; span = units_of b } ∷ []

  abbrev taken_by : Bool → Bool → WorldState
  taken_by t u = record w {
    nodes = cond t (set w.nodes b.node (next_node (node_at w.nodes b.node) (cond u (Some (units_of b)) None))) w.nodes;
    claims = cond (t && u) claimed w.claims;
  }

  to_node : (t u : Bool) → takes (node_at w.nodes b.node) b ≡ t → may_claim w.lease.total w.claims b ≡ u → (now : NodeState) (new : ClaimState D)
      → IsRunning (taken_by t u) now new → IsEventOf w (event.ToNode i) now new
  to_node t u takes_t may_u now new runs = record {
    possible = ap (λ (o : Option Block). given o (given (out_at w.sent i) false (λ out. nat_lt out.node (length w.nodes))) (λ c. nat_lt c.node (length w.nodes))) is ∙ there;
    runs = subst (λ (x : WorldState). IsRunning x now new) (sym (ap (λ (o : Option Block). given o w (taken w)) is ∙ (λ j. taken_by (takes_t j) (may_u j)))) runs;
  }

  cut : may_claim w.lease.total w.claims b ≡ true → takes (node_at w.nodes b.node) b ≡ true → given (block_at w.sent i) false (may_cut w.lease.total w.claims w.nodes) ≡ true
  cut may take = ap (λ (o : Option Block). given o false (may_cut w.lease.total w.claims w.nodes)) is
      ∙ and_from (nat_lt b.node (length w.nodes)) _ there (and_from (takes (node_at w.nodes b.node) b) _ take may)

  node_fail : (keep : Bool) → takes (node_at w.nodes b.node) b ≡ true → may_claim w.lease.total w.claims b ≡ true → (now : NodeState) (new : ClaimState D)
      → IsRunning (cut_short keep (next_node (node_at w.nodes b.node) None) w b) now new → IsEventOf w (event.NodeFail i keep) now new
  node_fail keep take may now new runs = record {
    possible = cut may take;
    runs = subst (λ (x : WorldState). IsRunning x now new)
        (sym (ap (λ (o : Option Block). given o w (λ c. cut_short keep (next_node (node_at w.nodes c.node) None) w c)) is)) runs;
  }

  -- the node has this next
  runs_with : (node : Node) (all : List NodeClaim) (new : ClaimState D) → new.total ≡ claims.total → (new.fault ≡ 0 → AreMerged (claims_by all b.node) new.claims)
      → IsRunning (with_own node all) (record { node = state.node; own = node }) new
  runs_with node all new total merged = record {
    there = ap (nat_lt state.node) (length-set w.nodes b.node node) ∙ r.there;
    own = subst (λ (n : ℕ). node_at (set w.nodes b.node node) n ≡ node) same (get_or-set_same w.nodes b.node node first_node (ltb-true b.node (length w.nodes) there));
    total = total ∙ r.total;
    kept = λ whole. subst (λ (n : ℕ). AreMerged (claims_by all n) new.claims) same (merged whole);
  }

  -- nothing is held after a fault
  holds_none : (all : List NodeClaim) (new : ClaimState D) → new.total ≡ claims.total → (new.fault ≡ 0 → AreMerged (claims_by all b.node) new.claims)
      → IsRunning (with_own (next_node (node_at w.nodes b.node) None) all) (holding state None) new
  holds_none all new total merged =
      subst (λ (n : Node). IsRunning (with_own (next_node (node_at w.nodes b.node) None) all) (record { node = state.node; own = next_node n None }) new) own
      (runs_with (next_node (node_at w.nodes b.node) None) all new total merged)

  free : IsFree claims b.start b.count → 1 ≤ b.count → may_claim w.lease.total w.claims b ≡ true
  free f some = (takes_agree w b claims.claims v some (kept f.whole)).1 (subst (λ (n : ℕ). b.start + b.count ≤ n) r.total f.within, f.apart)

  some_units : takes (node_at w.nodes b.node) b ≡ true → 1 ≤ b.count
  some_units take =
      let p = and_parts (nat_eq (node_at w.nodes b.node).number b.number) _ take in
      let q = and_parts (not (nat_eq (node_at w.nodes b.node).number (2 ^ 64 - 1))) _ p.1 in
      above (nat_eq b.count 0) refl q.1 where
        above : (z : Bool) → nat_eq b.count 0 ≡ z → not z ≡ true → 1 ≤ b.count
        above true e h = absurd (false≢true h)
        above false e h = let none = eqb-false b.count 0 e in omega (arith, none)

  -- the claims as they were
  as_was : (new : ClaimState D) → new ≡ claims → new.fault ≡ 0 → AreMerged (claims_by w.claims b.node) new.claims
  as_was new e = subst (λ (c : ClaimState D). c.fault ≡ 0 → AreMerged (claims_by w.claims b.node) c.claims) (sym e) kept

  total_was : (new : ClaimState D) → new ≡ claims → new.total ≡ claims.total
  total_was new e = ap (λ (c : ClaimState D). c.total) e

  module _ (now : NodeState) (new : ClaimState D) where
    not_taken : takes_own state b ≡ false → now ≡ state → new ≡ claims → IsEventOf w (event.ToNode i) now new
    not_taken other n c = to_node false (may_claim w.lease.total w.claims b) (sym takes_is ∙ other) refl now new
        (subst (λ (x : NodeState). IsRunning w x new) (sym n) (subst (IsRunning w state) (sym c) r))

    is_taken : takes_own state b ≡ true → now ≡ holding state (Some (units_of b)) → IsFree claims b.start b.count
        → AreMerged (claims.claims ++ units_of b ∷ []) new.claims → new.total ≡ claims.total → IsEventOf w (event.ToNode i) now new
    is_taken mine n f merged total =
        let take : takes (node_at w.nodes b.node) b ≡ true = sym takes_is ∙ mine in
        to_node true true take (free f (some_units take)) now new
        (subst (λ (x : NodeState). IsRunning (taken_by true true) x new) (sym n)
        (subst (λ (n : Node). IsRunning (taken_by true true) (record { node = state.node; own = next_node n (Some (units_of b)) }) new) own
        (runs_with (next_node (node_at w.nodes b.node) (Some (units_of b))) claimed new total (λ whole.
        subst (λ (xs : List Span). AreMerged xs new.claims) (sym (claims_by_more w.claims b.node (units_of b)))
        (merged_through (claims_by w.claims b.node) claims.claims new.claims (units_of b) (kept f.whole) merged)))))

    -- the world refuses the claim too
    refused : takes_own state b ≡ true → now ≡ holding state None → new ≡ claims → may_claim w.lease.total w.claims b ≡ false → IsEventOf w (event.ToNode i) now new
    refused mine n c other = to_node true false (sym takes_is ∙ mine) other now new
        (subst (λ (x : NodeState). IsRunning (taken_by true false) x new) (sym n) (holds_none w.claims new (total_was new c) (as_was new c)))

    -- it does not, and the claim is kept or not
    fails : (keep : Bool) → takes_own state b ≡ true → now ≡ holding state None → new.total ≡ claims.total
        → (new.fault ≡ 0 → AreMerged (claims_by (cond keep claimed w.claims) b.node) new.claims) → may_claim w.lease.total w.claims b ≡ true
        → IsEventOf w (event.NodeFail i keep) now new
    fails keep mine n total merged may = node_fail keep (sym takes_is ∙ mine) may now new
        (subst (λ (x : NodeState). IsRunning (cut_short keep (next_node (node_at w.nodes b.node) None) w b) x new) (sym n) (by_keep keep merged)) where
          by_keep : (k : Bool) → (new.fault ≡ 0 → AreMerged (claims_by (cond k claimed w.claims) b.node) new.claims)
              → IsRunning (cut_short k (next_node (node_at w.nodes b.node) None) w b) (holding state None) new
          by_keep true m = holds_none claimed new total m
          by_keep false m = holds_none w.claims new total m

    fails_unkept : takes_own state b ≡ true → now ≡ holding state None → new ≡ claims → may_claim w.lease.total w.claims b ≡ true
        → IsEventOf w (event.NodeFail i false) now new
    fails_unkept mine n c may = fails false mine n (total_was new c) (as_was new c) may

    either : takes_own state b ≡ true → now ≡ holding state None → new ≡ claims → IsEventOf w (event.ToNode i) now new ⊎ IsEventOf w (event.NodeFail i false) now new
    either mine n c = by_test (may_claim w.lease.total w.claims b) refl where
      by_test : (u : Bool) → may_claim w.lease.total w.claims b ≡ u → IsEventOf w (event.ToNode i) now new ⊎ IsEventOf w (event.NodeFail i false) now new
      by_test true may = inr (fails_unkept mine n c may)
      by_test false other = inl (refused mine n c other)

    -- what the store does not find free the world does not either
    not_free : claims.fault ≡ 0 → 1 ≤ b.count → ((b.start + b.count ≤ claims.total) × (first_met (units_of b) claims.claims ≡ None) → ⊥) → may_claim w.lease.total w.claims b ≡ false
    not_free whole some none = by_test (may_claim w.lease.total w.claims b) refl where
      by_test : (u : Bool) → may_claim w.lease.total w.claims b ≡ u → may_claim w.lease.total w.claims b ≡ false
      by_test false other = other
      by_test true may =
          let f = (takes_agree w b claims.claims v some (kept whole)).0 may in
          absurd (none (subst (λ (n : ℕ). b.start + b.count ≤ n) (sym r.total) f.0, f.1))

pub take_is_event : {D : Type 0} → TakeIsEvent D
take_is_event w i b state now claims new (Ok false) before after v r is same (other, n, c) cause = not_taken w i b state claims v r is same now new other n c
take_is_event w i b state now claims new (Ok true) before after v r is same (mine, n, f, merged, total, whole) cause =
    is_taken w i b state claims v r is same now new mine n f merged total
take_is_event w i b state now claims new (Err (Broken first)) before after v r is same (mine, n, c, t) cause = either w i b state claims v r is same now new mine n cause.1
take_is_event w i b state now claims new (Err (OutOfRange total)) before after v r is same (mine, n, c, t) cause =
    refused w i b state claims v r is same now new mine n cause.1
    (not_free w i b state claims v r is same now new cause.0.1 (some_units w i b state claims v r is same (sym (takes_is w i b state claims v r is same) ∙ mine))
    (λ f. let above = cause.0.2 in let low = f.0 in absurd (omega (arith, above, low))))
take_is_event w i b state now claims new (Err (Overlap earlier)) before after v r is same (mine, n, c, t) cause =
    refused w i b state claims v r is same now new mine n cause.1
    (not_free w i b state claims v r is same now new cause.0.0 (some_units w i b state claims v r is same (sym (takes_is w i b state claims v r is same) ∙ mine))
    (λ f. none-some earlier (sym f.1 ∙ cause.0.2)))
take_is_event w i b state now claims new (Err (Full slots)) before after v r is same (mine, n, c, t) cause =
    fails_unkept w i b state claims v r is same now new mine n cause.1
    ((takes_agree w b claims.claims v (some_units w i b state claims v r is same (sym (takes_is w i b state claims v r is same) ∙ mine))
    (kept w i b state claims v r is same cause.0.1)).1
    (subst (λ (k : ℕ). b.start + b.count ≤ k) r.total cause.0.2, cause.0.3))
take_is_event w i b state now claims new (Err NoMemory) before after v r is same (mine, n, c, t) cause =
    fails_unkept w i b state claims v r is same now new mine n cause.1
    (free w i b state claims v r is same cause.0 (some_units w i b state claims v r is same (sym (takes_is w i b state claims v r is same) ∙ mine)))
take_is_event w i b state now claims new (Err Device) before after v r is same (mine, n, c, t) cause = λ keep.
    fails w i b state claims v r is same now new keep mine n t (λ whole. let above = cause.3 in absurd (omega (arith, above, whole)))
    (free w i b state claims v r is same cause.0 (some_units w i b state claims v r is same (sym (takes_is w i b state claims v r is same) ∙ mine)))

pub cut_is_event : {D : Type 0} → CutIsEvent D
cut_is_event w i b state claims bytes v r is same mine f (inl old) = (
  false,
  cut w i b state claims v r is same may take,
  subst (λ (x : WorldState). Recovers x state.node claims.total claims.begin claims.slots bytes)
      (sym (ap (λ (o : Option Block). given o w (cut_short false first_node w)) is)) says,
  cut w i b state claims v r is same may take,
  subst (λ (x : WorldState). Recovers x state.node claims.total claims.begin claims.slots bytes)
      (sym (ap (λ (o : Option Block). given o w (λ c. cut_short false (next_node (node_at w.nodes c.node) None) w c)) is)) says_fail,
) where
  take : takes (node_at w.nodes b.node) b ≡ true
  take = sym (takes_is w i b state claims v r is same) ∙ mine

  may : may_claim w.lease.total w.claims b ≡ true
  may = free w i b state claims v r is same f (some_units w i b state claims v r is same take)

  says : Recovers (cut_short false first_node w b) state.node claims.total claims.begin claims.slots bytes
  says = record { ranges = claims.claims; merged = r.kept f.whole; says = old }

  says_fail : Recovers (cut_short false (next_node (node_at w.nodes b.node) None) w b) state.node claims.total claims.begin claims.slots bytes
  says_fail = record { ranges = claims.claims; merged = r.kept f.whole; says = old }
cut_is_event w i b state claims bytes v r is same mine f (inr more) = (
  true,
  cut w i b state claims v r is same may take,
  subst (λ (x : WorldState). Recovers x state.node claims.total claims.begin claims.slots bytes)
      (sym (ap (λ (o : Option Block). given o w (cut_short true first_node w)) is)) says,
  cut w i b state claims v r is same may take,
  subst (λ (x : WorldState). Recovers x state.node claims.total claims.begin claims.slots bytes)
      (sym (ap (λ (o : Option Block). given o w (λ c. cut_short true (next_node (node_at w.nodes c.node) None) w c)) is)) says_fail,
) where
  take : takes (node_at w.nodes b.node) b ≡ true
  take = sym (takes_is w i b state claims v r is same) ∙ mine

  may : may_claim w.lease.total w.claims b ≡ true
  may = free w i b state claims v r is same f (some_units w i b state claims v r is same take)

  all : AreMerged (claims_by (claimed w i b state claims v r is same) state.node) more.ranges
  all = subst (λ (n : ℕ). AreMerged (claims_by (claimed w i b state claims v r is same) n) more.ranges) same
      (subst (λ (xs : List Span). AreMerged xs more.ranges) (sym (claims_by_more w.claims b.node (units_of b)))
      (merged_through (claims_by w.claims b.node) claims.claims more.ranges (units_of b) (kept w i b state claims v r is same f.whole) more.merged))

  says : Recovers (cut_short true first_node w b) state.node claims.total claims.begin claims.slots bytes
  says = record { ranges = more.ranges; merged = all; says = more.says }

  says_fail : Recovers (cut_short true (next_node (node_at w.nodes b.node) None) w b) state.node claims.total claims.begin claims.slots bytes
  says_fail = record { ranges = more.ranges; merged = all; says = more.says }

pub start_is_event : {D : Type 0} → StartIsEvent D
start_is_event w node claims bytes there total found says = record {
  possible = there;
  runs = record {
    there = ap (nat_lt node) (length-set w.nodes node first_node) ∙ there;
    own = get_or-set_same w.nodes node first_node first_node (ltb-true node (length w.nodes) there);
    total = total;
    kept = λ whole. subst (AreMerged (claims_by w.claims node))
        (bytes_say_one_list claims.total claims.begin claims.slots bytes found.ranges claims.claims found.says says) found.merged;
  };
}
