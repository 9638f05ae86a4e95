-- What nodes claim, hold and spend.
use Rattle.std.proofs.Common.{◌≡◌, ◌≢◌, ℕ, zero, suc, ◌+◌, ◌<◌, ◌≤◌, ◌⊎◌, inl, inr, false, ◌&&◌, List, [], ◌∷◌, ◌++◌, length, get_or, set, sym, ap, ◌∙◌, subst, arith, None, Some, nat_eq, nat_lt}
use Rattle.std.specs.List.{Contains}
use Rattle.std.proofs.lemmas.Bool.{and_cases, cases_eq, eqb-false, ltb-false, or_parts}
use Rattle.std.proofs.lemmas.List.Elements.{Contains-append_left, Contains-get_or, Contains-push_cases}
use Rattle.std.proofs.lemmas.List.Quantifiers.{all_pairs_push}
use Rattle.std.proofs.lemmas.List.{get_or-set_other, get_or-set_same}
use Rattle.std.proofs.lemmas.Option.{same_Some, none-some}
use Rattle.lease_core.specs.Spans.{AreApart, IsApart, meets}
use Rattle.zk_model.specs.declared.Span.{Span}
use Rattle.broker_core.specs.Messages.{units_of}
use Rattle.broker_core.specs.Nodes.{drawn_part, first_node, has_claimed, left_part, node_at}
use Rattle.broker_core.specs.Sound.{AreClaimed, AreGranted, AreTheirs, AreUnspent, IsClaimedBy, IsPartOf}
use Rattle.zk_model.specs.declared.messages.Block.{Block}
use Rattle.broker_core.specs.declared.message.Message.{Message}
use Rattle.broker_core.specs.declared.message.Message.TheVariants as message
use Rattle.broker_core.specs.declared.message.Node.{Node}
use Rattle.broker_core.specs.declared.message.NodeClaim.{NodeClaim}
use Rattle.broker_core.proofs.Lists.{set_cases}

-- ---- spans

-- parts of spans that are apart are apart
pub parts_apart : (s t a b : Span) → IsPartOf s a → IsPartOf t b → IsApart a b → IsApart s t
parts_apart s t a b (s_low, s_units, s_high) (t_low, t_units, t_high) (inl before) = inl (omega (arith, s_high, t_low, before))
parts_apart s t a b (s_low, s_units, s_high) (t_low, t_units, t_high) (inr behind) = inr (omega (arith, s_low, t_high, behind))

-- ---- claims of two nodes

-- what two nodes claimed is apart
pub claims_apart : (granted : List Span) (sent : List Message) (claims : List NodeClaim) (c d : NodeClaim) → AreGranted granted sent → AreTheirs sent claims
    → Contains claims c → Contains claims d → c.node ≢ d.node → IsApart c.span d.span
claims_apart granted sent claims c d blocks theirs h k other = of_blocks (theirs c h) (theirs d k) where
  by_node : (a b : Block) → a.node ≡ c.node → b.node ≡ d.node → (a.node ≡ b.node) ⊎ IsApart (units_of a) (units_of b) → IsApart (units_of a) (units_of b)
  by_node a b e f (inl same) = absurd (other (sym e ∙ same ∙ f))
  by_node a b e f (inr apart) = apart

  of_blocks : (a : Block) × Contains sent (message.Block a) × (a.node ≡ c.node) × (units_of a ≡ c.span)
      → (b : Block) × Contains sent (message.Block b) × (b.node ≡ d.node) × (units_of b ≡ d.span) → IsApart c.span d.span
  of_blocks (a, sa, na, ua) (b, sb, nb, ub) = subst (λ (t : Span). IsApart c.span t) ub
      (subst (λ (s : Span). IsApart s (units_of b)) ua (by_node a b na nb (blocks.one_node a b sa sb)))

-- what a node claimed is apart from a Block that was sent to another one
pub block_apart : (granted : List Span) (sent : List Message) (claims : List NodeClaim) (c : NodeClaim) (b : Block) → AreGranted granted sent → AreTheirs sent claims
    → Contains claims c → Contains sent (message.Block b) → c.node ≢ b.node → IsApart c.span (units_of b)
block_apart granted sent claims c b blocks theirs h k other = of_block (theirs c h) where
  by_node : (a : Block) → a.node ≡ c.node → (a.node ≡ b.node) ⊎ IsApart (units_of a) (units_of b) → IsApart (units_of a) (units_of b)
  by_node a e (inl same) = absurd (other (sym e ∙ same))
  by_node a e (inr apart) = apart

  of_block : (a : Block) × Contains sent (message.Block a) × (a.node ≡ c.node) × (units_of a ≡ c.span) → IsApart c.span (units_of b)
  of_block (a, sa, na, ua) = subst (λ (s : Span). IsApart s (units_of b)) ua (by_node a na (blocks.one_node a b sa k))

-- a span that the node's claims have no unit of is apart from each of them
pub unclaimed_apart : (claims : List NodeClaim) (node : ℕ) (s : Span) (c : NodeClaim) → has_claimed claims node s ≡ false → Contains claims c → c.node ≡ node
    → IsApart c.span s
unclaimed_apart claims node s c free (k, l, is) e =
    subst (λ (x : NodeClaim). IsApart x.span s) is (at claims k l free (ap (λ (x : NodeClaim). x.node) is ∙ e)) where
      meets_not : (x : NodeClaim) → (nat_eq x.node node && meets x.span s) ≡ false → x.node ≡ node → IsApart x.span s
      meets_not x apart_test same = by_cases (and_cases (nat_eq x.node node) (meets x.span s) apart_test) where
        by_ends : ((nat_lt x.span.start s.end ≡ false) ⊎ (nat_lt s.start x.span.end ≡ false)) → IsApart x.span s
        by_ends (inl h) = inr (ltb-false x.span.start s.end h)
        by_ends (inr h) = inl (ltb-false s.start x.span.end h)

        by_cases : ((nat_eq x.node node ≡ false) ⊎ (meets x.span s ≡ false)) → IsApart x.span s
        by_cases (inl h) = absurd (eqb-false x.node node h same)
        by_cases (inr h) = by_ends (and_cases (nat_lt x.span.start s.end) (nat_lt s.start x.span.end) h)

      at : (xs : List NodeClaim) (i : ℕ) → i < length xs → has_claimed xs node s ≡ false → (get_or xs i c).node ≡ node → IsApart (get_or xs i c).span s
      at [] i l apart_test same = absurd (omega arith)
      at (x ∷ xs) zero l apart_test same = meets_not x (or_parts (nat_eq x.node node && meets x.span s) (has_claimed xs node s) apart_test).0 same
      at (x ∷ xs) (suc i) l apart_test same = at xs i (omega arith) (or_parts (nat_eq x.node node && meets x.span s) (has_claimed xs node s) apart_test).1 same

-- ---- a claim more

claimed_more : (claims : List NodeClaim) (c : NodeClaim) (node : ℕ) (s : Span) → IsClaimedBy claims node s → IsClaimedBy (claims ++ c ∷ []) node s
claimed_more claims c node s is = (is.0, Contains-append_left claims (c ∷ []) is.0 is.1, is.2, is.3)

pub unspent_more : (claims : List NodeClaim) (c : NodeClaim) (spent : List Span) (nodes : List Node) → AreUnspent claims spent nodes → AreUnspent (claims ++ c ∷ []) spent nodes
unspent_more claims c spent nodes old node s is = let h = old node s is in (claimed_more claims c node s h.0, h.1)

pub all_claimed_more : (claims : List NodeClaim) (c : NodeClaim) (spent : List Span) → AreClaimed claims spent → AreClaimed (claims ++ c ∷ []) spent
all_claimed_more claims c spent old t h = let is = old t h in (is.0, claimed_more claims c is.0 t is.1)

-- ---- a node more

-- another node stands at a place
pub unspent_set : (claims : List NodeClaim) (spent : List Span) (nodes : List Node) (node : ℕ) (now : Node) → AreUnspent claims spent nodes
    → ((s : Span) → now.block ≡ Some s → IsClaimedBy claims node s × ((t : Span) → Contains spent t → IsApart t s))
    → AreUnspent claims spent (set nodes node now)
unspent_set claims spent nodes node now old new j s is = by_place (set_cases nodes node j now first_node) where
  by_place : ((node_at (set nodes node now) j ≡ node_at nodes j) ⊎ ((j ≡ node) × (node_at (set nodes node now) j ≡ now)))
      → IsClaimedBy claims j s × ((t : Span) → Contains spent t → IsApart t s)
  by_place (inl same) = old j s (sym (ap (λ (x : Node). x.block) same) ∙ is)
  by_place (inr h) = subst (λ (n : ℕ). IsClaimedBy claims n s × ((t : Span) → Contains spent t → IsApart t s)) (sym h.0)
      (new s (sym (ap (λ (x : Node). x.block) h.1) ∙ is))

-- a node that holds nothing
pub unspent_none : (claims : List NodeClaim) (spent : List Span) (nodes : List Node) (node : ℕ) (now : Node) → now.block ≡ None → AreUnspent claims spent nodes
    → AreUnspent claims spent (set nodes node now)
unspent_none claims spent nodes node now none old = unspent_set claims spent nodes node now old (λ s is. absurd (none-some s (sym none ∙ is)))

-- ---- a Block is claimed

-- what was spent is apart from a Block that its node has not claimed before
pub spent_apart : (granted : List Span) (sent : List Message) (claims : List NodeClaim) (spent : List Span) (b : Block) → AreGranted granted sent → AreTheirs sent claims
    → AreClaimed claims spent → Contains sent (message.Block b) → has_claimed claims b.node (units_of b) ≡ false → (t : Span) → Contains spent t
    → IsApart t (units_of b)
spent_apart granted sent claims spent b blocks theirs claimed is free t h = in_claim (claimed t h) where
  whole : IsPartOf (units_of b) (units_of b)
  whole = (omega arith, omega arith, omega arith)

  by_node : (c : NodeClaim) → Contains claims c → ((c.node ≡ b.node) ⊎ (c.node ≡ b.node → ⊥)) → IsApart c.span (units_of b)
  by_node c k (inl same) = unclaimed_apart claims b.node (units_of b) c free k same
  by_node c k (inr other) = block_apart granted sent claims c b blocks theirs k is other

  in_claim : (node : ℕ) × IsClaimedBy claims node t → IsApart t (units_of b)
  in_claim (node, (c, k, of, part)) = parts_apart t (units_of b) c.span (units_of b) part whole (by_node c k (cases_eq c.node b.node))

-- ---- units are drawn

-- n units of a block that is left
pub record CanDraw (claims : List NodeClaim) (spent : List Span) (node : ℕ) (s : Span) (n : ℕ) : Type 0 where
  pub claim : IsClaimedBy claims node s
  pub unspent : (t : Span) → Contains spent t → IsApart t s
  pub some : 1 ≤ n
  pub fits : s.start + n ≤ s.end

drawn_is_part : (s : Span) (n : ℕ) → s.start + n ≤ s.end → IsPartOf (drawn_part s n) s
drawn_is_part s n fits = (omega arith, omega arith, omega (arith, fits))

left_is_part : (s : Span) (n : ℕ) → s.start + n ≤ s.end → IsPartOf (left_part s n) s
left_is_part s n fits = (omega arith, omega (arith, fits), omega arith)

part_of_part : (s t u : Span) → IsPartOf s t → IsPartOf t u → IsPartOf s u
part_of_part s t u (a, b, c) (d, e, f) = (omega (arith, a, d), b, omega (arith, c, f))

part_claimed : (claims : List NodeClaim) (node : ℕ) (s part : Span) → IsPartOf part s → IsClaimedBy claims node s → IsClaimedBy claims node part
part_claimed claims node s part is (c, h, e, within) = (c, h, e, part_of_part part s c.span is within)

itself : (s : Span) → s.start ≤ s.end → IsPartOf s s
itself s units = (omega arith, units, omega arith)

-- a span that was spent ends where it starts or later, since it is a part of a claim
is_some : (claims : List NodeClaim) (node : ℕ) (t : Span) → IsClaimedBy claims node t → t.start ≤ t.end
is_some claims node t (c, h, e, (low, units, high)) = units

-- what was spent before is apart from any part of the block
before_apart : (claims : List NodeClaim) (spent : List Span) (node : ℕ) (s part : Span) (n : ℕ) → CanDraw claims spent node s n → AreClaimed claims spent → IsPartOf part s
    → (t : Span) → Contains spent t → IsApart t part
before_apart claims spent node s part n d claimed is t h = let of = claimed t h in
    parts_apart t part t s (itself t (is_some claims of.0 t of.1)) is (d.unspent t h)

pub apart_drawn : (claims : List NodeClaim) (spent : List Span) (node : ℕ) (s : Span) (n : ℕ) → CanDraw claims spent node s n → AreClaimed claims spent → AreApart spent
    → AreApart (spent ++ drawn_part s n ∷ [])
apart_drawn claims spent node s n d claimed apart = all_pairs_push IsApart spent (drawn_part s n) apart
    (λ k e l. before_apart claims spent node s (drawn_part s n) n d claimed (drawn_is_part s n d.fits) (get_or spent k e) (Contains-get_or spent k e l))

pub claimed_drawn : (claims : List NodeClaim) (spent : List Span) (node : ℕ) (s : Span) (n : ℕ) → CanDraw claims spent node s n → AreClaimed claims spent
    → AreClaimed claims (spent ++ drawn_part s n ∷ [])
claimed_drawn claims spent node s n d old t h = by_place (Contains-push_cases spent (drawn_part s n) t h) where
  by_place : Contains spent t ⊎ (drawn_part s n ≡ t) → (j : ℕ) × IsClaimedBy claims j t
  by_place (inl k) = old t k
  by_place (inr e) = (node, subst (λ (x : Span). IsClaimedBy claims node x) e (part_claimed claims node s (drawn_part s n) (drawn_is_part s n d.fits) d.claim))

-- all that nodes hold is still unspent: the rest of this block, and what other nodes hold
pub unspent_drawn : (granted : List Span) (sent : List Message) (claims : List NodeClaim) (spent : List Span) (nodes : List Node) (node : ℕ) (s : Span) (n number : ℕ)
    → node < length nodes → AreGranted granted sent → AreTheirs sent claims → CanDraw claims spent node s n → AreClaimed claims spent
    → AreUnspent claims spent nodes
    → AreUnspent claims (spent ++ drawn_part s n ∷ []) (set nodes node (record { number = number; block = Some (left_part s n) }))
unspent_drawn granted sent claims spent nodes node s n number there blocks theirs d claimed old j u is =
    by_node (cases_eq j node) where
      now : Node
      now = record { number = number; block = Some (left_part s n) }

      drawn_left : IsApart (drawn_part s n) (left_part s n)
      drawn_left = inl (omega arith)

      of_left : (t : Span) → Contains spent t ⊎ (drawn_part s n ≡ t) → IsApart t (left_part s n)
      of_left t (inl h) = before_apart claims spent node s (left_part s n) n d claimed (left_is_part s n d.fits) t h
      of_left t (inr e) = subst (λ (x : Span). IsApart x (left_part s n)) e drawn_left

      of_other : j ≢ node → IsClaimedBy claims j u → IsClaimedBy claims node s → IsApart (drawn_part s n) u
      of_other other (c, h, e, within) (b, k, f, inside) = parts_apart (drawn_part s n) u b.span c.span
          (part_of_part (drawn_part s n) s b.span (drawn_is_part s n d.fits) inside) within
          (claims_apart granted sent claims b c blocks theirs k h (λ same. other (sym e ∙ sym same ∙ f)))

      before : j ≢ node → IsClaimedBy claims j u × ((t : Span) → Contains spent t → IsApart t u) → (t : Span) → Contains spent t ⊎ (drawn_part s n ≡ t) → IsApart t u
      before other held t (inl h) = held.1 t h
      before other held t (inr e) = subst (λ (x : Span). IsApart x u) e (of_other other held.0 d.claim)

      Held : ℕ → Span → Type 0
      Held k x = IsClaimedBy claims k x × ((t : Span) → Contains (spent ++ drawn_part s n ∷ []) t → IsApart t x)

      of_this : left_part s n ≡ u → Held node u
      of_this same = subst (Held node) same (
        part_claimed claims node s (left_part s n) (left_is_part s n d.fits) d.claim,
        λ t h. of_left t (Contains-push_cases spent (drawn_part s n) t h),
      )

      by_node : ((j ≡ node) ⊎ (j ≡ node → ⊥)) → Held j u
      by_node (inl same) = subst (λ (k : ℕ). Held k u) (sym same) (of_this (same_Some (left_part s n) u
          (sym (ap (λ (x : Node). x.block) (ap (λ (k : ℕ). node_at (set nodes node now) k) same ∙ get_or-set_same nodes node now first_node there)) ∙ is)))
      by_node (inr other) = let held = old j u (sym (ap (λ (x : Node). x.block) (get_or-set_other nodes node j now first_node other)) ∙ is) in
          (held.0, λ t h. before other held t (Contains-push_cases spent (drawn_part s n) t h))
