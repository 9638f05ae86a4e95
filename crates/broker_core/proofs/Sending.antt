-- A message more, and what the broker keeps.
use Rattle.std.proofs.Common.{◌≡◌, ℕ, ◌≤◌, ◌⊎◌, inl, inr, ⊎_elim, List, [], ◌∷◌, ◌++◌, replicate, set, sym, ap, ◌∙◌, subst, Option, None, Some}
use Rattle.std.specs.List.{Contains}
use Rattle.std.proofs.lemmas.List.Elements.{Contains-append_left, Contains-push_cases}
use Rattle.std.proofs.lemmas.Option.{none-some, same_Some}
use Rattle.lease_core.specs.Spans.{IsApart}
use Rattle.zk_model.specs.declared.Span.{Span}
use Rattle.broker_core.specs.Leases.{kept_of}
use Rattle.broker_core.specs.Messages.{block_of, units_of}
use Rattle.broker_core.specs.Sound.{AreCounted, AreGranted, AreSent, AreTheirs, Grows}
use Rattle.zk_model.specs.declared.messages.Block.{Block}
use Rattle.broker_core.specs.declared.message.Kept.{Kept}
use Rattle.broker_core.specs.declared.message.Message.{Message}
use Rattle.broker_core.specs.declared.message.Message.TheVariants as message
use Rattle.broker_core.specs.declared.message.NodeClaim.{NodeClaim}
use Rattle.zk_model.specs.declared.messages.Want.{Want}
use Rattle.broker_core.proofs.Lists.{default_at, set_cases}

-- ---- messages

pub counted_more : (sent : List Message) (m : Message) → AreCounted sent
    → ((w : Want) → m ≡ message.Want w → (1 ≤ w.count) × (w.count ≤ 4096)) → AreCounted (sent ++ m ∷ [])
counted_more sent m old new w h = ⊎_elim (λ (x : Contains sent (message.Want w)). old w x) (λ (x : m ≡ message.Want w). new w x)
    (Contains-push_cases sent m (message.Want w) h)

-- what a Block that is sent must be: its units are granted, and no unit is in a Block to another node
pub record IsGrant (granted : List Span) (sent : List Message) (b : Block) : Type 0 where
  pub units : Contains granted (units_of b)
  pub theirs : (a : Block) → Contains sent (message.Block a) → (a.node ≡ b.node) ⊎ IsApart (units_of a) (units_of b)

apart_back : (s t : Span) → IsApart s t → IsApart t s
apart_back s t (inl h) = inr h
apart_back s t (inr h) = inl h

pub granted_more : (granted : List Span) (sent : List Message) (m : Message) → AreGranted granted sent
    → ((b : Block) → m ≡ message.Block b → IsGrant granted sent b) → AreGranted granted (sent ++ m ∷ [])
granted_more granted sent m old new = record {
  granted_units = λ b h. ⊎_elim (λ (x : Contains sent (message.Block b)). old.granted_units b x)
      (λ (x : m ≡ message.Block b). (new b x).units) (Contains-push_cases sent m (message.Block b) h);
  one_node = λ a b h k. by_both a b (Contains-push_cases sent m (message.Block a) h) (Contains-push_cases sent m (message.Block b) k);
} where
  same_block : (a b : Block) → message.Block a ≡ message.Block b → a ≡ b
  same_block a b e = cc

  back : (a b : Block) → (b.node ≡ a.node) ⊎ IsApart (units_of b) (units_of a) → (a.node ≡ b.node) ⊎ IsApart (units_of a) (units_of b)
  back a b (inl e) = inl (sym e)
  back a b (inr h) = inr (apart_back (units_of b) (units_of a) h)

  by_both : (a b : Block) → Contains sent (message.Block a) ⊎ (m ≡ message.Block a) → Contains sent (message.Block b) ⊎ (m ≡ message.Block b)
      → (a.node ≡ b.node) ⊎ IsApart (units_of a) (units_of b)
  by_both a b (inl h) (inl k) = old.one_node a b h k
  by_both a b (inl h) (inr e) = (new b e).theirs a h
  by_both a b (inr e) (inl k) = back a b ((new a e).theirs b k)
  by_both a b (inr e) (inr f) = inl (ap (λ (x : Block). x.node) (same_block a b (sym e ∙ f)))

-- the store granted more
pub granted_on : (granted now : List Span) (sent : List Message) → AreGranted granted sent → Grows granted now → AreGranted now sent
granted_on granted now sent old grows =
    record { granted_units = λ b h. grows (units_of b) (old.granted_units b h); one_node = old.one_node }

-- ---- what is kept

pub kept_more : (kept : List (Option Kept)) (sent : List Message) (m : Message) → AreSent kept sent → AreSent kept (sent ++ m ∷ [])
kept_more kept sent m old node k is = Contains-append_left sent (m ∷ []) _ (old node k is)

pub kept_set : (kept : List (Option Kept)) (sent : List Message) (node : ℕ) (k : Kept) → AreSent kept sent
    → Contains sent (message.Block (block_of node k.number k.span)) → AreSent (set kept node (Some k)) sent
kept_set kept sent node k old new j l is = by_place (set_cases kept node j (Some k) None) where
  by_place : ((kept_of (set kept node (Some k)) j ≡ kept_of kept j) ⊎ ((j ≡ node) × (kept_of (set kept node (Some k)) j ≡ Some k)))
      → Contains sent (message.Block (block_of j l.number l.span))
  by_place (inl same) = old j l (sym same ∙ is)
  by_place (inr h) = let one : k ≡ l = same_Some k l (sym h.1 ∙ is) in
      subst (λ (n : ℕ). Contains sent (message.Block (block_of n l.number l.span))) (sym h.0)
      (subst (λ (x : Kept). Contains sent (message.Block (block_of node x.number x.span))) one new)

pub kept_none : (n : ℕ) (sent : List Message) → AreSent (replicate n None) sent
kept_none n sent node k is = absurd (none-some k (sym (default_at n node None) ∙ is))

-- ---- what is claimed

pub theirs_more : (sent : List Message) (m : Message) (claims : List NodeClaim) → AreTheirs sent claims → AreTheirs (sent ++ m ∷ []) claims
theirs_more sent m claims old c h = let is = old c h in (is.0, Contains-append_left sent (m ∷ []) (message.Block is.0) is.1, is.2, is.3)

pub theirs_one : (sent : List Message) (claims : List NodeClaim) (b : Block) → AreTheirs sent claims → Contains sent (message.Block b)
    → AreTheirs sent (claims ++ record { node = b.node; span = units_of b } ∷ [])
theirs_one sent claims b old is c h = by_place (Contains-push_cases claims (record { node = b.node; span = units_of b }) c h) where
  by_place : Contains claims c ⊎ (record { node = b.node; span = units_of b } ≡ c) → (a : Block) × Contains sent (message.Block a) × (a.node ≡ c.node) × (units_of a ≡ c.span)
  by_place (inl k) = old c k
  by_place (inr e) = (b, is, ap (λ (x : NodeClaim). x.node) e, ap (λ (x : NodeClaim). x.span) e)
