-- Lists, and what stands at their places.
use Rattle.std.proofs.Common.{◌≡◌, ℕ, ◌<◌, ◌≤◌, ◌⊎◌, inl, inr, List, [], ◌∷◌, ◌++◌, length, get_or, set, replicate, refl, ap, ◌∙◌, subst, arith, Some}
use Rattle.std.specs.List.{Contains, AllPairs}
use Rattle.std.specs.Prelude.{slice_get}
use Rattle.std.proofs.lemmas.Bool.{cases_eq, cases_lt}
use Rattle.std.proofs.lemmas.List.{get_or-replicate, get_or-set_other, get_or-set_same, get_or_append_left, get_or_past, get_or_push, length-replicate, length_push, set_past}
use Rattle.std.proofs.lemmas.Option.{get_or_from_slice_get, none-some, option_and_then_some, same_Some, slice_get_within}
use Rattle.lease_core.specs.Spans.{IsApart}
use Rattle.zk_model.specs.declared.Span.{Span}
use Rattle.broker_core.specs.Messages.{as_block, as_want, block_at, want_at}
use Rattle.zk_model.specs.declared.messages.Block.{Block}
use Rattle.broker_core.specs.declared.message.Message.{Message}
use Rattle.broker_core.specs.declared.message.Message.TheVariants as message
use Rattle.zk_model.specs.declared.messages.Want.{Want}

pub in_none : {X : Type 0} (x : X) → Contains [] x → ⊥
in_none x h = let l = h.1 in absurd (omega arith)

-- after a write, a place has what it had, or is the one written
pub set_cases : {X : Type 0} (xs : List X) (i j : ℕ) (x d : X) → (get_or (set xs i x) j d ≡ get_or xs j d) ⊎ ((j ≡ i) × (get_or (set xs i x) j d ≡ x))
set_cases {X} xs i j x d = by_place (cases_eq j i) where
  within : j ≡ i → ((i < length xs) ⊎ (length xs ≤ i)) → (get_or (set xs i x) j d ≡ get_or xs j d) ⊎ ((j ≡ i) × (get_or (set xs i x) j d ≡ x))
  within e (inl l) = inr (e, ap (λ (k : ℕ). get_or (set xs i x) k d) e ∙ get_or-set_same xs i x d l)
  within e (inr past) = inl (ap (λ (ys : List X). get_or ys j d) (set_past xs i x past))

  by_place : ((j ≡ i) ⊎ (j ≡ i → ⊥)) → (get_or (set xs i x) j d ≡ get_or xs j d) ⊎ ((j ≡ i) × (get_or (set xs i x) j d ≡ x))
  by_place (inl e) = within e (cases_lt i (length xs))
  by_place (inr other) = inl (get_or-set_other xs i j x d other)

pub default_at : {X : Type 0} (n i : ℕ) (d : X) → get_or (replicate n d) i d ≡ d
default_at {X} n i d = by_place (cases_lt i n) where
  by_place : ((i < n) ⊎ (n ≤ i)) → get_or (replicate n d) i d ≡ d
  by_place (inl l) = get_or-replicate n i d d l
  by_place (inr past) = get_or_past (replicate n d) i d (omega (arith, length-replicate n d, past))

-- the last of spans that are apart is apart from each before it
pub last_apart : (xs : List Span) (s t : Span) → AllPairs IsApart (xs ++ s ∷ []) → Contains xs t → IsApart t s
last_apart xs s t apart (k, l, is) =
    let pair = apart k (length xs) t l (omega (arith, length_push xs s)) in
    let P : Span → Span → Type 0 = λ a b. IsApart a b in
    subst (λ (b : Span). IsApart t b) (get_or_push xs s t (length xs) refl)
    (subst (λ (a : Span). IsApart a (get_or (xs ++ s ∷ []) (length xs) t)) (get_or_append_left xs (s ∷ []) t k l ∙ is) pair)

-- ---- messages

is_want : (m : Message) (w : Want) → as_want m ≡ Some w → m ≡ message.Want w
is_want (message.Want v) w e = ap message.Want (same_Some v w e)
is_want (message.Block b) w e = absurd (none-some w e)
is_want (message.Out o) w e = absurd (none-some w e)

is_block : (m : Message) (b : Block) → as_block m ≡ Some b → m ≡ message.Block b
is_block (message.Want w) b e = absurd (none-some b e)
is_block (message.Block c) b e = ap message.Block (same_Some c b e)
is_block (message.Out o) b e = absurd (none-some b e)

sent_at : (sent : List Message) (i : ℕ) (m : Message) → slice_get sent i ≡ Some m → Contains sent m
sent_at sent i m is = (i, slice_get_within sent i m is, get_or_from_slice_get sent i m m is)

pub want_sent : (sent : List Message) (i : ℕ) (w : Want) → want_at sent i ≡ Some w → Contains sent (message.Want w)
want_sent sent i w e = option_and_then_some as_want (slice_get sent i) w e
    (λ m is same. subst (Contains sent) (is_want m w same) (sent_at sent i m is))

pub block_sent : (sent : List Message) (i : ℕ) (b : Block) → block_at sent i ≡ Some b → Contains sent (message.Block b)
block_sent sent i b e = option_and_then_some as_block (slice_get sent i) b e
    (λ m is same. subst (Contains sent) (is_block m b same) (sent_at sent i m is))
