-- The places that a grant leaves: how many they are, and that they are short.
use Rattle.std.proofs.Common.{◌≡◌, ℕ, ◌+◌, ◌-◌, ◌*◌, ◌^◌, ◌≤◌, List, [], ◌∷◌, ◌++◌, map, flat_map, length, refl, sym, ◌∙◌, ap, arith, append_assoc, append-nil}
use Rattle.std.specs.Prelude.{All}
use Rattle.std.specs.List.{range_with_len}
use Rattle.std.proofs.lemmas.List.FromFn.{map-range_with_len_more, length-range_with_len}
use Rattle.std.proofs.lemmas.List.Elements.{All-nil, All-append, All-map}
use Rattle.zk_model.specs.Audit.{round_places}
use Rattle.std.proofs.Math.Nat.{mul-le-mul}
use Rattle.zk_model.specs.Files.{AreParams, AreWithinLimits, rounds_of}
use Rattle.zk_model.specs.Transcript.{Grant}
use Rattle.zk_model.specs.declared.Expect.{Expect}
use Rattle.zk_model.specs.declared.Expect.TheVariants as expect
use Rattle.zk_model.specs.declared.Kind.{Kind}
use Rattle.zk_model.specs.declared.Kind.TheVariants.{Direct, Extended}
use Rattle.zk_model.specs.declared.Params.{Params}
use Rattle.zk_model.specs.declared.limits.TheConstants.{MAX_HEIGHT, MAX_TREES, MAX_UNITS}
use Rattle.proof_frames.specs.Readings.{IsShortPlace}
use Rattle.session_script.specs.Scripts.{weight}
use Rattle.session_claim.specs.Claims.{Claim, IsVerdictPlace}
use Rattle.session_claim.specs.Script.{rounds_places, claim_places, claim_behind}

-- ---- one more

pub place_more : (f : ℕ → Expect) (front items now : List Expect) (i : ℕ) → items ≡ front ++ map f (range_with_len 0 i) → now ≡ items ++ f i ∷ []
    → now ≡ front ++ map f (range_with_len 0 (i + 1))
place_more f front items now i is pushed =
    pushed ∙ ap (λ l. l ++ f i ∷ []) is ∙ append_assoc front (map f (range_with_len 0 i)) (f i ∷ [])
    ∙ ap (λ l. front ++ l) (sym (map-range_with_len_more f 0 i i (omega arith)))

-- no round, or one
pub no_rounds : (params : Params) (given : Grant) (items : List Expect) → params.kind ≡ Direct → items ≡ items ++ rounds_places params given
no_rounds params given items is =
    sym (append-nil items) ∙ ap (λ (k : Kind). items ++ flat_map (λ n. round_places params given) (range_with_len 0 (rounds_of k))) (sym is)

pub one_round : (params : Params) (given : Grant) (front mid now : List Expect) → params.kind ≡ Extended
    → mid ≡ front ++ map (λ i. expect.Ask params.height params.trees (given.count - i)) (range_with_len 0 given.count)
    → now ≡ mid ++ map (λ i. expect.Reply params.height params.trees (given.count - i)) (range_with_len 0 given.count)
    → now ≡ front ++ rounds_places params given
one_round params given front mid now is asked replied =
    let asks = map (λ i. expect.Ask params.height params.trees (given.count - i)) (range_with_len 0 given.count) in
    let replies = map (λ i. expect.Reply params.height params.trees (given.count - i)) (range_with_len 0 given.count) in
    replied ∙ ap (λ l. l ++ replies) asked ∙ append_assoc front asks replies
    ∙ ap (λ l. front ++ l) (sym (append-nil (asks ++ replies)))
    ∙ ap (λ (k : Kind). front ++ flat_map (λ n. round_places params given) (range_with_len 0 (rounds_of k))) (sym is)

-- ---- how many

pub weight_on : (xs ys : List Expect) → weight (xs ++ ys) ≡ weight xs + weight ys
weight_on [] ys = omega arith
weight_on (x ∷ xs) ys = omega (arith, weight_on xs ys)

asks_weight : (height trees count : ℕ) (numbers : List ℕ) → weight (map (λ i. expect.Ask height trees (count - i)) numbers) ≡ length numbers
asks_weight height trees count [] = refl
asks_weight height trees count (i ∷ numbers) = omega (arith, asks_weight height trees count numbers)

replies_weight : (height trees count : ℕ) (numbers : List ℕ) → weight (map (λ i. expect.Reply height trees (count - i)) numbers) ≡ length numbers
replies_weight height trees count [] = refl
replies_weight height trees count (i ∷ numbers) = omega (arith, replies_weight height trees count numbers)

round_weight : (params : Params) (given : Grant) → weight (round_places params given) ≡ 2 * given.count
round_weight params given =
    let asks = map (λ i. expect.Ask params.height params.trees (given.count - i)) (range_with_len 0 given.count) in
    let replies = map (λ i. expect.Reply params.height params.trees (given.count - i)) (range_with_len 0 given.count) in
    omega (
      arith,
      weight_on asks replies,
      asks_weight params.height params.trees given.count (range_with_len 0 given.count),
      replies_weight params.height params.trees given.count (range_with_len 0 given.count),
      length-range_with_len 0 given.count,
    )

rounds_weight : (params : Params) (given : Grant) (kind : Kind)
    → weight (flat_map (λ n. round_places params given) (range_with_len 0 (rounds_of kind))) ≤ 2 * given.count
rounds_weight params given Direct = omega arith
rounds_weight params given Extended = omega (arith, weight_on (round_places params given) [], round_weight params given)

one_place : (place : Expect) → IsVerdictPlace place → weight (place ∷ []) ≡ 1
one_place expect.Verdict is = refl
one_place expect.PolyVerdict is = refl
one_place place is = absurd is

pub claim_few : (claim : Claim) (section_length : ℕ) → IsVerdictPlace claim.verdict → weight (claim.answers section_length) ≤ 2 ^ 20 → weight (claim_places claim section_length) ≤ 2 ^ 20 + 3
claim_few claim section_length verdict few = omega (arith, weight_on (claim.answers section_length) (claim.verdict ∷ []), one_place claim.verdict verdict, few)

pub behind_few : (params : Params) (claim : Claim) (given : Grant) → given.count ≤ MAX_UNITS
    → weight (claim_places claim given.section_length) ≤ 2 ^ 20 + 3 → weight (claim_behind params claim given) ≤ 2 ^ 24
behind_few params claim given count few =
    omega (arith, count, few, rounds_weight params given params.kind, weight_on (rounds_places params given) (claim_places claim given.section_length))

-- ---- short places

module _ (params : Params) (claim : Claim) (given : Grant) (ask : IsShortPlace (expect.Ask params.height params.trees 0))
    (reply : IsShortPlace (expect.Reply params.height params.trees 0)) where
  round_short : All IsShortPlace (round_places params given)
  round_short = All-append IsShortPlace (map (λ i. expect.Ask params.height params.trees (given.count - i)) (range_with_len 0 given.count))
      (map (λ i. expect.Reply params.height params.trees (given.count - i)) (range_with_len 0 given.count))
      (All-map IsShortPlace (λ i. expect.Ask params.height params.trees (given.count - i)) (range_with_len 0 given.count) (λ k d less. ask))
      (All-map IsShortPlace (λ i. expect.Reply params.height params.trees (given.count - i)) (range_with_len 0 given.count) (λ k d less. reply))

  rounds_short : (numbers : List ℕ) → All IsShortPlace (flat_map (λ n. round_places params given) numbers)
  rounds_short [] = All-nil IsShortPlace
  rounds_short (n ∷ numbers) = All-append IsShortPlace (round_places params given) (flat_map (λ n. round_places params given) numbers) round_short (rounds_short numbers)

  pub behind_short : All IsShortPlace (claim_places claim given.section_length) → All IsShortPlace (claim_behind params claim given)
  behind_short short = All-append IsShortPlace (rounds_places params given)
      (claim_places claim given.section_length) (rounds_short (range_with_len 0 (rounds_of params.kind))) short

-- a unit's trees are few and low
few_trees : (params : Params) (kind : Kind) → AreWithinLimits kind params → (params.trees ≤ MAX_TREES) × (params.height ≤ MAX_HEIGHT)
few_trees params Direct limits = (omega (arith, limits.1), omega (arith, limits.0))
few_trees params Extended limits = (limits.3, limits.1)

pub ask_short : (params : Params) (left : ℕ) → AreParams params → IsShortPlace (expect.Ask params.height params.trees left)
ask_short params left are =
    let few = few_trees params params.kind are.limits in
    let most : params.trees * (params.height + 8) ≤ 1024 * 24 = mul-le-mul {m₁ = params.height + 8} {m₂ = 24} few.0 (omega (arith, few.1)) in
    omega (arith, most)

pub reply_short : (params : Params) (left : ℕ) → AreParams params → IsShortPlace (expect.Reply params.height params.trees left)
reply_short params left are =
    let few = few_trees params params.kind are.limits in
    let most : params.trees * (32 * params.height + 8) ≤ 1024 * 520 = mul-le-mul {m₁ = 32 * params.height + 8} {m₂ = 520} few.0 (omega (arith, few.1)) in
    omega (arith, most)
