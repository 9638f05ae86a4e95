-- What the prover finds of trees after whatever was asked for them.
use Rattle.std.proofs.Common.{◌≡◌, ℕ, ◌+◌, ◌*◌, ◌<◌, Bool, true, false, not, List, [], ◌∷◌, ◌++◌, length, map, fold, take, refl, sym, ◌∙◌, ap, arith}
use Rattle.std.specs.Int.{from_bool}
use Rattle.std.specs.List.{range_with_len}
use Rattle.std.proofs.lemmas.Simd.{map-map}
use Rattle.std.proofs.lemmas.List.FromFn.{map-range_with_len_more}
use Rattle.tree_laws.proofs.Joined.{joined_parts}
use Rattle.zk_model.specs.Bits.{from_bit}
use Rattle.zk_model.specs.Mac.{Pair, values_of, macs_of}
use Rattle.zk_model.specs.Extension.{place_of, code_outputs}
use Rattle.zk_model.specs.Files.{Transfer, prover_unit}
use Rattle.zk_model.specs.Transcript.{TreeAsk, TreeReply}
use Rattle.zk_model.specs.Correlations.{LevelView, chosen_side, hidden_place, level_view, IsExtension}
use Rattle.vole_extend.specs.Levels.{flip_choice, flip_place}
use Rattle.vole_extend.specs.Rounds.{ProverTurn, IsNoiseOfAsked}
use Rattle.vole_extend.proofs.Sides.{levels_of}

-- ---- the place and the sums of a tree

-- a side as a digit
pub side_is : (side : Bool) → from_bool side ≡ from_bit side
side_is false = refl
side_is true = refl

-- it is below twice the bound
pub digit_fits : (bit : Bool) (n bound twice : ℕ) → n < bound → twice ≡ bound * 2 → 2 * n + from_bit bit < twice
digit_fits true n bound twice below is = omega (arith, below, is)
digit_fits false n bound twice below is = omega (arith, below, is)

-- one side more
pub place_more : (f : ℕ → Bool) (n place bit : ℕ) → place ≡ place_of (map f (range_with_len 0 n)) → bit ≡ from_bit (f n)
    → 2 * place + bit ≡ place_of (map f (range_with_len 0 (n + 1)))
place_more f n place bit far is =
    (λ i. 2 * far i + is i)
    ∙ sym (ap place_of (map-range_with_len_more f 0 n n (omega arith)) ∙ appended (map f (range_with_len 0 n)) (f n) 0)
  where
    appended : (sides : List Bool) (side : Bool) (from : ℕ)
        → fold (λ n side. 2 * n + from_bit side) from (sides ++ side ∷ []) ≡ 2 * fold (λ n side. 2 * n + from_bit side) from sides + from_bit side
    appended [] side from = refl
    appended (first ∷ sides) side from = appended sides side (2 * from + from_bit first)

-- the place is the one that the view hides
pub place_hidden : (h : ℕ) (transfers : List Transfer) (ask : TreeAsk) (reply : TreeReply) → length transfers ≡ h
    → flip_place transfers ask.flips ≡ hidden_place (levels_of h transfers ask reply)
place_hidden h transfers ask reply count =
    ap (λ n. place_of (map (λ level. not (flip_choice transfers ask.flips level)) (range_with_len 0 n))) count
    ∙ ap place_of (sym (map-map (λ (level : LevelView). not (chosen_side level)) (level_view transfers ask reply) (range_with_len 0 h)))

-- ---- pairs

-- outputs of the code over the noise of all trees are the pairs of the round
pub asked_extension : (turn : ProverTurn) (asks : List TreeAsk) (replies : List TreeReply) (noise pairs : List Pair)
    → IsNoiseOfAsked turn asks replies turn.file.params.trees noise
    → values_of pairs ≡ code_outputs turn.file.code_seed
    (values_of (take turn.file.params.base (prover_unit turn.file turn.unit).pairs)) (values_of noise)
    → macs_of pairs ≡ code_outputs turn.file.code_seed
    (macs_of (take turn.file.params.base (prover_unit turn.file turn.unit).pairs)) (macs_of noise)
    → IsExtension turn.file.params turn.file.code_seed (prover_unit turn.file turn.unit) (record { asks = asks; replies = replies }) pairs
asked_extension turn asks replies noise pairs noisy values macs = record {
  noise = noisy.noise;
  count = noisy.one_each;
  each = noisy.each;
  values = values ∙ ap (code_outputs turn.file.code_seed (values_of base))
      (ap values_of noisy.joined ∙ sym (joined_parts (λ pair. pair.x) noisy.noise));
  macs = macs ∙ ap (code_outputs turn.file.code_seed (macs_of base))
      (ap macs_of noisy.joined ∙ sym (joined_parts (λ pair. pair.m) noisy.noise));
}
  where
    base : List Pair
    base = take turn.file.params.base (prover_unit turn.file turn.unit).pairs
