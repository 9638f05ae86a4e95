-- What the prover asks for a tree, and what it then finds of it.
use Rattle.std.proofs.Common.{◌≡◌, ℕ, ◌<◌, ◌^◌, Bool, not, List, length, map, zip, sym, ◌∙◌, ap, subst}
use Rattle.std.proofs.lemmas.List.FromFn.{length-map-range_with_len}
use Rattle.mersenne_field.proofs.FieldLaws.{plus-minus, reduced}
use Rattle.zk_model.specs.Field.{◌-ₚ◌}
use Rattle.zk_model.specs.Mac.{Pair, corrected_pair}
use Rattle.zk_model.specs.Tree.{path_to, IsPunctured}
use Rattle.zk_model.specs.Extension.{flip_for, noise_vector}
use Rattle.zk_model.specs.Files.{Transfer}
use Rattle.zk_model.specs.Transcript.{TreeReply}
use Rattle.zk_model.specs.Correlations.{LevelView, chosen_sum, hidden_place, IsNoiseOf}
use Rattle.zk_model.specs.HonestProver.{place_coin, noise_coin}
use Rattle.sparse_vole.specs.Noise.{IsNoise}
use Rattle.vole_extend.specs.Levels.{asked_flips, chosen_sums}
use Rattle.vole_extend.specs.Rounds.{ProverTurn, tree_transfers, tree_base, tree_ask, asked_view}
use Rattle.vole_extend.proofs.Sides.{IsAsked, flips_are, levels_of, hidden_is, sums_are}

-- what was read of the file for a tree
pub record IsOfTree (turn : ProverTurn) (tree place noise : ℕ) (transfers : List Transfer) (base : Pair) : Type 0 where
  pub placed : place ≡ place_coin turn.file turn.unit tree
  pub inside : place < 2 ^ turn.file.params.height
  pub chosen : noise ≡ noise_coin turn.file turn.unit tree
  pub dealt : transfers ≡ tree_transfers turn tree
  pub count : length transfers ≡ turn.file.params.height
  pub based : base ≡ tree_base turn tree

pub of_tree : {turn : ProverTurn} {tree place noise : ℕ} {transfers : List Transfer} {base : Pair} → place ≡ place_coin turn.file turn.unit tree
    → place < 2 ^ turn.file.params.height → noise ≡ noise_coin turn.file turn.unit tree → transfers ≡ tree_transfers turn tree
    → length transfers ≡ turn.file.params.height → base ≡ tree_base turn tree → IsOfTree turn tree place noise transfers base
of_tree placed inside chosen dealt count based =
    record { placed = placed; inside = inside; chosen = chosen; dealt = dealt; count = count; based = based }

-- the flip of a level, from the side of the path and the transfer there
abbrev flip_of : Bool × Transfer → Bool
flip_of q = flip_for q.1.bit (not q.0)

-- it makes the ask
pub ask_is : (turn : ProverTurn) (tree place noise correction : ℕ) (transfers : List Transfer) (base : Pair) (flips : List Bool)
    → IsOfTree turn tree place noise transfers base → flips ≡ asked_flips place transfers → correction ≡ noise -ₚ base.x
    → record { flips = flips; base_correction = correction } ≡ tree_ask turn tree
ask_is turn tree place noise correction transfers base flips is asked corrects = λ i. record {
  flips = same_flips i;
  base_correction = (corrects ∙ (λ j. is.chosen j -ₚ (is.based j).x)) i;
}
  where
    same_flips : flips ≡ (tree_ask turn tree).flips
    same_flips = asked ∙ flips_are turn.file.params.height place transfers is.count
        ∙ (λ i. map flip_of (zip (path_to turn.file.params.height (is.placed i)) (is.dealt i)))

-- and the ask hides the place
asked : (turn : ProverTurn) (tree place noise : ℕ) (transfers : List Transfer) (base : Pair)
    → IsOfTree turn tree place noise transfers base
    → IsAsked turn.file.params.height place (tree_transfers turn tree) (tree_ask turn tree)
asked turn tree place noise transfers base is = record {
  count = count;
  inside = is.inside;
  flips = ap (λ p. map flip_of (zip (path_to turn.file.params.height p) (tree_transfers turn tree))) (sym is.placed)
      ∙ sym (flips_are turn.file.params.height place (tree_transfers turn tree) count);
}
  where
    count : length (tree_transfers turn tree) ≡ turn.file.params.height
    count = ap length (sym is.dealt) ∙ is.count

-- what was found of a tree, from its reply
pub record IsFound (turn : ProverTurn) (place noise height mac offset : ℕ) (transfers : List Transfer) (base : Pair) (reply : TreeReply)
    (sums : List (List ℕ)) (known leaves : List ℕ) (entries : List Pair) : Type 0 where
  pub tall : height ≡ turn.file.params.height
  pub unmasked : sums ≡ chosen_sums place transfers reply.messages
  pub punctured : IsPunctured height place sums leaves
  pub read : known ≡ leaves
  pub mac_is : mac ≡ base.m
  pub offset_is : offset ≡ reply.leaf_offset
  pub noisy : IsNoise place noise mac offset known entries

-- it is the noise of the view
pub noise_is : (turn : ProverTurn) (tree place noise height mac offset : ℕ) (transfers : List Transfer) (base : Pair) (reply : TreeReply)
    (sums : List (List ℕ)) (known leaves : List ℕ) (entries : List Pair) → IsOfTree turn tree place noise transfers base
    → IsFound turn place noise height mac offset transfers base reply sums known leaves entries
    → IsNoiseOf (asked_view turn tree reply) entries
noise_is turn tree place noise height mac offset transfers base reply sums known leaves entries is found = (
  leaves,
  punctured,
  found.noisy (tree_base turn tree) (tree_ask turn tree).base_correction corrected
      ∙ (λ i. noise_vector (hides i) (tree_base turn tree) (tree_ask turn tree).base_correction (found.offset_is i) (found.read i)),
)
  where
    levels : List LevelView
    levels = levels_of turn.file.params.height (tree_transfers turn tree) (tree_ask turn tree) reply

    hides : place ≡ hidden_place levels
    hides = sym (hidden_is turn.file.params.height place (tree_transfers turn tree) (tree_ask turn tree) reply
        (asked turn tree place noise transfers base is))

    tall : height ≡ length levels
    tall = found.tall ∙ sym (length-map-range_with_len _ 0 turn.file.params.height)

    chosen : sums ≡ map chosen_sum levels
    chosen = found.unmasked ∙ ap (λ dealt. chosen_sums place dealt reply.messages) is.dealt
        ∙ sym (sums_are turn.file.params.height place (tree_transfers turn tree) (tree_ask turn tree) reply
        (asked turn tree place noise transfers base is))

    punctured : IsPunctured (length levels) (hidden_place levels) (map chosen_sum levels) leaves
    punctured = subst (λ (s : List (List ℕ)). IsPunctured (length levels) (hidden_place levels) s leaves) chosen
        (subst (λ (p : ℕ). IsPunctured (length levels) p sums leaves) hides
        (subst (λ (h : ℕ). IsPunctured h place sums leaves) tall found.punctured))

    corrected : corrected_pair (tree_base turn tree) (tree_ask turn tree).base_correction ≡ record { x = noise; m = mac }
    corrected = λ i. record {
      x = (plus-minus (noise_coin turn.file turn.unit tree) (tree_base turn tree).x (reduced _) ∙ sym is.chosen) i;
      m = sym (found.mac_is ∙ ap (λ (pair : Pair). pair.m) is.based) i;
    }
