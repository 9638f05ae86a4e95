-- Dealt files are a pair.
use Rattle.std.proofs.Common.{◌≡◌, ◌≢◌, ℕ, zero, suc, ◌+◌, ◌*◌, List, [], ◌∷◌, if◌then◌else◌, map, refl, sym, ◌∙◌, ap, arith}
use Rattle.std.proofs.Math.Dec.{eqb-suc-zero}
use Rattle.std.specs.List.{range_with_len, AllZip}
use Rattle.zk_model.specs.Bytes.{LeftRight}
use Rattle.zk_model.specs.Field.{from_word}
use Rattle.zk_model.specs.Coins.{coin_word}
use Rattle.zk_model.specs.Extension.{choice_of}
use Rattle.zk_model.specs.Files.{Transfer, UnitsMatch, AreDealt}
use Rattle.dealer_files.specs.Dealing.{some_key, dealt_key, dealt_pads, dealt_transfer, dealt_prover, dealt_verifier, dealt_prover_unit, dealt_verifier_unit}
use Rattle.zk_model.specs.declared.Params.{Params}

-- a key is not 0
pub some_key_set : (element : ℕ) → some_key element ≢ 0
some_key_set zero none = absurd (omega (arith, none))
some_key_set (suc element) none =
    let itself : suc element ≡ 0 = sym (ap (λ is_zero. if is_zero then 1 else suc element) (eqb-suc-zero element)) ∙ none in
    absurd (omega (arith, itself))

-- two lists that are made of the same numbers
all_zip_map : {A B X : Type 0} (R : A → B → Type 0) (f : X → A) (g : X → B) (items : List X)
    → ((item : X) → R (f item) (g item)) → AllZip R (map f items) (map g items)
all_zip_map R f g [] each = tt
all_zip_map R f g (item ∷ items) each = (each item, all_zip_map R f g items each)

-- the two files that a seed gives
pub are_dealt : (params : Params) (seed : List ℕ) → AreDealt (dealt_prover params seed) (dealt_verifier params seed)
are_dealt params seed = record {
  id = refl;
  params = refl;
  code_seed = refl;
  key = some_key_set (from_word (coin_word seed 4 0));
  units = all_zip_map (UnitsMatch (dealt_key seed)) (dealt_prover_unit params seed) (dealt_verifier_unit params seed)
      (range_with_len 0 params.total) (λ unit. record { keys = refl; pads = pads unit });
}
  where
    Named : Transfer → LeftRight → Type 0
    Named transfer both = transfer.pad ≡ choice_of transfer.bit both

    pads : (unit : ℕ) → AllZip (AllZip Named) (dealt_prover_unit params seed unit).trees (dealt_verifier_unit params seed unit).trees
    pads unit = all_zip_map (AllZip Named)
        (λ tree. map (λ level. dealt_transfer seed unit (params.height * tree + level)) (range_with_len 0 params.height))
        (λ tree. map (λ level. dealt_pads seed unit (params.height * tree + level)) (range_with_len 0 params.height))
        (range_with_len 0 params.trees)
        (λ tree. all_zip_map Named (λ level. dealt_transfer seed unit (params.height * tree + level))
        (λ level. dealt_pads seed unit (params.height * tree + level)) (range_with_len 0 params.height) (λ level. refl))
