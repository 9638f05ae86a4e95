-- Files whose units stand one after another in flat lists.
use Rattle.std.specs.Prelude.{◌≡◌, ℕ, ◌*◌, List, map, flat_map, length, take, drop}
use Rattle.std.specs.List.{range_with_len}
use Rattle.zk_model.specs.Bytes.{LeftRight}
use Rattle.zk_model.specs.Mac.{Pair}
use Rattle.zk_model.specs.Files.{Transfer, ProverUnit, VerifierUnit, ProverFile, VerifierFile, dealt_per_unit}
use Rattle.zk_model.specs.declared.FileVersion.{FileVersion}
use Rattle.zk_model.specs.declared.Params.{Params}
use Rattle.dealer_files.specs.declared.head.Head.{Head}

-- the piece of this number of a list that is cut into pieces of one size
abbrev pub piece : {A : Type 0} → ℕ → List A → ℕ → List A
piece size items i = take size (drop (size * i) items)

-- so many transfers has a unit
abbrev pub transfers_per_unit : Params → ℕ
transfers_per_unit params = params.trees * params.height

-- what stands for each transfer of all units, by the numbers of its unit and of its place there
abbrev pub unit_by_unit : {A : Type 0} → Params → (ℕ → ℕ → A) → List A
unit_by_unit params item =
    flat_map (λ unit. map (item unit) (range_with_len 0 (transfers_per_unit params)))
    (range_with_len 0 params.total)

-- the transfers of a unit, tree by tree
abbrev pub trees_of : {A : Type 0} → Params → List A → ℕ → List (List A)
trees_of params items unit =
    map (piece params.height (piece (transfers_per_unit params) items unit)) (range_with_len 0 params.trees)

-- the prover's block of a unit
abbrev pub flat_prover_unit : Params → List Pair → List Transfer → ℕ → ProverUnit
flat_prover_unit params pairs transfers unit =
    record { pairs = piece (dealt_per_unit params) pairs unit; trees = trees_of params transfers unit }

-- the verifier's block of a unit
abbrev pub flat_verifier_unit : Params → List ℕ → List LeftRight → ℕ → VerifierUnit
flat_verifier_unit params keys pads unit =
    record { keys = piece (dealt_per_unit params) keys unit; trees = trees_of params pads unit }

-- the prover's file
abbrev pub flat_prover : FileVersion → Params → List ℕ → List ℕ → List ℕ → List Pair → List Transfer → ProverFile
flat_prover version params id coin_key code_seed pairs transfers = record {
  version = version;
  id = id;
  params = params;
  coin_key = coin_key;
  code_seed = code_seed;
  units = map (flat_prover_unit params pairs transfers) (range_with_len 0 params.total);
}

-- the verifier's file
abbrev pub flat_verifier : FileVersion → Params → List ℕ → List ℕ → List ℕ → ℕ → List ℕ → List LeftRight → VerifierFile
flat_verifier version params id coin_key code_seed key keys pads = record {
  version = version;
  id = id;
  params = params;
  coin_key = coin_key;
  code_seed = code_seed;
  key = key;
  units = map (flat_verifier_unit params keys pads) (range_with_len 0 params.total);
}

-- lists that hold what is dealt in all units, and both pads or one of each transfer
pub record AreWhole {A B : Type 0} (params : Params) (items : List A) (others : List B) : Type 0 where
  pub dealt : length items ≡ dealt_per_unit params * params.total
  pub transfers : length others ≡ transfers_per_unit params * params.total

-- the files of these headers
abbrev pub prover_of_parts : Head → List Pair → List Transfer → ProverFile
prover_of_parts head pairs transfers = flat_prover head.version head.params head.id head.coin_key head.code_seed pairs transfers

abbrev pub verifier_of_parts : Head → ℕ → List ℕ → List LeftRight → VerifierFile
verifier_of_parts head key keys pads = flat_verifier head.version head.params head.id head.coin_key head.code_seed key keys pads
