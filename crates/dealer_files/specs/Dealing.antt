-- The two files that a dealer makes of a seed of 32 bytes: which words of its coins stand where.
use Rattle.std.specs.Prelude.{ℕ, ◌+◌, ◌*◌, ◌%◌, ◌==◌, nat_eq, nat_le, if◌then◌else◌, List, ◌++◌, map, replicate}
use Rattle.std.specs.List.{range_with_len}
use Rattle.std.specs.Int.{w64, to_le_bytes}
use Rattle.zk_model.specs.Field.{from_word}
use Rattle.zk_model.specs.Bytes.{LeftRight}
use Rattle.zk_model.specs.Coins.{coin_word, stream_bytes}
use Rattle.zk_model.specs.Mac.{Pair, fitting_key}
use Rattle.zk_model.specs.Extension.{choice_of}
use Rattle.zk_model.specs.Files.{Transfer, ProverUnit, VerifierUnit, ProverFile, VerifierFile, dealt_per_unit}
use Rattle.zk_model.specs.declared.FileVersion.{FileVersion}
use Rattle.zk_model.specs.declared.FileVersion.TheVariants.{First, Second}
use Rattle.zk_model.specs.declared.Kind.{Kind}
use Rattle.zk_model.specs.declared.Kind.TheVariants.{Direct, Extended}
use Rattle.zk_model.specs.declared.Params.{Params}
use Rattle.zk_model.specs.declared.limits.TheConstants.{MAX_DEALT_AS_FIRST}

-- words i and i + 1 of a stream, as 16 bytes
abbrev pub pad_at : List ℕ → ℕ → ℕ → List ℕ
pad_at seed stream i = to_le_bytes w64 (coin_word seed stream i) ++ to_le_bytes w64 (coin_word seed stream (i + 1))

-- an element as the verifier's one key, which is not 0
abbrev pub some_key : ℕ → ℕ
some_key element = if element == 0 then 1 else element

-- the verifier's one key
abbrev pub dealt_key : List ℕ → ℕ
dealt_key seed = some_key (from_word (coin_word seed 4 0))

-- the seed of the code, where there is one
abbrev pub dealt_code_seed : Kind → List ℕ → List ℕ
dealt_code_seed Direct seed = replicate 32 0
dealt_code_seed Extended seed = stream_bytes seed 3

-- correlation j of a unit
abbrev pub dealt_pair : List ℕ → ℕ → ℕ → Pair
dealt_pair seed unit j = record {
  x = from_word (coin_word seed (16 + 2 * unit) (2 * j));
  m = from_word (coin_word seed (16 + 2 * unit) (2 * j + 1));
}

-- both pads of transfer i of a unit
abbrev pub dealt_pads : List ℕ → ℕ → ℕ → LeftRight
dealt_pads seed unit i =
    record { left = pad_at seed (17 + 2 * unit) (5 * i); right = pad_at seed (17 + 2 * unit) (5 * i + 2) }

-- the prover's half of transfer i of a unit
abbrev pub dealt_transfer : List ℕ → ℕ → ℕ → Transfer
dealt_transfer seed unit i =
    let bit = nat_eq (coin_word seed (17 + 2 * unit) (5 * i + 4) % 2) 1
    in record { bit = bit; pad = choice_of bit (dealt_pads seed unit i) }

-- what stands for each tree and level, by the number of its transfer
abbrev pub by_transfer : {A : Type 0} → Params → (ℕ → A) → List (List A)
by_transfer params item =
    map (λ tree. map (λ level. item (params.height * tree + level)) (range_with_len 0 params.height))
    (range_with_len 0 params.trees)

-- the pairs of a unit
abbrev pub dealt_pairs : Params → List ℕ → ℕ → List Pair
dealt_pairs params seed unit = map (dealt_pair seed unit) (range_with_len 0 (dealt_per_unit params))

-- the prover's block of a unit
abbrev pub dealt_prover_unit : Params → List ℕ → ℕ → ProverUnit
dealt_prover_unit params seed unit =
    record { pairs = dealt_pairs params seed unit; trees = by_transfer params (dealt_transfer seed unit) }

-- the verifier's block of a unit
abbrev pub dealt_verifier_unit : Params → List ℕ → ℕ → VerifierUnit
dealt_verifier_unit params seed unit = record {
  keys = map (fitting_key (dealt_key seed)) (dealt_pairs params seed unit);
  trees = by_transfer params (dealt_pads seed unit);
}

-- the version in which so many units are dealt
abbrev pub dealt_version : ℕ → FileVersion
dealt_version total = if nat_le total MAX_DEALT_AS_FIRST then First else Second

-- the prover's file
abbrev pub dealt_prover : Params → List ℕ → ProverFile
dealt_prover params seed = record {
  version = dealt_version params.total;
  id = stream_bytes seed 0;
  params = params;
  coin_key = stream_bytes seed 1;
  code_seed = dealt_code_seed params.kind seed;
  units = map (dealt_prover_unit params seed) (range_with_len 0 params.total);
}

-- the verifier's file
abbrev pub dealt_verifier : Params → List ℕ → VerifierFile
dealt_verifier params seed = record {
  version = dealt_version params.total;
  id = stream_bytes seed 0;
  params = params;
  coin_key = stream_bytes seed 2;
  code_seed = dealt_code_seed params.kind seed;
  key = dealt_key seed;
  units = map (dealt_verifier_unit params seed) (range_with_len 0 params.total);
}
