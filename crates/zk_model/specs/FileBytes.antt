-- The bytes of dealt files. Numbers have their low byte first.
use Rattle.std.specs.Prelude.{ℕ, List, [], ◌∷◌, ◌++◌, flat_map, replicate, codes}
use Rattle.std.specs.Int.{w32, w64, to_le_bytes}
use Rattle.sha2.specs.Sha256.{sha256}
use Rattle.zk_model.specs.Bits.{from_bit}
use Rattle.zk_model.specs.Bytes.{LeftRight, element_bytes}
use Rattle.zk_model.specs.Mac.{Pair}
use Rattle.zk_model.specs.Files.{Transfer, ProverUnit, VerifierUnit, ProverFile, VerifierFile, unit_transfers, unit_pads}
use Rattle.zk_model.specs.declared.FileVersion.{FileVersion}
use Rattle.zk_model.specs.declared.FileVersion.TheVariants.{First, Second}
use Rattle.zk_model.specs.declared.Kind.{Kind}
use Rattle.zk_model.specs.declared.Kind.TheVariants.{Direct, Extended}
use Rattle.zk_model.specs.declared.Params.{Params}

-- the byte of a kind
abbrev pub kind_code : Kind → ℕ
kind_code Direct = 0
kind_code Extended = 1

-- what a file was made for, with zero bytes between: bytes 9 to 31
abbrev pub params_bytes : Params → List ℕ
params_bytes params =
    (kind_code params.kind ∷ params.height ∷ 0 ∷ [])
    ++ to_le_bytes w32 params.trees ++ to_le_bytes w32 params.base ++ replicate 4 0 ++ to_le_bytes w64 params.total

-- the magic word of a version
abbrev pub magic_word : FileVersion → List ℕ
magic_word First = codes "WQSFILE1"
magic_word Second = codes "WQSFILE2"

-- the first 128 bytes: the magic word, the side (0 the prover's, 1 the verifier's), what the file was made for, the id, the key
-- of this side's coins, and the seed of the code
abbrev pub header_bytes : FileVersion → ℕ → Params → List ℕ → List ℕ → List ℕ → List ℕ
header_bytes version side params id coin_key code_seed =
    magic_word version ++ (side ∷ []) ++ params_bytes params ++ id ++ coin_key ++ code_seed

-- a value and its MAC
abbrev pub pair_bytes : Pair → List ℕ
pair_bytes pair = element_bytes pair.x ++ element_bytes pair.m

-- the bit, and the pad that it names
abbrev pub transfer_bytes : Transfer → List ℕ
transfer_bytes transfer = from_bit transfer.bit ∷ transfer.pad

-- both pads
abbrev pub pads_bytes : LeftRight → List ℕ
pads_bytes pads = pads.left ++ pads.right

-- a block of the prover's file
abbrev pub prover_unit_bytes : ProverUnit → List ℕ
prover_unit_bytes unit = flat_map pair_bytes unit.pairs ++ flat_map transfer_bytes (unit_transfers unit)

-- a block of the verifier's file
abbrev pub verifier_unit_bytes : VerifierUnit → List ℕ
verifier_unit_bytes unit = flat_map element_bytes unit.keys ++ flat_map pads_bytes (unit_pads unit)

-- bytes, and their digest
abbrev pub sealed : List ℕ → List ℕ
sealed bytes = bytes ++ sha256 bytes

-- the prover's file: the header, a block for each unit, and the digest of all before it
abbrev pub prover_file_bytes : ProverFile → List ℕ
prover_file_bytes file =
    sealed (header_bytes file.version 0 file.params file.id file.coin_key file.code_seed ++ flat_map prover_unit_bytes file.units)

-- the verifier's file: the header, its one key, a block for each unit, and the digest of all before it
abbrev pub verifier_file_bytes : VerifierFile → List ℕ
verifier_file_bytes file =
    sealed (header_bytes file.version 1 file.params file.id file.coin_key file.code_seed ++ element_bytes file.key
    ++ flat_map verifier_unit_bytes file.units)
