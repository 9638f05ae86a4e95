-- Which bytes are a dealt file. Numbers have their low byte first.
use Rattle.std.specs.Prelude.{◌≡◌, ◌≢◌, ℕ, zero, suc, ◌+◌, ◌-◌, ◌*◌, ◌<◌, ◌≤◌, ◌⊎◌, ◌==◌, nat_eq, if◌then◌else◌, List, length, take, drop, slice_index, replicate, ⊤}
use Rattle.std.specs.Int.{w32, w64, from_le_bytes}
use Rattle.sha2.specs.Sha256.{sha256}
use Rattle.zk_model.specs.Field.{prime}
use Rattle.zk_model.specs.Files.{AreParams, IsCodeSeed, dealt_per_unit, most_units}
use Rattle.zk_model.specs.FileBytes.{magic_word}
use Rattle.zk_model.specs.declared.FileVersion.{FileVersion}
use Rattle.zk_model.specs.declared.FileVersion.TheVariants.{First, Second}
use Rattle.zk_model.specs.declared.Kind.{Kind}
use Rattle.zk_model.specs.declared.Kind.TheVariants.{Direct, Extended}
use Rattle.zk_model.specs.declared.Params.{Params}
use Rattle.zk_model.specs.declared.Side.{Side}
use Rattle.zk_model.specs.declared.Side.TheVariants.{Prover, Verifier}

-- ---- what a header says

-- the byte of a side
abbrev pub side_code : Side → ℕ
side_code Prover = 0
side_code Verifier = 1

-- the version that the eighth byte of a magic word names, `2` the second
abbrev pub version_at : List ℕ → FileVersion
version_at bytes = if slice_index bytes 7 == 50 then Second else First

-- the kind of a byte
abbrev pub kind_of : ℕ → Kind
kind_of zero = Direct
kind_of (suc n) = Extended

-- the number that 4 bytes from a place on say, and that 8 bytes say
abbrev pub word32_at : List ℕ → ℕ → ℕ
word32_at bytes place = from_le_bytes w32 (take 4 (drop place bytes))

abbrev pub word64_at : List ℕ → ℕ → ℕ
word64_at bytes place = from_le_bytes w64 (take 8 (drop place bytes))

-- what a file was made for, as its bytes 9 to 31 say
abbrev pub params_at : List ℕ → Params
params_at bytes = record {
  kind = kind_of (slice_index bytes 9);
  height = slice_index bytes 10;
  trees = word32_at bytes 12;
  base = word32_at bytes 16;
  total = word64_at bytes 24;
}

-- ---- where what stands

-- the bytes of a unit's block
abbrev pub block_length : Side → Params → ℕ
block_length Prover params = 16 * dealt_per_unit params + 17 * (params.trees * params.height)
block_length Verifier params = 8 * dealt_per_unit params + 32 * (params.trees * params.height)

-- where the first block starts: after the header, and at the verifier after its key
abbrev pub blocks_start : Side → ℕ
blocks_start Prover = 128
blocks_start Verifier = 136

-- where the block of a unit starts
abbrev pub block_start : Side → Params → ℕ → ℕ
block_start side params unit = blocks_start side + block_length side params * unit

-- the header, the blocks, and a digest of 32 bytes
abbrev pub file_length : Side → Params → ℕ
file_length side params = block_start side params params.total + 32

-- how many elements the block of a unit starts with
abbrev pub elements_per_unit : Side → Params → ℕ
elements_per_unit Prover params = 2 * dealt_per_unit params
elements_per_unit Verifier params = dealt_per_unit params

-- an element of a unit begins at this place
pub record IsUnitElement (side : Side) (params : Params) (place : ℕ) : Type 0 where
  pub unit : ℕ
  pub number : ℕ
  pub unit_within : unit < params.total
  pub number_within : number < elements_per_unit side params
  pub stands : place ≡ block_start side params unit + 8 * number

-- an element begins at this place: one of a unit, or the verifier's key
abbrev pub IsElementPlace : Side → Params → ℕ → Type 0
IsElementPlace Prover params place = IsUnitElement Prover params place
IsElementPlace Verifier params place = (place ≡ 128) ⊎ IsUnitElement Verifier params place

-- the bit of a prover's transfer stands at this place
pub record IsTransferBit (params : Params) (place : ℕ) : Type 0 where
  pub unit : ℕ
  pub number : ℕ
  pub unit_within : unit < params.total
  pub number_within : number < params.trees * params.height
  pub stands : place ≡ block_start Prover params unit + 16 * dealt_per_unit params + 17 * number

abbrev pub IsBitPlace : Side → Params → ℕ → Type 0
IsBitPlace Prover params place = IsTransferBit params place
IsBitPlace Verifier params place = ⊥

-- an element at this place is the prime or more, or a bit is above 1
abbrev pub IsBadPlace : Side → List ℕ → ℕ → Type 0
IsBadPlace side bytes place =
    (IsElementPlace side (params_at bytes) place × (prime ≤ word64_at bytes place))
    ⊎ (IsBitPlace side (params_at bytes) place × (1 < slice_index bytes place))

-- the first such place
pub record IsFirstBadPlace (side : Side) (bytes : List ℕ) (place : ℕ) : Type 0 where
  pub bad : IsBadPlace side bytes place
  pub first : (other : ℕ) → other < place → ¬ IsBadPlace side bytes other

-- ---- the conditions that a file meets, in the order in which faults come

-- it begins with the magic word of a version
abbrev pub HasMagic : List ℕ → Type 0
HasMagic bytes = take 8 bytes ≡ magic_word (version_at bytes)

-- it has a whole header
abbrev pub HasHeader : List ℕ → Type 0
HasHeader bytes = 128 ≤ length bytes

-- it is this side's, and of one of the two kinds
pub record IsOfSide (side : Side) (bytes : List ℕ) : Type 0 where
  pub code : slice_index bytes 8 ≡ side_code side
  pub kind : slice_index bytes 9 ≤ 1

-- the numbers and the seed of the code are within their limits, and zero bytes stand between
pub record HasParams (bytes : List ℕ) : Type 0 where
  pub gap : slice_index bytes 11 ≡ 0
  pub gaps : take 4 (drop 20 bytes) ≡ replicate 4 0
  pub params : AreParams (params_at bytes)
  pub most : (params_at bytes).total ≤ most_units (version_at bytes)
  pub code_seed : IsCodeSeed (params_at bytes).kind (take 32 (drop 96 bytes))

-- it is as long as its header says
abbrev pub HasLength : Side → List ℕ → Type 0
HasLength side bytes = length bytes ≡ file_length side (params_at bytes)

-- elements and bits are in range
abbrev pub IsInRange : Side → List ℕ → Type 0
IsInRange side bytes = (place : ℕ) → ¬ IsBadPlace side bytes place

-- the verifier's key is not 0
abbrev pub HasKey : Side → List ℕ → Type 0
HasKey Prover bytes = ⊤
HasKey Verifier bytes = word64_at bytes 128 ≢ 0

-- the last 32 bytes are the digest of all before them
abbrev pub HasDigest : List ℕ → Type 0
HasDigest bytes = drop (length bytes - 32) bytes ≡ sha256 (take (length bytes - 32) bytes)
