-- Which fault comes first where bytes are no dealt file.
use Rattle.std.specs.Prelude.{◌≡◌, ◌⊎◌, ℕ, List, length, take, drop, ⊤}
use Rattle.std.specs.Int.{w32, w64, to_le_bytes}
use Rattle.dealer_files.specs.FileFaults.{params_at, file_length, HasMagic, HasHeader, IsOfSide, HasParams, HasLength, IsInRange, IsFirstBadPlace, HasKey, HasDigest}
use Rattle.zk_model.specs.declared.Params.{Params}
use Rattle.zk_model.specs.declared.Side.{Side}
use Rattle.dealer_files.specs.declared.fault.FileFault.{FileFault}
use Rattle.dealer_files.specs.declared.fault.FileFault.TheVariants.{BadMagic, BadKind, BadParam, Length, BadElement, ZeroKey, BadDigest, NoMemory}

-- the numbers of more than one byte, as the header spells them
pub record SpellsNumbers (bytes : List ℕ) (params : Params) : Type 0 where
  pub trees : to_le_bytes w32 params.trees ≡ take 4 (drop 12 bytes)
  pub base : to_le_bytes w32 params.base ≡ take 4 (drop 16 bytes)
  pub total : to_le_bytes w64 params.total ≡ take 8 (drop 24 bytes)

-- a whole header of this side, whose numbers are within their limits
pub record HasHead (side : Side) (bytes : List ℕ) : Type 0 where
  pub magic : HasMagic bytes
  pub header : HasHeader bytes
  pub of_side : IsOfSide side bytes
  pub params : HasParams bytes

-- and as many bytes as it says
pub record HasBody (side : Side) (bytes : List ℕ) : Type 0 where
  pub head : HasHead side bytes
  pub length : HasLength side bytes

-- a dealt file: none of the faults applies
pub record IsDealtFile (side : Side) (bytes : List ℕ) : Type 0 where
  pub body : HasBody side bytes
  pub in_range : IsInRange side bytes
  pub key : HasKey side bytes
  pub digest : HasDigest bytes

-- this fault applies, and none that comes before it
abbrev pub IsFirstFileFault : Side → List ℕ → FileFault → Type 0
IsFirstFileFault side bytes BadMagic = ¬ HasMagic bytes
IsFirstFileFault side bytes BadKind = HasMagic bytes × HasHeader bytes × ¬ IsOfSide side bytes
IsFirstFileFault side bytes BadParam = HasMagic bytes × HasHeader bytes × IsOfSide side bytes × ¬ HasParams bytes
IsFirstFileFault side bytes (Length need got) = (got ≡ length bytes)
    × ((HasMagic bytes × ¬ HasHeader bytes × (need ≡ 128))
    ⊎ (HasHead side bytes × ¬ HasLength side bytes × (need ≡ file_length side (params_at bytes))))
IsFirstFileFault side bytes (BadElement place) = HasBody side bytes × IsFirstBadPlace side bytes place
IsFirstFileFault side bytes ZeroKey = HasBody side bytes × IsInRange side bytes × ¬ HasKey side bytes
IsFirstFileFault side bytes BadDigest =
    HasBody side bytes × IsInRange side bytes × HasKey side bytes × ¬ HasDigest bytes
IsFirstFileFault side bytes NoMemory = ⊤
