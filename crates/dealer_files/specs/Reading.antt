-- What is read of a file's blocks.
use Rattle.std.specs.Prelude.{◌≡◌, ℕ, ◌+◌, ◌*◌, ◌<◌, ◌≤◌, List, ◌++◌, length, flat_map, take, drop, slice_index, All, ⊤}
use Rattle.zk_model.specs.Field.{prime, IsElement}
use Rattle.zk_model.specs.Bytes.{LeftRight, AreBytes, AreBothBytes, element_bytes}
use Rattle.zk_model.specs.Mac.{Pair}
use Rattle.zk_model.specs.Files.{Transfer, dealt_per_unit}
use Rattle.zk_model.specs.FileBytes.{pair_bytes, transfer_bytes, pads_bytes}
use Rattle.dealer_files.specs.FileFaults.{word64_at, block_length, block_start, elements_per_unit}
use Rattle.zk_model.specs.declared.Params.{Params}
use Rattle.zk_model.specs.declared.Side.{Side}
use Rattle.zk_model.specs.declared.Side.TheVariants.{Prover, Verifier}
use Rattle.dealer_files.specs.Flat.{piece, transfers_per_unit}
use Rattle.dealer_files.specs.declared.fault.FileFault.{FileFault}
use Rattle.dealer_files.specs.declared.fault.FileFault.TheVariants.{BadElement, NoMemory}

-- how an item is spelled, in how many bytes, and what holds of it
pub record Spelled (A : Type 0) : Type 1 where
  pub spell : A → List ℕ
  pub size : ℕ
  pub Holds : A → Type 0

abbrev pub a_pair : Spelled Pair
a_pair = record { spell = pair_bytes; size = 16; Holds = λ pair. IsElement pair.x × IsElement pair.m }

abbrev pub an_element : Spelled ℕ
an_element = record { spell = element_bytes; size = 8; Holds = IsElement }

abbrev pub a_transfer : Spelled Transfer
a_transfer = record { spell = transfer_bytes; size = 17; Holds = λ transfer. AreBytes 16 transfer.pad }

abbrev pub both_pads : Spelled LeftRight
both_pads = record { spell = pads_bytes; size = 32; Holds = AreBothBytes 16 }

-- so many items are appended that spell the bytes from a place on
pub record AreAppended {A : Type 0}
    (form : Spelled A)
    (before now : List A)
    (count : ℕ)
    (bytes : List ℕ)
    (place : ℕ) : Type 0 where
  pub items : List A
  pub whole : now ≡ before ++ items
  pub counted : length items ≡ count
  pub spelled : flat_map form.spell items ≡ take (form.size * count) (drop place bytes)
  pub hold : All form.Holds items

-- the first so many elements from a place on are below the prime
abbrev pub AreElementsFrom : List ℕ → ℕ → ℕ → Type 0
AreElementsFrom bytes place count = (i : ℕ) → i < count → word64_at bytes (place + 8 * i) < prime

-- and the bits of the first so many transfers are 0 or 1
abbrev pub AreBits : List ℕ → ℕ → ℕ → Type 0
AreBits bytes place count = (i : ℕ) → i < count → slice_index bytes (place + 17 * i) ≤ 1

-- the first element that is the prime or more, or the first bit above 1
pub record IsElementFault (bytes : List ℕ) (place count fault : ℕ) : Type 0 where
  pub number : ℕ
  pub within : number < count
  pub stands : fault ≡ place + 8 * number
  pub bad : prime ≤ word64_at bytes fault
  pub before : AreElementsFrom bytes place number

pub record IsBitFault (bytes : List ℕ) (place count fault : ℕ) : Type 0 where
  pub number : ℕ
  pub within : number < count
  pub stands : fault ≡ place + 17 * number
  pub bad : 1 < slice_index bytes fault
  pub before : AreBits bytes place number

-- what may come of reading elements, and of reading transfers
abbrev pub IsElementFaultOr : List ℕ → ℕ → ℕ → FileFault → Type 0
IsElementFaultOr bytes place count (BadElement fault) = IsElementFault bytes place count fault
IsElementFaultOr bytes place count NoMemory = ⊤
IsElementFaultOr bytes place count other = ⊥

abbrev pub IsBitFaultOr : List ℕ → ℕ → ℕ → FileFault → Type 0
IsBitFaultOr bytes place count (BadElement fault) = IsBitFault bytes place count fault
IsBitFaultOr bytes place count NoMemory = ⊤
IsBitFaultOr bytes place count other = ⊥

-- the elements and bits of a unit are in range
abbrev pub IsUnitInRange : Side → Params → List ℕ → ℕ → Type 0
IsUnitInRange Prover params bytes unit =
    AreElementsFrom bytes (block_start Prover params unit) (elements_per_unit Prover params)
    × AreBits bytes (block_start Prover params unit + 16 * dealt_per_unit params) (transfers_per_unit params)
IsUnitInRange Verifier params bytes unit =
    AreElementsFrom bytes (block_start Verifier params unit) (elements_per_unit Verifier params)

-- the flat lists of the first n units spell their blocks
pub record AreBlocks {A B : Type 0}
    (form : Spelled A)
    (other : Spelled B)
    (side : Side)
    (params : Params)
    (bytes : List ℕ)
    (n : ℕ)
    (items : List A)
    (others : List B) : Type 0 where
  pub dealt : length items ≡ dealt_per_unit params * n
  pub transfers : length others ≡ transfers_per_unit params * n
  pub spelled : (unit : ℕ) → unit < n →
      flat_map form.spell (piece (dealt_per_unit params) items unit)
      ++ flat_map other.spell (piece (transfers_per_unit params) others unit)
      ≡ take (block_length side params) (drop (block_start side params unit) bytes)
  pub hold : All form.Holds items
  pub hold_other : All other.Holds others
  pub in_range : (unit : ℕ) → unit < n → IsUnitInRange side params bytes unit
