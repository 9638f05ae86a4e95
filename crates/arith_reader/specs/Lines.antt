-- Lines of gates that are read at once.
use Rattle.std.specs.Prelude.{◌≡◌, ℕ, ◌+◌, ◌^◌, ◌<◌, Bool, true, false, List, ◌∷◌, codes, length}
use Rattle.zk_model.specs.Bristol.{name}
use Rattle.zk_model.specs.ArithFaults.{Place}
use Rattle.zk_model.specs.declared.ArithRow.{ArithRow}
use Rattle.zk_model.specs.declared.ArithRow.TheVariants.{Add, Mul}
use Rattle.text_tokens.specs.Words.{left_of}
use Rattle.arith_reader.specs.Wants.{flag_of}
use Rattle.arith_reader.specs.declared.lines.PairName.{PairName}
use Rattle.arith_reader.specs.declared.lines.PairName.TheVariants as pair

-- the letters of a name
abbrev pub pair_text : PairName → List ℕ
pair_text pair.Add = codes "ADD"
pair_text pair.Mul = codes "MUL"

-- the gate of a name
abbrev pub pair_row : PairName → ℕ → ℕ → ℕ → ArithRow
pair_row pair.Add a b out = Add a b out
pair_row pair.Mul a b out = Mul a b out

-- the first token of a text is this name, and this is the text after it
pub record StartsName (text of behind : List ℕ) : Type 0 where
  pub shorter : length behind < length text
  pub left : left_of text ≡ name of ∷ left_of behind

-- the same at a place
pub record IsNameAt (at : Place) (of behind : List ℕ) : Type 0 where
  pub fits : at.taken + 1 + length behind < 2 ^ 64
  pub left : at.left ≡ name of ∷ left_of behind

-- by its flag, a wire is set
abbrev pub IsSet : List Bool → ℕ → Type 0
IsSet flags wire = (wire < length flags) × (flag_of flags wire ≡ true)

-- by its flag, a wire is one of those that there are, and is not set
abbrev pub IsFree : List Bool → ℕ → Type 0
IsFree flags wire = (wire < length flags) × (flag_of flags wire ≡ false)
