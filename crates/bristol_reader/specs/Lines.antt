-- Lines of gates that are read at once.
use Rattle.std.specs.Prelude.{◌≡◌, ℕ, ◌+◌, ◌^◌, ◌<◌, ◌≤◌, Bool, false, List, [], ◌∷◌, ◌++◌, length, All}
use Rattle.zk_model.specs.Bristol.{number, name, is_blank, lexeme}
use Rattle.bristol_reader.specs.declared.lines.PairLine.{PairLine}
use Rattle.bristol_reader.specs.declared.lines.SingleLine.{SingleLine}
use Rattle.zk_model.specs.ArithFaults.{Place}
use Rattle.text_tokens.specs.Words.{Takes, left_of}
use Rattle.bristol_reader.specs.Wants.{IsPlaced, numbers_of, pair_text, single_text}

-- the first token of a text is this name, and this is the text after it
pub record StartsName (text of behind : List ℕ) : Type 0 where
  pub shorter : length behind < length text
  pub left : left_of text ≡ name of ∷ left_of behind

-- its first two are the numbers of inputs and of outputs of a gate, with two inputs or one
pub record StartsGate (text : List ℕ) (is_pair : Bool) (behind : List ℕ) : Type 0 where
  pub shorter : length behind + 2 ≤ length text
  pub left : left_of text ≡ numbers_of is_pair ++ left_of behind

-- the same at a place, and this is the text after both
pub record IsGateAt (at : Place) (is_pair : Bool) (behind : List ℕ) : Type 0 where
  pub fits : at.taken + 2 + length behind < 2 ^ 64
  pub left : at.left ≡ numbers_of is_pair ++ left_of behind

-- bytes that are one token, and a name
pub record IsWord (word : List ℕ) : Type 0 where
  pub some : 0 < length word
  pub unbroken : All (λ byte. is_blank byte ≡ false) word
  pub is_name : lexeme word ≡ name word

-- the tokens of a gate with two inputs, all of them
pub record IsPairLine (before after : Place) (line : PairLine) : Type 0 where
  pub takes : Takes (number 2 ∷ number 1 ∷ number line.a.number ∷ number line.b.number ∷ number line.out.number ∷ name (pair_text line.name) ∷ [])
      before after
  pub a : IsPlaced line.a line.a.number (before.taken + 2)
  pub b : IsPlaced line.b line.b.number (before.taken + 3)
  pub out : IsPlaced line.out line.out.number (before.taken + 4)

-- those of a gate with one input
pub record IsSingleLine (before after : Place) (line : SingleLine) : Type 0 where
  pub takes : Takes (number 1 ∷ number 1 ∷ number line.input.number ∷ number line.out.number ∷ name (single_text line.name) ∷ [])
      before after
  pub input : IsPlaced line.input line.input.number (before.taken + 2)
  pub out : IsPlaced line.out line.out.number (before.taken + 3)
