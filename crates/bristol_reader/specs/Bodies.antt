-- What the tokens of gates say.
use Rattle.std.specs.Prelude.{◌≡◌, ℕ, ◌+◌, ◌<◌, ◌≤◌, Bool, false, true, List, length}
use Rattle.zk_model.specs.Bristol.{IsText}
use Rattle.zk_model.specs.declared.GateRow.{GateRow}
use Rattle.bristol_reader.specs.declared.header.Header.{Header}
use Rattle.bristol_reader.specs.declared.fault.ReadError.{ReadError}
use Rattle.zk_model.specs.ArithFaults.{Place}
use Rattle.text_tokens.specs.Words.{place_of}
use Rattle.bristol_reader.specs.Circuits.{circuit_of}
use Rattle.bristol_reader.specs.Gates.{flag_of}
use Rattle.bristol_reader.specs.Headers.{TakesHeader}
use Rattle.bristol_reader.specs.Reads.{TextCause}

-- after the header of a text, this holds of the text
abbrev pub BehindHeader : Header → Place → (List ℕ → Type 0) → Type 0
BehindHeader header before P = (text : List ℕ) → TakesHeader (place_of text 0) before header → P text

-- the gates after the header of a text make this circuit
abbrev pub IsBody : Header → Place → List GateRow → Type 0
IsBody header before gates =
    BehindHeader header before (IsText (circuit_of header.wires header.inputs header.outputs gates))

-- why the text of this header is not read
abbrev pub BodyCause : Header → Place → ReadError → Type 0
BodyCause header before error = BehindHeader header before (λ text. TextCause text error)

-- only the inputs are set
pub record AreFirstFlags (flags : List Bool) (wires inputs : ℕ) : Type 0 where
  pub whole : length flags ≡ wires
  pub set : (wire : ℕ) → wire < wires → flag_of flags wire ≡ true → wire < inputs
  pub unset : (wire : ℕ) → wire < wires → flag_of flags wire ≡ false → inputs ≤ wire

-- by the flags, this is the first of the last wires, which are the outputs, that is not set
pub record IsUnsetOutput (flags : List Bool) (outputs wire : ℕ) : Type 0 where
  pub is_last : length flags ≤ wire + outputs
  pub within : wire < length flags
  pub unset : flag_of flags wire ≡ false
  pub before : (other : ℕ) → length flags ≤ other + outputs → other < wire
      → flag_of flags other ≡ true

-- by the flags, all outputs are set
abbrev pub AreOutputsSet : List Bool → ℕ → Type 0
AreOutputsSet flags outputs =
    (wire : ℕ) → length flags ≤ wire + outputs → wire < length flags → flag_of flags wire ≡ true
