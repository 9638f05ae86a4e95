-- What the tokens of a header say.
use Rattle.std.specs.Prelude.{◌≡◌, ℕ, ◌-◌, ◌<◌, ◌≤◌, List, [], ◌∷◌, map, length, sum}
use Rattle.zk_model.specs.Bristol.{Lexeme, number, Values, counted_lexemes, header_lexemes}
use Rattle.bristol_reader.specs.TextFaults.{Want, a_count, a_size}
use Rattle.bristol_reader.specs.declared.header.Header.{Header}
use Rattle.zk_model.specs.ArithFaults.{Place}
use Rattle.text_tokens.specs.Words.{Takes}
use Rattle.zk_model.specs.declared.limits.TheConstants.{MAX_GATES, MAX_VALUES, MAX_WIRES}

-- what a list of values wants after these of its tokens, which are all right: their number, or a size
pub data ListWants (wires : ℕ) (part : List Lexeme) (want : Want) : Type 0 where
  the_number : part ≡ [] → want ≡ a_count MAX_VALUES → ListWants wires part want
  one_size : (values : ℕ) (sizes : List ℕ) → values ≤ MAX_VALUES → sum sizes ≤ wires
      → length sizes < values → part ≡ number values ∷ map number sizes
      → want ≡ a_size (wires - sum sizes) → ListWants wires part want

-- a list of values, which have so many wires in all
pub record TakesList (before after : Place) (total : ℕ) : Type 0 where
  pub sizes : List ℕ
  pub few : length sizes ≤ MAX_VALUES
  pub total_is : sum sizes ≡ total
  pub takes : Takes (counted_lexemes sizes) before after

-- a header's counts: within the limits, and no more input wires or output wires than wires
pub record IsHeader (header : Header) (values : Values) : Type 0 where
  pub gates : header.gates ≤ MAX_GATES
  pub wires : header.wires ≤ MAX_WIRES
  pub input_values : length values.inputs ≤ MAX_VALUES
  pub output_values : length values.outputs ≤ MAX_VALUES
  pub inputs : sum values.inputs ≡ header.inputs
  pub outputs : sum values.outputs ≡ header.outputs
  pub inputs_within : header.inputs ≤ header.wires
  pub outputs_within : header.outputs ≤ header.wires

-- a header, for some values
pub record TakesHeader (before after : Place) (header : Header) : Type 0 where
  pub values : Values
  pub is : IsHeader header values
  pub takes : Takes (header_lexemes header.gates header.wires values) before after
