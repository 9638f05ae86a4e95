-- Claims of a circuit's outputs are a statement.
use Rattle.std.proofs.Common.{◌≡◌, List, [], ◌∷◌, map, length, refl, sym, ◌∙◌, ap, arith}
use Rattle.std.specs.Prelude.{Bool}
use Rattle.std.proofs.lemmas.List.{length-map}
use Rattle.std.proofs.lemmas.List.Elements.{All-map}
use Rattle.std.proofs.lemmas.List.FromFn.{length-map-range_with_len}
use Rattle.sha2.specs.Sha256.{sha256}
use Rattle.sha2.proofs.Facts256.{length-sha256}
use Rattle.zk_model.specs.Bits.{from_bit, digits_of}
use Rattle.zk_model.specs.Field.{IsElement}
use Rattle.zk_model.specs.Circuit.{output_wire}
use Rattle.circuit_laws.specs.Circuits.{CircuitIsStatement}
use Rattle.zk_model.proofs.Octets.{sha256_octets}
use Rattle.circuit_laws.proofs.BitsSolve.{bit_element}
use Rattle.circuit_laws.proofs.CircuitIsProgram.{circuit_is_program}

-- no bits are written by the empty text
none_public : (public : List Bool) → map from_bit public ≡ [] → sha256 (digits_of public) ≡ sha256 []
none_public [] none = refl
none_public (bit ∷ public) none = absurd (omega (arith, ap length none))

pub circuit_is_statement : CircuitIsStatement
circuit_is_statement circuit digest public outputs formed named few counted = record {
  program = circuit_is_program (length public) circuit formed few;
  public_count = length-map public from_bit;
  public = All-map IsElement from_bit public (λ n d below. bit_element _);
  may_be_public = tt;
  claim_count = length-map outputs from_bit ∙ counted ∙ sym (length-map-range_with_len (output_wire circuit) 0 circuit.outputs);
  claims = All-map IsElement from_bit outputs (λ n d below. bit_element _);
  circuit = named;
  outputs = (length-sha256 (digits_of outputs), sha256_octets (digits_of outputs));
  public_digest = (length-sha256 (digits_of public), sha256_octets (digits_of public));
  none_public = none_public public;
}
