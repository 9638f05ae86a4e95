-- Claims of a circuit's outputs are a statement.
use Rattle.std.proofs.Common.{ℕ, [], flat_map, length, replicate, refl, arith, length-append}
use Rattle.std.specs.List.{range_with_len}
use Rattle.std.proofs.lemmas.List.{length-replicate}
use Rattle.std.proofs.lemmas.List.Elements.{All-nil, All-append, All-replicate}
use Rattle.arith_laws.proofs.Solved.{length-range}
use Rattle.sha2.proofs.Facts256.{length-sha256}
use Rattle.zk_model.proofs.Octets.{sha256_octets}
use Rattle.zk_model.specs.Bytes.{element_bytes}
use Rattle.zk_model.specs.Field.{IsElement}
use Rattle.zk_model.specs.Arithmetic.{asserted, first_output}
use Rattle.arith_laws.specs.Laws.{ArithIsStatement}
use Rattle.arith_laws.proofs.Formed.{arith_is_program}

pub arith_is_statement : ArithIsStatement
arith_is_statement circuit digest outputs formed named are counted = record {
  program = arith_is_program circuit formed;
  public_count = refl;
  public = All-nil IsElement;
  may_be_public = refl;
  claim_count = omega (
    arith,
    counted,
    length-append outputs (replicate (length (asserted circuit)) 0),
    length-replicate {A = ℕ} (length (asserted circuit)) 0,
    length-append (range_with_len (first_output circuit) circuit.outputs) (asserted circuit),
    length-range (first_output circuit) circuit.outputs,
  );
  claims = All-append IsElement outputs (replicate (length (asserted circuit)) 0) are (All-replicate IsElement (length (asserted circuit)) 0 (omega arith));
  circuit = named;
  outputs = (length-sha256 (flat_map element_bytes outputs), sha256_octets (flat_map element_bytes outputs));
  public_digest = (length-sha256 [], sha256_octets []);
  none_public = λ none. refl;
}
