use Rattle.std.proofs.Common.{◌≡◌, ◌∙◌, ◌++◌, ℕ, List, length, map, ap, sym}
use Rattle.std.proofs.Math.Seq.{take-append_seam, drop-append_seam}
use Rattle.zk_model.specs.Bits.{from_bit}
use Rattle.zk_model.specs.Boolean.{circuit_program, products_of_bits}
use Rattle.zk_model.specs.Statement.{circuit_statement}
use Rattle.wire_auth.specs.Values.{given_made}
use Rattle.session_core.specs.Jobs.{ProverJob}
use Rattle.session_core.proofs.circuit_claim.input_bits_prove.Goals as goal

pub returns : goal.returns
returns c circuit digest public outputs inputs bits file formed few met = ap
    (λ (given : List ℕ). let job : ProverJob = record { statement = circuit_statement circuit digest public outputs; file = file; given = given } in job)
    made
  where
    made : given_made (circuit_program (length public) circuit) (map from_bit public) (map from_bit inputs) ≡ products_of_bits (length public) circuit bits
    made =
        (λ i. given_made (circuit_program (length public) circuit) (map from_bit (sym (take-append_seam public inputs) i)) (map from_bit (sym (drop-append_seam public inputs) i)))
        ∙ c.bits_make_products.ensures (length public) circuit (public ++ inputs) bits formed few met
