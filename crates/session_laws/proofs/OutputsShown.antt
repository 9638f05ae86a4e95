-- What a finding shows of a session about a circuit's outputs.
use Rattle.std.proofs.Common.{ℕ, ◌≤◌, List, ◌++◌, length, map, sym, subst}
use Rattle.std.specs.Prelude.{Bool}
use Rattle.session_laws.proofs.CircuitProved.{same_bits}
use Rattle.session_laws.specs.Circuits.{ExtractedShowsOutputs}
use Rattle.zk_laws.proofs.FoundBits.{found_bits}
use Rattle.circuit_laws.specs.Circuits.{AreSatisfying}
use Rattle.zk_laws.specs.Extraction.{Shows}
use Rattle.zk_model.specs.Bits.{from_bit}
use Rattle.zk_model.specs.Circuit.{Circuit, Satisfies, IsWellFormed}
use Rattle.zk_model.specs.Finding.{Finding, found_inputs, found_challenge_root, found_key_root}
use Rattle.zk_model.specs.Headline.{AreSatisfyingBits, SaysInputs}
use Rattle.zk_model.specs.Statement.{circuit_statement}
use Rattle.zk_model.specs.Transcript.{Transcript}

-- inputs that satisfy are bits with which the circuit gives the outputs
by_inputs : (circuit : Circuit) (public outputs : List Bool) (inputs : List ℕ)
    → AreSatisfying circuit public inputs (map from_bit outputs) → AreSatisfyingBits circuit public outputs inputs
by_inputs circuit public outputs inputs bits = record {
  bits = bits.input_bits;
  inputs_are = bits.inputs_are;
  satisfied = subst (λ (others : List Bool). Satisfies circuit (public ++ bits.input_bits) others)
      (sym (same_bits outputs bits.output_bits bits.claims_are)) bits.satisfied;
}

-- what a finding shows of the statement is what it says of the circuit's outputs
by_finding : (circuit : Circuit) (digest : List ℕ) (public outputs : List Bool) (key : ℕ) (t : Transcript) (finding : Finding)
    → IsWellFormed circuit → length public ≤ circuit.inputs
    → Shows (circuit_statement circuit digest public outputs) t.commitment.setup.grant.section_length t.challenge key finding
    → SaysInputs (AreSatisfyingBits circuit public outputs) key (circuit_statement circuit digest public outputs) t finding
by_finding circuit digest public outputs key t (found_inputs inputs) formed few shows = by_inputs circuit public outputs inputs
    (found_bits circuit digest public outputs t.commitment.setup.grant.section_length t.challenge key (found_inputs inputs) formed few shows)
by_finding circuit digest public outputs key t (found_challenge_root s errors) formed few shows = shows
by_finding circuit digest public outputs key t (found_key_root polynomial) formed few shows = shows

pub extracted_shows_outputs : ExtractedShowsOutputs
extracted_shows_outputs circuit digest public outputs prover verifier t formed few extracted = record {
  finding = extracted.finding;
  found = extracted.found;
  says = by_finding circuit digest public outputs verifier.key t extracted.finding formed few
      (extracted.shows extracted.finding extracted.found);
}
