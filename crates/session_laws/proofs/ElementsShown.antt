-- What a finding shows of a session about an arithmetic circuit's outputs.
use Rattle.std.proofs.Common.{◌≡◌, ℕ, List, [], length, sym, ◌∙◌, ap, arith, length-take-le}
use Rattle.std.specs.Prelude.{All}
use Rattle.arith_laws.proofs.Formed.{arith_is_program}
use Rattle.arith_laws.proofs.Solved.{solved_satisfies}
use Rattle.zk_laws.specs.Extraction.{Shows}
use Rattle.zk_model.specs.Field.{IsElement}
use Rattle.zk_model.specs.Arithmetic.{Arith, IsWellFormed, SatisfiesElements}
use Rattle.zk_model.specs.ArithProgram.{arith_claims, arith_program}
use Rattle.zk_model.specs.Finding.{Finding, found_inputs, found_challenge_root, found_key_root}
use Rattle.zk_model.specs.Headline.{SaysInputs}
use Rattle.zk_model.specs.Program.{IsSolvedBy}
use Rattle.zk_model.specs.Statement.{arith_statement}
use Rattle.zk_model.specs.Transcript.{Transcript}
use Rattle.session_laws.specs.Ariths.{ExtractedShowsElements}

-- inputs that solve the program are as many as the circuit has
inputs_sized : (circuit : Arith) (inputs claims : List ℕ) → IsWellFormed circuit → IsSolvedBy (arith_program circuit) [] inputs claims
    → length inputs ≡ circuit.inputs
inputs_sized circuit inputs claims formed solved =
    ap length (sym solved.first)
    ∙ length-take-le circuit.inputs solved.given (omega (arith, solved.solved.count, (arith_is_program circuit formed).inputs))

by_finding : (circuit : Arith) (digest outputs : List ℕ) (key : ℕ) (t : Transcript) (finding : Finding) → IsWellFormed circuit → All IsElement outputs
    → length outputs ≡ circuit.outputs → Shows (arith_statement circuit digest outputs) t.commitment.setup.grant.section_length t.challenge key finding
    → SaysInputs (λ inputs. SatisfiesElements circuit inputs outputs) key (arith_statement circuit digest outputs) t finding
by_finding circuit digest outputs key t (found_inputs inputs) formed are counted shows =
    solved_satisfies circuit inputs outputs formed are counted (inputs_sized circuit inputs (arith_claims circuit outputs) formed shows) shows
by_finding circuit digest outputs key t (found_challenge_root s errors) formed are counted shows = shows
by_finding circuit digest outputs key t (found_key_root polynomial) formed are counted shows = shows

pub extracted_shows_elements : ExtractedShowsElements
extracted_shows_elements circuit digest outputs prover verifier t formed are counted extracted = record {
  finding = extracted.finding;
  found = extracted.found;
  says = by_finding circuit digest outputs verifier.key t extracted.finding formed are counted
      (extracted.shows extracted.finding extracted.found);
}
