use Rattle.std.proofs.Common.{◌≡◌, ◌-◌, Bool, List, ℕ, length, map, sym, ap, ◌∙◌, subst, arith}
use Rattle.std.proofs.lemmas.List.{length-map, length-append}
use Rattle.sha2.specs.Sha256.{sha256}
use Rattle.sha2.proofs.Facts256.{length-sha256}
use Rattle.zk_model.proofs.Octets.{sha256_octets}
use Rattle.zk_model.specs.Bits.{from_bit}
use Rattle.zk_model.specs.Bristol.{IsText}
use Rattle.zk_model.specs.Bytes.{AreBytes}
use Rattle.zk_model.specs.Circuit.{Circuit}
use Rattle.zk_model.specs.HonestProver.{IsWitness}
use Rattle.zk_model.specs.Statement.{Statement, circuit_statement}
use Rattle.file_commands.specs.Stops.{IsLoaded}
use Rattle.session_core.specs.Jobs.{prover_from, prover_of}
use Rattle.session_rehearsal.proofs.Rehearsed.{witness_is}
use Rattle.prove_command.proofs.bits_witness.load_bits.Goals as goal

pub new-requires-clause-digest : goal.new-requires-clause-digest
new-requires-clause-digest g c = subst (AreBytes 32) (sym c.in_ok-claimed.ensures.digest) (length-sha256 _, sha256_octets _)

-- the claim, by the digest of the text
stated : (claim : Statement) (circuit : Circuit) (text digest : List ℕ) (public outputs : List Bool)
    → claim ≡ circuit_statement circuit digest public outputs → digest ≡ sha256 text → claim ≡ circuit_statement circuit (sha256 text) public outputs
stated claim circuit text digest public outputs is digested = is ∙ ap (λ d. circuit_statement circuit d public outputs) digested

pub returns-clause-witness : goal.returns-clause-witness
returns-clause-witness g c =
    let circuit = c.in_ok-claimed.claimed.circuit in
    let text = c.in_ok-text.text.items in
    let public = c.args.proof.now.public in
    let bits = c.args.proof.now.bits in
    let outputs = c.args.proof.now.outputs in
    let wires = c.in_ok-wires.wires.items in
    let said = stated c.in_ok-claim.claim circuit text _ public outputs
    (c.in_ok-claim.ensures ∙ (λ i. circuit_statement circuit c.in_ok-claimed.claimed.digest (c.public-public.ensures i) (c.outputs-outputs.ensures i)))
    (c.in_ok-claimed.ensures.digest ∙ ap sha256 c.deref.ensures.value) in record {
      circuit = circuit;
      witnessed = record {
        claim = record {
          text = text;
          loaded = subst (λ (name : List ℕ). IsLoaded (g.F.Shelf.state c.args.shelf.now).told name text) c.circuit-name.ensures c.in_ok-text.ensures.loaded;
          says = subst (IsText circuit) c.deref.ensures.value c.in_ok-claimed.ensures.says;
          few = c.in_ok-wires.ensures.few;
          count = c.in_ok-wires.ensures.count;
          statement_is = said;
        };
        wires_are = c.in_ok-wires.ensures.wires;
        satisfied = (wires, c.in_ok-wires.ensures.wires, c.in_ok-wires.ensures.outputs);
        witness = λ file.
            subst (λ (s : Statement). IsWitness s (map from_bit bits) (map from_bit wires) (prover_of s wires file).given) (sym said)
            (witness_is circuit (sha256 text) public bits outputs wires c.bits_solve.ensures c.in_ok-claimed.ensures.says.well_formed c.in_ok-wires.ensures.few c.in_ok-wires.ensures.wires);
      };
      proves = λ file.
          subst (λ (s : Statement). prover_from s c.in_ok-inputs.inputs.items file ≡ prover_of s wires file) (sym said)
          (ap (λ (values : List ℕ). prover_from (circuit_statement circuit (sha256 text) public outputs) values file) (c.in_ok-inputs.ensures ∙ ap (map from_bit) c.bits-bits.ensures)
          ∙ c.input_bits_prove.ensures circuit (sha256 text) public outputs bits wires file c.in_ok-claimed.ensures.says.well_formed c.in_ok-wires.ensures.few c.in_ok-wires.ensures.wires);
    }

pub returns-clause-inputs : goal.returns-clause-inputs
returns-clause-inputs g c =
    let public = c.args.proof.now.public in
    let bits = c.args.proof.now.bits in
    let whole = length-append public bits in
    let inputs = c.in_ok-wires.ensures.inputs in
    let all : length bits ≡ c.in_ok-claimed.claimed.circuit.inputs - length public = omega (arith, whole, inputs) in
    let said = stated c.in_ok-claim.claim c.in_ok-claimed.claimed.circuit c.in_ok-text.text.items _ public c.args.proof.now.outputs
    (c.in_ok-claim.ensures ∙ (λ i. circuit_statement c.in_ok-claimed.claimed.circuit c.in_ok-claimed.claimed.digest (c.public-public.ensures i) (c.outputs-outputs.ensures i)))
    (c.in_ok-claimed.ensures.digest ∙ ap sha256 c.deref.ensures.value) in
    ap length (c.in_ok-inputs.ensures ∙ ap (map from_bit) c.bits-bits.ensures) ∙ length-map bits from_bit ∙ all ∙ sym (ap (λ (s : Statement). s.program.inputs) said)
