-- What proves a claim makes a prover's job.
use Rattle.std.proofs.Common.{◌≡◌, ◌∙◌, ℕ, List, [], Option, length, take, refl, sym, ap, subst}
use Rattle.sha2.specs.Sha256.{sha256}
use Rattle.zk_model.specs.Arithmetic.{Arith, IsWellFormed, SatisfiesElements}
use Rattle.zk_model.specs.ArithProgram.{arith_claims, arith_program}
use Rattle.zk_model.specs.Files.{ProverFile}
use Rattle.zk_model.specs.HonestProver.{IsWitness}
use Rattle.zk_model.specs.Program.{AreMade, IsSolvedBy, Program, Solves}
use Rattle.zk_model.specs.Statement.{Statement, arith_statement}
use Rattle.zk_port.specs.Files.{Files}
use Rattle.circuit_laws.proofs.Made.{one_made}
use Rattle.arith_laws.proofs.Formed.{arith_is_ordered, arith_is_program}
use Rattle.arith_laws.proofs.Solved.{given_values, satisfied_is_solved}
use Rattle.arith_eval.proofs.Products.{given_are, given_count}
use Rattle.wire_auth.specs.Values.{given_made}
use Rattle.session_core.specs.Jobs.{AreWitnessValues, ProverJob, prover_from}
use Rattle.session_core.specs.declared.wire_values.WireValues.{WireValues}
use Rattle.session_core.specs.declared.wire_values.WireValues.TheVariants.{Bits, Given}
use Rattle.session_core.proofs.Computed.{made_values}
use Rattle.session_rehearsal.proofs.Rehearsed.{sized_values}
use Rattle.file_commands.specs.Stops.{IsProverFileAt}
use Rattle.prove_command.specs.BitsProofs.{IsBitsJob}
use Rattle.prove_command.specs.ElementsProofs.{IsElementsJob}
use Rattle.prove_command.specs.Proofs.{Proof}
use Rattle.prove_command.specs.ProveRuns.{HasWitness, IsClaimJob, IsProveJob, IsTrueClaim}
use Rattle.prove_command.specs.declared.proof.ProofNames.{ProofNames}
use Rattle.prove_command.specs.declared.proof.ProofNames.TheVariants as names

-- what solves a program is made by its inputs
made_by : (program : Program) (public wires given inputs : List ℕ) → Solves program public wires given → take program.inputs given ≡ inputs
    → AreMade program public inputs wires given
made_by program public wires given inputs solves first = record {
  carried = solves.carried;
  count = solves.count;
  first = first;
  others = λ k d below low. solves.multiplied k d below;
}

-- where elements satisfy a circuit, the given values that they make of its statement solve the program
elements_witness : (circuit : Arith) (digest outputs inputs : List ℕ) (statement : Statement) (values given : List ℕ) → IsWellFormed circuit
    → SatisfiesElements circuit inputs outputs → statement ≡ arith_statement circuit digest outputs
    → AreMade statement.program statement.public inputs values given → (wires : List ℕ) × IsWitness statement inputs wires given
elements_witness circuit digest outputs inputs statement values given formed satisfied is made =
    let program = arith_program circuit in
    let sized = sized_values circuit inputs outputs formed satisfied in
    let solved : IsSolvedBy (arith_program circuit) [] inputs (arith_claims circuit outputs) =
    satisfied_is_solved circuit inputs outputs formed sized satisfied in
    let theirs : AreMade (arith_program circuit) [] inputs values given =
    subst (λ (s : Statement). AreMade s.program s.public inputs values given) is made in
    let ours = made_by program [] solved.wires solved.given inputs solved.solved solved.first in
    let same : solved.given ≡ given =
    one_made program [] inputs solved.wires solved.given values given (arith_is_program circuit formed) (arith_is_ordered circuit formed) ours theirs in (
      solved.wires,
      subst (λ (s : Statement). IsWitness s inputs solved.wires given) (sym is)
          (subst (λ (g : List ℕ). IsWitness (arith_statement circuit digest outputs) inputs solved.wires g) same
          (record { solves = solved.solved; inputs_are = solved.first })),
    )

-- a job with the inputs that prove a claim is to prove it
pub is_claim_job : (told : Option Files) (proof : ProofNames) (statement : Statement) (inputs : List ℕ) (wires : WireValues) (file : ProverFile)
    (job : ProverJob) (values : List ℕ) → HasWitness told proof statement inputs wires → job ≡ prover_from statement inputs file
    → AreMade statement.program statement.public inputs values job.given → IsClaimJob told proof job
is_claim_job told (names.Boolean proof) statement inputs (Given given) file job values has is made = absurd has
is_claim_job told (names.Boolean proof) statement inputs (Bits bits) file job values has is made =
    subst (IsBitsJob told proof) (sym (is ∙ has.proves file))
    (record { circuit = has.circuit; wires = bits.items; witnessed = has.witnessed; job_is = refl })
is_claim_job told (names.Arithmetic proof) statement inputs (Bits bits) file job values has is made = absurd has
is_claim_job told (names.Arithmetic proof) statement inputs (Given given) file job values has is made =
    let solved = has.1 in
    let found = elements_witness has.0 (sha256 solved.claim.text) solved.outputs inputs statement values job.given solved.claim.says.is.well_formed
    solved.satisfied solved.claim.statement_is made in
    subst (IsElementsJob told proof) (sym is) (record {
      circuit = has.0;
      inputs = inputs;
      solved = solved;
      job_is = refl;
      wires = found.0;
      witness = subst (λ (j : ProverJob). IsWitness statement inputs found.0 j.given) is found.1;
    })

-- and over the prover's file it is the job that was asked for, also where the statement and the inputs are such that are the same
pub is_prove_job : (told : Option Files) (proof : Proof) (statement said : Statement) (inputs given : List ℕ) (wires : WireValues) (file : ProverFile)
    (job : ProverJob) → HasWitness told proof.names statement inputs wires → IsProverFileAt told proof.file file → said ≡ statement → given ≡ inputs
    → job ≡ prover_from said given file → (values : List ℕ) × AreMade said.program said.public given values job.given → IsProveJob told proof job
is_prove_job told proof statement said inputs given wires file job has at stated same is made = record {
  claim = is_claim_job told proof.names statement inputs wires file job made.0 has (is ∙ (λ i. prover_from (stated i) (same i) file))
      (subst (λ (q : Statement × List ℕ). AreMade q.0.program q.0.public q.1 made.0 job.given) (λ i. (stated i, same i)) made.1);
  file = subst (IsProverFileAt told proof.file) (sym (ap (λ (j : ProverJob). j.file) is)) at;
}

-- the claim is there, with what proves it
pub true_claim : (told : Option Files) (proof : ProofNames) (statement : Statement) (inputs : List ℕ) (wires : WireValues)
    → HasWitness told proof statement inputs wires → IsTrueClaim told proof
true_claim told (names.Boolean proof) statement inputs (Given given) has = absurd has
true_claim told (names.Boolean proof) statement inputs (Bits bits) has = (has.circuit, statement, bits.items, has.witnessed)
true_claim told (names.Arithmetic proof) statement inputs (Bits bits) has = absurd has
true_claim told (names.Arithmetic proof) statement inputs (Given given) has = (has.0, statement, inputs, has.1)

-- the values of all wires make the given values of a prover with such inputs
pub witness_values : (told : Option Files) (proof : ProofNames) (statement : Statement) (inputs : List ℕ) (wires : WireValues) (file : ProverFile)
    → HasWitness told proof statement inputs wires
    → AreWitnessValues (given_made statement.program statement.public inputs) statement.program wires
witness_values told (names.Boolean proof) statement inputs (Given given) file has = absurd has
witness_values told (names.Boolean proof) statement inputs (Bits bits) file has = record {
  whole = has.witnessed.wires_are.whole ∙ sym (ap (λ (s : Statement). s.program.wires) has.witnessed.claim.statement_is);
  made = ap (λ (job : ProverJob). job.given) (has.proves file);
}
witness_values told (names.Arithmetic proof) statement inputs (Bits bits) file has = absurd has
witness_values told (names.Arithmetic proof) statement inputs (Given given) file has =
    let formed = has.1.claim.says.is.well_formed in
    let computed = has.2.1 in
    let are : given.items ≡ given_values has.0 inputs has.2.0 = has.2.2 ∙ given_are has.0 inputs has.2.0 computed in
    subst (λ (s : Statement). AreWitnessValues (given_made s.program s.public inputs) s.program (Given given)) (sym has.1.claim.statement_is) (record {
      whole = ap length are ∙ given_count has.0 inputs has.2.0 formed computed;
      made = made_values has.0 inputs has.2.0 formed computed ∙ sym are;
    })
