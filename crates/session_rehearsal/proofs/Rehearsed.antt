-- A rehearsal's statement and witness, and what its session makes.
use Rattle.std.proofs.Common.{◌≡◌, ℕ, ◌^◌, ◌≤◌, Bool, List, ◌++◌, map, drop, length, refl, sym, ◌∙◌, ap, subst, arith, length-take-le}
use Rattle.std.proofs.Math.Seq.{take-append_seam, drop-append_seam}
use Rattle.zk_model.specs.Bits.{from_bit}
use Rattle.zk_model.specs.Circuit.{Circuit, IsWellFormed, AreWireBits, output_wire}
use Rattle.zk_model.specs.Program.{Program, Solves, opened_values, correlations_needed}
use Rattle.zk_model.specs.Boolean.{circuit_program, private_inputs, products_of_bits}
use Rattle.zk_model.specs.Statement.{Statement, IsStatement, arith_statement, circuit_statement}
use Rattle.zk_model.specs.Arithmetic.{Arith, SatisfiesElements}
use Rattle.zk_model.specs.Arithmetic.{IsWellFormed as ArithFormed}
use Rattle.zk_model.specs.Transcript.{Grant, Transcript, IsGrant, units_for, bytes_from, verdict_frame}
use Rattle.dealer_files.specs.Dealing.{dealt_prover, dealt_verifier}
use Rattle.zk_model.specs.HonestProver.{IsWitness}
use Rattle.zk_model.specs.ServedVerifier.{VerifierTask, IsServed}
use Rattle.zk_model.specs.BothEnds.{IsHonestSession}
use Rattle.zk_model.specs.declared.Kind.{Kind}
use Rattle.zk_model.specs.declared.Kind.TheVariants.{Direct, Extended}
use Rattle.zk_model.specs.declared.Side.{Side}
use Rattle.zk_model.specs.declared.Side.TheVariants.{Verifier}
use Rattle.zk_model.specs.declared.Verdict.{Verdict}
use Rattle.zk_model.specs.declared.Verdict.TheVariants.{Accepted}
use Rattle.field_program.specs.Programs.{IsSmallProgram}
use Rattle.wire_auth.specs.Values.{given_made, wires_made, BitsMakeProducts}
use Rattle.circuit_laws.specs.Circuits.{BitsSolve}
use Rattle.zk_laws.specs.Completeness.{HonestSessionIsAccepted}
use Rattle.circuit_laws.proofs.BitsSolve.{value_of_bit}
use Rattle.circuit_laws.proofs.Made.{bits_are_made, one_made}
use Rattle.circuit_laws.proofs.Satisfied.{outputs_are}
use Rattle.arith_laws.proofs.Solved.{satisfied_is_solved}
use Rattle.session_core.proofs.Proving.{job_made}
use Rattle.session_rehearsal.proofs.Spelled.{before_verdict, ends_with_verdict}
use Rattle.session_core.specs.Ends.{whole_grant}
use Rattle.session_rehearsal.specs.Holding.{BothEnds, IsRehearsedSession, ends_with}
use Rattle.session_rehearsal.specs.Rehearsals.{AboutCause, AreRehearsedFiles, EndsWithVerdict, IsRehearsalAbout, RehearseCause, no_digest, rehearsed_params, rehearsed_prover, rehearsed_verifier, units_rehearsed}
use Rattle.session_rehearsal.specs.declared.rehearsal.Rehearsal.{Rehearsal}
use Rattle.session_rehearsal.specs.declared.rehearsal.RehearseFault.{RehearseFault}
use Rattle.session_rehearsal.specs.declared.rehearsal.RehearseFault.TheVariants.{WrongLength, TooLarge, NoMemory}

-- ---- the witness

-- inputs make the products of the bits that all wires have then
pub made_products : (circuit : Circuit) (public inputs bits : List Bool) → BitsMakeProducts → IsWellFormed circuit → length public ≤ circuit.inputs
    → AreWireBits circuit (public ++ inputs) bits
    → given_made (circuit_program (length public) circuit) (map from_bit public) (map from_bit inputs) ≡ products_of_bits (length public) circuit bits
made_products circuit public inputs bits law formed few met =
    (λ i. given_made (circuit_program (length public) circuit) (map from_bit (sym (take-append_seam public inputs) i)) (map from_bit (sym (drop-append_seam public inputs) i)))
    ∙ law (length public) circuit (public ++ inputs) bits formed few met

-- ---- the grant

-- the files have so many units
pub total_is : (kind : Kind) (units : ℕ) → (rehearsed_params kind units).total ≡ units
total_is Direct units = refl
total_is Extended units = refl

-- how many a file has in all does not matter
pub units_are : (kind : Kind) (one other need : ℕ) → units_for (rehearsed_params kind one) need ≡ units_for (rehearsed_params kind other) need
units_are Direct one other need = refl
units_are Extended one other need = refl

-- all units are granted
pub granted_all : (program : Program) (kind : Kind) (section units : ℕ) → 1 ≤ section → section ≤ 2 ^ 20
    → units ≡ units_for (rehearsed_params kind 0) (correlations_needed program section)
    → units ≤ 4096 → IsGrant (rehearsed_params kind units) program (whole_grant units section)
granted_all program Direct section units some most counted few =
    record { section_some = some; section_most = most; count = counted; count_most = few; within = omega arith }
granted_all program Extended section units some most counted few =
    record { section_some = some; section_most = most; count = counted; count_most = few; within = omega arith }

-- ---- the witness

-- bits of all wires are a witness
pub witness_is : (circuit : Circuit) (digest : List ℕ) (public inputs outputs bits : List Bool) → BitsSolve → IsWellFormed circuit
    → length public ≤ circuit.inputs → AreWireBits circuit (public ++ inputs) bits
    → IsWitness (circuit_statement circuit digest public outputs) (map from_bit inputs) (map from_bit bits) (products_of_bits (length public) circuit bits)
witness_is circuit digest public inputs outputs bits law formed few met = record {
  solves = subst (λ (l : List Bool). Solves (circuit_program (length public) circuit) (map from_bit l) (map from_bit bits) (products_of_bits (length public) circuit bits))
      (take-append_seam public inputs) (law (length public) circuit (public ++ inputs) bits formed few met);
  inputs_are = (bits_are_made (length public) circuit (public ++ inputs) bits formed few met).first ∙ ap (map from_bit) (drop-append_seam public inputs);
}

-- and give the claims
pub claims_are : (circuit : Circuit) (public : ℕ) (bits : List Bool) → IsWellFormed circuit → length bits ≡ circuit.wires
    → opened_values (circuit_program public circuit) (map from_bit bits) ≡ map from_bit (drop (output_wire circuit 0) bits)
claims_are circuit public bits formed whole =
    outputs_are public circuit bits (map from_bit bits) whole formed.outputs_within (λ o below. value_of_bit bits (output_wire circuit o))

-- given values with which values of all wires solve a statement's program are those that its inputs make
pub only_given : (statement : Statement) (inputs wires given : List ℕ) → IsStatement statement → IsSmallProgram statement.program
    → length inputs ≡ statement.program.inputs → IsWitness statement inputs wires given
    → given ≡ given_made statement.program statement.public inputs
only_given statement inputs wires given stated held counted witness =
    one_made statement.program statement.public inputs wires given (wires_made statement.program statement.public inputs)
    (given_made statement.program statement.public inputs) held.formed held.ordered
    (record {
      carried = witness.solves.carried;
      count = witness.solves.count;
      first = witness.inputs_are;
      others = λ k d below late. witness.solves.multiplied k d below;
    })
    (job_made statement inputs stated held counted)

-- elements that satisfy an arithmetic circuit are as many as its inputs
pub sized_values : (circuit : Arith) (values outputs : List ℕ) → ArithFormed circuit → SatisfiesElements circuit values outputs
    → length values ≡ circuit.inputs
sized_values circuit values outputs formed satisfied =
    let computed = satisfied.1.computed in
    ap length (sym computed.first) ∙ length-take-le circuit.inputs satisfied.0 (omega (arith, computed.whole, formed.inputs_within))

-- ---- the session

-- what both ends of a rehearsal have, where the prover has these values of its inputs
abbrev pub rehearsed_ends : Statement → List ℕ → Kind → ℕ → List ℕ → BothEnds
rehearsed_ends statement inputs kind units seed =
    ends_with statement inputs (dealt_prover (rehearsed_params kind units) seed) (dealt_verifier (rehearsed_params kind units) seed)

-- a rehearsal's session is that of an honest prover, and is accepted
pub record IsAcceptedSession (statement : Statement) (inputs : List ℕ) (kind : Kind) (section units : ℕ) (seed : List ℕ) (verdict : Verdict) (log : List (Side × ℕ)) : Type 0 where
  pub transcript : Transcript
  pub session : IsHonestSession (rehearsed_prover statement inputs kind units seed) (rehearsed_verifier statement kind units seed)
      (whole_grant units section) transcript verdict log
  pub accepted : verdict ≡ Accepted

pub accepted_session : (statement : Statement) (inputs wires : List ℕ) (kind : Kind) (section units : ℕ) (seed : List ℕ) (verdict : Verdict) (log : List (Side × ℕ))
    → HonestSessionIsAccepted → IsWitness statement inputs wires (given_made statement.program statement.public inputs)
    → opened_values statement.program wires ≡ statement.claims → AreRehearsedFiles kind units seed
    → IsRehearsedSession (rehearsed_ends statement inputs kind units seed) (whole_grant units section) verdict log
    → IsAcceptedSession statement inputs kind section units seed verdict log
accepted_session statement inputs wires kind section units seed verdict log law witness claims files held =
    let honest = held.honest inputs wires witness in
    let opened : opened_values statement.program honest.honest.wires ≡ statement.claims =
    ap (opened_values statement.program) honest.wires_are ∙ claims in
    let both = law (rehearsed_prover statement inputs kind units seed) (rehearsed_verifier statement kind units seed) held.t verdict log
    (record { statement = refl; prover_file = files.prover; verifier_file = files.verifier; dealt = files.dealt }) honest.honest opened held.served in
    record {
      transcript = held.t;
      session = subst (λ (grant : Grant). IsHonestSession (rehearsed_prover statement inputs kind units seed) (rehearsed_verifier statement kind units seed) grant held.t verdict log)
          held.granted both.1;
      accepted = both.0;
    }

-- a session that a verifier leads ends with its verdict
pub session_ends : (task : VerifierTask) (t : Transcript) (verdict : Verdict) (log : List (Side × ℕ))
    → IsServed task t verdict log → EndsWithVerdict verdict log
session_ends task t verdict log served =
    let said = served.judged.said in
    record {
      before = before_verdict t;
      ends = served.in_order.bytes ∙ ends_with_verdict t
          ∙ (λ i. before_verdict t ++ bytes_from Verifier (verdict_frame (said.code i) (said.number i)));
    }

-- ---- of a circuit

-- a rehearsal about a statement is one of the circuit that it is about
pub circuit_about : (circuit : Circuit) (public bits wires outputs : List Bool) (kind : Kind) (section : ℕ) (seed : List ℕ) (r : Rehearsal (List Bool))
    (statement : Statement) (inputs : List ℕ) → BitsSolve → IsWellFormed circuit → length public ≤ circuit.inputs
    → AreWireBits circuit (public ++ bits) wires → outputs ≡ drop (output_wire circuit 0) wires
    → statement ≡ circuit_statement circuit no_digest public outputs → inputs ≡ map from_bit bits → r.outputs ≡ outputs
    → ((values given : List ℕ) → IsWitness statement inputs values given
    → opened_values statement.program values ≡ statement.claims → IsRehearsalAbout statement inputs kind section seed r)
    → IsRehearsalAbout (circuit_statement circuit no_digest public r.outputs) (map from_bit bits) kind section seed r
circuit_about circuit public bits wires outputs kind section seed r statement inputs solve formed few met last stated given same done =
    subst (λ (q : Statement × List ℕ). IsRehearsalAbout q.0 q.1 kind section seed r)
    (λ i. ((stated ∙ ap (circuit_statement circuit no_digest public) (sym same)) i, given i))
    (done (map from_bit wires) (products_of_bits (length public) circuit wires) witness claims)
  where
    witness : IsWitness statement inputs (map from_bit wires) (products_of_bits (length public) circuit wires)
    witness = subst (λ (q : Statement × List ℕ). IsWitness q.0 q.1 (map from_bit wires) (products_of_bits (length public) circuit wires))
        (λ i. (sym stated i, sym given i))
        (witness_is circuit no_digest public bits outputs wires solve formed few met)

    claims : opened_values statement.program (map from_bit wires) ≡ statement.claims
    claims = subst (λ (s : Statement). opened_values s.program (map from_bit wires) ≡ s.claims) (sym stated)
        (claims_are circuit (length public) wires formed met.whole ∙ ap (map from_bit) (sym last))

-- and why there is none about it is why there is none of the circuit
pub circuit_cause : (circuit : Circuit) (public bits outputs : List Bool) (kind : Kind) (section : ℕ) (statement : Statement) (fault : RehearseFault)
    → length bits ≡ private_inputs (length public) circuit → statement ≡ circuit_statement circuit no_digest public outputs
    → AboutCause statement kind section fault → RehearseCause circuit public bits kind section fault
circuit_cause circuit public bits outputs kind section statement (WrongLength need got) counted stated cause = absurd cause
circuit_cause circuit public bits outputs kind section statement (TooLarge need units) counted stated cause = record {
  inputs = counted;
  needed = cause.needed ∙ ap (λ (s : Statement). correlations_needed s.program section) stated;
  counted = cause.counted ∙ ap (λ (s : Statement). units_rehearsed kind (correlations_needed s.program section)) stated;
  many = cause.many;
}
circuit_cause circuit public bits outputs kind section statement NoMemory counted stated cause = tt

-- ---- of an arithmetic circuit

-- where elements satisfy it, they have a witness
pub arith_about : (circuit : Arith) (values outputs : List ℕ) (kind : Kind) (section : ℕ) (seed : List ℕ) (r : Rehearsal (List ℕ)) (statement : Statement)
    → ArithFormed circuit → SatisfiesElements circuit values outputs
    → statement ≡ arith_statement circuit no_digest outputs → r.outputs ≡ outputs
    → ((wires given : List ℕ) → IsWitness statement values wires given
    → opened_values statement.program wires ≡ statement.claims → IsRehearsalAbout statement values kind section seed r)
    → IsRehearsalAbout (arith_statement circuit no_digest r.outputs) values kind section seed r
arith_about circuit values outputs kind section seed r statement formed satisfied stated same done =
    let solved = satisfied_is_solved circuit values outputs formed (sized_values circuit values outputs formed satisfied) satisfied in
    subst (λ (s : Statement). IsRehearsalAbout s values kind section seed r) (stated ∙ ap (arith_statement circuit no_digest) (sym same))
    (done solved.wires solved.given
    (subst (λ (s : Statement). IsWitness s values solved.wires solved.given) (sym stated) (record { solves = solved.solved; inputs_are = solved.first }))
    (subst (λ (s : Statement). opened_values s.program solved.wires ≡ s.claims) (sym stated) solved.last))
