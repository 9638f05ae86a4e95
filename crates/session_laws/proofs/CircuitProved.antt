-- A prover whose input bits make a circuit give the claimed outputs has a witness, and gives the claims.
use Rattle.std.proofs.Common.{◌≡◌, ℕ, ◌≤◌, List, [], ◌∷◌, ◌++◌, map, drop, length, get_or, refl, sym, ◌∙◌, ap, subst, arith}
use Rattle.std.specs.Prelude.{Bool, true, false}
use Rattle.session_laws.specs.Peers.{HasWitness, GivesClaims}
use Rattle.session_laws.specs.Circuits.{CircuitIsProved}
use Rattle.circuit_laws.specs.Circuits.{AreSatisfying}
use Rattle.circuit_laws.proofs.OneOutcome.{one_outcome}
use Rattle.circuit_laws.proofs.Satisfied.{satisfied_is_solved, solved_is_satisfied}
use Rattle.zk_model.specs.Bits.{from_bit}
use Rattle.zk_model.specs.Boolean.{circuit_program}
use Rattle.zk_model.specs.Circuit.{Circuit, Satisfies, IsWellFormed}
use Rattle.zk_model.specs.Program.{IsSolvedBy, opened_values}
use Rattle.zk_model.specs.Statement.{circuit_statement}
use Rattle.zk_model.specs.Files.{ProverFile}
use Rattle.zk_model.specs.HonestProver.{ProverTask}

-- bits are told by their numbers
same_bit : (x y : Bool) → from_bit x ≡ from_bit y → x ≡ y
same_bit false false same = refl
same_bit false true same = absurd (omega arith)
same_bit true false same = absurd (omega arith)
same_bit true true same = refl

pub same_bits : (xs ys : List Bool) → map from_bit xs ≡ map from_bit ys → xs ≡ ys
same_bits [] [] same = refl
same_bits [] (y ∷ ys) same = let whole = ap length same in absurd (omega (arith, whole))
same_bits (x ∷ xs) [] same = let whole = ap length same in absurd (omega (arith, whole))
same_bits (x ∷ xs) (y ∷ ys) same =
    let first : x ≡ y = same_bit x y (ap (λ l. get_or l 0 0) same) in
    let rest : xs ≡ ys = same_bits xs ys (ap (drop 1) same) in
    λ i. first i ∷ rest i

-- a prover of the outputs of a circuit
abbrev circuit_prover : ProverFile → Circuit → List ℕ → List Bool → List Bool → List Bool → ProverTask
circuit_prover file circuit digest public inputs outputs =
    record { file = file; statement = circuit_statement circuit digest public outputs; inputs = map from_bit inputs }

has_witness : (file : ProverFile) (circuit : Circuit) (digest : List ℕ) (public inputs outputs : List Bool) → IsWellFormed circuit
    → length public ≤ circuit.inputs → Satisfies circuit (public ++ inputs) outputs
    → HasWitness (circuit_prover file circuit digest public inputs outputs)
has_witness file circuit digest public inputs outputs formed few satisfied = record {
  wires = solved.wires;
  given = solved.given;
  witness = record { solves = solved.solved; inputs_are = solved.first };
}
  where
    solved : IsSolvedBy (circuit_program (length public) circuit) (map from_bit public) (map from_bit inputs) (map from_bit outputs)
    solved = satisfied_is_solved circuit public inputs outputs formed few satisfied

gives_claims : (file : ProverFile) (circuit : Circuit) (digest : List ℕ) (public inputs outputs : List Bool) → IsWellFormed circuit
    → length public ≤ circuit.inputs → Satisfies circuit (public ++ inputs) outputs
    → GivesClaims (circuit_prover file circuit digest public inputs outputs)
gives_claims file circuit digest public inputs outputs formed few satisfied wires given witness =
    bits.claims_are ∙ ap (map from_bit) (one_outcome circuit (public ++ inputs) bits.output_bits outputs formed theirs satisfied)
  where
    bits : AreSatisfying circuit public (map from_bit inputs) (opened_values (circuit_program (length public) circuit) wires)
    bits = solved_is_satisfied circuit public (map from_bit inputs) (opened_values (circuit_program (length public) circuit) wires) formed few
        (record { wires = wires; given = given; solved = witness.solves; first = witness.inputs_are; last = refl })

    theirs : Satisfies circuit (public ++ inputs) bits.output_bits
    theirs = subst (λ (input_bits : List Bool). Satisfies circuit (public ++ input_bits) bits.output_bits)
        (sym (same_bits inputs bits.input_bits bits.inputs_are)) bits.satisfied

pub circuit_is_proved : CircuitIsProved
circuit_is_proved circuit digest public inputs outputs prover formed few satisfied statement_is inputs_are =
    subst (λ (task : ProverTask). HasWitness task × GivesClaims task)
    (λ i. record { file = prover.file; statement = sym statement_is i; inputs = sym inputs_are i }) (
      has_witness prover.file circuit digest public inputs outputs formed few satisfied,
      gives_claims prover.file circuit digest public inputs outputs formed few satisfied,
    )
