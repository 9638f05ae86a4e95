-- A prover whose inputs make a program give the claims has a witness, and gives the claims.
use Rattle.std.proofs.Common.{◌≡◌, ℕ, suc, ◌<◌, List, [], ◌∷◌, map, take, length, slice_index_or, refl, sym, ◌∙◌, ap, subst, arith, length-take-le}
use Rattle.std.specs.Prelude.{slice_index}
use Rattle.circuit_laws.proofs.Made.{one_made}
use Rattle.circuit_laws.proofs.Unique.{one_on_set_wires}
use Rattle.arith_laws.proofs.Formed.{arith_is_program, arith_is_ordered}
use Rattle.arith_laws.proofs.Solved.{satisfied_is_solved}
use Rattle.zk_model.specs.Program.{Program, Carries, Solves, AreMade, IsProgram, IsOrdered, IsSolvedBy}
use Rattle.zk_model.specs.Statement.{Statement}
use Rattle.session_laws.specs.Ariths.{SolvedIsProved, ArithIsProved}

-- what solves a program is made by its inputs
made_by : (program : Program) (public wires given : List ℕ) (inputs : List ℕ) → Solves program public wires given
    → take program.inputs given ≡ inputs → AreMade program public inputs wires given
made_by program public wires given inputs solves first = record {
  carried = solves.carried;
  count = solves.count;
  first = first;
  others = λ k d below low. solves.multiplied k d below;
}

-- two lists that are the same at some wires
same_at : (some others wires : List ℕ) → ((k d : ℕ) → k < length wires → slice_index some (slice_index_or wires k d) ≡ slice_index others (slice_index_or wires k d))
    → map (slice_index some) wires ≡ map (slice_index others) wires
same_at some others [] same = refl
same_at some others (wire ∷ wires) same =
    λ i. same 0 wire (omega arith) i ∷ same_at some others wires (λ k d below. same (suc k) d (omega (arith, below))) i

pub solved_is_proved : SolvedIsProved
solved_is_proved prover formed ordered solved = (
  record { wires = solved.wires; given = solved.given; witness = record { solves = solved.solved; inputs_are = solved.first } },
  λ wires given witness.
      let program = prover.statement.program in
      let public = prover.statement.public in
      let ours = made_by program public solved.wires solved.given prover.inputs solved.solved solved.first in
      let theirs = made_by program public wires given prover.inputs witness.solves witness.inputs_are in
      let same : given ≡ solved.given = one_made program public prover.inputs wires given solved.wires solved.given formed ordered theirs ours in
      same_at wires solved.wires program.opened (λ k d below.
      one_on_set_wires 1 program public solved.given wires solved.wires (slice_index_or program.opened k d) formed
      (subst (λ (g : List ℕ). Carries 1 program public g wires) same witness.solves.carried) solved.solved.carried (formed.opened k d below))
      ∙ solved.last,
)

pub arith_is_proved : ArithIsProved
arith_is_proved circuit digest outputs prover formed satisfied is =
    solved_is_proved prover
    (subst (λ (s : Statement). IsProgram s.program) (sym is) (arith_is_program circuit formed))
    (subst (λ (s : Statement). IsOrdered s.program) (sym is) (arith_is_ordered circuit formed))
    (subst (λ (s : Statement). IsSolvedBy s.program s.public prover.inputs s.claims) (sym is)
    (satisfied_is_solved circuit prover.inputs outputs formed sized satisfied))
  where
    sized : length prover.inputs ≡ circuit.inputs
    sized = let computed = satisfied.1.computed in
        ap length (sym computed.first) ∙ length-take-le circuit.inputs satisfied.0 (omega (arith, computed.whole, formed.inputs_within))
