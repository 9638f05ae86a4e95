use Rattle.std.proofs.Common.{◌≡◌, ◌∙◌, ◌++◌, ◌+◌, ◌-◌, ℕ, List, ap, sym, subst, length, replicate, arith, length-append}
use Rattle.std.proofs.lemmas.List.FromFn.{length-range_with_len}
use Rattle.zk_model.specs.ArithProgram.{arith_claims, arith_program}
use Rattle.zk_model.specs.Arithmetic.{Arith, asserted, first_output}
use Rattle.zk_model.specs.Program.{Program}
use Rattle.std.specs.List.{range_with_len}
use Rattle.zk_model.specs.Statement.{IsStatement, arith_statement}
use Rattle.zk_model.specs.declared.StatementKind.TheVariants.{Arithmetic}
use Rattle.session_core.specs.Jobs.{statement_of}
use Rattle.session_core.proofs.circuit_claim.CircuitClaim.of_arith.Goals as goal

-- how many wires are opened
opened_count : (circuit : Arith) → length (arith_program circuit).opened ≡ circuit.outputs + length (asserted circuit)
opened_count circuit = length-append (range_with_len (first_output circuit) circuit.outputs) (asserted circuit)
    ∙ ap (λ n. n + length (asserted circuit)) (length-range_with_len (first_output circuit) circuit.outputs)

-- the claims are the outputs, and 0 for each assertion
claims_of : (circuit : Arith) (outputs claims : List ℕ) (program : Program) (opened : ℕ) → program ≡ arith_program circuit → opened ≡ length program.opened
    → length outputs ≡ circuit.outputs → claims ≡ outputs ++ replicate (opened - length outputs) 0 → claims ≡ arith_claims circuit outputs
claims_of circuit outputs claims program opened is count some are =
    let left : opened - length outputs ≡ length (asserted circuit) =
    omega (arith, count, ap (λ (p : Program). length p.opened) is, opened_count circuit, some) in
    are ∙ ap (λ n. outputs ++ replicate n 0) left

pub claimed_values-requires : goal.claimed_values-requires
claimed_values-requires c =
    let opened = ap length c.opened.ensures.opened ∙ ap (λ (p : Program). length p.opened) c.in_ok-program.ensures in
    omega (arith, opened, opened_count c.args.circuit, c.requires.outputs)

-- its statement is that of the circuit
stated : (c : goal.After-new)
    → statement_of Arithmetic c.in_ok-program.program c.new.result.items c.in_ok-claims.claims.items c.args.digest c.in_ok-claimed.claimed c.in_ok-named.named
    ≡ arith_statement c.args.circuit c.args.digest c.args.outputs.now
stated c = λ i. record {
  kind = Arithmetic;
  program = c.in_ok-program.ensures i;
  public = c.new.ensures.items i;
  claims = claims_of c.args.circuit c.args.outputs.now c.in_ok-claims.claims.items c.in_ok-program.program (length c.opened.result.now) c.in_ok-program.ensures
      (ap length c.opened.ensures.opened) c.requires.outputs c.in_ok-claims.ensures i;
  circuit = c.args.digest;
  outputs = c.in_ok-claimed.ensures.digest i;
  public_digest = c.in_ok-named.ensures i;
}

pub invariant_of-result : goal.invariant_of-result
invariant_of-result c = (
  c.in_ok-plan.ensures.plan,
  subst IsStatement (sym (stated c))
      (c.arith_is_statement.ensures c.args.circuit c.args.digest c.args.outputs.now c.wires-wires.ensures.rules.well_formed c.requires.digest
      c.in_ok-claimed.ensures.range c.requires.outputs),
)

pub returns : goal.returns
returns c = stated c
