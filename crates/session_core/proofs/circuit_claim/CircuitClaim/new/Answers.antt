use Rattle.std.proofs.Common.{sym, subst}
use Rattle.zk_model.specs.Statement.{IsStatement}
use Rattle.zk_model.specs.declared.StatementKind.TheVariants.{Boolean}
use Rattle.session_core.proofs.circuit_claim.CircuitClaim.new.Goals as goal

pub invariant_of-result : goal.invariant_of-result
invariant_of-result c = (
  c.in_ok-plan.ensures.plan,
  subst IsStatement
      (λ i. record {
        kind = Boolean;
        program = sym c.in_ok-program.ensures i;
        public = sym c.in_ok-values.ensures i;
        claims = sym c.in_ok-claims.ensures i;
        circuit = c.args.digest;
        outputs = sym c.in_ok-claimed.ensures i;
        public_digest = sym c.in_ok-named.ensures i;
      })
      (c.circuit_is_statement.ensures c.args.circuit c.args.digest c.args.public.now c.args.outputs.now c.wires-wires.ensures.rules.well_formed
      c.requires.digest c.requires.public c.requires.outputs),
)
