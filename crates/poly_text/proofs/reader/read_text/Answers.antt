use Rattle.std.proofs.Common.{ap, arith, ◌∙◌}
use Rattle.poly_model.specs.declared.limits.TheConstants.{MAX_CONSTRAINTS}
use Rattle.poly_text.specs.TextFaults.{polynomial_at}
use Rattle.poly_text.specs.Steps.{TextCause}
use Rattle.poly_text.specs.declared.fault.ReadError.TheVariants.{Fault}
use Rattle.poly_text.proofs.Exits.{raised}
use Rattle.poly_text.proofs.Items.{count_refused, one_more}
use Rattle.poly_text.proofs.Texts.{constraints_read, extra, no_polynomial, no_polynomials, no_variables, whole}
use Rattle.poly_text.proofs.reader.read_text.Goals as goal

pub returns-in_err-variables-clause-cause : goal.returns-in_err-variables-clause-cause
returns-in_err-variables-clause-cause c =
    raised (TextCause c.args.text.now) c.from_residual.result (Fault c.in_err-variables.field-0.0) c.from_residual.ensures.1
    (no_variables c.args.text.now c.new-tokens.result c.in_err-variables.field-0.0 c.new-tokens.ensures c.in_err-variables.ensures.fault)

pub returns-in_err-constraints-clause-cause : goal.returns-in_err-constraints-clause-cause
returns-in_err-constraints-clause-cause c =
    let variables = c.in_ok-variables.variables in
    raised (TextCause c.args.text.now) c.from_residual-in_err-constraints.result (Fault c.in_err-constraints.field-0.0) c.from_residual-in_err-constraints.ensures.1
    (no_polynomials c.args.text.now variables c.new-tokens.result c.count.new.tokens c.in_err-constraints.field-0.0 c.new-tokens.ensures c.in_ok-variables.ensures.number
    (count_refused MAX_CONSTRAINTS (polynomial_at variables) c.count.new.tokens c.in_err-constraints.field-0.0 c.in_err-constraints.ensures.fault))

pub returns-in_err-polynomial-clause-cause : goal.returns-in_err-polynomial-clause-cause
returns-in_err-polynomial-clause-cause c =
    raised (TextCause c.args.text.now) c.from_residual-in_err-polynomial.result c.in_err-polynomial.field-0.0 c.from_residual-in_err-polynomial.ensures.1
    (no_polynomial c.args.text.now c.in_ok-variables.variables c.new-tokens.result c.count.new.tokens c.count-2.new.tokens c.constraints.tokens c.in_ok-constraints.constraints
    c.constraints.counter c.constraints.polys.polynomials c.in_err-polynomial.field-0.0 c.new-tokens.ensures c.in_ok-variables.ensures.number c.in_ok-constraints.ensures.number
    (omega arith) c.constraints.invariant.so_far c.in_err-polynomial.ensures.cause)

pub constraints-preserved : goal.constraints-preserved
constraints-preserved c = record {
  so_far = one_more (polynomial_at c.in_ok-variables.variables) c.in_ok-constraints.constraints c.count-2.new.tokens c.constraints.tokens c.read_polynomial.new.tokens
      c.constraints.polys.polynomials c.push.new.self.polynomials c.in_ok-polynomial.polynomial c.constraints.counter
      (ap (λ p. p.polynomials) c.in_ok-push.ensures.pushed) c.in_ok-polynomial.ensures.polynomial c.constraints.invariant.so_far;
  same = ap (λ p. p.variables) c.in_ok-push.ensures.pushed ∙ c.constraints.invariant.same;
}

pub returns-in_err-end-clause-cause : goal.returns-in_err-end-clause-cause
returns-in_err-end-clause-cause c =
    raised (TextCause c.args.text.now) c.from_residual-in_err-end.result (Fault c.in_err-end.field-0.0) c.from_residual-in_err-end.ensures.1
    (extra c.args.text.now c.new-tokens.result c.constraints.tokens c.constraints.polys c.in_err-end.field-0.0 c.new-tokens.ensures
    (constraints_read c.in_ok-variables.variables c.new-tokens.result c.count.new.tokens c.count-2.new.tokens c.constraints.tokens c.in_ok-constraints.constraints
    c.constraints.counter c.constraints.polys c.in_ok-variables.ensures.number c.in_ok-constraints.ensures.number (omega arith) c.constraints.invariant.so_far
    (c.constraints.invariant.same ∙ ap (λ p. p.variables) c.new-polys.ensures)) c.in_err-end.ensures.fault)

pub returns-clause-found : goal.returns-clause-found
returns-clause-found c =
    whole c.args.text.now c.new-tokens.result c.constraints.tokens c.constraints.polys c.new-tokens.ensures
    (constraints_read c.in_ok-variables.variables c.new-tokens.result c.count.new.tokens c.count-2.new.tokens c.constraints.tokens c.in_ok-constraints.constraints
    c.constraints.counter c.constraints.polys c.in_ok-variables.ensures.number c.in_ok-constraints.ensures.number (omega arith) c.constraints.invariant.so_far
    (c.constraints.invariant.same ∙ ap (λ p. p.variables) c.new-polys.ensures)) c.in_ok-end.ensures.none
