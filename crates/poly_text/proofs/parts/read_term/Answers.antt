use Rattle.std.proofs.Common.{ap, arith, ◌∙◌}
use Rattle.poly_model.specs.declared.limits.TheConstants.{MAX_FACTORS}
use Rattle.poly_text.specs.TextFaults.{factor_of, next, term_at}
use Rattle.poly_text.specs.Steps.{Refuses}
use Rattle.poly_text.proofs.Exits.{raised}
use Rattle.poly_text.proofs.Items.{counted_given, counted_refused, factors_refused, one_more, term_given}
use Rattle.poly_text.proofs.parts.read_term.Goals as goal

pub returns-in_err-number-clause-fault : goal.returns-in_err-number-clause-fault
returns-in_err-number-clause-fault c =
    let variables = c.args.variables in
    raised (Refuses (term_at variables) c.args.tokens.now) c.from_residual-in_err-number.result c.in_err-number.field-0.0 c.from_residual-in_err-number.ensures.1
    (factors_refused variables c.args.tokens.now c.coefficient.new.tokens c.in_ok-coefficient.coefficient c.in_err-number.field-0.0 c.in_ok-coefficient.ensures.number
    (counted_refused MAX_FACTORS (next (factor_of variables)) c.coefficient.new.tokens c.count.new.tokens c.factors.tokens c.in_ok-count.count c.factors.counter
    c.factors.term.factors c.in_err-number.field-0.0 c.in_ok-count.ensures.number (omega arith) c.in_err-number.ensures.fault c.factors.invariant.so_far))

pub factors-preserved : goal.factors-preserved
factors-preserved c = record {
  so_far = one_more (next (factor_of c.args.variables)) c.in_ok-count.count c.count.new.tokens c.factors.tokens c.factor.new.tokens c.factors.term.factors c.push.new.self.factors
      c.in_ok-number.number c.factors.counter (ap (λ t. t.factors) c.push.ensures) c.in_ok-number.ensures.number c.factors.invariant.so_far;
  same = ap (λ t. t.coefficient) c.push.ensures ∙ c.factors.invariant.same;
}

pub returns-clause-term : goal.returns-clause-term
returns-clause-term c =
    let variables = c.args.variables in
    term_given variables c.args.tokens.now c.coefficient.new.tokens c.factors.tokens c.in_ok-coefficient.coefficient c.factors.term c.in_ok-coefficient.ensures.number
    (counted_given MAX_FACTORS (next (factor_of variables)) c.coefficient.new.tokens c.count.new.tokens c.factors.tokens c.in_ok-count.count c.factors.counter
    c.factors.term.factors c.in_ok-count.ensures.number (omega arith) c.factors.invariant.so_far)
    (c.factors.invariant.same ∙ ap (λ t. t.coefficient) c.new-term.ensures)
