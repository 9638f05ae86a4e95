use Rattle.std.proofs.Common.{arith, subst, sym}
use Rattle.poly_model.specs.declared.limits.TheConstants.{MAX_TERMS}
use Rattle.poly_text.specs.TextFaults.{polynomial_at, term_at}
use Rattle.poly_text.specs.Steps.{Gives, Lacks}
use Rattle.poly_text.specs.declared.fault.ReadError.TheVariants.{Fault}
use Rattle.poly_text.proofs.Exits.{raised}
use Rattle.poly_text.proofs.Items.{counted_given, counted_refused, one_more}
use Rattle.poly_text.proofs.parts.read_polynomial.Goals as goal

pub returns-in_err-term-clause-cause : goal.returns-in_err-term-clause-cause
returns-in_err-term-clause-cause c =
    let variables = c.args.variables in
    raised (Lacks (polynomial_at variables) c.args.tokens.now) c.from_residual-in_err-term.result (Fault c.in_err-term.field-0.0) c.from_residual-in_err-term.ensures.1
    (counted_refused MAX_TERMS (term_at variables) c.args.tokens.now c.count.new.tokens c.terms.tokens c.in_ok-count.count c.terms.counter c.terms.terms.items
    c.in_err-term.field-0.0 c.in_ok-count.ensures.number (omega arith) c.in_err-term.ensures.fault c.terms.invariant)

pub terms-preserved : goal.terms-preserved
terms-preserved c =
    one_more (term_at c.args.variables) c.in_ok-count.count c.count.new.tokens c.terms.tokens c.read_term.new.tokens c.terms.terms.items c.push.new.self.items
    c.in_ok-term.term c.terms.counter c.in_ok-push.ensures.items c.in_ok-term.ensures.term c.terms.invariant

pub returns-clause-polynomial : goal.returns-clause-polynomial
returns-clause-polynomial c =
    let variables = c.args.variables in
    subst (Gives (polynomial_at variables) c.args.tokens.now c.terms.tokens) (sym c.new.ensures)
    (counted_given MAX_TERMS (term_at variables) c.args.tokens.now c.count.new.tokens c.terms.tokens c.in_ok-count.count c.terms.counter c.terms.terms.items
    c.in_ok-count.ensures.number (omega arith) c.terms.invariant)
