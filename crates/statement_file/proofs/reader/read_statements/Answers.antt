use Rattle.std.proofs.Common.{rules, ◌≡◌, List, length, Some, None, sym, ap, ◌∙◌, subst, arith, inl, inr}
use Rattle.std.proofs.lemmas.Bool.Decides.{nat_tests}
use Rattle.statement_file.specs.Claims.{NamedClaim, claim_of_line}
use Rattle.statement_file.proofs.Reading.{Reads, begins, step_kept, all_kept, kept_few, all_read, bad_line, good_lines}
use Rattle.statement_file.proofs.reader.read_statements.Goals as goal

pub loop-rest-init : goal.loop-rest-init
loop-rest-init c = subst (λ (kept : List NamedClaim). Reads c.args.text.now c.args.text.now 0 kept) (sym c.new-claims.ensures.items) (begins c.args.text.now)

pub returns-in_default-clause-fault : goal.returns-in_default-clause-fault
returns-in_default-clause-fault c =
    let none : None ≡ claim_of_line c.first_line.result.0.now = search rules in
    bad_line c.args.text.now c.loop-rest.rest.now c.first_line.result.0.now c.first_line.result.1.now c.loop-rest.count c.loop-rest.claims.items
    c.loop-rest.invariant c.first_line.ensures.lines none

pub loop-rest-preserved : goal.loop-rest-preserved
loop-rest-preserved c =
    let is : Some c.in-Some.claim ≡ claim_of_line c.first_line.result.0.now = search rules in
    step_kept c.args.text.now c.loop-rest.rest.now c.first_line.result.0.now c.first_line.result.1.now c.loop-rest.count c.loop-rest.claims.items _
    c.in-Some.claim c.loop-rest.invariant c.first_line.ensures.lines c.first_line.ensures.shorter is c.in_ok-keep.ensures

pub keep-requires : goal.keep-requires
keep-requires c = kept_few c.args.text.now c.loop-rest.rest.now c.loop-rest.count c.loop-rest.claims.items c.loop-rest.invariant

pub returns-then-count-eq0-clause-fault : goal.returns-then-count-eq0-clause-fault
returns-then-count-eq0-clause-fault c =
    let text = c.args.text.now in
    let rest = c.loop-rest.rest.now in
    let is = c.loop-rest.invariant in
    let none : length rest ≡ 0 = grind (arith, nat_tests) in (
      good_lines text rest c.loop-rest.count c.loop-rest.claims.items is none,
      sym is.counted ∙ sym (ap length (all_read text rest c.loop-rest.count c.loop-rest.claims.items is none)),
      (elim c.then-count-eq0.either [ inl zero ↦ inl zero | inr more ↦ inr more.1 ]),
    )

pub returns-clause-claims : goal.returns-clause-claims
returns-clause-claims c =
    let none : length c.loop-rest.rest.now ≡ 0 = grind (arith, nat_tests) in
    all_kept c.args.text.now c.loop-rest.rest.now c.loop-rest.count c.loop-rest.claims.items c.loop-rest.invariant none (omega arith) (omega arith)
