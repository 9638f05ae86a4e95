use Rattle.std.proofs.Common.{◌≤◌, List, length, ℕ, arith, sym, ◌∙◌, ap, subst}
use Rattle.std.specs.Prelude.{IfSome, IfNone}
use Rattle.zk_model.specs.Program.{Program, section_count, correlations_needed}
use Rattle.zk_model.specs.Statement.{Statement}
use Rattle.field_program.specs.Programs.{IsSmallProgram}
use Rattle.proof_audit.specs.Seen.{AreSeenPairs}
use Rattle.proof_audit.specs.SeenWires.{SeenSide}
use Rattle.proof_audit.specs.Searches.{SectionsMeet, OpeningsMeet, NoErrorsBefore, AreAsClaimedBefore, ShowsFirstSection, ShowsFirstOpening}
use Rattle.proof_audit.proofs.Audited.{are_known, pairs_whole, pairs_enough, as_seen, sections_meet, openings_meet, gives_section, gives_opening, gives_inputs, inputs_seen, few_sections}
use Rattle.proof_audit.proofs.auditing.session_finding.Goals as goal

pub seen_pairs-requires : goal.seen_pairs-requires
seen_pairs-requires c = (c.requires.audited.0, c.requires.audited.3, c.requires.audited.2)

pub see-requires-clause-pairs : goal.see-requires-clause-pairs
see-requires-clause-pairs c =
    let seen = subst (AreSeenPairs c.args.prover.now c.args.session.now) (sym c.as_slice-pairs.ensures) c.in_ok-held.ensures in
    let enough = pairs_enough c.args.prover.now c.requires.audited.0 c.args.session.now c.as_slice-pairs.result.now c.requires.audited.2 seen in
    let same = ap (λ (st : Statement). st.program.givens) c.requires.audited.1 in
    omega (arith, enough, same)

pub see-requires-clause-elements : goal.see-requires-clause-elements
see-requires-clause-elements c =
    let seen = subst (AreSeenPairs c.args.prover.now c.args.session.now) (sym c.as_slice-pairs.ensures) c.in_ok-held.ensures in
    (pairs_whole c.args.prover.now c.requires.audited.0 c.args.session.now c.as_slice-pairs.result.now c.requires.audited.2 seen).elements

pub first_wrong_section-requires-clause-pairs : goal.first_wrong_section-requires-clause-pairs
first_wrong_section-requires-clause-pairs c =
    let seen = subst (AreSeenPairs c.args.prover.now c.args.session.now) (sym c.as_slice-pairs.ensures) c.in_ok-held.ensures in
    subst (λ (program : Program). correlations_needed program c.args.session.now.grant.section_length ≤ length c.as_slice-pairs.result.now)
    (ap (λ (st : Statement). st.program) c.requires.audited.1 ∙ sym c.in_ok-wires.ensures.program)
    (pairs_enough c.args.prover.now c.requires.audited.0 c.args.session.now c.as_slice-pairs.result.now c.requires.audited.2 seen)

pub first_wrong_section-requires-clause-few : goal.first_wrong_section-requires-clause-few
first_wrong_section-requires-clause-few c =
    let small = subst IsSmallProgram c.program.ensures c.products-products.ensures.held in
    few_sections (length c.in_ok-wires.wires.program.products) c.args.session.now.grant.section_length
    c.requires.audited.2.served.in_order.transcript.commitment.setup.grant.section_some small.products

pub first_wrong_section-requires-clause-met : goal.first_wrong_section-requires-clause-met
first_wrong_section-requires-clause-met c =
    let known = are_known c.args.prover.now c.args.statement.now c.args.session.now _ c.as_slice-pairs.result.now _ c.in_ok-wires.wires c.in_ok-held.ensures
    c.as_slice-pairs.ensures c.in_ok-wires.ensures.program c.in_ok-wires.ensures.given c.deref.ensures.value c.in_ok-wires.ensures.carried in
    let both = as_seen c.args.prover.now c.requires.audited.0 c.args.statement.now c.args.session.now c.as_slice-pairs.result.now c.in_ok-wires.wires known c.requires.audited.1 c.requires.audited.2 in let are = both.0 in let side = both.1 in
    subst (λ (side : SeenSide). SectionsMeet side c.as_slice-pairs.result.now c.args.session.now) (sym side)
    (sections_meet c.args.prover.now c.requires.audited.0 c.args.session.now c.as_slice-pairs.result.now c.in_ok-wires.wires.pairs are)

pub returns-in-Some : goal.returns-in-Some
returns-in-Some c = λ task same audited.
    let known = are_known c.args.prover.now c.args.statement.now c.args.session.now _ c.as_slice-pairs.result.now _ c.in_ok-wires.wires c.in_ok-held.ensures
    c.as_slice-pairs.ensures c.in_ok-wires.ensures.program c.in_ok-wires.ensures.given c.deref.ensures.value c.in_ok-wires.ensures.carried in
    let both = as_seen c.args.prover.now task c.args.statement.now c.args.session.now c.as_slice-pairs.result.now c.in_ok-wires.wires known same audited in let are = both.0 in let side = both.1 in
    gives_section c.args.prover.now task c.args.session.now c.as_slice-pairs.result.now c.in_ok-wires.wires.pairs are c.in-Some.finding
    (subst (λ (side : SeenSide). ShowsFirstSection side c.as_slice-pairs.result.now c.args.session.now c.in-Some.finding) side
    (subst (λ o. IfSome o (ShowsFirstSection c.in_ok-wires.wires c.as_slice-pairs.result.now c.args.session.now)) c.in-Some.is c.in_ok-of_section.ensures.some))

pub first_wrong_output-requires-clause-met : goal.first_wrong_output-requires-clause-met
first_wrong_output-requires-clause-met c =
    let known = are_known c.args.prover.now c.args.statement.now c.args.session.now _ c.as_slice-pairs.result.now _ c.in_ok-wires.wires c.in_ok-held.ensures
    c.as_slice-pairs.ensures c.in_ok-wires.ensures.program c.in_ok-wires.ensures.given c.deref.ensures.value c.in_ok-wires.ensures.carried in
    let both = as_seen c.args.prover.now c.requires.audited.0 c.args.statement.now c.args.session.now c.as_slice-pairs.result.now c.in_ok-wires.wires known c.requires.audited.1 c.requires.audited.2 in let are = both.0 in let side = both.1 in
    subst (λ (q : SeenSide × List ℕ). OpeningsMeet q.0 c.args.session.now.openings.items q.1)
    (λ i. (sym side i, (ap (λ (st : Statement). st.claims) c.requires.audited.1 ∙ sym c.claims.ensures.claims) i))
    (openings_meet c.args.prover.now c.requires.audited.0 c.args.session.now c.as_slice-pairs.result.now c.in_ok-wires.wires.pairs are)

pub returns-in-Some-of_output : goal.returns-in-Some-of_output
returns-in-Some-of_output c = λ task same audited.
    let known = are_known c.args.prover.now c.args.statement.now c.args.session.now _ c.as_slice-pairs.result.now _ c.in_ok-wires.wires c.in_ok-held.ensures
    c.as_slice-pairs.ensures c.in_ok-wires.ensures.program c.in_ok-wires.ensures.given c.deref.ensures.value c.in_ok-wires.ensures.carried in
    let both = as_seen c.args.prover.now task c.args.statement.now c.args.session.now c.as_slice-pairs.result.now c.in_ok-wires.wires known same audited in let are = both.0 in let side = both.1 in
    let right = subst (λ (side : SeenSide). NoErrorsBefore side c.args.session.now (section_count side.program c.args.session.now.grant.section_length)) side
    (subst (λ o. IfNone o (NoErrorsBefore c.in_ok-wires.wires c.args.session.now
    (section_count c.in_ok-wires.wires.program c.args.session.now.grant.section_length))) c.in_default.is c.in_ok-of_section.ensures.none) in
    let found = subst (λ (q : SeenSide × List ℕ). ShowsFirstOpening q.0 q.1 c.args.session.now c.in-Some-of_output.finding) (λ i. (side i, sym (ap (λ (st : Statement). st.claims) same ∙ sym c.claims.ensures.claims) i))
    (subst (λ o. IfSome o (ShowsFirstOpening c.in_ok-wires.wires c.claims.result.now c.args.session.now)) c.in-Some-of_output.is
    c.in_ok-of_output.ensures.some) in
    gives_opening c.args.prover.now task c.args.session.now c.as_slice-pairs.result.now c.in_ok-wires.wires.pairs found.0 are c.in-Some-of_output.finding right found.1 found.2

pub returns : goal.returns
returns c = λ task same audited.
    let known = are_known c.args.prover.now c.args.statement.now c.args.session.now _ c.as_slice-pairs.result.now _ c.in_ok-wires.wires c.in_ok-held.ensures
    c.as_slice-pairs.ensures c.in_ok-wires.ensures.program c.in_ok-wires.ensures.given c.deref.ensures.value c.in_ok-wires.ensures.carried in
    let both = as_seen c.args.prover.now task c.args.statement.now c.args.session.now c.as_slice-pairs.result.now c.in_ok-wires.wires known same audited in let are = both.0 in let side = both.1 in
    let claimed = subst (λ (q : SeenSide × List ℕ). AreAsClaimedBefore q.0 q.1 (length q.0.program.opened)) (λ i. (side i, sym (ap (λ (st : Statement). st.claims) same ∙ sym c.claims.ensures.claims) i))
    (subst (λ o. IfNone o (AreAsClaimedBefore c.in_ok-wires.wires c.claims.result.now (length c.in_ok-wires.wires.program.opened)))
    c.in_default-of_output.is c.in_ok-of_output.ensures.none) in
    let right = subst (λ (side : SeenSide). NoErrorsBefore side c.args.session.now (section_count side.program c.args.session.now.grant.section_length)) side
    (subst (λ o. IfNone o (NoErrorsBefore c.in_ok-wires.wires c.args.session.now
    (section_count c.in_ok-wires.wires.program c.args.session.now.grant.section_length))) c.in_default.is c.in_ok-of_section.ensures.none) in
    gives_inputs c.args.prover.now task c.args.session.now c.as_slice-pairs.result.now c.in_ok-wires.wires.pairs c.in_ok-inputs.inputs.items are right claimed
    (inputs_seen c.args.prover.now task c.args.statement.now c.args.session.now c.as_slice-pairs.result.now c.in_ok-wires.wires _ _ c.in_ok-inputs.inputs.items
    known same (c.inputs-count.ensures.count ∙ ap (λ (p : Program). p.inputs) c.program-2.ensures) c.deref-2.ensures.value c.in_ok-inputs.ensures)
