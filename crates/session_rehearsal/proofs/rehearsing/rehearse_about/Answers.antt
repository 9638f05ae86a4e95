use Rattle.std.proofs.Common.{◌≡◌, ◌∙◌, ℕ, ap, subst, length, rules}
use Rattle.zk_model.specs.Program.{Program, section_count, correlations_needed}
use Rattle.zk_model.specs.HonestProver.{IsWitness}
use Rattle.field_program.specs.Programs.{IsSmallProgram}
use Rattle.wire_auth.specs.Values.{given_made}
use Rattle.zk_model.specs.Transcript.{units_for}
use Rattle.zk_model.specs.declared.Kind.{Kind}
use Rattle.zk_model.specs.declared.Params.{Params}
use Rattle.session_rehearsal.specs.Rehearsals.{rehearsed_params, units_rehearsed}
use Rattle.session_rehearsal.proofs.Rehearsed.{accepted_session, only_given, units_are, session_ends}
use Rattle.session_rehearsal.proofs.rehearsing.rehearse_about.Goals as goal

-- what a rehearsal takes
need_is : (program other : Program) (section g need : ℕ) → program ≡ other → g ≡ section → need ≡ correlations_needed program g
    → need ≡ correlations_needed other section
need_is program other section g need is same counted = counted ∙ (λ i. correlations_needed (is i) (same i))

units_counted : (params : Params) (kind : Kind) (need wanted units : ℕ) → params ≡ rehearsed_params kind 1 → need ≡ wanted → units ≡ units_for params need
    → units ≡ units_rehearsed kind wanted
units_counted params kind need wanted units is needed counted =
    counted ∙ ap (λ (p : Params). units_for p need) is ∙ units_are kind 1 0 need ∙ ap (units_for (rehearsed_params kind 0)) needed

pub returns-then-units-gt-MAX_UNITS-clause-cause : goal.returns-then-units-gt-MAX_UNITS-clause-cause
returns-then-units-gt-MAX_UNITS-clause-cause g c =
    let need = need_is c.program-program.result.now c.args.statement.now.program c.args.section c.from-g.result c.need-need.result c.program-program.ensures.program
    c.from-g.ensures c.need-need.ensures in
    record {
      needed = need;
      counted = units_counted c.rehearsed_params.result c.args.kind c.need-need.result _ c.units_for-units.result c.rehearsed_params.ensures need c.units_for-units.ensures;
      many = search rules;
    }

pub returns-clause-done : goal.returns-clause-done
returns-clause-done g c wires given witness claims =
    let program = c.program-program.ensures.program in
    let need = need_is c.program-program.result.now c.args.statement.now.program c.args.section c.from-g.result c.need-need.result program
    c.from-g.ensures c.need-need.ensures in
    let made : IsWitness c.args.statement.now c.args.inputs.now wires (given_made c.args.statement.now.program c.args.statement.now.public c.args.inputs.now) =
    subst (IsWitness c.args.statement.now c.args.inputs.now wires)
    (only_given c.args.statement.now c.args.inputs.now wires given c.program-program.ensures.stated (subst IsSmallProgram program c.products.ensures.held)
    c.requires.inputs witness)
    witness in
    let accepted = accepted_session c.args.statement.now c.args.inputs.now wires c.args.kind c.args.section c.units_for-units.result c.args.seed.now
    c.in_ok-exchange.exchange.verdict c.in_ok-log.log c.honest_session_is_accepted.ensures made claims c.in_ok-exchange.ensures.files
    (c.in_ok-exchange.ensures.held c.in_ok-log.log c.in_ok-log.ensures) in
    record {
      products = c.products.ensures.count ∙ ap (λ (p : Program). length p.products) program;
      sections = c.sections.ensures ∙ (λ i. section_count (program i) (c.from-g.ensures i));
      need = need;
      units = units_counted c.rehearsed_params.result c.args.kind c.need-need.result _ c.units_for-units.result c.rehearsed_params.ensures need c.units_for-units.ensures;
      units_most = search rules;
      transcript = accepted.transcript;
      session = accepted.session;
      ends = session_ends _ accepted.transcript _ _ accepted.session.served;
      accepted = accepted.accepted;
    }
