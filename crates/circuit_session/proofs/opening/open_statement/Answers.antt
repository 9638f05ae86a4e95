use Rattle.std.proofs.Common.{◌≡◌, take, drop, ap, ◌∙◌}
use Rattle.zk_model.specs.Program.{Program, section_count}
use Rattle.zk_model.specs.Check.{all_sums}
use Rattle.zk_model.specs.Statement.{Statement}
use Rattle.wire_auth.specs.Walks.{ProverWalking, side_made}
use Rattle.session_core.proofs.Masks.{sums_of_few}
use Rattle.circuit_session.specs.Witnesses.{statement_pairs}
use Rattle.circuit_session.proofs.SaidFits.{sums_fit}
use Rattle.circuit_session.proofs.opening.open_statement.Goals as goal

pub returns-clause-sums : goal.returns-clause-sums
returns-clause-sums c =
    let statement : Statement = c.args.statement.now in
    let pairs = c.args.pairs.now in
    let program : c.program-program.result.now ≡ statement.program = c.program-program.ensures.program in
    let public : c.public-public.result.now ≡ statement.public = c.public-public.ensures.public in
    let section : c.from-section_length.result ≡ c.args.section = c.from-section_length.ensures in
    let sections : c.sections-sections.result ≡ section_count statement.program c.args.section =
    c.sections-sections.ensures ∙ (λ i. section_count (program i) (section i)) in
    let givens : c.givens.result ≡ statement.program.givens = c.givens.ensures.count ∙ ap (λ (p : Program). p.givens) program in
    let masks : c.masks_of-masks.result.now ≡ take (section_count statement.program c.args.section) (drop statement.program.givens pairs) =
    c.masks_of-masks.ensures.masks ∙ (λ i. take (sections i) (drop (givens i) pairs)) in
    let side : c.in_ok-walk.walk.side ≡ side_made statement.program statement.public c.args.inputs.now pairs =
    ap (λ (w : ProverWalking). w.side) c.in_ok-walk.ensures ∙ (λ i. side_made (program i) (public i) c.args.inputs.now pairs) in
    c.in_ok-sums.ensures.sums
    ∙ (λ i. all_sums (side i).program (section i) c.args.challenge (side i).pairs (masks i))
    ∙ sums_of_few statement.program c.args.section c.args.challenge (statement_pairs statement c.args.inputs.now pairs) (drop statement.program.givens pairs)

pub returns-clause-sums_fit : goal.returns-clause-sums_fit
returns-clause-sums_fit c =
    sums_fit c.args.statement.now.program c.args.section c.args.challenge _ _ _ (returns-clause-sums c)
