use Rattle.std.proofs.Common.{◌∙◌}
use Rattle.mult_check.specs.Checks.{opening_check}
use Rattle.session_core.proofs.Judged.{section_refused}
use Rattle.session_core.proofs.left_sides.judgement_from.Goals as goal

pub returns-in-Err : goal.returns-in-Err
returns-in-Err c side check are one sums opened =
    section_refused check (opening_check side c.args.key c.args.openings.now c.args.claims.now) c.in-Err.differs c.of_section.result
    (c.in-Err.ensures.differs check (c.deref.ensures.value ∙ are) one sums) c.of_section.ensures
