use Rattle.std.proofs.Common.{◌∙◌, ap, sym}
use Rattle.field_program.specs.Counts.{unchecked}
use Rattle.field_program.proofs.Numbered.{unchecked_is}
use Rattle.field_program.proofs.program.FieldProgram.unchecked.Goals as goal

pub returns-clause-count : goal.returns-clause-count
returns-clause-count c =
    sym (unchecked_is c.self.inside.wires c.self.inside.public c.self.inside.inputs c.self.inside.unchecked c.self.inside.rules.items c.self.inside.tables
    c.self.inside.opened.items c.self.invariant.2)
    ∙ ap unchecked c.self.view_is
