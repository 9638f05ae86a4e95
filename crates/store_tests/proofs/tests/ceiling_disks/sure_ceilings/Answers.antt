use Rattle.std.proofs.Common.{◌≡◌, Some, sym, ◌∙◌, subst}
use Rattle.twin_journal.specs.Starts.{AreTidy}
use Rattle.store_tests.proofs.tests.ceiling_disks.sure_ceilings.Goals as goal

pub returns-clause-tidy : goal.returns-clause-tidy
returns-clause-tidy c = λ bytes told.
    let some : Some bytes ≡ Some c.in_ok-bytes.bytes.items = sym told ∙ c.in_ok-new.ensures.content in
    let same : bytes ≡ c.in_ok-bytes.bytes.items = cc in
    subst AreTidy (sym same) c.in_ok-bytes.ensures.tidy
