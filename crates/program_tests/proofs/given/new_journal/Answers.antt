use Rattle.std.proofs.Common.{rules, ◌≡◌, ◌∙◌, Some, sym, subst}
use Rattle.twin_journal.specs.Starts.{AreTidy}
use Rattle.program_tests.proofs.given.new_journal.Goals as goal

pub returns : goal.returns
returns c = record {
  tidy = λ bytes is.
      let told : Some bytes ≡ Some c.in_ok-bytes.bytes.items = sym is ∙ c.in_ok-disk.ensures.content in
      let same : bytes ≡ c.in_ok-bytes.bytes.items = cc in
      subst AreTidy (sym same) c.in_ok-bytes.ensures.tidy;
  room = search rules;
  grown = search rules;
}
