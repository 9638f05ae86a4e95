use Rattle.std.proofs.Common.{◌≡◌, Some, sym, ◌∙◌, subst, refl}
use Rattle.twin_journal.specs.Starts.{AreTidy}
use Rattle.store_tests.proofs.tests.claim_tests.a_store_starts_where_the_last_one_closed.Goals as goal

pub claimed_on-requires-2-clause-tidy : goal.claimed_on-requires-2-clause-tidy
claimed_on-requires-2-clause-tidy g c = c.in_ok-disk-2.ensures.tidy c.in_ok-disk.disk.bytes.items refl

pub claimed_on-requires-3-clause-tidy : goal.claimed_on-requires-3-clause-tidy
claimed_on-requires-3-clause-tidy g c = c.in_ok-disk-3.ensures.tidy c.in_ok-disk-2.disk.bytes.items refl

pub claimed_on-requires-4-clause-tidy : goal.claimed_on-requires-4-clause-tidy
claimed_on-requires-4-clause-tidy g c = λ bytes is.
    let told : Some bytes ≡ Some c.in_ok-image.image.items = sym is ∙ c.in_ok-disk-5.ensures.content in
    let same : bytes ≡ c.in_ok-image.image.items = cc in
    subst AreTidy (sym same)
    (c.in_ok-disk-4.ensures.images c.in_ok-disk-3.disk.bytes.items refl c.in_ok-disk-4.disk.bytes.items refl c.in_ok-image.image.items c.in_ok-image.ensures.image)
