use Rattle.std.proofs.Common.{◌≡◌, List, ℕ, Some, IfSome, ap, sym, ◌∙◌, subst, arith}
use Rattle.zk_port.specs.Images.{Only}
use Rattle.zk_model.specs.declared.JournalKind.TheVariants.{Claims}
use Rattle.lease_journal.specs.Twins.{HoldsTwin, SaysTwin}
use Rattle.twin_journal.specs.Starts.{AreTidy}
use Rattle.twin_journal.proofs.TidyFiles.{said_is_tidy}
use Rattle.claim_store.specs.Claims.{SaysClaims}
use Rattle.store_tests.specs.declared.tests.disks.TheConstants.{ID}
use Rattle.store_tests.proofs.tests.claim_tests.claimed_on.Goals as goal

pub returns-clause-tidy : goal.returns-clause-tidy
returns-clause-tidy g c = λ first was bytes is.
    let old = c.in-Ok.store in
    let new = c.claim.new.self in
    let e = c.in-Ok-claim.ensures in
    let before : (g.B.Disk.state c.in-Ok.store.disk).content ≡ Some first = c.in-Ok.ensures.stays.content ∙ was in
    let now : (g.B.Disk.state c.claim.new.self.disk).content ≡ Some bytes = ap (λ d. (g.B.Disk.state d).content) (sym c.close.ensures.disk) ∙ is in
    let holds : HoldsTwin Claims ID 10 old.begin old.slots first = c.in-Ok.ensures.holds first was in
    let still : HoldsTwin Claims ID 10 old.begin old.slots bytes =
    subst (λ o. IfSome o (HoldsTwin Claims ID 10 old.begin old.slots)) now
    ((e.holds ID 10).content (subst (λ o. IfSome o (HoldsTwin Claims ID 10 old.begin old.slots)) (sym before) holds)) in
    let says = subst (λ o. IfSome o (λ b. SaysClaims new.total new.begin new.slots new.claims b
    × ((image : List ℕ) → (g.B.Disk.state new.disk).images image → SaysClaims new.total new.begin new.slots new.claims image)))
    now (e.durable (omega (arith, c.in-Ok.ensures.total))) in
    let one = says.0 in
    let there : SaysTwin old.begin old.slots one.generation one.bodies bytes =
    subst (λ (n : ℕ × ℕ). SaysTwin n.0 n.1 one.generation one.bodies bytes) (λ i. (e.begin i, e.slots i)) one.says in
    said_is_tidy Claims ID 10 old.begin old.slots one.generation one.bodies bytes still there

pub returns-clause-images : goal.returns-clause-images
returns-clause-images g c = λ first was bytes is image left.
    let now : (g.B.Disk.state c.claim.new.self.disk).content ≡ Some bytes = ap (λ d. (g.B.Disk.state d).content) (sym c.close.ensures.disk) ∙ is in
    let here = subst (λ d. (g.B.Disk.state d).images image) c.close.ensures.disk left in
    let same : image ≡ bytes = subst (λ o. Only o (g.B.Disk.state c.claim.new.self.disk).images) now c.in-Ok-claim.ensures.only image here in
    subst AreTidy (sym same) (returns-clause-tidy g c first was bytes is)

pub start-requires-clause-tidy : goal.start-requires-clause-tidy
start-requires-clause-tidy g c = λ bytes is. c.requires.tidy bytes is Claims ID 10
