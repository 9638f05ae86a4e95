use Rattle.std.proofs.Common.{◌≡◌, ◌≤◌, ◌+◌, ◌*◌, ◌^◌, ℕ, List, true, false, ap, sym, ◌∙◌, subst, arith}
use Rattle.lease_journal.specs.Twins.{is_migrated}
use Rattle.lease_journal.specs.Headers.{IsRead, NoHeaderCause}
use Rattle.lease_journal.proofs.Headers.{slots_read}
use Rattle.lease_journal.proofs.MovedHeaders.{few_moved, migrated_read, moved_header, moved_wrong}
use Rattle.twin_journal.proofs.MovedHeaders.{begins_behind, begins_first, short_plain}
use Rattle.twin_journal.proofs.beginning.find_begin.Given.{Over}
use Rattle.twin_journal.proofs.beginning.find_begin.Goals.{After-first_wrong_beside_gate, After-is_migrated, After-word_at}
use Rattle.twin_journal.proofs.beginning.find_begin.Goals as goal

-- a file whose first bytes say so was migrated
moved : (g : Over) (c : After-first_wrong_beside_gate g) (bytes : List ℕ) → IsRead c.in-Ok.header bytes 0 64 → is_migrated c.args.name.kind bytes ≡ true
moved g c bytes read =
    sym (migrated_read c.args.name.kind c.args.name.id c.args.name.total c.in-Ok.header bytes read) ∙ sym c.is_migrated.ensures ∙ c.if-not-is_migrated.false

-- its header says few slots
few : (g : Over) (c : After-word_at g) → c.word_at.result ≤ 2 ^ 28
few g c = omega (
  arith,
  c.word_at.ensures,
  few_moved c.args.name.kind c.args.name.id c.args.name.total c.in-Ok.header _ c.in_default.is c.first_wrong_beside_gate.ensures,
)

pub returns-in-Err-Short-clause-begin : goal.returns-in-Err-Short-clause-begin
returns-in-Err-Short-clause-begin g c = λ bytes is.
    sym (begins_first c.args.name.kind bytes (short_plain c.args.name.kind bytes (subst (NoHeaderCause (λ _. ⊥) 0 bytes) c.in-Err-Short.field-0-is (c.in-Err-Short.ensures.cause bytes is)).2))

-- nor was one whose first bytes do not say so
plain : (g : Over) (c : After-is_migrated g) (bytes : List ℕ) → IsRead c.in-Ok.header bytes 0 64 → c.is_migrated.result ≡ false → is_migrated c.args.name.kind bytes ≡ false
plain g c bytes read is =
    sym (migrated_read c.args.name.kind c.args.name.id c.args.name.total c.in-Ok.header bytes read) ∙ sym c.is_migrated.ensures ∙ is

not_both : false ≡ true → ⊥
not_both e = cc e

pub returns-then-not-is_migrated-clause-begin : goal.returns-then-not-is_migrated-clause-begin
returns-then-not-is_migrated-clause-begin g c = λ bytes is.
    sym (begins_first c.args.name.kind bytes (plain g (goal.at.returns-then-not-is_migrated-clause-begin g c).After-is_migrated bytes (c.in-Ok.ensures.read bytes is) c.if-not-is_migrated.true))

pub returns-then-not-is_migrated-clause-moved : goal.returns-then-not-is_migrated-clause-moved
returns-then-not-is_migrated-clause-moved g c = λ bytes is moved.
    let here = plain g (goal.at.returns-then-not-is_migrated-clause-moved g c).After-is_migrated bytes (c.in-Ok.ensures.read bytes is) c.if-not-is_migrated.true in
    absurd (not_both (sym here ∙ moved))

pub returns-in-Some-clause-cause : goal.returns-in-Some-clause-cause
returns-in-Some-clause-cause g c = λ bytes is.
    let name = c.args.name in
    let read = c.in-Ok.ensures.read bytes is in (
      moved g (goal.at.returns-in-Some-clause-cause g c).After-first_wrong_beside_gate bytes read,
      moved_wrong name.kind name.id name.total c.in-Ok.header bytes read _ c.in-Some.place c.in-Some.is c.first_wrong_beside_gate.ensures,
    )

pub overflow_mul-result : goal.overflow_mul-result
overflow_mul-result g c = omega (arith, few g c)

pub overflow_add-result : goal.overflow_add-result
overflow_add-result g c = omega (arith, few g c)

pub returns-clause-low : goal.returns-clause-low
returns-clause-low g c = omega (arith, few g c)

pub returns-clause-begin : goal.returns-clause-begin
returns-clause-begin g c = λ bytes is.
    let read = c.in-Ok.ensures.read bytes is in
    ap (λ n. 64 + 32 * n) (c.word_at.ensures ∙ slots_read 0 c.in-Ok.header bytes read)
    ∙ sym (begins_behind c.args.name.kind bytes (moved g (goal.at.returns-clause-begin g c).After-first_wrong_beside_gate bytes read))

pub returns-clause-moved : goal.returns-clause-moved
returns-clause-moved g c = λ bytes is _.
    let name = c.args.name in
    moved_header name.kind name.id name.total c.in-Ok.header bytes (c.in-Ok.ensures.read bytes is) _ c.in_default.is c.first_wrong_beside_gate.ensures
