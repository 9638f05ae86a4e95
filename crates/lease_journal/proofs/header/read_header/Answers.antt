use Rattle.std.proofs.Common.{ap, ◌∙◌, arith}
use Rattle.lease_journal.specs.Journals.{are_slots}
use Rattle.lease_journal.specs.Twins.{IsFirstMovedWrong}
use Rattle.lease_journal.proofs.Headers.{cut_header, slots_read}
use Rattle.lease_journal.proofs.MovedHeaders.{few_moved, migrated_read, moved_header, moved_wrong, right_moved}
use Rattle.lease_journal.proofs.header.read_header.Goals as goal

pub returns-in-Err-clause-cause : goal.returns-in-Err-clause-cause
returns-in-Err-clause-cause g c = λ bytes is.
    let name = c.args.name in
    cut_header (IsFirstMovedWrong name.kind name.id name.total bytes) 0 bytes c.in-Err.fault (c.in-Err.ensures.cause bytes is)

pub returns-in-Some-clause-cause : goal.returns-in-Some-clause-cause
returns-in-Some-clause-cause g c = λ bytes is.
    let name = c.args.name in
    moved_wrong name.kind name.id name.total c.in-Ok.header bytes (c.in-Ok.ensures.read bytes is) _ c.in-Some.place c.in-Some.is c.first_wrong_beside_gate.ensures

pub returns-clause-header : goal.returns-clause-header
returns-clause-header g c = λ bytes is.
    let name = c.args.name in
    let read = c.in-Ok.ensures.read bytes is in (
      c.word_at.ensures ∙ slots_read 0 c.in-Ok.header bytes read,
      c.is_migrated.ensures ∙ migrated_read name.kind name.id name.total c.in-Ok.header bytes read,
      moved_header name.kind name.id name.total c.in-Ok.header bytes read _ c.in_default.is c.first_wrong_beside_gate.ensures,
    )

pub returns-clause-bounded : goal.returns-clause-bounded
returns-clause-bounded g c =
    let name = c.args.name in
    omega (arith, c.word_at.ensures, few_moved name.kind name.id name.total c.in-Ok.header _ c.in_default.is c.first_wrong_beside_gate.ensures)

pub returns-clause-fits : goal.returns-clause-fits
returns-clause-fits g c =
    let name = c.args.name in
    ap (are_slots name.kind name.total) c.word_at.ensures
    ∙ right_moved name.kind name.id name.total c.in-Ok.header _ c.in_default.is c.first_wrong_beside_gate.ensures
