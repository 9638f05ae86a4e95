use Rattle.std.proofs.Common.{◌≡◌, ap, ◌∙◌}
use Rattle.lease_journal.specs.Twins.{IsFirstTwinWrong, are_twin_slots}
use Rattle.lease_journal.specs.Headers.{may_be_slots}
use Rattle.lease_journal.proofs.Headers.{cut_header, slots_read}
use Rattle.twin_journal.proofs.HeaderReads.{fits_few, header_read, right_slots, slots_of, wrong_read}
use Rattle.twin_journal.proofs.header.read_header.Given.{Over}
use Rattle.twin_journal.proofs.header.read_header.Goals.{After-may_be_slots-fits}
use Rattle.twin_journal.proofs.header.read_header.Goals as goal

-- the number of slots fits where there may be so many
fit : (g : Over) (c : After-may_be_slots-fits g) → c.may_be_slots-fits.result ≡ are_twin_slots c.args.name.kind c.args.name.total c.word_at-slots.result
fit g c =
    c.may_be_slots-fits.ensures
    ∙ ap (λ ceilings. may_be_slots c.args.name.kind ceilings c.word_at-slots.result) c.twin_ceiling_slots.ensures
    ∙ slots_of c.args.name.kind c.args.name.total c.word_at-slots.result

pub returns-in-Err-clause-cause : goal.returns-in-Err-clause-cause
returns-in-Err-clause-cause g c = λ bytes is.
    let name = c.args.name in
    cut_header (IsFirstTwinWrong name.kind name.id name.total c.args.begin bytes) c.args.begin bytes c.in-Err.fault (c.in-Err.ensures.cause bytes is)

pub returns-in-Some-clause-cause : goal.returns-in-Some-clause-cause
returns-in-Some-clause-cause g c = λ bytes is.
    let name = c.args.name in
    wrong_read name.kind name.id name.total c.word_at-slots.result c.in-Ok.header c.header_of.result c.header_of.ensures c.may_be_slots-fits.result
    (fit g (goal.at.returns-in-Some-clause-cause g c).After-may_be_slots-fits) _ c.first_wrong.ensures
    c.args.begin bytes (c.in-Ok.ensures.read bytes is) c.word_at-slots.ensures c.in-Some.place c.in-Some.is

pub returns-clause-header : goal.returns-clause-header
returns-clause-header g c = λ bytes is.
    let name = c.args.name in
    let read = c.in-Ok.ensures.read bytes is in (
      c.word_at-slots.ensures ∙ slots_read c.args.begin c.in-Ok.header bytes read,
      header_read name.kind name.id name.total c.word_at-slots.result c.in-Ok.header c.header_of.result c.header_of.ensures c.may_be_slots-fits.result
          (fit g (goal.at.returns-clause-header g c).After-may_be_slots-fits) _ c.first_wrong.ensures c.args.begin bytes read c.word_at-slots.ensures c.in_default.is,
    )

pub returns-clause-fits : goal.returns-clause-fits
returns-clause-fits g c =
    let name = c.args.name in
    right_slots name.kind name.id name.total c.word_at-slots.result c.in-Ok.header c.header_of.result c.header_of.ensures c.may_be_slots-fits.result
    (fit g (goal.at.returns-clause-fits g c).After-may_be_slots-fits) _ c.first_wrong.ensures c.in_default.is

pub returns-clause-bounded : goal.returns-clause-bounded
returns-clause-bounded g c = fits_few c.args.name.kind c.args.name.total c.word_at-slots.result (returns-clause-fits g c)
