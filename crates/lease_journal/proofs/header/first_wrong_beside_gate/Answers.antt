use Rattle.std.proofs.Common.{◌≡◌, length, ap, ◌∙◌, rules}
use Rattle.lease_journal.specs.Headers.{header_with, may_be_slots}
use Rattle.lease_journal.proofs.MovedHeaders.{first_beside, slots_of}
use Rattle.lease_journal.proofs.header.first_wrong_beside_gate.Goals as goal

pub returns : goal.returns
returns c =
    let name = c.args.name in
    let whole : length c.args.header.now ≡ 64 = search rules in
    first_beside name.kind name.id name.total c.args.header.now whole c.may_be_slots-fits.result c.header_with.result c.first_wrong.result
    (c.may_be_slots-fits.ensures ∙ (λ i. may_be_slots name.kind (c.ceiling_slots.ensures i) (c.word_at-slots.ensures i)) ∙ slots_of name.kind name.total _)
    (c.header_with.ensures ∙ ap (λ code. header_with code name.id name.total 0) c.journal_code.ensures)
    c.first_wrong.ensures
