use Rattle.std.proofs.Common.{◌+◌, ◌∙◌, arith}
use Rattle.zk_model.specs.declared.limits.TheConstants.{MAX_PAYLOAD}
use Rattle.proof_frames.specs.Rows.{width}
use Rattle.proof_frames.proofs.Fields.{slot_of_element, slot_of_first, slot_of_second, one_of_many}
use Rattle.proof_frames.proofs.row.Payload.slot.Goals as goal

pub width-width-requires : goal.width-width-requires
width-width-requires c =
    let one = one_of_many c.in-Fields.times (width c.in-Fields.first + width c.in-Fields.second) c.args.at MAX_PAYLOAD
    (rw c.in-Fields.is at c.requires.within) (rw c.in-Fields.is at c.requires.short) in
    omega (arith, one)

pub width-requires : goal.width-requires
width-requires c =
    let one = one_of_many c.in-Fields.times (width c.in-Fields.first + width c.in-Fields.second) c.args.at MAX_PAYLOAD
    (rw c.in-Fields.is at c.requires.within) (rw c.in-Fields.is at c.requires.short) in
    omega (arith, one)

pub returns-in-Elements : goal.returns-in-Elements
returns-in-Elements c = c.slot.ensures ∙ slot_of_element c.args.self c.in-Elements.count c.args.at c.in-Elements.is c.requires.within

pub returns-then-at-width : goal.returns-then-at-width
returns-then-at-width c =
    c.slot-then-at-width.ensures
    ∙ slot_of_first c.args.self c.in-Fields.times c.args.at c.width-width.result c.width.result c.in-Fields.first c.in-Fields.second c.in-Fields.is
    c.width-width.ensures c.width.ensures c.requires.within c.if-at-width.true

pub returns-else-at-width : goal.returns-else-at-width
returns-else-at-width c =
    c.slot-else-at-width.ensures
    ∙ slot_of_second c.args.self c.in-Fields.times c.args.at c.width-width.result c.width.result c.in-Fields.first c.in-Fields.second c.in-Fields.is
    c.width-width.ensures c.width.ensures c.requires.within c.if-at-width.false
