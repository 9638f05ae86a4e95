use Rattle.std.proofs.Common.{◌+◌, arith}
use Rattle.zk_model.specs.declared.limits.TheConstants.{MAX_PAYLOAD}
use Rattle.proof_frames.specs.Rows.{width}
use Rattle.proof_frames.proofs.Fields.{free_bytes, one_of_many}
use Rattle.proof_frames.proofs.row.Payload.free_run.Goals as goal

pub width-width-requires : goal.width-width-requires
width-width-requires c =
    let one = one_of_many c.in-Fields.times (width c.in-Fields.first + width c.in-Fields.second) c.args.at MAX_PAYLOAD
    (rw c.in-Fields.is at c.requires.within) (rw c.in-Fields.is at c.requires.short) in
    omega (arith, one)

pub width-requires : goal.width-requires
width-requires c =
    let one = one_of_many c.in-Fields.times (width c.in-Fields.first + width c.in-Fields.second) c.args.at MAX_PAYLOAD
    (rw c.in-Fields.is at c.requires.within) (rw c.in-Fields.is at c.requires.short) in
    omega (arith, one)

pub returns-then-at-width : goal.returns-then-at-width
returns-then-at-width c = λ j near.
    free_bytes c.args.self c.in-Fields.times c.args.at c.width-width.result c.width.result c.in-Fields.first c.in-Fields.second c.in-Fields.is c.width-width.ensures c.width.ensures
    c.requires.within (c.is_free.ensures c.if-not-is_free.false) c.if-at-width.true j near
