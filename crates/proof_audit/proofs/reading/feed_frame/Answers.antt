use Rattle.std.proofs.lemmas.Result.{err_from_is_err_and}
use Rattle.proof_audit.proofs.Fed.{bad_found}
use Rattle.proof_audit.proofs.reading.feed_frame.Goals as goal

pub returns-in_err-count-clause-bad : goal.returns-in_err-count-clause-bad
returns-in_err-count-clause-bad c =
    let found = bad_found c.args._place c.args.log.now c.pieces.rest.now c.args.decoder.now c.pieces.decoder c.feed.new.self c.in_err-count.field-0.0
    c.pieces.invariant c.wants.ensures.sound c.in_err-count.ensures.bad in
    let p = err_from_is_err_and c.from_residual.result c.from_residual.ensures.1 in
    rw (p.1, p.2) found
