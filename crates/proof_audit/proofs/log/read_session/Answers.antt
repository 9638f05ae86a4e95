use Rattle.std.proofs.Common.{inl}
use Rattle.std.proofs.lemmas.Result.{err_from_is_err_and}
use Rattle.proof_audit.specs.Sessions.{IsReadWhole}
use Rattle.proof_audit.proofs.UnderWay.{begins, reads_session, reads_none, none_weaker, some_weaker}
use Rattle.proof_audit.proofs.log.read_session.Goals as goal

pub read_frames-requires-clause-under_way : goal.read_frames-requires-clause-under_way
read_frames-requires-clause-under_way c = (c.args.log.now, begins c.args.judge.now c.args.log.now c.new-reader.result c.new-reader.ensures)

pub returns-in_err-read_frames-clause-fault : goal.returns-in_err-read_frames-clause-fault
returns-in_err-read_frames-clause-fault c =
    let p = err_from_is_err_and c.from_residual.result c.from_residual.ensures.1 in
    rw (p.1, p.2) (c.in_err-read_frames.ensures.fault c.args.log.now (begins c.args.judge.now c.args.log.now c.new-reader.result c.new-reader.ensures))

pub returns-then-not-branch-clause-not_accepted : goal.returns-then-not-branch-clause-not_accepted
returns-then-not-branch-clause-not_accepted c =
    inl (c.in_ok-read_frames.ensures.early c.if-not-branch.true c.args.log.now
    (begins c.args.judge.now c.args.log.now c.new-reader.result c.new-reader.ensures))

pub returns-clause-accepted : goal.returns-clause-accepted
returns-clause-accepted c =
    some_weaker c.accepted.result
    (λ s is. reads_session c.args.judge.now c.args.log.now c.read_frames.new.reader c.read_frames.new.stage s is whole) c.accepted.ensures.session
  where
    whole : IsReadWhole c.args.judge.now c.args.log.now c.read_frames.new.reader c.read_frames.new.stage
    whole = c.in_ok-read_frames.ensures.whole c.if-not-branch.false c.args.log.now
        (begins c.args.judge.now c.args.log.now c.new-reader.result c.new-reader.ensures)

pub returns-clause-not_accepted : goal.returns-clause-not_accepted
returns-clause-not_accepted c =
    none_weaker c.accepted.result
    (λ other. reads_none c.args.judge.now c.args.log.now c.read_frames.new.reader c.read_frames.new.stage other whole) c.accepted.ensures.none
  where
    whole : IsReadWhole c.args.judge.now c.args.log.now c.read_frames.new.reader c.read_frames.new.stage
    whole = c.in_ok-read_frames.ensures.whole c.if-not-branch.false c.args.log.now
        (begins c.args.judge.now c.args.log.now c.new-reader.result c.new-reader.ensures)
