use Rattle.std.proofs.Common.{ℕ, ◌-◌, List, length, length-append, sym, ◌∙◌, ap, arith}
use Rattle.std.proofs.lemmas.Result.{err_from_is_err_and}
use Rattle.zk_model.specs.Frames.{frame_spelling}
use Rattle.proof_frames.specs.Frames.{frame_value}
use Rattle.proof_audit.specs.Reading.{TakesFrame}
use Rattle.proof_audit.specs.Sessions.{IsLogUnderWay, IsFaultOf}
use Rattle.proof_audit.proofs.UnderWay.{goes_on, ends_early, reading_fault, wrong_fault, behind_fault, some_left}
use Rattle.proof_audit.proofs.log.read_frames.Goals as goal

pub expects-requires : goal.expects-requires
expects-requires c =
    let under = c.frames.invariant.goes_on c.requires.under_way.0 c.requires.under_way.1 in
    (under.frames, under.described)

pub next-requires-clause-between : goal.next-requires-clause-between
next-requires-clause-between c = (c.frames.invariant.goes_on c.requires.under_way.0 c.requires.under_way.1).between

pub at-requires : goal.at-requires
at-requires c = (c.frames.invariant.goes_on c.requires.under_way.0 c.requires.under_way.1).between

pub advance-requires-clause-described : goal.advance-requires-clause-described
advance-requires-clause-described c =
    let under = c.frames.invariant.goes_on c.requires.under_way.0 c.requires.under_way.1 in
    (under.frames, under.described)

pub returns-in_err-frame-clause-fault : goal.returns-in_err-frame-clause-fault
returns-in_err-frame-clause-fault c =
    let found : (log : List ℕ) → IsLogUnderWay c.args.judge.now log c.args.reader.now c.args.stage.now → IsFaultOf c.args.judge.now log c.in_err-frame.field-0.0 =
    λ log under. reading_fault c.args.judge.now log c.frames.reader c.frames.stage c.in-Some.place c.in_err-frame.field-0.0 (sym c.in-Some.ensures.place)
    c.in_err-frame.ensures.fault (c.frames.invariant.goes_on log under) in
    let p = err_from_is_err_and c.from_residual.result c.from_residual.ensures.1 in
    rw (p.1, p.2) found

pub returns-in_default-2-clause-early : goal.returns-in_default-2-clause-early
returns-in_default-2-clause-early c = λ no log under.
    ends_early c.args.judge.now log c.frames.reader c.frames.stage c.in-Some.place (sym c.in-Some.ensures.place)
    (rw c.in_default-2.is at c.in_ok-frame.ensures.early) (c.frames.invariant.goes_on log under)

pub returns-then-not-branch-clause-fault : goal.returns-then-not-branch-clause-fault
returns-then-not-branch-clause-fault c = λ log under.
    wrong_fault c.args.judge.now log c.frames.reader c.next.new.self c.frames.stage c.in-Some.place (frame_value c.in-Some-2.frame) (c.at-place.result - 1)
    (sym c.in-Some.ensures.place) (rw c.in-Some-2.is at c.in_ok-frame.ensures.takes)
    (c.in_ok-advance.ensures.stops c.if-not-branch.true) (ap (λ n. n - 1) c.at-place.ensures) (c.frames.invariant.goes_on log under)

pub frames-preserved : goal.frames-preserved
frames-preserved c = record {
  goes_on = λ log under.
      goes_on c.args.judge.now log c.frames.reader c.next.new.self c.frames.stage c.advance.new.stage c.in-Some.place (frame_value c.in-Some-2.frame)
      (sym c.in-Some.ensures.place) taken (c.in_ok-advance.ensures.goes_on c.if-not-branch.false) (c.frames.invariant.goes_on log under);
  sized =
      let far = c.frames.invariant.sized in
      let got = taken.received in
      omega (arith, far, got, ap length taken.bytes, length-append (frame_spelling (frame_value c.in-Some-2.frame)) c.next.new.self.rest.now);
}
  where
    taken : TakesFrame c.in-Some.place (frame_value c.in-Some-2.frame) c.frames.reader c.next.new.self
    taken = rw c.in-Some-2.is at c.in_ok-frame.ensures.takes

pub returns-then-not-is_at_end-clause-fault : goal.returns-then-not-is_at_end-clause-fault
returns-then-not-is_at_end-clause-fault c = λ log under.
    behind_fault c.args.judge.now log c.frames.reader c.frames.stage c.at.result (sym c.in_default.ensures.place)
    (some_left (length c.frames.reader.rest.now) (sym c.is_at_end.ensures ∙ c.if-not-is_at_end.true)) c.at.ensures (c.frames.invariant.goes_on log under)
