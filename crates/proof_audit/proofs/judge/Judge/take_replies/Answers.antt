use Rattle.std.proofs.Common.{sym, ◌∙◌, ap, arith}
use Rattle.std.proofs.lemmas.Bool.{false≢true}
use Rattle.proof_frames.specs.Frames.{frame_value}
use Rattle.session_core.specs.Extending.{replies_in}
use Rattle.proof_audit.specs.declared.session.Session.{Session}
use Rattle.proof_audit.proofs.Steps.{replied_some, more_replies, replies_next, replies_last, replies_wrong}
use Rattle.proof_audit.proofs.judge.Judge.take_replies.Goals as goal

pub is_due-requires : goal.is_due-requires
is_due-requires c =
    let some = replied_some c.args.self.now c.args.session c.args.done c.requires.described in
    omega (arith, some, c.args.session.replied.ok.0)

pub returns-then-not-is_due-clause-wrongs : goal.returns-then-not-is_due-clause-wrongs
returns-then-not-is_due-clause-wrongs c =
    replies_wrong c.args.self.now c.args.session c.args.done (frame_value c.args.frame) c.requires.expected.1.0 c.requires.expected.1.1
    (λ same. false≢true (sym c.if-not-is_due.true ∙ c.is_due.ensures.1 (ap replies_in c.requires.expected.1.1 ∙ same)))

pub returns-then-done-session-clause-takes : goal.returns-then-done-session-clause-takes
returns-then-done-session-clause-takes c =
    replies_last c.args.self.now c.args.session c.args.done (frame_value c.args.frame) c.requires.expected.1.0 c.requires.expected.1.1
    (sym (ap replies_in c.requires.expected.1.1) ∙ c.is_due.ensures.0 c.if-not-is_due.false)
    (c.if-done-session.true ∙ ap (λ (s : Session). s.grant.count) c.session.view_is)

pub returns-clause-takes : goal.returns-clause-takes
returns-clause-takes c =
    let some = more_replies c.args.self.now c.args.session c.args.done c.requires.described in
    let count = ap (λ (s : Session). s.grant.count) c.session.view_is in
    let other = c.if-done-session.false in
    replies_next c.args.self.now c.args.session c.args.done (frame_value c.args.frame) c.requires.expected.1.0 c.requires.expected.1.1
    (sym (ap replies_in c.requires.expected.1.1) ∙ c.is_due.ensures.0 c.if-not-is_due.false)
    (omega (arith, some, count, other))
