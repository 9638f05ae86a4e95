use Rattle.std.proofs.Common.{◌≡◌, map, vec_len, ◌∷◌, [], List, length, sym, ◌∙◌, ap, subst, arith, length-append}
use Rattle.std.specs.Prelude.{All}
use Rattle.zk_model.specs.ServedVerifier.{round_replies}
use Rattle.zk_model.specs.Frames as model
use Rattle.proof_frames.specs.Frames.{frame_value}
use Rattle.proof_audit.specs.declared.session.Stage.TheVariants as at
use Rattle.proof_audit.specs.Stages.{StageTakes}
use Rattle.zk_model.specs.Transcript.{Grant}
use Rattle.zk_model.specs.Frames.{AreAsks}
use Rattle.proof_frames.specs.declared.frame.Frame.{Frame}
use Rattle.session_core.specs.Extending.{asks_of}
use Rattle.proof_audit.specs.declared.session.Session.{Session}
use Rattle.proof_audit.proofs.Steps.{all_asks, asks_next, asks_last, asks_few}
use Rattle.proof_audit.proofs.judge.Judge.take_asks.Goals as goal

pub reply-requires-clause-asks : goal.reply-requires-clause-asks
reply-requires-clause-asks c =
    subst (λ (items : List Frame). All (AreAsks c.args.self.now.file.params.height c.args.self.now.file.params.trees) (asks_of items)) (sym c.deref.ensures.value)
    (all_asks c.args.self.now c.args.session.asked.items c.in_ok-session.session.asked.items c.args.frame c.requires.expected.1.0
    c.in_ok-session.ensures.asked c.requires.expected.1.1 c.requires.expected.1.2 c.requires.described.1.2.each)

pub returns-then-len-session : goal.returns-then-len-session
returns-then-len-session c =
    asks_next c.args.self.now c.args.session c.in_ok-session.session c.args.frame c.requires.expected.1.0
    (record { granted = c.in_ok-session.ensures.grant; pushed = c.in_ok-session.ensures.asked; is = c.requires.expected.1.1; right = c.requires.expected.1.2 })
    (let count : c.session.inside.0.0.count ≡ c.in_ok-session.session.grant.count = ap (λ (s : Session). s.grant.count) c.session.view_is in
    let sized : c.len.result ≡ vec_len c.in_ok-session.session.asked = c.len.ensures ∙ ap (λ (s : Session). vec_len s.asked) c.session.view_is in
    let few = c.if-len-session.true in
    omega (arith, count, sized, few, c.in_ok-session.session.asked.ok.0))

pub returns : goal.returns
returns c =
    subst (λ (s : Session). StageTakes c.args.self.now (at.Asks c.args.session) (frame_value c.args.frame) (at.Replies s 0)) (sym c.with_replies.ensures)
    (asks_last c.args.self.now c.args.session (record c.in_ok-session.session { replied = c.in_ok-replied.replied.replies; keys = c.in_ok-replied.replied.keys })
    c.args.frame c.requires.expected.1.0 c.in_ok-replied.ensures.file
    (record { granted = c.in_ok-session.ensures.grant; pushed = c.in_ok-session.ensures.asked; is = c.requires.expected.1.1; right = c.requires.expected.1.2 })
    all
    (c.in_ok-replied.ensures.replies ∙ ap (λ (items : List Frame). map model.replies (round_replies c.args.self.now.file c.in_ok-session.session.grant (asks_of items))) c.deref.ensures.value)
    c.in_ok-replied.ensures.keys
    c.in_ok-replied.ensures.count)
  where
    all : length c.in_ok-session.session.asked.items ≡ c.in_ok-session.session.grant.count
    all =
        let count : c.session.inside.0.0.count ≡ c.in_ok-session.session.grant.count = ap (λ (s : Session). s.grant.count) c.session.view_is in
        let sized : c.len.result ≡ vec_len c.in_ok-session.session.asked = c.len.ensures ∙ ap (λ (s : Session). vec_len s.asked) c.session.view_is in
        let most = c.if-len-session.false in
        let few = asks_few c.args.self.now c.args.session c.requires.described in
        let pushed = length-append c.args.session.asked.items (c.args.frame ∷ []) in
        omega (arith, count, sized, most, few, pushed, ap length c.in_ok-session.ensures.asked, ap (λ (given : Grant). given.count) c.in_ok-session.ensures.grant, c.in_ok-session.session.asked.ok.0)
