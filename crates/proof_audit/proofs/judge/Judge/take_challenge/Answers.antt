use Rattle.std.proofs.Common.{◌≡◌, ◌+◌, ◌*◌, ap, sym, ◌∙◌, subst}
use Rattle.zk_model.specs.Field.{IsElement, from_word}
use Rattle.zk_model.specs.Coins.{coin_word}
use Rattle.zk_model.specs.Frames.{challenge}
use Rattle.zk_model.specs.ServedVerifier.{challenge_coin}
use Rattle.proof_frames.specs.Frames.{frame_value}
use Rattle.proof_audit.proofs.Steps.{challenge_next, same_numbers}
use Rattle.proof_audit.proofs.judge.Judge.take_challenge.Goals as goal

pub returns-clause-takes : goal.returns-clause-takes
returns-clause-takes c =
    challenge_next c.args.self.now c.args.session (frame_value c.args.frame) c.in-Challenge.challenge value
    ranged coin
  where
    value : frame_value c.args.frame ≡ challenge c.in-Challenge.challenge
    value = ap frame_value c.in-Challenge.is

    same : c.requires.expected.0 ≡ c.in-Challenge.challenge
    same = let e : challenge c.requires.expected.0 ≡ challenge c.in-Challenge.challenge = sym c.requires.expected.1 ∙ value in cc

    ranged : IsElement c.in-Challenge.challenge
    ranged = subst IsElement same c.requires.expected.2

    coin : c.in-Challenge.challenge ≡ challenge_coin c.args.self.now.file c.args.session.grant.start
    coin = same_numbers c.in-Challenge.challenge c.challenge.result c.if-ne.ensures ∙ c.challenge.ensures
        ∙ (λ i. from_word (coin_word (c.self.view_is i).file.coin_key (4 * (c.session.view_is i).grant.start + 1) 0))
