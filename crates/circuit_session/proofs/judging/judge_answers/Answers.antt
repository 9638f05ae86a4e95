use Rattle.std.proofs.Common.{◌≡◌, [], ◌∷◌, ◌∙◌, ap, refl, sym, take, drop, subst}
use Rattle.zk_model.specs.Frames.{sums, openings}
use Rattle.zk_model.specs.Program.{Program, section_count}
use Rattle.zk_model.specs.Check.{AreKeysFor}
use Rattle.wire_auth.specs.Walks.{VerifierWalking}
use Rattle.mult_check.specs.Checks.{product_check, opening_check}
use Rattle.session_core.specs.Judgements.{Judges}
use Rattle.session_claim.specs.Claims.{Exchange}
use Rattle.circuit_session.specs.Statements.{AreWireKeys}
use Rattle.circuit_session.proofs.Judged.{judged_by}
use Rattle.circuit_session.proofs.judging.judge_answers.Goals as goal

pub returns : goal.returns
returns c =
    judged_by c.args.statement.now c.args.key c.args.keys.now exchange c.in_ok-walk.walk.side
    c.mask_keys_of-mask_keys.result.now c.args.sums.now c.args.macs.now c.claims-claims.result.now c.judgement_of-judgement.result
    c.requires.some refl (ap (λ (w : VerifierWalking). w.side.program) c.in_ok-walk.ensures.walk ∙ program)
    masked c.claims-claims.ensures.claims theirs
    (subst (λ n. Judges
    (product_check c.in_ok-walk.walk.side n c.args.challenge c.mask_keys_of-mask_keys.result.now c.args.key c.args.sums.now)
    (opening_check c.in_ok-walk.walk.side c.args.key c.args.macs.now c.claims-claims.result.now) c.judgement_of-judgement.result)
    c.from-section_length.ensures c.judgement_of-judgement.ensures)
  where
    exchange : Exchange
    exchange = record {
      section_length = c.args.section;
      corrections = c.args.corrections.now;
      challenge = c.args.challenge;
      answers = sums c.args.sums.now ∷ openings c.args.macs.now ∷ [];
    }

    program : c.program-program.result.now ≡ c.args.statement.now.program
    program = c.program-program.ensures.program

    sections : c.sections-sections.result ≡ section_count c.args.statement.now.program c.args.section
    sections = c.sections-sections.ensures ∙ (λ i. section_count (program i) (c.from-section_length.ensures i))

    givens : c.givens-givens.result ≡ c.args.statement.now.program.givens
    givens = c.givens-givens.ensures.count ∙ ap (λ (p : Program). p.givens) program

    masked : c.mask_keys_of-mask_keys.result.now
        ≡ take (section_count c.args.statement.now.program c.args.section) (drop c.args.statement.now.program.givens c.args.keys.now)
    masked = c.mask_keys_of-mask_keys.ensures.masks ∙ (λ i. take (sections i) (drop (givens i) c.args.keys.now))

    theirs : AreWireKeys c.args.statement.now c.args.key c.args.keys.now c.args.corrections.now c.in_ok-walk.walk.side.keys
    theirs = record {
      given = ap (λ (w : VerifierWalking). w.side.keys.given) c.in_ok-walk.ensures.walk;
      carried = subst (λ (T : Type 0). T) (λ i. AreKeysFor c.args.key (program i) (c.public-public.ensures.public i)
          (sym (ap (λ (w : VerifierWalking). w.side.keys) c.in_ok-walk.ensures.walk) i)) c.in_ok-walk.ensures.carried;
    }
