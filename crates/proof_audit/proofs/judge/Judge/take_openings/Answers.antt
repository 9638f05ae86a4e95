use Rattle.std.proofs.Common.{◌≡◌, length, sym, ◌∙◌, ap, subst}
use Rattle.zk_model.specs.Frames.{openings, AreElements}
use Rattle.proof_frames.specs.Frames.{frame_value}
use Rattle.proof_audit.proofs.Steps.{openings_next}
use Rattle.proof_audit.proofs.judge.Judge.take_openings.Goals as goal

pub returns : goal.returns
returns c =
    openings_next c.args.self.now c.args.session (frame_value c.args.frame) c.in-Openings.openings value
    (subst (AreElements (length c.args.self.now.statement.program.opened)) same c.requires.expected.2)
  where
    value : frame_value c.args.frame ≡ openings c.in-Openings.openings.items
    value = ap frame_value c.in-Openings.is

    same : c.requires.expected.0 ≡ c.in-Openings.openings.items
    same = let e : openings c.requires.expected.0 ≡ openings c.in-Openings.openings.items = sym c.requires.expected.1 ∙ value in cc
