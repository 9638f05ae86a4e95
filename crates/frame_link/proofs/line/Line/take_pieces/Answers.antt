use Rattle.frame_link.proofs.LineLemmas.{fails_at, fails_more}
use Rattle.frame_link.proofs.line.Line.take_pieces.Goals as goal

pub returns-in_err-take_piece-clause-fails : goal.returns-in_err-take_piece-clause-fails
returns-in_err-take_piece-clause-fails g c =
    fails_at _ c.from_residual.result c.in_err-take_piece.field-0.0 c.from_residual.ensures.1
    (fails_more c.args._place c.args.self.now c.pieces.self c.take_piece.new.self c.in_err-take_piece.field-0.0 c.pieces.invariant.0 c.in_err-take_piece.ensures.fails)
