use Rattle.std.proofs.Common.{◌-◌, ◌≤◌, length}
use Rattle.frame_link.specs.Lines.{PiecesBegin}
use Rattle.frame_link.proofs.LineLemmas.{longest}
use Rattle.frame_link.proofs.line.Line.take_pieces.Given as goal

abbrev pub invariant-pieces : goal.invariant-pieces
invariant-pieces g l = PiecesBegin l._place l.fn.self l.self × (1 ≤ length l.buffer)

abbrev pub decreases-pieces : goal.decreases-pieces
decreases-pieces g l = longest l._place - length l.self.reading.taken
