use Rattle.std.proofs.Common.{ℕ, List, ◌+◌, length}
use Rattle.std.specs.Vec.Iter.{into_iter_items}
use Rattle.round_fan.specs.Fans.{AreBlocksMade}
use Rattle.round_fan.proofs.Adding.{IsSoFar}
use Rattle.round_fan.proofs.rounds.add_all.Given as goal

abbrev pub invariant-loop-block : goal.invariant-loop-block
invariant-loop-block g l = (start size : ℕ) (first came : List g.row.X.Denot) → g.U.Rounds.Makes l.fn.rounds start first l.initial.all
    → AreBlocksMade (g.U.Rounds.Makes l.fn.rounds) (start + length first) size came l.fn.made.items
    → IsSoFar (g.U.Rounds.Makes l.fn.rounds) start size first came l.fn.made.items (into_iter_items l.block-iterator) l.all
