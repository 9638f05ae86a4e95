use Rattle.std.proofs.Common.{◌<◌, ◌≤◌, ◌*◌, ℕ, List, length, take, drop}
use Rattle.std.specs.Prelude.{slice_index_or}
use Rattle.mult_check.proofs.walked.joined.Given as goal

abbrev pub invariant-loop-part : goal.invariant-loop-part
invariant-loop-part g l = (block : List g.row.T.Denot) (size : ℕ) → length block ≤ length l.parts * size
    → ((i : ℕ) (d : g.row.P.Denot) → i < length l.parts → g.P.Sums.Over l.fn.none (take size (drop (i * size) block)) (slice_index_or l.parts i d))
    → g.P.Sums.Over l.fn.none (take (l.part-index * size) block) l.whole
