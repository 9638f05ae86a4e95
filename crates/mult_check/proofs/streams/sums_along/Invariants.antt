use Rattle.std.proofs.Common.{◌≡◌, ◌*◌, min, length, map}
use Rattle.std.specs.List.{range_with_len}
use Rattle.zk_model.specs.Mac.{pair_at}
use Rattle.zk_model.specs.Check.{honest_sums, section_triples}
use Rattle.mult_check.proofs.streams.sums_along.Given as goal

abbrev pub invariant-loop-s : goal.invariant-loop-s
invariant-loop-s l =
    (l.walk.side ≡ l.initial.walk.side) × (l.walk.met ≡ min (l.s * l.fn.g) (length l.initial.walk.side.program.products))
    × (l.sums.items ≡ map (λ s. honest_sums l.fn.challenge (section_triples l.initial.walk.side.program l.fn.g l.initial.walk.side.pairs s) (pair_at l.fn.masks s)) (range_with_len 0 l.s))
