use Rattle.std.proofs.Common.{◌≡◌, map}
use Rattle.std.specs.List.{range_with_len}
use Rattle.zk_model.specs.Mac.{pair_at}
use Rattle.zk_model.specs.Check.{honest_sums, section_triples}
use Rattle.mult_check.proofs.sections.prover_sums.Given as goal

abbrev pub invariant-loop-s : goal.invariant-loop-s
invariant-loop-s l = l.sums.items
    ≡ map (λ s. honest_sums l.fn.challenge (section_triples l.wires.program l.g l.wires.pairs s) (pair_at l.masks s)) (range_with_len 0 l.s)
