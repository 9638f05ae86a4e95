use Rattle.std.proofs.Common.{◌≡◌, ◌+◌, ◌++◌, length, arith, ap, ◌∙◌, length-append, append-nil}
use Rattle.std.proofs.lemmas.List.{nil_from_length}
use Rattle.proof_frames.specs.Frames.{flattened}
use Rattle.proof_frames.proofs.Sums.{length-flattened}
use Rattle.proof_frames.proofs.whole.pairs_of.Goals as goal

pub returns : goal.returns
returns c = λ count even.
    let pairs = c.loop-rest.pairs.items in
    let rest = c.loop-rest.rest.now in
    let sizes : length c.args.elements.now ≡ length (flattened pairs) + length rest = ap length c.loop-rest.invariant.bytes ∙ length-append (flattened pairs) rest in
    let none : length rest ≡ 0 = omega (arith, sizes, length-flattened pairs, even) in
    rw c.replace.ensures.value (
      c.loop-rest.invariant.bytes ∙ ap (λ l. flattened pairs ++ l) (nil_from_length rest none) ∙ append-nil (flattened pairs),
      omega (arith, sizes, none, length-flattened pairs, even),
    )
