use Rattle.std.proofs.Common.{◌∙◌, ◌++◌, ◌∷◌, [], sym, arith, nat_eq}
use Rattle.std.specs.Prelude.{if◌then◌else◌}
use Rattle.std.proofs.lemmas.List.FromFn.{map-range_with_len_more}
use Rattle.proof_audit.proofs.values.only_at.Goals as goal

pub loop-j-preserved : goal.loop-j-preserved
loop-j-preserved c = record {
  values = c.in_ok-push.ensures.items ∙ (λ i. c.loop-j.invariant.values i ++ c.entry_at.ensures i ∷ [])
      ∙ sym (map-range_with_len_more (λ j. if nat_eq j c.args.place then c.args.value else 0) 0 c.loop-j.j c.loop-j.j (omega arith));
  count = let far = c.loop-j.invariant.count in let now = c.in_ok-push.ensures.len in omega (arith, far, now);
}
