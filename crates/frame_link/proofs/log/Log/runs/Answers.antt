use Rattle.std.proofs.Common.{◌≡◌, ℕ, List, length, map, sum_by, sym, ◌∙◌, ap, rules}
use Rattle.zk_model.specs.declared.Side.{Side}
use Rattle.frame_link.specs.Runs.{run_count}
use Rattle.frame_link.proofs.RunLemmas.{entries-bytes, length-entries}
use Rattle.frame_link.proofs.log.Log.runs.Goals as goal

pub returns-clause-sides : goal.returns-clause-sides
returns-clause-sides c =
    let runs = c.self.inside.runs.items in
    let bytes = c.self.inside.bytes.items in
    let value : c.deref.result.now ≡ runs = search rules in
    let same : map (λ (entry : Side × ℕ). entry.1) c.args.self.now ≡ bytes =
    ap (λ (log : List (Side × ℕ)). map (λ entry. entry.1) log) (sym c.self.view_is) ∙ entries-bytes runs bytes c.self.invariant in
    rw (value, same) (sym c.self.view_is)

pub returns-clause-counts : goal.returns-clause-counts
returns-clause-counts c =
    let runs = c.self.inside.runs.items in
    let bytes = c.self.inside.bytes.items in
    let value : c.deref.result.now ≡ runs = search rules in
    ap (sum_by run_count) value ∙ c.self.invariant ∙ sym (length-entries runs bytes c.self.invariant) ∙ ap length c.self.view_is
