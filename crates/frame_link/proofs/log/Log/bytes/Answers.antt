use Rattle.std.proofs.Common.{◌≡◌, ℕ, List, map, sym, ◌∙◌, ap, rules}
use Rattle.zk_model.specs.declared.Side.{Side}
use Rattle.frame_link.proofs.RunLemmas.{entries-bytes}
use Rattle.frame_link.proofs.log.Log.bytes.Goals as goal

pub returns : goal.returns
returns c =
    let value : c.deref.result.now ≡ c.self.inside.bytes.items = search rules in
    value ∙ sym (entries-bytes c.self.inside.runs.items c.self.inside.bytes.items c.self.invariant)
    ∙ ap (λ (log : List (Side × ℕ)). map (λ entry. entry.1) log) c.self.view_is
