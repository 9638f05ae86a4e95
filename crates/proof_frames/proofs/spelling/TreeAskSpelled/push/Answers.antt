use Rattle.std.proofs.Common.{List, ℕ, ◌++◌, map, ap, ◌∙◌, append_assoc}
use Rattle.std.proofs.lemmas.List.Concat.{flat_map_single}
use Rattle.zk_model.specs.Bits.{from_bit}
use Rattle.zk_model.specs.Bytes.{element_bytes}
use Rattle.proof_frames.specs.Frames.{ask_bytes}
use Rattle.proof_frames.proofs.spelling.TreeAskSpelled.push.Goals as goal

pub returns-clause-bytes : goal.returns-clause-bytes
returns-clause-bytes c =
    let old : List ℕ = c.args.bytes.now.items in
    let element : List ℕ = element_bytes c.self.inside.base_correction in
    c.in_ok-push.ensures.bytes
    ∙ ap (λ l. l ++ element) (c.in_ok-push_all.ensures.bytes ∙ ap (λ l. old ++ l) (flat_map_single from_bit c.deref.result.now ∙ ap (map from_bit) c.deref.ensures.value))
    ∙ append_assoc old (map from_bit c.self.inside.flips.items) element ∙ ap (λ ask. old ++ ask_bytes ask) c.self.view_is
