use Rattle.std.proofs.Common.{[], ◌∷◌, ◌++◌, ap, ◌∙◌}
use Rattle.zk_model.specs.FileBytes.{magic_word, params_bytes}
use Rattle.dealer_files.proofs.ByteLists.{six_appended}
use Rattle.dealer_files.proofs.encoding.push_header.Goals as goal

pub returns : goal.returns
returns c =
    six_appended (magic_word c.args.head.now.version) (c.args.side ∷ []) (params_bytes c.args.head.now.params) c.args.head.now.id c.args.head.now.coin_key c.args.head.now.code_seed
    c.args.bytes.now.items c.extend_from_slice.new.self.items c.push.new.self.items c.push_params.new.bytes.items
    c.extend_from_slice-2.new.self.items c.extend_from_slice-3.new.self.items c.extend_from_slice-4.new.self.items
    (c.in_ok-extend_from_slice.ensures.items ∙ ap (λ word. c.args.bytes.now.items ++ word) c.magic_word.ensures) c.in_ok-push.ensures.items c.in_ok-push_params.ensures
    c.in_ok-extend_from_slice-2.ensures.items c.in_ok-extend_from_slice-3.ensures.items c.in_ok-extend_from_slice-4.ensures.items
