use Rattle.std.proofs.Common.{rules, ◌≡◌}
use Rattle.std.specs.String.{string_bytes}
use Rattle.memory_ports.proofs.FileMaps.{put_files}
use Rattle.memory_ports.proofs.memory_shelf.put_file.Goals as goal

pub returns-clause-stored : goal.returns-clause-stored
returns-clause-stored c =
    let named : string_bytes c.in_ok-key.key ≡ c.args.name.now = search rules in
    let held : c.in_ok-value.value.items ≡ c.args.bytes.now = search rules in
    put_files c.args.files.now c.insert.new.self c.in_ok-key.key c.in_ok-value.value _ _ c.in_ok-insert.ensures.updates named held
