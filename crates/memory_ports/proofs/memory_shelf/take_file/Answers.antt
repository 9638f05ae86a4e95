use Rattle.memory_ports.proofs.FileMaps.{take_files}
use Rattle.memory_ports.proofs.memory_shelf.take_file.Goals as goal

pub returns : goal.returns
returns c = take_files c.args.files.now c.remove.new.self _ c.remove.ensures.updates
