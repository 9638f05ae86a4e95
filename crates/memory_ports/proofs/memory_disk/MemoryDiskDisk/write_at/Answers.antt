use Rattle.memory_ports.proofs.Crashes.{elapses_within}
use Rattle.memory_ports.proofs.memory_disk.MemoryDiskDisk.write_at.Goals as goal

pub returns-in-Goes-clause-time : goal.returns-in-Goes-clause-time
returns-in-Goes-clause-time g c =
    elapses_within _ _ _ _ _ _ c.args.self.now.past.items c.args.self.now.epoch c.write_noted.new.epoch c.write_noted.ensures.grows

pub returns-in-Fails-clause-time : goal.returns-in-Fails-clause-time
returns-in-Fails-clause-time g c =
    elapses_within _ _ _ _ _ _ c.args.self.now.past.items c.args.self.now.epoch c.write_noted-in-Fails.new.epoch c.write_noted-in-Fails.ensures.grows
