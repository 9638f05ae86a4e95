use Rattle.memory_ports.proofs.Crashes.{elapses_next}
use Rattle.memory_ports.proofs.memory_disk.MemoryDiskDisk.sync.Goals as goal

pub returns-in-Goes-clause-time : goal.returns-in-Goes-clause-time
returns-in-Goes-clause-time g c =
    elapses_next _ _ _ _ _ _ c.args.self.now.past.items c.open_epoch.new.past.items c.args.self.now.epoch c.open_epoch.new.epoch c.open_epoch.ensures.past
