use Rattle.std.proofs.Common.{◌≡◌, [], sym, subst, rules}
use Rattle.memory_ports.specs.Epochs.{IsImage, left_by_all}
use Rattle.memory_ports.proofs.Crashes.{chosen_image, base_is_image}
use Rattle.memory_ports.proofs.memory_disk.MemoryDisk.image.Goals as goal

pub returns-clause-image : goal.returns-clause-image
returns-clause-image g c =
    let epoch = c.args.self.now.epoch in
    let is : c.in_ok-image.image.items ≡ left_by_all c.args.leftovers.now c.args.self.now.epoch.ranges.items c.args.self.now.bytes.items c.args.self.now.epoch.base.items = search rules in
    subst (λ l. IsImage epoch.ranges.items epoch.base.items l) (sym is)
    (chosen_image c.args.leftovers.now [] epoch.ranges.items c.args.self.now.bytes.items epoch.base.items epoch.base.items (base_is_image epoch.base.items))
