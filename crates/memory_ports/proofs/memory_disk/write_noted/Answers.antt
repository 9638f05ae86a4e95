use Rattle.std.proofs.Common.{◌≡◌, ◌≤◌, length, take, subst, sym, arith, rules}
use Rattle.std.proofs.lemmas.List.{length-take}
use Rattle.zk_port.specs.Images.{IsTorn, written_at}
use Rattle.memory_ports.specs.Epochs.{IsImage}
use Rattle.zk_port.proofs.Torn.{torn_by_write, torn_further}
use Rattle.memory_ports.proofs.Crashes.{torn_image, image_before, image_stays}
use Rattle.memory_ports.specs.declared.epoch.Pending.{Pending}
use Rattle.memory_ports.proofs.memory_disk.write_noted.Goals as goal

pub returns-clause-torn : goal.returns-clause-torn
returns-clause-torn c =
    let part = take c.args.part c.args.bytes.now in
    let written : c.write_into.new.file.items ≡ written_at c.args.at (take c.args.part c.args.bytes.now) c.args.file.now.items = search rules in
    let short : length (take c.args.part c.args.bytes.now) ≤ length c.args.bytes.now = omega (arith, length-take c.args.part c.args.bytes.now) in
    subst (λ f. IsTorn c.args.at (length c.args.bytes.now) c.args.file.now.items f) (sym written)
    (torn_further c.args.at (length part) (length c.args.bytes.now) c.args.file.now.items (written_at c.args.at part c.args.file.now.items) short
    (torn_by_write c.args.at part c.args.file.now.items))

pub returns-clause-image : goal.returns-clause-image
returns-clause-image c =
    let range : Pending = record { at = c.args.at; count = length c.args.bytes.now } in
    subst (λ ranges. IsImage ranges c.args.epoch.now.base.items c.write_into.new.file.items) (sym c.note_range.ensures.noted)
    (torn_image c.args.epoch.now.ranges.items range c.args.epoch.now.base.items c.args.file.now.items c.write_into.new.file.items c.requires.image (returns-clause-torn c))

pub returns-clause-crash : goal.returns-clause-crash
returns-clause-crash c = λ image left.
    let range : Pending = record { at = c.args.at; count = length c.args.bytes.now } in
    image_before c.args.epoch.now.ranges.items range c.args.epoch.now.base.items image
    (subst (λ ranges. IsImage ranges c.args.epoch.now.base.items image) c.note_range.ensures.noted left)

pub returns-clause-grows : goal.returns-clause-grows
returns-clause-grows c = λ image left.
    let range : Pending = record { at = c.args.at; count = length c.args.bytes.now } in
    subst (λ ranges. IsImage ranges c.args.epoch.now.base.items image) (sym c.note_range.ensures.noted)
    (image_stays c.args.epoch.now.ranges.items range c.args.epoch.now.base.items image left)
