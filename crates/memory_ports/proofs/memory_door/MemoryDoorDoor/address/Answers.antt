use Rattle.std.proofs.Common.{◌-◌, length, slice_get, ap, sym, ◌∙◌}
use Rattle.std.specs.Option.{option_copied}
use Rattle.memory_ports.proofs.Asked.{says_asked}
use Rattle.memory_ports.proofs.memory_door.MemoryDoorDoor.address.Goals as goal

pub returns-in-Some : goal.returns-in-Some
returns-in-Some g c =
    says_asked c.args.self.now.listened.items c.in-Some.asked.now c.deref-in-Some.result.now c.from_str.result
    (sym (ap (λ (l : _). slice_get l (length l - 1)) c.deref.ensures.value) ∙ sym c.last.ensures.value ∙ ap option_copied c.in-Some.is)
    c.deref-in-Some.ensures c.from_str.ensures.ok
