use Rattle.std.proofs.Common.{◌≡◌, take, string_bytes}
use Rattle.element_file.specs.Elements.{spaced}
use Rattle.element_file.proofs.writer.write_spaced.Given as goal

abbrev pub invariant-loop-element : goal.invariant-loop-element
invariant-loop-element l = string_bytes l.words ≡ spaced (take l.element-index l.elements)
