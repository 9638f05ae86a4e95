-- What a gate gives, from the bits of the wires that it reads.
use Rattle.std.specs.Prelude.{Bool, not, ◌&&◌, List}
use Rattle.zk_model.specs.Bits.{exclusive_or}
use Rattle.zk_model.specs.Circuit.{bit_of}
use Rattle.zk_model.specs.declared.GateRow.{GateRow}
use Rattle.zk_model.specs.declared.GateRow.TheVariants.{And, Xor, Inv, Eqw, Eq}

-- the bit of the wire that a gate sets
abbrev pub gate_bit : List Bool → GateRow → Bool
gate_bit bits (And a b out) = bit_of bits a && bit_of bits b
gate_bit bits (Xor a b out) = exclusive_or (bit_of bits a) (bit_of bits b)
gate_bit bits (Inv a out) = not (bit_of bits a)
gate_bit bits (Eqw a out) = bit_of bits a
gate_bit bits (Eq bit out) = bit
