-- The pairs of a session's wires.
use Rattle.std.specs.Prelude.{◌≡◌, length}
use Rattle.zk_model.specs.Program.{Program}
use Rattle.zk_model.specs.Check.{WirePairs, WireKeys}
use Rattle.wire_auth.specs.Sides.{VerifierSide, joined}

-- a program with the pairs of its given values and of all its wires
pub record SeenSide : Type 0 where
  pub program : Program
  pub pairs : WirePairs

-- values and MACs as pairs
abbrev pub joined_pairs : WireKeys → WireKeys → WirePairs
joined_pairs values macs =
    record { given = joined values.given macs.given; wires = joined values.wires macs.wires }

-- values and MACs of one program, one for one
pub record AreSideBySide (values macs : VerifierSide) : Type 0 where
  pub program : values.program ≡ macs.program
  pub given : length values.keys.given ≡ length macs.keys.given
  pub wires : length values.keys.wires ≡ length macs.keys.wires
