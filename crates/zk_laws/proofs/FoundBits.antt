-- What a finding about a circuit's outputs shows.
use Rattle.std.proofs.Common.{map}
use Rattle.zk_model.specs.Bits.{from_bit}
use Rattle.zk_model.specs.Finding.{found_inputs, found_challenge_root, found_key_root}
use Rattle.circuit_laws.proofs.Satisfied.{solved_is_satisfied}
use Rattle.zk_laws.specs.Extraction.{FoundBits}

pub found_bits : FoundBits
found_bits circuit digest public outputs section_length challenge key (found_inputs inputs) formed few shows =
    solved_is_satisfied circuit public inputs (map from_bit outputs) formed few shows
found_bits circuit digest public outputs section_length challenge key (found_challenge_root s polynomial) formed few shows = tt
found_bits circuit digest public outputs section_length challenge key (found_key_root polynomial) formed few shows = tt
