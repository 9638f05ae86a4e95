use Rattle.zk_laws.proofs.FoundBits as law
use Rattle.zk_laws.proofs.extraction.found_bits.Goals as goal

pub returns : goal.returns
returns c = law.found_bits
