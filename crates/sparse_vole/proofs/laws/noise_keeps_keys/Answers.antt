use Rattle.sparse_vole.proofs.Keys as law
use Rattle.sparse_vole.proofs.laws.noise_keeps_keys.Goals as goal

pub returns : goal.returns
returns c = law.noise_keeps_keys
