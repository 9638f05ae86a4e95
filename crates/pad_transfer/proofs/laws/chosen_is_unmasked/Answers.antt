use Rattle.pad_transfer.proofs.Masks as law
use Rattle.pad_transfer.proofs.laws.chosen_is_unmasked.Goals as goal

pub returns : goal.returns
returns c = law.chosen_is_unmasked
