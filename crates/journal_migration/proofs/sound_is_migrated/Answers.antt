use Rattle.journal_migration.proofs.Sound.{sound_is_migrated}
use Rattle.journal_migration.proofs.sound_is_migrated.Goals as goal

pub returns : goal.returns
returns c = sound_is_migrated
