-- The rows of the table, computed.
use Rattle.std.proofs.Common.{refl}
use Rattle.command_words.specs.Rows.{named}
use Rattle.run_laws.specs.CommandTable.{TableIs}

pub table_is : TableIs
unfolding named
table_is = (refl, refl, refl, refl, refl, refl, refl, refl, refl, refl, refl, refl, refl, refl, refl, refl, refl, refl, refl)
