-- The versions of dealt files, by computation.
use Rattle.std.proofs.Common.{◌≡◌, [], ◌∷◌, refl}
use Rattle.dealer_files.specs.Dealing.{dealt_version}
use Rattle.zk_model.specs.declared.FileVersion.TheVariants.{First, Second}

-- 65,535 units are dealt in the first version, and one more in the second
versions_dealt : dealt_version 65535 ∷ dealt_version 65536 ∷ [] ≡ First ∷ Second ∷ []
versions_dealt = refl
