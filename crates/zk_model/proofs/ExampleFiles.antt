-- Files of the examples: the id, the coin key and the code seed are one byte over and over, and the key is 5.
use Rattle.std.proofs.Common.{◌≡◌, ℕ, ◌^◌, ◌<◌, ◌≤◌, List, length, replicate, refl, lit<}
use Rattle.std.specs.List.{AllByRecursion, AllZip}
use Rattle.std.proofs.lemmas.List.Elements.{All-from_recursion}
use Rattle.zk_model.proofs.ExampleTools.{bytes_of}
use Rattle.zk_model.specs.Files.{ProverUnit, VerifierUnit, ProverFile, VerifierFile, AreParams, IsCodeSeed, IsProverUnit, IsVerifierUnit, IsProverFile, IsVerifierFile, UnitsMatch, AreDealt}
use Rattle.zk_model.specs.declared.FileVersion.TheVariants.{First}
use Rattle.zk_model.specs.declared.Kind.TheVariants.{Direct}
use Rattle.zk_model.specs.declared.Params.{Params}

-- one unit of kind direct
abbrev pub direct : Params
direct = record { kind = Direct; height = 0; trees = 0; base = 0; total = 1 }

abbrev pub prover_file_of : Params → ℕ → ℕ → List ProverUnit → ProverFile
prover_file_of params coins seed units =
    record { version = First; id = replicate 32 1; params = params; coin_key = replicate 32 coins; code_seed = replicate 32 seed; units = units }

abbrev pub verifier_file_of : Params → ℕ → List VerifierUnit → VerifierFile
verifier_file_of params seed units =
    record { version = First; id = replicate 32 1; params = params; coin_key = replicate 32 9; code_seed = replicate 32 seed; key = 5; units = units }

-- they are files where their numbers and units fit
pub is_prover_file : (params : Params) (coins seed : ℕ) (units : List ProverUnit) → AreParams params → params.total ≤ 2 ^ 32 → coins < 256
    → IsCodeSeed params.kind (replicate 32 seed) → length units ≡ params.total → AllByRecursion (IsProverUnit params) units
    → IsProverFile (prover_file_of params coins seed units)
is_prover_file params coins seed units fit most below seeded count each = record {
  params = fit;
  most = most;
  id = bytes_of 32 1 (lit< tt);
  coin_key = bytes_of 32 coins below;
  code_seed = seeded;
  count = count;
  units = All-from_recursion (IsProverUnit params) units each;
}

pub is_verifier_file : (params : Params) (seed : ℕ) (units : List VerifierUnit) → AreParams params → params.total ≤ 2 ^ 32 → IsCodeSeed params.kind (replicate 32 seed)
    → length units ≡ params.total → AllByRecursion (IsVerifierUnit params) units → IsVerifierFile (verifier_file_of params seed units)
is_verifier_file params seed units fit most seeded count each = record {
  params = fit;
  most = most;
  key = lit< tt;
  key_set = λ e. cc;
  id = bytes_of 32 1 (lit< tt);
  coin_key = bytes_of 32 9 (lit< tt);
  code_seed = seeded;
  count = count;
  units = All-from_recursion (IsVerifierUnit params) units each;
}

-- and a pair where their units match
pub are_dealt : (params : Params) (coins seed : ℕ) (units : List ProverUnit) (others : List VerifierUnit) → AllZip (UnitsMatch 5) units others
    → AreDealt (prover_file_of params coins seed units) (verifier_file_of params seed others)
are_dealt params coins seed units others match = record { id = refl; params = refl; code_seed = refl; key = λ e. cc; units = match }
