-- Where two files are not of one dealing.
use Rattle.std.specs.Prelude.{◌≡◌, ℕ, ◌<◌, ◌⊎◌}
use Rattle.zk_model.specs.Bytes.{LeftRight}
use Rattle.zk_model.specs.Extension.{choice_of}
use Rattle.zk_model.specs.Files.{Transfer, ProverFile, VerifierFile, UnitsMatch, prover_unit, verifier_unit}

-- the same id, numbers and code
pub record HeadsAgree (prover : ProverFile) (verifier : VerifierFile) : Type 0 where
  pub id : prover.id ≡ verifier.id
  pub params : prover.params ≡ verifier.params
  pub code_seed : prover.code_seed ≡ verifier.code_seed

-- the pad is the one of both that the bit names
abbrev pub NamesItsPad : Transfer → LeftRight → Type 0
NamesItsPad transfer both = transfer.pad ≡ choice_of transfer.bit both

-- the units of this number match
abbrev pub MatchAt : ProverFile → VerifierFile → ℕ → Type 0
MatchAt prover verifier unit = UnitsMatch verifier.key (prover_unit prover unit) (verifier_unit verifier unit)

-- the first unit that does not match, where the heads agree
pub record IsFirstUnmatched (prover : ProverFile) (verifier : VerifierFile) (unit : ℕ) : Type 0 where
  pub heads : HeadsAgree prover verifier
  pub within : unit < prover.params.total
  pub earlier : (u : ℕ) → u < unit → MatchAt prover verifier u
  pub unmatched : ¬ MatchAt prover verifier unit

-- where the heads do not agree it is unit 0, and else the first unit that does not match
abbrev pub IsFirstApart : ProverFile → VerifierFile → ℕ → Type 0
IsFirstApart prover verifier unit =
    (¬ HeadsAgree prover verifier × (unit ≡ 0)) ⊎ IsFirstUnmatched prover verifier unit
