-- What rounds over neighbouring units make, unit by unit.
use Rattle.std.specs.Prelude.{◌≡◌, ℕ, ◌+◌, ◌*◌, ◌<◌, ◌≤◌, List, [], map, flat_map, length, slice_index_or, IfOk, Result, Vec}
use Rattle.std.specs.Global.{Global}
use Rattle.std.specs.Fork.{slice_chunk}
use Rattle.std.specs.List.{enumerate_from, range_with_len}
use Rattle.zk_model.specs.Mac.{Pair}
use Rattle.zk_model.specs.Files.{ProverFile, VerifierFile, prover_unit, correlations_per_unit}
use Rattle.zk_model.specs.declared.Kind.TheVariants.{Extended}
use Rattle.zk_model.specs.declared.Params.{Params}
use Rattle.linear_code.specs.Codes.{Code}
use Rattle.vole_extend.specs.Rounds.{unit_code}
use Rattle.zk_model.specs.Transcript.{TreeAsk, TreeReply}
use Rattle.zk_model.specs.Correlations.{IsExtension, unit_keys}
use Rattle.zk_model.specs.HonestProver.{honest_asks}
use Rattle.zk_model.specs.Replies.{unit_reply}

-- the lists that stand in a list of vectors
abbrev pub lists_of : {A : Type 0} → List (Vec A Global) → List (List A)
lists_of vectors = map (λ vector. vector.items) vectors

-- ---- the prover

-- the pairs that the round of a unit makes, with what an honest prover asked and these replies
abbrev pub AreRoundPairs : ProverFile → ℕ → List TreeReply → List Pair → Type 0
AreRoundPairs file unit trees pairs =
    IsExtension file.params file.code_seed (prover_unit file unit)
    (record { asks = honest_asks file unit; replies = trees }) pairs

-- the pairs of so many units, unit by unit, of each of which this holds by its number
pub record AreRoundUnits (Holds : ℕ → List Pair → Type 0) (count : ℕ) (pairs : List Pair) : Type 0 where
  pub units : List (List Pair)
  pub one_each : length units ≡ count
  pub each : (i : ℕ) → i < count → Holds i (slice_index_or units i [])
  pub joined : pairs ≡ flat_map (λ unit. unit) units

-- the pairs of the units from this one on, of as many as there are replies for, unit by unit
abbrev pub ArePairsFrom : ProverFile → ℕ → List (List TreeReply) → List Pair → Type 0
ArePairsFrom file start replies pairs =
    AreRoundUnits (λ i unit. AreRoundPairs file (start + i) (slice_index_or replies i []) unit) (length replies) pairs

-- ---- the verifier

-- the replies to the asks for the units from this one on, unit by unit
abbrev pub replies_from : VerifierFile → ℕ → List (List TreeAsk) → List (List TreeReply)
replies_from file start asks = map (λ entry. unit_reply file entry.0 entry.1) (enumerate_from start asks)

-- the keys of so many units from this one on
abbrev pub keys_from : VerifierFile → ℕ → ℕ → List ℕ
keys_from file start count = flat_map (unit_keys file) (range_with_len start count)

-- ---- rounds

-- every block of so many units made something, of which this holds by the number of its first unit and what came for its units
pub record AreBlocksMade {X M F : Type 0} (Makes : ℕ → List X → M → Type 0) (start size : ℕ) (came : List X) (made : List (Result M F)) : Type 0 where
  pub all : length came ≤ length made * size
  pub each : (i : ℕ) (other : Result M F) → i < length made → (i * size ≤ length came) × IfOk (slice_index_or made i other) (Makes (start + i * size) (slice_chunk came size i))

-- what came for each of the units from this one on fits the unit
abbrev pub DoFit : {X : Type 0} → (ℕ → X → Type 0) → ℕ → List X → Type 0
DoFit {X = X} Fits start came = (i : ℕ) (x : X) → i < length came → x ≡ slice_index_or came i x → Fits (start + i) x

-- the unit is one of an extended file of this code, and as much came for it as it has trees
pub record Fit {A : Type 0} (Are : ℕ → ℕ → List A → Type 0) (params : Params) (code_seed : List ℕ) (code : Code) (unit : ℕ) (came : List A) : Type 0 where
  pub extended : params.kind ≡ Extended
  pub within : unit < params.total
  pub columns : code ≡ unit_code params code_seed
  pub fits : Are params.height params.trees came

-- the pairs of the units from this one on, and how many they are
pub record ArePairs (file : ProverFile) (start : ℕ) (replies : List (Vec TreeReply Global)) (pairs : List Pair) : Type 0 where
  pub made : ArePairsFrom file start (lists_of replies) pairs
  pub count : length pairs ≡ length replies * correlations_per_unit file.params

-- the replies of the units from this one on, and their keys
pub record AreReplied (file : VerifierFile) (start : ℕ) (asks : List (Vec TreeAsk Global)) (replies : List (Vec TreeReply Global)) (keys : List ℕ) : Type 0 where
  pub replied : lists_of replies ≡ replies_from file start (lists_of asks)
  pub keyed : keys ≡ keys_from file start (length asks)
  pub count : length keys ≡ length asks * correlations_per_unit file.params
