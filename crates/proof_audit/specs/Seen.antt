-- What the prover's file and a session fix.
use Rattle.std.specs.Prelude.{◌≡◌, ℕ, ◌+◌, ◌*◌, ◌≤◌, List, [], length, slice_index_or, All}
use Rattle.zk_model.specs.Mac.{Pair}
use Rattle.zk_model.specs.Files.{ProverFile, prover_unit, correlations_per_unit, span_pairs}
use Rattle.zk_model.specs.Transcript.{TreeAsk, TreeReply}
use Rattle.zk_model.specs.Correlations.{IsExtension}
use Rattle.zk_model.specs.Frames.{AreAsks, AreReplies}
use Rattle.zk_model.specs.View.{span_of}
use Rattle.zk_model.specs.declared.Kind.{Kind}
use Rattle.zk_model.specs.declared.Kind.TheVariants.{Direct, Extended}
use Rattle.session_core.specs.Extending.{asks_of, replies_of}
use Rattle.session_core.specs.Fixing.{AreRoundUnits}
use Rattle.proof_audit.specs.declared.session.Session.{Session}

-- the pairs of the units from this one on, by what was asked for each and replied
abbrev pub AreUnitPairs : ProverFile → ℕ → List (List TreeAsk) → List (List TreeReply) → List Pair → Type 0
AreUnitPairs file start asked replied pairs =
    AreRoundUnits (λ i unit. IsExtension file.params file.code_seed (prover_unit file (start + i))
    (record { asks = slice_index_or asked i []; replies = slice_index_or replied i [] }) unit) (length asked) pairs

-- in kind extended, asks and replies for each unit of the grant
pub record HasRound (file : ProverFile) (s : Session) : Type 0 where
  pub asked : length s.asked.items ≡ s.grant.count
  pub replied : length s.replied.items ≡ s.grant.count
  pub asks : All (AreAsks file.params.height file.params.trees) (asks_of s.asked.items)
  pub replies : All (AreReplies file.params.height file.params.trees) (replies_of s.replied.items)

-- a grant that lies in the file, and in kind extended a round
pub record HasRounds (file : ProverFile) (s : Session) : Type 0 where
  pub within : s.grant.start + s.grant.count ≤ file.params.total
  pub round : file.params.kind ≡ Extended → HasRound file s

-- the pairs of a session, by the kind of its file
abbrev pub ArePairsBy : Kind → ProverFile → Session → List Pair → Type 0
ArePairsBy Direct file s pairs = pairs ≡ span_pairs file (span_of s.grant)
ArePairsBy Extended file s pairs =
    AreUnitPairs file s.grant.start (asks_of s.asked.items) (replies_of s.replied.items) pairs

-- as many as the units of the grant give
pub record AreSeenPairs (file : ProverFile) (s : Session) (pairs : List Pair) : Type 0 where
  pub made : ArePairsBy file.params.kind file s pairs
  pub count : length pairs ≡ s.grant.count * correlations_per_unit file.params
