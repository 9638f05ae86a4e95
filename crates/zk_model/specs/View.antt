-- A whole session as the prover sees it, and what the verifier tests of it.
use Rattle.std.specs.Prelude.{◌≡◌, ℕ, ◌+◌, List, drop}
use Rattle.zk_model.specs.Program.{Program}
use Rattle.zk_model.specs.Statement.{Statement}
use Rattle.zk_model.specs.Mac.{Pair, corrected_pairs, corrected_keys}
use Rattle.zk_model.specs.Files.{ProverFile, VerifierFile}
use Rattle.zk_model.specs.Transcript.{Grant, Commitment, Transcript}
use Rattle.zk_model.specs.Correlations.{IsProverView, span_keys}
use Rattle.zk_model.specs.Check.{WirePairs, ArePairsOf, WireKeys, AreKeysFor, ProductCheck, OpeningCheck, AllSectionsHold, FailsFirstAt, AllOpeningsHold, OpensFalselyAt}
use Rattle.zk_model.specs.declared.Span.{Span}
use Rattle.zk_model.specs.declared.Verdict.{Verdict}
use Rattle.zk_model.specs.declared.Verdict.TheVariants.{Accepted, RejectedSum, RejectedOpening}

-- ---- the prover

-- the pairs of all correlations of a session, and those of the given values and of the wires
pub record View : Type 0 where
  pub pairs : List Pair
  pub carried : WirePairs

-- The pairs are those that the file and the log fix; the corrections make the given values of them, and the wires follow.
pub record IsView (file : ProverFile) (statement : Statement) (commitment : Commitment) (view : View) : Type 0 where
  pub pairs : IsProverView file commitment.setup view.pairs
  pub given : view.carried.given ≡ corrected_pairs view.pairs commitment.corrections
  pub carried : ArePairsOf statement.program statement.public view.carried

-- the pairs of the masks: those after the given values'
abbrev pub view_masks : Program → View → List Pair
view_masks program view = drop program.givens view.pairs

-- ---- the verifier

-- the units of a grant
abbrev pub span_of : Grant → Span
span_of grant = record { start = grant.start; end = grant.start + grant.count }

-- the keys of the session's correlations
abbrev pub session_keys : VerifierFile → Commitment → List ℕ
session_keys file commitment = span_keys file (span_of commitment.setup.grant)

-- The keys of the given values are those of the correlations, as the corrections leave them, and the wires follow.
pub record AreSessionKeys (file : VerifierFile) (statement : Statement) (commitment : Commitment) (keys : WireKeys) : Type 0 where
  pub given : keys.given ≡ corrected_keys file.key (session_keys file commitment) commitment.corrections
  pub carried : AreKeysFor file.key statement.program statement.public keys

-- what the verifier tests of the products of a session
abbrev pub session_products : VerifierFile → Statement → Transcript → WireKeys → ProductCheck
session_products file statement t keys = record {
  program = statement.program;
  section_length = t.commitment.setup.grant.section_length;
  key = file.key;
  keys = keys;
  masks = drop statement.program.givens (session_keys file t.commitment);
  challenge = t.challenge;
  sums = t.sums;
}

-- and of the opened wires
abbrev pub session_openings : VerifierFile → Statement → Transcript → WireKeys → OpeningCheck
session_openings file statement t keys = record {
  program = statement.program;
  key = file.key;
  keys = keys;
  macs = t.openings;
  claims = statement.claims;
}

-- over keys of all wires, the equations of all sections and of all opened wires hold
pub record ChecksHold (file : VerifierFile) (statement : Statement) (t : Transcript) : Type 0 where
  pub keys : WireKeys
  pub carried : AreSessionKeys file statement t.commitment keys
  pub sections : AllSectionsHold (session_products file statement t keys)
  pub openings : AllOpeningsHold (session_openings file statement t keys)

-- ---- the verdict

-- the verdict of these checks: that all equations hold; the first section whose equation fails; or, where those of all
-- sections hold, the first opened wire whose equation fails
abbrev pub IsVerdictOf : ProductCheck → OpeningCheck → Verdict → Type 0
IsVerdictOf products openings Accepted = AllSectionsHold products × AllOpeningsHold openings
IsVerdictOf products openings (RejectedSum s) = FailsFirstAt products s
IsVerdictOf products openings (RejectedOpening o) = AllSectionsHold products × OpensFalselyAt openings o

-- the code of a verdict in its frame
abbrev pub verdict_code : Verdict → ℕ
verdict_code Accepted = 0
verdict_code (RejectedSum s) = 1
verdict_code (RejectedOpening o) = 2

-- and the number
abbrev pub verdict_number : Verdict → ℕ
verdict_number Accepted = 0
verdict_number (RejectedSum s) = s
verdict_number (RejectedOpening o) = o

-- the last frame of a session says this verdict
pub record SaysVerdict (t : Transcript) (verdict : Verdict) : Type 0 where
  pub code : t.code ≡ verdict_code verdict
  pub number : t.number ≡ verdict_number verdict

-- the verdict of a session is that of its checks, over keys of all wires
pub record IsVerdict (file : VerifierFile) (statement : Statement) (t : Transcript) (verdict : Verdict) : Type 0 where
  pub keys : WireKeys
  pub carried : AreSessionKeys file statement t.commitment keys
  pub judged : IsVerdictOf (session_products file statement t keys) (session_openings file statement t keys) verdict
  pub said : SaysVerdict t verdict
