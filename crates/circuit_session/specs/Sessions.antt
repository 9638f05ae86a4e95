-- What a session about a statement shows where it is accepted.
use Rattle.std.specs.Prelude.{◌≡◌, ◌≤◌, ℕ, Some, List, [], length}
use Rattle.zk_model.specs.Correlations.{span_keys}
use Rattle.zk_model.specs.Files.{VerifierFile}
use Rattle.zk_model.specs.Mac.{Pair, AreKeysOf}
use Rattle.zk_model.specs.Program.{correlations_needed}
use Rattle.zk_model.specs.Statement.{Statement}
use Rattle.zk_model.specs.Transcript.{Grant}
use Rattle.zk_model.specs.View.{span_of}
use Rattle.zk_model.specs.declared.Side.TheVariants.{Verifier}
use Rattle.frame_link.specs.Lines.{LinkSnapshot}
use Rattle.session_core.specs.declared.judgement.Judgement.TheVariants.{Accepted}
use Rattle.session_driver.specs.declared.drive.Outcome.TheVariants.{Done}
use Rattle.session_script.specs.Scripts.{ScriptLeaves, stage_of}
use Rattle.session_verifier.specs.Serving.{Grants}
use Rattle.session_claim.specs.Claims.{IsExchange}
use Rattle.session_claim.specs.Script.{first_places}
use Rattle.claim_verifier.specs.Hearing.{Heard, nothing_heard, known_of, exchange_in, verifier_rules}
use Rattle.circuit_session.specs.Statements.{IsJudgedBy, ShowsFindings, statement_claim}

-- A session was led to its end by a verifier's rules, units were granted, and the exchange is whole: all checks hold over the keys of the
-- granted units, of which there are enough. So for all pairs that these keys fit there is a finding, and every finding shows inputs that
-- make the program give the claims, or a root of a named polynomial that is not zero: at the challenge, of at most the number of
-- products in degree, or at the key, of degree two at most.
pub record IsStatementShown {R : Type 0} (grants : Grants R) (statement : Statement) (file : VerifierFile) (section_length : ℕ) (old new : R)
    (first now : LinkSnapshot) : Type 0 where
  pub heard : Heard
  pub leaves : ScriptLeaves (verifier_rules grants (statement_claim statement) file section_length) Verifier []
      (stage_of (known_of nothing_heard old) (first_places (statement_claim statement))) (known_of heard new) Done first now
  pub given : Grant
  pub granted : heard.given ≡ Some given
  pub exchange : IsExchange (statement_claim statement) (exchange_in file given heard)
  pub judged : IsJudgedBy statement file.key (span_keys file (span_of given)) (exchange_in file given heard) Accepted
  pub enough : correlations_needed statement.program given.section_length ≤ length (span_keys file (span_of given))
  pub shows : (pairs : List Pair) → AreKeysOf file.key pairs (span_keys file (span_of given))
      → ShowsFindings statement pairs (exchange_in file given heard) file.key
