-- Audits of sessions about circuits of either kind, as words name them.
use Rattle.std.specs.Prelude.{◌≡◌, ◌⊎◌, ℕ, List}
use Rattle.command_words.specs.BitWords.{Bits}
use Rattle.command_words.specs.Words.{AuditArithAsk, AuditAsk}
use Rattle.statement_file.specs.Claims.{named_claim}
use Rattle.claim_files.specs.NamedClaims.{IsClaimName}
use Rattle.claim_files.specs.NamedElements.{named_elements}
use Rattle.claim_files.specs.declared.claim_names.ClaimNames.{ClaimNames}
use Rattle.claim_files.specs.declared.claim_names.ClaimNames.TheVariants as names

-- the claim, both dealt files, and a session's log
pub record Audit : Type 0 where
  pub claim : ClaimNames
  pub prover : List ℕ
  pub verifier : List ℕ
  pub log : List ℕ

-- of a session about a Boolean circuit, whose bits are known
abbrev pub audit_asked : AuditAsk Bits → Audit
audit_asked ask = record {
  claim = names.Boolean (named_claim ask.circuit ask.public ask.outputs);
  prover = ask.prover;
  verifier = ask.verifier;
  log = ask.log;
}

-- of one about an arithmetic circuit
abbrev pub audit_of_arith : AuditArithAsk → Audit
audit_of_arith ask = record {
  claim = names.Arithmetic (named_elements ask.circuit ask.outputs);
  prover = ask.prover;
  verifier = ask.verifier;
  log = ask.log;
}

-- the names of the files that are loaded
abbrev pub IsAuditName : Audit → List ℕ → Type 0
IsAuditName audit name = IsClaimName audit.claim name ⊎ (name ≡ audit.prover) ⊎ (name ≡ audit.verifier) ⊎ (name ≡ audit.log)
