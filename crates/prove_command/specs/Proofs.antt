-- What is proved: to whom, over which file, and of which circuit.
use Rattle.std.specs.Prelude.{ℕ, List}
use Rattle.command_words.specs.BitWords.{Bits}
use Rattle.command_words.specs.Words.{ProveArithAsk, ProveAsk}
use Rattle.prove_command.specs.NamedProofs.{bits_proof, elements_proof}
use Rattle.prove_command.specs.declared.proof.ProofNames.{ProofNames}
use Rattle.prove_command.specs.declared.proof.ProofNames.TheVariants as names

-- where the verifier listens, the prover's file, for how many seconds a silent peer is waited for, and what is to be proved
pub record Proof : Type 0 where
  pub address : List ℕ
  pub file : List ℕ
  pub timeout : ℕ
  pub names : ProofNames

abbrev pub proof : List ℕ → List ℕ → ℕ → ProofNames → Proof
proof address file timeout names = record { address = address; file = file; timeout = timeout; names = names }

-- by the bits that words name
abbrev pub proof_asked : ProveAsk Bits → Proof
proof_asked ask =
    proof ask.address ask.file ask.timeout (names.Boolean (bits_proof ask.circuit ask.public ask.bits ask.outputs))

-- by the elements of a file
abbrev pub proof_of_arith : ProveArithAsk → Proof
proof_of_arith ask =
    proof ask.address ask.file ask.timeout (names.Arithmetic (elements_proof ask.circuit ask.values ask.outputs))
