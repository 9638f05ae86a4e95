-- What a session is to prove, and how its hello names it.
use Rattle.std.specs.Prelude.{◌≡◌, ℕ, Bool, List, [], length, map, flat_map, All}
use Rattle.sha2.specs.Sha256.{sha256}
use Rattle.zk_model.specs.Bits.{from_bit, digits_of}
use Rattle.zk_model.specs.Field.{IsElement}
use Rattle.zk_model.specs.Bytes.{AreBytes, element_bytes}
use Rattle.zk_model.specs.Circuit.{Circuit}
use Rattle.zk_model.specs.Program.{Program, IsProgram}
use Rattle.zk_model.specs.Boolean.{circuit_program}
use Rattle.zk_model.specs.Arithmetic.{Arith}
use Rattle.zk_model.specs.ArithProgram.{arith_program, arith_claims}
use Rattle.zk_model.specs.declared.StatementKind.{StatementKind}
use Rattle.zk_model.specs.declared.StatementKind.TheVariants.{Boolean, Arithmetic}

-- What it is about; a program, the values of its public wires, and the claimed values of the wires that it opens; and the digests by
-- which a hello names them: of the circuit, of the claims and of the public values.
pub record Statement : Type 0 where
  pub kind : StatementKind
  pub program : Program
  pub public : List ℕ
  pub claims : List ℕ
  pub circuit : List ℕ
  pub outputs : List ℕ
  pub public_digest : List ℕ

-- values may be public where a statement is about a Boolean circuit
abbrev pub MayBePublic : StatementKind → List ℕ → Type 0
MayBePublic Boolean public = Unit {0}
MayBePublic Arithmetic public = public ≡ []

-- As many elements as there are public wires and opened wires, and three lists of 32 bytes; where there are no public wires
-- the third is the digest of the empty text.
pub record IsStatement (statement : Statement) : Type 0 where
  pub program : IsProgram statement.program
  pub public_count : length statement.public ≡ statement.program.public
  pub public : All IsElement statement.public
  pub may_be_public : MayBePublic statement.kind statement.public
  pub claim_count : length statement.claims ≡ length statement.program.opened
  pub claims : All IsElement statement.claims
  pub circuit : AreBytes 32 statement.circuit
  pub outputs : AreBytes 32 statement.outputs
  pub public_digest : AreBytes 32 statement.public_digest
  pub none_public : statement.public ≡ [] → statement.public_digest ≡ sha256 []

-- the statement that these public bits and some private ones make a circuit give these outputs: the hello has the digest of
-- the circuit's text, and those of the claimed bits and of the public ones, written 0 and 1
abbrev pub circuit_statement : Circuit → List ℕ → List Bool → List Bool → Statement
circuit_statement circuit digest public outputs = record {
  kind = Boolean;
  program = circuit_program (length public) circuit;
  public = map from_bit public;
  claims = map from_bit outputs;
  circuit = digest;
  outputs = sha256 (digits_of outputs);
  public_digest = sha256 (digits_of public);
}

-- the statement that some elements make an arithmetic circuit give these outputs and meet its assertions: the hello has the digest of the
-- circuit's text, and that of the claimed elements, written as 8 bytes each
abbrev pub arith_statement : Arith → List ℕ → List ℕ → Statement
arith_statement circuit digest outputs = record {
  kind = Arithmetic;
  program = arith_program circuit;
  public = [];
  claims = arith_claims circuit outputs;
  circuit = digest;
  outputs = sha256 (flat_map element_bytes outputs);
  public_digest = sha256 [];
}
