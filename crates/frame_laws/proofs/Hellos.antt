-- Hellos: their lengths, and those that fit a statement.
use Rattle.std.proofs.Common.{◌≡◌, ℕ, ◌+◌, ◌<◌, ◌≤◌, List, [], ◌∷◌, ◌++◌, length, refl, sym, ap, arith, length-append, subst}
use Rattle.std.specs.Prelude.{Option, Some, None, unwrap_or, IfSome}
use Rattle.sha2.specs.Sha256.{sha256}
use Rattle.zk_model.specs.Bytes.{AreBytes}
use Rattle.zk_model.specs.Statement.{Statement, IsStatement, MayBePublic}
use Rattle.zk_model.specs.Transcript.{Hello, IsHello, IsHelloFor, HasForm, hello_frame, wanted_hello, version_of, digest_sent}
use Rattle.zk_model.specs.Frames as model
use Rattle.zk_model.specs.Frames.{Frame, Allows}
use Rattle.zk_model.specs.Audit.{hello_place}
use Rattle.zk_model.specs.declared.StatementKind.{StatementKind}
use Rattle.zk_model.specs.declared.StatementKind.TheVariants.{Boolean, Arithmetic}

-- ---- lengths

-- the payload of a hello
abbrev pub hello_payload : Hello → List ℕ
hello_payload hello = hello.id ++ hello.circuit ++ hello.outputs ++ hello.version ∷ unwrap_or hello.public []

pub payload_length : (hello : Hello) → IsHello hello → length (hello_payload hello) ≡ 97 + length (unwrap_or hello.public [])
payload_length hello is = omega (
  arith,
  is.id.0,
  is.circuit.0,
  is.outputs.0,
  length-append (hello.id ++ hello.circuit ++ hello.outputs) (hello.version ∷ unwrap_or hello.public []),
  length-append (hello.id ++ hello.circuit) hello.outputs,
  length-append hello.id hello.circuit,
)

-- the digest has 32 bytes, where there is one
pub digest_most : (public : Option (List ℕ)) → IfSome public (AreBytes 32) → length (unwrap_or public []) ≤ 32
digest_most None is = omega arith
digest_most (Some digest) is = omega (arith, is.0)

-- so a hello has 102 bytes, or 134
pub hello_least : (hello : Hello) → IsHello hello → 102 ≤ length (hello_frame hello)
hello_least hello is = omega (arith, payload_length hello is)

pub hello_most : (hello : Hello) → IsHello hello → length (hello_frame hello) ≤ 134
hello_most hello is = omega (arith, payload_length hello is, digest_most hello.public is.public)

-- ---- hellos for a statement

-- a prover's hello fits its statement
pub wanted_fits : (id : List ℕ) (statement : Statement) → IsStatement statement → IsHelloFor id statement (wanted_hello id statement)
wanted_fits id statement is =
    record {
      id = refl;
      form = form statement.kind statement.public is.may_be_public;
      version = refl;
      circuit = refl;
      outputs = refl;
      public = said statement.public is.none_public;
    }
  where
    form : (kind : StatementKind) (public : List ℕ) → MayBePublic kind public → HasForm kind (digest_sent public statement.public_digest)
    form Boolean public may = tt
    form Arithmetic public may = ap (λ values. digest_sent values statement.public_digest) may

    said : (public : List ℕ) → (public ≡ [] → statement.public_digest ≡ sha256 [])
        → unwrap_or (digest_sent public statement.public_digest) (sha256 []) ≡ statement.public_digest
    said [] none = sym (none refl)
    said (value ∷ values) none = refl

-- the digest of public values in the longest hello about a kind of statement, and how long that is
abbrev longest_public : StatementKind → List ℕ → Option (List ℕ)
longest_public Boolean digest = Some digest
longest_public Arithmetic digest = None

abbrev pub hello_longest : StatementKind → ℕ
hello_longest Boolean = 134
hello_longest Arithmetic = 102

-- the longest hello that fits a statement
abbrev pub longest_hello : List ℕ → Statement → Hello
longest_hello id statement = record {
  id = id;
  circuit = statement.circuit;
  outputs = statement.outputs;
  version = version_of statement.kind (longest_public statement.kind statement.public_digest);
  public = longest_public statement.kind statement.public_digest;
}

pub longest_fits : (id : List ℕ) (statement : Statement) → IsStatement statement → IsHelloFor id statement (longest_hello id statement)
longest_fits id statement is = record {
  id = refl;
  form = form statement.kind;
  version = refl;
  circuit = refl;
  outputs = refl;
  public = said statement.kind is.may_be_public;
}
  where
    form : (kind : StatementKind) → HasForm kind (longest_public kind statement.public_digest)
    form Boolean = tt
    form Arithmetic = refl

    said : (kind : StatementKind) → MayBePublic kind statement.public
        → unwrap_or (longest_public kind statement.public_digest) (sha256 []) ≡ statement.public_digest
    said Boolean may = refl
    said Arithmetic may = sym (is.none_public may)

-- what fits a statement is a hello
pub fitting_is_hello : (id : List ℕ) (statement : Statement) (hello : Hello) → AreBytes 32 id → IsStatement statement
    → IsHelloFor id statement hello → IsHello hello
fitting_is_hello id statement hello named is fits = record {
  id = subst (AreBytes 32) (sym fits.id) named;
  circuit = subst (AreBytes 32) (sym fits.circuit) is.circuit;
  outputs = subst (AreBytes 32) (sym fits.outputs) is.outputs;
  version = subst (λ (n : ℕ). n < 256) (sym fits.version) (small statement.kind hello.public);
  public = digest hello.public fits.public;
}
  where
    small : (kind : StatementKind) (public : Option (List ℕ)) → version_of kind public < 256
    small Boolean None = omega arith
    small Boolean (Some bytes) = omega arith
    small Arithmetic public = omega arith

    digest : (public : Option (List ℕ)) → unwrap_or public (sha256 []) ≡ statement.public_digest → IfSome public (AreBytes 32)
    digest None said = tt
    digest (Some bytes) said = subst (AreBytes 32) (sym said) is.public_digest

-- so a prover's hello is one
pub wanted_is_hello : (id : List ℕ) (statement : Statement) → AreBytes 32 id → IsStatement statement → IsHello (wanted_hello id statement)
wanted_is_hello id statement named is =
    fitting_is_hello id statement (wanted_hello id statement) named is (wanted_fits id statement is)

-- and the longest that fits has so many bytes
pub longest_length : (id : List ℕ) (statement : Statement) → AreBytes 32 id → IsStatement statement
    → length (hello_frame (longest_hello id statement)) ≡ hello_longest statement.kind
longest_length id statement named is =
    let hello = longest_hello id statement in
    omega (arith, payload_length hello (fitting_is_hello id statement hello named is (longest_fits id statement is)), sized statement.kind)
  where
    sized : (kind : StatementKind) → 102 + length (unwrap_or (longest_public kind statement.public_digest) []) ≡ hello_longest kind
    sized Boolean = omega (arith, is.public_digest.0)
    sized Arithmetic = refl

-- ---- at the place of a hello

-- what the place of a hello allows is one, of a form of the kind
pub allowed_hello : (kind : StatementKind) (frame : Frame) → Allows (hello_place kind) frame
    → (said : Hello) × (frame ≡ model.hello said) × IsHello said × HasForm kind said.public
allowed_hello Boolean frame is = (is.0, is.1, is.2, tt)
allowed_hello Arithmetic frame is = is

-- and it allows all of these
pub hello_allowed : (kind : StatementKind) (said : Hello) → IsHello said → HasForm kind said.public → Allows (hello_place kind) (model.hello said)
hello_allowed Boolean said is form = (said, refl, is)
hello_allowed Arithmetic said is form = (said, refl, is, form)
