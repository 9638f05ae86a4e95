-- Both ends of a session: views exist, keys fit them, and what an honest prover sends meets every equation.
use Rattle.std.specs.Prelude.{◌≡◌, ℕ, List, length, map}
use Rattle.zk_model.specs.Field.{IsElement}
use Rattle.zk_model.specs.Mac.{fitting_key, AreKeysOf}
use Rattle.zk_model.specs.Program.{Program, Carries, IsProgram, opened_values}
use Rattle.zk_model.specs.Statement.{Statement, IsStatement}
use Rattle.zk_model.specs.Files.{ProverFile, VerifierFile, IsProverFile}
use Rattle.zk_model.specs.Transcript.{Commitment, Transcript, IsCommitment, IsTranscript}
use Rattle.zk_model.specs.Check.{WirePairs, ArePairsOf, WireKeys, AreKeysFor, AllSectionsHold, AllOpeningsHold}
use Rattle.zk_model.specs.View.{View, IsView, session_keys, AreSessionKeys, session_products, session_openings}
use Rattle.zk_model.specs.HonestProver.{ProverTask, IsHonest}

-- given values have numbers of all wires that follow from them
abbrev pub WiresFollow : Type 0
WiresFollow = (one : ℕ) (program : Program) (public given : List ℕ) → IsProgram program → length public ≡ program.public
    → length given ≡ program.givens → (wires : List ℕ) × Carries one program public given wires

-- whatever the replies hold, the prover sees a view
abbrev pub ViewExists : Type 0
ViewExists = (file : ProverFile) (statement : Statement) (commitment : Commitment)
    → IsProverFile file → IsStatement statement → IsCommitment file.params statement.program commitment
    → (view : View) × IsView file statement commitment view

-- the keys that fit pairs
abbrev pub fitting_keys : ℕ → WirePairs → WireKeys
fitting_keys key pairs = record { given = map (fitting_key key) pairs.given; wires = map (fitting_key key) pairs.wires }

-- keys that fit the pairs of given values carry over to keys that fit the pairs of the wires
abbrev pub WireKeysFit : Type 0
WireKeysFit = (key : ℕ) (program : Program) (public : List ℕ) (pairs : WirePairs) → IsElement key
    → ArePairsOf program public pairs → AreKeysFor key program public (fitting_keys key pairs)

-- Where the keys fit the prover's pairs and the claims are what its values give, all that an honest prover sends meets the
-- equations, whatever the challenge, the key and the keys of wires that the verifier carries.
abbrev pub HonestSessionHolds : Type 0
HonestSessionHolds = (verifier : VerifierFile) (task : ProverTask) (t : Transcript) (keys : WireKeys)
    → IsStatement task.statement → IsElement verifier.key → IsTranscript task.file.params task.statement.program t
    → (honest : IsHonest task t)
    → opened_values task.statement.program honest.wires ≡ task.statement.claims
    → AreKeysOf verifier.key honest.view.pairs (session_keys verifier t.commitment)
    → AreSessionKeys verifier task.statement t.commitment keys
    → AllSectionsHold (session_products verifier task.statement t keys)
    × AllOpeningsHold (session_openings verifier task.statement t keys)
