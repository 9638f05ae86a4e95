-- Sessions of kind direct about one product of field elements, under the key 5 and the challenge 2: what they are over.
use Rattle.std.proofs.Common.{◌≡◌, ℕ, List, [], ◌∷◌, refl, replicate, lit<}
use Rattle.std.proofs.lemmas.List.Elements.{All-from_recursion, All-nil}
use Rattle.sha2.specs.Sha256.{sha256}
use Rattle.zk_model.proofs.ExampleTools.{one_only, bytes_of, empty_digest_fits}
use Rattle.zk_model.proofs.ExampleFiles.{direct, prover_file_of, verifier_file_of, are_dealt}
use Rattle.zk_model.proofs.ExamplePrograms.{takes_given, multiply, multiply_is_program}
use Rattle.zk_model.specs.Field.{IsElement}
use Rattle.zk_model.specs.Program.{MeetsStep}
use Rattle.zk_model.specs.declared.StatementKind.TheVariants.{Boolean}
use Rattle.zk_model.specs.Statement.{Statement, IsStatement}
use Rattle.zk_model.specs.Mac.{Pair, corrected_pairs, corrected_keys}
use Rattle.zk_model.specs.Files.{ProverFile, VerifierFile, AreDealt}
use Rattle.zk_model.specs.Transcript.{Setup, Transcript, wanted_hello}
use Rattle.zk_model.specs.Correlations.{IsProverView}
use Rattle.zk_model.specs.Check.{WireKeys}
use Rattle.zk_model.specs.View.{View, IsView, AreSessionKeys}

-- ---- the files

abbrev pub pair : ℕ → ℕ → Pair
pair x m = record { x = x; m = m }

abbrev pub dealt : List Pair
dealt = pair 1 10 ∷ pair 1 20 ∷ pair 1 7 ∷ pair 4 9 ∷ replicate 60 (pair 3 4)

abbrev pub prover : ProverFile
prover = prover_file_of direct 8 0 (record { pairs = dealt; trees = [] } ∷ [])

abbrev pub verifier : VerifierFile
verifier = verifier_file_of direct 0 (record { keys = 15 ∷ 25 ∷ 12 ∷ 29 ∷ replicate 60 19; trees = [] } ∷ [])

files_dealt : AreDealt prover verifier
files_dealt = are_dealt direct 8 0 prover.units verifier.units (record { keys = refl; pads = tt }, tt)

-- ---- sessions about the product of two inputs

-- that the opened product is this
abbrev pub claiming : ℕ → Statement
claiming claim = record {
  kind = Boolean;
  program = multiply;
  public = [];
  claims = claim ∷ [];
  circuit = replicate 32 2;
  outputs = replicate 32 3;
  public_digest = sha256 [];
}

stated : (claim : ℕ) → IsElement claim → IsStatement (claiming claim)
stated claim element = record {
  program = multiply_is_program;
  public_count = refl;
  public = All-nil IsElement;
  may_be_public = tt;
  claim_count = refl;
  claims = All-from_recursion IsElement (claim ∷ []) (element, tt);
  circuit = bytes_of 32 2 (lit< tt);
  outputs = bytes_of 32 3 (lit< tt);
  public_digest = empty_digest_fits;
  none_public = λ none. refl;
}

abbrev pub setup : Statement → Setup
setup statement = record {
  hello = wanted_hello (replicate 32 1) statement;
  grant = record { start = 0; count = 1; section_length = 1048576 };
  rounds = [];
}

-- what differs: the claim, the correction of the product's value, the first sum and the opening
abbrev pub session : ℕ → ℕ → ℕ → ℕ → ℕ → Transcript
session claim correction sum opening code = record {
  commitment = record { setup = setup (claiming claim); corrections = 0 ∷ 0 ∷ correction ∷ [] };
  challenge = 2;
  sums = (sum, 50) ∷ [];
  openings = opening ∷ [];
  code = code;
  number = 0;
}

-- the correction that leaves the product 1, and the one that makes it 0
abbrev pub to_one : ℕ
to_one = 0

abbrev pub to_zero : ℕ
to_zero = 2305843009213693950

-- what the prover sees where the product has this value
abbrev pub view : ℕ → View
view value = record {
  pairs = dealt;
  carried = record { given = pair 1 10 ∷ pair 1 20 ∷ pair value 7 ∷ []; wires = pair 1 10 ∷ pair 1 20 ∷ pair value 7 ∷ [] };
}

pub seen : (statement : Statement) → IsProverView prover (setup statement) dealt
seen statement = record { units = dealt ∷ []; count = refl; each = one_only _ refl; joined = refl }

-- a view of it, where its given value and the step that takes it are right
view_of : (claim correction value : ℕ) → (view value).carried.given ≡ corrected_pairs dealt (0 ∷ 0 ∷ correction ∷ [])
    → MeetsStep 1 (1 ∷ 1 ∷ value ∷ []) (1 ∷ 1 ∷ value ∷ []) (takes_given 2 2)
    → IsView prover (claiming claim) (record { setup = setup (claiming claim); corrections = 0 ∷ 0 ∷ correction ∷ [] }) (view value)
view_of claim correction value given met = record {
  pairs = seen (claiming claim);
  given = given;
  carried = record {
    values = record { whole = refl; constants = refl; inputs = refl; steps = All-from_recursion (MeetsStep 1 (1 ∷ 1 ∷ value ∷ []) (1 ∷ 1 ∷ value ∷ [])) multiply.steps (met, tt) };
    macs = record { whole = refl; constants = refl; inputs = refl; steps = All-from_recursion (MeetsStep 0 (10 ∷ 20 ∷ 7 ∷ []) (10 ∷ 20 ∷ 7 ∷ [])) multiply.steps (refl, tt) };
  };
}

pub view_of_one : (claim : ℕ) → IsView prover (claiming claim) (record { setup = setup (claiming claim); corrections = 0 ∷ 0 ∷ to_one ∷ [] }) (view 1)
view_of_one claim = view_of claim to_one 1 refl refl

pub view_of_zero : (claim : ℕ) → IsView prover (claiming claim) (record { setup = setup (claiming claim); corrections = 0 ∷ 0 ∷ to_zero ∷ [] }) (view 0)
view_of_zero claim = view_of claim to_zero 0 refl refl

-- the keys: the last one is that of the product
abbrev pub keys : ℕ → WireKeys
keys last = record { given = 15 ∷ 25 ∷ last ∷ []; wires = 15 ∷ 25 ∷ last ∷ [] }

keys_of : (claim correction last : ℕ) → (keys last).given ≡ corrected_keys 5 (15 ∷ 25 ∷ 12 ∷ 29 ∷ replicate 60 19) (0 ∷ 0 ∷ correction ∷ [])
    → MeetsStep 5 (15 ∷ 25 ∷ last ∷ []) (15 ∷ 25 ∷ last ∷ []) (takes_given 2 2)
    → AreSessionKeys verifier (claiming claim) (record { setup = setup (claiming claim); corrections = 0 ∷ 0 ∷ correction ∷ [] }) (keys last)
keys_of claim correction last given met = record {
  given = given;
  carried = record { whole = refl; constants = refl; inputs = refl; steps = All-from_recursion (MeetsStep 5 (15 ∷ 25 ∷ last ∷ []) (15 ∷ 25 ∷ last ∷ [])) multiply.steps (met, tt) };
}

pub keys_of_one : (claim : ℕ) → AreSessionKeys verifier (claiming claim) (record { setup = setup (claiming claim); corrections = 0 ∷ 0 ∷ to_one ∷ [] }) (keys 12)
keys_of_one claim = keys_of claim to_one 12 refl refl

pub keys_of_zero : (claim : ℕ) → AreSessionKeys verifier (claiming claim) (record { setup = setup (claiming claim); corrections = 0 ∷ 0 ∷ to_zero ∷ [] }) (keys 7)
keys_of_zero claim = keys_of claim to_zero 7 refl refl
