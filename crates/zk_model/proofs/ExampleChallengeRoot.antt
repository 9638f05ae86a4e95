-- Two false products in one section whose errors, -2 and 1, cancel at the challenge 2: the session is accepted, and its
-- finding is their polynomial.
use Rattle.std.proofs.Common.{◌≡◌, ℕ, ◌<◌, ◌≤◌, [], ◌∷◌, refl, replicate, sym, subst, inl, inr, ◌⊎◌, lit<, lit≤, arith}
use Rattle.std.proofs.lemmas.Bool.{cases_lt}
use Rattle.std.proofs.lemmas.List.Elements.{All-from_recursion, All-nil}
use Rattle.sha2.specs.Sha256.{sha256}
use Rattle.zk_model.proofs.ExampleTools.{one_only, bytes_of, empty_digest_fits, made_once}
use Rattle.zk_model.proofs.ExampleProducts.{prover, verifier, dealt, pair, setup, seen}
use Rattle.zk_model.specs.Field.{IsElement}
use Rattle.zk_model.specs.Program.{Program, IsProduct, IsMadeOnce, IsSetInAll, IsProgram, MeetsStep}
use Rattle.zk_model.specs.declared.StatementKind.TheVariants.{Boolean}
use Rattle.zk_model.specs.Statement.{Statement, IsStatement}
use Rattle.zk_model.specs.Transcript.{Transcript}
use Rattle.zk_model.specs.Check.{WireKeys, SectionHolds}
use Rattle.zk_model.specs.View.{View, IsView, session_products, IsVerdict}
use Rattle.zk_model.specs.Finding.{found_challenge_root, IsFirstError, IsFinding}
use Rattle.zk_model.specs.declared.Verdict.TheVariants.{Accepted}

-- two values that are both to be the product of the inputs
abbrev twice : Program
twice = record {
  wires = 2;
  public = 0;
  inputs = 2;
  steps = [];
  givens = 4;
  products = record { a = 0; b = 1; c = 2 } ∷ record { a = 0; b = 1; c = 3 } ∷ [];
  opened = [];
}

made : (j : ℕ) → 2 ≤ j → j < 4 → IsMadeOnce twice j
made j low below = elim (either j low below) [
  | inl is ↦ subst (IsMadeOnce twice) (sym is)
      (made_once twice 2 0 (record { a = 0; b = 1; c = 2 }) refl refl ((λ e. refl), ((λ e. absurd (omega (arith, e))), tt)))
  | inr is ↦ subst (IsMadeOnce twice) (sym is)
      (made_once twice 3 1 (record { a = 0; b = 1; c = 3 }) refl refl ((λ e. absurd (omega (arith, e))), ((λ e. refl), tt)))
]
  where
    either : (j : ℕ) → 2 ≤ j → j < 4 → (j ≡ 2) ⊎ (j ≡ 3)
    either j low below = elim (cases_lt j 3) [
      | inl less ↦ inl (omega (arith, low, less))
      | inr past ↦ inr (omega (arith, past, below))
    ]

twice_is_program : IsProgram twice
twice_is_program = record {
  first = lit≤ tt;
  inputs = lit≤ tt;
  steps = λ n step at. cc;
  products = All-from_recursion (IsProduct twice) twice.products (
    record { left = inl (lit< tt); right = inl (lit< tt); value = lit< tt },
    (record { left = inl (lit< tt); right = inl (lit< tt); value = lit< tt }, tt),
  );
  made = made;
  opened = All-nil (IsSetInAll twice);
}

abbrev statement : Statement
statement = record { kind = Boolean; program = twice; public = []; claims = []; circuit = replicate 32 2; outputs = replicate 32 3; public_digest = sha256 [] }

stated : IsStatement statement
stated = record {
  program = twice_is_program;
  public_count = refl;
  public = All-nil IsElement;
  may_be_public = tt;
  claim_count = refl;
  claims = All-nil IsElement;
  circuit = bytes_of 32 2 (lit< tt);
  outputs = bytes_of 32 3 (lit< tt);
  public_digest = empty_digest_fits;
  none_public = λ none. refl;
}

-- the inputs 1 and 1, and 3 and 0 in place of their product
abbrev session : Transcript
session = record {
  commitment = record { setup = setup statement; corrections = 0 ∷ 0 ∷ 2 ∷ 2305843009213693947 ∷ [] };
  challenge = 2;
  sums = (1204, 133) ∷ [];
  openings = [];
  code = 0;
  number = 0;
}

abbrev view : View
view = record {
  pairs = dealt;
  carried = record { given = pair 1 10 ∷ pair 1 20 ∷ pair 3 7 ∷ pair 0 9 ∷ []; wires = pair 1 10 ∷ pair 1 20 ∷ [] };
}

viewed : IsView prover statement session.commitment view
viewed = record {
  pairs = seen statement;
  given = refl;
  carried = record {
    values = record { whole = refl; constants = refl; inputs = refl; steps = All-nil (MeetsStep 1 (1 ∷ 1 ∷ []) (1 ∷ 1 ∷ 3 ∷ 0 ∷ [])) };
    macs = record { whole = refl; constants = refl; inputs = refl; steps = All-nil (MeetsStep 0 (10 ∷ 20 ∷ []) (10 ∷ 20 ∷ 7 ∷ 9 ∷ [])) };
  };
}

abbrev keys : WireKeys
keys = record { given = 15 ∷ 25 ∷ 22 ∷ 9 ∷ []; wires = 15 ∷ 25 ∷ [] }

-- both sides of the section are 1869
accepted : IsVerdict verifier statement session Accepted
accepted = record {
  keys = keys;
  carried = record {
    given = refl;
    carried = record { whole = refl; constants = refl; inputs = refl; steps = All-nil (MeetsStep 5 (15 ∷ 25 ∷ []) (15 ∷ 25 ∷ 22 ∷ 9 ∷ [])) };
  };
  judged = (one_only (SectionHolds (session_products verifier statement session keys)) refl, λ o below. absurd (omega (arith, below)));
  said = record { code = refl; number = refl };
}

first_error : IsFirstError twice session.commitment view 0
first_error = record {
  below = lit< tt;
  fails = λ none. let one : 1 ≡ 0 = none 2 0 (lit< tt) in absurd (omega (arith, one));
  before = λ i below. absurd (omega (arith, below));
}

found : IsFinding prover statement session (found_challenge_root 0 (0 ∷ 2305843009213693949 ∷ 1 ∷ []))
found = record { view = view; seen = viewed; gives = record { first = first_error; polynomial_is = refl; met = refl } }
