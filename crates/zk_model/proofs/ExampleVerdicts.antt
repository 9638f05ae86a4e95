-- Verdicts and findings of sessions about one product, by computation: accepted, rejected, and accepted by luck.
use Rattle.std.proofs.Common.{◌≡◌, ℕ, [], ◌∷◌, refl, inl, inr, lit<, arith}
use Rattle.std.proofs.lemmas.List.Elements.{All-from_recursion}
use Rattle.zk_model.proofs.ExampleTools.{one_only}
use Rattle.zk_model.proofs.ExamplePrograms.{multiply}
use Rattle.zk_model.proofs.ExampleProducts.{prover, verifier, claiming, session, to_one, to_zero, view, view_of_one, view_of_zero, keys, keys_of_one, keys_of_zero}
use Rattle.zk_model.specs.Polynomial.{IsRoot}
use Rattle.zk_model.specs.Transcript.{Transcript}
use Rattle.zk_model.specs.Check.{left_of_section, right_of_section, SectionHolds, left_of_opening, right_of_opening, OpeningHolds}
use Rattle.zk_model.specs.View.{AreSessionKeys, session_products, session_openings, IsVerdict}
use Rattle.zk_model.specs.Finding.{found_key_root, section_errors, HasNoError, IsFirstError, IsFinding}
use Rattle.zk_model.specs.declared.Verdict.TheVariants.{Accepted, RejectedSum, RejectedOpening}

-- a session in which both checks hold is accepted
accepted : (claim correction sum opening last : ℕ)
    → AreSessionKeys verifier (claiming claim) (session claim correction sum opening 0).commitment (keys last)
    → SectionHolds (session_products verifier (claiming claim) (session claim correction sum opening 0) (keys last)) 0
    → OpeningHolds (session_openings verifier (claiming claim) (session claim correction sum opening 0) (keys last)) 0
    → IsVerdict verifier (claiming claim) (session claim correction sum opening 0) Accepted
accepted claim correction sum opening last carried section opened = record {
  keys = keys last;
  carried = carried;
  judged = (
    one_only (SectionHolds (session_products verifier (claiming claim) (session claim correction sum opening 0) (keys last))) section,
    one_only (OpeningHolds (session_openings verifier (claiming claim) (session claim correction sum opening 0) (keys last))) opened,
  );
  said = record { code = refl; number = refl };
}

-- ---- one times one is 1

abbrev honest : Transcript
honest = session 1 to_one 409 7 0

honest_accepted : IsVerdict verifier (claiming 1) honest Accepted
honest_accepted = accepted 1 to_one 409 7 12 (keys_of_one 1) refl refl

-- ---- a product of 0, with the sums of one that is 1: the left side is 709, and the right one 659

abbrev false_product : Transcript
false_product = session 0 to_zero 409 7 1

-- ---- a MAC of 8 for the claim 1: the key of the wire is 12, and the right side 13

abbrev false_opening : Transcript
false_opening = session 1 to_one 409 8 2

-- ---- their sides, by which both are rejected
false_sides : left_of_section (session_products verifier (claiming 0) false_product (keys 7)) 0
    ∷ right_of_section (session_products verifier (claiming 0) false_product (keys 7)) 0
    ∷ left_of_opening (session_openings verifier (claiming 1) false_opening (keys 12)) 0
    ∷ right_of_opening (session_openings verifier (claiming 1) false_opening (keys 12)) 0 ∷ [] ≡ 709 ∷ 659 ∷ 12 ∷ 13 ∷ []
false_sides = refl

section_rejected : IsVerdict verifier (claiming 0) false_product (RejectedSum 0)
section_rejected = record {
  keys = keys 7;
  carried = keys_of_zero 0;
  judged = record { below = lit< tt; fails = λ e. let sides : 709 ≡ 659 = e in absurd (omega (arith, sides)); before = λ i below. absurd (omega (arith, below)) };
  said = record { code = refl; number = refl };
}

opening_rejected : IsVerdict verifier (claiming 1) false_opening (RejectedOpening 0)
opening_rejected = record {
  keys = keys 12;
  carried = keys_of_one 1;
  judged = (
    one_only (SectionHolds (session_products verifier (claiming 1) false_opening (keys 12))) refl,
    record { below = lit< tt; fails = λ e. let sides : 12 ≡ 13 = e in absurd (omega (arith, sides)); before = λ i below. absurd (omega (arith, below)) },
  );
  said = record { code = refl; number = refl };
}

-- ---- a product of 0 that is accepted: the first sum is 459, and the key a root of what that shows

abbrev lucky_product : Transcript
lucky_product = session 0 to_zero 459 7 0

lucky_product_accepted : IsVerdict verifier (claiming 0) lucky_product Accepted
lucky_product_accepted = accepted 0 to_zero 459 7 7 (keys_of_zero 0) refl refl

-- the only section has the error 1
has_error : IsFirstError multiply lucky_product.commitment (view 0) 0
has_error = record {
  below = lit< tt;
  fails = λ none. let one : 1 ≡ 0 = none 1 0 (lit< tt) in absurd (omega (arith, one));
  before = λ i below. absurd (omega (arith, below));
}

lucky_product_found : IsFinding prover (claiming 0) lucky_product (found_key_root (2305843009213693901 ∷ 0 ∷ 2 ∷ []))
lucky_product_found = record {
  view = view 0;
  seen = view_of_zero 0;
  gives = inl (record {
    section = 0;
    first = has_error;
    unmet = λ e. cc;
    polynomial_is = refl;
  });
}

lucky_product_root : IsRoot (2305843009213693901 ∷ 0 ∷ 2 ∷ []) verifier.key
lucky_product_root = refl

-- ---- a claim of 0 for a wire that is 1, with the MAC 12

abbrev lucky_opening : Transcript
lucky_opening = session 0 to_one 409 12 0

lucky_opening_accepted : IsVerdict verifier (claiming 0) lucky_opening Accepted
lucky_opening_accepted = accepted 0 to_one 409 12 12 (keys_of_one 0) refl refl

lucky_opening_found : IsFinding prover (claiming 0) lucky_opening (found_key_root (2305843009213693946 ∷ 1 ∷ []))
lucky_opening_found = record {
  view = view 1;
  seen = view_of_one 0;
  gives = inr (record {
    right = one_only (HasNoError multiply lucky_opening.commitment (view 1))
        (All-from_recursion (λ a. a ≡ 0) (section_errors multiply lucky_opening.commitment (view 1) 0) (refl, (refl, tt)));
    opened = 0;
    first = record { below = lit< tt; fails = λ e. cc; before = λ i below. absurd (omega (arith, below)) };
    polynomial_is = refl;
  });
}

lucky_opening_root : IsRoot (2305843009213693946 ∷ 1 ∷ []) verifier.key
lucky_opening_root = refl
