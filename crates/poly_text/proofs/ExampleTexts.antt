-- What some texts of constraints say, by computation.
use Rattle.std.proofs.Common.{◌≡◌, [], ◌∷◌, refl}
use Rattle.std.specs.Prelude.{Ok, Err, codes}
use Rattle.zk_model.specs.Bristol.{lexemes}
use Rattle.poly_model.specs.Constraints.{Constraints}
use Rattle.poly_text.specs.Texts.{constraints_lexemes}
use Rattle.poly_text.specs.TextFaults.{judged}
use Rattle.poly_text.specs.declared.fault.PolyFault.TheVariants.{ShortText, BadNumber, TooLarge, VarRange, ExtraText}

-- x squared is 9
nine : Constraints
nine = record {
  variables = 1;
  polynomials = (record { coefficient = 1; factors = 0 ∷ 0 ∷ [] } ∷ record { coefficient = 2305843009213693942; factors = [] } ∷ []) ∷ [];
}

text_of_nine : lexemes (codes "1 1 2 1 2 0 0 2305843009213693942 0") ≡ constraints_lexemes nine
unfolding nine
text_of_nine = refl

nine_judged : judged (codes "1 1 2 1 2 0 0 2305843009213693942 0") ≡ Ok nine
unfolding nine
nine_judged = refl

-- no values and no constraints; and a constraint without terms, with blanks of any kind and leading zeros
none_judged : judged (codes "0 0") ≡ Ok (record { variables = 0; polynomials = [] })
none_judged = refl

empty_judged : judged (codes "\t65536\r\n01  0\n") ≡ Ok (record { variables = 65536; polynomials = [] ∷ [] })
empty_judged = refl

-- ---- faults

-- the text ends
no_text : judged (codes " \n") ≡ Err (ShortText 0)
no_text = refl

no_factor : judged (codes "1 1 2 1 2 0") ≡ Err (ShortText 6)
no_factor = refl

-- a name, and a sign
a_name : judged (codes "x 99999999") ≡ Err (BadNumber 0)
a_name = refl

a_sign : judged (codes "1 1 1 -1 9") ≡ Err (BadNumber 3)
a_sign = refl

-- each limit, one above
values_above : judged (codes "65537 65537") ≡ Err (TooLarge 0)
values_above = refl

constraints_above : judged (codes "65536 65537 x") ≡ Err (TooLarge 1)
constraints_above = refl

terms_above : judged (codes "1 65536 4097 x") ≡ Err (TooLarge 2)
terms_above = refl

coefficient_above : judged (codes "1 1 4096 2305843009213693951 9") ≡ Err (TooLarge 3)
coefficient_above = refl

factors_above : judged (codes "1 1 1 2305843009213693950 9 5") ≡ Err (TooLarge 4)
factors_above = refl

-- a factor that is no value, before a token that is no number
no_value : judged (codes "2 1 1 7 2 2 x") ≡ Err (VarRange 5)
no_value = refl

no_values : judged (codes "0 1 1 7 8 0") ≡ Err (VarRange 5)
no_values = refl

-- and behind the last constraint
behind_last : judged (codes "1 1 0 0 x") ≡ Err (ExtraText 3)
behind_last = refl
