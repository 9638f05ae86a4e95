-- What some texts say, and what is printed, by computation.
use Rattle.std.proofs.Common.{◌≡◌, [], ◌∷◌, Some, codes, refl}
use Rattle.std.specs.Fmt.{digits}
use Rattle.element_file.specs.Elements.{SaysElements, elements_word, first_bad}

-- leading zeros and blanks of any kind
two_elements : SaysElements (codes " 007\t0\r\n2305843009213693950") (7 ∷ 0 ∷ 2305843009213693950 ∷ [])
two_elements = refl

no_elements : SaysElements (codes " \n") []
no_elements = refl

-- the word `none`, a sign, and the prime
a_word : first_bad (codes "none") ≡ Some 0
a_word = refl

a_sign : first_bad (codes "1 -1 x") ≡ Some 1
a_sign = refl

the_prime : first_bad (codes "4 0 2305843009213693951 x") ≡ Some 2
the_prime = refl

printed : elements_word (0 ∷ 10 ∷ 2305843009213693950 ∷ []) ≡ codes "0 10 2305843009213693950"
unfolding digits
printed = refl

printed_none : elements_word [] ≡ codes "none"
printed_none = refl
