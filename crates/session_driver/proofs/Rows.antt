-- Lists in a row, put otherwise.
use Rattle.std.proofs.Common.{◌≡◌, List, [], ◌++◌, refl, append_assoc, append-nil}

pub row_three : {T : Type 0} (a b c d : List T) → (a ++ b ++ c) ++ d ≡ a ++ (b ++ (c ++ d))
row_three a b c d = simp append_assoc refl

pub row_four : {T : Type 0} (a b c d e : List T) → (a ++ b ++ c ++ d) ++ e ≡ a ++ (b ++ (c ++ (d ++ e)))
row_four a b c d e = simp append_assoc refl

pub row_six : {T : Type 0} (a b c d e f g : List T) → (a ++ b ++ c ++ d ++ e ++ f) ++ g ≡ a ++ (b ++ (c ++ (d ++ (e ++ (f ++ g)))))
row_six a b c d e f g = simp append_assoc refl

pub nested : {T : Type 0} (a b c d : List T) → (a ++ (b ++ c)) ++ d ≡ a ++ (b ++ (c ++ d))
nested a b c d = simp append_assoc refl

-- as turns after the first
pub in_turns : {T : Type 0} (a b c d e f g : List T) → (a ++ b ++ c ++ d ++ e ++ f) ++ g ≡ a ++ (b ++ ((c ++ d) ++ (((e ++ f) ++ g) ++ [])))
in_turns a b c d e f g = simp (append_assoc, append-nil) refl
