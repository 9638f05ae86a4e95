-- What an object tells of itself at two moments.

pub record Change {u} (S : Type u) : Type u where
  pub old : S
  pub new : S

abbrev pub change {u} : {S : Type u} → S → S → Change S
change old new = record { old = old; new = new }
