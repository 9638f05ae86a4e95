-- What a sink has been given, and what has passed over a link.
use Rattle.std.specs.Prelude.{◌≡◌, ◌⊎◌, ℕ, List, [], ◌∷◌, ◌++◌, map, take, Option, Bool, ◌||◌, ◌&&◌, ◌==◌, nat_lt}
use Rattle.std.specs.Option.{option_map}
use Rattle.zk_port.specs.declared.way.Way.{Way}

-- where the object tells, these come after what was there
abbrev pub appended : {T : Type 0} → List T → Option (List T) → Option (List T)
appended more told = option_map (λ before. before ++ more) told

-- a first part of these has come, and nothing else
pub record AppendsPart {T : Type 0} (more : List T) (old new : Option (List T)) : Type 0 where
  pub count : ℕ
  pub part : new ≡ appended (take count more) old

-- what a refused call was given, as a name, is noted, or is not, where there was no memory for it
abbrev pub NotesOnce : {T : Type 0} → T → Option (List T) → Option (List T) → Type 0
NotesOnce given old new = (new ≡ old) ⊎ (new ≡ appended (given ∷ []) old)

-- where the object tells, these come before what is there
abbrev pub put_before : {T : Type 0} → List T → Option (List T) → Option (List T)
put_before more told = option_map (λ behind. more ++ behind) told

-- whether the peer is seen to have ended once n bytes came into a buffer of this size: it was before, or none
-- came where some would fit
abbrev pub ended_after : ℕ → ℕ → Bool → Bool
ended_after size n before = before || (nat_lt 0 size && n == 0)

-- the bytes as a log has them, with the way that they went
abbrev pub bytes_of : Way → List ℕ → List (Way × ℕ)
bytes_of way bytes = map (λ b. (way, b)) bytes
