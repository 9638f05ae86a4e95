-- What the journal says after a span is written: one body more where a slot is free, else the ranges in the next generation.
use Rattle.std.specs.Prelude.{ℕ, ◌+◌, List, [], ◌∷◌, ◌++◌, length, nat_lt, if◌then◌else◌}
use Rattle.zk_model.specs.declared.Span.{Span}
use Rattle.claim_store.specs.Claims.{bodies_of}

abbrev pub next_bodies : ℕ → ℕ → List (ℕ × ℕ) → Span → List Span → List (ℕ × ℕ)
next_bodies used slots bodies s ranges =
    if nat_lt used slots then bodies ++ (s.start, s.end) ∷ [] else bodies_of ranges

abbrev pub next_generation : ℕ → ℕ → ℕ → ℕ
next_generation used slots generation = if nat_lt used slots then generation else generation + 1

abbrev pub next_used : ℕ → ℕ → List Span → ℕ
next_used used slots ranges = if nat_lt used slots then used + 1 else length ranges
