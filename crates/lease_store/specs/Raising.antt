-- What raising the ceiling does to the journal: a put, or a compaction where all slots are in use.
use Rattle.std.specs.Prelude.{ℕ, ◌+◌, ◌-◌, ◌^◌, ◌==◌, min, not, List, [], ◌∷◌, ◌++◌, Bool, true, false}
use Rattle.twin_journal.specs.States.{TwinState}

-- all slots of the active area are in use
abbrev pub are_all_used : {D : Type 0} → TwinState D → Bool
are_all_used journal = journal.used == journal.slots

-- the bodies with this one: it follows the others, or stands alone where all slots were in use
abbrev pub raised_bodies : Bool → List (ℕ × ℕ) → ℕ × ℕ → List (ℕ × ℕ)
raised_bodies true bodies body = body ∷ []
raised_bodies false bodies body = bodies ++ body ∷ []

-- and the generation of their area
abbrev pub raised_generation : Bool → ℕ → ℕ
raised_generation true generation = generation + 1
raised_generation false generation = generation

-- the journal over this disk, once the ceiling is put into the next slot, or alone into the other area
abbrev pub after_ceiling : {D : Type 0} → Bool → TwinState D → D → ℕ → TwinState D
after_ceiling true journal disk ceiling = record journal {
  disk = disk;
  used = 1;
  last = (ceiling, 0);
  second = not journal.second;
  generation = min (journal.generation + 1) (2 ^ 64 - 1);
  other_open = true;
}
after_ceiling false journal disk ceiling = record journal { disk = disk; used = journal.used + 1; last = (ceiling, 0) }
