-- Sizes and places of some journals, by computation.
use Rattle.std.proofs.Common.{◌≡◌, length, replicate, get_or, true, false, refl}
use Rattle.zk_model.specs.declared.JournalKind.TheVariants.{Claims, Ceilings}
use Rattle.lease_journal.specs.Twins.{area_at, are_twin_slots, blank_twin_bytes, head_at, twin_ceiling_slots, twin_length}

-- a prover's journal of one slot
one_slot : length (blank_twin_bytes Claims (replicate 32 7) 1 1) ≡ 192
one_slot = refl

-- a verifier's journal of 100 units
seven_slots : twin_ceiling_slots 100 ≡ 7
seven_slots = refl

seven_slots_fit : are_twin_slots Ceilings 100 7 ≡ true
seven_slots_fit = refl

seven_slots_long : length (blank_twin_bytes Ceilings (replicate 32 7) 100 7) ≡ 576
seven_slots_long = refl

-- at most 4,096 slots
many_units : twin_ceiling_slots 1048575 ≡ 4096
many_units = refl

-- where slot 0 of the first area stands
first_area : area_at 0 7 false ≡ 96
first_area = refl

-- two slots: the second head, and the whole
second_head : head_at 0 2 true ≡ 160
second_head = refl

two_slots : twin_length 2 ≡ 256
two_slots = refl

-- after a migration of a journal of 288 bytes
moved_area : area_at 288 7 false ≡ 384
moved_area = refl

-- the first head of a new journal
first_gate : get_or (blank_twin_bytes Claims (replicate 32 7) 10 2) 95 0 ≡ 90
first_gate = refl

first_generation : get_or (blank_twin_bytes Claims (replicate 32 7) 10 2) 64 0 ≡ 1
first_generation = refl

second_gate : get_or (blank_twin_bytes Claims (replicate 32 7) 10 2) 191 0 ≡ 0
second_gate = refl
