-- New journals, by computation.
use Rattle.std.proofs.Common.{◌≡◌, ◌++◌, [], ◌∷◌, refl, replicate, length, take}
use Rattle.std.specs.Prelude.{codes}
use Rattle.lease_journal.specs.Journals.{ceiling_slots, claim_slots}
use Rattle.lease_journal.specs.Twins.{blank_twin_bytes, twin_ceiling_slots}
use Rattle.zk_model.specs.declared.JournalKind.TheVariants.{Ceilings}

-- a verifier's journal of 100 units, in which nothing is written yet: areas of 7 slots, the first with generation 1 and an open head
ceilings_of_hundred : twin_ceiling_slots 100 ≡ 7
ceilings_of_hundred = refl

blank_length : length (blank_twin_bytes Ceilings (replicate 32 9) 100 (twin_ceiling_slots 100)) ≡ 576
blank_length = refl

blank_header : take 96 (blank_twin_bytes Ceilings (replicate 32 9) 100 7)
    ≡ codes "WQSJRNL1" ++ (3 ∷ replicate 7 0) ++ (100 ∷ replicate 7 0) ++ (7 ∷ replicate 7 0) ++ replicate 32 9 ++ (1 ∷ replicate 30 0) ++ (90 ∷ [])
blank_header = refl

-- a multiple of 16 needs no slot more, and a unit beyond it does
ceilings_at_the_edge : ceiling_slots 1 ∷ ceiling_slots 16 ∷ ceiling_slots 17 ∷ ceiling_slots 160 ∷ [] ≡ 1 ∷ 1 ∷ 2 ∷ 10 ∷ []
ceilings_at_the_edge = refl

-- a prover's journal has a slot for each unit, up to 4,096
claims_at_the_edge : claim_slots 1 ∷ claim_slots 4096 ∷ claim_slots 4097 ∷ [] ≡ 1 ∷ 4096 ∷ 4096 ∷ []
claims_at_the_edge = refl
