-- Histories as runs that are interleaved.
use Rattle.std.specs.Prelude.{◌≡◌, ℕ, List, [], ◌∷◌, ◌++◌, All, flat_map}
use Rattle.zk_port.specs.Disks.{DiskState}
use Rattle.broker_laws.specs.Histories.{Deed, Happened, Parties, parties_at_first, units_in}
use Rattle.broker_laws.specs.Laws.{DrawsNoUnitTwice}

-- the items of these lists, interleaved in any way: each next one is the first that is left of some list
abbrev pub AreInterleaved : {X : Type 0} → List (List X) → List X → Type 0
AreInterleaved runs [] = All (λ run. run ≡ []) runs
AreInterleaved {X} runs (x ∷ xs) =
    (before : List (List X)) × (rest : List X) × (after : List (List X))
    × (runs ≡ before ++ (x ∷ rest) ∷ after) × AreInterleaved (before ++ rest ∷ after) xs

-- Where a history is an interleaving of runs, each a list of deeds of whatever party, no unit was drawn in two of them, or twice in one.
abbrev pub RunsDrawOnce : {B C : Type 0} → (B → DiskState) → (C → DiskState) → Type 0
RunsDrawOnce {B} {C} node_disk broker_disk =
    (total nodes : ℕ) (history : List (Deed B)) (last : Parties B) (runs : List (List (Deed B)))
    → Happened node_disk broker_disk total nodes history parties_at_first last → AreInterleaved runs history
    → DrawsNoUnitTwice last.broker.ceiling (flat_map units_in runs)
