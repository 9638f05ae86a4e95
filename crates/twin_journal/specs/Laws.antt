-- What holds of every journal of two areas.
use Rattle.std.specs.Prelude.{◌≡◌, ℕ, ◌+◌, ◌≤◌, List, [], ◌∷◌, ◌++◌, length, true}
use Rattle.zk_model.specs.declared.JournalKind.{JournalKind}
use Rattle.lease_journal.specs.Journals.{AreSound}
use Rattle.lease_journal.specs.Twins.{HoldsTwin, IsTwinTidy, MayHaveGeneration, SaysTwin, TwinRecovers, are_twin_slots, blank_twin_bytes, claimed_units}
use Rattle.lease_journal.specs.declared.fault.StartFault.{StartFault}
use Rattle.lease_journal.specs.declared.fault.StartFault.TheVariants.{Device}
use Rattle.twin_journal.specs.Starts.{AreTidy, FileCause}

-- a file of a journal in which nothing is written yet: it stands there from its first byte on, and says no body, in generation 1
pub record IsNewTwin (kind : JournalKind) (id : List ℕ) (total slots : ℕ) (bytes : List ℕ) : Type 0 where
  pub holds : HoldsTwin kind id total 0 slots bytes
  pub says : SaysTwin 0 slots 1 [] bytes

-- so it is of every new journal with areas of a number of slots that they may have
abbrev pub BlankTwinIsNew : Type 0
BlankTwinIsNew =
    (kind : JournalKind) (id : List ℕ) (total slots : ℕ) → length id ≡ 32 → are_twin_slots kind total slots ≡ true
    → IsNewTwin kind id total slots (blank_twin_bytes kind id total slots)

-- bytes that say bodies are tidy, and recover these bodies
pub record RecoversTidily (begin slots : ℕ) (bodies : List (ℕ × ℕ)) (bytes : List ℕ) : Type 0 where
  pub tidy : IsTwinTidy begin slots bytes
  pub recovered : TwinRecovers begin slots bytes bodies

abbrev pub SaysWhatItRecovers : Type 0
SaysWhatItRecovers =
    (begin slots generation : ℕ) (bodies : List (ℕ × ℕ)) (bytes : List ℕ) → SaysTwin begin slots generation bodies bytes
    → RecoversTidily begin slots bodies bytes

-- where a journal stands in a file and says bodies, each journal that stands in it is tidy
abbrev pub SaidIsTidy : Type 0
SaidIsTidy =
    (kind : JournalKind) (id : List ℕ) (total begin slots generation : ℕ) (bodies : List (ℕ × ℕ)) (bytes : List ℕ)
    → HoldsTwin kind id total begin slots bytes → SaysTwin begin slots generation bodies bytes → AreTidy bytes

-- bytes recover one list
abbrev pub RecoversOneList : Type 0
RecoversOneList =
    (begin slots : ℕ) (bytes : List ℕ) (bodies others : List (ℕ × ℕ)) → TwinRecovers begin slots bytes bodies
    → TwinRecovers begin slots bytes others → bodies ≡ others

-- Files of a journal whose bodies keep their rules and whose generation is one that there may be for them are refused by no start but
-- where the disk fails.
abbrev pub TwinStartsAgain : Type 0
TwinStartsAgain =
    (kind : JournalKind) (id : List ℕ) (total begin slots generation : ℕ) (bodies : List (ℕ × ℕ)) (bytes : List ℕ) (fault : StartFault)
    → HoldsTwin kind id total begin slots bytes → SaysTwin begin slots generation bodies bytes → AreSound kind total bodies
    → MayHaveGeneration kind bodies generation → FileCause kind id total bytes fault → fault ≡ Device

-- A generation that there may be stays one with one body more, and the next generation is one for bodies that say at least so many units
-- as there were generations.
pub record GenerationsGoOn : Type 0 where
  pub put : (kind : JournalKind) (total generation : ℕ) (bodies : List (ℕ × ℕ)) (body : ℕ × ℕ) → AreSound kind total (bodies ++ body ∷ [])
      → MayHaveGeneration kind bodies generation → MayHaveGeneration kind (bodies ++ body ∷ []) generation
  pub compact : (kind : JournalKind) (generation : ℕ) (bodies : List (ℕ × ℕ)) → generation ≤ claimed_units kind bodies
      → MayHaveGeneration kind bodies (generation + 1)
