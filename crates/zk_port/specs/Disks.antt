-- What a disk tells of itself.
use Rattle.std.specs.Prelude.{◌≡◌, ◌⊎◌, ◌≤◌, ℕ, List, Option, None}
use Rattle.zk_port.specs.Images.{ImagesFollow}
use Rattle.zk_port.specs.declared.access.Access.{Access}

-- a file that is taken: its name, and how
abbrev pub Choice : Type 0
Choice = List ℕ × Access

-- the files that were chosen, in order, the content and the room for it, where the disk tells them; what a crash at this moment may leave; the moment, as a number that
-- doesn't fall; what a crash at some moment from one on might have left, during a call or between two; how often a call has failed
pub record DiskState : Type 1 where
  pub chosen : Option (List Choice)
  pub content : Option (List ℕ)
  pub room : Option ℕ
  pub images : List ℕ → Type 0
  pub moment : ℕ
  pub images_since : ℕ → List ℕ → Type 0
  pub faults : ℕ

-- a disk that tells nothing but how often a call has failed
abbrev pub untold : ℕ → DiskState
untold faults = record {
  chosen = None;
  content = None;
  room = None;
  images = λ _. ⊥;
  moment = 0;
  images_since = λ _ _. ⊥;
  faults = faults;
}

-- Time goes on: a crash since t might have left what it might have left before, or what it may leave now.
pub record Elapses (old new : DiskState) : Type 0 where
  pub later : old.moment ≤ new.moment
  pub nothing_else : (t : ℕ) (c : List ℕ) → t ≤ old.moment → new.images_since t c → old.images_since t c ⊎ new.images c
  pub keeps : (t : ℕ) (c : List ℕ) → t ≤ old.moment → old.images_since t c → new.images_since t c

-- a call that writes nothing: a crash leaves nothing new
pub record Stays (old new : DiskState) : Type 0 where
  pub chosen : new.chosen ≡ old.chosen
  pub content : new.content ≡ old.content
  pub room : new.room ≡ old.room
  pub crash : (c : List ℕ) → new.images c → old.images c
  pub time : Elapses old new

-- a call that takes this step, in full or in part: a crash leaves what it left before, or that with the step
pub record Steps (step : List ℕ → List ℕ → Type 0) (old new : DiskState) : Type 0 where
  pub chosen : new.chosen ≡ old.chosen
  pub room : new.room ≡ old.room
  pub crash : ImagesFollow step old.images new.images
  pub time : Elapses old new

-- A crash at any moment since old leaves an image that has P.
pub record LeavesOnly (old new : DiskState) (P : List ℕ → Type 0) : Type 0 where
  pub later : old.moment ≤ new.moment
  pub each : (c : List ℕ) → new.images_since old.moment c → P c
  -- for a run that began earlier
  pub before : (t : ℕ) (c : List ℕ) → t ≤ old.moment → new.images_since t c → old.images_since t c ⊎ P c
