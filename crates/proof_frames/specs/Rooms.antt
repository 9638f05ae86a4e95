-- The room that there is for what a frame hands out.
use Rattle.std.specs.Prelude.{◌≡◌, ℕ, ◌≤◌, Option, Some, None, [], length, All, vec_capacity}
use Rattle.zk_model.specs.declared.Expect.{Expect}
use Rattle.zk_model.specs.declared.Expect.TheVariants as expect
use Rattle.proof_frames.specs.declared.rooms.Rooms.{Rooms}
use Rattle.proof_frames.specs.declared.rooms.TreeRooms.{TreeRooms}

-- room for so many trees of this height, of which nothing is there yet
pub record HasTreeRooms {L T : Type 0} (height trees : ℕ) (rooms : TreeRooms L T) : Type 0 where
  pub counted : length rooms.levels.items ≡ trees
  pub blank : All (λ room. (room.items ≡ []) × (height ≤ vec_capacity room)) rooms.levels.items
  pub none : rooms.trees.items ≡ []
  pub room : trees ≤ vec_capacity rooms.trees

-- room for the frame at a place
abbrev pub HasRooms : Expect → Rooms → Type 0
HasRooms (expect.Ask height trees left) rooms = HasTreeRooms height trees rooms.asks
HasRooms (expect.Reply height trees left) rooms = HasTreeRooms height trees rooms.replies
HasRooms (expect.Sums sections) rooms = (rooms.pairs.items ≡ []) × (sections ≤ vec_capacity rooms.pairs)
HasRooms place rooms = Unit {0}

-- room for the frame that is expected, if one is
abbrev pub HasRoomsFor : Option Expect → Rooms → Type 0
HasRoomsFor None rooms = Unit {0}
HasRoomsFor (Some place) rooms = HasRooms place rooms
