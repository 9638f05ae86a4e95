-- What nodes and a broker of units send, as bytes.
use Rattle.std.specs.Prelude.{ℕ, ◌^◌, ◌<◌, ◌≤◌, List, ◌++◌}
use Rattle.std.specs.Int.{w32, w64, to_le_bytes}
use Rattle.zk_model.specs.Transcript.{frame_bytes}
use Rattle.zk_model.specs.declared.FrameKind.TheVariants as kind
use Rattle.zk_model.specs.declared.limits.TheConstants.{MAX_NODES, MAX_UNITS}
use Rattle.zk_model.specs.declared.messages.Block.{Block}
use Rattle.zk_model.specs.declared.messages.Out.{Out}
use Rattle.zk_model.specs.declared.messages.Want.{Want}

-- ---- the bytes

-- 4, 8 and 4 bytes, low bytes first
abbrev pub want_frame : Want → List ℕ
want_frame want = frame_bytes kind.Want
    (to_le_bytes w32 want.node ++ to_le_bytes w64 want.number ++ to_le_bytes w32 want.count)

-- 4, 8, 8 and 4 bytes
abbrev pub block_frame : Block → List ℕ
block_frame block = frame_bytes kind.Block
    (to_le_bytes w32 block.node ++ to_le_bytes w64 block.number ++ to_le_bytes w64 block.start ++ to_le_bytes w32 block.count)

-- 4, 8 and 8 bytes
abbrev pub out_frame : Out → List ℕ
out_frame out = frame_bytes kind.Out
    (to_le_bytes w32 out.node ++ to_le_bytes w64 out.number ++ to_le_bytes w64 out.at)

-- ---- what is in range

-- one of the nodes, any number, and as many units as a lease may have
pub record FitsWant (want : Want) : Type 0 where
  pub node : want.node < MAX_NODES
  pub number : want.number < 2 ^ 64
  pub least : 1 ≤ want.count
  pub most : want.count ≤ MAX_UNITS

-- any numbers
pub record FitsBlock (block : Block) : Type 0 where
  pub node : block.node < 2 ^ 32
  pub number : block.number < 2 ^ 64
  pub start : block.start < 2 ^ 64
  pub count : block.count < 2 ^ 32

-- any numbers
pub record FitsOut (out : Out) : Type 0 where
  pub node : out.node < 2 ^ 32
  pub number : out.number < 2 ^ 64
  pub at : out.at < 2 ^ 64
