-- Frames of the program, and what they say.
use Rattle.std.specs.Prelude.{ℕ, ◌+◌, ◌≤◌, Option, if◌then◌else◌, nat_eq, Some, None, List, [], ◌∷◌, ◌++◌, map, flat_map, length, take, drop, get_or, All}
use Rattle.std.specs.Int.{w32, w64, from_le_bytes}
use Rattle.zk_model.specs.Bits.{from_bit}
use Rattle.zk_model.specs.Bytes.{LeftRight, element_bytes}
use Rattle.zk_model.specs.Field.{IsElement}
use Rattle.zk_model.specs.Frames as model
use Rattle.zk_model.specs.Frames.{frame_spelling}
use Rattle.zk_model.specs.Transcript.{Hello, Grant, TreeAsk, TreeReply}
use Rattle.zk_model.specs.declared.FrameKind.{FrameKind}
use Rattle.zk_model.specs.declared.FrameKind.TheVariants as kind
use Rattle.zk_model.specs.declared.messages.Block.{Block}
use Rattle.zk_model.specs.declared.messages.Out.{Out}
use Rattle.zk_model.specs.declared.messages.Want.{Want}
use Rattle.proof_frames.specs.declared.frame.Frame.{Frame}
use Rattle.proof_frames.specs.declared.frame.Frame.TheVariants as frame
use Rattle.zk_model.specs.declared.limits.TheConstants.{MAX_PAYLOAD}

-- what a frame says
abbrev pub frame_value : Frame → model.Frame
frame_value (frame.Hello hello) = model.hello hello
frame_value (frame.Grant grant) = model.grant grant
frame_value (frame.ExtendAsk asks) = model.asks asks.items
frame_value (frame.ExtendReply replies) = model.replies replies.items
frame_value (frame.Corrections elements) = model.corrections elements.items
frame_value (frame.Challenge element) = model.challenge element
frame_value (frame.Sums both) = model.sums both.items
frame_value (frame.Openings macs) = model.openings macs.items
frame_value (frame.Verdict code number) = model.verdict code number
frame_value (frame.Refuse code) = model.refuse code
frame_value (frame.Want said) = model.want said
frame_value (frame.Block given) = model.block given
frame_value (frame.Out said) = model.out said
frame_value (frame.PolySums elements) = model.poly_sums elements.items

-- the kind of a frame
abbrev pub kind_of : model.Frame → FrameKind
kind_of (model.hello frame_value) = kind.Hello
kind_of (model.grant given) = kind.Grant
kind_of (model.asks frame_value) = kind.ExtendAsk
kind_of (model.replies frame_value) = kind.ExtendReply
kind_of (model.corrections elements) = kind.Corrections
kind_of (model.challenge element) = kind.Challenge
kind_of (model.sums both) = kind.Sums
kind_of (model.openings macs) = kind.Openings
kind_of (model.verdict code number) = kind.Verdict
kind_of (model.refuse code) = kind.Refuse
kind_of (model.want frame_value) = kind.Want
kind_of (model.block given) = kind.Block
kind_of (model.out frame_value) = kind.Out
kind_of (model.poly_sums elements) = kind.Sums

-- a frame of at most 2^24 bytes after its kind and its length
abbrev pub IsShort : model.Frame → Type 0
IsShort frame = length (frame_spelling frame) ≤ MAX_PAYLOAD + 5

-- the numbers in it that stand for elements are elements
abbrev pub IsRanged : model.Frame → Type 0
IsRanged (model.asks frame_value) = All (λ ask. IsElement ask.base_correction) frame_value
IsRanged (model.replies frame_value) = All (λ reply. IsElement reply.leaf_offset) frame_value
IsRanged (model.corrections elements) = All IsElement elements
IsRanged (model.challenge element) = IsElement element
IsRanged (model.sums both) = All (λ q. IsElement q.0 × IsElement q.1) both
IsRanged (model.openings macs) = All IsElement macs
IsRanged (model.poly_sums elements) = All IsElement elements
IsRanged frame = Unit {0}

-- the bytes of what is asked for a tree
abbrev pub ask_bytes : TreeAsk → List ℕ
ask_bytes ask = map from_bit ask.flips ++ element_bytes ask.base_correction

-- both messages of a level
abbrev pub message_bytes : LeftRight → List ℕ
message_bytes both = both.left ++ both.right

-- the bytes of what is replied for a tree
abbrev pub reply_bytes : TreeReply → List ℕ
reply_bytes reply = flat_map message_bytes reply.messages ++ element_bytes reply.leaf_offset

-- the bytes of sums, section by section
abbrev pub sums_payload : List (ℕ × ℕ) → List ℕ
sums_payload sums = flat_map (λ both. element_bytes both.0 ++ element_bytes both.1) sums

-- pairs as one list
abbrev pub flattened : List (ℕ × ℕ) → List ℕ
flattened sums = flat_map (λ both. both.0 ∷ both.1 ∷ []) sums

-- a digest, or none where there are no bytes
abbrev pub digest_in : List ℕ → Option (List ℕ)
digest_in bytes = if nat_eq (length bytes) 32 then Some bytes else None

-- the greeting that a payload says
abbrev pub hello_in : List ℕ → Hello
hello_in bytes = record {
  id = take 32 bytes;
  circuit = take 32 (drop 32 bytes);
  outputs = take 32 (drop 32 (drop 32 bytes));
  version = get_or (take 1 (drop 32 (drop 32 (drop 32 bytes)))) 0 0;
  public = digest_in (drop 1 (drop 32 (drop 32 (drop 32 bytes))));
}

-- the grant that a payload says
abbrev pub grant_in : List ℕ → Grant
grant_in bytes = record {
  start = from_le_bytes w64 (take 8 bytes);
  count = from_le_bytes w32 (take 4 (drop 8 bytes));
  section_length = from_le_bytes w32 (drop 4 (drop 8 bytes));
}

-- the grant or the refusal that a payload says after a kind
abbrev pub grant_or_refusal_in : ℕ → List ℕ → model.Frame
grant_or_refusal_in first bytes = if nat_eq first 10 then model.refuse (get_or bytes 0 0) else model.grant (grant_in bytes)

-- the verdict that a payload says
abbrev pub verdict_in : List ℕ → model.Frame
verdict_in bytes = model.verdict (get_or bytes 0 0) (from_le_bytes w32 (drop 1 bytes))

-- the want that a payload says
abbrev pub want_in : List ℕ → Want
want_in bytes = record {
  node = from_le_bytes w32 (take 4 bytes);
  number = from_le_bytes w64 (take 8 (drop 4 bytes));
  count = from_le_bytes w32 (drop 8 (drop 4 bytes));
}

-- the block that a payload says
abbrev pub block_in : List ℕ → Block
block_in bytes = record {
  node = from_le_bytes w32 (take 4 bytes);
  number = from_le_bytes w64 (take 8 (drop 4 bytes));
  start = from_le_bytes w64 (take 8 (drop 8 (drop 4 bytes)));
  count = from_le_bytes w32 (drop 8 (drop 8 (drop 4 bytes)));
}

-- that no units are left, as a payload says it
abbrev pub out_in : List ℕ → Out
out_in bytes = record {
  node = from_le_bytes w32 (take 4 bytes);
  number = from_le_bytes w64 (take 8 (drop 4 bytes));
  at = from_le_bytes w64 (drop 8 (drop 4 bytes));
}

-- what a payload says after a kind in the place of a block
abbrev pub block_or_out_in : ℕ → List ℕ → model.Frame
block_or_out_in first bytes = if nat_eq first 13 then model.out (out_in bytes) else model.block (block_in bytes)
