-- Frames as values, the places of a session where they may come, and what is wrong with bytes that begin none.
use Rattle.std.specs.Prelude.{◌≡◌, ◌⊎◌, None, ℕ, ◌+◌, ◌*◌, ◌-◌, ◌^◌, ◌<◌, ◌≤◌, if◌then◌else◌, nat_eq, List, [], ◌∷◌, length, take, All}
use Rattle.zk_model.specs.Field.{IsElement}
use Rattle.zk_model.specs.Transcript.{Hello, Grant, TreeAsk, TreeReply, IsHello, IsTreeAsk, IsTreeReply, BeginsWith, hello_frame, grant_frame, ask_frame, reply_frame, corrections_frame, challenge_frame, sums_frame, openings_frame, poly_sums_frame, verdict_frame, refuse_frame}
use Rattle.zk_model.specs.Messages.{want_frame, block_frame, out_frame, FitsWant, FitsBlock, FitsOut}
use Rattle.zk_model.specs.declared.Expect.{Expect}
use Rattle.zk_model.specs.declared.Expect.TheVariants as expect
use Rattle.zk_model.specs.declared.FrameKind.{FrameKind}
use Rattle.zk_model.specs.declared.FrameKind.TheVariants as kind
use Rattle.zk_model.specs.declared.limits.TheConstants.{HELLO_LENGTH, LONG_HELLO_LENGTH}
use Rattle.zk_model.specs.declared.messages.Block.{Block}
use Rattle.zk_model.specs.declared.messages.Out.{Out}
use Rattle.zk_model.specs.declared.messages.Want.{Want}

-- ---- frames as values

-- what one frame says
pub data Frame : Type 0 where
  hello : Hello → Frame
  grant : Grant → Frame
  asks : List TreeAsk → Frame
  replies : List TreeReply → Frame
  corrections : List ℕ → Frame
  challenge : ℕ → Frame
  sums : List (ℕ × ℕ) → Frame
  openings : List ℕ → Frame
  verdict : ℕ → ℕ → Frame
  refuse : ℕ → Frame
  poly_sums : List ℕ → Frame
  want : Want → Frame
  block : Block → Frame
  out : Out → Frame

-- the bytes of a frame
abbrev pub frame_spelling : Frame → List ℕ
frame_spelling (hello said) = hello_frame said
frame_spelling (grant given) = grant_frame given
frame_spelling (asks said) = ask_frame said
frame_spelling (replies said) = reply_frame said
frame_spelling (corrections elements) = corrections_frame elements
frame_spelling (challenge element) = challenge_frame element
frame_spelling (sums both) = sums_frame both
frame_spelling (openings macs) = openings_frame macs
frame_spelling (verdict code number) = verdict_frame code number
frame_spelling (refuse code) = refuse_frame code
frame_spelling (poly_sums elements) = poly_sums_frame elements
frame_spelling (want said) = want_frame said
frame_spelling (block given) = block_frame given
frame_spelling (out said) = out_frame said

-- ---- what may come at a place

-- a start of 64 bits, a count and a length of sections of 32
pub record FitsGrant (given : Grant) : Type 0 where
  pub start : given.start < 2 ^ 64
  pub count : given.count < 2 ^ 32
  pub section_length : given.section_length < 2 ^ 32

-- asks for so many trees of this height
pub record AreAsks (height trees : ℕ) (said : List TreeAsk) : Type 0 where
  pub counted : length said ≡ trees
  pub each : All (IsTreeAsk height) said

-- replies for so many trees of this height
pub record AreReplies (height trees : ℕ) (said : List TreeReply) : Type 0 where
  pub counted : length said ≡ trees
  pub each : All (IsTreeReply height) said

-- so many elements
pub record AreElements (count : ℕ) (elements : List ℕ) : Type 0 where
  pub counted : length elements ≡ count
  pub ranged : All IsElement elements

-- U and V of so many sections
pub record AreSums (count : ℕ) (both : List (ℕ × ℕ)) : Type 0 where
  pub counted : length both ≡ count
  pub ranged : All (λ q. IsElement q.0 × IsElement q.1) both

-- a code of 0 to 2, and any number of 32 bits
pub record FitsVerdict (code number : ℕ) : Type 0 where
  pub said : code ≤ 2
  pub numbered : number < 2 ^ 32

-- about constraints, code 0 and any number of 32 bits, or code 1 and number 0
pub record FitsPolyVerdict (code number : ℕ) : Type 0 where
  pub said : code ≤ 1
  pub numbered : number < 2 ^ 32
  pub zero : code ≡ 1 → number ≡ 0

-- a code of 1 to 4
pub record FitsRefusal (code : ℕ) : Type 0 where
  pub least : 1 ≤ code
  pub most : code ≤ 4

-- The frames that a place allows: a greeting whatever it names, or one without a digest of public bits; a grant of any numbers or a
-- refusal in its place; asks or replies for so many trees of one height; so many elements; a verdict, of a circuit or of constraints, and the sums of these; a want of a node; and a block of any
-- numbers, or in its place that no units are left.
abbrev pub Allows : Expect → Frame → Type 0
Allows expect.Hello frame = (said : Hello) × (frame ≡ hello said) × IsHello said
Allows expect.ShortHello frame = (said : Hello) × (frame ≡ hello said) × IsHello said × (said.public ≡ None)
Allows expect.Grant frame =
    ((given : Grant) × (frame ≡ grant given) × FitsGrant given)
    ⊎ ((code : ℕ) × (frame ≡ refuse code) × FitsRefusal code)
Allows (expect.Ask height trees left) frame = (said : List TreeAsk) × (frame ≡ asks said) × AreAsks height trees said
Allows (expect.Reply height trees left) frame =
    (said : List TreeReply) × (frame ≡ replies said) × AreReplies height trees said
Allows (expect.Corrections count) frame =
    (elements : List ℕ) × (frame ≡ corrections elements) × AreElements count elements
Allows expect.Challenge frame = (element : ℕ) × (frame ≡ challenge element) × IsElement element
Allows (expect.Sums sections) frame = (both : List (ℕ × ℕ)) × (frame ≡ sums both) × AreSums sections both
Allows (expect.Openings count) frame = (macs : List ℕ) × (frame ≡ openings macs) × AreElements count macs
Allows expect.Verdict frame = (code : ℕ) × (number : ℕ) × (frame ≡ verdict code number) × FitsVerdict code number
Allows (expect.PolySums count) frame = (elements : List ℕ) × (frame ≡ poly_sums elements) × AreElements count elements
Allows expect.PolyVerdict frame =
    (code : ℕ) × (number : ℕ) × (frame ≡ verdict code number) × FitsPolyVerdict code number
Allows expect.Want frame = (said : Want) × (frame ≡ want said) × FitsWant said
Allows expect.Block frame =
    ((given : Block) × (frame ≡ block given) × FitsBlock given)
    ⊎ ((said : Out) × (frame ≡ out said) × FitsOut said)

-- ---- bytes at a place

-- the bytes are a whole frame that the place allows
pub record IsWhole (place : Expect) (bytes : List ℕ) (frame : Frame) : Type 0 where
  pub allowed : Allows place frame
  pub spelled : bytes ≡ frame_spelling frame

-- some frame that the place allows begins with the bytes
pub record CanGoOn (place : Expect) (bytes : List ℕ) : Type 0 where
  pub frame : Frame
  pub allowed : Allows place frame
  pub begun : BeginsWith (frame_spelling frame) bytes

-- the byte at n is the first after which no frame that the place allows can follow
pub record IsFirstBad (place : Expect) (bytes : List ℕ) (n : ℕ) : Type 0 where
  pub within : n < length bytes
  pub before : CanGoOn place (take n bytes)
  pub ends : ¬ CanGoOn place (take (n + 1) bytes)

-- how many bytes a frame of elements has: five of its kind and its length, and eight for each element
abbrev pub elements_length : ℕ → ℕ
elements_length count = 5 + 8 * count

-- The length of the frame that begins with these bytes. Where the place allows two lengths, one byte decides between them: of a
-- hello the first of the length, 97 or 129, and in the place of a grant or of a block the kind. Without it the frame is taken to end
-- there.
abbrev pub frame_length : Expect → List ℕ → ℕ
frame_length expect.Hello [] = 2
frame_length expect.Hello (first ∷ []) = 2
frame_length expect.Hello (first ∷ low ∷ bytes) = if nat_eq low 129 then LONG_HELLO_LENGTH else HELLO_LENGTH
frame_length expect.ShortHello bytes = HELLO_LENGTH
frame_length expect.Grant [] = 1
frame_length expect.Grant (first ∷ bytes) = if nat_eq first 10 then 6 else 21
frame_length (expect.Ask height trees left) bytes = 5 + trees * (height + 8)
frame_length (expect.Reply height trees left) bytes = 5 + trees * (32 * height + 8)
frame_length (expect.Corrections count) bytes = elements_length count
frame_length expect.Challenge bytes = elements_length 1
frame_length (expect.Sums sections) bytes = elements_length (2 * sections)
frame_length (expect.Openings count) bytes = elements_length count
frame_length expect.Verdict bytes = 10
frame_length (expect.PolySums count) bytes = elements_length count
frame_length expect.PolyVerdict bytes = 10
frame_length expect.Want bytes = 21
frame_length expect.Block [] = 1
frame_length expect.Block (first ∷ bytes) = if nat_eq first 13 then 25 else 29

-- how many bytes are still wanted after these
abbrev pub bytes_wanted : Expect → List ℕ → ℕ
bytes_wanted place bytes = frame_length place bytes - length bytes

-- the kind of frame that is expected after these bytes: in a grant's place a refusal where they begin one, and in a block's place that
-- no units are left
abbrev pub expected_kind : Expect → List ℕ → FrameKind
expected_kind expect.Hello bytes = kind.Hello
expected_kind expect.ShortHello bytes = kind.Hello
expected_kind expect.Grant [] = kind.Grant
expected_kind expect.Grant (first ∷ bytes) = if nat_eq first 10 then kind.Refuse else kind.Grant
expected_kind (expect.Ask height trees left) bytes = kind.ExtendAsk
expected_kind (expect.Reply height trees left) bytes = kind.ExtendReply
expected_kind (expect.Corrections count) bytes = kind.Corrections
expected_kind expect.Challenge bytes = kind.Challenge
expected_kind (expect.Sums sections) bytes = kind.Sums
expected_kind (expect.Openings count) bytes = kind.Openings
expected_kind expect.Verdict bytes = kind.Verdict
expected_kind (expect.PolySums count) bytes = kind.Sums
expected_kind expect.PolyVerdict bytes = kind.Verdict
expected_kind expect.Want bytes = kind.Want
expected_kind expect.Block [] = kind.Block
expected_kind expect.Block (first ∷ bytes) = if nat_eq first 13 then kind.Out else kind.Block
