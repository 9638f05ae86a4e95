-- The frames of a session determine the values that they spell.
use Rattle.std.proofs.Common.{◌≡◌, ℕ, ◌^◌, ◌<◌, List, [], ◌∷◌, ◌++◌, map, flat_map, length, drop, get_or, refl, sym, ◌∙◌, ap, arith}
use Rattle.std.specs.Prelude.{Bool, true, false, Option, Some, None, unwrap_or, IfSome, All}
use Rattle.std.specs.Int.{w32, w64, to_le_bytes}
use Rattle.frame_laws.proofs.Codes.{IsCode, regroup, same_front, bytes_code, word64_code, word32_code, element_code, pair_code, many_code, frame_code}
use Rattle.frame_laws.proofs.Hellos.{hello_payload, payload_length, digest_most}
use Rattle.zk_model.specs.Bits.{from_bit}
use Rattle.zk_model.specs.Field.{IsElement}
use Rattle.zk_model.specs.Bytes.{LeftRight, AreBytes, AreBothBytes, element_bytes}
use Rattle.zk_model.specs.Program.{Program}
use Rattle.zk_model.specs.Files.{AreParams}
use Rattle.zk_model.specs.Transcript.{Grant, TreeAsk, TreeReply, Round, frame_bytes, hello_frame, grant_frame, ask_frame, reply_frame, sums_frame, IsHello, IsGrant, IsTreeAsk, IsTreeReply, IsRound}
use Rattle.zk_model.specs.declared.FrameKind.{FrameKind}
use Rattle.zk_model.specs.declared.FrameKind.TheVariants as kind
use Rattle.zk_model.specs.declared.Params.{Params}

-- a bit is determined by its number
same_bit : (x y : Bool) → from_bit x ≡ from_bit y → x ≡ y
same_bit false false same = refl
same_bit false true same = absurd (omega arith)
same_bit true false same = absurd (omega arith)
same_bit true true same = refl

-- as many bits, a byte for each
same_bits : (xs ys : List Bool) (ps qs : List ℕ) → length xs ≡ length ys → map from_bit xs ++ ps ≡ map from_bit ys ++ qs → (xs ≡ ys) × (ps ≡ qs)
same_bits [] [] ps qs sized same = (refl, same)
same_bits [] (y ∷ ys) ps qs sized same = absurd (omega arith)
same_bits (x ∷ xs) [] ps qs sized same = absurd (omega arith)
same_bits (x ∷ xs) (y ∷ ys) ps qs sized same =
    let first : x ≡ y = same_bit x y (ap (λ l. get_or l 0 0) same) in
    let rest : (xs ≡ ys) × (ps ≡ qs) = same_bits xs ys ps qs (omega arith) (ap (drop 1) same) in
    (λ i. first i ∷ rest.0 i, rest.1)

-- the digest of public bits, where there is one
same_digest : (x y : Option (List ℕ)) → IfSome x (AreBytes 32) → IfSome y (AreBytes 32) → unwrap_or x [] ≡ unwrap_or y [] → x ≡ y
same_digest None None left right same = refl
same_digest None (Some digest) left right same = absurd (omega (arith, ap length same, right.0))
same_digest (Some digest) None left right same = absurd (omega (arith, ap length same, left.0))
same_digest (Some digest) (Some other) left right same = ap Some same

-- the greeting
pub hello_code : IsCode hello_frame IsHello
hello_code x y ps qs left right same =
    let said_x : List ℕ = unwrap_or x.public [] in
    let said_y : List ℕ = unwrap_or y.public [] in
    let length_x = payload_length x left in
    let length_y = payload_length y right in
    let headed = word32_code (length (hello_payload x)) (length (hello_payload y)) (hello_payload x ++ ps) (hello_payload y ++ qs)
    (omega (arith, length_x, digest_most x.public left.public)) (omega (arith, length_y, digest_most y.public right.public)) (ap (drop 1) same) in
    let apart = regroup (x.id ++ x.circuit ++ x.outputs) (x.version ∷ said_x) ps (y.id ++ y.circuit ++ y.outputs) (y.version ∷ said_y) qs headed.1 in
    let apart = regroup (x.id ++ x.circuit) x.outputs (x.version ∷ (said_x ++ ps)) (y.id ++ y.circuit) y.outputs (y.version ∷ (said_y ++ qs)) apart in
    let apart = regroup x.id x.circuit (x.outputs ++ x.version ∷ (said_x ++ ps)) y.id y.circuit (y.outputs ++ y.version ∷ (said_y ++ qs)) apart in
    let id = bytes_code 32 x.id y.id (x.circuit ++ (x.outputs ++ x.version ∷ (said_x ++ ps))) (y.circuit ++ (y.outputs ++ y.version ∷ (said_y ++ qs))) left.id right.id apart in
    let circuit = bytes_code 32 x.circuit y.circuit (x.outputs ++ x.version ∷ (said_x ++ ps)) (y.outputs ++ y.version ∷ (said_y ++ qs)) left.circuit right.circuit id.1 in
    let outputs = bytes_code 32 x.outputs y.outputs (x.version ∷ (said_x ++ ps)) (y.version ∷ (said_y ++ qs)) left.outputs right.outputs circuit.1 in
    let version : x.version ≡ y.version = ap (λ l. get_or l 0 0) outputs.1 in
    let digest = same_front said_x said_y ps qs (omega (arith, headed.0, length_x, length_y)) (ap (drop 1) outputs.1) in
    let public : x.public ≡ y.public = same_digest x.public y.public left.public right.public digest.0 in
    (λ i. record { id = id.0 i; circuit = circuit.0 i; outputs = outputs.0 i; version = version i; public = public i }, digest.1)

-- the grant
pub grant_code : (params : Params) (program : Program) → AreParams params → IsCode grant_frame (IsGrant params program)
grant_code params program are x y ps qs left right same =
    let start_bytes = λ (grant : Grant). to_le_bytes w64 grant.start in
    let count_bytes = λ (grant : Grant). to_le_bytes w32 grant.count in
    let section_bytes = λ (grant : Grant). to_le_bytes w32 grant.section_length in
    let start = word64_code x.start y.start (count_bytes x ++ (section_bytes x ++ ps)) (count_bytes y ++ (section_bytes y ++ qs))
    (start_fits x left) (start_fits y right) (ap (drop 5) same) in
    let count = word32_code x.count y.count (section_bytes x ++ ps) (section_bytes y ++ qs) (count_fits x left) (count_fits y right) start.1 in
    let section = word32_code x.section_length y.section_length ps qs (section_fits x left) (section_fits y right) count.1 in
    (λ i. record { start = start.0 i; count = count.0 i; section_length = section.0 i }, section.1)
  where
    start_fits : (grant : Grant) → IsGrant params program grant → grant.start < 2 ^ 64
    start_fits grant is = omega (arith, is.within, are.total)

    count_fits : (grant : Grant) → IsGrant params program grant → grant.count < 2 ^ 32
    count_fits grant is = omega (arith, is.count_most)

    section_fits : (grant : Grant) → IsGrant params program grant → grant.section_length < 2 ^ 32
    section_fits grant is = omega (arith, is.section_most)

-- what is asked for a tree
tree_ask_code : (height : ℕ)
    → IsCode (λ (ask : TreeAsk). map from_bit ask.flips ++ element_bytes ask.base_correction) (IsTreeAsk height)
tree_ask_code height x y ps qs left right same =
    let flips = same_bits x.flips y.flips (element_bytes x.base_correction ++ ps) (element_bytes y.base_correction ++ qs)
    (left.flips ∙ sym right.flips)
    (regroup (map from_bit x.flips) (element_bytes x.base_correction) ps (map from_bit y.flips) (element_bytes y.base_correction) qs same) in
    let correction = element_code x.base_correction y.base_correction ps qs left.base_correction right.base_correction flips.1 in
    (λ i. record { flips = flips.0 i; base_correction = correction.0 i }, correction.1)

-- the bytes of two messages
abbrev message_bytes : LeftRight → List ℕ
message_bytes both = both.left ++ both.right

messages_code : IsCode message_bytes (AreBothBytes 16)
messages_code x y ps qs first second same =
    let left = bytes_code 16 x.left y.left (x.right ++ ps) (y.right ++ qs) first.0 second.0 (regroup x.left x.right ps y.left y.right qs same) in
    let right = bytes_code 16 x.right y.right ps qs first.1 second.1 left.1 in
    (λ i. record { left = left.0 i; right = right.0 i }, right.1)

-- what is replied for a tree
tree_reply_code : (height : ℕ)
    → IsCode (λ (reply : TreeReply). flat_map message_bytes reply.messages ++ element_bytes reply.leaf_offset) (IsTreeReply height)
tree_reply_code height x y ps qs left right same =
    let messages = many_code message_bytes (AreBothBytes 16) height messages_code
    x.messages y.messages (element_bytes x.leaf_offset ++ ps) (element_bytes y.leaf_offset ++ qs)
    (left.count, left.messages) (right.count, right.messages)
    (regroup (flat_map message_bytes x.messages) (element_bytes x.leaf_offset) ps (flat_map message_bytes y.messages) (element_bytes y.leaf_offset) qs same) in
    let offset = element_code x.leaf_offset y.leaf_offset ps qs left.leaf_offset right.leaf_offset messages.1 in
    (λ i. record { messages = messages.0 i; leaf_offset = offset.0 i }, offset.1)

-- the asks of a unit
pub asks_code : (height trees : ℕ) → IsCode ask_frame (λ said. (length said ≡ trees) × All (IsTreeAsk height) said)
asks_code height trees = frame_code _ _ kind.ExtendAsk (many_code _ (IsTreeAsk height) trees (tree_ask_code height))

-- the replies of a unit
pub replies_code : (height trees : ℕ) → IsCode reply_frame (λ said. (length said ≡ trees) × All (IsTreeReply height) said)
replies_code height trees = frame_code _ _ kind.ExtendReply (many_code _ (IsTreeReply height) trees (tree_reply_code height))

-- the asks and the replies of a round
abbrev pub round_bytes : Round → List ℕ
round_bytes round = flat_map ask_frame round.asks ++ flat_map reply_frame round.replies

-- a round
pub round_code : (params : Params) (grant : Grant) → IsCode round_bytes (IsRound params grant)
round_code params grant x y ps qs left right same =
    let asks = many_code ask_frame (λ trees. (length trees ≡ params.trees) × All (IsTreeAsk params.height) trees) grant.count
    (asks_code params.height params.trees)
    x.asks y.asks (flat_map reply_frame x.replies ++ ps) (flat_map reply_frame y.replies ++ qs) left.asks right.asks
    (regroup (flat_map ask_frame x.asks) (flat_map reply_frame x.replies) ps (flat_map ask_frame y.asks) (flat_map reply_frame y.replies) qs same) in
    let replies = many_code reply_frame (λ trees. (length trees ≡ params.trees) × All (IsTreeReply params.height) trees) grant.count
    (replies_code params.height params.trees)
    x.replies y.replies ps qs left.replies right.replies asks.1 in
    (λ i. record { asks = asks.0 i; replies = replies.0 i }, replies.1)

-- elements in a frame of one kind
pub elements_code : (frame : FrameKind) (n : ℕ) → IsCode (λ (xs : List ℕ). frame_bytes frame (flat_map element_bytes xs)) (λ xs. (length xs ≡ n) × All IsElement xs)
elements_code frame n = frame_code (flat_map element_bytes) _ frame (many_code element_bytes IsElement n element_code)

-- sums of sections
pub sums_code : (n : ℕ) → IsCode sums_frame (λ sums. (length sums ≡ n) × All (λ both. IsElement both.0 × IsElement both.1) sums)
sums_code n =
    frame_code _ _ kind.Sums (many_code (λ both. element_bytes both.0 ++ element_bytes both.1) (λ both. IsElement both.0 × IsElement both.1) n
    (pair_code element_bytes IsElement element_bytes IsElement element_code element_code))
