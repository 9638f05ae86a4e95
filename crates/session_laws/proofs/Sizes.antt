-- How long the turns of a session are: the hello and the grant decide it.
use Rattle.std.proofs.Common.{◌≡◌, ℕ, ◌+◌, ◌*◌, ◌≤◌, List, [], ◌∷◌, ◌++◌, map, flat_map, length, replicate, refl, ap, arith, ◌∙◌, sym, length-append}
use Rattle.std.specs.Prelude.{All}
use Rattle.std.specs.List.{AllByRecursion}
use Rattle.std.proofs.lemmas.List.{length-map, map-append}
use Rattle.std.proofs.lemmas.List.Elements.{recursion_from_All}
use Rattle.session_laws.proofs.Turns.{sizes}
use Rattle.zk_model.specs.Bits.{from_bit}
use Rattle.zk_model.specs.Field.{IsElement}
use Rattle.zk_model.specs.Bytes.{LeftRight, AreBothBytes, element_bytes}
use Rattle.zk_model.specs.Program.{Program, section_count}
use Rattle.zk_model.specs.Files.{rounds_of}
use Rattle.zk_model.specs.Transcript.{Hello, Grant, TreeAsk, TreeReply, Round, Setup, Transcript, frame_bytes, hello_frame, grant_frame, ask_frame, reply_frame, corrections_frame, challenge_frame, sums_frame, openings_frame, verdict_frame, setup_turns, session_turns, IsTreeAsk, IsTreeReply, IsRound, IsTranscript}
use Rattle.zk_model.specs.declared.FrameKind.{FrameKind}
use Rattle.zk_model.specs.declared.FrameKind.TheVariants as kind
use Rattle.zk_model.specs.declared.Params.{Params}

-- ---- frames

-- items of one length, joined
flat_length : {A : Type 0} (f : A → List ℕ) (P : A → Type 0) (per : ℕ) → ((x : A) → P x → length (f x) ≡ per)
    → (xs : List A) → AllByRecursion P xs → length (flat_map f xs) ≡ length xs * per
flat_length f P per each [] all = omega arith
flat_length f P per each (x ∷ xs) all =
    let first = each x all.0 in
    let rest = flat_length f P per each xs all.1 in
    length-append (f x) (flat_map f xs) ∙ omega (arith, first, rest)

-- a given number of them
many_length : {A : Type 0} (f : A → List ℕ) (P : A → Type 0) (per n : ℕ) → ((x : A) → P x → length (f x) ≡ per)
    → (xs : List A) → (length xs ≡ n) × All P xs → length (flat_map f xs) ≡ n * per
many_length f P per n each xs all =
    flat_length f P per each xs (recursion_from_All P xs all.1) ∙ ap (λ k. k * per) all.0

-- five bytes before the payload
frame_length : (frame : FrameKind) (payload : List ℕ) (n : ℕ) → length payload ≡ n → length (frame_bytes frame payload) ≡ 5 + n
frame_length frame payload n sized = omega (arith, sized)

-- ---- a round

abbrev pub asks_size : Params → Grant → ℕ
asks_size params grant = grant.count * (5 + params.trees * (params.height + 8))

abbrev pub replies_size : Params → Grant → ℕ
replies_size params grant = grant.count * (5 + params.trees * (params.height * 32 + 8))

tree_ask_length : (params : Params) (ask : TreeAsk) → IsTreeAsk params.height ask
    → length (map from_bit ask.flips ++ element_bytes ask.base_correction) ≡ params.height + 8
tree_ask_length params ask is =
    let flips = length-map ask.flips from_bit ∙ is.flips in
    length-append (map from_bit ask.flips) (element_bytes ask.base_correction) ∙ ap (λ n. n + 8) flips

-- both messages of a level
abbrev message_bytes : LeftRight → List ℕ
message_bytes both = both.left ++ both.right

message_length : (both : LeftRight) → AreBothBytes 16 both → length (message_bytes both) ≡ 32
message_length both is =
    let left = is.0.0 in
    let right = is.1.0 in
    length-append both.left both.right ∙ omega (arith, left, right)

tree_reply_length : (params : Params) (reply : TreeReply) → IsTreeReply params.height reply
    → length (flat_map message_bytes reply.messages ++ element_bytes reply.leaf_offset) ≡ params.height * 32 + 8
tree_reply_length params reply is =
    length-append (flat_map message_bytes reply.messages) (element_bytes reply.leaf_offset)
    ∙ ap (λ n. n + 8) (many_length message_bytes (AreBothBytes 16) 32 params.height message_length reply.messages (is.count, is.messages))

pub asks_length : (params : Params) (grant : Grant) (round : Round) → IsRound params grant round
    → length (flat_map ask_frame round.asks) ≡ asks_size params grant
asks_length params grant round is =
    many_length ask_frame (λ trees. (length trees ≡ params.trees) × All (IsTreeAsk params.height) trees)
    (5 + params.trees * (params.height + 8)) grant.count
    (λ trees each. frame_length kind.ExtendAsk _ (params.trees * (params.height + 8))
    (many_length _ (IsTreeAsk params.height) (params.height + 8) params.trees (tree_ask_length params) trees each))
    round.asks is.asks

replies_length : (params : Params) (grant : Grant) (round : Round) → IsRound params grant round
    → length (flat_map reply_frame round.replies) ≡ replies_size params grant
replies_length params grant round is =
    many_length reply_frame (λ trees. (length trees ≡ params.trees) × All (IsTreeReply params.height) trees)
    (5 + params.trees * (params.height * 32 + 8)) grant.count
    (λ trees each. frame_length kind.ExtendReply _ (params.trees * (params.height * 32 + 8))
    (many_length _ (IsTreeReply params.height) (params.height * 32 + 8) params.trees (tree_reply_length params) trees each))
    round.replies is.replies

-- ---- a session

-- how long each turn is
abbrev pub session_sizes : Params → Program → Hello → Grant → List (ℕ × ℕ)
session_sizes params program hello grant =
    (length (hello_frame hello), 21)
    ∷ replicate (rounds_of params.kind) (asks_size params grant, replies_size params grant)
    ++ (5 + program.givens * 8, 13)
    ∷ (5 + section_count program grant.section_length * 16 + (5 + length program.opened * 8), 10)
    ∷ []

-- the turns of rounds
abbrev pub round_turns : List Round → List (List ℕ × List ℕ)
round_turns rounds = map (λ round. (flat_map ask_frame round.asks, flat_map reply_frame round.replies)) rounds

round_sizes : (params : Params) (grant : Grant) (rounds : List Round) → AllByRecursion (IsRound params grant) rounds
    → sizes (round_turns rounds) ≡ replicate (length rounds) (asks_size params grant, replies_size params grant)
round_sizes params grant [] all = refl
round_sizes params grant (round ∷ rounds) all = λ i.
    (asks_length params grant round all.0 i, replies_length params grant round all.0 i) ∷ round_sizes params grant rounds all.1 i

-- elements in a frame
elements_size : (frame : FrameKind) (n : ℕ) (elements : List ℕ) → length elements ≡ n → All IsElement elements
    → length (frame_bytes frame (flat_map element_bytes elements)) ≡ 5 + n * 8
elements_size frame n elements counted all =
    frame_length frame (flat_map element_bytes elements) (n * 8) (many_length element_bytes IsElement 8 n (λ x is. refl) elements (counted, all))

-- the sums
sums_size : (n : ℕ) (sums : List (ℕ × ℕ)) → length sums ≡ n → All (λ both. IsElement both.0 × IsElement both.1) sums
    → length (sums_frame sums) ≡ 5 + n * 16
sums_size n sums counted all =
    frame_length kind.Sums (flat_map (λ both. element_bytes both.0 ++ element_bytes both.1) sums) (n * 16)
    (many_length (λ both. element_bytes both.0 ++ element_bytes both.1) (λ both. IsElement both.0 × IsElement both.1) 16 n (λ x is. refl) sums (counted, all))

pub sizes_are : (params : Params) (program : Program) (t : Transcript) → IsTranscript params program t
    → sizes (session_turns t) ≡ session_sizes params program t.commitment.setup.hello t.commitment.setup.grant
sizes_are params program t is =
    map-append (λ turn. (length turn.0, length turn.1)) (setup_turns setup)
    ((corrections_frame t.commitment.corrections, challenge_frame t.challenge)
    ∷ (sums_frame t.sums ++ openings_frame t.openings, verdict_frame t.code t.number) ∷ [])
    ∙ (λ i. (length (hello_frame setup.hello), 21) ∷ (rounds i ++ (corrections i, 13) ∷ (last i, 10) ∷ []))
  where
    setup : Setup
    setup = t.commitment.setup

    rounds : sizes (round_turns t.commitment.setup.rounds)
        ≡ replicate (rounds_of params.kind) (asks_size params t.commitment.setup.grant, replies_size params t.commitment.setup.grant)
    rounds = round_sizes params t.commitment.setup.grant t.commitment.setup.rounds
        (recursion_from_All (IsRound params t.commitment.setup.grant) t.commitment.setup.rounds is.commitment.setup.rounds)
        ∙ ap (λ n. replicate n (asks_size params t.commitment.setup.grant, replies_size params t.commitment.setup.grant)) is.commitment.setup.round_count

    corrections : length (corrections_frame t.commitment.corrections) ≡ 5 + program.givens * 8
    corrections = elements_size kind.Corrections program.givens t.commitment.corrections is.commitment.count is.commitment.elements

    last : length (sums_frame t.sums ++ openings_frame t.openings)
        ≡ 5 + section_count program t.commitment.setup.grant.section_length * 16 + (5 + length program.opened * 8)
    last = length-append (sums_frame t.sums) (openings_frame t.openings)
        ∙ (λ i. sums_size (section_count program t.commitment.setup.grant.section_length) t.sums is.sum_count is.sums i
        + elements_size kind.Openings (length program.opened) t.openings is.opening_count is.openings i)

-- sessions with one hello and one grant have turns of the same sizes
pub same_sizes : (params : Params) (program : Program) (t u : Transcript) → IsTranscript params program t → IsTranscript params program u
    → t.commitment.setup.hello ≡ u.commitment.setup.hello → t.commitment.setup.grant ≡ u.commitment.setup.grant
    → sizes (session_turns t) ≡ sizes (session_turns u)
same_sizes params program t u is also greeting same =
    sizes_are params program t is ∙ (λ i. session_sizes params program (greeting i) (same i)) ∙ sym (sizes_are params program u also)

-- as many turns, whatever the grant
pub count_is : (params : Params) (program : Program) (t : Transcript) → IsTranscript params program t
    → length (session_turns t) ≡ rounds_of params.kind + 3
count_is params program t is =
    let whole = length-append (round_turns t.commitment.setup.rounds)
    ((corrections_frame t.commitment.corrections, challenge_frame t.challenge)
    ∷ (sums_frame t.sums ++ openings_frame t.openings, verdict_frame t.code t.number) ∷ []) in
    let mapped : length (round_turns t.commitment.setup.rounds) ≡ length t.commitment.setup.rounds = length-map t.commitment.setup.rounds _ in
    let count = is.commitment.setup.round_count in
    omega (arith, whole, mapped, count)

-- ---- every turn has an answer, and in every turn the prover says something

-- as many frames as units, of which there is one at least
frames_some : {A : Type 0} (frame : A → List ℕ) (grant : Grant) (items : List A) → ((item : A) → 1 ≤ length (frame item)) → 1 ≤ grant.count
    → length items ≡ grant.count → 1 ≤ length (flat_map frame items)
frames_some frame grant [] each some counted = absurd (omega (arith, some, counted))
frames_some frame grant (item ∷ items) each some counted =
    let whole = length-append (frame item) (flat_map frame items) in let first = each item in omega (arith, whole, first)

-- the turn of a round
abbrev round_turn : Round → List ℕ × List ℕ
round_turn round = (flat_map ask_frame round.asks, flat_map reply_frame round.replies)

-- rounds of which each has some of a part of its turn, and the turns after them
rounds_some : (part : List ℕ × List ℕ → List ℕ) (params : Params) (grant : Grant)
    → ((round : Round) → IsRound params grant round → 1 ≤ length (part (round_turn round))) → (rounds : List Round) (turns : List (List ℕ × List ℕ))
    → AllByRecursion (IsRound params grant) rounds → AllByRecursion (λ turn. 1 ≤ length (part turn)) turns
    → AllByRecursion (λ turn. 1 ≤ length (part turn)) (round_turns rounds ++ turns)
rounds_some part params grant each [] turns all rest = rest
rounds_some part params grant each (round ∷ rounds) turns all rest =
    (each round all.0, rounds_some part params grant each rounds turns all.1 rest)

-- a session in each turn of which there is some of a part
turns_some : (part : List ℕ × List ℕ → List ℕ) (params : Params) (program : Program) (t : Transcript) → IsTranscript params program t
    → ((round : Round) → IsRound params t.commitment.setup.grant round → 1 ≤ t.commitment.setup.grant.count → 1 ≤ length (part (round_turn round)))
    → 1 ≤ length (part (hello_frame t.commitment.setup.hello, grant_frame t.commitment.setup.grant))
    → 1 ≤ length (part (corrections_frame t.commitment.corrections, challenge_frame t.challenge))
    → 1 ≤ length (part (sums_frame t.sums ++ openings_frame t.openings, verdict_frame t.code t.number))
    → AllByRecursion (λ turn. 1 ≤ length (part turn)) (session_turns t)
turns_some part params program t is each first behind last = (
  first,
  rounds_some part params t.commitment.setup.grant
      (λ round meets. each round meets (let count = is.commitment.setup.grant.count in omega (arith, count)))
      t.commitment.setup.rounds _
      (recursion_from_All (IsRound params t.commitment.setup.grant) t.commitment.setup.rounds is.commitment.setup.rounds)
      (behind, (last, tt)),
)

pub all_answered : (params : Params) (program : Program) (t : Transcript) → IsTranscript params program t
    → AllByRecursion (λ turn. 1 ≤ length turn.1) (session_turns t)
all_answered params program t is = turns_some (λ turn. turn.1) params program t is
    (λ round meets some. frames_some reply_frame t.commitment.setup.grant round.replies (λ trees. omega arith) some meets.replies.0)
    (omega arith) (omega arith) (omega arith)

pub all_said : (params : Params) (program : Program) (t : Transcript) → IsTranscript params program t
    → AllByRecursion (λ turn. 1 ≤ length turn.0) (session_turns t)
all_said params program t is = turns_some (λ turn. turn.0) params program t is
    (λ round meets some. frames_some ask_frame t.commitment.setup.grant round.asks (λ trees. omega arith) some meets.asks.0)
    (omega arith) (omega arith) (omega arith)
