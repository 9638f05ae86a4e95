-- The place of the next frame, by what stands before it.
use Rattle.std.proofs.Common.{◌≡◌, ℕ, ◌+◌, ◌-◌, ◌<◌, ◌≤◌, Some, None, List, [], ◌∷◌, ◌++◌, map, flat_map, length, get_or, refl, sym, ◌∙◌, ap, arith, append-nil, length-append}
use Rattle.std.specs.Prelude.{All, slice_get}
use Rattle.std.specs.List.{range_with_len}
use Rattle.std.proofs.Math.ListN.{get_or-append}
use Rattle.std.proofs.lemmas.List.{length-map, get_or-append-add}
use Rattle.std.proofs.lemmas.List.FromFn.{length-map-range_with_len, get_or-map-range_with_len}
use Rattle.std.proofs.lemmas.Option.{slice_get-get_or, slice_get_past}
use Rattle.zk_model.specs.Statement.{Statement}
use Rattle.zk_model.specs.Program.{Program, section_count}
use Rattle.zk_model.specs.Files.{rounds_of}
use Rattle.zk_model.specs.Transcript.{Grant, Round, Setup, IsRound, IsSetup}
use Rattle.zk_model.specs.Frames.{Frame, hello, grant, asks, replies, frame_spelling}
use Rattle.zk_model.specs.Audit.{round_frames, setup_frames, round_places, places_behind, place_after}
use Rattle.zk_model.specs.declared.Expect.{Expect}
use Rattle.zk_model.specs.declared.Expect.TheVariants as expect
use Rattle.zk_model.specs.declared.Kind.{Kind}
use Rattle.zk_model.specs.declared.Kind.TheVariants.{Direct, Extended}
use Rattle.zk_model.specs.declared.Params.{Params}

-- a frame has bytes
pub frame_some : (frame : Frame) → 1 ≤ length (frame_spelling frame)
frame_some (hello said) = omega arith
frame_some frame = omega arith

-- ---- the places of rounds

abbrev pub places_of_rounds : Kind → Params → Grant → List Expect
places_of_rounds kind params given = flat_map (λ n. round_places params given) (range_with_len 0 (rounds_of kind))

-- and those behind them
abbrev pub last_places : Program → Grant → List Expect
last_places program given =
    expect.Corrections program.givens ∷ expect.Challenge ∷ expect.Sums (section_count program given.section_length)
    ∷ expect.Openings (length program.opened) ∷ expect.Verdict ∷ []

-- the places of asks, and of replies
abbrev ask_place : Params → Grant → ℕ → Expect
ask_place params given i = expect.Ask params.height params.trees (given.count - i)

abbrev reply_place : Params → Grant → ℕ → Expect
reply_place params given i = expect.Reply params.height params.trees (given.count - i)

-- a round has as many places as frames
round_sized : (params : Params) (given : Grant) (round : Round) → IsRound params given round
    → length (round_frames round) ≡ length (round_places params given)
round_sized params given round is =
    length-append (map asks round.asks) (map replies round.replies)
    ∙ (λ i. (length-map round.asks asks ∙ is.asks.0 ∙ sym (length-map-range_with_len (ask_place params given) 0 given.count)) i
    + (length-map round.replies replies ∙ is.replies.0 ∙ sym (length-map-range_with_len (reply_place params given) 0 given.count)) i)
    ∙ sym (length-append (map (ask_place params given) (range_with_len 0 given.count)) (map (reply_place params given) (range_with_len 0 given.count)))

-- and so do all rounds of a session
pub rounds_sized : (kind : Kind) (params : Params) (given : Grant) (rounds : List Round) → length rounds ≡ rounds_of kind → All (IsRound params given) rounds
    → length (flat_map round_frames rounds) ≡ length (places_of_rounds kind params given)
rounds_sized Direct params given [] counted all = refl
rounds_sized Direct params given (round ∷ rounds) counted all = absurd (omega (arith, counted))
rounds_sized Extended params given [] counted all = absurd (omega (arith, counted))
rounds_sized Extended params given (round ∷ []) counted all =
    ap length (append-nil (round_frames round)) ∙ round_sized params given round (all 0 round (omega arith))
    ∙ sym (ap length (append-nil (round_places params given)))
rounds_sized Extended params given (round ∷ next ∷ rounds) counted all = absurd (omega (arith, counted))

-- ---- behind the rounds

-- so many frames behind the rounds
tail_length : (params : Params) (program : Program) (setup : Setup) (tail : List Frame) → IsSetup params program setup
    → length (flat_map round_frames setup.rounds ++ tail) ≡ length (places_of_rounds params.kind params setup.grant) + length tail
tail_length params program setup tail is =
    length-append (flat_map round_frames setup.rounds) tail
    ∙ ap (λ n. n + length tail) (rounds_sized params.kind params setup.grant setup.rounds is.round_count is.rounds)

-- the place behind the rounds and so many frames
pub place_behind : (params : Params) (statement : Statement) (setup : Setup) (tail : List Frame) (j : ℕ) (place : Expect) → IsSetup params statement.program setup
    → length tail ≡ j → j < 5 → get_or (last_places statement.program setup.grant) j expect.Verdict ≡ place
    → place_after params statement (setup_frames setup ++ tail) ≡ Some place
place_behind params statement setup tail j place is counted below at =
    ap (slice_get (places_behind params statement.program setup.grant)) (tail_length params statement.program setup tail is ∙ ap (λ n. length rounds + n) counted)
    ∙ slice_get-get_or (rounds ++ last_places statement.program setup.grant) (length rounds + j) expect.Verdict
    (omega (arith, below, length-append rounds (last_places statement.program setup.grant)))
    ∙ ap Some (get_or-append-add rounds (last_places statement.program setup.grant) j expect.Verdict ∙ at)
  where
    rounds : List Expect
    rounds = places_of_rounds params.kind params setup.grant

-- there is none behind five
pub none_behind : (params : Params) (statement : Statement) (setup : Setup) (tail : List Frame) → IsSetup params statement.program setup
    → length tail ≡ 5 → place_after params statement (setup_frames setup ++ tail) ≡ None
none_behind params statement setup tail is counted =
    slice_get_past (rounds ++ last_places statement.program setup.grant) (length (flat_map round_frames setup.rounds ++ tail))
    (let sized = tail_length params statement.program setup tail is in omega (arith, sized, counted, length-append rounds (last_places statement.program setup.grant)))
  where
    rounds : List Expect
    rounds = places_of_rounds params.kind params setup.grant

-- ---- in a round

-- in kind extended there is one round
one_round : (params : Params) (program : Program) (given : Grant) → params.kind ≡ Extended
    → places_behind params program given ≡ round_places params given ++ last_places program given
one_round params program given extended =
    ap (λ kind. places_of_rounds kind params given ++ last_places program given) extended
    ∙ ap (λ places. places ++ last_places program given) (append-nil (round_places params given))

-- the place behind as many frames, of which the round has more
in_round : (params : Params) (statement : Statement) (given : Grant) (first : Frame) (behind : List Frame) (n : ℕ) (place : Expect) → params.kind ≡ Extended
    → length behind ≡ n → n < length (round_places params given) → get_or (round_places params given) n expect.Verdict ≡ place
    → place_after params statement (first ∷ grant given ∷ behind) ≡ Some place
in_round params statement given first behind n place extended counted below at =
    (λ i. slice_get (one_round params statement.program given extended i) (counted i))
    ∙ slice_get-get_or (round_places params given ++ last_places statement.program given) n expect.Verdict
    (omega (arith, below, length-append (round_places params given) (last_places statement.program given)))
    ∙ ap Some (get_or-append (round_places params given) (last_places statement.program given) expect.Verdict n below ∙ at)

-- of the next ask
pub place_of_ask : (params : Params) (statement : Statement) (given : Grant) (first : Frame) (behind : List Frame) (n : ℕ) → params.kind ≡ Extended
    → length behind ≡ n → n < given.count
    → place_after params statement (first ∷ grant given ∷ behind) ≡ Some (expect.Ask params.height params.trees (given.count - n))
place_of_ask params statement given first behind n extended counted below =
    in_round params statement given first behind n (ask_place params given n) extended counted
    (omega (arith, below, asked, length-append (map (ask_place params given) (range_with_len 0 given.count)) (map (reply_place params given) (range_with_len 0 given.count))))
    (get_or-append (map (ask_place params given) (range_with_len 0 given.count)) _ expect.Verdict n (omega (arith, below, asked))
    ∙ get_or-map-range_with_len (ask_place params given) 0 given.count n n expect.Verdict below (omega arith))
  where
    asked : length (map (ask_place params given) (range_with_len 0 given.count)) ≡ given.count
    asked = length-map-range_with_len (ask_place params given) 0 given.count

-- and of the next reply
pub place_of_reply : (params : Params) (statement : Statement) (given : Grant) (first : Frame) (behind : List Frame) (n : ℕ) → params.kind ≡ Extended
    → length behind ≡ given.count + n → n < given.count
    → place_after params statement (first ∷ grant given ∷ behind) ≡ Some (expect.Reply params.height params.trees (given.count - n))
place_of_reply params statement given first behind n extended counted below =
    in_round params statement given first behind (length asked + n) (reply_place params given n) extended (counted ∙ ap (λ m. m + n) (sym sized))
    (omega (arith, below, sized, replied, length-append asked (map (reply_place params given) (range_with_len 0 given.count))))
    (get_or-append-add asked (map (reply_place params given) (range_with_len 0 given.count)) n expect.Verdict
    ∙ get_or-map-range_with_len (reply_place params given) 0 given.count n n expect.Verdict below (omega arith))
  where
    asked : List Expect
    asked = map (ask_place params given) (range_with_len 0 given.count)

    sized : length asked ≡ given.count
    sized = length-map-range_with_len (ask_place params given) 0 given.count

    replied : length (map (reply_place params given) (range_with_len 0 given.count)) ≡ given.count
    replied = length-map-range_with_len (reply_place params given) 0 given.count
