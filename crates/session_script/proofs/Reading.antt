-- The bytes of frames that fill a script have one reading.
use Rattle.std.proofs.Common.{◌≡◌, ◌⊎◌, ℕ, inl, inr, Option, Some, None, List, [], ◌∷◌, ◌++◌, map, flat_map, get_or, refl, sym, ◌∙◌, ap, subst, arith, append_assoc, append-nil}
use Rattle.std.proofs.lemmas.List.{append_cancel_left, map-append}
use Rattle.zk_model.specs.Transcript.{Grant, BeginsWith, bytes_from, refuse_frame}
use Rattle.zk_model.specs.Frames.{Frame, hello, grant, asks, replies, corrections, challenge, sums, openings, verdict, refuse, poly_sums, want, block, out, frame_spelling, Allows}
use Rattle.zk_model.specs.declared.Expect.{Expect}
use Rattle.zk_model.specs.declared.Side.{Side}
use Rattle.proof_frames.proofs.Unique.{none_begins_another}
use Rattle.session_script.specs.Scripts.{said_by, log_of, after_in, left_after, Fills, Rules, Stage, Passes}

-- ---- one frame

-- of two lists that begin a third, one begins the other
either_begins : (xs ys ms ns : List ℕ) → xs ++ ms ≡ ys ++ ns → BeginsWith xs ys ⊎ BeginsWith ys xs
either_begins xs [] ms ns same = inl (xs, refl)
either_begins [] (y ∷ ys) ms ns same = inr (y ∷ ys, refl)
either_begins (x ∷ xs) (y ∷ ys) ms ns same = further (either_begins xs ys ms ns cc)
  where
    further : BeginsWith xs ys ⊎ BeginsWith ys xs → BeginsWith (x ∷ xs) (y ∷ ys) ⊎ BeginsWith (y ∷ ys) (x ∷ xs)
    further (inl (rest, is)) = inl (rest, cc)
    further (inr (rest, is)) = inr (rest, cc)

one_frame : (place : Expect) (one other : Frame) (xs ys : List ℕ) → Allows place one → Allows place other
    → frame_spelling one ++ xs ≡ frame_spelling other ++ ys → (one ≡ other) × (xs ≡ ys)
one_frame place one other xs ys a b same = (is, append_cancel_left (frame_spelling one) xs ys (same ∙ ap (λ f. frame_spelling f ++ ys) (sym is)))
  where
    by_front : BeginsWith (frame_spelling one) (frame_spelling other) ⊎ BeginsWith (frame_spelling other) (frame_spelling one) → one ≡ other
    by_front (inl begins) = none_begins_another place one other a b begins
    by_front (inr begins) = sym (none_begins_another place other one b a begins)

    is : one ≡ other
    is = by_front (either_begins (frame_spelling one) (frame_spelling other) xs ys same)

-- every frame has a byte, that of its kind
pub some_byte : (frame : Frame) → (first : ℕ) × (rest : List ℕ) × (frame_spelling frame ≡ first ∷ rest)
some_byte (hello said) = (_, _, refl)
some_byte (grant given) = (_, _, refl)
some_byte (asks said) = (_, _, refl)
some_byte (replies said) = (_, _, refl)
some_byte (corrections elements) = (_, _, refl)
some_byte (challenge element) = (_, _, refl)
some_byte (sums both) = (_, _, refl)
some_byte (openings macs) = (_, _, refl)
some_byte (verdict code number) = (_, _, refl)
some_byte (refuse code) = (_, _, refl)
some_byte (poly_sums elements) = (_, _, refl)
some_byte (want said) = (_, _, refl)
some_byte (block given) = (_, _, refl)
some_byte (out said) = (_, _, refl)

-- a frame whose bytes begin as those of a refusal is one
pub is_refusal : (frame : Frame) (code : ℕ) (xs ys : List ℕ) → frame_spelling frame ++ xs ≡ refuse_frame code ++ ys → (other : ℕ) × (frame ≡ refuse other)
is_refusal (hello said) code xs ys same = let e : 1 ≡ 10 = ap (λ l. get_or l 0 0) same in absurd (omega (arith, e))
is_refusal (grant given) code xs ys same = let e : 2 ≡ 10 = ap (λ l. get_or l 0 0) same in absurd (omega (arith, e))
is_refusal (asks said) code xs ys same = let e : 3 ≡ 10 = ap (λ l. get_or l 0 0) same in absurd (omega (arith, e))
is_refusal (replies said) code xs ys same = let e : 4 ≡ 10 = ap (λ l. get_or l 0 0) same in absurd (omega (arith, e))
is_refusal (corrections elements) code xs ys same = let e : 5 ≡ 10 = ap (λ l. get_or l 0 0) same in absurd (omega (arith, e))
is_refusal (challenge element) code xs ys same = let e : 6 ≡ 10 = ap (λ l. get_or l 0 0) same in absurd (omega (arith, e))
is_refusal (sums both) code xs ys same = let e : 7 ≡ 10 = ap (λ l. get_or l 0 0) same in absurd (omega (arith, e))
is_refusal (openings macs) code xs ys same = let e : 8 ≡ 10 = ap (λ l. get_or l 0 0) same in absurd (omega (arith, e))
is_refusal (verdict code' number) code xs ys same = let e : 9 ≡ 10 = ap (λ l. get_or l 0 0) same in absurd (omega (arith, e))
is_refusal (refuse other) code xs ys same = (other, refl)
is_refusal (poly_sums elements) code xs ys same = let e : 7 ≡ 10 = ap (λ l. get_or l 0 0) same in absurd (omega (arith, e))
is_refusal (want said) code xs ys same = let e : 11 ≡ 10 = ap (λ l. get_or l 0 0) same in absurd (omega (arith, e))
is_refusal (block given) code xs ys same = let e : 12 ≡ 10 = ap (λ l. get_or l 0 0) same in absurd (omega (arith, e))
is_refusal (out said) code xs ys same = let e : 13 ≡ 10 = ap (λ l. get_or l 0 0) same in absurd (omega (arith, e))

-- ---- many frames

abbrev pub spelled : List Frame → List ℕ
spelled frames = flat_map frame_spelling frames

-- other frames go on after these
pub record GoesOn (behind : Grant → List Expect) (frames : List Frame) (left : List Expect) (rest : List ℕ) (others : List Frame)
    (others_left : List Expect) (others_rest : List ℕ) : Type 0 where
  pub more : List Frame
  pub is : others ≡ frames ++ more
  pub bytes : rest ≡ spelled more ++ others_rest
  pub fills : Fills behind left more others_left

pub one_reading : (behind : Grant → List Expect) (places : List Expect) (frames others : List Frame) (left others_left : List Expect) (xs ys : List ℕ)
    → Fills behind places frames left → Fills behind places others others_left → spelled frames ++ xs ≡ spelled others ++ ys
    → GoesOn behind frames left xs others others_left ys ⊎ GoesOn behind others others_left ys frames left xs
one_reading behind places [] others left others_left xs ys some other same =
    inl (record { more = others; is = refl; bytes = same; fills = subst (λ p. Fills behind p others others_left) (sym some) other })
one_reading behind places (f ∷ frames) [] left others_left xs ys some other same =
    inr (record { more = f ∷ frames; is = refl; bytes = sym same; fills = subst (λ p. Fills behind p (f ∷ frames) left) (sym other) some })
one_reading behind [] (f ∷ frames) (o ∷ others) left others_left xs ys some other same = absurd some
one_reading behind (place ∷ places) (f ∷ frames) (o ∷ others) left others_left xs ys some other same =
    further (one_reading behind (left_after behind places (after_in f)) frames others left others_left xs ys some.1
    (subst (λ g. Fills behind (left_after behind places (after_in g)) others others_left) (sym found.0) other.1) found.1)
  where
    found : (f ≡ o) × (spelled frames ++ xs ≡ spelled others ++ ys)
    found = one_frame place f o (spelled frames ++ xs) (spelled others ++ ys) some.0 other.0
        (sym (append_assoc (frame_spelling f) (spelled frames) xs) ∙ same ∙ append_assoc (frame_spelling o) (spelled others) ys)

    further : GoesOn behind frames left xs others others_left ys ⊎ GoesOn behind others others_left ys frames left xs
        → GoesOn behind (f ∷ frames) left xs (o ∷ others) others_left ys ⊎ GoesOn behind (o ∷ others) others_left ys (f ∷ frames) left xs
    further (inl on) = inl (record { more = on.more; is = (λ i. sym found.0 i ∷ on.is i); bytes = on.bytes; fills = on.fills })
    further (inr on) = inr (record { more = on.more; is = (λ i. found.0 i ∷ on.is i); bytes = on.bytes; fills = on.fills })

-- what has no bytes is no frame
pub none_more : (more : List Frame) (rest : List ℕ) → [] ≡ spelled more ++ rest → more ≡ []
none_more [] rest same = refl
none_more (frame ∷ more) rest same = let byte = some_byte frame in
    let no : [] ≡ byte.0 ∷ (byte.1 ++ spelled more) ++ rest = same ∙ ap (λ l. (l ++ spelled more) ++ rest) byte.2 in cc

-- frames that pass fill
pub passes_fill : {K F : Type 0} (rules : Rules K F) (old new : Stage K) (frames : List Frame) → Passes rules old frames new
    → Fills rules.behind old.left frames new.left
passes_fill rules old new [] passes = ap (λ (s : Stage _). s.left) passes
passes_fill rules old new (frame ∷ frames) passes =
    let fits = passes.1 in
    subst (λ p. Fills rules.behind p (frame ∷ frames) new.left) (sym fits.next)
    (fits.allowed, subst (λ p. Fills rules.behind p frames new.left) fits.left (passes_fill rules passes.0 new frames passes.2))

-- one more fills
pub fills_more : (behind : Grant → List Expect) (places mid rest : List Expect) (place : Expect) (frames : List Frame) (frame : Frame)
    → Fills behind places frames mid → mid ≡ place ∷ rest → Allows place frame
    → Fills behind places (frames ++ frame ∷ []) (left_after behind rest (after_in frame))
fills_more behind places mid rest place [] frame fills is allowed =
    subst (λ p. Fills behind p (frame ∷ []) (left_after behind rest (after_in frame))) (sym is ∙ fills) (allowed, refl)
fills_more behind [] mid rest place (f ∷ frames) frame fills is allowed = absurd fills
fills_more behind (p ∷ places) mid rest place (f ∷ frames) frame fills is allowed =
    (fills.0, fills_more behind (left_after behind places (after_in f)) mid rest place frames frame fills.1 is allowed)

-- ---- logs

bytes_in : (side : Side) (bytes : List ℕ) → map (λ (entry : Side × ℕ). entry.1) (bytes_from side bytes) ≡ bytes
bytes_in side [] = refl
bytes_in side (byte ∷ bytes) = ap (λ l. byte ∷ l) (bytes_in side bytes)

log_bytes : (frames : List Frame) → map (λ (entry : Side × ℕ). entry.1) (log_of frames) ≡ spelled frames
log_bytes [] = refl
log_bytes (frame ∷ frames) =
    map-append (λ (entry : Side × ℕ). entry.1) (bytes_from (said_by frame) (frame_spelling frame)) (log_of frames)
    ∙ (λ i. bytes_in (said_by frame) (frame_spelling frame) i ++ log_bytes frames i)

-- logs that are the same are of the same bytes
pub same_bytes : (frames others : List Frame) (side : Side) (rest : List ℕ) → log_of frames ++ bytes_from side rest ≡ log_of others
    → spelled frames ++ rest ≡ spelled others ++ []
same_bytes frames others side rest same =
    sym (map-append (λ (entry : Side × ℕ). entry.1) (log_of frames) (bytes_from side rest) ∙ (λ i. log_bytes frames i ++ bytes_in side rest i))
    ∙ ap (map (λ (entry : Side × ℕ). entry.1)) same ∙ log_bytes others ∙ sym (append-nil (spelled others))

-- ---- the last of a list

later : {B : Type 0} → Option B → B → Option B
later None b = Some b
later (Some last) b = Some last

pub last_by : {A B : Type 0} → (A → B) → List A → Option B
last_by f [] = None
last_by f (x ∷ xs) = later (last_by f xs) (f x)

pub last_behind : {A B : Type 0} (f : A → B) (front xs : List A) (last : B) → last_by f xs ≡ Some last → last_by f (front ++ xs) ≡ Some last
unfolding last_by later
last_behind f [] xs last is = is
last_behind f (x ∷ front) xs last is = ap (λ o. later o (f x)) (last_behind f front xs last is)

pub last_one : {A B : Type 0} (f : A → B) (front : List A) (x : A) → last_by f (front ++ x ∷ []) ≡ Some (f x)
unfolding last_by later
last_one f front x = last_behind f front (x ∷ []) (f x) refl

pub last_side : (side : Side) (first : ℕ) (rest : List ℕ) → last_by (λ (entry : Side × ℕ). entry.0) (bytes_from side (first ∷ rest)) ≡ Some side
unfolding last_by later
last_side side first [] = refl
last_side side first (next ∷ rest) = ap (λ o. later o side) (last_side side next rest)

-- a log of frames ends with the side of its last
pub last_said : (frames : List Frame) (frame : Frame) → last_by (λ (entry : Side × ℕ). entry.0) (log_of (frames ++ frame ∷ [])) ≡ Some (said_by frame)
last_said [] frame =
    let byte = some_byte frame in
    ap (last_by (λ (entry : Side × ℕ). entry.0)) (append-nil (bytes_from (said_by frame) (frame_spelling frame)) ∙ ap (bytes_from (said_by frame)) byte.2)
    ∙ last_side (said_by frame) byte.0 byte.1
last_said (first ∷ frames) frame = last_behind (λ (entry : Side × ℕ). entry.0) (bytes_from (said_by first) (frame_spelling first)) (log_of (frames ++ frame ∷ [])) (said_by frame) (last_said frames frame)

-- a log of some frames has a byte
pub some_logged : (frames : List Frame) (frame : Frame) → [] ≡ log_of (frames ++ frame ∷ []) → ⊥
unfolding last_by
some_logged frames frame is =
    let e : None ≡ Some (said_by frame) = ap (last_by (λ (entry : Side × ℕ). entry.0)) is ∙ last_said frames frame in cc
