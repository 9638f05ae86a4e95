-- The bytes of faultless frames have one reading.
use Rattle.std.proofs.Common.{◌≡◌, ℕ, zero, suc, ◌+◌, ◌-◌, ◌<◌, ◌≤◌, ◌⊎◌, inl, inr, Option, Some, None, List, [], ◌∷◌, ◌++◌, take, drop, length, refl, sym, ◌∙◌, ap, subst, arith, append_assoc, append-nil}
use Rattle.std.proofs.lemmas.List.{append_cancel_left, take-append-le, take-append-drop}
use Rattle.std.proofs.Math.Seq.{take-append-add}
use Rattle.zk_model.specs.Transcript.{BeginsWith}
use Rattle.zk_model.specs.Frames.{Frame, frame_spelling, Allows, IsWhole, CanGoOn}
use Rattle.zk_model.specs.ServedVerifier.{VerifierTask}
use Rattle.zk_model.specs.Audit.{frames_spelling, place_after, IsGiven, IsRight, AreFaultless, IsReadAs, IsBadByte, IsBadAt, IsWrongAt}
use Rattle.zk_model.specs.declared.Expect.{Expect}
use Rattle.proof_frames.proofs.Unique.{none_begins_another}
use Rattle.proof_audit.specs.Laws.{WholeLogsAreRight}

-- ---- one frame

one_place : (place : Option Expect) (some other : Expect) → place ≡ Some some → place ≡ Some other → some ≡ other
one_place place some other left right = let same = sym left ∙ right in cc

-- of two lists that begin a third, one begins the other
either_begins : (xs ys ms ns : List ℕ) → xs ++ ms ≡ ys ++ ns → BeginsWith xs ys ⊎ BeginsWith ys xs
either_begins xs [] ms ns same = inl (xs, refl)
either_begins [] (y ∷ ys) ms ns same = inr (y ∷ ys, refl)
either_begins (x ∷ xs) (y ∷ ys) ms ns same = further (either_begins xs ys ms ns cc)
  where
    further : BeginsWith xs ys ⊎ BeginsWith ys xs → BeginsWith (x ∷ xs) (y ∷ ys) ⊎ BeginsWith (y ∷ ys) (x ∷ xs)
    further (inl (rest, is)) = inl (rest, cc)
    further (inr (rest, is)) = inr (rest, cc)

-- bytes begin with one of the frames that a place allows
one_frame : (place : Expect) (one other : Frame) (xs ys : List ℕ) → Allows place one → Allows place other
    → frame_spelling one ++ xs ≡ frame_spelling other ++ ys → (one ≡ other) × (xs ≡ ys)
one_frame place one other xs ys a b same = (is, append_cancel_left (frame_spelling one) xs ys (same ∙ ap (λ f. frame_spelling f ++ ys) (sym is)))
  where
    by_front : BeginsWith (frame_spelling one) (frame_spelling other) ⊎ BeginsWith (frame_spelling other) (frame_spelling one) → one ≡ other
    by_front (inl begins) = none_begins_another place one other a b begins
    by_front (inr begins) = sym (none_begins_another place other one b a begins)

    is : one ≡ other
    is = by_front (either_begins (frame_spelling one) (frame_spelling other) xs ys same)

-- bytes that begin with a frame, and that some frame begins with, are no more than the frame
no_more : (place : Expect) (one other : Frame) (bytes behind more : List ℕ) → Allows place one → Allows place other
    → bytes ≡ frame_spelling one ++ behind → frame_spelling other ≡ bytes ++ more → bytes ≡ frame_spelling one
no_more place one other bytes behind more a b front begun =
    front ∙ ap (λ l. frame_spelling one ++ l) none ∙ append-nil (frame_spelling one)
  where
    found : (one ≡ other) × (behind ++ more ≡ [])
    found = one_frame place one other (behind ++ more) [] a b
        (sym (append_assoc (frame_spelling one) behind more) ∙ ap (λ l. l ++ more) (sym front) ∙ sym begun ∙ sym (append-nil (frame_spelling other)))

    first_none : (xs ys : List ℕ) → xs ++ ys ≡ [] → xs ≡ []
    first_none [] ys same = refl
    first_none (x ∷ xs) ys same = cc

    none : behind ≡ []
    none = first_none behind more found.1

-- ---- one reading

-- these frames are the first of others, and the rest is the bytes of the others behind them
abbrev pub Reads : List Frame → List Frame → List ℕ → Type 0
Reads frames others rest = (more : List Frame) × (others ≡ frames ++ more) × (rest ≡ frames_spelling more)

one_reading : (task : VerifierTask) (before frames others : List Frame) (rest : List ℕ) → AreFaultless task (before ++ frames)
    → AreFaultless task (before ++ others) → place_after task.file.params task.statement (before ++ others) ≡ None
    → frames_spelling frames ++ rest ≡ frames_spelling others → Reads frames others rest
one_reading task before [] others rest some whole none same = (others, refl, same)
one_reading task before (f ∷ frames) [] rest some whole none same =
    let right = some before f frames refl in
    let at = right.placed.place_is in
    let end = ap (place_after task.file.params task.statement) (sym (append-nil before)) ∙ none in
    cc
one_reading task before (f ∷ frames) (o ∷ others) rest some whole none same =
    let deeper = one_reading task (before ++ f ∷ []) frames others rest
    (subst (AreFaultless task) (sym (append_assoc before (f ∷ []) frames)) some)
    (subst (AreFaultless task) regrouped whole)
    (subst (λ fs. place_after task.file.params task.statement fs ≡ None) regrouped none)
    found.1 in
    (deeper.0, (λ i. sym found.0 i ∷ deeper.1 i), deeper.2)
  where
    left : IsRight task before f
    left = some before f frames refl

    right : IsRight task before o
    right = whole before o others refl

    found : (f ≡ o) × (frames_spelling frames ++ rest ≡ frames_spelling others)
    found = one_frame left.place f o (frames_spelling frames ++ rest) (frames_spelling others) left.placed.allowed
        (subst (λ p. Allows p o) (one_place _ right.place left.place right.placed.place_is left.placed.place_is) right.placed.allowed)
        (sym (append_assoc (frame_spelling f) (frames_spelling frames) rest) ∙ same)

    regrouped : before ++ o ∷ others ≡ (before ++ f ∷ []) ++ others
    regrouped = (λ i. before ++ sym found.0 i ∷ others) ∙ sym (append_assoc before (f ∷ []) others)

-- ---- what stands behind

-- a byte at a place that begins with a frame is not bad
not_bad : (place : Expect) (one : Frame) (rest behind : List ℕ) (n : ℕ) → Allows place one → rest ≡ frame_spelling one ++ behind
    → IsBadByte place rest n → ⊥
not_bad place one rest behind n allowed front bad = by_length (n_or n (length (frame_spelling one)))
  where
    n_or : (a b : ℕ) → (a < b) ⊎ (b ≤ a)
    n_or a zero = inr (omega arith)
    n_or zero (suc b) = inl (omega arith)
    n_or (suc a) (suc b) = either (n_or a b)
      where
        either : (a < b) ⊎ (b ≤ a) → (suc a < suc b) ⊎ (suc b ≤ suc a)
        either (inl less) = inl (omega (arith, less))
        either (inr most) = inr (omega (arith, most))

    by_length : (n < length (frame_spelling one)) ⊎ (length (frame_spelling one) ≤ n) → ⊥
    by_length (inl less) = bad.first.ends (record {
      frame = one;
      allowed = allowed;
      begun = (
        drop (n + 1) (frame_spelling one),
        sym (take-append-drop (n + 1) (frame_spelling one))
            ∙ ap (λ l. l ++ drop (n + 1) (frame_spelling one))
            (sym (take-append-le (n + 1) (frame_spelling one) behind (omega (arith, less))) ∙ ap (take (n + 1)) (sym front)),
      );
    })
    by_length (inr most) = bad.unfinished one (record {
      allowed = allowed;
      spelled = no_more place one bad.first.before.frame (take n rest) (take (n - length (frame_spelling one)) behind) bad.first.before.begun.0
          allowed bad.first.before.allowed
          (ap (take n) front ∙ ap (λ m. take m (frame_spelling one ++ behind)) (omega (arith, most))
          ∙ take-append-add (frame_spelling one) behind (n - length (frame_spelling one)))
          bad.first.before.begun.1;
    })

-- no fault, where all bytes are faultless frames behind which none may follow
no_fault_in : (task : VerifierTask) (others frames more : List Frame) (rest : List ℕ) (n : ℕ) → AreFaultless task others
    → place_after task.file.params task.statement others ≡ None → others ≡ frames ++ more → rest ≡ frames_spelling more
    → IsBadAt (place_after task.file.params task.statement frames) rest n ⊎ IsWrongAt task frames rest n → ⊥
no_fault_in task others frames [] rest n whole none is bytes (inl bad) =
    let end = ap (place_after task.file.params task.statement) (is ∙ append-nil frames) in
    let some = (subst (λ at. IsBadAt at rest n) (sym end ∙ none) bad).1 in
    let empty = ap length bytes in
    absurd (omega (arith, some, empty))
no_fault_in task others frames [] rest n whole none is bytes (inr wrong) =
    let end = ap (place_after task.file.params task.statement) (is ∙ append-nil frames) in
    let at = wrong.placed.place_is in
    cc
no_fault_in task others frames (m ∷ more) rest n whole none is bytes (inl bad) =
    let right = whole frames m more is in
    not_bad right.place m rest (frames_spelling more) n right.placed.allowed bytes
    (subst (λ at. IsBadAt at rest n) right.placed.place_is bad)
no_fault_in task others frames (m ∷ more) rest n whole none is bytes (inr wrong) =
    wrong.wrong (subst (IsGiven task frames) (sym found.0) right.given)
  where
    right : IsRight task frames m
    right = whole frames m more is

    found : (wrong.frame ≡ m) × (wrong.spelled.0 ≡ frames_spelling more)
    found = one_frame wrong.place wrong.frame m wrong.spelled.0 (frames_spelling more) wrong.placed.allowed
        (subst (λ p. Allows p m) (one_place _ right.place wrong.place right.placed.place_is wrong.placed.place_is) right.placed.allowed)
        (sym wrong.spelled.1 ∙ bytes)

-- nor does it end early
not_early_in : (task : VerifierTask) (others frames more : List Frame) (rest : List ℕ) (place : Expect) → AreFaultless task others
    → place_after task.file.params task.statement others ≡ None → others ≡ frames ++ more → rest ≡ frames_spelling more
    → place_after task.file.params task.statement frames ≡ Some place
    → CanGoOn place rest → ((frame : Frame) → ¬ IsWhole place rest frame) → ⊥
not_early_in task others frames [] rest place whole none is bytes at begun unfinished =
    let end = ap (place_after task.file.params task.statement) (is ∙ append-nil frames) in
    cc
not_early_in task others frames (m ∷ more) rest place whole none is bytes at begun unfinished =
    unfinished m (record {
      allowed = allowed;
      spelled = no_more place m begun.frame rest (frames_spelling more) begun.begun.0 allowed begun.allowed bytes begun.begun.1;
    })
  where
    right : IsRight task frames m
    right = whole frames m more is

    allowed : Allows place m
    allowed = subst (λ p. Allows p m) (one_place _ right.place place right.placed.place_is at) right.placed.allowed

-- ---- the law

pub read_as : (task : VerifierTask) (log : List ℕ) (others frames : List Frame) (rest : List ℕ) → IsReadAs task log others []
    → place_after task.file.params task.statement others ≡ None → IsReadAs task log frames rest → Reads frames others rest
read_as task log others frames rest whole none read =
    one_reading task [] frames others rest read.faultless whole.faultless none
    (sym read.bytes ∙ whole.bytes ∙ append-nil (frames_spelling others))

pub whole_logs_are_right : WholeLogsAreRight
whole_logs_are_right task log others whole none = (
  λ place fault.
      let reads = read_as task log others fault.frames fault.rest whole none fault.read in
      no_fault_in task others fault.frames reads.0 fault.rest fault.n whole.faultless none reads.1 reads.2 fault.fault,
  λ early.
      let reads = read_as task log others early.frames early.rest whole none early.read in
      not_early_in task others early.frames reads.0 early.rest early.place whole.faultless none reads.1 reads.2
      early.place_is early.begun early.unfinished,
)
