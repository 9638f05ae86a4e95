-- What a decoder's fields say of its reading.
use Rattle.std.proofs.Common.{◌≡◌, ℕ, ◌+◌, ◌-◌, ◌^◌, ◌<◌, ◌≤◌, ◌⊎◌, inl, inr, min, List, [], ◌++◌, length, take, refl, sym, ◌∙◌, ap, arith, length-append, subst}
use Rattle.std.specs.Prelude.{Option, Some, None, is_some, false}
use Rattle.std.proofs.Math.Seq.{take-append-add}
use Rattle.std.proofs.lemmas.Bool.{cases_lt}
use Rattle.std.proofs.lemmas.List.{take_all, take_at, length-take-le}
use Rattle.zk_model.specs.Frames.{Frame, CanGoOn, IsWhole, frame_length, bytes_wanted, expected_kind}
use Rattle.zk_model.specs.declared.Expect.{Expect}
use Rattle.proof_frames.specs.Readings.{Reading, IsReading, Takes, TurnsBad, Gives, IsNotWhole}
use Rattle.proof_frames.specs.Rows.{told_at}
use Rattle.proof_frames.specs.Holding.{Holds, StopsAt, IsUnderWay, IsSound, bytes_of}
use Rattle.proof_frames.specs.declared.decoder.BadFrame.{BadFrame}
use Rattle.proof_frames.specs.declared.held.Held.{Held}
use Rattle.proof_frames.proofs.Lengths.{length_untold, least_length, same_length, short_frame, whole_length}
use Rattle.proof_frames.proofs.Begun.{begins_can, begins_fewer}

-- ---- frames' lengths

-- with more bytes a frame is no shorter
pub grows : (place : Expect) (bytes more : List ℕ) → frame_length place bytes ≤ frame_length place (bytes ++ more)
grows place bytes more = by_length (cases_lt (told_at place) (length bytes))
  where
    by_length : (told_at place < length bytes) ⊎ (length bytes ≤ told_at place) → frame_length place bytes ≤ frame_length place (bytes ++ more)
    by_length (inl some) = omega (arith, same_length place bytes more some)
    by_length (inr early) = omega (arith, length_untold place bytes early, least_length place (bytes ++ more))

-- bytes and as many as are wanted fit a frame
pub fits_frame : (place : Expect) (bytes piece : List ℕ) → length bytes ≤ frame_length place bytes → length piece ≤ frame_length place bytes - length bytes
    → length (bytes ++ piece) ≤ frame_length place (bytes ++ piece)
fits_frame place bytes piece within wanted = omega (arith, within, wanted, length-append bytes piece, grows place bytes piece)

-- ---- a decoder's fields

-- one place is expected
one_place : (place other : Expect) → Some place ≡ Some other → place ≡ other
one_place place other is = cc

-- what holds while a frame is under way
pub under_way : (expected : Option Expect) (place : Expect) (received : ℕ) (bad : Option BadFrame) (taken : ℕ) (held : Held)
    → expected ≡ Some place → IsSound expected received bad taken held → IsUnderWay place received bad taken held
under_way expected place received bad taken held is sound =
    subst (λ (e : Option Expect). IsSound e received bad taken held) is sound

-- little is taken
pub taken_most : (place : Expect) (received : ℕ) (bad : Option BadFrame) (taken : ℕ) (held : Held)
    → IsUnderWay place received bad taken held → taken ≤ 2 ^ 28 + 5
taken_most place received bad taken held under =
    let most = under.most in
    let within = under.holds.begun.within in
    let short = short_frame place (bytes_of held) under.holds.short in
    omega arith

-- what is received can be counted
pub received_fits : (expected : Option Expect) (received : ℕ) (bad : Option BadFrame) (taken : ℕ) (held : Held)
    → IsSound expected received bad taken held → received < 2 ^ 64 → received + taken < 2 ^ 64
received_fits None received bad taken held idle fits = let none = idle.none_taken in omega arith
received_fits (Some place) received bad taken held under fits =
    let most = taken_most place received bad taken held under in
    let room = under.fits in
    omega arith

-- a decoder's reading
abbrev pub reading : ℕ → Option Expect → Option BadFrame → ℕ → Held → Reading
reading received expected bad taken held = record { received = received; expected = expected; taken = take taken (bytes_of held); bad = bad }

pub sound_reading : (expected : Option Expect) (received : ℕ) (bad : Option BadFrame) (taken : ℕ) (held : Held)
    → IsSound expected received bad taken held → IsReading (reading received expected bad taken held)
sound_reading None received bad taken held idle = record {
  goes_on = λ place is. absurd (none_is_none place is);
  within = λ place is. absurd (none_is_none place is);
  idle = λ is. (ap (λ n. take n (bytes_of held)) idle.none_taken, idle.fine);
}
  where
    none_is_none : (place : Expect) → None ≡ Some place → ⊥
    none_is_none place is = cc
sound_reading (Some place) received bad taken held under = record {
  goes_on = λ other is. subst (λ (p : Expect). CanGoOn p (take taken (bytes_of held))) (one_place place other is)
      (begins_can place (take taken (bytes_of held)) (begins_fewer place (bytes_of held) taken under.holds.begun));
  within = λ other is. subst (λ (p : Expect). length (take taken (bytes_of held)) ≤ frame_length p (take taken (bytes_of held))) (one_place place other is)
      (begins_fewer place (bytes_of held) taken under.holds.begun).within;
  idle = λ is. absurd (some_is_some is);
}
  where
    some_is_some : Some place ≡ None → ⊥
    some_is_some is = cc

-- as many bytes as there are, or as are wanted
wanted_piece : (piece : List ℕ) (count most : ℕ) → count ≡ min (length piece) most → take count piece ≡ take most piece
wanted_piece piece count most is = by_order (cases_lt most (length piece))
  where
    by_order : (most < length piece) ⊎ (length piece ≤ most) → take count piece ≡ take most piece
    by_order (inl less) = let same : count ≡ most = omega (arith, is) in ap (λ n. take n piece) same
    by_order (inr all) = take_all count piece (omega (arith, is)) ∙ sym (take_all most piece all)

-- what is not there is none
pub none_is : (bad : Option BadFrame) → is_some bad ≡ false → bad ≡ None
none_is None is = refl
none_is (Some bad) is = cc

-- what is taken is no more than a frame has
pub taken_within : (expected : Option Expect) (bad : Option BadFrame) (place : Expect) (received taken : ℕ) (held : Held)
    → expected ≡ Some place → IsSound expected received bad taken held → taken ≤ frame_length place (bytes_of held)
taken_within expected bad place received taken held is sound =
    let under = under_way expected place received bad taken held is sound in
    let most = under.most in
    let within = under.holds.begun.within in
    omega arith

-- ---- a frame is under way, and nothing is bad

module _ (expected : Option Expect) (bad : Option BadFrame) (place : Expect) (received taken : ℕ) (held : Held) (old : Reading) (is : expected ≡ Some place) (fine : bad ≡ None)
    (sound : IsSound expected received bad taken held) (view : reading received expected bad taken held ≡ old) where
  abbrev bytes : List ℕ
  bytes = bytes_of held

  all : taken ≡ length bytes
  all = (under_way expected place received bad taken held is sound).all fine

  -- what is read so far
  abbrev fine_reading : List ℕ → Reading
  fine_reading l = record { received = received; expected = Some place; taken = l; bad = None }

  old_is : fine_reading bytes ≡ old
  old_is =
      (λ i. record { received = received; expected = sym is i; taken = sym (take_all taken bytes (omega (arith, all))) i; bad = sym fine i }) ∙ view

  -- a piece was taken
  pub takes : (count : ℕ) (now : Held) (piece : List ℕ) → count ≡ min (length piece) (frame_length place (bytes_of held) - taken) → Holds place now
      → bytes_of now ≡ bytes_of held ++ take count piece → Takes old piece count (reading received expected bad (taken + count) now)
  takes count now piece counted holds same =
      let sized : taken + count ≡ length (bytes_of now) =
      omega (arith, all, ap length same, counted, length-append bytes (take count piece), length-take-le count piece (omega (arith, counted))) in
      let new : fine_reading (bytes ++ take count piece) ≡ reading received expected bad (taken + count) now =
      λ i. record { received = received; expected = sym is i; taken = sym (take_all (taken + count) (bytes_of now) (omega (arith, sized)) ∙ same) i; bad = sym fine i } in
      subst (λ (q : Reading × Reading). Takes q.0 piece count q.1) (λ i. (old_is i, new i)) (record {
        fine = refl;
        counted = counted ∙ ap (λ n. min (length piece) (frame_length place bytes - n)) all;
        goes_on = λ other is_too. subst (λ (p : Expect). CanGoOn p (bytes ++ take count piece)) (one_place place other is_too)
            (subst (CanGoOn place) same (begins_can place (bytes_of now) holds.begun));
        becomes = refl;
      })

  -- a bad byte was found in the piece
  pub turns_bad : (count n : ℕ) (now : Held) (piece : List ℕ) (found : BadFrame) → count ≡ min (length piece) (frame_length place (bytes_of held) - taken)
      → StopsAt place held (take count piece) n now → found.place ≡ received + (taken + n) → found.kind ≡ expected_kind place (bytes_of now)
      → TurnsBad old piece found (reading received expected (Some found) taken now)
  turns_bad count n now piece found counted stops at kind =
      let part : List ℕ = take (bytes_wanted place bytes) piece in
      let part_is : take count piece ≡ part =
      wanted_piece piece count (bytes_wanted place bytes) (counted ∙ ap (λ k. min (length piece) (frame_length place bytes - k)) all) in
      let less = stops.within in
      let within : n < length part = omega (arith, ap length part_is) in
      let before : take (taken + n) (bytes ++ part) ≡ bytes_of now =
      ap (λ k. take (k + n) (bytes ++ part)) all ∙ take-append-add bytes part n ∙ ap (λ l. bytes ++ take n l) (sym part_is) ∙ sym stops.bytes in
      let behind : take (taken + n + 1) (bytes ++ part) ≡ bytes ++ take (n + 1) (take count piece) =
      ap (λ k. take k (bytes ++ part)) (let e : taken + n + 1 ≡ length bytes + (n + 1) = omega (arith, all) in e)
      ∙ take-append-add bytes part (n + 1) ∙ ap (λ l. bytes ++ take (n + 1) l) (sym part_is) in
      let kept : take taken (bytes_of now) ≡ bytes = ap (take taken) stops.bytes ∙ take_at bytes (take n (take count piece)) taken (sym all) in
      subst (λ (o : Reading). TurnsBad o piece found (reading received expected (Some found) taken now)) old_is (record {
        fine = refl;
        place = place;
        expected = refl;
        n = taken + n;
        behind = omega (arith, all);
        first = record {
          within = omega (arith, all, within, length-append bytes part);
          before = subst (CanGoOn place) (sym before) (begins_can place (bytes_of now) stops.holds.begun);
          ends = λ can. stops.ends (subst (CanGoOn place) behind can);
        };
        at = at;
        kind = kind ∙ ap (expected_kind place) (sym before);
        becomes = λ i. record { received = received; expected = is i; taken = kept i; bad = Some found };
      })

  -- a whole frame was handed out
  pub gives : (now : Held) (frame : Frame) → IsWhole place (bytes_of held) frame → Gives old frame (reading (received + taken) None bad 0 now)
  gives now frame whole = subst (λ (o : Reading). Gives o frame (reading (received + taken) None bad 0 now)) old_is (record {
    fine = refl;
    place = place;
    expected = refl;
    whole = whole;
    becomes = λ i. record { received = received + all i; expected = None; taken = []; bad = fine i };
  })

  -- what is taken is no whole frame where more is wanted
  pub not_whole : taken < frame_length place (bytes_of held) → IsNotWhole old
  not_whole less = subst IsNotWhole old_is (λ other frame fine_too is_too whole.
      let sized : length bytes ≡ frame_length place bytes =
      subst (λ (p : Expect). length bytes ≡ frame_length p bytes) (sym (one_place place other is_too)) (whole_length other bytes frame whole) in
      absurd (omega (arith, sized, all, less)))
