-- A bad byte among those that a decoder is fed is one of the log.
use Rattle.std.proofs.Common.{◌≡◌, ℕ, ◌+◌, ◌-◌, ◌<◌, ◌≤◌, Some, None, List, ◌++◌, length, take, drop, inl, inr, sym, ◌∙◌, ap, subst, arith, append_assoc, length-append}
use Rattle.std.proofs.lemmas.List.{take-append-le, take-append-drop, length-take, length-take-le}
use Rattle.std.proofs.Math.Seq.{take-append-add}
use Rattle.zk_model.specs.Frames.{Frame, IsWhole, IsFirstBad, CanGoOn, bytes_wanted, frame_length}
use Rattle.zk_model.specs.declared.Expect.{Expect}
use Rattle.proof_frames.specs.Readings.{Reading, IsReading, Refuses}
use Rattle.proof_frames.specs.declared.decoder.BadFrame.{BadFrame}
use Rattle.proof_frames.proofs.Lengths.{whole_length}
use Rattle.proof_frames.proofs.Decoding.{grows}
use Rattle.proof_audit.specs.Reading.{IsFed, FindsBad}

-- over a longer list a first bad byte is one, too
longer_bad : (place : Expect) (bytes more log : List ℕ) (n : ℕ) → log ≡ bytes ++ more → IsFirstBad place bytes n → IsFirstBad place log n
longer_bad place bytes more log n joined first = record {
  within = let w = first.within in omega (arith, w, length-append bytes more, ap length joined);
  before = subst (CanGoOn place) (sym (same n (let w = first.within in omega (arith, w)))) first.before;
  ends = λ on. first.ends (subst (CanGoOn place) (same (n + 1) (let w = first.within in omega (arith, w))) on);
}
  where
    same : (k : ℕ) → k ≤ length bytes → take k log ≡ take k bytes
    same k below = ap (take k) joined ∙ take-append-le k bytes more below

-- no frame is whole before it
unfinished : (place : Expect) (taken wanted_part more log : List ℕ) (n : ℕ) → log ≡ (taken ++ wanted_part) ++ more
    → length taken ≤ n → n < length (taken ++ wanted_part) → length (taken ++ wanted_part) ≤ frame_length place taken
    → (frame : Frame) → IsWhole place (take n log) frame → ⊥
unfinished place taken part more log n joined behind within most frame whole =
    let counted : length (take n log) ≡ n = length-take-le n log (omega (arith, within, ap length joined, length-append (taken ++ part) more)) in
    let exact : length (take n log) ≡ frame_length place (take n log) = whole_length place (take n log) frame whole in
    let front : take n log ≡ taken ++ take (n - length taken) part = begins in
    let least : frame_length place taken ≤ frame_length place (take n log) =
    subst (λ (bytes : List ℕ). frame_length place taken ≤ frame_length place bytes) (sym front) (grows place taken (take (n - length taken) part)) in
    omega (arith, counted, exact, least, within, most)
  where
    split : n ≡ length taken + (n - length taken)
    split = omega (arith, behind)

    begins : take n log ≡ taken ++ take (n - length taken) part
    begins = ap (take n) joined ∙ take-append-le n (taken ++ part) more (omega (arith, within)) ∙ ap (λ k. take k (taken ++ part)) split ∙ take-append-add taken part (n - length taken)

pub bad_found : (place : Expect) (log rest : List ℕ) (old now new : Reading) (bad : BadFrame) → IsFed place log old rest now → IsReading now
    → Refuses now rest bad new → FindsBad place log old bad.place
bad_found place log rest old now new bad fed sound (inl before) = let e : now.bad ≡ Some bad = before.0 in let f : now.bad ≡ None = fed.fine in cc
bad_found place log rest old now new bad fed sound (inr turns) = record {
  n = turns.n;
  bad = record {
    first = subst (λ (p : Expect). IsFirstBad p log turns.n) (sym same)
        (longer_bad turns.place (now.taken ++ part) (drop (bytes_wanted turns.place now.taken) rest) log turns.n joined turns.first);
    unfinished = λ frame whole. unfinished turns.place now.taken part (drop (bytes_wanted turns.place now.taken) rest) log turns.n joined
        turns.behind turns.first.within most frame (subst (λ (p : Expect). IsWhole p (take turns.n log) frame) same whole);
  };
  at_is = turns.at ∙ ap (λ n. n + turns.n) fed.received;
}
  where
    part : List ℕ
    part = take (bytes_wanted turns.place now.taken) rest

    same : place ≡ turns.place
    same = let e : now.expected ≡ Some place = fed.expected in let f : now.expected ≡ Some turns.place = turns.expected in cc

    joined : log ≡ (now.taken ++ part) ++ drop (bytes_wanted turns.place now.taken) rest
    joined = fed.taken ∙ ap (λ l. now.taken ++ l) (sym (take-append-drop (bytes_wanted turns.place now.taken) rest)) ∙ sym (append_assoc now.taken part _)

    most : length (now.taken ++ part) ≤ frame_length turns.place now.taken
    most =
        let inside : length now.taken ≤ frame_length turns.place now.taken = sound.within turns.place turns.expected in
        omega (arith, inside, length-append now.taken part, length-take (bytes_wanted turns.place now.taken) rest)
