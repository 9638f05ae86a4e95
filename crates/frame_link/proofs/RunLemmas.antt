-- One more run.
use Rattle.std.proofs.Common.{◌≡◌, ℕ, ◌+◌, ◌≤◌, List, [], ◌∷◌, ◌++◌, length, map, take, drop, refl, ap, sym, ◌∙◌, arith, append_assoc, sum_by, append-nil, length-drop, length-append}
use Rattle.std.proofs.lemmas.List.{take_all, take-append-le, drop-append-le, take-append-drop, map-append, length-map}
use Rattle.zk_model.specs.declared.Side.{Side}
use Rattle.std.proofs.Math.Seq.{take-length}
use Rattle.std.proofs.lemmas.List.Sums.{sum_by-cons}
use Rattle.zk_model.specs.Transcript.{bytes_from}
use Rattle.frame_link.specs.declared.log.Run.{Run}
use Rattle.frame_link.specs.Runs.{entries, run_count}

-- the bytes after those of all runs are those of one more
pub entries_push : (runs : List Run) (bytes more : List ℕ) (run : Run) → sum_by run_count runs ≡ length bytes → run.count ≡ length more
    → entries (runs ++ run ∷ []) (bytes ++ more) ≡ entries runs bytes ++ bytes_from run.side more
entries_push [] [] more run total count = rw (count, take-length more, append-nil) refl
entries_push [] (b ∷ bytes) more run total count = absurd (omega arith)
entries_push (first ∷ runs) bytes more run total count =
    let more_of : first.count + sum_by run_count runs ≡ length bytes = sym (sum_by-cons run_count first runs) ∙ total in
    let within : first.count ≤ length bytes = omega arith in
    rw (take-append-le first.count bytes more, drop-append-le first.count bytes more)
    (ap (λ rest. bytes_from first.side (take first.count bytes) ++ rest)
    (entries_push runs (drop first.count bytes) more run (omega (arith, length-drop first.count bytes)) count)
    ∙ sym (append_assoc (bytes_from first.side (take first.count bytes)) (entries runs (drop first.count bytes)) (bytes_from run.side more)))

-- the bytes of all runs are all bytes
pub entries-bytes : (runs : List Run) (bytes : List ℕ) → sum_by run_count runs ≡ length bytes → map (λ entry. entry.1) (entries runs bytes) ≡ bytes
entries-bytes [] [] total = refl
entries-bytes [] (b ∷ bytes) total = absurd (omega arith)
entries-bytes (run ∷ runs) bytes total =
    let more_of : run.count + sum_by run_count runs ≡ length bytes = sym (sum_by-cons run_count run runs) ∙ total in
    map-append (λ (entry : Side × ℕ). entry.1) (bytes_from run.side (take run.count bytes)) (entries runs (drop run.count bytes))
    ∙ (λ i. bytes_of_side run.side (take run.count bytes) i ++ entries-bytes runs (drop run.count bytes) (omega (arith, length-drop run.count bytes)) i)
    ∙ take-append-drop run.count bytes
  where
    bytes_of_side : (side : Side) (bytes : List ℕ) → map (λ entry. entry.1) (bytes_from side bytes) ≡ bytes
    bytes_of_side side [] = refl
    bytes_of_side side (byte ∷ bytes) = ap (λ rest. byte ∷ rest) (bytes_of_side side bytes)

-- an entry for each byte
pub length-entries : (runs : List Run) (bytes : List ℕ) → sum_by run_count runs ≡ length bytes → length (entries runs bytes) ≡ length bytes
length-entries runs bytes total =
    sym (length-map (entries runs bytes) (λ (entry : Side × ℕ). entry.1)) ∙ ap length (entries-bytes runs bytes total)

-- more bytes of the side of the last run are one run with it
pub one_run : (runs : List Run) (bytes more : List ℕ) (last : Run) (count : ℕ) → sum_by run_count (runs ++ last ∷ []) ≡ length bytes
    → count ≡ last.count + length more
    → entries (runs ++ record { side = last.side; count = count } ∷ []) (bytes ++ more) ≡ entries (runs ++ last ∷ []) bytes ++ bytes_from last.side more
one_run [] bytes more last count total counted =
    let whole : length bytes ≡ last.count = sym total ∙ sum_by-cons run_count last [] ∙ omega arith in
    let all : take count (bytes ++ more) ≡ bytes ++ more = take_all count (bytes ++ more) (omega (arith, length-append bytes more, whole, counted)) in
    let before : take last.count bytes ≡ bytes = take_all last.count bytes (omega (arith, whole)) in
    append-nil (bytes_from last.side (take count (bytes ++ more)))
    ∙ ap (bytes_from last.side) all
    ∙ map-append (λ (byte : ℕ). (last.side, byte)) bytes more
    ∙ ap (λ l. bytes_from last.side l ++ bytes_from last.side more) (sym before)
    ∙ ap (λ l. l ++ bytes_from last.side more) (sym (append-nil (bytes_from last.side (take last.count bytes))))
one_run (first ∷ runs) bytes more last count total counted =
    let more_of : first.count + sum_by run_count (runs ++ last ∷ []) ≡ length bytes = sym (sum_by-cons run_count first (runs ++ last ∷ [])) ∙ total in
    let within : first.count ≤ length bytes = omega arith in
    rw (take-append-le first.count bytes more, drop-append-le first.count bytes more)
    (ap (λ rest. bytes_from first.side (take first.count bytes) ++ rest)
    (one_run runs (drop first.count bytes) more last count (omega (arith, length-drop first.count bytes)) counted)
    ∙ sym (append_assoc (bytes_from first.side (take first.count bytes)) (entries (runs ++ last ∷ []) (drop first.count bytes)) (bytes_from last.side more)))

-- one run more has as many bytes more
pub sum_push : (runs : List Run) (run : Run) → sum_by run_count (runs ++ run ∷ []) ≡ sum_by run_count runs + run.count
sum_push [] run = sum_by-cons run_count run [] ∙ omega arith
sum_push (first ∷ runs) run =
    let more = sum_push runs run in
    let whole = sum_by-cons run_count first (runs ++ run ∷ []) in
    let part = sum_by-cons run_count first runs in
    omega (arith, more, whole, part)
