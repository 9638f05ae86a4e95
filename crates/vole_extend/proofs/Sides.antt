-- The sides away from the way to a leaf, as flips ask for them and as the prover's view reads them.
use Rattle.std.proofs.Common.{◌≡◌, ℕ, zero, suc, ◌+◌, ◌-◌, ◌*◌, ◌/◌, ◌%◌, ◌^◌, ◌<◌, ◌≤◌, Bool, true, false, not, nat_eq, List, [], map, length, get_or, fold, zip, refl, sym, ◌∙◌, ap, arith, pow-suc, mod-eq_of_lt}
use Rattle.std.specs.List.{range_with_len}
use Rattle.std.proofs.lemmas.Simd.{map-map}
use Rattle.std.proofs.lemmas.List.{ext_get_or, get_or-map, length-map}
use Rattle.std.proofs.lemmas.List.FromFn.{length-map-range_with_len, get_or-map-range_with_len}
use Rattle.std.proofs.lemmas.Nat.{mod-pow-add}
use Rattle.std.proofs.lemmas.Slice.Zip.{length-zip, get_or-zip}
use Rattle.dealer_files.proofs.Pieces.{map_range_same}
use Rattle.tree_laws.proofs.Messages.{path_length}
use Rattle.zk_model.specs.Bits.{from_bit, exclusive_or}
use Rattle.zk_model.specs.Tree.{path_to}
use Rattle.zk_model.specs.Extension.{flip_for, place_of, unmasked_message}
use Rattle.zk_model.specs.Files.{Transfer}
use Rattle.zk_model.specs.Transcript.{TreeAsk, TreeReply}
use Rattle.zk_model.specs.Correlations.{LevelView, chosen_side, chosen_sum, hidden_place, level_view}
use Rattle.vole_extend.specs.Levels.{choice_at, transfer_at, both_at, asked_flips, chosen_sums}

-- ---- the way to a leaf

-- away from its side on a level
path_side : (h j level : ℕ) → level < h → not (get_or (path_to h j) level false) ≡ choice_at h j level
path_side zero j level below = absurd (omega (arith, below))
path_side (suc h) j zero below =
    let all : h ≡ suc h - 1 - 0 = omega arith in ap (λ k. not (nat_eq (j / 2 ^ k % 2) 1)) all
path_side (suc h) j (suc level) below =
    let less : h - 1 - level ≡ suc h - 1 - suc level = omega arith in
    path_side h j level (omega (arith, below)) ∙ ap (λ k. not (nat_eq (j / 2 ^ k % 2) 1)) less

-- a digit as a side
as_side : (n : ℕ) → n ≤ 1 → from_bit (nat_eq n 1) ≡ n
as_side zero small = refl
as_side (suc zero) small = refl
as_side (suc (suc n)) small = absurd (omega (arith, small))

-- over plain numbers: a digit more
digit_more : (n d w r : ℕ) → (2 * n + d) * w + r ≡ n * (w * 2) + (d * w + r)
digit_more n d w r = omega arith

-- the number that the sides of a path go on to
digits_from : (h n j : ℕ) → fold (λ n side. 2 * n + from_bit side) n (path_to h j) ≡ n * 2 ^ h + j % 2 ^ h
digits_from zero n j = omega arith
digits_from (suc h) n j =
    let digit : from_bit (nat_eq (j / 2 ^ h % 2) 1) ≡ j / 2 ^ h % 2 = as_side (j / 2 ^ h % 2) (omega arith) in
    digits_from h (2 * n + from_bit (nat_eq (j / 2 ^ h % 2) 1)) j
    ∙ ap (λ d. (2 * n + d) * 2 ^ h + j % 2 ^ h) digit
    ∙ digit_more n (j / 2 ^ h % 2) (2 ^ h) (j % 2 ^ h)
    ∙ (λ i. n * sym (pow-suc 2 h) i + sym (mod-pow-add j 1 h) i)
    ∙ ap (λ k. n * 2 ^ suc h + j % 2 ^ k) one_more
  where
    one_more : 1 + h ≡ suc h
    one_more = omega arith

-- the way to a leaf leads to that leaf
path_place : (h j : ℕ) → j < 2 ^ h → place_of (path_to h j) ≡ j
path_place h j below = digits_from h 0 j ∙ ap (λ k. 0 * 2 ^ h + k) (mod-eq_of_lt below) ∙ omega arith

-- ---- what is asked

-- the flips of an honest ask
pub flips_are : (h place : ℕ) (transfers : List Transfer) → length transfers ≡ h
    → asked_flips place transfers ≡ map (λ q. flip_for q.1.bit (not q.0)) (zip (path_to h place) transfers)
flips_are h place transfers count =
    ext_get_or false (asked_flips place transfers) (map flip both) (counted ∙ sym (length-map both flip ∙ zipped)) at
  where
    flip : Bool × Transfer → Bool
    flip q = flip_for q.1.bit (not q.0)

    none : Transfer
    none = record { bit = false; pad = [] }

    both : List (Bool × Transfer)
    both = zip (path_to h place) transfers

    counted : length (asked_flips place transfers) ≡ h
    counted = length-map-range_with_len _ 0 (length transfers) ∙ count

    zipped : length both ≡ h
    zipped = let pathed = path_length h place in let paired = length-zip (path_to h place) transfers in omega (arith, count, pathed, paired)

    at : (k : ℕ) → k < length (asked_flips place transfers) → get_or (asked_flips place transfers) k false ≡ get_or (map flip both) k false
    at k below =
        let inside : k < h = omega (arith, below, counted) in
        get_or-map-range_with_len (λ level. flip_for (transfer_at transfers level).bit (choice_at (length transfers) place level))
        0 (length transfers) k k false (omega (arith, inside, count)) (omega arith)
        ∙ ap (λ n. flip_for (transfer_at transfers k).bit (choice_at n place k)) count
        ∙ ap (flip_for (transfer_at transfers k).bit) (sym (path_side h place k inside))
        ∙ sym (get_or-map flip both k (false, none) false (omega (arith, inside, zipped))
        ∙ ap flip (get_or-zip (path_to h place) transfers k (false, none) (omega (arith, inside, path_length h place)) (omega (arith, inside, count))))

-- ---- what the view reads

-- a flip less the bit that was dealt is the choice
choice_again : (dealt choice : Bool) → exclusive_or (flip_for dealt choice) dealt ≡ choice
choice_again false false = refl
choice_again false true = refl
choice_again true false = refl
choice_again true true = refl

-- not twice
not_twice : (b : Bool) → not (not b) ≡ b
not_twice false = refl
not_twice true = refl

-- what is known of a tree of height h whose asks hide a place
pub record IsAsked (h place : ℕ) (transfers : List Transfer) (ask : TreeAsk) : Type 0 where
  pub count : length transfers ≡ h
  pub inside : place < 2 ^ h
  pub flips : ask.flips ≡ asked_flips place transfers

-- the levels of its view
abbrev pub levels_of : ℕ → List Transfer → TreeAsk → TreeReply → List LevelView
levels_of h transfers ask reply = map (level_view transfers ask reply) (range_with_len 0 h)

-- the chosen sides are those away from the place
chosen_is : (h place : ℕ) (transfers : List Transfer) (ask : TreeAsk) (reply : TreeReply) → IsAsked h place transfers ask
    → (level : ℕ) → level < h → chosen_side (level_view transfers ask reply level) ≡ choice_at h place level
chosen_is h place transfers ask reply is level below =
    ap (λ flips. exclusive_or (get_or flips level false) (transfer_at transfers level).bit) is.flips
    ∙ ap (λ flip. exclusive_or flip (transfer_at transfers level).bit)
    (get_or-map-range_with_len (λ level. flip_for (transfer_at transfers level).bit (choice_at (length transfers) place level))
    0 (length transfers) level level false (omega (arith, below, is.count)) (omega arith))
    ∙ choice_again (transfer_at transfers level).bit (choice_at (length transfers) place level)
    ∙ ap (λ n. choice_at n place level) is.count

-- so the hidden place is that place
pub hidden_is : (h place : ℕ) (transfers : List Transfer) (ask : TreeAsk) (reply : TreeReply) → IsAsked h place transfers ask
    → hidden_place (levels_of h transfers ask reply) ≡ place
hidden_is h place transfers ask reply is = ap place_of sides ∙ path_place h place is.inside
  where
    side : LevelView → Bool
    side level = not (chosen_side level)

    levels : List LevelView
    levels = levels_of h transfers ask reply

    counted : length levels ≡ h
    counted = length-map-range_with_len (level_view transfers ask reply) 0 h

    at : (k : ℕ) → k < length (map side levels) → get_or (map side levels) k false ≡ get_or (path_to h place) k false
    at k below =
        let inside : k < h = omega (arith, below, counted, length-map levels side) in
        ap (λ l. get_or l k false) (map-map side (level_view transfers ask reply) (range_with_len 0 h))
        ∙ get_or-map-range_with_len (λ level. side (level_view transfers ask reply level)) 0 h k k false inside (omega arith)
        ∙ ap not (chosen_is h place transfers ask reply is k inside ∙ sym (path_side h place k inside))
        ∙ not_twice (get_or (path_to h place) k false)

    sides : map side levels ≡ path_to h place
    sides = ext_get_or false (map side levels) (path_to h place) (length-map levels side ∙ counted ∙ sym (path_length h place)) at

-- and the chosen sums are those of the sides away from it
pub sums_are : (h place : ℕ) (transfers : List Transfer) (ask : TreeAsk) (reply : TreeReply) → IsAsked h place transfers ask
    → map chosen_sum (levels_of h transfers ask reply) ≡ chosen_sums place transfers reply.messages
sums_are h place transfers ask reply is =
    map-map chosen_sum (level_view transfers ask reply) (range_with_len 0 h)
    ∙ map_range_same (λ level. chosen_sum (level_view transfers ask reply level)) (unmasked h) 0 h
    (λ level low high. ap (λ side. unmasked_message (transfer_at transfers level).pad side (both_at reply.messages level))
    (chosen_is h place transfers ask reply is level (omega (arith, high))))
    ∙ ap (λ n. map (unmasked n) (range_with_len 0 n)) (sym is.count)
  where
    unmasked : ℕ → ℕ → List ℕ
    unmasked n level = unmasked_message (transfer_at transfers level).pad (choice_at n place level) (both_at reply.messages level)
