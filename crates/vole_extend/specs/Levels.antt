-- What is asked, masked and unmasked on each level of one tree.
use Rattle.std.specs.Prelude.{ℕ, ◌-◌, ◌/◌, ◌%◌, ◌^◌, Bool, false, not, nat_eq, List, [], length, map, slice_index_or}
use Rattle.std.specs.List.{range_with_len}
use Rattle.zk_model.specs.Bytes.{LeftRight}
use Rattle.zk_model.specs.Extension.{flip_for, place_of, masked_messages, unmasked_message}
use Rattle.zk_model.specs.Files.{Transfer}

-- the side away from the way to leaf j, at a level of a tree of height h
abbrev pub choice_at : ℕ → ℕ → ℕ → Bool
choice_at h j level = not (nat_eq (j / 2 ^ (h - 1 - level) % 2) 1)

-- what stands at a level
abbrev pub transfer_at : List Transfer → ℕ → Transfer
transfer_at transfers level = slice_index_or transfers level (record { bit = false; pad = [] })

abbrev pub both_at : List LeftRight → ℕ → LeftRight
both_at levels level = slice_index_or levels level (record { left = []; right = [] })

-- what is asked on each level, by the bits that were dealt, so that the sides away from a leaf are chosen
abbrev pub asked_flips : ℕ → List Transfer → List Bool
asked_flips place transfers =
    map (λ level. flip_for (transfer_at transfers level).bit (choice_at (length transfers) place level))
    (range_with_len 0 (length transfers))

-- the sums of those sides, their pads taken off
abbrev pub chosen_sums : ℕ → List Transfer → List LeftRight → List (List ℕ)
chosen_sums place transfers messages =
    map (λ level. unmasked_message
    (transfer_at transfers level).pad (choice_at (length transfers) place level) (both_at messages level))
    (range_with_len 0 (length transfers))

-- both sums of each level under the pads that were asked for
abbrev pub masked_sums : List LeftRight → List Bool → List LeftRight → List LeftRight
masked_sums pads flips sums =
    map (λ level. masked_messages (both_at pads level) (slice_index_or flips level false) (both_at sums level))
    (range_with_len 0 (length sums))

-- the side that a flip chooses at a level
abbrev pub flip_choice : List Transfer → List Bool → ℕ → Bool
flip_choice transfers flips level = flip_for (slice_index_or flips level false) (transfer_at transfers level).bit

-- the place whose path goes away from each of these sides
abbrev pub flip_place : List Transfer → List Bool → ℕ
flip_place transfers flips =
    place_of (map (λ level. not (flip_choice transfers flips level)) (range_with_len 0 (length transfers)))
