-- A tree without one leaf is found from its own sums.
use Rattle.std.proofs.Common.{◌≡◌, ℕ, zero, suc, ◌+◌, ◌*◌, ◌^◌, ◌<◌, ◌≤◌, Bool, nat_eq, map, length, set, get_or-set_other, get_or-set_same, refl, subst, sym, ◌∙◌, ap, arith}
use Rattle.std.specs.List.{range_with_len}
use Rattle.std.proofs.lemmas.List.{length-set}
use Rattle.std.proofs.lemmas.List.FromFn.{length-map-range_with_len, get_or-map-range_with_len}
use Rattle.zk_model.proofs.Octets.{node_bytes}
use Rattle.tree_laws.proofs.Grown.{grown_halves}
use Rattle.tree_laws.proofs.Punctured.{one_punctured}
use Rattle.tree_laws.proofs.Xors.{same_range}
use Rattle.zk_model.specs.Bits.{from_bit}
use Rattle.zk_model.specs.Bytes.{xor_all}
use Rattle.zk_model.specs.Tree.{child_of, path_to, node_at, leaf_at, level_sum, tree_leaves, side_away}
use Rattle.ggm_tree.specs.Laws.{PuncturedIsGrown}

-- a digit as a side
as_side : (n : ℕ) → n ≤ 1 → from_bit (nat_eq n 1) ≡ n
as_side zero small = refl
as_side (suc zero) small = refl
as_side (suc (suc n)) small = absurd (omega (arith, small))

-- what is found from a tree's own sums is what the sums determine
pub punctured_is_grown : PuncturedIsGrown
punctured_is_grown h alpha root sums found bytes inside given punctured =
    one_punctured h alpha sums found (set (tree_leaves root h) alpha 0) inside punctured (record {
      node = λ level j. node_at root (path_to level j);
      bytes = λ level j deep below not_it. node_bytes root (path_to level j) bytes;
      halves = λ level j side deep below not_it. grown_halves root level j side;
      summed = λ level below. summed level ∙ sym (given level below);
      whole = length-set (tree_leaves root h) alpha 0 ∙ leaves_long;
      others = λ j below not_it. get_or-set_other (tree_leaves root h) alpha j 0 0 not_it
          ∙ get_or-map-range_with_len (leaf_at root h) 0 (2 ^ h) j j 0 below (omega arith);
      missing = get_or-set_same (tree_leaves root h) alpha 0 0 (subst (λ (n : ℕ). alpha < n) (sym leaves_long) inside);
    })
  where
    leaves_long : length (tree_leaves root h) ≡ 2 ^ h
    leaves_long = length-map-range_with_len (leaf_at root h) 0 (2 ^ h)

    away : ℕ → Bool
    away level = nat_eq (side_away h alpha level) 1

    summed : (level : ℕ) → xor_all (map (λ j. node_at root (path_to (level + 1) (2 * j + side_away h alpha level))) (range_with_len 0 (2 ^ level)))
        ≡ level_sum root level (away level)
    summed level = ap xor_all (same_range (λ j. node_at root (path_to (level + 1) (2 * j + side_away h alpha level)))
        (λ j. child_of (away level) (node_at root (path_to level j))) 0 (2 ^ level)
        (λ j low high. ap (λ k. node_at root (path_to (level + 1) (2 * j + k))) (sym (as_side (side_away h alpha level) (omega arith)))
        ∙ grown_halves root level j (away level)))
