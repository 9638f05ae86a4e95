use Rattle.std.proofs.Common.{◌≡◌, map, length}
use Rattle.std.specs.List.{range_with_len}
use Rattle.zk_model.specs.Extension.{flip_for}
use Rattle.vole_extend.specs.Levels.{choice_at, transfer_at}
use Rattle.vole_extend.proofs.levels.asked_flips.Given as goal

abbrev pub invariant-loop-level : goal.invariant-loop-level
invariant-loop-level l = record {
  flips_are : l.flips.items
      ≡ map (λ level. flip_for (transfer_at l.transfers level).bit (choice_at (length l.transfers) l.place level)) (range_with_len 0 l.level);
  count : l.flips.len ≡ l.level;
}
