use Rattle.std.proofs.Common.{◌≡◌, false, map, get_or}
use Rattle.std.specs.List.{range_with_len}
use Rattle.zk_model.specs.Extension.{masked_messages}
use Rattle.vole_extend.specs.Levels.{both_at}
use Rattle.vole_extend.proofs.levels.masked_sums.Given as goal

abbrev pub invariant-loop-level : goal.invariant-loop-level
invariant-loop-level l = record {
  messages_are : l.messages.items
      ≡ map (λ level. masked_messages (both_at l.pads level) (get_or l.flips level false) (both_at l.sums level)) (range_with_len 0 l.level);
  count : l.messages.len ≡ l.level;
}
