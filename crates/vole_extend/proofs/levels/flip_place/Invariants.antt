use Rattle.std.proofs.Common.{◌≡◌, ◌<◌, ◌^◌, not, map}
use Rattle.std.specs.List.{range_with_len}
use Rattle.zk_model.specs.Extension.{place_of}
use Rattle.vole_extend.specs.Levels.{flip_choice}
use Rattle.vole_extend.proofs.levels.flip_place.Given as goal

abbrev pub invariant-loop-level : goal.invariant-loop-level
invariant-loop-level l = record {
  place_is : l.place ≡ place_of (map (λ level. not (flip_choice l.transfers l.flips level)) (range_with_len 0 l.level));
  inside : l.place < 2 ^ l.level;
}
