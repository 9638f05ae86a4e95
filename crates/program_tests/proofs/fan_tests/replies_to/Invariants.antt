use Rattle.std.proofs.Common.{◌≡◌, length, All}
use Rattle.zk_model.specs.Frames.{AreReplies}
use Rattle.round_fan.specs.Fans.{lists_of}
use Rattle.program_tests.proofs.fan_tests.replies_to.Given as goal

abbrev pub invariant-loop-unit : goal.invariant-loop-unit
invariant-loop-unit l = record {
  count : length l.replies.items ≡ l.unit;
  fits : All (AreReplies l.file.params.height l.file.params.trees) (lists_of l.replies.items);
}
