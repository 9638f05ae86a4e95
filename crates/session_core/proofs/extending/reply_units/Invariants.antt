use Rattle.std.proofs.Common.{◌≡◌, ◌*◌, ◌+◌, [], length, map, flat_map}
use Rattle.std.specs.Prelude.{slice_index_or}
use Rattle.std.specs.List.{range_with_len}
use Rattle.zk_model.specs.Files.{correlations_per_unit}
use Rattle.zk_model.specs.Correlations.{unit_keys}
use Rattle.zk_model.specs.Replies.{unit_reply}
use Rattle.zk_model.specs.Frames as model
use Rattle.proof_frames.specs.Frames.{frame_value}
use Rattle.session_core.specs.Extending.{asks_of}
use Rattle.session_core.proofs.extending.reply_units.Given as goal

-- the replies to the asks of the first units, and their keys
abbrev pub invariant-loop-i : goal.invariant-loop-i
invariant-loop-i l =
    (map frame_value l.replies.items
    ≡ map (λ k. model.replies (unit_reply l.fn.file (l.fn.grant.start + k) (slice_index_or (asks_of l.fn.asked) k []))) (range_with_len 0 l.i))
    × (l.keys.items ≡ flat_map (unit_keys l.fn.file) (range_with_len l.fn.grant.start l.i))
    × (length l.keys.items ≡ l.i * correlations_per_unit l.fn.file.params)
