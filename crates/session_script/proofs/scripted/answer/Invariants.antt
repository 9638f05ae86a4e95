use Rattle.std.proofs.Common.{◌≡◌, ◌≤◌, map, All}
use Rattle.proof_frames.specs.Frames.{frame_value, IsShort}
use Rattle.proof_frames.specs.Readings.{IsShortPlace}
use Rattle.session_script.specs.Scripts.{Passes, Says, stage_of, weight}
use Rattle.session_script.proofs.scripted.answer.Given as goal

abbrev pub invariant-says : goal.invariant-says
invariant-says g l = record {
  passed : Passes (g.V.Voice.rules (g.V.Voice.task l.fn.voice)) (stage_of (g.V.Voice.known l.fn.voice l.fn.asked) l.fn.left.items) (map frame_value l.frames.items)
      (stage_of (g.V.Voice.known l.voice l.asked) l.left.items);
  own : Says g.V.Voice.side (map frame_value l.frames.items);
  shorts : All IsShort (map frame_value l.frames.items);
  task : g.V.Voice.task l.voice ≡ g.V.Voice.task l.fn.voice;
  short : All IsShortPlace l.left.items;
  few : weight l.left.items ≤ weight l.fn.left.items;
  side : l.side ≡ g.V.Voice.side;
}

abbrev pub decreases-says : goal.decreases-says
decreases-says g l = weight l.left.items
