use Rattle.proof_frames.proofs.FrameLemmas.{length-elements}
use Rattle.proof_frames.proofs.encoding.encode_elements.Goals as goal

pub encode_all-requires-clause-sized : goal.encode_all-requires-clause-sized
encode_all-requires-clause-sized c = length-elements c.args.elements.now
