use Rattle.proof_frames.proofs.FrameLemmas.{length-sums}
use Rattle.proof_frames.proofs.encoding.encode_sums.Goals as goal

pub encode_all-requires-clause-sized : goal.encode_all-requires-clause-sized
encode_all-requires-clause-sized c = length-sums c.args.sums.now
