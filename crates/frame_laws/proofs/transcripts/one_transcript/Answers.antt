use Rattle.frame_laws.proofs.OneTranscript as law
use Rattle.frame_laws.proofs.transcripts.one_transcript.Goals as goal

pub returns : goal.returns
returns c = law.one_transcript
