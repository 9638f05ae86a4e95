-- The definitions, lowest first.
--
-- A list is read at a place by `slice_index`, `bit_of` and the like, which give a default (0, false, the zero pair) beyond
-- its end, as `take` and `drop` of more than there is give what there is. No statement rests on that: each relation that
-- reads lists has their lengths beside it (`IsWellFormed`, `IsProgram`, `IsStatement`, `IsProverFile`, `IsVerifierFile`,
-- `IsTranscript`), and places that are read lie within them.
pub mod Bits
pub mod Field
pub mod Polynomial
pub mod Circuit
pub mod Bristol
pub mod Program
pub mod Slots
pub mod Boolean
pub mod Mac
pub mod Bytes
pub mod Coins
pub mod Tree
pub mod Extension
pub mod Arithmetic
pub mod ArithTexts
pub mod ArithFaults
pub mod ArithProgram
pub mod Statement
pub mod Files
pub mod FileBytes
pub mod Transcript
pub mod Messages
pub mod Frames
pub mod Correlations
pub mod Replies
pub mod Check
pub mod View
pub mod Finding
pub mod Headline
pub mod HonestProver
pub mod ServedVerifier
pub mod BothEnds
pub mod Peers
pub mod Audit
