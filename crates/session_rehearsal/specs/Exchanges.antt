-- What passes between both ends of a session, and the log of it.
use Rattle.std.specs.Prelude.{◌≡◌, ◌^◌, ◌*◌, ◌<◌, ◌≤◌, ℕ, List, ◌++◌, length, map, flat_map, All}
use Rattle.zk_model.specs.Field.{IsElement}
use Rattle.zk_model.specs.Frames.{frame_spelling}
use Rattle.zk_model.specs.Transcript.{bytes_from, hello_frame, grant_frame, corrections_frame, challenge_frame, sums_frame, openings_frame, verdict_frame}
use Rattle.zk_model.specs.View.{verdict_code, verdict_number}
use Rattle.zk_model.specs.declared.Side.{Side}
use Rattle.zk_model.specs.declared.Side.TheVariants.{Prover, Verifier}
use Rattle.proof_frames.specs.Frames.{frame_value, IsShort}
use Rattle.proof_frames.specs.declared.frame.Frame.{Frame}
use Rattle.session_rehearsal.specs.declared.exchange.SessionValues.{SessionValues}
use Rattle.zk_model.specs.declared.limits.TheConstants.{MAX_PAYLOAD}

-- asks and replies, one after another
abbrev pub round_log : List Frame → List Frame → List (Side × ℕ)
round_log asked replied =
    bytes_from Prover (flat_map frame_spelling (map frame_value asked))
    ++ bytes_from Verifier (flat_map frame_spelling (map frame_value replied))

-- no ask and no reply is longer than a frame may be
pub record AreShort (asked replied : List Frame) : Type 0 where
  pub asks : All IsShort (map frame_value asked)
  pub replies : All IsShort (map frame_value replied)

-- nor is what the prover sends after them
pub record IsShortExchange (e : SessionValues) : Type 0 where
  pub rounds : AreShort e.asked.items e.replied.items
  pub corrections : 8 * length e.corrections.items ≤ MAX_PAYLOAD
  pub sums : 16 * length e.opened.sums.items ≤ MAX_PAYLOAD
  pub openings : 8 * length e.opened.openings.items ≤ MAX_PAYLOAD

-- all that both ends say, one after another
abbrev pub log_of : SessionValues → List (Side × ℕ)
log_of e =
    bytes_from Prover (hello_frame e.hello)
    ++ bytes_from Verifier (grant_frame e.grant)
    ++ bytes_from Prover (flat_map frame_spelling (map frame_value e.asked.items))
    ++ bytes_from Verifier (flat_map frame_spelling (map frame_value e.replied.items))
    ++ bytes_from Prover (corrections_frame e.corrections.items)
    ++ bytes_from Verifier (challenge_frame e.challenge)
    ++ bytes_from Prover (sums_frame e.opened.sums.items)
    ++ bytes_from Prover (openings_frame e.opened.openings.items)
    ++ bytes_from Verifier (verdict_frame (verdict_code e.verdict) (verdict_number e.verdict))

-- this is the log of an exchange, whose numbers are in range
pub record IsExchangeNoted (e : SessionValues) (log : List (Side × ℕ)) : Type 0 where
  pub log_is : log ≡ log_of e
  pub corrections : All IsElement e.corrections.items
  pub challenge : IsElement e.challenge
  pub sums : All (λ both. IsElement both.0 × IsElement both.1) e.opened.sums.items
  pub openings : All IsElement e.opened.openings.items
  pub number : verdict_number e.verdict < 2 ^ 32
