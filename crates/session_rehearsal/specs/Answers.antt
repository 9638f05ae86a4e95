-- What both ends have said once the prover has answered the challenge.
use Rattle.std.specs.Prelude.{◌≡◌, ℕ, List, [], length, drop}
use Rattle.zk_model.specs.Mac.{Pair, macs_of}
use Rattle.zk_model.specs.Program.{section_count}
use Rattle.zk_model.specs.Check.{WirePairs, all_sums, opened_pairs}
use Rattle.zk_model.specs.Transcript.{wanted_hello}
use Rattle.zk_model.specs.ServedVerifier.{challenge_coin}
use Rattle.zk_model.specs.Transcript.{Grant}
use Rattle.session_core.specs.declared.prover_job.Opened.{Opened}
use Rattle.session_core.specs.Ends.{IsFixed}
use Rattle.session_core.specs.Fixing.{pairs_fixed}
use Rattle.session_core.specs.Judgements.{AreLeftSides}
use Rattle.session_core.specs.Jobs.{ProverJob, VerifierJob, granted_from}
use Rattle.session_rehearsal.specs.Exchanges.{AreShort, round_log}
use Rattle.session_rehearsal.specs.Holding.{HoldsRounds}
use Rattle.session_rehearsal.specs.declared.exchange.OpenedSession.{OpenedSession}

-- an honest prover has answered, over rounds that the verifier serves, the grant from the first unit on and its challenge
pub record IsAnswered (prover : ProverJob) (job : VerifierJob) (a : OpenedSession) : Type 0 where
  pub hello : a.hello ≡ wanted_hello prover.file.id prover.statement
  pub grant : a.grant ≡ granted_from job 0
  pub seen : List Pair
  pub held : HoldsRounds prover.file job.task.file a.grant seen [] (round_log a.asked.items a.replied.items)
  pub wires : WirePairs
  pub fixed : IsFixed prover.statement prover.given seen a.corrections.items wires
  pub challenge : a.challenge ≡ challenge_coin job.task.file 0
  pub sums : a.opened.sums.items ≡ all_sums prover.statement.program a.grant.section_length a.challenge wires
      (drop prover.statement.program.givens seen)
  pub openings : a.opened.openings.items ≡ macs_of (opened_pairs prover.statement.program wires)

-- there is as much of each as the verifier's job wants
pub record IsCounted (job : VerifierJob) (a : OpenedSession) : Type 0 where
  pub rounds : AreShort a.asked.items a.replied.items
  pub left_sides : AreLeftSides job 0 a.corrections.items a.left_sides
  pub corrections : length a.corrections.items ≡ job.task.statement.program.givens
  pub sums : length a.opened.sums.items ≡ section_count job.task.statement.program job.section_length
  pub openings : length a.opened.openings.items ≡ length job.task.statement.program.opened

-- what a prover answers a challenge by
pub record IsOpened (prover : ProverJob) (grant : Grant) (pairs : List Pair) (challenge : ℕ) (o : Opened) : Type 0 where
  pub sums : o.sums.items ≡ all_sums prover.statement.program grant.section_length challenge (pairs_fixed prover pairs) (drop prover.statement.program.givens pairs)
  pub openings : o.openings.items ≡ macs_of (opened_pairs prover.statement.program (pairs_fixed prover pairs))
  pub sum_count : length o.sums.items ≡ section_count prover.statement.program grant.section_length
  pub opening_count : length o.openings.items ≡ length prover.statement.program.opened
