-- The places of both ends, as contracts see them.
use Rattle.wire_auth.specs.Held.{items_in}
use Rattle.round_fan.specs.Fans.{lists_of}
use Rattle.session_core.specs.Cores.{VerifierStage, awaits_hello, owes_grant, awaits_asks, awaits_corrections, awaits_sums, awaits_openings, has_judged, has_refused, ProverStage, awaits_grant, awaits_replies, awaits_challenge, awaits_verdict, has_ended}
use Rattle.session_core.specs.Jobs.{ProverJob, VerifierJob}
use Rattle.session_core.specs.Fixing.{IsFixedUnder, IsGrowing, HoldsKeys, pairs_fixed}
use Rattle.session_core.specs.declared.verifier_core.Stage as verifier
use Rattle.session_core.specs.declared.verifier_core.Stage.TheVariants as at
use Rattle.session_core.specs.declared.prover_core.Stage as prover
use Rattle.session_core.specs.declared.prover_core.Stage.TheVariants as in_turn

-- what a verifier waits for
abbrev pub verifier_stage : verifier.Stage → VerifierStage
verifier_stage at.Hello = awaits_hello
verifier_stage at.Grant = owes_grant
verifier_stage (at.Asks start asked) = awaits_asks start (lists_of asked.items)
verifier_stage (at.Corrections start keys) = awaits_corrections start
verifier_stage (at.Sums start keys corrections) = awaits_sums start corrections.items
verifier_stage (at.Openings start keys corrections sums) = awaits_openings start corrections.items sums.items
verifier_stage (at.Judged start judgement) = has_judged start judgement
verifier_stage at.Refused = has_refused

-- what it keeps after the asks are the keys of its grant
abbrev pub HoldsKeysAt : VerifierJob → verifier.Stage → Type 0
HoldsKeysAt job at.Hello = Unit {0}
HoldsKeysAt job at.Grant = Unit {0}
HoldsKeysAt job (at.Asks start asked) = Unit {0}
HoldsKeysAt job (at.Corrections start keys) = HoldsKeys job start (items_in keys)
HoldsKeysAt job (at.Sums start keys corrections) = HoldsKeys job start (items_in keys)
HoldsKeysAt job (at.Openings start keys corrections sums) = HoldsKeys job start (items_in keys)
HoldsKeysAt job (at.Judged start judgement) = Unit {0}
HoldsKeysAt job at.Refused = Unit {0}

-- what a prover waits for
abbrev pub prover_stage : ProverJob → prover.Stage → ProverStage
prover_stage job in_turn.Grant = awaits_grant
prover_stage job (in_turn.Replies grant came) = awaits_replies grant (lists_of came.items)
prover_stage job (in_turn.Challenge grant pairs) =
    awaits_challenge grant (items_in pairs) (pairs_fixed job (items_in pairs))
prover_stage job in_turn.Verdict = awaits_verdict
prover_stage job in_turn.Ended = has_ended

-- what it has fixed is that of its grant
abbrev pub IsHeldAt : ProverJob → prover.Stage → Type 0
IsHeldAt job in_turn.Grant = Unit {0}
IsHeldAt job (in_turn.Replies grant came) = IsGrowing job grant (lists_of came.items)
IsHeldAt job (in_turn.Challenge grant pairs) = IsFixedUnder job grant (items_in pairs)
IsHeldAt job in_turn.Verdict = Unit {0}
IsHeldAt job in_turn.Ended = Unit {0}
