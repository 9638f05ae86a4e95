use Rattle.std.proofs.Common.{inr}
use Rattle.file_commands.proofs.DealOutcomes.{deals, says_dealt}
use Rattle.file_commands.proofs.deal_command.run_deal.Goals as goal

pub returns-in-Ok : goal.returns-in-Ok
returns-in-Ok g c =
    deals _ _ _ (says_dealt _ _ _ _ c.in-Ok.ensures.prover c.in-Ok.ensures.stores c.say_dealt.ensures) c.in-Ok.ensures.kept

pub returns-in-Err : goal.returns-in-Err
returns-in-Err g c =
    deals _ _ _ (inr record { stop = c.in-Err.stop; cause = c.in-Err.ensures.stop; prints = c.say_stop.ensures }) c.in-Err.ensures.kept
