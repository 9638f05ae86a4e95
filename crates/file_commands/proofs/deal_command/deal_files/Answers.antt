use Rattle.frame_link.proofs.LineLemmas.{fails_at}
use Rattle.file_commands.proofs.DealOutcomes.{stores_dealt, stops_dealt}
use Rattle.file_commands.proofs.deal_command.deal_files.Goals as goal

pub returns-clause-stores : goal.returns-clause-stores
returns-clause-stores g c =
    stores_dealt _ _ _ _ _ c.in_ok-prover.ensures.prover c.in_ok-prover.ensures.verifier
    c.in_ok-store_dealt.ensures.stored c.in_ok-store_dealt.ensures.quiet

-- the files that are dealt are those of the seed
pub returns-in_err-store_dealt-clause-stop : goal.returns-in_err-store_dealt-clause-stop
returns-in_err-store_dealt-clause-stop g c =
    fails_at _ c.from_residual-in_err-store_dealt.result c.in_err-store_dealt.field-0.0 c.from_residual-in_err-store_dealt.ensures.1
    (stops_dealt _ _ _ _ _ c.in_err-store_dealt.field-0.0 c.in_ok-prover.ensures.prover c.in_ok-prover.ensures.verifier c.in_err-store_dealt.ensures.stop)
