use Rattle.std.proofs.Common.{◌≡◌, subst}
use Rattle.zk_model.specs.declared.Side.{Side}
use Rattle.zk_model.specs.declared.Side.TheVariants.{Verifier}
use Rattle.dealer_files.specs.Faults.{IsFirstFileFault}
use Rattle.status_command.specs.StatusRuns.{side_in}
use Rattle.status_command.proofs.dealing.decode_told.Goals as goal

pub returns-in-Err-decode_verifier-clause-fault : goal.returns-in-Err-decode_verifier-clause-fault
returns-in-Err-decode_verifier-clause-fault c =
    let bytes = c.args.bytes.now in
    let is : Verifier ≡ side_in bytes = cc in
    subst (λ (side : Side). IsFirstFileFault side bytes c.in-Err-decode_verifier.fault) is c.in-Err-decode_verifier.ensures.fault
