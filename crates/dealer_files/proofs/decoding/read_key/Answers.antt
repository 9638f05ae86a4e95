use Rattle.std.proofs.Common.{rules, sym, subst}
use Rattle.zk_model.specs.declared.Side.TheVariants.{Verifier}
use Rattle.dealer_files.specs.Faults.{IsFirstFileFault}
use Rattle.dealer_files.proofs.ReadBlocks.{verifier_key_first}
use Rattle.dealer_files.proofs.decoding.read_key.Goals as goal

pub returns-in_err-key-clause-fault : goal.returns-in_err-key-clause-fault
returns-in_err-key-clause-fault c =
    let is = subst (IsFirstFileFault Verifier c.args.bytes.now) (sym c.in_err-key.ensures.fault) (c.requires, verifier_key_first c.args.bytes.now c.in_err-key.ensures.bad) in
    search (rules, is)
