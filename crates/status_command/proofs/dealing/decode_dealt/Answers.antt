use Rattle.status_command.proofs.dealing.decode_dealt.Goals as goal

pub returns-in-None-clause-fault : goal.returns-in-None-clause-fault
returns-in-None-clause-fault c = rw c.in-None.is c.decode_told.ensures.fault

pub returns-in-Err-clause-fault : goal.returns-in-Err-clause-fault
returns-in-Err-clause-fault c = rw c.in-Some.is c.in-Err.ensures.fault
