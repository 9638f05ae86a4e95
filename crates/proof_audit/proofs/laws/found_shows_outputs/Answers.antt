use Rattle.proof_audit.proofs.laws.found_shows_outputs.Goals as goal

pub returns : goal.returns
returns c claimed prover task log finding found =
    record { finding = finding; found = found.found; says = found.says }
