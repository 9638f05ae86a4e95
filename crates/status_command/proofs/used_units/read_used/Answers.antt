use Rattle.status_command.proofs.used_units.read_used.Goals as goal

pub returns-in-Prover-clause-stop : goal.returns-in-Prover-clause-stop
returns-in-Prover-clause-stop g c = rw c.in-Prover.is c.claimed_units.ensures.stop

pub returns-in-Verifier-clause-stop : goal.returns-in-Verifier-clause-stop
returns-in-Verifier-clause-stop g c = rw c.in-Verifier.is c.leased_units.ensures.stop

pub returns-in-Node-clause-stop : goal.returns-in-Node-clause-stop
returns-in-Node-clause-stop g c = rw c.in-Node.is c.node_units.ensures.stop
