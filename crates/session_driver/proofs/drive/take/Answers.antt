use Rattle.frame_link.specs.declared.fault.LineFault.TheVariants.{NoMemory}
use Rattle.frame_link.proofs.LineLemmas.{fails_at}
use Rattle.session_driver.proofs.Going.{lacks_room}
use Rattle.session_driver.proofs.drive.take.Goals as goal

pub returns-in_err-keep_room-clause-fails : goal.returns-in_err-keep_room-clause-fails
returns-in_err-keep_room-clause-fails g c =
    fails_at _ c.from_residual.result NoMemory c.from_residual.ensures.1
    (lacks_room c.args.place c.args.line.now c.keep_room.new.line c.in_err-keep_room.ensures.refused)
