use Rattle.zk_port.proofs.Torn.{torn_by_nothing}
use Rattle.port_os.proofs.file_disk.FileDiskDisk.write_at.Goals as goal

pub returns-in-Ok-clause-crash : goal.returns-in-Ok-clause-crash
returns-in-Ok-clause-crash g c = λ image left. (image, tt, torn_by_nothing _ _ image)

pub returns-in-Err-clause-crash : goal.returns-in-Err-clause-crash
returns-in-Err-clause-crash g c = λ image left. (image, tt, torn_by_nothing _ _ image)
