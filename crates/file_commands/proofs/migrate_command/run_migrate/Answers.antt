use Rattle.std.proofs.Common.{inl, inr}
use Rattle.file_commands.proofs.MigrateOutcomes.{migrates}
use Rattle.file_commands.proofs.migrate_command.run_migrate.Goals as goal

pub returns-in-Ok : goal.returns-in-Ok
returns-in-Ok g c =
    migrates c.sound_is_migrated.ensures _ _ _ (inl (c.in-Ok.moved, c.in-Ok.ensures.migrated, c.say_moved.ensures)) c.in-Ok.ensures.kept

pub returns-in-Err : goal.returns-in-Err
returns-in-Err g c =
    migrates c.sound_is_migrated.ensures _ _ _
    (inr record { stop = c.in-Err.stop; cause = c.in-Err.ensures.stop; prints = c.say_stop.ensures }) c.in-Err.ensures.kept
