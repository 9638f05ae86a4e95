use Rattle.std.proofs.Common.{◌∙◌, arith}
use Rattle.statement_file.proofs.Reading.{room_left, no_room}
use Rattle.statement_file.proofs.reader.keep.Goals as goal

pub returns-in_ok-push : goal.returns-in_ok-push
returns-in_ok-push c = c.in_ok-push.ensures.items ∙ room_left c.args.claims.now.items c.args.claim (omega arith)

pub returns-else-len-lt-MOST_CLAIMS : goal.returns-else-len-lt-MOST_CLAIMS
returns-else-len-lt-MOST_CLAIMS c = no_room c.args.claims.now.items c.args.claim (omega arith) (omega arith)
