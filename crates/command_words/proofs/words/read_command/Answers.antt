use Rattle.command_words.specs.Rows.{row_at}
use Rattle.command_words.specs.Words.{texts}
use Rattle.command_words.proofs.ReadBy.{from_found, from_none}
use Rattle.command_words.proofs.words.read_command.Goals as goal

pub returns-in_default-clause-read : goal.returns-in_default-clause-read
returns-in_default-clause-read c =
    from_none c.args.name (texts c.args.words.now) (row_at c.row-row.result) c.in_ok-found.field-0 c.row-row.ensures c.in_default.is c.in_ok-found.ensures.found

pub returns-in-Ok-clause-read : goal.returns-in-Ok-clause-read
returns-in-Ok-clause-read c =
    from_found c.args.name (texts c.args.words.now) (row_at c.row-row.result) c.in_ok-found.field-0 c.in-Some.found _ c.row-row.ensures c.in-Some.is
    c.in_ok-found.ensures.found c.in_ok-found.ensures.positional c.in-Ok.ensures.asked

pub returns-in-Err-Invalid-clause-read : goal.returns-in-Err-Invalid-clause-read
returns-in-Err-Invalid-clause-read c =
    from_found c.args.name (texts c.args.words.now) (row_at c.row-row.result) c.in_ok-found.field-0 c.in-Some.found _ c.row-row.ensures c.in-Some.is
    c.in_ok-found.ensures.found c.in_ok-found.ensures.positional (c.in-Err-Invalid.ensures.asked c.in-Err-Invalid.field-0-is)
