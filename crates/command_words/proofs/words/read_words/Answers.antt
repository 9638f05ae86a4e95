use Rattle.std.proofs.Common.{◌∙◌, sym}
use Rattle.command_words.specs.Words.{texts}
use Rattle.command_words.proofs.Named.{alike_read, begins_so, named_read, nothing_read}
use Rattle.command_words.proofs.words.read_words.Goals as goal

pub returns-in-Some-clause-asked : goal.returns-in-Some-clause-asked
returns-in-Some-clause-asked c =
    named_read c.in-Some.name c.as_str.result.now (sym c.named.ensures ∙ c.in-Some.is) (texts c.args.words.now)
    (begins_so c.args.words.now c.first-item.result c.as_str.result.now c.in-len1-up.len_at_least c.first-item.is c.as_str.ensures.value) c.read_command.result c.read_command.ensures.read

pub returns-in-Some-clause-alike : goal.returns-in-Some-clause-alike
returns-in-Some-clause-alike c =
    alike_read c.in-Some.name c.as_str.result.now (sym c.named.ensures ∙ c.in-Some.is) (texts c.args.words.now)
    (begins_so c.args.words.now c.first-item.result c.as_str.result.now c.in-len1-up.len_at_least c.first-item.is c.as_str.ensures.value) c.read_command.result c.read_command.ensures.read

pub returns-in-None-clause-asked : goal.returns-in-None-clause-asked
returns-in-None-clause-asked c =
    nothing_read (texts c.args.words.now) c.as_str.result.now
    (begins_so c.args.words.now c.first-item.result c.as_str.result.now c.in-len1-up.len_at_least c.first-item.is c.as_str.ensures.value) (sym c.named.ensures ∙ c.in-None.is)
