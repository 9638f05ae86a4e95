use Rattle.std.proofs.Common.{◌∙◌, sym}
use Rattle.command_words.proofs.Named.{help_of_name}
use Rattle.command_words.proofs.help.help_text.Goals as goal

pub returns-in-len2-clause-valid : goal.returns-in-len2-clause-valid
returns-in-len2-clause-valid c =
    help_of_name c.args.words.now c.word-item-then-words-lt3.result c.as_str.result.now c.command_help.result c.in-len2.len_at_least c.in-len2.len_below
    c.word-item-then-words-lt3.is c.as_str.ensures.value (sym c.eq.ensures ∙ c.if-eq.true)
