use Rattle.std.proofs.Common.{◌∙◌, None, ap, arith, sym}
use Rattle.std.specs.Option.{option_map}
use Rattle.std.proofs.lemmas.Str.Pattern.{strip_prefix_char}
use Rattle.command_words.specs.BitWords.{said}
use Rattle.command_words.proofs.SaidBits.{said_word}
use Rattle.command_words.proofs.bits.read_bits_word.Goals as goal

pub returns-in-None : goal.returns-in-None
returns-in-None c =
    sym (said_word c.args.word.now (strip_prefix_char 64 c.args.word.now None c.in_default.ensures.cases (omega arith))
    ∙ ap (option_map said) (sym c.in_ok-bits.ensures ∙ ap (option_map (λ bits. bits.items)) c.in-None.is))
