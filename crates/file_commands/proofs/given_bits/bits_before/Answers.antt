use Rattle.std.proofs.Common.{◌≡◌, ◌++◌, false, true, length, rules, sym, subst}
use Rattle.file_commands.specs.BitsTexts.{is_end}
use Rattle.file_commands.specs.GivenBits.{IsCutText}
use Rattle.file_commands.proofs.BitsTexts.{cut, ended}
use Rattle.zk_model.specs.Bits.{digits_of}
use Rattle.file_commands.proofs.given_bits.bits_before.Goals as goal

pub returns-then-is_end : goal.returns-then-is_end
returns-then-is_end c =
    let is : is_end c.args.bits.items c.args.rest.now ≡ true = cc in
    ended c.args.bits.items c.args.rest.now is

pub returns-else-is_end : goal.returns-else-is_end
returns-else-is_end c =
    let is : is_end c.args.bits.items c.args.rest.now ≡ false = cc in
    let got : c.len.result ≡ length c.args.bits.items = search rules in
    subst (λ n. IsCutText (digits_of c.args.bits.items ++ c.args.rest.now) n) (sym got)
    (cut c.args.bits.items c.args.rest.now c.requires is)
