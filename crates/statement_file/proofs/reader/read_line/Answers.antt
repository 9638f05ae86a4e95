use Rattle.std.proofs.Common.{rules, string_bytes, ◌≡◌, ◌∷◌, ℕ, List, [], ap, sym, ◌∙◌, Some}
use Rattle.command_words.specs.BitWords.{bits_of}
use Rattle.statement_file.specs.Claims.{NamedClaim, named_claim, words_of}
use Rattle.statement_file.proofs.Lines.{names_none, names_claim}
use Rattle.statement_file.proofs.reader.read_line.Goals as goal

pub returns-in_default : goal.returns-in_default
returns-in_default c = names_none c.args.line.now c.in_default.ensures.cases.0

pub returns : goal.returns
returns c =
    let first : bits_of c.in-Some.public.now ≡ Some c.in-Some-2.public.items = search rules in
    let second : bits_of c.in-Some.outputs.now ≡ Some c.in-Some-3.outputs.items = search rules in
    let name : string_bytes c.in_ok-circuit.circuit ≡ c.in-Some.circuit.now = c.in_ok-circuit.ensures.ok in
    let words : words_of c.args.line.now ≡ c.in-Some.circuit.now ∷ c.in-Some.public.now ∷ c.in-Some.outputs.now ∷ [] =
    ap words_of (sym c.in-Ok.ensures.cases.0) ∙ c.in-Some.ensures.words in
    ap (λ (n : NamedClaim). Some n) (c.new.ensures ∙ ap (λ (n : List ℕ). named_claim n c.in-Some-2.public.items c.in-Some-3.outputs.items) name)
    ∙ names_claim c.args.line.now c.in-Some.circuit.now c.in-Some.public.now c.in-Some.outputs.now c.in-Some-2.public.items c.in-Some-3.outputs.items
    c.in-Ok.ensures.cases.1 words (sym c.is_empty.ensures ∙ c.if-is_empty.false) first second
