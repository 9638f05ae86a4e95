use Rattle.std.proofs.Common.{◌∷◌, ℕ, List, ap, ◌∙◌, lit<}
use Rattle.statement_file.specs.Claims.{claim_in, words_of}
use Rattle.statement_file.proofs.Lines.{first_word, more_words, one_word, too_many}
use Rattle.statement_file.proofs.reader.three_words.Goals as goal

pub returns-in_err-circuit-clause-other : goal.returns-in_err-circuit-clause-other
returns-in_err-circuit-clause-other c =
    rw c.from_residual.ensures (ap claim_in (one_word c.args.line.now (c.in_err-circuit.ensures.byte (lit< tt) (λ w o h. h))))

pub returns-in_err-public-clause-other : goal.returns-in_err-public-clause-other
returns-in_err-public-clause-other c =
    let first = c.in_ok-circuit.ensures.byte (lit< tt) (λ w o h. h) in
    let rest : List ℕ = c.in_ok-circuit.rest.now in
    rw c.from_residual-in_err-public.ensures
    (ap claim_in (first_word c.args.line.now c.in_ok-circuit.circuit.now rest first.2 first.0 first.1
    ∙ ap (λ words. c.in_ok-circuit.circuit.now ∷ words) (one_word rest (c.in_err-public.ensures.byte (lit< tt) (λ w o h. h)))))

pub returns-in-None-clause-words : goal.returns-in-None-clause-words
returns-in-None-clause-words c =
    let first = c.in_ok-circuit.ensures.byte (lit< tt) (λ w o h. h) in
    let second = c.in_ok-public.ensures.byte (lit< tt) (λ w o h. h) in
    first_word c.args.line.now c.in_ok-circuit.circuit.now c.in_ok-circuit.rest.now first.2 first.0 first.1
    ∙ ap (λ words. c.in_ok-circuit.circuit.now ∷ words)
    (first_word c.in_ok-circuit.rest.now c.in_ok-public.public.now c.in_ok-public.outputs.now second.2 second.0 second.1)
    ∙ ap (λ words. c.in_ok-circuit.circuit.now ∷ c.in_ok-public.public.now ∷ words)
    (one_word c.in_ok-public.outputs.now (c.in-None.ensures.byte (lit< tt) (λ w o h. h)))

pub returns-in-Some-clause-other : goal.returns-in-Some-clause-other
returns-in-Some-clause-other c =
    let first = c.in_ok-circuit.ensures.byte (lit< tt) (λ w o h. h) in
    let second = c.in_ok-public.ensures.byte (lit< tt) (λ w o h. h) in
    let third = c.in-Some.ensures.byte (lit< tt) (λ w o h. h) in
    let behind : List ℕ = c.in-Some.field-0.1.now in
    ap claim_in (first_word c.args.line.now c.in_ok-circuit.circuit.now c.in_ok-circuit.rest.now first.2 first.0 first.1
    ∙ ap (λ words. c.in_ok-circuit.circuit.now ∷ words)
    (first_word c.in_ok-circuit.rest.now c.in_ok-public.public.now c.in_ok-public.outputs.now second.2 second.0 second.1)
    ∙ ap (λ words. c.in_ok-circuit.circuit.now ∷ c.in_ok-public.public.now ∷ words)
    (first_word c.in_ok-public.outputs.now c.in-Some.field-0.0.now behind third.2 third.0 third.1))
    ∙ too_many c.in_ok-circuit.circuit.now c.in_ok-public.public.now c.in-Some.field-0.0.now (words_of behind) (more_words behind)
