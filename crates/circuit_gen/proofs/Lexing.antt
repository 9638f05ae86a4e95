-- The lexemes of a circuit's plain text.
use Rattle.std.proofs.Common.{◌≡◌, ℕ, ◌^◌, ◌<◌, Bool, true, false, List, [], ◌∷◌, ◌++◌, map, flat_map, length, codes, refl, ap, ◌∙◌, arith, append_assoc}
use Rattle.std.specs.Fmt.{decimal}
use Rattle.std.specs.List.{AllByRecursion}
use Rattle.std.proofs.lemmas.List.{map-append}
use Rattle.std.proofs.lemmas.List.Elements.{All-from_recursion}
use Rattle.zk_model.specs.Bits.{from_bit}
use Rattle.zk_model.specs.Bristol.{Lexeme, number, name, is_blank, tokens, lexeme, lexemes, gate_lexemes, circuit_lexemes}
use Rattle.zk_model.specs.Circuit.{Circuit, wire_set}
use Rattle.circuit_gen.specs.Generated.{line, gate_line, heading, plain_text}
use Rattle.zk_model.specs.declared.GateRow.{GateRow}
use Rattle.zk_model.specs.declared.GateRow.TheVariants.{And, Xor, Inv, Eqw, Eq}
use Rattle.text_tokens.proofs.Splitting.{tokens_blank, tokens_first}
use Rattle.circuit_gen.specs.Lines.{ReadsEarlier}
use Rattle.circuit_gen.proofs.Numbers.{IsToken, number_token, number_lexeme}

-- ---- lines

token_ended : (token rest : List ℕ) (blank : ℕ) → IsToken token → is_blank blank ≡ true → tokens (token ++ blank ∷ rest) ≡ token ∷ tokens rest
token_ended token rest blank is ends =
    tokens_first token (blank ∷ rest) is.some is.unbroken ends ∙ ap (λ l. token ∷ l) (tokens_blank blank rest ends)

line_tokens : (words : List (List ℕ)) (rest : List ℕ) → AllByRecursion IsToken words → tokens (line words ++ rest) ≡ words ++ tokens rest
line_tokens [] rest all = tokens_blank 10 rest refl
line_tokens (token ∷ []) rest all =
    ap tokens (append_assoc token (codes "\n") rest) ∙ token_ended token rest 10 all.0 refl
line_tokens (token ∷ next ∷ words) rest all =
    ap tokens (append_assoc token (codes " " ++ line (next ∷ words)) rest)
    ∙ token_ended token (line (next ∷ words) ++ rest) 32 all.0 refl
    ∙ ap (λ l. token ∷ l) (line_tokens (next ∷ words) rest all.1)

-- a line of tokens says their lexemes
line_lexemes : (words : List (List ℕ)) (says : List Lexeme) (rest : List ℕ) → AllByRecursion IsToken words → map lexeme words ≡ says
    → lexemes (line words ++ rest) ≡ says ++ lexemes rest
line_lexemes words says rest all same =
    ap (map lexeme) (line_tokens words rest all) ∙ map-append lexeme words (tokens rest) ∙ ap (λ l. l ++ lexemes rest) same

-- ---- gates

-- bytes that are written out are a token
written : (bytes : List ℕ) → 0 < length bytes → AllByRecursion (λ byte. is_blank byte ≡ false) bytes → IsToken bytes
written bytes some unbroken = record { some = some; unbroken = All-from_recursion (λ byte. is_blank byte ≡ false) bytes unbroken }

one_byte : (byte : ℕ) → is_blank byte ≡ false → IsToken (byte ∷ [])
one_byte byte no_blank = written (byte ∷ []) (omega arith) (no_blank, tt)

pair_lexemes : (word rest : List ℕ) (a b out : ℕ) → IsToken word → lexeme word ≡ name word → a < out → b < out → out < 2 ^ 64
    → lexemes (line (codes "2" ∷ codes "1" ∷ decimal a ∷ decimal b ∷ decimal out ∷ word ∷ []) ++ rest)
    ≡ (number 2 ∷ number 1 ∷ number a ∷ number b ∷ number out ∷ name word ∷ []) ++ lexemes rest
pair_lexemes word rest a b out is says first second fits =
    let first_fits : a < 2 ^ 64 = omega arith in
    let second_fits : b < 2 ^ 64 = omega arith in
    line_lexemes (codes "2" ∷ codes "1" ∷ decimal a ∷ decimal b ∷ decimal out ∷ word ∷ []) (number 2 ∷ number 1 ∷ number a ∷ number b ∷ number out ∷ name word ∷ []) rest
    (one_byte 50 refl, (one_byte 49 refl, (number_token a first_fits, (number_token b second_fits, (number_token out fits, (is, tt))))))
    (λ i. number 2 ∷ number 1 ∷ number_lexeme a first_fits i ∷ number_lexeme b second_fits i ∷ number_lexeme out fits i ∷ says i ∷ [])

single_lexemes : (word rest : List ℕ) (a out : ℕ) → IsToken word → lexeme word ≡ name word → a < 2 ^ 64 → out < 2 ^ 64
    → lexemes (line (codes "1" ∷ codes "1" ∷ decimal a ∷ decimal out ∷ word ∷ []) ++ rest)
    ≡ (number 1 ∷ number 1 ∷ number a ∷ number out ∷ name word ∷ []) ++ lexemes rest
single_lexemes word rest a out is says first fits =
    line_lexemes (codes "1" ∷ codes "1" ∷ decimal a ∷ decimal out ∷ word ∷ []) (number 1 ∷ number 1 ∷ number a ∷ number out ∷ name word ∷ []) rest
    (one_byte 49 refl, (one_byte 49 refl, (number_token a first, (number_token out fits, (is, tt)))))
    (λ i. number 1 ∷ number 1 ∷ number_lexeme a first i ∷ number_lexeme out fits i ∷ says i ∷ [])

bit_fits : (bit : Bool) → from_bit bit < 2 ^ 64
bit_fits true = omega arith
bit_fits false = omega arith

gate_line_lexemes : (gate : GateRow) (rest : List ℕ) → wire_set gate < 2 ^ 64 → ReadsEarlier gate → lexemes (gate_line gate ++ rest) ≡ gate_lexemes gate ++ lexemes rest
gate_line_lexemes (And a b out) rest fits reads =
    pair_lexemes (codes "AND") rest a b out (written (codes "AND") (omega arith) (refl, (refl, (refl, tt)))) refl reads.0 reads.1.0 fits
gate_line_lexemes (Xor a b out) rest fits reads =
    pair_lexemes (codes "XOR") rest a b out (written (codes "XOR") (omega arith) (refl, (refl, (refl, tt)))) refl reads.0 reads.1.0 fits
gate_line_lexemes (Inv a out) rest fits reads =
    single_lexemes (codes "INV") rest a out (written (codes "INV") (omega arith) (refl, (refl, (refl, tt)))) refl (omega (arith, reads.0)) fits
gate_line_lexemes (Eqw a out) rest fits reads =
    single_lexemes (codes "EQW") rest a out (written (codes "EQW") (omega arith) (refl, (refl, (refl, tt)))) refl (omega (arith, reads.0)) fits
gate_line_lexemes (Eq bit out) rest fits reads =
    single_lexemes (codes "EQ") rest (from_bit bit) out (written (codes "EQ") (omega arith) (refl, (refl, tt))) refl (bit_fits bit) fits

-- a gate whose wires are in its line as they are
abbrev pub IsWritten : GateRow → Type 0
IsWritten gate = (wire_set gate < 2 ^ 64) × ReadsEarlier gate

gates_lexemes : (gates : List GateRow) → AllByRecursion IsWritten gates → lexemes (flat_map gate_line gates) ≡ flat_map gate_lexemes gates
gates_lexemes [] all = refl
gates_lexemes (gate ∷ gates) all =
    gate_line_lexemes gate (flat_map gate_line gates) all.0.0 all.0.1 ∙ ap (λ l. gate_lexemes gate ++ l) (gates_lexemes gates all.1)

-- ---- the text

-- a circuit's plain text says it, its inputs as one value and its outputs as one
pub plain_lexemes : (circuit : Circuit) → length circuit.gates < 2 ^ 64 → circuit.wires < 2 ^ 64 → circuit.inputs < 2 ^ 64 → circuit.outputs < 2 ^ 64
    → AllByRecursion IsWritten circuit.gates
    → lexemes (plain_text circuit) ≡ circuit_lexemes circuit (record { inputs = circuit.inputs ∷ []; outputs = circuit.outputs ∷ [] })
unfolding heading
plain_lexemes circuit gates wires inputs outputs all =
    let first = decimal (length circuit.gates) ∷ decimal circuit.wires ∷ [] in
    let second = codes "1" ∷ decimal circuit.inputs ∷ [] in
    let third = codes "1" ∷ decimal circuit.outputs ∷ [] in
    let lines = flat_map gate_line circuit.gates in
    ap lexemes (append_assoc (line first ++ line second) (line third) lines ∙ append_assoc (line first) (line second) (line third ++ lines))
    ∙ line_lexemes first (number (length circuit.gates) ∷ number circuit.wires ∷ []) (line second ++ (line third ++ lines))
    (number_token (length circuit.gates) gates, (number_token circuit.wires wires, tt))
    (λ i. number_lexeme (length circuit.gates) gates i ∷ number_lexeme circuit.wires wires i ∷ [])
    ∙ ap (λ l. number (length circuit.gates) ∷ number circuit.wires ∷ l)
    (value_lexemes circuit.inputs (line third ++ lines) inputs
    ∙ ap (λ l. number 1 ∷ number circuit.inputs ∷ l) (value_lexemes circuit.outputs lines outputs ∙ ap (λ l. number 1 ∷ number circuit.outputs ∷ l) (gates_lexemes circuit.gates all)))
  where
    value_lexemes : (size : ℕ) (rest : List ℕ) → size < 2 ^ 64 → lexemes (line (codes "1" ∷ decimal size ∷ []) ++ rest) ≡ (number 1 ∷ number size ∷ []) ++ lexemes rest
    value_lexemes size rest fits =
        line_lexemes (codes "1" ∷ decimal size ∷ []) (number 1 ∷ number size ∷ []) rest (one_byte 49 refl, (number_token size fits, tt)) (λ i. number 1 ∷ number_lexeme size fits i ∷ [])
