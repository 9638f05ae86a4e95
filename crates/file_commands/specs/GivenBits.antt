-- The bits that the words of a command give, which say them or name files that have them, and why they give none.
use Rattle.std.specs.Prelude.{◌≡◌, ◌⊎◌, ◌==◌, ◌||◌, ◌-◌, ℕ, List, [], ◌∷◌, ◌++◌, length, nat_le, Bool, if◌then◌else◌, Option}
use Rattle.std.specs.List.{prefix_len}
use Rattle.zk_model.specs.Circuit.{Circuit}
use Rattle.zk_port.specs.Files.{Files}
use Rattle.command_words.specs.BitWords.{Bits, BitsAsk, said, named, bits_word}
use Rattle.command_words.specs.Words.{Ask, rehearse_ask, eval_ask, serve_ask, serve_node_ask, prove_ask, audit_ask}
use Rattle.command_words.specs.declared.asks.Ask.TheVariants.{Rehearse as rehearse, Generate as generate, RehearseArith as rehearse_arith, RehearsePoly as rehearse_poly, Eval as eval, Deal as deal, Serve as serve, ServeMany as serve_many, ServeArith as serve_arith, ServePoly as serve_poly, Prove as prove, ProveArith as prove_arith, ProvePoly as prove_poly, Audit as audit, AuditArith as audit_arith, Migrate as migrate, Status as status, Node as node, Broker as broker, ServeNode as serve_node}
use Rattle.file_commands.specs.Effects.{ShelfChange}
use Rattle.file_commands.specs.Stops.{HasText, HasCircuit, LoadStop, CircuitStop}
use Rattle.file_commands.specs.declared.refusal.Refusal.{Refusal}
use Rattle.file_commands.specs.declared.refusal.Refusal.TheVariants as stop

-- ---- a file of bits

-- the digit 0 or 1
abbrev pub is_bit_digit : ℕ → Bool
is_bit_digit byte = byte == 48 || byte == 49

-- the text is the word of these bits, behind which a line feed may stand
abbrev pub IsBitsText : List ℕ → Bits → Type 0
IsBitsText text bits = (text ≡ bits_word bits) ⊎ (text ≡ bits_word bits ++ 10 ∷ [])

-- no bits have this text, in which so many digits stand before the first other byte
pub record IsCutText (text : List ℕ) (got : ℕ) : Type 0 where
  pub none : (bits : Bits) → ¬ IsBitsText text bits
  pub count : got ≡ prefix_len is_bit_digit text

-- ---- what is given

-- the word gives these bits: it says them, or, where a shelf tells, the file that it names has them
abbrev pub AreGiven : Option Files → BitsAsk → Bits → Type 0
AreGiven told (said bits) given = given ≡ bits
AreGiven told (named name) given = HasText told name (λ text. IsBitsText text given)

-- the same is asked for, with the bits that its words give
abbrev pub IsAskGiven : Option Files → Ask BitsAsk → Ask Bits → Type 0
IsAskGiven told (rehearse ask) given =
    (public : Bits) × (bits : Bits) × AreGiven told ask.public public × AreGiven told ask.bits bits
    × (given ≡ rehearse (rehearse_ask ask.circuit public bits ask.kind ask.section))
IsAskGiven told (generate ask) given = given ≡ generate ask
IsAskGiven told (rehearse_arith ask) given = given ≡ rehearse_arith ask
IsAskGiven told (rehearse_poly ask) given = given ≡ rehearse_poly ask
IsAskGiven told (eval ask) given =
    (bits : Bits) × AreGiven told ask.bits bits × (given ≡ eval (eval_ask ask.circuit bits))
IsAskGiven told (deal ask) given = given ≡ deal ask
IsAskGiven told (serve ask) given =
    (public : Bits) × (outputs : Bits) × AreGiven told ask.public public × AreGiven told ask.outputs outputs
    × (given ≡ serve (serve_ask ask.address ask.file ask.circuit public outputs ask.options))
IsAskGiven told (serve_many ask) given = given ≡ serve_many ask
IsAskGiven told (serve_arith ask) given = given ≡ serve_arith ask
IsAskGiven told (serve_poly ask) given = given ≡ serve_poly ask
IsAskGiven told (prove ask) given =
    (public : Bits) × (bits : Bits) × (outputs : Bits)
    × AreGiven told ask.public public × AreGiven told ask.bits bits × AreGiven told ask.outputs outputs
    × (given ≡ prove (prove_ask ask.address ask.file ask.circuit public bits outputs ask.timeout))
IsAskGiven told (prove_arith ask) given = given ≡ prove_arith ask
IsAskGiven told (prove_poly ask) given = given ≡ prove_poly ask
IsAskGiven told (audit ask) given =
    (public : Bits) × (outputs : Bits) × AreGiven told ask.public public × AreGiven told ask.outputs outputs
    × (given ≡ audit (audit_ask ask.circuit public outputs ask.prover ask.verifier ask.log))
IsAskGiven told (audit_arith ask) given = given ≡ audit_arith ask
IsAskGiven told (migrate ask) given = given ≡ migrate ask
IsAskGiven told (status ask) given = given ≡ status ask
IsAskGiven told (node ask) given = given ≡ node ask
IsAskGiven told (broker ask) given = given ≡ broker ask
IsAskGiven told (serve_node ask) given =
    (outputs : Bits) × AreGiven told ask.outputs outputs
    × (given ≡ serve_node (serve_node_ask ask.address ask.broker ask.file ask.circuit outputs ask.node ask.sessions ask.timeout ask.follow))

-- ---- why words give no bits

-- which bits of a circuit a word gives: the public ones, the private ones behind these public ones, or the outputs
pub data BitsOf : Type 0 where
  Public : BitsOf
  Private : Bits → BitsOf
  Outputs : BitsOf

-- that so many bits in place of those of the circuit do not fit
abbrev pub cut_refusal : Circuit → BitsOf → ℕ → Refusal
cut_refusal circuit Public got = stop.ManyPublic circuit.inputs got
cut_refusal circuit (Private public) got =
    if nat_le (length public) circuit.inputs then stop.WrongBits (circuit.inputs - length public) got
    else stop.ManyPublic circuit.inputs (length public)
cut_refusal circuit Outputs got = stop.WrongOutputs circuit.outputs got

-- why so many bits of the circuit under this name are refused: they do not fit it, or it can't be had
abbrev pub CutStop : List ℕ → BitsOf → ℕ → ShelfChange → Refusal → Type 0
CutStop circuit of got shelf stop =
    CircuitStop circuit shelf stop ⊎ HasCircuit shelf.old.told circuit (λ c. stop ≡ cut_refusal c of got)

-- why the file of this name gives no bits: it can't be loaded; or it has none, and what is before its first other byte is refused
abbrev pub BitsFileStop : List ℕ → BitsOf → List ℕ → ShelfChange → Refusal → Type 0
BitsFileStop circuit of name shelf stop =
    LoadStop name shelf stop
    ⊎ ((got : ℕ) × HasText shelf.old.told name (λ text. IsCutText text got) × CutStop circuit of got shelf stop)

-- why a word gives none
abbrev pub WordStop : List ℕ → BitsOf → BitsAsk → ShelfChange → Refusal → Type 0
WordStop circuit of (said bits) shelf stop = ⊥
WordStop circuit of (named name) shelf stop = BitsFileStop circuit of name shelf stop

-- why the first of two words that gives none does: that of public bits, or that of private ones behind them
abbrev pub InputsStop : List ℕ → BitsAsk → BitsAsk → ShelfChange → Refusal → Type 0
InputsStop circuit public bits shelf stop =
    WordStop circuit Public public shelf stop
    ⊎ ((given : Bits) × AreGiven shelf.old.told public given
    × WordStop circuit (Private given) bits shelf stop)

-- that of public bits, or that of outputs
abbrev pub ClaimedStop : List ℕ → BitsAsk → BitsAsk → ShelfChange → Refusal → Type 0
ClaimedStop circuit public outputs shelf stop =
    WordStop circuit Public public shelf stop
    ⊎ ((given : Bits) × AreGiven shelf.old.told public given
    × WordStop circuit Outputs outputs shelf stop)

-- why the first word of a command that gives none does: public bits come first, then private ones, then outputs
abbrev pub WordsStop : Ask BitsAsk → ShelfChange → Refusal → Type 0
WordsStop (rehearse ask) shelf stop = InputsStop ask.circuit ask.public ask.bits shelf stop
WordsStop (eval ask) shelf stop = WordStop ask.circuit (Private []) ask.bits shelf stop
WordsStop (serve ask) shelf stop = ClaimedStop ask.circuit ask.public ask.outputs shelf stop
WordsStop (prove ask) shelf stop =
    InputsStop ask.circuit ask.public ask.bits shelf stop
    ⊎ ((public : Bits) × (bits : Bits) × AreGiven shelf.old.told ask.public public
    × AreGiven shelf.old.told ask.bits bits
    × WordStop ask.circuit Outputs ask.outputs shelf stop)
WordsStop (audit ask) shelf stop = ClaimedStop ask.circuit ask.public ask.outputs shelf stop
WordsStop (serve_node ask) shelf stop = WordStop ask.circuit Outputs ask.outputs shelf stop
WordsStop other shelf stop = ⊥

-- that, or memory is missing
abbrev pub GivenStop : Ask BitsAsk → ShelfChange → Refusal → Type 0
GivenStop ask shelf why = (why ≡ stop.NoMemory) ⊎ WordsStop ask shelf why

-- ---- which files are loaded

-- the file that a word names, and the circuit's, by which a file is refused that has no bits
abbrev pub IsWordName : List ℕ → BitsAsk → List ℕ → Type 0
IsWordName circuit (said bits) name = ⊥
IsWordName circuit (named file) name = (name ≡ file) ⊎ (name ≡ circuit)

-- of the first or the second of two words
abbrev pub IsWordsName : List ℕ → BitsAsk → BitsAsk → List ℕ → Type 0
IsWordsName circuit first second name = IsWordName circuit first name ⊎ IsWordName circuit second name

-- of a command's words
abbrev pub IsGivenName : Ask BitsAsk → List ℕ → Type 0
IsGivenName (rehearse ask) name = IsWordsName ask.circuit ask.public ask.bits name
IsGivenName (eval ask) name = IsWordName ask.circuit ask.bits name
IsGivenName (serve ask) name = IsWordsName ask.circuit ask.public ask.outputs name
IsGivenName (prove ask) name =
    IsWordsName ask.circuit ask.public ask.bits name ⊎ IsWordName ask.circuit ask.outputs name
IsGivenName (audit ask) name = IsWordsName ask.circuit ask.public ask.outputs name
IsGivenName (serve_node ask) name = IsWordName ask.circuit ask.outputs name
IsGivenName other name = ⊥
