-- The commands as a table: which words a command takes, and how each is read.
use Rattle.std.specs.Prelude.{◌+◌, ℕ, List, [], ◌∷◌, map, Bool, Option, Some, None, slice_get, codes, find, if◌then◌else◌}
use Rattle.std.specs.Option.{option_map, option_and_then}
use Rattle.std.specs.Str.{bytes_eq}
use Rattle.std.specs.Borrow.{Bor}
use Rattle.zk_model.specs.declared.Side.{Side}
use Rattle.zk_model.specs.declared.Side.TheVariants.{Prover, Verifier}
use Rattle.command_words.specs.BitWords.{BitsAsk, bits_word_of}
use Rattle.command_words.specs.Numbers.{number_within}
use Rattle.command_words.specs.declared.table.Column.{Column as ColumnOf}
use Rattle.command_words.specs.declared.table.Name.{Name}
use Rattle.command_words.specs.declared.table.Name.TheVariants as n
use Rattle.command_words.specs.declared.table.Need.{Need as NeedOf}
use Rattle.command_words.specs.declared.table.Need.TheVariants.{Always, Optional, Default}
use Rattle.command_words.specs.declared.table.Row.{Row as RowOf}
use Rattle.command_words.specs.declared.table.WordKind.{WordKind}
use Rattle.command_words.specs.declared.table.WordKind.TheVariants as k
use Rattle.command_words.specs.declared.table.TheConstants.{REHEARSE, REHEARSE_ARITH, REHEARSE_POLY, EVAL, DEAL, SERVE, SERVE_MANY, SERVE_ARITH, SERVE_POLY, PROVE, PROVE_ARITH, PROVE_POLY, AUDIT, AUDIT_ARITH, MIGRATE, STATUS, NEW_NODE, BROKER, SERVE_NODE, NAMES}

-- ---- rows, with their texts as bytes

abbrev pub Column : Type 0
Column = ColumnOf (List ℕ)

abbrev pub Row : Type 0
Row = RowOf (List ℕ) (List Column) (List (List ℕ))

abbrev pub need_said : {T : Type 0} → (T → List ℕ) → NeedOf T → NeedOf (List ℕ)
need_said text Always = Always
need_said text Optional = Optional
need_said text (Default word) = Default (text word)

abbrev pub column_said : {T : Type 0} → (T → List ℕ) → ColumnOf T → Column
column_said text column = record { 0 = text column.0; 1 = column.1; 2 = need_said text column.2 }

abbrev pub row_said : {T C F : Type 0} → (T → List ℕ) → (C → List (ColumnOf T)) → (F → List T) → RowOf T C F → Row
row_said text columns flags row = record {
  name = text row.name;
  places = map (column_said text) (columns row.places);
  options = map (column_said text) (columns row.options);
  flags = map text (flags row.flags);
  help = text row.help;
}

abbrev pub column_at : ColumnOf (Bor (List ℕ)) → Column
column_at column = column_said (λ t. t.now) column

abbrev pub row_at : RowOf (Bor (List ℕ)) (Bor (List (ColumnOf (Bor (List ℕ))))) (Bor (List (Bor (List ℕ)))) → Row
row_at row = row_said (λ t. t.now) (λ c. c.now) (λ f. f.now) row

-- the row of a command
abbrev pub row_of : Name → Row
row_of n.Rehearse = row_said (λ t. t.now) (λ c. c.now) (λ f. f.now) REHEARSE
row_of n.RehearseArith = row_said (λ t. t.now) (λ c. c.now) (λ f. f.now) REHEARSE_ARITH
row_of n.RehearsePoly = row_said (λ t. t.now) (λ c. c.now) (λ f. f.now) REHEARSE_POLY
row_of n.Eval = row_said (λ t. t.now) (λ c. c.now) (λ f. f.now) EVAL
row_of n.Deal = row_said (λ t. t.now) (λ c. c.now) (λ f. f.now) DEAL
row_of n.Serve = row_said (λ t. t.now) (λ c. c.now) (λ f. f.now) SERVE
row_of n.ServeMany = row_said (λ t. t.now) (λ c. c.now) (λ f. f.now) SERVE_MANY
row_of n.ServeArith = row_said (λ t. t.now) (λ c. c.now) (λ f. f.now) SERVE_ARITH
row_of n.ServePoly = row_said (λ t. t.now) (λ c. c.now) (λ f. f.now) SERVE_POLY
row_of n.Prove = row_said (λ t. t.now) (λ c. c.now) (λ f. f.now) PROVE
row_of n.ProveArith = row_said (λ t. t.now) (λ c. c.now) (λ f. f.now) PROVE_ARITH
row_of n.ProvePoly = row_said (λ t. t.now) (λ c. c.now) (λ f. f.now) PROVE_POLY
row_of n.Audit = row_said (λ t. t.now) (λ c. c.now) (λ f. f.now) AUDIT
row_of n.AuditArith = row_said (λ t. t.now) (λ c. c.now) (λ f. f.now) AUDIT_ARITH
row_of n.Migrate = row_said (λ t. t.now) (λ c. c.now) (λ f. f.now) MIGRATE
row_of n.Status = row_said (λ t. t.now) (λ c. c.now) (λ f. f.now) STATUS
row_of n.Node = row_said (λ t. t.now) (λ c. c.now) (λ f. f.now) NEW_NODE
row_of n.Broker = row_said (λ t. t.now) (λ c. c.now) (λ f. f.now) BROKER
row_of n.ServeNode = row_said (λ t. t.now) (λ c. c.now) (λ f. f.now) SERVE_NODE

-- the command that a word names
unfoldable pub named : List ℕ → Option Name
named word = find (λ name. bytes_eq (row_of name).name word) NAMES.now

abbrev pub ids_of : List Column → List (List ℕ)
ids_of columns = map (λ c. c.0) columns

-- ---- the reading of a word

-- the side that a word names
abbrev pub side_of : List ℕ → Option Side
side_of word =
    if bytes_eq word (codes "prover") then Some Prover
    else if bytes_eq word (codes "verifier") then Some Verifier
    else None

-- what a word of a kind says
abbrev pub ValueOf : WordKind → Type 0
ValueOf k.Text = List ℕ
ValueOf k.Bits = BitsAsk
ValueOf k.Side = Side
ValueOf (k.Number low high) = ℕ

-- what it says, if it is valid
abbrev pub value_of : (kind : WordKind) → List ℕ → Option (ValueOf kind)
value_of k.Text word = Some word
value_of k.Bits word = bits_word_of word
value_of k.Side word = side_of word
value_of (k.Number low high) word = number_within low high word

-- what is read of a column
abbrev pub Read : WordKind → NeedOf (List ℕ) → Type 0
Read kind Always = ValueOf kind
Read kind Optional = Option (ValueOf kind)
Read kind (Default word) = ValueOf kind

-- a word that may be left out
abbrev pub read_optional : {A : Type 0} → (List ℕ → Option A) → Option (List ℕ) → Option (Option A)
read_optional value None = Some None
read_optional value (Some word) = option_map (λ v. Some v) (value word)

-- the word, or the one that stands for it where it is left out
abbrev pub word_or : List ℕ → Option (List ℕ) → Option (List ℕ)
word_or default None = Some default
word_or default (Some word) = Some word

-- what is read of a column whose word is this, if there is one
abbrev pub read : (kind : WordKind) → (need : NeedOf (List ℕ)) → Option (List ℕ) → Option (Read kind need)
read kind Always word = option_and_then (value_of kind) word
read kind Optional word = read_optional (value_of kind) word
read kind (Default default) word = option_and_then (value_of kind) (word_or default word)

-- ---- the reading of a row

-- what an id, or the name of an option, has
abbrev pub Given : Type 0
Given = List ℕ → Option (List ℕ)

-- a function from what is read of these columns, or of flags
abbrev pub FromColumns : List Column → Type 0 → Type 0
FromColumns [] X = X
FromColumns (column ∷ columns) X = Read column.1 column.2 → FromColumns columns X

abbrev pub FromFlags : List (List ℕ) → Type 0 → Type 0
FromFlags [] X = X
FromFlags (flag ∷ flags) X = Bool → FromFlags flags X

abbrev pub FromRow : Row → Type 0 → Type 0
FromRow row X = FromColumns row.places (FromColumns row.options (FromFlags row.flags X))

-- such a function of the words in places, the first of which has this index
abbrev pub from_places : {X : Type 0} → ℕ → (places : List Column) → FromColumns places X → List (List ℕ) → Option X
from_places i [] f words = Some f
from_places i (place ∷ places) f words =
    option_and_then (λ value. from_places (i + 1) places (f value) words) (read place.1 place.2 (slice_get words i))

-- of the words of options
abbrev pub from_options : {X : Type 0} → (options : List Column) → FromColumns options X → Given → Option X
from_options [] f given = Some f
from_options (option ∷ options) f given =
    option_and_then (λ value. from_options options (f value) given) (read option.1 option.2 (given option.0))

-- of which flags stand
abbrev pub from_flags : {X : Type 0} → (flags : List (List ℕ)) → FromFlags flags X → (List ℕ → Bool) → X
from_flags [] f stands = f
from_flags (flag ∷ flags) f stands = from_flags flags (f (stands flag)) stands

-- of all of them
abbrev pub from_row : {X : Type 0} → (row : Row) → FromRow row (Option X) → List (List ℕ) → Given → (List ℕ → Bool) → Option X
from_row row f words given stands =
    option_and_then (λ g. option_and_then (λ h. from_flags row.flags h stands) (from_options row.options g given))
    (from_places 0 row.places f words)
