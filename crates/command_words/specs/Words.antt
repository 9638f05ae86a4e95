-- What the words of a command line ask for.
use Rattle.std.specs.Prelude.{◌≡◌, ◌&&◌, nat_le, ℕ, List, [], ◌∷◌, ◌++◌, length, map, Bool, if◌then◌else◌, Option, Some, None, String, string_bytes}
use Rattle.std.specs.Option.{option_map, option_and_then, is_some}
use Rattle.std.specs.List.{list_any}
use Rattle.std.specs.Str.{bytes_eq}
use Rattle.std.specs.declared.alloc.Global.{Global}
use Rattle.dealer_files.specs.FileFaults.{file_length}
use Rattle.zk_model.specs.declared.Kind.{Kind}
use Rattle.zk_model.specs.declared.Kind.TheVariants.{Direct, Extended}
use Rattle.zk_model.specs.declared.Params.{Params}
use Rattle.zk_model.specs.declared.Side.{Side}
use Rattle.zk_model.specs.declared.Side.TheVariants.{Prover, Verifier}
use Rattle.zk_model.specs.declared.limits.TheConstants.{FILE_LIMIT}
use Rattle.command_words.specs.Arguments.{Parts, arranged, option_named, stand_once, Word}
use Rattle.command_words.specs.BitWords.{BitsAsk, said}
use Rattle.command_words.specs.Rows.{FromRow, Row, from_row, ids_of, named, row_of}
use Rattle.command_words.specs.declared.asks.Ask.{Ask as AskOf}
use Rattle.command_words.specs.declared.asks.Ask.TheVariants as a
use Rattle.command_words.specs.declared.asks.RehearseAsk.{RehearseAsk as RehearseAskOf}
pub use Rattle.command_words.specs.declared.asks.GenerateAsk.{GenerateAsk}
use Rattle.command_words.specs.declared.asks.RehearseArithAsk.{RehearseArithAsk as RehearseArithAskOf}
use Rattle.command_words.specs.declared.asks.RehearsePolyAsk.{RehearsePolyAsk as RehearsePolyAskOf}
use Rattle.command_words.specs.declared.asks.EvalAsk.{EvalAsk as EvalAskOf}
use Rattle.command_words.specs.declared.asks.DealAsk.{DealAsk as DealAskOf}
use Rattle.command_words.specs.declared.asks.ServeAsk.{ServeAsk as ServeAskOf}
use Rattle.command_words.specs.declared.asks.ServeManyAsk.{ServeManyAsk as ServeManyAskOf}
use Rattle.command_words.specs.declared.asks.ServeArithAsk.{ServeArithAsk as ServeArithAskOf}
use Rattle.command_words.specs.declared.asks.ServePolyAsk.{ServePolyAsk as ServePolyAskOf}
use Rattle.command_words.specs.declared.asks.ServeOptions.{ServeOptions as ServeOptionsOf}
use Rattle.command_words.specs.declared.asks.ProveAsk.{ProveAsk as ProveAskOf}
use Rattle.command_words.specs.declared.asks.ProveArithAsk.{ProveArithAsk as ProveArithAskOf}
use Rattle.command_words.specs.declared.asks.ProvePolyAsk.{ProvePolyAsk as ProvePolyAskOf}
use Rattle.command_words.specs.declared.asks.AuditAsk.{AuditAsk as AuditAskOf}
use Rattle.command_words.specs.declared.asks.AuditArithAsk.{AuditArithAsk as AuditArithAskOf}
use Rattle.command_words.specs.declared.asks.MigrateAsk.{MigrateAsk as MigrateAskOf}
use Rattle.command_words.specs.declared.asks.StatusAsk.{StatusAsk as StatusAskOf}
use Rattle.command_words.specs.declared.asks.NodeAsk.{NodeAsk as NodeAskOf}
use Rattle.command_words.specs.declared.asks.BrokerAsk.{BrokerAsk as BrokerAskOf}
use Rattle.command_words.specs.declared.asks.ServeNodeAsk.{ServeNodeAsk as ServeNodeAskOf}
use Rattle.command_words.specs.declared.table.Name.{Name}
use Rattle.command_words.specs.declared.table.Name.TheVariants as n

-- the words as their bytes
abbrev pub texts : List (String Global) → List (List ℕ)
texts words = map (λ w. string_bytes w) words

-- ---- what can be asked for, by how bits are given

abbrev pub Ask : Type 0 → Type 0
Ask B = AskOf (List ℕ) B

abbrev pub RehearseAsk : Type 0 → Type 0
RehearseAsk B = RehearseAskOf (List ℕ) B

abbrev pub rehearse_ask : {B : Type 0} → List ℕ → B → B → Kind → ℕ → RehearseAsk B
rehearse_ask circuit public bits kind section =
    record { circuit = circuit; public = public; bits = bits; kind = kind; section = section }

abbrev pub generate_ask : ℕ → ℕ → Kind → ℕ → GenerateAsk
generate_ask gates number kind section = record { gates = gates; number = number; kind = kind; section = section }

abbrev pub RehearseArithAsk : Type 0
RehearseArithAsk = RehearseArithAskOf (List ℕ)

abbrev pub rehearse_arith_ask : List ℕ → List ℕ → Kind → ℕ → RehearseArithAsk
rehearse_arith_ask circuit values kind section =
    record { circuit = circuit; values = values; kind = kind; section = section }

abbrev pub RehearsePolyAsk : Type 0
RehearsePolyAsk = RehearsePolyAskOf (List ℕ)

abbrev pub rehearse_poly_ask : List ℕ → List ℕ → Kind → ℕ → RehearsePolyAsk
rehearse_poly_ask text values kind section = record { text = text; values = values; kind = kind; section = section }

abbrev pub EvalAsk : Type 0 → Type 0
EvalAsk B = EvalAskOf (List ℕ) B

abbrev pub eval_ask : {B : Type 0} → List ℕ → B → EvalAsk B
eval_ask circuit bits = record { circuit = circuit; bits = bits }

abbrev pub DealAsk : Type 0
DealAsk = DealAskOf (List ℕ)

abbrev pub deal_ask : List ℕ → Params → DealAsk
deal_ask name params = record { name = name; params = params }

abbrev pub ServeOptions : Type 0
ServeOptions = ServeOptionsOf (List ℕ)

abbrev pub serve_options : ℕ → ℕ → ℕ → ℕ → Option (List ℕ) → Bool → ServeOptions
serve_options sessions workers section timeout logs follow =
    record { sessions = sessions; workers = workers; section = section; timeout = timeout; logs = logs; follow = follow }

abbrev pub ServeAsk : Type 0 → Type 0
ServeAsk B = ServeAskOf (List ℕ) B

abbrev pub serve_ask : {B : Type 0} → List ℕ → List ℕ → List ℕ → B → B → ServeOptions → ServeAsk B
serve_ask address file circuit public outputs options =
    record { address = address; file = file; circuit = circuit; public = public; outputs = outputs; options = options }

abbrev pub ServeManyAsk : Type 0
ServeManyAsk = ServeManyAskOf (List ℕ) (List ℕ)

abbrev pub serve_many_ask : List ℕ → List ℕ → List ℕ → ServeOptions → ServeManyAsk
serve_many_ask address file statements options =
    record { address = address; file = file; statements = statements; options = options }

abbrev pub ServeArithAsk : Type 0
ServeArithAsk = ServeArithAskOf (List ℕ)

abbrev pub serve_arith_ask : List ℕ → List ℕ → List ℕ → List ℕ → ServeOptions → ServeArithAsk
serve_arith_ask address file circuit outputs options =
    record { address = address; file = file; circuit = circuit; outputs = outputs; options = options }

abbrev pub ServePolyAsk : Type 0
ServePolyAsk = ServePolyAskOf (List ℕ)

abbrev pub serve_poly_ask : List ℕ → List ℕ → List ℕ → ServeOptions → ServePolyAsk
serve_poly_ask address file text options = record { address = address; file = file; text = text; options = options }

abbrev pub ProveAsk : Type 0 → Type 0
ProveAsk B = ProveAskOf (List ℕ) B

abbrev pub prove_ask : {B : Type 0} → List ℕ → List ℕ → List ℕ → B → B → B → ℕ → ProveAsk B
prove_ask address file circuit public bits outputs timeout =
    record { address = address; file = file; circuit = circuit; public = public; bits = bits; outputs = outputs; timeout = timeout }

abbrev pub ProveArithAsk : Type 0
ProveArithAsk = ProveArithAskOf (List ℕ)

abbrev pub prove_arith_ask : List ℕ → List ℕ → List ℕ → List ℕ → List ℕ → ℕ → ProveArithAsk
prove_arith_ask address file circuit values outputs timeout =
    record { address = address; file = file; circuit = circuit; values = values; outputs = outputs; timeout = timeout }

abbrev pub ProvePolyAsk : Type 0
ProvePolyAsk = ProvePolyAskOf (List ℕ)

abbrev pub prove_poly_ask : List ℕ → List ℕ → List ℕ → List ℕ → ℕ → ProvePolyAsk
prove_poly_ask address file text values timeout = record { address = address; file = file; text = text; values = values; timeout = timeout }

abbrev pub AuditAsk : Type 0 → Type 0
AuditAsk B = AuditAskOf (List ℕ) B

abbrev pub audit_ask : {B : Type 0} → List ℕ → B → B → List ℕ → List ℕ → List ℕ → AuditAsk B
audit_ask circuit public outputs prover verifier log =
    record { circuit = circuit; public = public; outputs = outputs; prover = prover; verifier = verifier; log = log }

abbrev pub AuditArithAsk : Type 0
AuditArithAsk = AuditArithAskOf (List ℕ)

abbrev pub audit_arith_ask : List ℕ → List ℕ → List ℕ → List ℕ → List ℕ → AuditArithAsk
audit_arith_ask circuit outputs prover verifier log =
    record { circuit = circuit; outputs = outputs; prover = prover; verifier = verifier; log = log }

abbrev pub MigrateAsk : Type 0
MigrateAsk = MigrateAskOf (List ℕ)

abbrev pub migrate_ask : Side → List ℕ → MigrateAsk
migrate_ask side file = record { side = side; file = file }

abbrev pub StatusAsk : Type 0
StatusAsk = StatusAskOf (List ℕ)

abbrev pub status_ask : List ℕ → Option (List ℕ) → Option ℕ → StatusAsk
status_ask file circuit node = record { file = file; circuit = circuit; node = node }

abbrev pub NodeAsk : Type 0
NodeAsk = NodeAskOf (List ℕ)

abbrev pub node_ask : List ℕ → ℕ → NodeAsk
node_ask file node = record { file = file; node = node }

abbrev pub BrokerAsk : Type 0
BrokerAsk = BrokerAskOf (List ℕ)

abbrev pub broker_ask : List ℕ → List ℕ → ℕ → ℕ → Bool → BrokerAsk
broker_ask address file asks timeout follow =
    record { address = address; file = file; asks = asks; timeout = timeout; follow = follow }

abbrev pub ServeNodeAsk : Type 0 → Type 0
ServeNodeAsk B = ServeNodeAskOf (List ℕ) B

abbrev pub serve_node_ask : {B : Type 0} → List ℕ → List ℕ → List ℕ → List ℕ → B → ℕ → ℕ → ℕ → Bool → ServeNodeAsk B
serve_node_ask address broker file circuit outputs node sessions timeout follow = record {
  address = address;
  broker = broker;
  file = file;
  circuit = circuit;
  outputs = outputs;
  node = node;
  sessions = sessions;
  timeout = timeout;
  follow = follow;
}

-- ---- what each command asks for, by what is read of its row

-- the kind of files for which `--extended` may stand
abbrev pub kind_by : Bool → Kind
kind_by extended = if extended then Extended else Direct

-- the bits that are given, or none
abbrev pub bits_or_none : Option BitsAsk → BitsAsk
bits_or_none None = said []
bits_or_none (Some bits) = bits

-- `rehearse CIRCUIT BITS [--section G] [--extended] [--public BITS]`, or `rehearse --gates N --number S [--section G] [--extended]`
abbrev pub rehearse_by : FromRow (row_of n.Rehearse) (Option (Ask BitsAsk))
rehearse_by (Some circuit) (Some bits) section public None None extended =
    Some (a.Rehearse (rehearse_ask circuit (bits_or_none public) bits (kind_by extended) section))
rehearse_by None None section None (Some gates) (Some number) extended =
    Some (a.Generate (generate_ask gates number (kind_by extended) section))
rehearse_by circuit bits section public gates number extended = None

-- `rehearse-arith CIRCUIT VALUES [--section G] [--extended]`
abbrev pub rehearse_arith_by : FromRow (row_of n.RehearseArith) (Option (Ask BitsAsk))
rehearse_arith_by circuit values section extended =
    Some (a.RehearseArith (rehearse_arith_ask circuit values (kind_by extended) section))

-- `rehearse-poly TEXT VALUES [--section G] [--extended]`
abbrev pub rehearse_poly_by : FromRow (row_of n.RehearsePoly) (Option (Ask BitsAsk))
rehearse_poly_by text values section extended =
    Some (a.RehearsePoly (rehearse_poly_ask text values (kind_by extended) section))

-- `eval CIRCUIT BITS`
abbrev pub eval_by : FromRow (row_of n.Eval) (Option (Ask BitsAsk))
eval_by circuit bits = Some (a.Eval (eval_ask circuit bits))

-- what files of so many units are made for: without `--trees`, `--height` and `--base` those of kind direct, and with all three those of
-- kind extended
abbrev pub params_by : ℕ → Option ℕ → Option ℕ → Option ℕ → Option Params
params_by units None None None = Some (record { kind = Direct; height = 0; trees = 0; base = 0; total = units })
params_by units (Some trees) (Some height) (Some base) =
    Some (record { kind = Extended; height = height; trees = trees; base = base; total = units })
params_by units trees height base = None

-- those of which both files may be loaded again
abbrev pub loadable : Params → Option Params
loadable params =
    if nat_le (file_length Prover params) FILE_LIMIT && nat_le (file_length Verifier params) FILE_LIMIT
    then Some params else None

-- `deal NAME --units N [--trees T --height H --base K]`
abbrev pub deal_by : FromRow (row_of n.Deal) (Option (Ask BitsAsk))
deal_by name units trees height base =
    option_map (λ params. a.Deal (deal_ask name params)) (option_and_then loadable (params_by units trees height base))

-- `serve ADDRESS FILE CIRCUIT OUTPUTS --sessions N [--workers W] [--section G] [--timeout S] [--logs PREFIX] [--follow]
-- [--public BITS]`
abbrev pub serve_by : FromRow (row_of n.Serve) (Option (Ask BitsAsk))
serve_by address file circuit outputs public sessions workers section timeout logs follow =
    Some (a.Serve (serve_ask address file circuit public outputs (serve_options sessions workers section timeout logs follow)))

-- `serve-many ADDRESS FILE STATEMENTS --sessions N [--workers W] [--section G] [--timeout S] [--logs PREFIX] [--follow]`
abbrev pub serve_many_by : FromRow (row_of n.ServeMany) (Option (Ask BitsAsk))
serve_many_by address file statements sessions workers section timeout logs follow =
    Some (a.ServeMany (serve_many_ask address file statements (serve_options sessions workers section timeout logs follow)))

-- `serve-arith ADDRESS FILE CIRCUIT OUTPUTS --sessions N [--workers W] [--section G] [--timeout S] [--logs PREFIX] [--follow]`
abbrev pub serve_arith_by : FromRow (row_of n.ServeArith) (Option (Ask BitsAsk))
serve_arith_by address file circuit outputs sessions workers section timeout logs follow =
    Some (a.ServeArith (serve_arith_ask address file circuit outputs (serve_options sessions workers section timeout logs follow)))

-- `serve-poly ADDRESS FILE TEXT --sessions N [--workers W] [--section G] [--timeout S] [--logs PREFIX] [--follow]`
abbrev pub serve_poly_by : FromRow (row_of n.ServePoly) (Option (Ask BitsAsk))
serve_poly_by address file text sessions workers section timeout logs follow =
    Some (a.ServePoly (serve_poly_ask address file text (serve_options sessions workers section timeout logs follow)))

-- `prove ADDRESS FILE CIRCUIT BITS OUTPUTS [--timeout S] [--public BITS]`
abbrev pub prove_by : FromRow (row_of n.Prove) (Option (Ask BitsAsk))
prove_by address file circuit bits outputs timeout public =
    Some (a.Prove (prove_ask address file circuit public bits outputs timeout))

-- `prove-arith ADDRESS FILE CIRCUIT VALUES OUTPUTS [--timeout S]`
abbrev pub prove_arith_by : FromRow (row_of n.ProveArith) (Option (Ask BitsAsk))
prove_arith_by address file circuit values outputs timeout =
    Some (a.ProveArith (prove_arith_ask address file circuit values outputs timeout))

-- `prove-poly ADDRESS FILE TEXT VALUES [--timeout S]`
abbrev pub prove_poly_by : FromRow (row_of n.ProvePoly) (Option (Ask BitsAsk))
prove_poly_by address file text values timeout = Some (a.ProvePoly (prove_poly_ask address file text values timeout))

-- `audit CIRCUIT OUTPUTS PROVERFILE VERIFIERFILE LOG [--public BITS]`
abbrev pub audit_by : FromRow (row_of n.Audit) (Option (Ask BitsAsk))
audit_by circuit outputs prover verifier log public =
    Some (a.Audit (audit_ask circuit public outputs prover verifier log))

-- `audit-arith CIRCUIT OUTPUTS PROVERFILE VERIFIERFILE LOG`
abbrev pub audit_arith_by : FromRow (row_of n.AuditArith) (Option (Ask BitsAsk))
audit_arith_by circuit outputs prover verifier log =
    Some (a.AuditArith (audit_arith_ask circuit outputs prover verifier log))

-- `migrate SIDE FILE`
abbrev pub migrate_by : FromRow (row_of n.Migrate) (Option (Ask BitsAsk))
migrate_by side file = Some (a.Migrate (migrate_ask side file))

-- `status FILE [CIRCUIT] [--node K]`
abbrev pub status_by : FromRow (row_of n.Status) (Option (Ask BitsAsk))
status_by file circuit node = Some (a.Status (status_ask file circuit node))

-- `node FILE K`
abbrev pub node_by : FromRow (row_of n.Node) (Option (Ask BitsAsk))
node_by file node = Some (a.Node (node_ask file node))

-- `broker ADDRESS FILE --asks N [--timeout S] [--follow]`
abbrev pub broker_by : FromRow (row_of n.Broker) (Option (Ask BitsAsk))
broker_by address file asks timeout follow = Some (a.Broker (broker_ask address file asks timeout follow))

-- `serve-node ADDRESS BROKER FILE CIRCUIT OUTPUTS --node K --sessions N [--timeout S] [--follow]`
abbrev pub serve_node_by : FromRow (row_of n.ServeNode) (Option (Ask BitsAsk))
serve_node_by address broker file circuit outputs node sessions timeout follow =
    Some (a.ServeNode (serve_node_ask address broker file circuit outputs node sessions timeout follow))

abbrev pub asks_by : (name : Name) → FromRow (row_of name) (Option (Ask BitsAsk))
asks_by n.Rehearse = rehearse_by
asks_by n.RehearseArith = rehearse_arith_by
asks_by n.RehearsePoly = rehearse_poly_by
asks_by n.Eval = eval_by
asks_by n.Deal = deal_by
asks_by n.Serve = serve_by
asks_by n.ServeMany = serve_many_by
asks_by n.ServeArith = serve_arith_by
asks_by n.ServePoly = serve_poly_by
asks_by n.Prove = prove_by
asks_by n.ProveArith = prove_arith_by
asks_by n.ProvePoly = prove_poly_by
asks_by n.Audit = audit_by
asks_by n.AuditArith = audit_arith_by
asks_by n.Migrate = migrate_by
asks_by n.Status = status_by
asks_by n.Node = node_by
asks_by n.Broker = broker_by
asks_by n.ServeNode = serve_node_by

-- ---- what words ask for

-- each option has one of these names, and no two the same
abbrev pub stand_once_among : List (List ℕ) → List Word → Bool
stand_once_among names options = stand_once (λ name. list_any (λ n. bytes_eq n name) names) options

-- an option's name
abbrev pub name_of : List ℕ → List ℕ
name_of id = 45 ∷ 45 ∷ id

-- the names of a row's options
abbrev pub names_of : Row → List (List ℕ)
names_of row = map name_of (ids_of row.options ++ row.flags)

-- what a command's words ask for, if they are valid: there is no word but those of its row
abbrev pub asked_of : Name → Parts → Option (Ask BitsAsk)
asked_of name parts =
    if nat_le (length parts.0) (length (row_of name).places) && stand_once_among (names_of (row_of name)) parts.1
    then from_row (row_of name) (asks_by name) parts.0 (λ id. option_named (name_of id) parts.1)
    (λ id. is_some (option_named (name_of id) parts.1))
    else None

-- what the words ask for, if they are valid
abbrev pub asked : List (List ℕ) → Option (Ask BitsAsk)
asked [] = None
asked (word ∷ words) = option_and_then (λ name. option_and_then (asked_of name) (arranged words)) (named word)

-- these valid words ask for it
abbrev pub IsAsked : Ask BitsAsk → Type 0
IsAsked ask = (words : List (List ℕ)) × (asked words ≡ Some ask)

-- what may be read of words: what they ask for, where they are valid; of others nothing, or what some valid words ask for
pub record IsRead (words : List (List ℕ)) (found : Option (Ask BitsAsk)) : Type 0 where
  pub valid : {ask : Ask BitsAsk} → asked words ≡ Some ask → found ≡ Some ask
  pub other : {ask : Ask BitsAsk} → found ≡ Some ask → IsAsked ask
