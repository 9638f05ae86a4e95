-- Commands as what they ask for.
use Rattle.std.specs.Prelude.{ℕ, ◌<◌, ◌≤◌, IfSome, Bool, String, Vec, string_bytes}
use Rattle.std.specs.Option.{option_map}
use Rattle.std.specs.declared.alloc.Global.{Global}
use Rattle.zk_model.specs.Files.{AreParams}
use Rattle.command_words.specs.Words.{Ask, AuditArithAsk, AuditAsk, BrokerAsk, DealAsk, EvalAsk, MigrateAsk, NodeAsk, ProveArithAsk, ProveAsk, ProvePolyAsk, RehearseArithAsk, RehearseAsk, RehearsePolyAsk, ServeArithAsk, ServePolyAsk, ServeAsk, ServeManyAsk, ServeNodeAsk, ServeOptions, StatusAsk}
use Rattle.command_words.specs.Words.{audit_arith_ask, audit_ask, broker_ask, deal_ask, eval_ask, migrate_ask, node_ask, prove_arith_ask, prove_ask, prove_poly_ask, rehearse_arith_ask, rehearse_ask, rehearse_poly_ask, serve_arith_ask, serve_poly_ask, serve_ask, serve_many_ask, serve_node_ask, serve_options, status_ask}
use Rattle.command_words.specs.BitWords.{Bits, BitsAsk, said, named}
use Rattle.command_words.specs.declared.bits.BitsWord.{BitsWord}
use Rattle.command_words.specs.declared.bits.BitsWord.TheVariants.{Said, Named}
use Rattle.command_words.specs.declared.asks.Ask.{Ask as AskOf}
use Rattle.command_words.specs.declared.asks.Ask.TheVariants.{Rehearse, Generate, RehearseArith, RehearsePoly, Eval, Deal, Serve, ServeMany, ServeArith, ServePoly, Prove, ProveArith, ProvePoly, Audit, AuditArith, Migrate, Status, Node, Broker, ServeNode}
use Rattle.command_words.specs.declared.asks.RehearseAsk.{RehearseAsk as RehearseAskOf}
use Rattle.command_words.specs.declared.asks.RehearseArithAsk.{RehearseArithAsk as RehearseArithAskOf}
use Rattle.command_words.specs.declared.asks.RehearsePolyAsk.{RehearsePolyAsk as RehearsePolyAskOf}
use Rattle.command_words.specs.declared.asks.EvalAsk.{EvalAsk as EvalAskOf}
use Rattle.command_words.specs.declared.asks.DealAsk.{DealAsk as DealAskOf}
use Rattle.command_words.specs.declared.asks.ServeAsk.{ServeAsk as ServeAskOf}
use Rattle.command_words.specs.declared.asks.ServeManyAsk.{ServeManyAsk as ServeManyAskOf}
use Rattle.command_words.specs.declared.asks.ServeArithAsk.{ServeArithAsk as ServeArithAskOf}
use Rattle.command_words.specs.declared.asks.ServePolyAsk.{ServePolyAsk as ServePolyAskOf}
use Rattle.command_words.specs.declared.asks.ServeOptions.{ServeOptions as ServeOptionsOf}
use Rattle.command_words.specs.declared.asks.ProveAsk.{ProveAsk as ProveAskOf}
use Rattle.command_words.specs.declared.asks.ProveArithAsk.{ProveArithAsk as ProveArithAskOf}
use Rattle.command_words.specs.declared.asks.ProvePolyAsk.{ProvePolyAsk as ProvePolyAskOf}
use Rattle.command_words.specs.declared.asks.AuditAsk.{AuditAsk as AuditAskOf}
use Rattle.command_words.specs.declared.asks.AuditArithAsk.{AuditArithAsk as AuditArithAskOf}
use Rattle.command_words.specs.declared.asks.MigrateAsk.{MigrateAsk as MigrateAskOf}
use Rattle.command_words.specs.declared.asks.StatusAsk.{StatusAsk as StatusAskOf}
use Rattle.command_words.specs.declared.asks.NodeAsk.{NodeAsk as NodeAskOf}
use Rattle.command_words.specs.declared.asks.BrokerAsk.{BrokerAsk as BrokerAskOf}
use Rattle.command_words.specs.declared.asks.ServeNodeAsk.{ServeNodeAsk as ServeNodeAskOf}
use Rattle.command_words.specs.declared.asks.TheConstants.{MAX_ASKS, MAX_SESSIONS, MAX_TIMEOUT}
use Rattle.zk_model.specs.declared.limits.TheConstants.{MAX_GENERATED_GATES, MAX_NODES, MAX_PASSES, MAX_SECTION_LENGTH}

-- a command as code has it
abbrev pub Command : Type 0 → Type 0
Command B = AskOf (String Global) B

-- the options of a service
abbrev pub named_options : ServeOptionsOf (String Global) → ServeOptions
named_options options =
    serve_options options.sessions options.workers options.section options.timeout
    (option_map (λ logs. string_bytes logs) options.logs) options.follow

-- the bits that a word gives, and those that are known
abbrev pub bits_ask : BitsWord → BitsAsk
bits_ask (Said bits) = said bits.items
bits_ask (Named name) = named (string_bytes name)

abbrev pub known_bits : Vec Bool Global → Bits
known_bits bits = bits.items

-- what each command asks for, where each of its bits is given so
abbrev pub rehearse_of : {B C : Type 0} → (B → C) → RehearseAskOf (String Global) B → RehearseAsk C
rehearse_of given ask =
    rehearse_ask (string_bytes ask.circuit) (given ask.public) (given ask.bits) ask.kind ask.section

abbrev pub rehearse_arith_of : RehearseArithAskOf (String Global) → RehearseArithAsk
rehearse_arith_of ask =
    rehearse_arith_ask (string_bytes ask.circuit) (string_bytes ask.values) ask.kind ask.section

abbrev pub rehearse_poly_of : RehearsePolyAskOf (String Global) → RehearsePolyAsk
rehearse_poly_of ask = rehearse_poly_ask (string_bytes ask.text) (string_bytes ask.values) ask.kind ask.section

abbrev pub eval_of : {B C : Type 0} → (B → C) → EvalAskOf (String Global) B → EvalAsk C
eval_of given ask = eval_ask (string_bytes ask.circuit) (given ask.bits)

abbrev pub deal_of : DealAskOf (String Global) → DealAsk
deal_of ask = deal_ask (string_bytes ask.name) ask.params

abbrev pub serve_of : {B C : Type 0} → (B → C) → ServeAskOf (String Global) B → ServeAsk C
serve_of given ask =
    serve_ask (string_bytes ask.address) (string_bytes ask.file) (string_bytes ask.circuit) (given ask.public)
    (given ask.outputs) (named_options ask.options)

abbrev pub serve_many_of : ServeManyAskOf (String Global) (String Global) → ServeManyAsk
serve_many_of ask =
    serve_many_ask (string_bytes ask.address) (string_bytes ask.file) (string_bytes ask.statements)
    (named_options ask.options)

abbrev pub serve_arith_of : ServeArithAskOf (String Global) → ServeArithAsk
serve_arith_of ask =
    serve_arith_ask (string_bytes ask.address) (string_bytes ask.file) (string_bytes ask.circuit) (string_bytes ask.outputs)
    (named_options ask.options)

abbrev pub serve_poly_of : ServePolyAskOf (String Global) → ServePolyAsk
serve_poly_of ask =
    serve_poly_ask (string_bytes ask.address) (string_bytes ask.file) (string_bytes ask.text) (named_options ask.options)

abbrev pub prove_of : {B C : Type 0} → (B → C) → ProveAskOf (String Global) B → ProveAsk C
prove_of given ask =
    prove_ask (string_bytes ask.address) (string_bytes ask.file) (string_bytes ask.circuit) (given ask.public)
    (given ask.bits) (given ask.outputs) ask.timeout

abbrev pub prove_arith_of : ProveArithAskOf (String Global) → ProveArithAsk
prove_arith_of ask =
    prove_arith_ask (string_bytes ask.address) (string_bytes ask.file) (string_bytes ask.circuit) (string_bytes ask.values)
    (string_bytes ask.outputs) ask.timeout

abbrev pub prove_poly_of : ProvePolyAskOf (String Global) → ProvePolyAsk
prove_poly_of ask =
    prove_poly_ask (string_bytes ask.address) (string_bytes ask.file) (string_bytes ask.text) (string_bytes ask.values) ask.timeout

abbrev pub audit_of : {B C : Type 0} → (B → C) → AuditAskOf (String Global) B → AuditAsk C
audit_of given ask =
    audit_ask (string_bytes ask.circuit) (given ask.public) (given ask.outputs) (string_bytes ask.prover)
    (string_bytes ask.verifier) (string_bytes ask.log)

abbrev pub audit_arith_of : AuditArithAskOf (String Global) → AuditArithAsk
audit_arith_of ask =
    audit_arith_ask (string_bytes ask.circuit) (string_bytes ask.outputs) (string_bytes ask.prover) (string_bytes ask.verifier)
    (string_bytes ask.log)

abbrev pub migrate_of : MigrateAskOf (String Global) → MigrateAsk
migrate_of ask = migrate_ask ask.side (string_bytes ask.file)

abbrev pub status_of : StatusAskOf (String Global) → StatusAsk
status_of ask = status_ask (string_bytes ask.file) (option_map (λ name. string_bytes name) ask.circuit) ask.node

abbrev pub node_of : NodeAskOf (String Global) → NodeAsk
node_of ask = node_ask (string_bytes ask.file) ask.node

abbrev pub broker_of : BrokerAskOf (String Global) → BrokerAsk
broker_of ask = broker_ask (string_bytes ask.address) (string_bytes ask.file) ask.asks ask.timeout ask.follow

abbrev pub serve_node_of : {B C : Type 0} → (B → C) → ServeNodeAskOf (String Global) B → ServeNodeAsk C
serve_node_of given ask =
    serve_node_ask (string_bytes ask.address) (string_bytes ask.broker) (string_bytes ask.file) (string_bytes ask.circuit)
    (given ask.outputs) ask.node ask.sessions ask.timeout ask.follow

abbrev pub ask_of : {B C : Type 0} → (B → C) → Command B → Ask C
ask_of given (Rehearse ask) = Rehearse (rehearse_of given ask)
ask_of given (Generate ask) = Generate ask
ask_of given (RehearseArith ask) = RehearseArith (rehearse_arith_of ask)
ask_of given (RehearsePoly ask) = RehearsePoly (rehearse_poly_of ask)
ask_of given (Eval ask) = Eval (eval_of given ask)
ask_of given (Deal ask) = Deal (deal_of ask)
ask_of given (Serve ask) = Serve (serve_of given ask)
ask_of given (ServeMany ask) = ServeMany (serve_many_of ask)
ask_of given (ServeArith ask) = ServeArith (serve_arith_of ask)
ask_of given (ServePoly ask) = ServePoly (serve_poly_of ask)
ask_of given (Prove ask) = Prove (prove_of given ask)
ask_of given (ProveArith ask) = ProveArith (prove_arith_of ask)
ask_of given (ProvePoly ask) = ProvePoly (prove_poly_of ask)
ask_of given (Audit ask) = Audit (audit_of given ask)
ask_of given (AuditArith ask) = AuditArith (audit_arith_of ask)
ask_of given (Migrate ask) = Migrate (migrate_of ask)
ask_of given (Status ask) = Status (status_of ask)
ask_of given (Node ask) = Node (node_of ask)
ask_of given (Broker ask) = Broker (broker_of ask)
ask_of given (ServeNode ask) = ServeNode (serve_node_of given ask)

-- a section has so many products
pub record IsSectionSize (section : ℕ) : Type 0 where
  pub least : 1 ≤ section
  pub most : section ≤ MAX_SECTION_LENGTH

-- a silent peer is waited for so long
pub record IsTimeout (timeout : ℕ) : Type 0 where
  pub least : 1 ≤ timeout
  pub most : timeout ≤ MAX_TIMEOUT

-- so many sessions and so many workers may be asked for, a section has so many products, and a silent peer is waited for so long
pub record AreServeLimits (options : ServeOptions) : Type 0 where
  pub sessions_least : 1 ≤ options.sessions
  pub sessions_most : options.sessions ≤ MAX_SESSIONS
  pub workers_least : 1 ≤ options.workers
  pub workers_most : options.workers ≤ MAX_PASSES
  pub section : IsSectionSize options.section
  pub timeout : IsTimeout options.timeout

-- so many wants may be asked for, and a silent node is waited for so long
pub record AreBrokerLimits (asks timeout : ℕ) : Type 0 where
  pub least : 1 ≤ asks
  pub most : asks ≤ MAX_ASKS
  pub patience : IsTimeout timeout

-- there are such nodes, so many sessions may be asked for, and a silent peer is waited for so long
pub record AreNodeLimits (node sessions timeout : ℕ) : Type 0 where
  pub node_most : node < MAX_NODES
  pub sessions_least : 1 ≤ sessions
  pub sessions_most : sessions ≤ MAX_SESSIONS
  pub patience : IsTimeout timeout

-- the numbers that a command names are within their limits
abbrev pub IsWithinLimits : {B : Type 0} → Command B → Type 0
IsWithinLimits (Rehearse ask) = IsSectionSize ask.section
IsWithinLimits (Generate ask) = (1 ≤ ask.gates) × (ask.gates ≤ MAX_GENERATED_GATES) × IsSectionSize ask.section
IsWithinLimits (RehearseArith ask) = IsSectionSize ask.section
IsWithinLimits (RehearsePoly ask) = IsSectionSize ask.section
IsWithinLimits (Deal ask) = AreParams ask.params
IsWithinLimits (Serve ask) = AreServeLimits (named_options ask.options)
IsWithinLimits (ServeMany ask) = AreServeLimits (named_options ask.options)
IsWithinLimits (ServeArith ask) = AreServeLimits (named_options ask.options)
IsWithinLimits (ServePoly ask) = AreServeLimits (named_options ask.options)
IsWithinLimits (Prove ask) = IsTimeout ask.timeout
IsWithinLimits (ProveArith ask) = IsTimeout ask.timeout
IsWithinLimits (ProvePoly ask) = IsTimeout ask.timeout
IsWithinLimits (Status ask) = IfSome ask.node (λ node. node < MAX_NODES)
IsWithinLimits (Node ask) = ask.node < MAX_NODES
IsWithinLimits (Broker ask) = AreBrokerLimits ask.asks ask.timeout
IsWithinLimits (ServeNode ask) = AreNodeLimits ask.node ask.sessions ask.timeout
IsWithinLimits other = Unit {0}
