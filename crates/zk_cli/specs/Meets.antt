-- What a run of the program does for what its words ask for.
use Rattle.std.specs.Prelude.{◌≡◌, ◌⊎◌, ℕ, List, Bool, false, Option}
use Rattle.claim_files.specs.Services.{service_asked, service_of_arith, service_of_node}
use Rattle.command_words.specs.BitWords.{Bits, BitsAsk}
use Rattle.command_words.specs.Words.{Ask}
use Rattle.command_words.specs.declared.asks.Ask.TheVariants.{Rehearse as rehearse, Eval as eval, Deal as deal, Serve as serve, ServeMany as serve_many, ServeArith as serve_arith, ServePoly as serve_poly, Prove as prove, ProveArith as prove_arith, ProvePoly as prove_poly, Generate as generate, RehearseArith as rehearse_arith, RehearsePoly as rehearse_poly, Audit as audit, AuditArith as audit_arith, Migrate as migrate, Status as status, Node as node, Broker as broker, ServeNode as serve_node}
use Rattle.proof_audit.specs.AuditRuns.{Audits}
use Rattle.proof_audit.specs.NamedAudits.{audit_asked, audit_of_arith}
use Rattle.file_commands.specs.DealRuns.{Deals}
use Rattle.file_commands.specs.Effects.{OnlyLoads}
use Rattle.file_commands.specs.GivenBits.{GivenStop, IsAskGiven, IsGivenName}
use Rattle.file_commands.specs.EvalRuns.{Evaluates}
use Rattle.file_commands.specs.MigrateRuns.{Migrates}
use Rattle.node_command.specs.NodeRuns.{MakesNode}
use Rattle.prove_command.specs.Proofs.{proof_asked, proof_of_arith}
use Rattle.zk_cli.specs.BrokeredParts.{BrokersPart}
use Rattle.zk_cli.specs.NodeServiceRuns.{ServesNode, place_asked}
use Rattle.zk_cli.specs.PolyParts.{ProvesPolyPart, RehearsesPolyPart, ServesPolyPart}
use Rattle.zk_cli.specs.ProvedParts.{ProvesPart}
use Rattle.zk_cli.specs.ArithRuns.{RehearsesArith}
use Rattle.zk_cli.specs.RehearseRuns.{Rehearses, Generates}
use Rattle.file_commands.specs.Journals.{DiskChange}
use Rattle.status_command.specs.StatusRuns.{Reports}
use Rattle.zk_port.specs.Changes.{Change}
use Rattle.zk_port.specs.Disks.{DiskState}
use Rattle.zk_port.specs.Files.{Files}
use Rattle.zk_cli.specs.Runs.{Run}
use Rattle.zk_cli.specs.declared.finish.Part.{Part}
use Rattle.zk_cli.specs.ManyRuns.{ServesMany}
use Rattle.zk_cli.specs.ServeRuns.{Serves}
use Rattle.zk_cli.specs.ServedNotes.{GrantsOnceIn, ShowsClaims}
use Rattle.file_commands.specs.Stops.{IsOfStop, PrintsMade, SaysStop, stop_status, stop_line}
use Rattle.zk_cli.specs.declared.finish.Part.TheVariants.{Plain}
use Rattle.file_commands.specs.declared.refusal.Refusal.TheVariants.{Usage}

-- the disk and the door come back as they were
pub record IsLocal {F L B D : Type 0} (run : Run F L B D) : Type 0 where
  pub journal : run.journal.new ≡ run.journal.old
  pub door : run.links.new ≡ run.links.old

-- the usage line is written, or `memory` where memory is missing; nothing else is done
pub record SaysUsage {F L B D : Type 0} (run : Run F L B D) : Type 0 where
  pub prints : PrintsMade (stop_status Usage) (stop_line Usage) run.effects.status run.effects.sink
  pub plain : run.part ≡ Plain
  pub files : run.files.new ≡ run.files.old
  pub local : IsLocal run

-- The record of the command that is asked for, whose bits are known; beside it, whether nothing is handed back, and which of the disk and the
-- door come back as they were. Want of memory, status 7, may come at any time and says nothing else.
abbrev pub Meets : {F L B D : Type 0} → Ask Bits → List ℕ → DiskChange → Run F L B D → Type 0
Meets (rehearse ask) seed disk run = Rehearses ask seed run.part run.effects × IsLocal run
Meets (generate ask) seed disk run = Generates ask seed run.part run.effects × IsLocal run
Meets (rehearse_arith ask) seed disk run = RehearsesArith ask seed run.part run.effects × IsLocal run
Meets (rehearse_poly ask) seed disk run = RehearsesPolyPart ask seed run.part run.effects × IsLocal run
Meets (eval ask) seed disk run = Evaluates ask run.effects × (run.part ≡ Plain) × IsLocal run
Meets (deal ask) seed disk run = Deals ask seed run.effects × (run.part ≡ Plain) × IsLocal run
Meets (node ask) seed disk run = MakesNode ask run.effects × (run.part ≡ Plain) × IsLocal run
Meets (audit ask) seed disk run = Audits (audit_asked ask) run.effects × (run.part ≡ Plain) × IsLocal run
Meets (audit_arith ask) seed disk run = Audits (audit_of_arith ask) run.effects × (run.part ≡ Plain) × IsLocal run
Meets (status ask) seed disk run = Reports ask disk run.effects × (run.part ≡ Plain) × (run.links.new ≡ run.links.old)
Meets (migrate ask) seed disk run = Migrates ask disk run.effects × (run.part ≡ Plain) × (run.links.new ≡ run.links.old)
Meets (serve ask) seed disk run = Serves run.link_tells (service_asked ask) run.part disk run.door run.effects
Meets (serve_many ask) seed disk run = ServesMany run.link_tells ask run.part disk run.door run.effects
Meets (serve_arith ask) seed disk run = Serves run.link_tells (service_of_arith ask) run.part disk run.door run.effects
Meets (serve_poly ask) seed disk run = ServesPolyPart run.link_tells ask run.part disk run.door run.effects
Meets (prove ask) seed disk run = ProvesPart run.link_tells (proof_asked ask) run.part disk run.door run.effects
Meets (prove_arith ask) seed disk run = ProvesPart run.link_tells (proof_of_arith ask) run.part disk run.door run.effects
Meets (prove_poly ask) seed disk run = ProvesPolyPart run.link_tells ask run.part disk run.door run.effects
Meets (broker ask) seed disk run = BrokersPart run.link_tells run.disk_tells ask run.part disk run.door run.effects
Meets (serve_node ask) seed disk run =
    ServesNode run.link_tells run.disk_tells (service_of_node ask) (place_asked ask) run.part run.journal run.door run.effects

-- all that a run promises of what is asked for: its command's record, the headline, and that no unit is granted twice
pub record Promises {F L B D : Type 0} (ask : Ask Bits) (seed : List ℕ) (disk : DiskChange) (run : Run F L B D) : Type 0 where
  pub meets : Meets ask seed disk run
  pub headline : ShowsClaims run.effects.shelf.old.told ask run.part
  pub once : GrantsOnceIn run.disk_tells run.effects.shelf.old.told ask run.part run.journal

-- ---- bits that files give

-- A file that is to give bits gives none: it can't be loaded, or has other bytes. The line of that is written, and nothing else is done.
pub record LacksBits {F L B D : Type 0} (ask : Ask BitsAsk) (run : Run F L B D) : Type 0 where
  pub says : SaysStop (GivenStop ask run.effects.shelf) run.effects
  pub means : IsOfStop (GivenStop ask run.effects.shelf) run.effects.status ⊎ (run.effects.status ≡ 7)
  pub kept : OnlyLoads (IsGivenName ask) run.effects.shelf
  pub plain : run.part ≡ Plain
  pub local : IsLocal run

-- with the bits that words and files give this holds; or a file gives none
abbrev pub OfGiven : {F L B D : Type 0} → Ask BitsAsk → Run F L B D → (Ask Bits → Type 0) → Type 0
OfGiven ask run Holds =
    ((given : Ask Bits) × IsAskGiven run.effects.shelf.old.told ask given × Holds given) ⊎ LacksBits ask run

abbrev pub MeetsGiven : {F L B D : Type 0} → Ask BitsAsk → List ℕ → DiskChange → Run F L B D → Type 0
MeetsGiven ask seed disk run = OfGiven ask run (λ given. Meets given seed disk run)

abbrev pub DoesGiven : {F L B D : Type 0} → Ask BitsAsk → List ℕ → DiskChange → Run F L B D → Type 0
DoesGiven ask seed disk run = OfGiven ask run (λ given. Promises given seed disk run)

-- with these bits each accepted session shows its claim, and no unit was granted twice; or nothing is handed back
abbrev pub ShowsGiven : {L : Type 0} → Option Files → Ask BitsAsk → Part L → Type 0
ShowsGiven told ask part = ((given : Ask Bits) × IsAskGiven told ask given × ShowsClaims told given part) ⊎ (part ≡ Plain)

abbrev pub GrantsOnceGiven : {B L : Type 0} → (B → DiskState) → Option Files → Ask BitsAsk → Part L → Change B → Type 0
GrantsOnceGiven disk_tells told ask part journal =
    ((given : Ask Bits) × IsAskGiven told ask given × GrantsOnceIn disk_tells told given part journal) ⊎ (part ≡ Plain)

-- a service is asked for that says how it goes
abbrev pub follows : {B : Type 0} → Ask B → Bool
follows (serve ask) = ask.options.follow
follows (serve_many ask) = ask.options.follow
follows (serve_arith ask) = ask.options.follow
follows (serve_poly ask) = ask.options.follow
follows (broker ask) = ask.follow
follows (serve_node ask) = ask.follow
follows other = false
