-- Runs whose words name files that give bits.
use Rattle.std.proofs.Common.{◌≡◌, ◌⊎◌, ◌≤◌, ◌-◌, ℕ, List, [], length, nat_le, Bool, true, false, if◌then◌else◌, Option, refl, ap, subst, inl, inr, arith}
use Rattle.zk_model.specs.Circuit.{Circuit}
use Rattle.zk_port.specs.Changes.{Change, change}
use Rattle.zk_port.specs.Disks.{DiskState}
use Rattle.zk_port.specs.Doors.{DoorState}
use Rattle.zk_port.specs.Files.{Files}
use Rattle.zk_port.specs.Links.{LinkState}
use Rattle.zk_port.specs.Shelves.{ShelfState}
use Rattle.command_words.specs.BitWords.{Bits, BitsAsk, said, named}
use Rattle.command_words.specs.Words.{Ask}
use Rattle.command_words.specs.declared.asks.Ask.TheVariants.{Rehearse as rehearse, Generate as generate, RehearseArith as rehearse_arith, RehearsePoly as rehearse_poly, Eval as eval, Deal as deal, Serve as serve, ServeMany as serve_many, ServeArith as serve_arith, ServePoly as serve_poly, Prove as prove, ProveArith as prove_arith, ProvePoly as prove_poly, Audit as audit, AuditArith as audit_arith, Migrate as migrate, Status as status, Node as node, Broker as broker, ServeNode as serve_node}
use Rattle.claim_files.specs.Services.{service_asked, service_of_arith, service_of_node}
use Rattle.proof_audit.specs.AuditRuns.{Audits}
use Rattle.proof_audit.specs.NamedAudits.{audit_asked, audit_of_arith}
use Rattle.status_command.specs.StatusRuns.{Reports}
use Rattle.file_commands.specs.DealRuns.{Deals}
use Rattle.file_commands.specs.Effects.{Effects, OnlyLoads, ShelfChange, SinkChange, effects}
use Rattle.file_commands.specs.EvalRuns.{Evaluates}
use Rattle.file_commands.specs.GivenBits.{BitsOf, ClaimedStop, GivenStop, InputsStop, IsAskGiven, IsGivenName, Outputs, Private, Public, WordStop, cut_refusal}
use Rattle.file_commands.specs.Journals.{DiskChange}
use Rattle.file_commands.specs.MigrateRuns.{Migrates}
use Rattle.file_commands.specs.Stops.{CircuitStop, LoadStop, PrintsMade, stop_line, stop_status}
use Rattle.file_commands.specs.declared.refusal.Refusal.{Refusal}
use Rattle.file_commands.specs.declared.refusal.Refusal.TheVariants as stop
use Rattle.file_commands.proofs.Means.{IsHigh, stop_answers}
use Rattle.zk_cli.specs.ManyRuns.{ServesMany}
use Rattle.zk_cli.specs.Meets.{DoesGiven, IsLocal, LacksBits, Meets, Promises, follows}
use Rattle.node_command.specs.NodeRuns.{MakesNode}
use Rattle.prove_command.specs.Proofs.{proof_asked, proof_of_arith}
use Rattle.zk_cli.specs.BrokeredParts.{BrokersPart}
use Rattle.zk_cli.specs.NodeServiceRuns.{ServesNode, place_asked}
use Rattle.zk_cli.specs.PolyParts.{ProvesPolyPart, RehearsesPolyPart, ServesPolyPart}
use Rattle.zk_cli.specs.ProvedParts.{ProvesPart}
use Rattle.zk_cli.specs.ArithRuns.{RehearsesArith}
use Rattle.zk_cli.specs.RehearseRuns.{Generates, Rehearses}
use Rattle.zk_cli.specs.Runs.{Run, run_of}
use Rattle.zk_cli.specs.ServeRuns.{Serves}
use Rattle.zk_cli.specs.ServedNotes.{GrantsOnceIn, ShowsClaims}
use Rattle.zk_cli.specs.declared.finish.Part.{Part}
use Rattle.zk_cli.specs.declared.finish.Part.TheVariants.{Plain}
use Rattle.zk_cli.proofs.NoUsage.{command_two, stop_two}

-- ---- why no bits are given

-- it is no stop with a status below 3
module _ (why : Refusal) (low : stop_status why ≤ 2) (unloaded : (name : List ℕ) (shelf : ShelfChange) → LoadStop name shelf why → ⊥)
    (uncircuited : (name : List ℕ) (shelf : ShelfChange) → CircuitStop name shelf why → ⊥) where
  cut_is_high : (circuit : Circuit) (of : BitsOf) (got : ℕ) → why ≡ cut_refusal circuit of got → ⊥
  cut_is_high circuit Public got is = let s : stop_status why ≡ 3 = ap stop_status is in omega (arith, s, low)
  cut_is_high circuit (Private public) got is = by_test (nat_le (length public) circuit.inputs) is
    where
      by_test : (few : Bool) → why ≡ (if few then stop.WrongBits (circuit.inputs - length public) got
          else stop.ManyPublic circuit.inputs (length public)) → ⊥
      by_test true is = let s : stop_status why ≡ 3 = ap stop_status is in omega (arith, s, low)
      by_test false is = let s : stop_status why ≡ 3 = ap stop_status is in omega (arith, s, low)
  cut_is_high circuit Outputs got is = let s : stop_status why ≡ 3 = ap stop_status is in omega (arith, s, low)

  word_is_high : (circuit : List ℕ) (of : BitsOf) (word : BitsAsk) (shelf : ShelfChange) → WordStop circuit of word shelf why → ⊥
  word_is_high circuit of (said bits) shelf cause = absurd cause
  word_is_high circuit of (named name) shelf (inl load) = unloaded name shelf load
  word_is_high circuit of (named name) shelf (inr (got, cut, inl cause)) = uncircuited circuit shelf cause
  word_is_high circuit of (named name) shelf (inr (got, cut, inr has)) = cut_is_high has.circuit of got has.is

  inputs_are_high : (circuit : List ℕ) (public bits : BitsAsk) (shelf : ShelfChange) → InputsStop circuit public bits shelf why → ⊥
  inputs_are_high circuit public bits shelf (inl cause) = word_is_high circuit Public public shelf cause
  inputs_are_high circuit public bits shelf (inr (given, is, cause)) = word_is_high circuit (Private given) bits shelf cause

  claimed_are_high : (circuit : List ℕ) (public outputs : BitsAsk) (shelf : ShelfChange) → ClaimedStop circuit public outputs shelf why → ⊥
  claimed_are_high circuit public outputs shelf (inl cause) = word_is_high circuit Public public shelf cause
  claimed_are_high circuit public outputs shelf (inr (given, is, cause)) = word_is_high circuit Outputs outputs shelf cause

  given_is_high : (ask : Ask BitsAsk) (shelf : ShelfChange) → GivenStop ask shelf why → ⊥
  given_is_high ask shelf (inl is) = let s : stop_status why ≡ 7 = ap stop_status is in omega (arith, s, low)
  given_is_high (rehearse ask) shelf (inr cause) = inputs_are_high ask.circuit ask.public ask.bits shelf cause
  given_is_high (generate ask) shelf (inr cause) = absurd cause
  given_is_high (rehearse_arith ask) shelf (inr cause) = absurd cause
  given_is_high (rehearse_poly ask) shelf (inr cause) = absurd cause
  given_is_high (eval ask) shelf (inr cause) = word_is_high ask.circuit (Private []) ask.bits shelf cause
  given_is_high (deal ask) shelf (inr cause) = absurd cause
  given_is_high (serve ask) shelf (inr cause) = claimed_are_high ask.circuit ask.public ask.outputs shelf cause
  given_is_high (serve_many ask) shelf (inr cause) = absurd cause
  given_is_high (serve_arith ask) shelf (inr cause) = absurd cause
  given_is_high (serve_poly ask) shelf (inr cause) = absurd cause
  given_is_high (prove ask) shelf (inr (inl cause)) = inputs_are_high ask.circuit ask.public ask.bits shelf cause
  given_is_high (prove ask) shelf (inr (inr (public, bits, one, two, cause))) = word_is_high ask.circuit Outputs ask.outputs shelf cause
  given_is_high (prove_arith ask) shelf (inr cause) = absurd cause
  given_is_high (prove_poly ask) shelf (inr cause) = absurd cause
  given_is_high (audit ask) shelf (inr cause) = claimed_are_high ask.circuit ask.public ask.outputs shelf cause
  given_is_high (node ask) shelf (inr cause) = absurd cause
  given_is_high (audit_arith ask) shelf (inr cause) = absurd cause
  given_is_high (migrate ask) shelf (inr cause) = absurd cause
  given_is_high (status ask) shelf (inr cause) = absurd cause
  given_is_high (broker ask) shelf (inr cause) = absurd cause
  given_is_high (serve_node ask) shelf (inr cause) = word_is_high ask.circuit Outputs ask.outputs shelf cause

given_unused : (ask : Ask BitsAsk) (shelf : ShelfChange) → GivenStop ask shelf stop.Usage → ⊥
given_unused ask shelf cause = given_is_high stop.Usage (omega arith) (λ name s load. load) (λ name s none. none) ask shelf cause

given_high : (ask : Ask BitsAsk) (shelf : ShelfChange) (why : Refusal) → GivenStop ask shelf why → IsHigh why
given_high ask shelf (stop.Unsatisfied output) cause =
    absurd (given_is_high (stop.Unsatisfied output) (omega arith) (λ name s load. load) (λ name s none. none) ask shelf cause)
given_high ask shelf other cause = tt

-- a run that says why
pub lacks_bits : {F L B D : Type 0} (shelf_tells : F → ShelfState) (door_tells : D → DoorState) (link_tells : L → LinkState) (disk_tells : B → DiskState) (ask : Ask BitsAsk)
    (why : Refusal) (answer : ℕ) (sink : SinkChange) (old new : F) (journal : B) (links : D)
    → GivenStop ask (change (shelf_tells old) (shelf_tells new)) why → OnlyLoads (IsGivenName ask) (change (shelf_tells old) (shelf_tells new))
    → PrintsMade (stop_status why) (stop_line why) answer sink
    → LacksBits ask (run_of shelf_tells door_tells link_tells disk_tells answer Plain (change old new) sink (change journal journal) (change links links))
lacks_bits shelf_tells door_tells link_tells disk_tells ask why answer sink old new journal links cause kept prints =
    let shelf = change (shelf_tells old) (shelf_tells new) in
    record {
      says = record { stop = why; cause = cause; prints = prints };
      means = (elim (stop_answers why answer sink (given_high ask shelf why cause) prints) [ inl e ↦ inl (why, cause, e) | inr e ↦ inr e ]);
      kept = kept;
      plain = refl;
      local = record { journal = refl; door = refl };
    }

lacks_two : {F L B D : Type 0} (ask : Ask BitsAsk) (run : Run F L B D) → LacksBits ask run → run.effects.status ≡ 2 → ⊥
lacks_two ask run lacks two = elim lacks.means [
  | inl stopped ↦ stop_two (GivenStop ask run.effects.shelf) run.effects.status (given_unused ask run.effects.shelf) stopped two
  | inr seven ↦ omega (arith, seven, two)
]

-- no run of a command ends with the status of words that ask for nothing
pub does_two : {F L B D : Type 0} (ask : Ask BitsAsk) (seed : List ℕ) (disk : DiskChange) (run : Run F L B D) → DoesGiven ask seed disk run
    → run.effects.status ≡ 2 → ⊥
does_two ask seed disk run (inl (given, is, promises)) two = command_two given seed disk run promises.meets two
does_two ask seed disk run (inr lacks) two = lacks_two ask run lacks two

-- ---- a run after files were read that left the shelf as it was

module _ {F L B D : Type 0} (shelf_tells : F → ShelfState) (door_tells : D → DoorState) (link_tells : L → LinkState) (disk_tells : B → DiskState) (answer : ℕ) (part : Part L)
    (sink : SinkChange) (journal : Change B) (links : Change D) (seed : List ℕ) (disk : DiskChange) (old mid new : F)
    (same : shelf_tells mid ≡ shelf_tells old) where
  abbrev run_from : F → Run F L B D
  run_from start = run_of shelf_tells door_tells link_tells disk_tells answer part (change start new) sink journal links

  -- what holds of what it did holds on
  held : (P : Effects → Type 0) → P (effects answer (change (shelf_tells mid) (shelf_tells new)) sink)
      → P (effects answer (change (shelf_tells old) (shelf_tells new)) sink)
  held P holds = subst (λ (s : ShelfState). P (effects answer (change s (shelf_tells new)) sink)) same holds

  local_on : IsLocal (run_from mid) → IsLocal (run_from old)
  local_on is = record { journal = is.journal; door = is.door }

  meets_on : (ask : Ask Bits) → Meets ask seed disk (run_from mid) → Meets ask seed disk (run_from old)
  meets_on (rehearse ask) meets = (held (λ run. Rehearses ask seed part run) meets.0, local_on meets.1)
  meets_on (generate ask) meets = (held (λ run. Generates ask seed part run) meets.0, local_on meets.1)
  meets_on (rehearse_arith ask) meets = (held (λ run. RehearsesArith ask seed part run) meets.0, local_on meets.1)
  meets_on (rehearse_poly ask) meets = (held (λ run. RehearsesPolyPart ask seed part run) meets.0, local_on meets.1)
  meets_on (eval ask) meets = (held (λ run. Evaluates ask run) meets.0, meets.1, local_on meets.2)
  meets_on (deal ask) meets = (held (λ run. Deals ask seed run) meets.0, meets.1, local_on meets.2)
  meets_on (node ask) meets = (held (λ run. MakesNode ask run) meets.0, meets.1, local_on meets.2)
  meets_on (audit ask) meets = (held (λ run. Audits (audit_asked ask) run) meets.0, meets.1, local_on meets.2)
  meets_on (audit_arith ask) meets = (held (λ run. Audits (audit_of_arith ask) run) meets.0, meets.1, local_on meets.2)
  meets_on (status ask) meets = (held (λ run. Reports ask disk run) meets.0, meets.1, meets.2)
  meets_on (migrate ask) meets = (held (λ run. Migrates ask disk run) meets.0, meets.1, meets.2)
  meets_on (serve ask) meets = held (λ run. Serves link_tells (service_asked ask) part disk (run_from old).door run) meets
  meets_on (serve_many ask) meets = held (λ run. ServesMany link_tells ask part disk (run_from old).door run) meets
  meets_on (serve_arith ask) meets = held (λ run. Serves link_tells (service_of_arith ask) part disk (run_from old).door run) meets
  meets_on (serve_poly ask) meets = held (λ run. ServesPolyPart link_tells ask part disk (run_from old).door run) meets
  meets_on (prove ask) meets = held (λ run. ProvesPart link_tells (proof_asked ask) part disk (run_from old).door run) meets
  meets_on (prove_arith ask) meets = held (λ run. ProvesPart link_tells (proof_of_arith ask) part disk (run_from old).door run) meets
  meets_on (prove_poly ask) meets = held (λ run. ProvesPolyPart link_tells ask part disk (run_from old).door run) meets
  meets_on (broker ask) meets = held (λ run. BrokersPart link_tells disk_tells ask part disk (run_from old).door run) meets
  meets_on (serve_node ask) meets =
      held (λ run. ServesNode link_tells disk_tells (service_of_node ask) (place_asked ask) part journal (run_from old).door run) meets

  pub promises_on : (ask : Ask Bits) → Promises ask seed disk (run_from mid) → Promises ask seed disk (run_from old)
  promises_on ask promises = record {
    meets = meets_on ask promises.meets;
    headline = subst (λ (s : ShelfState). ShowsClaims s.told ask part) same promises.headline;
    once = subst (λ (s : ShelfState). GrantsOnceIn disk_tells s.told ask part journal) same promises.once;
  }

-- bits do not change whether a service says how it goes
pub follows_given : (told : Option Files) (ask : Ask BitsAsk) (given : Ask Bits) → IsAskGiven told ask given → follows given ≡ follows ask
follows_given told (rehearse ask) given (public, bits, one, two, is) = ap follows is
follows_given told (generate ask) given is = ap follows is
follows_given told (rehearse_arith ask) given is = ap follows is
follows_given told (rehearse_poly ask) given is = ap follows is
follows_given told (eval ask) given (bits, one, is) = ap follows is
follows_given told (deal ask) given is = ap follows is
follows_given told (serve ask) given (public, outputs, one, two, is) = ap follows is
follows_given told (serve_many ask) given is = ap follows is
follows_given told (serve_arith ask) given is = ap follows is
follows_given told (serve_poly ask) given is = ap follows is
follows_given told (prove ask) given (public, bits, outputs, one, two, three, is) = ap follows is
follows_given told (prove_arith ask) given is = ap follows is
follows_given told (prove_poly ask) given is = ap follows is
follows_given told (audit ask) given (public, outputs, one, two, is) = ap follows is
follows_given told (audit_arith ask) given is = ap follows is
follows_given told (migrate ask) given is = ap follows is
follows_given told (status ask) given is = ap follows is
follows_given told (node ask) given is = ap follows is
follows_given told (broker ask) given is = ap follows is
follows_given told (serve_node ask) given (outputs, one, is) = ap follows is

-- a run says nothing beside the output, or a service is asked for that says how it goes
pub quiet_or_follows : {A : Type 0} (IsReadAs : Ask BitsAsk → Type 0) (ask : Ask BitsAsk) (old new : A) → IsReadAs ask
    → (follows ask ≡ false → new ≡ old) → (new ≡ old) ⊎ ((found : Ask BitsAsk) × IsReadAs found × (follows found ≡ true))
quiet_or_follows IsReadAs ask old new reads quiet = by_flag (follows ask) refl
  where
    by_flag : (flag : Bool) → follows ask ≡ flag → (new ≡ old) ⊎ ((found : Ask BitsAsk) × IsReadAs found × (follows found ≡ true))
    by_flag true is = inr (ask, reads, is)
    by_flag false is = inl (quiet is)
