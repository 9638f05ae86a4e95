-- No command ends with the status of words that ask for nothing.
use Rattle.std.proofs.Common.{◌≡◌, ℕ, List, Option, None, Some, refl, sym, ◌∙◌, subst, inl, inr, arith}
use Rattle.std.specs.Option.{option_map}
use Rattle.zk_port.specs.Links.{LinkState}
use Rattle.dealer_files.specs.declared.fault.FileFault.TheVariants as file
use Rattle.session_prover.specs.declared.note.ProverNote.{ProverNote}
use Rattle.session_prover.specs.declared.note.ProverOutcome.{ProverOutcome}
use Rattle.session_prover.specs.declared.note.ProverOutcome.TheVariants as ended
use Rattle.command_words.specs.BitWords.{Bits}
use Rattle.command_words.specs.Words.{Ask, ProvePolyAsk, RehearseArithAsk, RehearsePolyAsk, ServeManyAsk, ServePolyAsk}
use Rattle.command_words.specs.declared.asks.Ask.TheVariants.{Rehearse as rehearse, Generate as generate, RehearseArith as rehearse_arith, RehearsePoly as rehearse_poly, Eval as eval, Deal as deal, Serve as serve, ServeMany as serve_many, ServeArith as serve_arith, ServePoly as serve_poly, Prove as prove, ProveArith as prove_arith, ProvePoly as prove_poly, Audit as audit, AuditArith as audit_arith, Migrate as migrate, Status as status, Node as node, Broker as broker, ServeNode as serve_node}
use Rattle.claim_files.specs.Services.{Service, service_asked, service_of_arith, service_of_node}
use Rattle.file_commands.specs.Effects.{DoorChange, Effects, ShelfChange}
use Rattle.file_commands.specs.Journals.{DiskChange}
use Rattle.file_commands.specs.Stops.{IsOfStop, StatusMeans, stop_status}
use Rattle.file_commands.specs.declared.refusal.Refusal.{Refusal}
use Rattle.file_commands.specs.declared.refusal.Refusal.TheVariants as stop
use Rattle.proof_audit.specs.AuditRuns.{AuditMeans}
use Rattle.proof_audit.specs.NamedAudits.{Audit, audit_asked, audit_of_arith}
use Rattle.zk_cli.specs.ArithRuns.{ArithMeans, ArithRehearseStop}
use Rattle.claim_files.proofs.ClaimCauses.{not_usage}
use Rattle.zk_cli.specs.ManyRuns.{ServesMany, StatementsStop}
use Rattle.zk_cli.specs.Meets.{Meets}
use Rattle.zk_cli.specs.NodeServiceRuns.{claims_journal, place_asked}
use Rattle.prove_command.specs.BitsProofs.{BitsProofStop}
use Rattle.prove_command.specs.ElementsProofs.{ElementsProofStop}
use Rattle.prove_command.specs.NamedProofs.{BitsProof, ElementsProof}
use Rattle.prove_command.specs.Proofs.{Proof, proof_asked, proof_of_arith}
use Rattle.poly_files.specs.PolyFiles.{PolyWitnessStop}
use Rattle.prove_command.specs.ProveRuns.{ProveMeans, ProveStop, WitnessStop, proved_status}
use Rattle.prove_command.specs.declared.proof.ProofNames.{ProofNames}
use Rattle.prove_command.specs.declared.proof.ProofNames.TheVariants as names
use Rattle.prove_poly.specs.PolyProofs.{ProvePolyMeans, ProvePolyStop}
use Rattle.rehearse_poly.specs.PolyRuns.{PolyRehearseStop}
use Rattle.serve_poly.proofs.PolyUsage.{serve_two}
use Rattle.zk_cli.specs.PolyParts.{ProvesPolyPart, RehearsesPolyPart, ServesPolyPart}
use Rattle.zk_cli.specs.ProvedParts.{ProvesPart}
use Rattle.zk_cli.specs.Runs.{Run, told_change}
use Rattle.zk_cli.specs.ServeRuns.{OpenedJournal, ServiceMeans, StopsService, ceilings_journal}
use Rattle.zk_cli.specs.declared.finish.Part.{Part}
use Rattle.zk_cli.specs.declared.finish.Part.TheVariants.{Brokered, Plain, Proved, Rehearsed, RehearsedClaim, RehearsedElements, Served}

two_is_usage : (why : Refusal) → 2 ≡ stop_status why → why ≡ stop.Usage
two_is_usage stop.Usage two = refl
two_is_usage (stop.BadText fault) two = absurd (omega (arith, two))
two_is_usage (stop.BadFile file.BadMagic) two = absurd (omega (arith, two))
two_is_usage (stop.BadFile file.BadKind) two = absurd (omega (arith, two))
two_is_usage (stop.BadFile file.BadParam) two = absurd (omega (arith, two))
two_is_usage (stop.BadFile (file.Length need got)) two = absurd (omega (arith, two))
two_is_usage (stop.BadFile (file.BadElement place)) two = absurd (omega (arith, two))
two_is_usage (stop.BadFile file.ZeroKey) two = absurd (omega (arith, two))
two_is_usage (stop.BadFile file.BadDigest) two = absurd (omega (arith, two))
two_is_usage (stop.BadFile file.NoMemory) two = absurd (omega (arith, two))
two_is_usage (stop.TooLong limit) two = absurd (omega (arith, two))
two_is_usage (stop.ManyPublic inputs got) two = absurd (omega (arith, two))
two_is_usage (stop.WrongBits need got) two = absurd (omega (arith, two))
two_is_usage (stop.WrongOutputs need got) two = absurd (omega (arith, two))
two_is_usage (stop.BadElements fault) two = absurd (omega (arith, two))
two_is_usage (stop.BadConstraints fault) two = absurd (omega (arith, two))
two_is_usage (stop.NotDealt unit) two = absurd (omega (arith, two))
two_is_usage (stop.BadLog place) two = absurd (omega (arith, two))
two_is_usage (stop.StatementLine line) two = absurd (omega (arith, two))
two_is_usage (stop.StatementCount lines) two = absurd (omega (arith, two))
two_is_usage (stop.Unsatisfied output) two = absurd (omega (arith, two))
two_is_usage stop.DoorFailed two = absurd (omega (arith, two))
two_is_usage stop.ShelfFailed two = absurd (omega (arith, two))
two_is_usage stop.NoMemory two = absurd (omega (arith, two))
two_is_usage (stop.TooLarge need units) two = absurd (omega (arith, two))
two_is_usage (stop.JournalShort need got) two = absurd (omega (arith, two))
two_is_usage (stop.JournalHeader place) two = absurd (omega (arith, two))
two_is_usage (stop.JournalBody slot) two = absurd (omega (arith, two))
two_is_usage (stop.JournalFailed count) two = absurd (omega (arith, two))

-- a stop for another cause, or want of memory
pub stop_two : (Cause : Refusal → Type 0) (answer : ℕ) → ¬ Cause stop.Usage → IsOfStop Cause answer → answer ≡ 2 → ⊥
stop_two Cause answer unused found two = unused (subst Cause (two_is_usage found.0 (sym two ∙ found.2)) found.1)

means_two : (Does : Type 0) (Cause : Refusal → Type 0) (IsNamed : List ℕ → Type 0) (run : Effects) → StatusMeans Does Cause IsNamed run
    → run.status ≡ 2 → ⊥
means_two Does Cause IsNamed run (inl (zero_is, done)) two = omega (arith, zero_is, two)
means_two Does Cause IsNamed run (inr (inl (three, cause))) two = omega (arith, three, two)
means_two Does Cause IsNamed run (inr (inr (inl (four, failed)))) two = omega (arith, four, two)
means_two Does Cause IsNamed run (inr (inr (inr (inl seven)))) two = omega (arith, seven, two)
means_two Does Cause IsNamed run (inr (inr (inr (inr (nine, cause))))) two = omega (arith, nine, two)

-- ---- services

service_unused : (journal : OpenedJournal) (service : Service) (shelf : ShelfChange) (disk : DiskChange) (door : DoorChange)
    → StopsService journal service shelf disk door stop.Usage → ⊥
service_unused journal service shelf disk door (inl (inl lacks, unasked, unheard)) = not_usage lacks.claim shelf lacks.cause
service_unused journal service shelf disk door (inl (inr lacks, unasked, unheard)) = absurd lacks.1
service_unused journal service shelf disk door (inr opening) = elim opening.2.2 [ inl cause ↦ absurd cause.0 | inr unheard ↦ absurd unheard ]

service_two : {L : Type 0} (journal : OpenedJournal) (service : Service) (part : Part L) (disk : DiskChange) (door : DoorChange) (run : Effects)
    → ServiceMeans journal service part disk door run → run.status ≡ 2 → ⊥
service_two journal service (Served notes) disk door run (inl (zero_is, all)) two = omega (arith, zero_is, two)
service_two journal service (Served notes) disk door run (inr (inl (one, some))) two = omega (arith, one, two)
service_two journal service (Served notes) disk door run (inr (inr (inl (four, some)))) two = omega (arith, four, two)
service_two journal service (Served notes) disk door run (inr (inr (inr (inl five)))) two = let at = five.0 in omega (arith, at, two)
service_two journal service (Served notes) disk door run (inr (inr (inr (inr (inl (six, some)))))) two = omega (arith, six, two)
service_two journal service (Served notes) disk door run (inr (inr (inr (inr (inr seven))))) two = omega (arith, seven, two)
service_two journal service Plain disk door run (inl stopped) two =
    stop_two (StopsService journal service run.shelf disk door) run.status (service_unused journal service run.shelf disk door) stopped two
service_two journal service Plain disk door run (inr seven) two = omega (arith, seven, two)
service_two journal service (Rehearsed r) disk door run means two = means
service_two journal service (RehearsedElements r) disk door run means two = means
service_two journal service (RehearsedClaim r) disk door run means two = means
service_two journal service (Proved note) disk door run means two = means
service_two journal service (Brokered notes) disk door run means two = means

many_two : {L : Type 0} (link_tells : L → LinkState) (ask : ServeManyAsk) (part : Part L) (disk : DiskChange) (door : DoorChange) (run : Effects)
    → ServesMany link_tells ask part disk door run → run.status ≡ 2 → ⊥
many_two link_tells ask part disk door run many two = elim many.runs [
  | inl served ↦ service_two (ceilings_journal served.0) served.0 part disk door run served.2.means two
  | inr lacks ↦ (elim lacks.means [
    | inl stopped ↦ stop_two (StatementsStop ask run.shelf) run.status (λ cause. cause) stopped two
    | inr seven ↦ omega (arith, seven, two)
  ])
]

-- ---- proofs

bits_unused : (proof : BitsProof) (shelf : ShelfChange) → BitsProofStop proof shelf stop.Usage → ⊥
bits_unused proof shelf (inl cause) = absurd cause
bits_unused proof shelf (inr cause) = absurd cause.is

elements_unused : (proof : ElementsProof) (shelf : ShelfChange) → ElementsProofStop proof shelf stop.Usage → ⊥
elements_unused proof shelf (inl cause) = absurd cause
elements_unused proof shelf (inr cause) = elim cause.is [
  | inl values ↦ absurd values
  | inr given ↦ (elim given.is [ inl outputs ↦ absurd outputs | inr found ↦ absurd found.is ])
]

witness_unused : (proof : ProofNames) (shelf : ShelfChange) → WitnessStop proof shelf stop.Usage → ⊥
witness_unused (names.Boolean proof) shelf cause = bits_unused proof shelf cause
witness_unused (names.Arithmetic proof) shelf cause = elements_unused proof shelf cause

prove_unused : (proof : Proof) (shelf : ShelfChange) (disk : DiskChange) (door : DoorChange) → ProveStop proof shelf disk door stop.Usage → ⊥
prove_unused proof shelf disk door (inl (inl cause, unasked, unheard)) = witness_unused proof.names shelf cause
prove_unused proof shelf disk door (inl (inr cause, unasked, unheard)) = absurd cause.1
prove_unused proof shelf disk door (inr cause) = elim cause.2.cause [ inl journal ↦ absurd journal.0 | inr unheard ↦ absurd unheard ]

proved_two : (outcome : ProverOutcome) → 2 ≡ proved_status outcome → ⊥
proved_two ended.Accepted two = omega (arith, two)
proved_two (ended.Rejected code number) two = omega (arith, two)
proved_two (ended.PeerEnded at) two = omega (arith, two)
proved_two (ended.BadFrame place) two = omega (arith, two)
proved_two ended.BadGrant two = omega (arith, two)
proved_two (ended.PeerRefused code) two = omega (arith, two)
proved_two (ended.Overlap earlier) two = omega (arith, two)
proved_two (ended.OutOfRange total) two = omega (arith, two)
proved_two (ended.Full slots) two = omega (arith, two)
proved_two (ended.Broken first) two = omega (arith, two)
proved_two ended.Device two = omega (arith, two)
proved_two ended.Link two = omega (arith, two)
proved_two ended.NoMemory two = omega (arith, two)

note_two : {L : Type 0} (proof : Proof) (note : Option (ProverNote L)) (disk : DiskChange) (door : DoorChange) (run : Effects)
    → ProveMeans proof note disk door run → run.status ≡ 2 → ⊥
note_two proof (Some note) disk door run (inl accepted) two = let zero_is = accepted.0 in omega (arith, zero_is, two)
note_two proof (Some note) disk door run (inr (inl other)) two = proved_two note.outcome (sym two ∙ other.0)
note_two proof (Some note) disk door run (inr (inr (inl (four, failed)))) two = omega (arith, four, two)
note_two proof (Some note) disk door run (inr (inr (inr seven))) two = omega (arith, seven, two)
note_two proof None disk door run (inl stopped) two =
    stop_two (ProveStop proof run.shelf disk door) run.status (prove_unused proof run.shelf disk door) stopped two
note_two proof None disk door run (inr (inl (four, failed))) two = omega (arith, four, two)
note_two proof None disk door run (inr (inr seven)) two = omega (arith, seven, two)

prove_two : {L : Type 0} (link_tells : L → LinkState) (proof : Proof) (part : Part L) (disk : DiskChange) (door : DoorChange) (run : Effects)
    → ProvesPart link_tells proof part disk door run → run.status ≡ 2 → ⊥
prove_two link_tells proof part disk door run held two = note_two proof held.note disk door run held.proves.means two

-- ---- constraints

witness_lacks : (text values : List ℕ) (shelf : ShelfChange) → PolyWitnessStop text values shelf stop.Usage → ⊥
witness_lacks text values shelf (inl cause) = absurd cause
witness_lacks text values shelf (inr cause) = elim cause.is [ inl lacks ↦ absurd lacks | inr unmet ↦ absurd unmet.is ]

poly_prove_unused : (ask : ProvePolyAsk) (shelf : ShelfChange) (disk : DiskChange) (door : DoorChange)
    → ProvePolyStop ask shelf disk door stop.Usage → ⊥
poly_prove_unused ask shelf disk door (inl (inl cause, unasked, unheard)) = witness_lacks ask.text ask.values shelf cause
poly_prove_unused ask shelf disk door (inl (inr cause, unasked, unheard)) = absurd cause.1
poly_prove_unused ask shelf disk door (inr cause) = elim cause.2.cause [ inl journal ↦ absurd journal.0 | inr unheard ↦ absurd unheard ]

poly_note_two : {L : Type 0} (ask : ProvePolyAsk) (note : Option (ProverNote L)) (disk : DiskChange) (door : DoorChange) (run : Effects)
    → ProvePolyMeans ask note disk door run → run.status ≡ 2 → ⊥
poly_note_two ask (Some note) disk door run (inl accepted) two = let zero_is = accepted.0 in omega (arith, zero_is, two)
poly_note_two ask (Some note) disk door run (inr (inl other)) two = proved_two note.outcome (sym two ∙ other.0)
poly_note_two ask (Some note) disk door run (inr (inr (inl (four, failed)))) two = omega (arith, four, two)
poly_note_two ask (Some note) disk door run (inr (inr (inr seven))) two = omega (arith, seven, two)
poly_note_two ask None disk door run (inl stopped) two =
    stop_two (ProvePolyStop ask run.shelf disk door) run.status (poly_prove_unused ask run.shelf disk door) stopped two
poly_note_two ask None disk door run (inr (inl (four, failed))) two = omega (arith, four, two)
poly_note_two ask None disk door run (inr (inr seven)) two = omega (arith, seven, two)

poly_prove_two : {L : Type 0} (link_tells : L → LinkState) (ask : ProvePolyAsk) (part : Part L) (disk : DiskChange) (door : DoorChange)
    (run : Effects) → ProvesPolyPart link_tells ask part disk door run → run.status ≡ 2 → ⊥
poly_prove_two link_tells ask part disk door run held two = poly_note_two ask held.note disk door run held.proves.means two

poly_rehearse_unused : (ask : RehearsePolyAsk) (shelf : ShelfChange) → PolyRehearseStop ask shelf stop.Usage → ⊥
poly_rehearse_unused ask shelf cause = witness_lacks ask.text ask.values shelf cause

poly_rehearse_two : {L : Type 0} (ask : RehearsePolyAsk) (seed : List ℕ) (part : Part L) (run : Effects)
    → RehearsesPolyPart ask seed part run → run.status ≡ 2 → ⊥
poly_rehearse_two ask seed part run held two = elim held.rehearses.means [
  | inl (zero_is, accepts) ↦ omega (arith, zero_is, two)
  | inr (inl stopped) ↦
      stop_two (PolyRehearseStop ask run.shelf) run.status (poly_rehearse_unused ask run.shelf) stopped two
  | inr (inr (inl (four, failed))) ↦ omega (arith, four, two)
  | inr (inr (inr seven)) ↦ omega (arith, seven, two)
]

poly_serve_two : {L : Type 0} (link_tells : L → LinkState) (ask : ServePolyAsk) (part : Part L) (disk : DiskChange) (door : DoorChange)
    (run : Effects) → ServesPolyPart link_tells ask part disk door run → run.status ≡ 2 → ⊥
poly_serve_two link_tells ask part disk door run held two =
    serve_two link_tells ask (option_map (λ notes. notes.items) held.notes) disk door run held.serves two

-- ---- rehearsals of arithmetic circuits

arith_unused : (ask : RehearseArithAsk) (shelf : ShelfChange) → ArithRehearseStop ask shelf stop.Usage → ⊥
arith_unused ask shelf (inl cause) = absurd cause
arith_unused ask shelf (inr cause) = absurd cause.is

arith_two : {L : Type 0} (ask : RehearseArithAsk) (part : Part L) (run : Effects) → ArithMeans ask part run → run.status ≡ 2 → ⊥
arith_two ask part run (inl (zero_is, accepts)) two = omega (arith, zero_is, two)
arith_two ask part run (inr (inl stopped)) two =
    stop_two (ArithRehearseStop ask run.shelf) run.status (arith_unused ask run.shelf) stopped two
arith_two ask part run (inr (inr (inl (four, failed)))) two = omega (arith, four, two)
arith_two ask part run (inr (inr (inr seven))) two = omega (arith, seven, two)

-- ---- audits

audit_two : (asked : Audit) (run : Effects) → AuditMeans asked run → run.status ≡ 2 → ⊥
audit_two asked run (inl zero_is) two = let at = zero_is.0 in omega (arith, at, two)
audit_two asked run (inr (inl one)) two = let at = one.0 in omega (arith, at, two)
audit_two asked run (inr (inr (inl three))) two = let at = three.0 in omega (arith, at, two)
audit_two asked run (inr (inr (inr (inl four)))) two = let at = four.0 in omega (arith, at, two)
audit_two asked run (inr (inr (inr (inr seven)))) two = omega (arith, seven, two)

-- ---- any command

pub command_two : {F L B D : Type 0} (ask : Ask Bits) (seed : List ℕ) (disk : DiskChange) (run : Run F L B D) → Meets ask seed disk run
    → run.effects.status ≡ 2 → ⊥
command_two (rehearse ask) seed disk run meets two = means_two _ _ _ run.effects meets.0.means two
command_two (generate ask) seed disk run meets two = means_two _ _ _ run.effects meets.0.means two
command_two (rehearse_arith ask) seed disk run meets two = arith_two ask run.part run.effects meets.0.means two
command_two (rehearse_poly ask) seed disk run meets two = poly_rehearse_two ask seed run.part run.effects meets.0 two
command_two (eval ask) seed disk run meets two = means_two _ _ _ run.effects meets.0.means two
command_two (deal ask) seed disk run meets two = means_two _ _ _ run.effects meets.0.means two
command_two (node ask) seed disk run meets two = means_two _ _ _ run.effects meets.0.means two
command_two (audit ask) seed disk run meets two = audit_two (audit_asked ask) run.effects meets.0.means two
command_two (audit_arith ask) seed disk run meets two = audit_two (audit_of_arith ask) run.effects meets.0.means two
command_two (migrate ask) seed disk run meets two = elim meets.0.statuses [
  | inl zero_is ↦ omega (arith, zero_is, two)
  | inr (inl three) ↦ omega (arith, three, two)
  | inr (inr (inl four)) ↦ omega (arith, four, two)
  | inr (inr (inr (inl five))) ↦ omega (arith, five, two)
  | inr (inr (inr (inr seven))) ↦ omega (arith, seven, two)
]
command_two (status ask) seed disk run meets two = elim meets.0.statuses [
  | inl zero_is ↦ omega (arith, zero_is, two)
  | inr (inl three) ↦ omega (arith, three, two)
  | inr (inr (inl four)) ↦ omega (arith, four, two)
  | inr (inr (inr (inl five))) ↦ omega (arith, five, two)
  | inr (inr (inr (inr seven))) ↦ omega (arith, seven, two)
]
command_two (serve ask) seed disk run meets two = service_two (ceilings_journal (service_asked ask)) (service_asked ask) run.part disk run.door run.effects meets.means two
command_two (serve_many ask) seed disk run meets two = many_two run.link_tells ask run.part disk run.door run.effects meets two
command_two (serve_arith ask) seed disk run meets two = service_two (ceilings_journal (service_of_arith ask)) (service_of_arith ask) run.part disk run.door run.effects meets.means two
command_two (serve_poly ask) seed disk run meets two = poly_serve_two run.link_tells ask run.part disk run.door run.effects meets two
command_two (prove ask) seed disk run meets two = prove_two run.link_tells (proof_asked ask) run.part disk run.door run.effects meets two
command_two (prove_arith ask) seed disk run meets two =
    prove_two run.link_tells (proof_of_arith ask) run.part disk run.door run.effects meets two
command_two (prove_poly ask) seed disk run meets two = poly_prove_two run.link_tells ask run.part disk run.door run.effects meets two
command_two (broker ask) seed disk run meets two = elim meets.serves.statuses [
  | inl zero_is ↦ omega (arith, zero_is, two)
  | inr (inl one) ↦ omega (arith, one, two)
  | inr (inr (inl three)) ↦ omega (arith, three, two)
  | inr (inr (inr (inl four))) ↦ omega (arith, four, two)
  | inr (inr (inr (inr (inl five)))) ↦ omega (arith, five, two)
  | inr (inr (inr (inr (inr (inl six))))) ↦ omega (arith, six, two)
  | inr (inr (inr (inr (inr (inr seven))))) ↦ omega (arith, seven, two)
]
command_two (serve_node ask) seed disk run meets two =
    service_two (claims_journal (service_of_node ask) (place_asked ask)) (service_of_node ask) run.part (told_change run.disk_tells run.journal) run.door run.effects meets.means two
