-- `rehearse-poly TEXT VALUES [--section G] [--extended]`: what it hands back and says, and what it promises of its run.
use Rattle.std.specs.Prelude.{◌≡◌, ◌≢◌, ◌⊎◌, ◌+◌, ◌-◌, ◌<◌, ◌≤◌, ℕ, List, ◌++◌, codes, length, Option, None, Some}
use Rattle.std.specs.Fmt.{decimal}
use Rattle.zk_model.specs.declared.Kind.{Kind}
use Rattle.zk_model.specs.declared.limits.TheConstants.{MAX_UNITS}
use Rattle.zk_port.specs.Files.{Files}
use Rattle.command_words.specs.Words.{RehearsePolyAsk}
use Rattle.poly_model.specs.Constraints.{AreMet, Constraints, degree}
use Rattle.session_core.specs.declared.judgement.Judgement.TheVariants.{Accepted}
use Rattle.session_rehearsal.specs.Rehearsals.{units_rehearsed}
use Rattle.claim_files.specs.ArithFiles.{IsEither}
use Rattle.poly_files.specs.PolyFiles.{AreValuesFor, IsPolyFile, IsPolyWitness, PolyWitnessStop}
use Rattle.file_commands.specs.Effects.{Effects, HasFailed, OnlyLoads, ShelfChange, SinkChange}
use Rattle.file_commands.specs.Stops.{IsOfStop, PrintsMade, SaysStop, WritesAll}
use Rattle.file_commands.specs.declared.refusal.Refusal.{Refusal}
use Rattle.file_commands.specs.declared.refusal.Refusal.TheVariants.{NoMemory, TooLarge}
use Rattle.claim_prover.specs.Telling.{Knowledge}
use Rattle.poly_session.specs.PolyClaims.{poly_claim}
use Rattle.poly_session.specs.PolyWitnesses.{poly_hello, poly_replies}
use Rattle.claim_rehearsal.specs.ClaimRehearsals.{IsClaimRehearsal}
use Rattle.claim_rehearsal.specs.declared.rehearsal.ClaimRehearsal.{ClaimRehearsal}
use Rattle.rehearse_poly.specs.declared.rehearsing.PolyRehearsal.{PolyRehearsal}

-- ---- the rehearsal

-- what a prover knows for constraints of a text with this digest, whose values are these
abbrev pub poly_knowledge : Constraints → List ℕ → List ℕ → Knowledge
poly_knowledge constraints digest values = record {
  claim = poly_claim constraints digest;
  greeting = λ id. poly_hello id digest;
  values = values;
  answers = λ pairs section_length challenge. poly_replies constraints values pairs challenge;
}

-- the correlations of a session: one for each value, and one fewer than the degree
abbrev pub poly_need : Constraints → ℕ
poly_need constraints = constraints.variables + (degree constraints - 1)

-- and its units
abbrev pub poly_units : Constraints → Kind → ℕ
poly_units constraints kind = units_rehearsed kind (poly_need constraints)

-- where a shelf tells, the texts under both names say constraints and values that meet all of them; and of these, with SHA-256 of the first text,
-- this holds
pub record HasMet (told : Option Files) (ask : RehearsePolyAsk) (Holds : Constraints → List ℕ → List ℕ → Type 0) : Type 0 where
  pub constraints : Constraints
  pub digest : List ℕ
  pub values : List ℕ
  pub witness : IsPolyWitness told ask.text ask.values constraints digest values
  pub is : Holds constraints digest values

-- this is a rehearsal of a session about them: its numbers are the defined ones, its log is that of an honest session over the files of the seed,
-- and the verifier accepts
pub record IsAcceptedRehearsal (ask : RehearsePolyAsk) (seed : List ℕ) (constraints : Constraints) (digest values : List ℕ) (r : ClaimRehearsal)
    : Type 0 where
  pub about : IsClaimRehearsal (poly_knowledge constraints digest values) ask.kind ask.section seed r
  pub accepted : r.judgement ≡ Accepted

-- beside it the numbers of the constraints
pub record IsCounted (ask : RehearsePolyAsk) (seed : List ℕ) (p : PolyRehearsal) (constraints : Constraints) (digest values : List ℕ) : Type 0 where
  pub variables : p.variables ≡ constraints.variables
  pub count : p.constraints ≡ length constraints.polynomials
  pub degree_is : p.degree ≡ degree constraints
  pub rehearsed : IsAcceptedRehearsal ask seed constraints digest values p.rehearsal

abbrev pub IsPolyRehearsal : Option Files → RehearsePolyAsk → List ℕ → PolyRehearsal → Type 0
IsPolyRehearsal told ask seed p = HasMet told ask (IsCounted ask seed p)

-- ---- its lines

-- how many variables and constraints there are, and their degree
abbrev pub counts_text : ℕ → ℕ → ℕ → List ℕ
counts_text variables constraints degree =
    codes "variables " ++ decimal variables ++ codes " constraints " ++ decimal constraints ++ codes " degree " ++ decimal degree ++ codes " "

-- what a session takes
abbrev pub takes_text : ℕ → ℕ → List ℕ
takes_text need units = codes "correlations " ++ decimal need ++ codes " units " ++ decimal units ++ codes "\n"

-- these, and that the verifier accepts, a line each
abbrev pub numbers_lines : ℕ → ℕ → ℕ → ℕ → ℕ → List ℕ
numbers_lines variables constraints degree need units = counts_text variables constraints degree ++ takes_text need units ++ codes "accepted\n"

abbrev pub lines_of : PolyRehearsal → List ℕ
lines_of p = numbers_lines p.variables p.constraints p.degree p.rehearsal.need p.rehearsal.units

abbrev pub poly_lines : Constraints → ClaimRehearsal → List ℕ
poly_lines constraints r =
    numbers_lines constraints.variables (length constraints.polynomials) (degree constraints) r.need r.units

-- ---- why there is none

-- a session takes so many correlations, and too many units
pub record IsPolyTooLarge (constraints : Constraints) (kind : Kind) (need units : ℕ) : Type 0 where
  pub needed : need ≡ poly_need constraints
  pub counted : units ≡ poly_units constraints kind
  pub many : MAX_UNITS < units

-- why there is none of constraints and values that meet them
abbrev pub TakesTooMany : Constraints → Kind → Refusal → Type 0
TakesTooMany constraints kind (TooLarge need units) = IsPolyTooLarge constraints kind need units
TakesTooMany constraints kind NoMemory = Unit {0}
TakesTooMany constraints kind other = ⊥

-- Why there is no rehearsal, the first of these: constraints with values that meet them can't be had; it takes too many units.
abbrev pub PolyRehearseStop : RehearsePolyAsk → ShelfChange → Refusal → Type 0
PolyRehearseStop ask shelf (TooLarge need units) =
    HasMet shelf.old.told ask (λ constraints digest values. IsPolyTooLarge constraints ask.kind need units)
PolyRehearseStop ask shelf other = PolyWitnessStop ask.text ask.values shelf other

-- ---- the run

-- such a rehearsal is handed back, and its lines are written; or nothing is, and the line of a stop is, which has its cause
abbrev pub SaysPolyRehearsal : RehearsePolyAsk → List ℕ → Option ClaimRehearsal → Effects → Type 0
SaysPolyRehearsal ask seed (Some r) run = HasMet run.shelf.old.told ask (λ constraints digest values.
    IsAcceptedRehearsal ask seed constraints digest values r × PrintsMade 0 (poly_lines constraints r) run.status run.sink)
SaysPolyRehearsal ask seed None run = SaysStop (PolyRehearseStop ask run.shelf) run

-- a rehearsal that is accepted is handed back, all its lines are written, and the sink did not fail
abbrev pub PolyAccepts : RehearsePolyAsk → List ℕ → Option ClaimRehearsal → Effects → Type 0
PolyAccepts ask seed (Some r) run = HasMet run.shelf.old.told ask (λ constraints digest values.
    IsAcceptedRehearsal ask seed constraints digest values r × WritesAll (poly_lines constraints r) run.sink)
PolyAccepts ask seed None run = ⊥

-- What the status says. 0: the rehearsal is accepted, and its lines are written; that of a stop which has its cause; 4: a call for one of
-- the names failed, or one of the sink; 7: no memory.
abbrev pub PolyMeans : RehearsePolyAsk → List ℕ → Option ClaimRehearsal → Effects → Type 0
PolyMeans ask seed rehearsal run =
    ((run.status ≡ 0) × PolyAccepts ask seed rehearsal run)
    ⊎ IsOfStop (PolyRehearseStop ask run.shelf) run.status
    ⊎ ((run.status ≡ 4) × HasFailed (IsEither ask.text ask.values) run)
    ⊎ (run.status ≡ 7)

-- a shelf that tells has these constraints, and values that meet them
pub record IsPolyReady (told : Option Files) (ask : RehearsePolyAsk) (constraints : Constraints) : Type 0 where
  pub tells : told ≢ None
  pub file : IsPolyFile told ask.text constraints
  pub values : List ℕ
  pub values_are : AreValuesFor told ask.values constraints values
  pub met : AreMet constraints values

-- memory aside, a session that takes so many units is rehearsed and accepted exactly where they are at most 4,096
abbrev pub AnswersFor : ℕ → ℕ → Type 0
AnswersFor units status =
    ((status ≡ 0) × (units ≤ MAX_UNITS)) ⊎ ((status ≡ 9) × (MAX_UNITS < units)) ⊎ (status ≡ 7)

-- What is handed back and said, or the line of a stop with its cause; nothing but both files is asked of the shelf; what the status says;
-- and where the shelf tells constraints and values that meet them, and nothing fails, the rehearsal is accepted, unless it takes too many
-- units.
pub record RehearsesPoly (ask : RehearsePolyAsk) (seed : List ℕ) (rehearsal : Option ClaimRehearsal) (run : Effects) : Type 0 where
  pub lines : SaysPolyRehearsal ask seed rehearsal run
  pub kept : OnlyLoads (IsEither ask.text ask.values) run.shelf
  pub means : PolyMeans ask seed rehearsal run
  pub done : (constraints : Constraints) → IsPolyReady run.shelf.old.told ask constraints
      → ¬ HasFailed (IsEither ask.text ask.values) run → AnswersFor (poly_units constraints ask.kind) run.status
