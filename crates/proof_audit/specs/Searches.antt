-- What the sections and the opened wires of a session show.
use Rattle.std.specs.Prelude.{◌≡◌, ℕ, List, drop, length, slice_index, slice_index_or}
use Rattle.zk_model.specs.Field.{IsElement}
use Rattle.zk_model.specs.Polynomial.{IsZero}
use Rattle.zk_model.specs.Mac.{Pair, pair_at}
use Rattle.zk_model.specs.Program.{section_count}
use Rattle.zk_model.specs.Check.{section_triples, opened_pairs, error_polynomial, AllBelow, IsFirstFailure}
use Rattle.zk_model.specs.Transcript.{Hello}
use Rattle.zk_model.specs.View.{View}
use Rattle.zk_model.specs.ServedVerifier.{VerifierTask}
use Rattle.zk_model.specs.Finding.{IsSectionRoot, IsChallengeRoot}
use Rattle.check_findings.specs.Findings.{SectionMeets, OpeningMeets, ShowsOpening, IsErrorRoot, IsSumRoot}
use Rattle.proof_audit.specs.SeenWires.{SeenSide}
use Rattle.proof_audit.specs.Stages.{transcript_read}
use Rattle.check_findings.specs.declared.finding.Finding.{Finding}
use Rattle.check_findings.specs.declared.finding.Finding.TheVariants.{Inputs, ChallengeRoot, KeyRoot, NotAccepted}
use Rattle.proof_audit.specs.declared.session.Session.{Session}

-- the pairs of a session, and those of its wires
abbrev pub view_of : SeenSide → List Pair → View
view_of side pairs = record { pairs = pairs; carried = side.pairs }

-- ---- sections

-- with some key the equation of every section holds
pub record SectionsMeet (side : SeenSide) (pairs : List Pair) (s : Session) : Type 0 where
  pub key : ℕ
  pub element : IsElement key
  pub meet : AllBelow (section_count side.program s.grant.section_length)
      (λ i. SectionMeets s.challenge (section_triples side.program s.grant.section_length side.pairs i)
      (pair_at (drop side.program.givens pairs) i) (slice_index_or s.sums.items i (0, 0)) key)

-- the errors of section i
abbrev pub errors_at : SeenSide → Session → ℕ → List ℕ
errors_at side s i = error_polynomial (section_triples side.program s.grant.section_length side.pairs i)

-- no section before this one has an error
abbrev pub NoErrorsBefore : SeenSide → Session → ℕ → Type 0
NoErrorsBefore side s n = AllBelow n (λ i. IsZero (errors_at side s i))

-- what section i shows, with its number
abbrev pub ShowsSectionAt : ℕ → SeenSide → List Pair → Session → Finding → Type 0
ShowsSectionAt i side pairs s (Inputs inputs) = ⊥
ShowsSectionAt i side pairs s (ChallengeRoot section polynomial) = (section ≡ i)
    × IsErrorRoot s.challenge (section_triples side.program s.grant.section_length side.pairs i)
    polynomial.items
ShowsSectionAt i side pairs s (KeyRoot polynomial) =
    IsSumRoot s.challenge (section_triples side.program s.grant.section_length side.pairs i)
    (pair_at (drop side.program.givens pairs) i) (slice_index_or s.sums.items i (0, 0)) polynomial.items
ShowsSectionAt i side pairs s NotAccepted = ⊥

-- what section i shows, which has an error
abbrev pub ShowsWrongSection : ℕ → SeenSide → List Pair → Session → Finding → Type 0
ShowsWrongSection i side pairs s finding = ¬ IsZero (errors_at side s i) × ShowsSectionAt i side pairs s finding

-- what the first section with an error shows
abbrev pub ShowsFirstSection : SeenSide → List Pair → Session → Finding → Type 0
ShowsFirstSection side pairs s (Inputs inputs) = ⊥
ShowsFirstSection side pairs s (ChallengeRoot section polynomial) = (task : VerifierTask) (greeting : Hello)
    → IsChallengeRoot side.program (transcript_read task greeting s 0 0)
    (view_of side pairs) section polynomial.items
ShowsFirstSection side pairs s (KeyRoot polynomial) = (task : VerifierTask) (greeting : Hello)
    → IsSectionRoot side.program (transcript_read task greeting s 0 0) (view_of side pairs) polynomial.items
ShowsFirstSection side pairs s NotAccepted = ⊥

-- ---- opened wires

-- with some key the equation of every opened wire holds
pub record OpeningsMeet (side : SeenSide) (macs claims : List ℕ) : Type 0 where
  pub key : ℕ
  pub element : IsElement key
  pub meet : AllBelow (length side.program.opened)
      (λ o. OpeningMeets (pair_at (opened_pairs side.program side.pairs) o) (slice_index macs o)
      (slice_index claims o) key)

-- no opened wire before this one differs from its claim
abbrev pub AreAsClaimedBefore : SeenSide → List ℕ → ℕ → Type 0
AreAsClaimedBefore side claims n =
    AllBelow n (λ o. (pair_at (opened_pairs side.program side.pairs) o).x ≡ slice_index claims o)

-- the first opened wire that is not as claimed, and what it shows
abbrev pub ShowsFirstOpening : SeenSide → List ℕ → Session → Finding → Type 0
ShowsFirstOpening side claims s finding = (o : ℕ)
    × IsFirstFailure (λ n. (pair_at (opened_pairs side.program side.pairs) n).x ≡ slice_index claims n)
    (length side.program.opened) o
    × ShowsOpening (pair_at (opened_pairs side.program side.pairs) o) (slice_index s.openings.items o)
    (slice_index claims o) finding
