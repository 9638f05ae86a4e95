-- What the prover sees of a session gives a finding.
use Rattle.std.proofs.Common.{ℕ, ⊎_elim, inl, inr, length, take, slice_index, refl}
use Rattle.std.proofs.lemmas.Bool.{cases_eq}
use Rattle.zk_model.specs.Polynomial.{value_at}
use Rattle.zk_model.specs.Mac.{values_of, pair_at}
use Rattle.zk_model.specs.Statement.{Statement}
use Rattle.zk_model.specs.Transcript.{Transcript, sections_of}
use Rattle.zk_model.specs.Check.{opened_pairs}
use Rattle.zk_model.specs.View.{View}
use Rattle.zk_model.specs.Finding.{Finding, found_inputs, found_challenge_root, found_key_root, section_errors, HasNoError, IsAsClaimed, AllWithoutError, IsFirstError, section_polynomial, wire_polynomial, Gives}
use Rattle.zk_laws.specs.Extraction.{FindingExists}
use Rattle.zk_laws.proofs.FirstFailures.{first_failure, zero_or_not}

-- a finding of a session
abbrev FindingOf : Statement → Transcript → View → Type 0
FindingOf statement t view = (finding : Finding) × Gives statement t view finding

-- a section with an error gives one, by a root at the challenge or at the key
of_section : (statement : Statement) (t : Transcript) (view : View) (s : ℕ)
    → IsFirstError statement.program t.commitment view s → FindingOf statement t view
of_section statement t view s first = ⊎_elim
    (λ root. (
      found_challenge_root s (section_errors statement.program t.commitment view s),
      record { first = first; polynomial_is = refl; met = root },
    ))
    (λ none. (
      found_key_root (section_polynomial statement.program t view s),
      inl (record { section = s; first = first; unmet = none; polynomial_is = refl }),
    ))
    (cases_eq (value_at (section_errors statement.program t.commitment view s) t.challenge) 0)

-- where there is no error, the opened wires give one, and where they are as claimed the inputs do
of_openings : (statement : Statement) (t : Transcript) (view : View)
    → AllWithoutError statement.program t.commitment view → FindingOf statement t view
of_openings statement t view none = ⊎_elim
    (λ claimed. (
      found_inputs (take statement.program.inputs (values_of view.carried.given)),
      record { right = none; claimed = claimed; inputs_are = refl },
    ))
    (λ first. (
      found_key_root (wire_polynomial statement t view first.0),
      inr (record { right = none; opened = first.0; first = first.1; polynomial_is = refl }),
    ))
    (first_failure (IsAsClaimed statement view)
    (λ o. cases_eq (pair_at (opened_pairs statement.program view.carried) o).x (slice_index statement.claims o))
    (length statement.program.opened))

pub finding_exists : FindingExists
finding_exists file statement t view seen = ⊎_elim
    (of_openings statement t view)
    (λ first. of_section statement t view first.0 first.1)
    (first_failure (HasNoError statement.program t.commitment view)
    (λ s. zero_or_not (section_errors statement.program t.commitment view s)) (sections_of statement.program t.commitment))
