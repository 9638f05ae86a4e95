-- Refused leases and refused journals.
use Rattle.std.proofs.Common.{◌≡◌, ℕ, List, refl, ap, ◌∙◌, subst, Option, Some, Result, Err}
use Rattle.zk_model.specs.declared.Span.{Span}
use Rattle.lease_journal.specs.declared.fault.StartFault.{StartFault}
use Rattle.lease_journal.specs.declared.fault.StartFault.TheVariants as start
use Rattle.lease_store.specs.Ceilings.{CeilingStartCause, SaysCeiling}
use Rattle.lease_store.specs.Laws.{CeilingsStartAgain}
use Rattle.lease_store.specs.declared.grantor.GrantFault.{GrantFault}
use Rattle.lease_store.specs.declared.LeaseFault.TheVariants as lease
use Rattle.lease_store.specs.declared.grantor.GrantFault.TheVariants as grant
use Rattle.session_pool.specs.Notes.{IsOfStore}
use Rattle.session_verifier.specs.Notes.{AnswersLease}
use Rattle.session_verifier.specs.Outcomes.{grant_fault, grant_outcome}
use Rattle.session_verifier.specs.declared.note.VerifierOutcome.{VerifierOutcome}

-- a journal that says a ceiling is refused by no fault but the device's
pub not_refused : CeilingsStartAgain → (id : List ℕ) (total base : ℕ) (bytes : List ℕ) (fault : StartFault) → SaysCeiling id total base bytes
    → CeilingStartCause id total bytes fault → (fault ≡ start.Device → ⊥) → ⊥
not_refused law id total base bytes fault says cause other = other ((law.said id total base bytes says).refused fault cause)

fault_back : (fault : GrantFault) → IsOfStore (Some (Err fault)) → grant_fault (grant_outcome fault) ≡ Some fault
fault_back (grant.Lease (lease.Exhausted at count total)) of = refl
fault_back (grant.Lease lease.Device) of = refl
fault_back (grant.Lease (lease.Broken first)) of = refl
fault_back grant.NoMemory of = absurd of
fault_back (grant.NoBlock wants) of = absurd of
fault_back grant.Broker of = absurd of

-- a lease that a store refused is told by the outcome
pub refusal_is_told : (answer : Option (Result Span GrantFault)) (outcome : VerifierOutcome) (fault : GrantFault) → IsOfStore answer
    → AnswersLease answer outcome → answer ≡ Some (Err fault) → grant_fault outcome ≡ Some fault
refusal_is_told answer outcome fault of answers same = ap grant_fault (answers fault same) ∙ fault_back fault (subst IsOfStore same of)
