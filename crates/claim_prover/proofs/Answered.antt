-- What a prover's session leaves, by its claimant's answer alone.
use Rattle.std.proofs.Common.{◌≡◌, ◌⊎◌, inl, inr, None, Result, [], ◌∷◌, refl, ap, subst, arith}
use Rattle.zk_model.specs.Files.{ProverFile}
use Rattle.zk_model.specs.Frames.{Frame, hello, grant, asks, replies, corrections, challenge, sums, openings, poly_sums, verdict, refuse, want, block, out}
use Rattle.zk_model.specs.Transcript.{Grant}
use Rattle.zk_model.specs.declared.Expect.{Expect}
use Rattle.zk_model.specs.declared.Expect.TheVariants as expect
use Rattle.zk_model.specs.declared.Side.TheVariants.{Prover}
use Rattle.zk_model.specs.declared.Span.{Span}
use Rattle.claim_store.specs.declared.ClaimFault.{ClaimFault}
use Rattle.frame_link.specs.Lines.{LinkSnapshot}
use Rattle.session_prover.specs.Stages.{Claim, ClaimantTells, Claimed, told_claim}
use Rattle.session_claim.specs.Claims as claims_of
use Rattle.session_script.specs.Scripts.{stage_of}
use Rattle.session_script.proofs.Mapping.{Carries, carried_leaves}
use Rattle.claim_prover.specs.Sessions.{ProverLeaves, IsUnbegun, LeavesTold, answer_alone, unasked}
use Rattle.claim_prover.specs.Telling.{Knowledge, Known, TakesUnits, RefusesGrant, RefusesGranted, ProverPasses, ProverRefuses, ProverDeclines, nothing_told, known_of, prover_rules}
use Rattle.claim_prover.specs.declared.fault.ProvingFault.{ProvingFault}
use Rattle.claim_prover.specs.declared.fault.ProvingFault.TheVariants.{BadGrant, PeerRefused}
use Rattle.claim_prover.specs.declared.fault.ProvingFault.TheVariants as fault
use Rattle.claim_prover.specs.declared.prove.ProverEnd.{ProverEnd}

module _ {O : Type 0} (claims : ClaimantTells O) (knows : Knowledge) (file : ProverFile) where
  abbrev alone : ClaimantTells Claim
  alone = answer_alone file.params.total

  -- what is known, told so
  abbrev told_of : Known O → Known Claim
  told_of known = known_of known.told (told_claim claims known.claimant)

  told_claimed : (given : Grant) (answer : Result Span ClaimFault) (old new : O) → Claimed claims given answer old new
      → Claimed alone given answer (told_claim claims old) (told_claim claims new)
  told_claimed given answer old new claimed = record {
    asked = claimed.asked;
    told = claimed.told;
    moves = (λ i. record { asked = claimed.asked i; answer = claimed.told i });
  }

  told_takes : (claim : claims_of.Claim) (given : Grant) (old new : O) → TakesUnits claims claim file given old new
      → TakesUnits alone claim file given (told_claim claims old) (told_claim claims new)
  told_takes claim given old new takes = record { suits = takes.suits; claimed = told_claimed given _ old new takes.claimed; within = takes.within }

  told_refuses : (given : Grant) (cause : ProvingFault) (old new : O) → RefusesGrant claims knows.claim file given cause old new
      → RefusesGrant alone knows.claim file given cause (told_claim claims old) (told_claim claims new)
  told_refuses given BadGrant old new refuses = (refuses.0, ap (told_claim claims) refuses.1)
  told_refuses given (PeerRefused code) old new refuses = absurd refuses
  told_refuses given (fault.Claim cause) old new refuses = (refuses.0, told_claimed given _ old new refuses.1)
  told_refuses given fault.NoMemory old new refuses = told_takes knows.claim given old new refuses

  told_granted : (old : Known O) (frame : Frame) (cause : ProvingFault) (new : Known O) → RefusesGranted claims knows file old frame cause new
      → RefusesGranted alone knows file (told_of old) frame cause (told_of new)
  told_granted old frame cause new refuses = record {
    given = refuses.given;
    is = refuses.is;
    refuses = told_refuses refuses.given cause old.claimant new.claimant refuses.refuses;
    told = refuses.told;
  }

  told_passes : (old : Known O) (frame : Frame) (new : Known O) → ProverPasses claims knows file old frame new → ProverPasses alone knows file (told_of old) frame (told_of new)
  told_passes old (grant given) new passes = record { takes = told_takes knows.claim given old.claimant new.claimant passes.takes; told = passes.told }
  told_passes old (hello said) new passes = (passes.0, ap (told_claim claims) passes.1)
  told_passes old (asks said) new passes = (passes.0, ap (told_claim claims) passes.1)
  told_passes old (replies said) new passes = (passes.0, ap (told_claim claims) passes.1)
  told_passes old (corrections elements) new passes = (passes.0, ap (told_claim claims) passes.1)
  told_passes old (challenge element) new passes = (passes.0, ap (told_claim claims) passes.1)
  told_passes old (sums both) new passes = (passes.0, ap (told_claim claims) passes.1)
  told_passes old (openings macs) new passes = (passes.0, ap (told_claim claims) passes.1)
  told_passes old (poly_sums elements) new passes = (passes.0, ap (told_claim claims) passes.1)
  told_passes old (verdict code number) new passes = (passes.0, ap (told_claim claims) passes.1)
  told_passes old (refuse code) new passes = (passes.0, ap (told_claim claims) passes.1)
  told_passes old (want said) new passes = (passes.0, ap (told_claim claims) passes.1)
  told_passes old (block given) new passes = (passes.0, ap (told_claim claims) passes.1)
  told_passes old (out said) new passes = (passes.0, ap (told_claim claims) passes.1)

  told_refused : (old : Known O) (frame : Frame) (cause : ProvingFault) (new : Known O) → ProverRefuses claims knows file old frame cause new
      → ProverRefuses alone knows file (told_of old) frame cause (told_of new)
  told_refused old frame BadGrant new refuses = told_granted old frame BadGrant new refuses
  told_refused old frame (PeerRefused code) new refuses = (refuses.0, ap told_of refuses.1)
  told_refused old frame (fault.Claim cause) new refuses = told_granted old frame (fault.Claim cause) new refuses
  told_refused old frame fault.NoMemory new (inl same) = inl (ap (told_claim claims) same)
  told_refused old frame fault.NoMemory new (inr refuses) = inr (told_granted old frame fault.NoMemory new refuses)

  told_declines : (old : Known O) (place : Expect) (cause : ProvingFault) (new : Known O) → ProverDeclines claims knows file old place cause new
      → ProverDeclines alone knows file (told_of old) place cause (told_of new)
  told_declines old place BadGrant new declines = absurd declines
  told_declines old place (PeerRefused code) new declines = absurd declines
  told_declines old place (fault.Claim cause) new declines = absurd declines
  told_declines old place fault.NoMemory new declines = ap (told_claim claims) declines

  carries : Carries told_of (prover_rules claims knows file) (prover_rules alone knows file)
  carries = record {
    places = refl;
    behind = refl;
    code = λ cause. refl;
    first = λ known untold. record { told = untold.told; unasked = untold.unasked; total = omega arith };
    passes = told_passes;
    refuses = told_refused;
    declines = told_declines;
  }

  module _ (old new : O) (end : ProverEnd) (first now : LinkSnapshot) where
    told_unbegun : IsUnbegun old new end first now → IsUnbegun (told_claim claims old) (told_claim claims new) end first now
    told_unbegun unbegun = record { ended_is = unbegun.ended_is; claimant = ap (told_claim claims) unbegun.claimant; same = unbegun.same }

    told_leaves : ProverLeaves claims knows file old new end first now
        → ProverLeaves alone knows file (told_claim claims old) (told_claim claims new) end first now
    told_leaves left = record {
      told = left.told;
      outcome = left.outcome;
      leaves = carried_leaves told_of (prover_rules claims knows file) (prover_rules alone knows file) carries Prover (hello (knows.greeting file.id) ∷ [])
          (stage_of (known_of nothing_told old) (expect.Grant ∷ [])) (known_of left.told new) left.outcome first now left.leaves;
      ends = left.ends;
    }

    told_either : IsUnbegun old new end first now ⊎ ProverLeaves claims knows file old new end first now
        → IsUnbegun (told_claim claims old) (told_claim claims new) end first now
        ⊎ ProverLeaves alone knows file (told_claim claims old) (told_claim claims new) end first now
    told_either (inl unbegun) = inl (told_unbegun unbegun)
    told_either (inr left) = inr (told_leaves left)

    pub told_so : claims.asked old ≡ None → claims.answer old ≡ None → IsUnbegun old new end first now ⊎ ProverLeaves claims knows file old new end first now
        → LeavesTold knows file (told_claim claims new) end first now
    told_so none silent left =
        subst (λ (c : Claim). IsUnbegun c (told_claim claims new) end first now ⊎ ProverLeaves alone knows file c (told_claim claims new) end first now)
        (λ i. record { asked = none i; answer = silent i }) (told_either left)
