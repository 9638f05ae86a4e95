-- What a verifier's session leaves, by the answer about its units alone.
use Rattle.std.proofs.Common.{◌≡◌, ◌⊎◌, inl, inr, Option, Some, None, Result, Ok, Err, List, [], ◌∷◌, ◌≤◌, refl, ap, subst, arith}
use Rattle.std.specs.Prelude.{ℕ}
use Rattle.zk_model.specs.Files.{VerifierFile}
use Rattle.zk_model.specs.Frames.{Frame, hello, grant, asks, replies, corrections, challenge, sums, openings, poly_sums, verdict, refuse, want, block, out}
use Rattle.zk_model.specs.Transcript.{Grant}
use Rattle.zk_model.specs.declared.Expect.{Expect}
use Rattle.zk_model.specs.declared.Side.TheVariants.{Verifier}
use Rattle.zk_model.specs.declared.Span.{Span}
use Rattle.lease_store.specs.declared.grantor.GrantFault.{GrantFault}
use Rattle.frame_link.specs.Lines.{LinkSnapshot}
use Rattle.session_verifier.specs.Serving.{Grants, Leases}
use Rattle.session_claim.specs.Claims.{Claim}
use Rattle.session_claim.specs.Script.{first_places}
use Rattle.session_script.specs.Scripts.{stage_of}
use Rattle.session_script.proofs.Mapping.{Carries, carried_leaves}
use Rattle.claim_verifier.specs.Sessions.{Answer, IsUnbegun, LeavesTold, VerifierLeaves, answer_alone}
use Rattle.claim_verifier.specs.Hearing.{Known, GrantsUnits, VerifierPasses, VerifierRefuses, VerifierDeclines, known_of, nothing_heard, units_of, verifier_rules}
use Rattle.claim_verifier.specs.declared.fault.VoiceFault.{VoiceFault}
use Rattle.claim_verifier.specs.declared.fault.VoiceFault.TheVariants.{BadHello}
use Rattle.claim_verifier.specs.declared.fault.VoiceFault.TheVariants as fault
use Rattle.claim_verifier.specs.declared.verify.SessionEnd.{SessionEnd}

module _ {R : Type 0} (grants : Grants R) (claim : Claim) (file : VerifierFile) (section_length : ℕ) where
  abbrev alone : Grants Answer
  alone = answer_alone (units_of claim file section_length) file.params.total

  -- what is known, told so
  abbrev told_of : Known R → Known Answer
  told_of known = known_of known.heard (grants.answer known.grantor)

  told_leased : (answer : Result Span GrantFault) (old new : R) → Leases grants (units_of claim file section_length) answer old new
      → Leases alone (units_of claim file section_length) answer (grants.answer old) (grants.answer new)
  told_leased answer old new leases = record { told = leases.told; asked = refl; total = refl; moves = tt }

  told_granted : (old : Known R) (given : Grant) (new : Known R) → GrantsUnits grants claim file section_length old given new
      → GrantsUnits alone claim file section_length (told_of old) given (told_of new)
  told_granted old given new units = record {
    span = units.span;
    leased = told_leased (Ok units.span) old.grantor new.grantor units.leased;
    counted = units.counted;
    within = units.within;
    few = units.few;
    given_is = units.given_is;
    heard = units.heard;
  }

  told_passes : (old : Known R) (frame : Frame) (new : Known R) → VerifierPasses grants claim file section_length old frame new
      → VerifierPasses alone claim file section_length (told_of old) frame (told_of new)
  told_passes old (grant given) new passes = told_granted old given new passes
  told_passes old (hello said) new passes = (passes.0, ap grants.answer passes.1)
  told_passes old (asks said) new passes = (passes.0, ap grants.answer passes.1)
  told_passes old (replies said) new passes = (passes.0, ap grants.answer passes.1)
  told_passes old (corrections elements) new passes = (passes.0, ap grants.answer passes.1)
  told_passes old (challenge element) new passes = (passes.0, ap grants.answer passes.1)
  told_passes old (sums both) new passes = (passes.0, ap grants.answer passes.1)
  told_passes old (openings macs) new passes = (passes.0, ap grants.answer passes.1)
  told_passes old (poly_sums elements) new passes = (passes.0, ap grants.answer passes.1)
  told_passes old (verdict code number) new passes = (passes.0, ap grants.answer passes.1)
  told_passes old (refuse code) new passes = (passes.0, ap grants.answer passes.1)
  told_passes old (want said) new passes = (passes.0, ap grants.answer passes.1)
  told_passes old (block given) new passes = (passes.0, ap grants.answer passes.1)
  told_passes old (out said) new passes = (passes.0, ap grants.answer passes.1)

  told_refuses : (old : Known R) (frame : Frame) (cause : VoiceFault) (new : Known R) → VerifierRefuses grants claim file section_length old frame cause new
      → VerifierRefuses alone claim file section_length (told_of old) frame cause (told_of new)
  told_refuses old frame (BadHello differs) new refuses = (refuses.0, refuses.1, refuses.2, ap told_of refuses.3)
  told_refuses old frame (fault.Grant cause) new refuses = absurd refuses
  told_refuses old frame fault.NoMemory new refuses = ap grants.answer refuses

  told_declines : (old : Known R) (place : Expect) (cause : VoiceFault) (new : Known R) → VerifierDeclines grants claim file section_length old place cause new
      → VerifierDeclines alone claim file section_length (told_of old) place cause (told_of new)
  told_declines old place (BadHello differs) new declines = absurd declines
  told_declines old place (fault.Grant cause) new declines =
      (declines.0, told_leased (Err cause) old.grantor new.grantor declines.1, declines.2)
  told_declines old place fault.NoMemory new declines = ap grants.answer declines

  carries : Carries told_of (verifier_rules grants claim file section_length) (verifier_rules alone claim file section_length)
  carries = record {
    places = refl;
    behind = refl;
    code = λ cause. refl;
    first = λ known unheard. record { heard = unheard.heard; unasked = unheard.unasked; total = omega arith; few = unheard.few; may = tt };
    passes = told_passes;
    refuses = told_refuses;
    declines = told_declines;
  }

  module _ (old new : R) (ended : SessionEnd) (first now : LinkSnapshot) where
    told_either : IsUnbegun old new ended first now ⊎ VerifierLeaves grants claim file section_length old new ended first now
        → IsUnbegun (grants.answer old) (grants.answer new) ended first now
        ⊎ VerifierLeaves alone claim file section_length (grants.answer old) (grants.answer new) ended first now
    told_either (inl unbegun) = inl (record { ended_is = unbegun.ended_is; grantor = ap grants.answer unbegun.grantor; same = unbegun.same })
    told_either (inr left) = inr (record {
      heard = left.heard;
      outcome = left.outcome;
      leaves = carried_leaves told_of (verifier_rules grants claim file section_length) (verifier_rules alone claim file section_length) carries Verifier []
          (stage_of (known_of nothing_heard old) (first_places claim)) (known_of left.heard new) left.outcome first now left.leaves;
      ends = left.ends;
      shown = left.shown;
      whole = left.whole;
    })

    pub told_so : grants.answer old ≡ None → IsUnbegun old new ended first now ⊎ VerifierLeaves grants claim file section_length old new ended first now
        → LeavesTold claim file section_length (grants.answer new) ended first now
    told_so none left = subst (λ (a : Answer). IsUnbegun a (grants.answer new) ended first now
        ⊎ VerifierLeaves alone claim file section_length a (grants.answer new) ended first now) none (told_either left)
