-- What a verifier knows at the place that comes next.
use Rattle.std.proofs.Common.{◌≡◌, ◌⊎◌, ℕ, inl, inr, Some, None, List, [], ◌∷◌, ◌++◌, length, ◌+◌, ◌-◌, ◌≤◌, refl, sym, ◌∙◌, ap, subst, arith, append-nil}
use Rattle.std.specs.Prelude.{All}
use Rattle.std.proofs.lemmas.List.Elements.{All-head}
use Rattle.zk_model.specs.Files.{VerifierFile, IsVerifierFile}
use Rattle.zk_model.specs.Frames.{Frame, hello, asks, replies, corrections, sums, openings, poly_sums, Allows, AreAsks, AreReplies}
use Rattle.zk_model.specs.Transcript.{Hello, Grant, TreeAsk, TreeReply}
use Rattle.zk_model.specs.declared.Expect.{Expect}
use Rattle.zk_model.specs.declared.Expect.TheVariants as expect
use Rattle.zk_model.specs.declared.Side.TheVariants.{Prover, Verifier}
use Rattle.proof_frames.specs.Frames.{frame_value}
use Rattle.proof_frames.specs.declared.frame.Frame as coded
use Rattle.proof_frames.specs.declared.frame.Frame.TheVariants as frames
use Rattle.session_laws.specs.Rounds.{RepliesAreInRange}
use Rattle.session_script.specs.Scripts.{stage_of, side_at, Reached}
use Rattle.session_verifier.specs.Serving.{Grants}
use Rattle.session_claim.specs.Claims.{Claim, HasPlaces, IsGreeting, IsVerdictPlace, AreAnswers, AllowsEach, IsExchange}
use Rattle.session_claim.specs.Script.{claim_places}
use Rattle.claim_verifier.specs.Hearing.{Heard, Known, RoundStage, asking, replying, units_of, exchange_in, IsUnheard, verifier_rules}
use Rattle.zk_model.specs.declared.limits.TheConstants.{MAX_DEALT_UNITS}
use Rattle.claim_verifier.specs.Rounds.{IsRoundOver, TakesAsks, IsToJudge, round_stage, keys_in}
use Rattle.claim_verifier.specs.declared.rounds.Rounds.{Rounds}
use Rattle.claim_verifier.specs.declared.rounds.Rounds.TheVariants.{Asking, Replying}
use Rattle.claim_verifier.proofs.Due.{coin_is_element, answers_rest, verdict_said, replies_places, HasGrant, AtFirst, AtAsks, AtReplies, AtAnswers, AtEnd, IsDue, due_at}

-- who says a verdict, and where it stands
verdict_side : (place : Expect) → IsVerdictPlace place → side_at place ≡ Verifier
verdict_side expect.Verdict is = refl
verdict_side expect.PolyVerdict is = refl
verdict_side place is = absurd is

verdict_no : (place : Expect) → IsVerdictPlace place → (place ≡ expect.Verdict → ⊥) → (place ≡ expect.PolyVerdict → ⊥) → ⊥
verdict_no expect.Verdict is no_verdict no_poly = no_verdict refl
verdict_no expect.PolyVerdict is no_verdict no_poly = no_poly refl
verdict_no place is no_verdict no_poly = is

-- one of the two places of a verdict
pub verdict_there : (place : Expect) → (place ≡ expect.Verdict) ⊎ (place ≡ expect.PolyVerdict) → IsVerdictPlace place
verdict_there place (inl is) = subst IsVerdictPlace (sym is) tt
verdict_there place (inr is) = subst IsVerdictPlace (sym is) tt

first_is : (place other : Expect) (rest others : List Expect) → place ∷ rest ≡ other ∷ others → place ≡ other
first_is place other rest others is = cc

module _ {R : Type 0} (grants : Grants R) (claim : Claim) (file : VerifierFile) (section_length : ℕ) (places : HasPlaces claim) (is_file : IsVerifierFile file)
    (in_range : RepliesAreInRange) (known : Known R) (place : Expect) (rest : List Expect)
    (reached : Reached (verifier_rules grants claim file section_length) (stage_of known (place ∷ rest))) where
  -- a whole exchange
  abbrev IsWhole : Grant → Type 0
  IsWhole given = HasGrant grants claim file section_length known.heard given × IsRoundOver file.params.kind known.heard.round × IsExchange claim (exchange_in file given known.heard)

  -- which place it is, and what is known there
  abbrev IsFirst : Type 0
  IsFirst = ((place ≡ claim.greeting) ⊎ (place ≡ expect.Grant)) × IsUnheard grants claim file section_length known

  abbrev IsAsk : Type 0
  IsAsk = (given : Grant) × (left : ℕ) × AtAsks grants claim file section_length given (stage_of known (place ∷ rest))
      × (place ≡ expect.Ask file.params.height file.params.trees left)

  abbrev IsReply : Type 0
  IsReply = (said : List TreeReply) × (due : List (List TreeReply)) × (left : ℕ) × (known.heard.round ≡ replying (said ∷ due))
      × AreReplies file.params.height file.params.trees said × (place ≡ expect.Reply file.params.height file.params.trees left)

  abbrev IsCorrections : Type 0
  IsCorrections = place ≡ expect.Corrections claim.givens

  abbrev IsChallenge : Type 0
  IsChallenge = (given : Grant) × HasGrant grants claim file section_length known.heard given × (place ≡ expect.Challenge)

  abbrev IsAnswer : Type 0
  IsAnswer = (count : ℕ) × ((place ≡ expect.Sums count) ⊎ (place ≡ expect.Openings count) ⊎ (place ≡ expect.PolySums count))

  abbrev IsVerdict : Type 0
  IsVerdict = (given : Grant) × IsWhole given × (place ≡ claim.verdict)

  abbrev Which : Type 0
  Which = IsFirst ⊎ IsAsk ⊎ IsReply ⊎ IsCorrections ⊎ IsChallenge ⊎ IsAnswer ⊎ IsVerdict

  by_replies : (given : Grant) (due : AtReplies grants claim file section_length given (stage_of known (place ∷ rest))) (list : List (List TreeReply)) → due.due ≡ list → Which
  by_replies given due [] is = inr (inr (inr (inl (first_is place (expect.Corrections claim.givens) rest _
      (due.left ∙ ap (λ (l : List (List TreeReply)). replies_places file given.count due.done (length l) ++ claim_places claim given.section_length) is)))))
  by_replies given due (said ∷ list) is = inr (inr (inl (
    said,
    list,
    given.count - due.done,
    due.round ∙ ap replying is,
    All-head (AreReplies file.params.height file.params.trees) said list (subst (All (AreReplies file.params.height file.params.trees)) is due.each),
    first_is place _ rest _ (due.left ∙ ap (λ (l : List (List TreeReply)). replies_places file given.count due.done (length l) ++ claim_places claim given.section_length) is),
  )))

  by_answers : (given : Grant) (due : AtAnswers grants claim file section_length given (stage_of known (place ∷ rest))) (more : List Expect) → due.rest ≡ more → AreAnswers more → Which
  by_answers given due [] is are = inr (inr (inr (inr (inr (inr (
    given,
    (
      due.has,
      due.over,
      record {
        corrections = due.corrections;
        challenge = coin_is_element _;
        answers = subst (λ l. AllowsEach l known.heard.answers) (sym (due.all ∙ ap (λ l. due.done ++ l) is ∙ append-nil due.done)) due.each;
      },
    ),
    first_is place claim.verdict rest [] (due.left ∙ ap (λ l. l ++ claim.verdict ∷ []) is),
  ))))))
  by_answers given due (expect.Sums count ∷ more) is are =
      inr (inr (inr (inr (inr (inl (count, inl (first_is place (expect.Sums count) rest _ (due.left ∙ ap (λ l. l ++ claim.verdict ∷ []) is))))))))
  by_answers given due (expect.Openings count ∷ more) is are =
      inr (inr (inr (inr (inr (inl (count, inr (inl (first_is place (expect.Openings count) rest _ (due.left ∙ ap (λ l. l ++ claim.verdict ∷ []) is)))))))))
  by_answers given due (expect.PolySums count ∷ more) is are =
      inr (inr (inr (inr (inr (inl (count, inr (inr (first_is place (expect.PolySums count) rest _ (due.left ∙ ap (λ l. l ++ claim.verdict ∷ []) is)))))))))
  by_answers given due (other ∷ more) is are = absurd are

  which : Which
  which = by (due_at grants claim file section_length places is_file in_range (stage_of known (place ∷ rest)) reached)
    where
      first : AtFirst grants claim file section_length (stage_of known (place ∷ rest)) → Which
      first due = elim due.left [
        | inl is ↦ inl (inl (first_is place claim.greeting rest (expect.Grant ∷ []) is), due.unheard)
        | inr is ↦ inl (inr (first_is place expect.Grant rest [] is), due.unheard)
      ]

      by : IsDue grants claim file section_length (stage_of known (place ∷ rest)) → Which
      by (inl due) = first due
      by (inr (inl (given, inl due))) = inr (inl (given, given.count - length due.asked, due, first_is place _ rest _ due.left))
      by (inr (inl (given, inr (inl due)))) = by_replies given due due.due refl
      by (inr (inl (given, inr (inr (inl due))))) = inr (inr (inr (inl (first_is place (expect.Corrections claim.givens) rest _ due.left))))
      by (inr (inl (given, inr (inr (inr (inl due)))))) = inr (inr (inr (inr (inl (given, due.has, first_is place expect.Challenge rest _ due.left)))))
      by (inr (inl (given, inr (inr (inr (inr due)))))) =
          by_answers given due due.rest refl (answers_rest due.done due.rest (subst AreAnswers due.all (places.answers given.section_length)))
      by (inr (inr end)) = let no : place ∷ rest ≡ [] = end.left in cc

  -- ---- of the peer's places

  -- a hello stands at its place
  pub hello_at : (said : Hello) → Allows place (hello said) → Allows claim.greeting (hello said)
  hello_at said allowed = by which
    where
      grant_no : Allows expect.Grant (hello said) → ⊥
      grant_no (inl (given, is, fit)) = cc
      grant_no (inr (code, is, fit)) = cc

      at : (other : Expect) → place ≡ other → Allows other (hello said)
      at other is = subst (λ p. Allows p (hello said)) is allowed

      by : Which → Allows claim.greeting (hello said)
      by (inl (inl is, unheard)) = at claim.greeting is
      by (inl (inr is, unheard)) = absurd (grant_no (at expect.Grant is))
      by (inr (inl (given, left, due, is))) = let no = (at _ is).1 in cc
      by (inr (inr (inl (said', due, left, round, are, is)))) = let no = (at _ is).1 in cc
      by (inr (inr (inr (inl is)))) = let no = (at _ is).1 in cc
      by (inr (inr (inr (inr (inl (given, has, is)))))) = let no = (at _ is).1 in cc
      by (inr (inr (inr (inr (inr (inl (count, inl is))))))) = let no = (at _ is).1 in cc
      by (inr (inr (inr (inr (inr (inl (count, inr (inl is)))))))) = let no = (at _ is).1 in cc
      by (inr (inr (inr (inr (inr (inl (count, inr (inr is)))))))) = let no = (at _ is).1 in cc
      by (inr (inr (inr (inr (inr (inr (given, whole, is))))))) = let no = (verdict_said claim.verdict (hello said) places.verdict (at _ is)).2 in cc

  -- asks stand at theirs
  pub asks_at : (said : List TreeAsk) → Allows place (asks said) → TakesAsks file known.heard.given known.heard.round said
  asks_at said allowed = by which
    where
      at : (other : Expect) → place ≡ other → Allows other (asks said)
      at other is = subst (λ p. Allows p (asks said)) is allowed

      grant_no : Allows expect.Grant (asks said) → ⊥
      grant_no (inl (given, is, fit)) = cc
      grant_no (inr (code, is, fit)) = cc

      greeting_no : (other : Expect) → IsGreeting other → Allows other (asks said) → ⊥
      greeting_no expect.Hello is allowed = let no = allowed.1 in cc
      greeting_no expect.ShortHello is allowed = let no = allowed.1 in cc
      greeting_no other is allowed = is

      by : Which → TakesAsks file known.heard.given known.heard.round said
      by (inl (inl is, unheard)) = absurd (greeting_no claim.greeting places.greeting (at claim.greeting is))
      by (inl (inr is, unheard)) = absurd (grant_no (at expect.Grant is))
      by (inr (inl (given, left, due, is))) =
          let here = at (expect.Ask file.params.height file.params.trees left) is in
          let same : said ≡ here.0 = (let e = here.1 in cc) in
          record {
            given = given;
            granted_is = due.has.granted;
            extended = due.extended;
            within = due.has.within;
            asked = due.asked;
            round_is = due.round;
            more = omega (arith, due.counted);
            each = due.each;
            are = subst (AreAsks file.params.height file.params.trees) (sym same) here.2;
          }
      by (inr (inr (inl (said', due, left, round, are, is)))) = let no = (at _ is).1 in cc
      by (inr (inr (inr (inl is)))) = let no = (at _ is).1 in cc
      by (inr (inr (inr (inr (inl (given, has, is)))))) = let no = (at _ is).1 in cc
      by (inr (inr (inr (inr (inr (inl (count, inl is))))))) = let no = (at _ is).1 in cc
      by (inr (inr (inr (inr (inr (inl (count, inr (inl is)))))))) = let no = (at _ is).1 in cc
      by (inr (inr (inr (inr (inr (inl (count, inr (inr is)))))))) = let no = (at _ is).1 in cc
      by (inr (inr (inr (inr (inr (inr (given, whole, is))))))) = let no = (verdict_said claim.verdict (asks said) places.verdict (at _ is)).2 in cc

  -- what the prover says is a hello, asks, corrections, sums or openings
  pub heard_is : (frame : Frame) → side_at place ≡ Prover → Allows place frame → ((said : Hello) → frame ≡ hello said → ⊥)
      → ((said : List TreeAsk) → frame ≡ asks said → ⊥) → ((elements : List ℕ) → frame ≡ corrections elements → ⊥)
      → ((both : List (ℕ × ℕ)) → frame ≡ sums both → ⊥) → ((macs : List ℕ) → frame ≡ openings macs → ⊥) → ((elements : List ℕ) → frame ≡ poly_sums elements → ⊥) → ⊥
  heard_is frame prover allowed no_hello no_asks no_corrections no_sums no_openings no_poly_sums = by which
    where
      at : (other : Expect) → place ≡ other → Allows other frame
      at other is = subst (λ p. Allows p frame) is allowed

      side_no : (other : Expect) → place ≡ other → side_at other ≡ Verifier → ⊥
      side_no other is side = let e : Prover ≡ Verifier = sym prover ∙ ap side_at is ∙ side in cc

      greeting : (other : Expect) → IsGreeting other → Allows other frame → ⊥
      greeting expect.Hello is allowed = no_hello allowed.0 allowed.1
      greeting expect.ShortHello is allowed = no_hello allowed.0 allowed.1
      greeting other is allowed = is

      by : Which → ⊥
      by (inl (inl is, unheard)) = greeting claim.greeting places.greeting (at claim.greeting is)
      by (inl (inr is, unheard)) = side_no expect.Grant is refl
      by (inr (inl (given, left, due, is))) = let here = at _ is in no_asks here.0 here.1
      by (inr (inr (inl (said', due, left, round, are, is)))) = side_no _ is refl
      by (inr (inr (inr (inl is)))) = let here = at _ is in no_corrections here.0 here.1
      by (inr (inr (inr (inr (inl (given, has, is)))))) = side_no expect.Challenge is refl
      by (inr (inr (inr (inr (inr (inl (count, inl is))))))) = let here = at _ is in no_sums here.0 here.1
      by (inr (inr (inr (inr (inr (inl (count, inr (inl is)))))))) = let here = at _ is in no_openings here.0 here.1
      by (inr (inr (inr (inr (inr (inl (count, inr (inr is)))))))) = let here = at _ is in no_poly_sums here.0 here.1
      by (inr (inr (inr (inr (inr (inr (given, whole, is))))))) = side_no claim.verdict is (verdict_side claim.verdict places.verdict)

  -- as code has it
  pub heard_coded : (frame : coded.Frame) → side_at place ≡ Prover → Allows place (frame_value frame) → ((said : _) → frame ≡ frames.Hello said → ⊥)
      → ((said : _) → frame ≡ frames.ExtendAsk said → ⊥) → ((elements : _) → frame ≡ frames.Corrections elements → ⊥)
      → ((both : _) → frame ≡ frames.Sums both → ⊥) → ((macs : _) → frame ≡ frames.Openings macs → ⊥) → ((sums : _) → frame ≡ frames.PolySums sums → ⊥) → ⊥
  heard_coded (frames.Hello said) prover allowed no_hello no_asks no_corrections no_sums no_openings no_poly_sums = no_hello said refl
  heard_coded (frames.ExtendAsk said) prover allowed no_hello no_asks no_corrections no_sums no_openings no_poly_sums = no_asks said refl
  heard_coded (frames.Corrections elements) prover allowed no_hello no_asks no_corrections no_sums no_openings no_poly_sums = no_corrections elements refl
  heard_coded (frames.Sums both) prover allowed no_hello no_asks no_corrections no_sums no_openings no_poly_sums = no_sums both refl
  heard_coded (frames.Openings macs) prover allowed no_hello no_asks no_corrections no_sums no_openings no_poly_sums = no_openings macs refl
  heard_coded (frames.PolySums elements) prover allowed no_hello no_asks no_corrections no_sums no_openings no_poly_sums = no_poly_sums elements refl
  heard_coded frame prover allowed no_hello no_asks no_corrections no_sums no_openings no_poly_sums =
      heard_is (frame_value frame) prover allowed (λ said is. cc) (λ said is. cc) (λ elements is. cc) (λ both is. cc) (λ macs is. cc) (λ elements is. cc)

  -- ---- of its own

  pub grant_at : place ≡ expect.Grant → IsUnheard grants claim file section_length known
  grant_at granting = by which
    where
      other_no : (other : Expect) → place ≡ other → expect.Grant ≡ other
      other_no other is = sym granting ∙ is

      by : Which → IsUnheard grants claim file section_length known
      by (inl (which, unheard)) = unheard
      by (inr (inl (given, left, due, is))) = let no = other_no _ is in cc
      by (inr (inr (inl (said', due, left, round, are, is)))) = let no = other_no _ is in cc
      by (inr (inr (inr (inl is)))) = let no = other_no _ is in cc
      by (inr (inr (inr (inr (inl (given, has, is)))))) = let no = other_no _ is in cc
      by (inr (inr (inr (inr (inr (inl (count, inl is))))))) = let no = other_no _ is in cc
      by (inr (inr (inr (inr (inr (inl (count, inr (inl is)))))))) = let no = other_no _ is in cc
      by (inr (inr (inr (inr (inr (inl (count, inr (inr is)))))))) = let no = other_no _ is in cc
      by (inr (inr (inr (inr (inr (inr (given, whole, is))))))) = absurd (subst IsVerdictPlace (sym (other_no _ is)) places.verdict)

  pub reply_at : (height trees left : ℕ) → place ≡ expect.Reply height trees left
      → (said : List TreeReply) × (due : List (List TreeReply)) × (known.heard.round ≡ replying (said ∷ due)) × Allows place (replies said)
  reply_at height trees left replying_is = by which
    where
      other_no : (other : Expect) → place ≡ other → expect.Reply height trees left ≡ other
      other_no other is = sym replying_is ∙ is

      first_no : (other : Expect) → IsGreeting other → expect.Reply height trees left ≡ other → ⊥
      first_no expect.Hello is same = cc
      first_no expect.ShortHello is same = cc
      first_no other is same = is

      by : Which → (said : List TreeReply) × (due : List (List TreeReply)) × (known.heard.round ≡ replying (said ∷ due)) × Allows place (replies said)
      by (inl (inl is, unheard)) = absurd (first_no claim.greeting places.greeting (other_no _ is))
      by (inl (inr is, unheard)) = let no = other_no _ is in cc
      by (inr (inl (given, left, due, is))) = let no = other_no _ is in cc
      by (inr (inr (inl (said, due, left, round, are, is)))) =
          (said, due, round, subst (λ p. Allows p (replies said)) (sym is) (said, refl, are))
      by (inr (inr (inr (inl is)))) = let no = other_no _ is in cc
      by (inr (inr (inr (inr (inl (given, has, is)))))) = let no = other_no _ is in cc
      by (inr (inr (inr (inr (inr (inl (count, inl is))))))) = let no = other_no _ is in cc
      by (inr (inr (inr (inr (inr (inl (count, inr (inl is)))))))) = let no = other_no _ is in cc
      by (inr (inr (inr (inr (inr (inl (count, inr (inr is)))))))) = let no = other_no _ is in cc
      by (inr (inr (inr (inr (inr (inr (given, whole, is))))))) = absurd (subst IsVerdictPlace (sym (other_no _ is)) places.verdict)

  pub challenge_at : place ≡ expect.Challenge → (given : Grant) × HasGrant grants claim file section_length known.heard given
  challenge_at challenging = by which
    where
      other_no : (other : Expect) → place ≡ other → expect.Challenge ≡ other
      other_no other is = sym challenging ∙ is

      first_no : (other : Expect) → IsGreeting other → expect.Challenge ≡ other → ⊥
      first_no expect.Hello is same = cc
      first_no expect.ShortHello is same = cc
      first_no other is same = is

      by : Which → (given : Grant) × HasGrant grants claim file section_length known.heard given
      by (inl (inl is, unheard)) = absurd (first_no claim.greeting places.greeting (other_no _ is))
      by (inl (inr is, unheard)) = let no = other_no _ is in cc
      by (inr (inl (given, left, due, is))) = let no = other_no _ is in cc
      by (inr (inr (inl (said, due, left, round, are, is)))) = let no = other_no _ is in cc
      by (inr (inr (inr (inl is)))) = let no = other_no _ is in cc
      by (inr (inr (inr (inr (inl (given, has, is)))))) = (given, has)
      by (inr (inr (inr (inr (inr (inl (count, inl is))))))) = let no = other_no _ is in cc
      by (inr (inr (inr (inr (inr (inl (count, inr (inl is)))))))) = let no = other_no _ is in cc
      by (inr (inr (inr (inr (inr (inl (count, inr (inr is)))))))) = let no = other_no _ is in cc
      by (inr (inr (inr (inr (inr (inr (given, whole, is))))))) = absurd (subst IsVerdictPlace (sym (other_no _ is)) places.verdict)

  pub verdict_at : IsVerdictPlace place
      → (given : Grant) × (known.heard.given ≡ Some given) × IsToJudge claim file section_length given known.heard.round (exchange_in file given known.heard)
      × (place ≡ claim.verdict)
  verdict_at judging = by which
    where
      other_no : (other : Expect) → place ≡ other → IsVerdictPlace other
      other_no other is = subst IsVerdictPlace is judging

      first_no : (other : Expect) → IsGreeting other → IsVerdictPlace other → ⊥
      first_no expect.Hello is judges = judges
      first_no expect.ShortHello is judges = judges
      first_no other is judges = is

      by : Which → (given : Grant) × (known.heard.given ≡ Some given) × IsToJudge claim file section_length given known.heard.round (exchange_in file given known.heard)
          × (place ≡ claim.verdict)
      by (inl (inl is, unheard)) = absurd (first_no claim.greeting places.greeting (other_no _ is))
      by (inl (inr is, unheard)) = absurd (other_no _ is)
      by (inr (inl (given, left, due, is))) = absurd (other_no _ is)
      by (inr (inr (inl (said, due, left, round, are, is)))) = absurd (other_no _ is)
      by (inr (inr (inr (inl is)))) = absurd (other_no _ is)
      by (inr (inr (inr (inr (inl (given, has, is)))))) = absurd (other_no _ is)
      by (inr (inr (inr (inr (inr (inl (count, inl is))))))) = absurd (other_no _ is)
      by (inr (inr (inr (inr (inr (inl (count, inr (inl is)))))))) = absurd (other_no _ is)
      by (inr (inr (inr (inr (inr (inl (count, inr (inr is)))))))) = absurd (other_no _ is)
      by (inr (inr (inr (inr (inr (inr (given, whole, is))))))) = (
        given,
        whole.0.granted,
        record { within = whole.0.within; count = whole.0.count; section = whole.0.section; over = whole.1; exchange_is = whole.2 },
        is,
      )

  -- what it says is a grant, a reply, a challenge or a verdict
  pub said_is : side_at place ≡ Verifier → (place ≡ expect.Grant → ⊥) → ((height trees left : ℕ) → place ≡ expect.Reply height trees left → ⊥)
      → (place ≡ expect.Challenge → ⊥) → (place ≡ expect.Verdict → ⊥) → (place ≡ expect.PolyVerdict → ⊥) → ⊥
  said_is verifier no_grant no_reply no_challenge no_verdict no_poly_verdict = by which
    where
      side_no : (other : Expect) → place ≡ other → side_at other ≡ Prover → ⊥
      side_no other is side = let e : Verifier ≡ Prover = sym verifier ∙ ap side_at is ∙ side in cc

      first_side : (other : Expect) → IsGreeting other → side_at other ≡ Prover
      first_side expect.Hello is = refl
      first_side expect.ShortHello is = refl
      first_side other is = absurd is

      by : Which → ⊥
      by (inl (inl is, unheard)) = side_no claim.greeting is (first_side claim.greeting places.greeting)
      by (inl (inr is, unheard)) = no_grant is
      by (inr (inl (given, left, due, is))) = side_no _ is refl
      by (inr (inr (inl (said, due, left, round, are, is)))) = no_reply _ _ _ is
      by (inr (inr (inr (inl is)))) = side_no _ is refl
      by (inr (inr (inr (inr (inl (given, has, is)))))) = no_challenge is
      by (inr (inr (inr (inr (inr (inl (count, inl is))))))) = side_no _ is refl
      by (inr (inr (inr (inr (inr (inl (count, inr (inl is)))))))) = side_no _ is refl
      by (inr (inr (inr (inr (inr (inl (count, inr (inr is)))))))) = side_no _ is refl
      by (inr (inr (inr (inr (inr (inr (given, whole, is))))))) = verdict_no place (subst IsVerdictPlace (sym is) places.verdict) no_verdict no_poly_verdict

-- a session of which nothing is left was judged
pub judged_at : {R : Type 0} (grants : Grants R) (claim : Claim) (file : VerifierFile) (section_length : ℕ) → HasPlaces claim → IsVerifierFile file → RepliesAreInRange
    → (known : Known R) (left : List Expect) → Reached (verifier_rules grants claim file section_length) (stage_of known left) → left ≡ []
    → AtEnd grants claim file section_length (stage_of known left)
judged_at grants claim file section_length places is_file in_range known left reached none =
    by (due_at grants claim file section_length places is_file in_range (stage_of known left) reached)
  where
    no_front : (front more : List Expect) (place : Expect) → left ≡ front ++ place ∷ more → ⊥
    no_front [] more place is = let e : [] ≡ place ∷ more = sym none ∙ is in cc
    no_front (first ∷ front) more place is = let e : [] ≡ first ∷ (front ++ place ∷ more) = sym none ∙ is in cc

    by : IsDue grants claim file section_length (stage_of known left) → AtEnd grants claim file section_length (stage_of known left)
    by (inl first) = elim first.left [
      | inl is ↦ absurd (no_front [] _ _ is)
      | inr is ↦ absurd (no_front [] _ _ is)
    ]
    by (inr (inl (given, inl due))) = absurd (no_front [] _ _ due.left)
    by (inr (inl (given, inr (inl due)))) = absurd (no_front (replies_places file given.count due.done (length due.due)) _ _ due.left)
    by (inr (inl (given, inr (inr (inl due))))) = absurd (no_front [] _ _ due.left)
    by (inr (inl (given, inr (inr (inr (inl due)))))) = absurd (no_front [] _ _ due.left)
    by (inr (inl (given, inr (inr (inr (inr due)))))) = absurd (no_front due.rest _ _ due.left)
    by (inr (inr end)) = end

-- the grant lies within the units of any file
pub within_dealt : (file : VerifierFile) (given : Grant) → IsVerifierFile file → given.start + given.count ≤ file.params.total → given.start ≤ MAX_DEALT_UNITS
within_dealt file given is_file within = omega (arith, within, is_file.params.total)

-- before the last asks came there are no keys
pub unkeyed : (rounds : Rounds) (asked : List (List TreeAsk)) → round_stage rounds ≡ asking asked → keys_in rounds ≡ None
unkeyed (Asking came) asked is = refl
unkeyed (Replying due keys) asked is = cc

-- a reply stands at its place, whichever is next
pub same_reply : (place : Expect) (round : RoundStage) (said other : List TreeReply) (due others : List (List TreeReply)) → round ≡ replying (said ∷ due)
    → round ≡ replying (other ∷ others) → Allows place (replies said) → Allows place (replies other)
same_reply place round said other due others one two allowed =
    let e : replying (said ∷ due) ≡ replying (other ∷ others) = sym one ∙ two in
    let same : said ≡ other = cc in subst (λ l. Allows place (replies l)) same allowed

pub within_total : (ending total most : ℕ) → ending ≤ total → total ≤ most → ending ≤ most
within_total ending total most ends fits = omega (arith, ends, fits)

pub some_same : (one other : Grant) → Some one ≡ Some other → one ≡ other
some_same one other is = cc

-- what is due is so for the same grant
pub due_as : (claim : Claim) (file : VerifierFile) (section_length : ℕ) (given same : Grant) (heard : Heard) → given ≡ same
    → IsToJudge claim file section_length given heard.round (exchange_in file given heard)
    → IsToJudge claim file same.section_length same heard.round (exchange_in file same heard)
due_as claim file section_length given same heard is due =
    subst (λ (q : Grant). IsToJudge claim file q.section_length q heard.round (exchange_in file q heard)) is
    (record { within = due.within; count = due.count ∙ ap (units_of claim file) (sym due.section); section = refl; over = due.over; exchange_is = due.exchange_is })

-- a verdict that stands at the claim's place stands at this one
pub verdict_allowed : (claim : Claim) (place : Expect) (frame : Frame) → place ≡ claim.verdict → Allows claim.verdict frame → Allows place frame
verdict_allowed claim place frame is allowed = subst (λ p. Allows p frame) (sym is) allowed
