-- What a broker's end leaves of an exchange with a node.
use Rattle.std.proofs.Common.{◌≡◌, ◌⊎◌, inl, inr, ℕ, List, [], ◌∷◌, ◌++◌, flat_map, length, refl, sym, ◌∙◌, ap, arith, append-nil, subst}
use Rattle.std.specs.Prelude.{Option, Some, None, Result, Ok, Err, MatchOption, IsSomeAnd}
use Rattle.zk_model.specs.Frames.{Frame, IsFirstBad, frame_spelling, want}
use Rattle.zk_model.specs.Messages.{FitsWant, want_frame}
use Rattle.zk_model.specs.Transcript.{BeginsWith, bytes_from, sent_by}
use Rattle.zk_model.specs.declared.Expect.{Expect}
use Rattle.zk_model.specs.declared.Expect.TheVariants as expect
use Rattle.zk_model.specs.declared.Side.TheVariants.{Prover, Verifier}
use Rattle.zk_model.specs.declared.messages.Want.{Want}
use Rattle.proof_frames.proofs.Unique.{none_begins_another}
use Rattle.frame_link.specs.Lines.{LinkSnapshot, IsCutShort}
use Rattle.frame_link.specs.declared.fault.LineFault.{LineFault}
use Rattle.frame_link.specs.declared.fault.LineFault.TheVariants as line
use Rattle.session_driver.specs.Leaving.{GoesWell, IsLostBy, IsSendFault, KeepsBack, StopsShort, PartyLeaves, TriesCode}
use Rattle.session_driver.specs.Runs.{Turn, Goes, whole_log}
use Rattle.session_driver.specs.declared.drive.Outcome.{Outcome}
use Rattle.session_driver.specs.declared.drive.Outcome.TheVariants as run
use Rattle.session_driver.proofs.Going.{none_of_own, came_same, frame_is_some}
use Rattle.broker_links.specs.Counts.{NeverSends, LosesSend, TellsLog, CountsFailures}
use Rattle.broker_links.specs.Replies.{reply_frame}
use Rattle.broker_links.specs.Answers.{AnswererTells, AnswersSo, AnswersWant, Asked, Brokering, BrokerCompletes, BrokerLeaves, IsAnsweredSo, IsBrokerCause, IsBrokerFault, IsReady, KeepsReply, LacksRoom, RefusesWant, StopsUnasked, answers_wants, broker_line_outcome, broker_told, brokering, replied, told_asked, want_expects}
use Rattle.broker_links.specs.declared.note.BrokerOutcome.{BrokerOutcome}
use Rattle.broker_links.specs.declared.note.BrokerOutcome.TheVariants.{Answered, PeerEnded, BadFrame, Link, NoMemory, Refused}
use Rattle.broker_links.specs.declared.reply.Reply.{Reply}
use Rattle.broker_links.proofs.Exchanged.{said_one, heard_behind, no_answer, one_behind, sends_once, never_sends, loses_send, tells_log, tells_part, none_failed, calls_failed, none_bad, not_cut}

-- ---- with a node that asks

module _ {F : Type 0} (asked : Asked F) (first now : LinkSnapshot) where
  -- all that came of the node's bytes
  heard_alone : (rest : List ℕ) → now.log ≡ bytes_from Prover rest → sent_by Prover now.log ≡ rest
  heard_alone rest logged = ap (sent_by Prover) logged ∙ heard_behind Verifier [] rest

  heard_answered : (rest bytes : List ℕ) → now.log ≡ bytes_from Prover rest ++ bytes_from Verifier bytes → sent_by Prover now.log ≡ rest
  heard_answered rest bytes logged = ap (sent_by Prover) logged ∙ came_same Verifier (bytes_from Prover rest) bytes ∙ heard_behind Verifier [] rest

  -- a whole want that begins as another is it
  one_want : (said other : Want) → FitsWant said → FitsWant other → BeginsWith (want_frame said) (want_frame other) → said ≡ other
  one_want said other fits fits_too begun =
      let same : want said ≡ want other = none_begins_another expect.Want (want said) (want other) (said, refl, fits) (other, refl, fits_too) begun in
      cc

  completes : (outcome : BrokerOutcome F) → IsBrokerCause asked first outcome now → BrokerCompletes asked first outcome now
  completes (Answered given_to given) has said fits begun ended calm unfailed =
      let heard = heard_answered (want_frame given_to) (frame_spelling (reply_frame given)) has.logged in
      let same = one_want said given_to fits has.answered.fits (subst (BeginsWith (want_frame said)) heard begun) in
      inl (given, ap (λ w. Answered w given) (sym same))
  completes (PeerEnded at) stops said fits begun ended calm unfailed =
      absurd (not_cut expect.Want (want said) stops.0.rest (said, refl, fits) (sym (heard_alone stops.0.rest stops.0.logged) ∙ ended at refl) stops.0.cause.0)
  completes (BadFrame at) stops said fits begun ended calm unfailed =
      absurd (none_bad expect.Want (want said) stops.rest (said, refl, fits) (subst (BeginsWith (want_frame said)) (heard_alone stops.rest stops.logged) begun) at stops.cause)
  completes Link caused said fits begun ended calm unfailed = absurd (unfailed caused.0)
  completes NoMemory caused said fits begun ended calm unfailed = inr refl
  completes (Refused fault) is said fits begun ended calm unfailed = absurd (calm fault is.answered.answer_is)

-- ---- turns

-- where a frame is expected no want was answered
pub is_waiting : (answered : Option (Want × Reply)) (P : Expect → Type 0) → IsSomeAnd (want_expects answered) P → answered ≡ None
is_waiting None P expected = refl
is_waiting (Some both) P expected = absurd expected

module _ {O F : Type 0} (tells : AnswererTells O F) (old : O) (ready : IsReady tells old) where
  abbrev start : Brokering O
  start = brokering None old

  -- none passed, or one in which a want was answered
  abbrev HasGone : List Turn → Brokering O → Type 0
  HasGone turns mid = ((turns ≡ []) × (mid ≡ start)) ⊎ ((turn : Turn) × (turns ≡ turn ∷ []) × AnswersWant tells start turn.frame turn.answer mid)

  gone : (turns : List Turn) (mid : Brokering O) → Goes (answers_wants tells) start turns mid → HasGone turns mid
  gone [] mid went = inl (refl, went)
  gone (turn ∷ []) mid went = inr (turn, refl, subst (AnswersWant tells start turn.frame turn.answer) (sym went.2) went.1.answered)
  gone (turn ∷ other ∷ turns) mid went = absurd (over (ap want_expects (sym went.1.answered.becomes) ∙ went.2.1.expected))
    where
      over : None ≡ Some went.2.1.place → ⊥
      over is = cc

  -- before a frame that is expected none did
  waiting : (turns : List Turn) (mid : Brokering O) (place : Expect) → HasGone turns mid → want_expects mid.answered ≡ Some place
      → (turns ≡ []) × (mid ≡ start) × (expect.Want ≡ place)
  waiting turns mid place (inl none) expected =
      (none.0, none.1, some_same (ap (λ (s : Brokering O). want_expects s.answered) (sym none.1) ∙ expected))
    where
      some_same : Some expect.Want ≡ Some place → expect.Want ≡ place
      some_same is = cc
  waiting turns mid place (inr one) expected = absurd (over (ap want_expects (sym one.2.becomes) ∙ expected))
    where
      over : None ≡ Some place → ⊥
      over is = cc

  -- ---- what became of the answerer

  abbrev pub HasMoved : Brokering O → Type 0
  HasMoved new = MatchOption (tells.answer new.answerer) (new.answerer ≡ old)
      (λ answer. IsSomeAnd (tells.asked new.answerer) (λ said. tells.moves old said answer new.answerer))

  same_moved : (new : Brokering O) → new.answerer ≡ old → HasMoved new
  same_moved new same =
      let none : tells.answer new.answerer ≡ None = ap tells.answer same ∙ ready.once in
      rw none same

  so_moved : (new : Brokering O) (said : Want) (answer : Result Reply F) → AnswersSo tells said answer old new.answerer → HasMoved new
  so_moved new said answer is = rw (is.answered, is.asked) is.moved

  -- what it was asked for, and answered
  abbrev asked_of : Brokering O → Asked F
  asked_of new = told_asked tells new.answerer

  answered_so : (new : Brokering O) (said : Want) (answer : Result Reply F) → FitsWant said → AnswersSo tells said answer old new.answerer → IsAnsweredSo (asked_of new) said answer
  answered_so new said answer fits is = record { fits = fits; asked_is = is.asked; answer_is = is.answered }

  -- ---- one exchange

  module _ (first now : LinkSnapshot) where
    abbrev Parts : Brokering O → BrokerOutcome F → Type 0
    Parts new outcome =
        IsBrokerCause (asked_of new) first outcome now
        × TellsLog Verifier (IsBrokerFault outcome × (sent_by Verifier now.log ≡ [])) (replied (tells.answer new.answerer)) first now
        × CountsFailures (outcome ≡ Link) first.faults now.faults × HasMoved new

    -- nothing of this side is in what the node sent
    none_said : (rest : List ℕ) → now.log ≡ bytes_from Prover rest → sent_by Verifier now.log ≡ []
    none_said rest logged = ap (sent_by Verifier) logged ∙ none_of_own Prover rest

    -- a want was answered
    answered : (new : Brokering O) (turn : Turn) → AnswersWant tells start turn.frame turn.answer new
        → GoesWell Verifier (whole_log Verifier [] (turn ∷ [])) first now → Parts new (broker_told new.answered run.Done)
    answered new turn is well =
        let said = is.takes.said in
        let bytes = frame_spelling (reply_frame is.given) in
        let log : whole_log Verifier [] (turn ∷ []) ≡ bytes_from Prover (want_frame said) ++ bytes_from Verifier bytes =
        append-nil _ ∙ (λ i. bytes_from Prover (frame_spelling (is.takes.is i)) ++ (ap (λ l. bytes_from Verifier (flat_map frame_spelling l)) is.sent ∙ said_one Verifier (reply_frame is.given)) i) in
        let sent : GoesWell Verifier (bytes_from Prover (want_frame said) ++ bytes_from Verifier bytes) first now = subst (λ l. GoesWell Verifier l first now) log well in
        subst (λ a. Parts new (broker_told a run.Done)) (sym is.becomes) (
          record {
            answered = answered_so new said (Ok is.given) is.takes.fits is.answers;
            fits = is.fits;
            logged = sent.logged;
            sent = sends_once Verifier _ first now sent.sent (one_behind Verifier (want said) bytes (frame_is_some (reply_frame is.given)));
          },
          tells_log Verifier _ _ _ first now sent.sent,
          none_failed _ first.faults now.faults sent.faults,
          so_moved new said (Ok is.given) is.answers,
        )

    -- a want came, and is not answered
    refused : (frame : Frame) (outcome : BrokerOutcome F) (new : Brokering O) → RefusesWant tells start frame outcome new ⊎ LacksRoom start frame outcome new
        → GoesWell Verifier (bytes_from Prover (frame_spelling frame)) first now → Parts new outcome
    refused frame outcome new (inl is) well =
        let sent : GoesWell Verifier (bytes_from Prover (want_frame is.takes.said)) first now = subst (λ f. GoesWell Verifier (bytes_from Prover (frame_spelling f)) first now) is.takes.is well in
        subst (Parts new) (sym is.outcome_is) (
          record {
            said = is.takes.said;
            answered = answered_so new is.takes.said (Err is.fault) is.takes.fits is.answers;
            logged = sent.logged;
            unsent = never_sends Verifier _ first now sent.sent (no_answer Verifier (want_frame is.takes.said));
          },
          tells_log Verifier _ _ _ first now sent.sent,
          none_failed _ first.faults now.faults sent.faults,
          so_moved new is.takes.said (Err is.fault) is.answers,
        )
    refused frame outcome new (inr is) well =
        let sent : GoesWell Verifier (bytes_from Prover (want_frame is.takes.said)) first now = subst (λ f. GoesWell Verifier (bytes_from Prover (frame_spelling f)) first now) is.takes.is well in
        subst (Parts new) (sym is.outcome_is) (
          inr (inl (record {
            unasked = ap tells.answer is.answerer ∙ ready.once;
            said = is.takes.said;
            fits = is.takes.fits;
            logged = sent.logged;
            unsent = never_sends Verifier _ first now sent.sent (no_answer Verifier (want_frame is.takes.said));
          })),
          tells_log Verifier _ _ _ first now sent.sent,
          none_failed _ first.faults now.faults sent.faults,
          same_moved new is.answerer,
        )

    -- no want came, but bytes of one
    missed : (new : Brokering O) (fault : LineFault) (rest : List ℕ) → new.answerer ≡ old → StopsShort Verifier (bytes_from Prover rest) expect.Want rest fault first now
        → Parts new (broker_line_outcome fault)
    missed new fault rest same short = (
      by_fault fault short,
      tells_log Verifier _ _ _ first now short.sent,
      calls_failed broker_line_outcome Link fault first now refl short.calls,
      same_moved new same,
    )
      where
        heard : (fault : LineFault) → StopsShort Verifier (bytes_from Prover rest) expect.Want rest fault first now → length (sent_by Prover now.log) ≡ length rest
        heard fault short = ap length (heard_alone (asked_of new) first now rest short.logged)

        stops : (fault : LineFault) (P : List ℕ → Type 0) → StopsShort Verifier (bytes_from Prover rest) expect.Want rest fault first now → P rest → StopsUnasked (asked_of new) P first now
        stops fault P short holds = record {
          unasked = ap tells.answer same ∙ ready.once;
          rest = rest;
          logged = short.logged;
          few = short.part.few;
          cause = holds;
          unsent = never_sends Verifier _ first now short.sent (no_answer Verifier rest);
        }

        by_fault : (fault : LineFault) → StopsShort Verifier (bytes_from Prover rest) expect.Want rest fault first now → IsBrokerCause (asked_of new) first (broker_line_outcome fault) now
        by_fault (line.PeerEnded at) short =
            (stops (line.PeerEnded at) (λ l. IsCutShort expect.Want l × (at ≡ length l)) short (short.part.cut tt, short.cause.0 ∙ heard (line.PeerEnded at) short), short.cause.1, short.cause.2)
        by_fault (line.BadFrame at) short =
            let same_place : short.cause.0 ≡ at = omega (arith, short.cause.2, heard (line.BadFrame at) short) in
            stops (line.BadFrame at) (λ l. IsFirstBad expect.Want l at) short (subst (IsFirstBad expect.Want rest) same_place short.cause.1)
        by_fault line.Link short = (short.calls.failed refl, inl (stops line.Link (IsCutShort expect.Want) short (short.part.cut tt)))
        by_fault line.NoMemory short = inl (stops line.NoMemory (IsCutShort expect.Want) short (short.part.cut tt))

    -- a want was answered, but the reply not sent
    kept : (new : Brokering O) (fault : LineFault) (frame : Frame) (answer : List Frame) → AnswersWant tells start frame answer new
        → KeepsBack None Verifier (bytes_from Prover (frame_spelling frame)) (flat_map frame_spelling answer) fault first now → Parts new (broker_line_outcome fault)
    kept new fault frame answer is back = by_way (subst (λ (q : Frame × List ℕ). KeepsBack None Verifier (bytes_from Prover (frame_spelling q.0)) q.1 fault first now)
        (λ i. (is.takes.is i, (ap (flat_map frame_spelling) is.sent ∙ append-nil bytes) i)) back)
      where
        said : Want
        said = is.takes.said

        bytes : List ℕ
        bytes = frame_spelling (reply_frame is.given)

        keeps : (P : LinkSnapshot → LinkSnapshot → Type 0) → now.log ≡ bytes_from Prover (want_frame said) → P first now → KeepsReply (asked_of new) P first now
        keeps P logged sent =
            record { said = said; given = is.given; answered = answered_so new said (Ok is.given) is.takes.fits is.answers; logged = logged; sent = sent }

        lost_so : IsLostBy fault Verifier (bytes_from Prover (want_frame said)) bytes first now → KeepsReply (asked_of new) LosesSend first now
        lost_so lost = keeps LosesSend lost.logged (loses_send Verifier _ bytes first now lost.lost (no_answer Verifier (want_frame said)))

        tells_so : (may : Type 0) → may → IsLostBy fault Verifier (bytes_from Prover (want_frame said)) bytes first now
            → TellsLog Verifier may (replied (tells.answer new.answerer)) first now
        tells_so may holds lost = subst (λ a. TellsLog Verifier may (replied a) first now) (sym is.answers.answered) (tells_part Verifier may bytes _ first now holds lost.lost)

        by_fault : (f : LineFault) → fault ≡ f → IsLostBy fault Verifier (bytes_from Prover (want_frame said)) bytes first now
            → IsBrokerCause (asked_of new) first (broker_line_outcome f) now
            × TellsLog Verifier (IsBrokerFault (broker_line_outcome {F = F} f) × (sent_by Verifier now.log ≡ [])) (replied (tells.answer new.answerer)) first now
        by_fault line.Link same lost =
            ((lost.calls.failed same, inr (lost_so lost)), tells_so _ (tt, none_said (want_frame said) lost.logged) lost)
        by_fault line.NoMemory same lost = (inr (inr (inr (lost_so lost))), tells_so _ (tt, none_said (want_frame said) lost.logged) lost)
        by_fault (line.PeerEnded at) same lost = absurd (subst IsSendFault same lost.fault_is)
        by_fault (line.BadFrame at) same lost = absurd (subst IsSendFault same lost.fault_is)

        by_way : KeepsBack None Verifier (bytes_from Prover (want_frame said)) bytes fault first now → Parts new (broker_line_outcome fault)
        by_way (inl lacks) = subst (λ (f : LineFault). Parts new (broker_line_outcome f)) (sym lacks.0) (
          inr (inr (inl (keeps NeverSends lacks.1.logged (never_sends Verifier _ first now lacks.1.sent (no_answer Verifier (want_frame said)))))),
          tells_log Verifier _ _ _ first now lacks.1.sent,
          none_failed _ first.faults now.faults lacks.1.faults,
          so_moved new said (Ok is.given) is.answers,
        )
        by_way (inr lost) =
            let so = by_fault fault refl lost in
            (so.0, so.1, calls_failed broker_line_outcome Link fault first now refl lost.calls, so_moved new said (Ok is.given) is.answers)

    -- ---- all together

    parts : (new : Brokering O) (outcome : Outcome (BrokerOutcome F)) → PartyLeaves (answers_wants tells) [] Verifier start new outcome first now → Parts new (broker_told new.answered outcome)
    parts new run.Done leaves = by_turns (gone leaves.turns new (subst (Goes (answers_wants tells) start leaves.turns) (sym leaves.halts.same) leaves.went))
      where
        by_turns : HasGone leaves.turns new → Parts new (broker_told new.answered run.Done)
        by_turns (inl none) = absurd (over (ap (λ (s : Brokering O). want_expects s.answered) (sym none.1) ∙ leaves.halts.expected))
          where
            over : Some expect.Want ≡ None → ⊥
            over is = cc
        by_turns (inr one) = answered new one.0 one.2 (subst (λ l. GoesWell Verifier (whole_log Verifier [] l) first now) one.1 leaves.halts.well)
    parts new (run.Refused fault) leaves =
        let stop = leaves.halts in
        let waits = waiting leaves.turns leaves.mid stop.place (gone leaves.turns leaves.mid leaves.went) stop.expected in
        refused stop.frame fault new (subst (λ s. RefusesWant tells s stop.frame fault new ⊎ LacksRoom s stop.frame fault new) waits.1 stop.refused.1)
        (subst (λ (q : List Turn × Option ℕ). TriesCode Verifier (whole_log Verifier [] q.0 ++ bytes_from Prover (frame_spelling stop.frame)) q.1 first now) (λ i. (waits.0 i, stop.refused.0 i)) stop.tried)
    parts new (run.Cut fault) leaves = elim leaves.halts [
      | inl stop ↦
          let waits = waiting leaves.turns leaves.mid stop.place (gone leaves.turns leaves.mid leaves.went) stop.expected in
          missed new fault stop.rest (ap (λ (s : Brokering O). s.answerer) (stop.same ∙ waits.1))
          (subst (λ (q : List Turn × Expect). StopsShort Verifier (whole_log Verifier [] q.0 ++ bytes_from Prover stop.rest) q.1 stop.rest fault first now) (λ i. (waits.0 i, sym waits.2 i)) stop.short)
      | inr (inl stop) ↦
          let waits = waiting leaves.turns leaves.mid stop.is.place (gone leaves.turns leaves.mid leaves.went) stop.is.expected in
          kept new fault stop.turn.frame stop.turn.answer (subst (λ s. AnswersWant tells s stop.turn.frame stop.turn.answer new) waits.1 stop.is.answered)
          (subst (λ l. KeepsBack None Verifier (whole_log Verifier [] l ++ bytes_from Prover (frame_spelling stop.turn.frame)) (flat_map frame_spelling stop.turn.answer) fault first now) waits.0 stop.kept)
      | inr (inr stop) ↦ absurd (let some = stop.some in omega (arith, some))
    ]

    pub moved : (new : Brokering O) (outcome : Outcome (BrokerOutcome F)) → PartyLeaves (answers_wants tells) [] Verifier start new outcome first now → HasMoved new
    moved new outcome leaves = (parts new outcome leaves).3

    pub left : (new : Brokering O) (outcome : Outcome (BrokerOutcome F)) → PartyLeaves (answers_wants tells) [] Verifier start new outcome first now
        → BrokerLeaves (asked_of new) first (broker_told new.answered outcome) now
    left new outcome leaves =
        let all = parts new outcome leaves in
        record { cause = all.0; told = all.1; come = leaves.come; faults = all.2; complete = completes (asked_of new) first now (broker_told new.answered outcome) all.0 }
