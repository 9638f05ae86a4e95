-- What a node's end leaves of an exchange with a broker.
use Rattle.std.proofs.Common.{◌≡◌, inl, inr, ℕ, ◌≤◌, List, [], ◌∷◌, ◌++◌, flat_map, length, refl, sym, ◌∙◌, ap, arith, append-nil, subst}
use Rattle.std.specs.Prelude.{Option, Some, None}
use Rattle.zk_model.specs.Frames.{Allows, IsFirstBad, frame_spelling, want}
use Rattle.zk_model.specs.Messages.{want_frame}
use Rattle.zk_model.specs.Transcript.{BeginsWith, bytes_from, sent_by}
use Rattle.zk_model.specs.declared.Expect.{Expect}
use Rattle.zk_model.specs.declared.Expect.TheVariants as expect
use Rattle.zk_model.specs.declared.Side.{Side}
use Rattle.zk_model.specs.declared.Side.TheVariants.{Prover, Verifier}
use Rattle.zk_model.specs.declared.messages.Want.{Want}
use Rattle.proof_frames.proofs.Unique.{none_begins_another}
use Rattle.frame_link.specs.Lines.{LinkSnapshot, IsCutShort}
use Rattle.frame_link.specs.declared.fault.LineFault.{LineFault}
use Rattle.frame_link.specs.declared.fault.LineFault.TheVariants as line
use Rattle.session_driver.specs.Leaving.{GoesWell, IsLostBy, KeepsBack, StopsShort, PartyLeaves}
use Rattle.session_driver.specs.Runs.{Turn, Goes, whole_log}
use Rattle.session_driver.specs.declared.drive.Outcome.{Outcome}
use Rattle.session_driver.specs.declared.drive.Outcome.TheVariants.{Done, Refused, Cut}
use Rattle.broker_links.specs.Counts.{TellsLog, CountsFailures}
use Rattle.broker_links.specs.Replies.{FitsReply, reply_frame}
use Rattle.broker_links.specs.Tries.{asks, asked_log, outcome_told, reply_outcome, try_expects, try_line_outcome, HasReply, IsTryCause, IsTryFault, StopsAsked, TakesReply, TryCompletes, TryLeaves}
use Rattle.broker_links.specs.declared.note.TryOutcome.{TryOutcome}
use Rattle.broker_links.specs.declared.note.TryOutcome.TheVariants as outcome
use Rattle.broker_links.specs.declared.reply.Reply.{Reply}
use Rattle.broker_links.specs.declared.reply.Reply.TheVariants as reply
use Rattle.broker_links.proofs.Exchanged.{said_one, heard_behind, one_answer, sends_once, never_sends, loses_send, tells_log, tells_part, none_failed, calls_failed, none_bad, not_cut}

-- ---- turns

-- none passed, or one in which a reply came
abbrev HasGone : List Turn → Option Reply → Type 0
HasGone turns None = turns ≡ []
HasGone turns (Some given) = (turn : Turn) × (turns ≡ turn ∷ []) × TakesReply None turn.frame turn.answer (Some given)

gone : (turns : List Turn) (came : Option Reply) → Goes asks None turns came → HasGone turns came
gone [] came went = subst (HasGone []) (sym went) refl
gone (turn ∷ []) came went =
    let takes = went.1.answered in
    subst (HasGone (turn ∷ [])) (sym (went.2 ∙ takes.becomes))
    (turn, refl, record { waits = refl; given = takes.given; is = takes.is; fits = takes.fits; silent = takes.silent; becomes = refl })
gone (turn ∷ other ∷ turns) came went = absurd (over (ap try_expects (sym went.1.answered.becomes) ∙ went.2.1.expected))
  where
    over : None ≡ Some went.2.1.place → ⊥
    over is = cc

-- ---- one exchange

module _ (said : Want) (first now : LinkSnapshot) where
  abbrev front : List ℕ
  front = want_frame said

  -- the log of the want alone, and with a reply
  want_alone : whole_log Prover (want said ∷ []) [] ≡ bytes_from Prover front
  want_alone = append-nil _ ∙ said_one Prover (want said)

  with_reply : (turn : Turn) (given : Reply) → TakesReply None turn.frame turn.answer (Some given)
      → whole_log Prover (want said ∷ []) (turn ∷ []) ≡ asked_log said (frame_spelling (reply_frame given))
  with_reply turn given takes =
      let same : takes.given ≡ given = some_same (sym takes.becomes) in
      (λ i. said_one Prover (want said) i ++ (append-nil _ ∙ (λ j. bytes_from Verifier (frame_spelling (takes.is j)) ++ bytes_from Prover (flat_map frame_spelling (takes.silent j)))
      ∙ append-nil (bytes_from Verifier (frame_spelling (reply_frame takes.given)))) i)
      ∙ ap (λ r. asked_log said (frame_spelling (reply_frame r))) same
    where
      some_same : Some takes.given ≡ Some given → takes.given ≡ given
      some_same is = cc

  some_front : 1 ≤ length front
  some_front = omega arith

  -- a reply came
  replied : (given : Reply) (turns : List Turn) → HasGone turns (Some given) → GoesWell Prover (whole_log Prover (want said ∷ []) turns) first now
      → HasReply said given first now × TellsLog Prover (IsTryFault (reply_outcome given) × (now.log ≡ [])) front first now
  replied given turns is well =
      let log : whole_log Prover (want said ∷ []) turns ≡ asked_log said (frame_spelling (reply_frame given)) =
      ap (whole_log Prover (want said ∷ [])) is.1 ∙ with_reply is.0 given is.2 in
      let sent = subst (λ l. GoesWell Prover l first now) log well in (
        record {
          fits = fits given is.2;
          logged = sent.logged;
          sent = sends_once Prover _ first now sent.sent (one_answer Prover front (frame_spelling (reply_frame given)) some_front);
        },
        tells_log Prover _ front _ first now sent.sent,
      )
    where
      fits : (given : Reply) → TakesReply None is.0.frame is.0.answer (Some given) → FitsReply given
      fits given takes = subst FitsReply (let same : takes.given ≡ given = cc in same) takes.fits

  cause_of : (given : Reply) → HasReply said given first now → IsTryCause said first (reply_outcome given) now
  cause_of (reply.Block given) has = has
  cause_of (reply.Out out) has = has

  -- no reply came, but bytes of one
  missed : (fault : LineFault) (rest : List ℕ) → StopsShort Prover (asked_log said rest) expect.Block rest fault first now
      → IsTryCause said first (try_line_outcome fault) now
  missed fault rest short = by_fault fault short
    where
      heard : (fault : LineFault) → StopsShort Prover (asked_log said rest) expect.Block rest fault first now → length (sent_by Verifier now.log) ≡ length rest
      heard fault short = ap length (ap (sent_by Verifier) short.logged ∙ heard_behind Prover front rest)

      stops : (fault : LineFault) (P : List ℕ → Type 0) → StopsShort Prover (asked_log said rest) expect.Block rest fault first now → P rest → StopsAsked said P first now
      stops fault P short holds = record {
        rest = rest;
        logged = short.logged;
        few = short.part.few;
        cause = holds;
        sent = sends_once Prover (asked_log said rest) first now short.sent (one_answer Prover front rest some_front);
      }

      by_fault : (fault : LineFault) → StopsShort Prover (asked_log said rest) expect.Block rest fault first now → IsTryCause said first (try_line_outcome fault) now
      by_fault (line.PeerEnded at) short =
          (stops (line.PeerEnded at) (λ l. IsCutShort expect.Block l × (at ≡ length l)) short (short.part.cut tt, short.cause.0 ∙ heard (line.PeerEnded at) short), short.cause.1, short.cause.2)
      by_fault (line.BadFrame at) short =
          let same : short.cause.0 ≡ at = omega (arith, short.cause.2, heard (line.BadFrame at) short) in
          stops (line.BadFrame at) (λ l. IsFirstBad expect.Block l at) short (subst (IsFirstBad expect.Block rest) same short.cause.1)
      by_fault line.Link short = (short.calls.failed refl, inl (stops line.Link (IsCutShort expect.Block) short (short.part.cut tt)))
      by_fault line.NoMemory short = inl (stops line.NoMemory (IsCutShort expect.Block) short (short.part.cut tt))

  -- what is said of an outcome
  abbrev Parts : TryOutcome → Type 0
  Parts result =
      IsTryCause said first result now × TellsLog Prover (IsTryFault result × (now.log ≡ [])) front first now
      × CountsFailures (result ≡ outcome.Link) first.faults now.faults

  -- the want was not sent
  unsent : (fault : LineFault) → KeepsBack None Prover [] front fault first now
      → Parts (try_line_outcome fault)
  unsent fault (inl lacks) = subst (λ (f : LineFault). Parts (try_line_outcome f)) (sym lacks.0) (
    inr (inr (record { none = lacks.1.logged; unsent = never_sends Prover [] first now lacks.1.sent refl })),
    tells_log Prover _ front [] first now lacks.1.sent,
    none_failed _ first.faults now.faults lacks.1.faults,
  )
  unsent fault (inr lost) = (by_fault fault lost, told fault lost, calls_failed try_line_outcome outcome.Link fault first now refl lost.calls)
    where
      by_fault : (fault : LineFault) → IsLostBy fault Prover [] front first now → IsTryCause said first (try_line_outcome fault) now
      by_fault line.Link lost = (lost.calls.failed refl, inr (record { none = lost.logged; lost = loses_send Prover [] front first now lost.lost refl }))
      by_fault line.NoMemory lost = inr (inl (record { none = lost.logged; lost = loses_send Prover [] front first now lost.lost refl }))
      by_fault other lost = absurd lost.fault_is

      told : (fault : LineFault) → IsLostBy fault Prover [] front first now → TellsLog Prover (IsTryFault (try_line_outcome fault) × (now.log ≡ [])) front first now
      told line.Link lost = tells_part Prover _ front [] first now (tt, lost.logged) lost.lost
      told line.NoMemory lost = tells_part Prover _ front [] first now (tt, lost.logged) lost.lost
      told other lost = absurd lost.fault_is

  -- ---- with a broker that answers

  heard_rest : (rest : List ℕ) → now.log ≡ asked_log said rest → sent_by Verifier now.log ≡ rest
  heard_rest rest logged = ap (sent_by Verifier) logged ∙ heard_behind Prover front rest

  given_completes : (given : Reply) → HasReply said given first now → TryCompletes first (reply_outcome given) now
  given_completes given has frame allowed begun ended calm =
      let all = heard_rest (frame_spelling (reply_frame given)) has.logged in
      inl (given, none_begins_another expect.Block frame (reply_frame given) allowed (allows given has.fits) (subst (BeginsWith (frame_spelling frame)) all begun), refl)
    where
      allows : (given : Reply) → FitsReply given → Allows expect.Block (reply_frame given)
      allows (reply.Block block) fits = inl (block, refl, fits)
      allows (reply.Out out) fits = inr (out, refl, fits)

  completes : (result : TryOutcome) → IsTryCause said first result now → TryCompletes first result now
  completes (outcome.Block given) has frame allowed begun ended calm = given_completes (reply.Block given) has frame allowed begun ended calm
  completes (outcome.Out out) has frame allowed begun ended calm = given_completes (reply.Out out) has frame allowed begun ended calm
  completes (outcome.PeerEnded at) stops frame allowed begun ended calm =
      absurd (not_cut expect.Block frame stops.0.rest allowed (sym (heard_rest stops.0.rest stops.0.logged) ∙ ended at refl) stops.0.cause.0)
  completes (outcome.BadFrame at) stops frame allowed begun ended calm =
      absurd (none_bad expect.Block frame stops.rest allowed (subst (BeginsWith (frame_spelling frame)) (heard_rest stops.rest stops.logged) begun) at stops.cause)
  completes outcome.Link caused frame allowed begun ended calm = absurd (calm caused.0)
  completes outcome.NoMemory caused frame allowed begun ended calm = inr refl

  -- ---- all together

  pub left : (came : Option Reply) (result : Outcome TryOutcome) → PartyLeaves asks (want said ∷ []) Prover None came result first now
      → TryLeaves said first (outcome_told came result) now
  left came result leaves =
      let parts = by_outcome came result leaves in
      record { cause = parts.0; told = parts.1; come = leaves.come; faults = parts.2; complete = completes (outcome_told came result) parts.0 }
    where
      finished : (came : Option Reply) (turns : List Turn) → HasGone turns came → try_expects came ≡ None
          → GoesWell Prover (whole_log Prover (want said ∷ []) turns) first now → Parts (outcome_told came Done)
      finished None turns is over well = absurd (let no : Some expect.Block ≡ None → ⊥ = λ e. cc in no over)
      finished (Some given) turns is over well =
          let has = replied given turns is well in
          (cause_of given has.0, has.1, none_failed _ first.faults now.faults well.faults)

      none_waiting : (turns : List Turn) (mid : Option Reply) {place : _} → HasGone turns mid → try_expects mid ≡ Some place → (turns ≡ []) × (expect.Block ≡ place)
      none_waiting turns None is expected = (is, let e : Some expect.Block ≡ Some _ → expect.Block ≡ _ = λ e. cc in e expected)
      none_waiting turns (Some given) is expected = absurd (let no : None ≡ Some _ → ⊥ = λ e. cc in no expected)

      by_outcome : (came : Option Reply) (result : Outcome TryOutcome) → PartyLeaves asks (want said ∷ []) Prover None came result first now → Parts (outcome_told came result)
      by_outcome came Done leaves =
          let stop = leaves.halts in
          finished came leaves.turns (gone leaves.turns came (subst (Goes asks None leaves.turns) (sym stop.same) leaves.went)) stop.expected stop.well
      by_outcome came (Refused fault) leaves = absurd leaves.halts.refused
      by_outcome came (Cut fault) leaves = elim leaves.halts [
        | inl misses ↦
            let waiting = none_waiting leaves.turns leaves.mid (gone leaves.turns leaves.mid leaves.went) misses.expected in
            let log : whole_log Prover (want said ∷ []) leaves.turns ++ bytes_from Verifier misses.rest ≡ asked_log said misses.rest =
            ap (λ l. l ++ bytes_from Verifier misses.rest) (ap (whole_log Prover (want said ∷ [])) waiting.0 ∙ want_alone) in
            let short : StopsShort Prover (asked_log said misses.rest) expect.Block misses.rest fault first now =
            subst (λ (q : List (Side × ℕ) × Expect). StopsShort Prover q.0 q.1 misses.rest fault first now) (λ i. (log i, sym waiting.1 i)) misses.short in (
              missed fault misses.rest short,
              tells_log Prover _ front _ first now short.sent,
              calls_failed try_line_outcome outcome.Link fault first now refl short.calls,
            )
        | inr (inl keeps) ↦ absurd (let some = keeps.some in omega (arith, some, ap length keeps.is.answered.silent))
        | inr (inr keeps) ↦ unsent fault (subst (λ l. KeepsBack None Prover [] l fault first now) (append-nil front) keeps.kept)
      ]
