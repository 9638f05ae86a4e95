-- What a run of an end that goes by a script leaves, of what its driver says.
use Rattle.std.proofs.Common.{◌≡◌, inl, inr, Some, None, List, [], ◌∷◌, ◌++◌, flat_map, drop, refl, sym, ◌∙◌, ap, subst, append_assoc, append-nil}
use Rattle.std.proofs.lemmas.Grind.{flat_map-append}
use Rattle.zk_model.specs.Transcript.{bytes_from}
use Rattle.zk_model.specs.Frames.{Frame, frame_spelling, Allows}
use Rattle.zk_model.specs.declared.Expect.{Expect}
use Rattle.zk_model.specs.declared.Side.{Side}
use Rattle.frame_link.specs.Sides.{peer_of}
use Rattle.frame_link.specs.Lines.{LinkSnapshot}
use Rattle.session_driver.specs.Runs.{Turn, IsTurn, said, whole_log}
use Rattle.session_driver.specs.Leaving as driven
use Rattle.session_driver.specs.Leaving.{GoesWell, TriesCode, StopsShort, KeepsBack, PartyLeaves}
use Rattle.session_driver.specs.declared.drive.Outcome.{Outcome}
use Rattle.session_driver.specs.declared.drive.Outcome.TheVariants.{Done, Refused, Cut}
use Rattle.session_driver.proofs.Going.{bytes_more, whole_more, goes_keeps}
use Rattle.session_script.specs.declared.fault.EndFault.{EndFault}
use Rattle.session_script.specs.Scripts.{said_by, Says, log_of, next_of, own_of, Rules, Stage, Passes, AnswersBy, TurnsDown, refusal_at, code_for, scripted, StopsAt, ScriptLeaves}
use Rattle.session_script.proofs.Scripting.{next_front, peers, allowed_side, passes_on}

-- ---- logs

pub log_on : (frames others : List Frame) → log_of (frames ++ others) ≡ log_of frames ++ log_of others
log_on frames others = flat_map-append (λ frame. bytes_from (said_by frame) (frame_spelling frame)) frames others

said_log : (side : Side) (frames : List Frame) → Says side frames → said side frames ≡ log_of frames
said_log side [] says = refl
said_log side (frame ∷ frames) says =
    bytes_more side (frame_spelling frame) (flat_map frame_spelling frames)
    ∙ (λ i. bytes_from (sym says.0 i) (frame_spelling frame) ++ said_log side frames says.1 i)

-- the frames of turns, in order
abbrev pub frames_of : List Turn → List Frame
frames_of turns = flat_map (λ turn. turn.frame ∷ turn.answer) turns

frames_more : (turns : List Turn) (turn : Turn) → frames_of turns ++ turn.frame ∷ turn.answer ≡ frames_of (turns ++ turn ∷ [])
frames_more turns turn =
    ap (λ l. frames_of turns ++ l) (sym (append-nil (turn.frame ∷ turn.answer)))
    ∙ sym (flat_map-append (λ (turn : Turn). turn.frame ∷ turn.answer) turns (turn ∷ []))

none_left : (places : List Expect) → next_of places ≡ None → places ≡ []
none_left [] none = refl
none_left (place ∷ places) none = cc

-- ---- runs

module _ {S T K F : Type 0} (side : Side) (rules : T → Rules K F) (task : S → T) (stage : S → Stage K) (greeting : List Frame) (old : S) where
  -- what holds after turns
  pub record Stands (s : S) (turns : List Turn) : Type 0 where
    pub same : task s ≡ task old
    pub passes : Passes (rules (task old)) (stage old) (frames_of turns) (stage s)
    pub waits : own_of side (stage s).left ≡ None
    pub logged : whole_log side greeting turns ≡ log_of (greeting ++ frames_of turns)

  -- the peer says the frame that comes
  came_from : (s : S) (place : Expect) (frame : Frame) → own_of side (stage s).left ≡ None → next_of (stage s).left ≡ Some place → Allows place frame
      → said_by frame ≡ peer_of side
  came_from s place frame waits next allowed =
      allowed_side place frame allowed
      ∙ peers side place (drop 1 (stage s).left) (ap (own_of side) (sym (next_front (stage s).left place next)) ∙ waits)

  on : (s : S) (before : List Turn) (turn : Turn) (t : S) → Stands s before → IsTurn (scripted side rules task stage) s turn t
      → Stands t (before ++ turn ∷ [])
  on s before turn t stands is =
      let by : AnswersBy side (rules (task s)) (stage s) turn.frame turn.answer (stage t) = is.answered.0 in
      let came = came_from s is.place turn.frame stands.waits is.expected is.allowed in
      record {
        same = is.answered.1 ∙ stands.same;
        passes = subst (λ l. Passes (rules (task old)) (stage old) l (stage t)) (frames_more before turn)
            (passes_on (rules (task old)) (stage old) (stage s) (stage t) (frames_of before) (turn.frame ∷ turn.answer) stands.passes
            (subst (λ q. Passes (rules q) (stage s) (turn.frame ∷ turn.answer) (stage t)) stands.same by.passes));
        waits = by.waits;
        logged = sym (whole_more side greeting before turn)
            ∙ append_assoc (whole_log side greeting before) (bytes_from (peer_of side) (frame_spelling turn.frame)) (said side turn.answer)
            ∙ (λ i. stands.logged i ++ (bytes_from (sym came i) (frame_spelling turn.frame) ++ said_log side turn.answer by.own i))
            ∙ sym (log_on (greeting ++ frames_of before) (turn.frame ∷ turn.answer))
            ∙ ap log_of (append_assoc greeting (frames_of before) (turn.frame ∷ turn.answer) ∙ ap (λ l. greeting ++ l) (frames_more before turn));
      }

  stands_first : Says side greeting → own_of side (stage old).left ≡ None → Stands old []
  stands_first own waits = record {
    same = refl;
    passes = refl;
    waits = waits;
    logged = append-nil (said side greeting) ∙ said_log side greeting own ∙ ap log_of (sym (append-nil greeting));
  }

  module _ (turns : List Turn) (mid new : S) (first now : LinkSnapshot) (stands : Stands mid turns) where
    by_halt : (outcome : Outcome (EndFault F)) → driven.Halts (scripted side rules task stage) greeting side turns mid new outcome first now
        → StopsAt (rules (task old)) side greeting (frames_of turns) (stage mid) (stage new).known outcome first now
    by_halt Done over = record {
      same = ap (λ s. (stage s).known) over.same;
      none = none_left (stage mid).left (ap (λ s. next_of (stage s).left) (sym over.same) ∙ over.expected);
      well = subst (λ l. GoesWell side l first now) stands.logged over.well;
    }
    by_halt (Refused fault) down = record {
      place = down.place;
      next = down.expected;
      frame = down.frame;
      allowed = down.allowed;
      refused = subst (λ q. TurnsDown side (rules q) (stage mid) down.frame fault (stage new).known) stands.same down.refused.0;
      tried = subst (λ o. TriesCode side (log_of (greeting ++ frames_of turns) ++ bytes_from (peer_of side) (frame_spelling down.frame)) o first now)
          (down.refused.1 ∙ ap (λ q. refusal_at (stage mid).left (code_for (rules q) fault)) stands.same)
          (subst (λ l. TriesCode side (l ++ bytes_from (peer_of side) (frame_spelling down.frame)) down.code first now) stands.logged down.tried);
    }
    by_halt (Cut fault) (inl missing) = inl (record {
      same = ap (λ s. (stage s).known) missing.same;
      place = missing.place;
      next = missing.expected;
      rest = missing.rest;
      short = subst (λ l. StopsShort side (l ++ bytes_from (peer_of side) missing.rest) missing.place missing.rest fault first now) stands.logged missing.short;
    })
    by_halt (Cut fault) (inr (inl kept)) = inr (inl (record {
      frame = kept.turn.frame;
      answer = kept.turn.answer;
      some = kept.some;
      after = stage new;
      answered = subst (λ q. AnswersBy side (rules q) (stage mid) kept.turn.frame kept.turn.answer (stage new)) stands.same kept.is.answered.0;
      same = refl;
      kept = subst (λ l. KeepsBack (refusal_at (stage mid).left 4) side (l ++ bytes_from (peer_of side) (frame_spelling kept.turn.frame))
          (flat_map frame_spelling kept.turn.answer) fault first now) stands.logged kept.kept;
    }))
    by_halt (Cut fault) (inr (inr kept)) = inr (inr (record {
      same = ap (λ s. (stage s).known) kept.same;
      none = ap frames_of kept.none;
      some = kept.some;
      kept = kept.kept;
    }))

    task_kept : (outcome : Outcome (EndFault F)) → driven.Halts (scripted side rules task stage) greeting side turns mid new outcome first now
        → task new ≡ task old
    task_kept Done over = ap task over.same ∙ stands.same
    task_kept (Refused fault) down = down.refused.2 ∙ stands.same
    task_kept (Cut fault) (inl missing) = ap task missing.same ∙ stands.same
    task_kept (Cut fault) (inr (inl kept)) = kept.is.answered.1 ∙ stands.same
    task_kept (Cut fault) (inr (inr kept)) = ap task kept.same ∙ stands.same

  module _ (new : S) (outcome : Outcome (EndFault F)) (first now : LinkSnapshot) (own : Says side greeting) (waits : own_of side (stage old).left ≡ None)
      (leaves : PartyLeaves (scripted side rules task stage) greeting side old new outcome first now) where
    stands_in : Stands leaves.mid leaves.turns
    stands_in = goes_keeps (scripted side rules task stage) Stands on old leaves.mid leaves.turns (stands_first own waits) leaves.went

    pub leaves_so : ScriptLeaves (rules (task old)) side greeting (stage old) (stage new).known outcome first now
    leaves_so = record {
      frames = frames_of leaves.turns;
      stage = stage leaves.mid;
      passed = stands_in.passes;
      waits = stands_in.waits;
      stops = by_halt leaves.turns leaves.mid new first now stands_in outcome leaves.halts;
      come = leaves.come;
    }

    pub task_stays : task new ≡ task old
    task_stays = task_kept leaves.turns leaves.mid new first now stands_in outcome leaves.halts
