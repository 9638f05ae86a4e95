-- What a run leaves by some rules, told by others: those that know less of the same frames.
use Rattle.std.proofs.Common.{◌≡◌, ◌⊎◌, inl, inr, List, [], ◌∷◌, ◌++◌, refl, sym, ◌∙◌, ap, subst}
use Rattle.std.specs.Prelude.{ℕ}
use Rattle.zk_model.specs.Transcript.{Grant, bytes_from}
use Rattle.zk_model.specs.Frames.{Frame, frame_spelling}
use Rattle.zk_model.specs.declared.Expect.{Expect}
use Rattle.zk_model.specs.declared.Side.{Side}
use Rattle.frame_link.specs.Sides.{peer_of}
use Rattle.frame_link.specs.Lines.{LinkSnapshot}
use Rattle.session_driver.specs.Leaving.{TriesCode}
use Rattle.session_driver.specs.declared.drive.Outcome.{Outcome}
use Rattle.session_driver.specs.declared.drive.Outcome.TheVariants.{Done, Refused, Cut}
use Rattle.session_script.specs.declared.fault.EndFault.{EndFault}
use Rattle.session_script.specs.declared.fault.EndFault.TheVariants.{OfVoice, NoMemory}
use Rattle.session_script.specs.Scripts.{after_in, left_after, Rules, Stage, stage_of, Fits, Passes, Reached, AnswersBy, FailsThere, AnswerFails, TurnsDown, refusal_at, code_for, IsOver, Refuses, LacksFrame, KeepsAnswer, KeepsGreeting, StopsAt, ScriptLeaves, log_of}

-- The same places, codes and places after a grant; and what is known by the first rules is known by the others as this function tells it.
pub record Carries {K L F : Type 0} (f : K → L) (rules : Rules K F) (others : Rules L F) : Type 0 where
  pub places : others.places ≡ rules.places
  pub behind : others.behind ≡ rules.behind
  pub code : (fault : F) → others.code fault ≡ rules.code fault
  pub first : (known : K) → rules.first known → others.first (f known)
  pub passes : (old : K) (frame : Frame) (new : K) → rules.passes old frame new → others.passes (f old) frame (f new)
  pub refuses : (old : K) (frame : Frame) (fault : F) (new : K) → rules.refuses old frame fault new → others.refuses (f old) frame fault (f new)
  pub declines : (old : K) (place : Expect) (fault : F) (new : K) → rules.declines old place fault new → others.declines (f old) place fault (f new)

module _ {K L F : Type 0} (f : K → L) (rules : Rules K F) (others : Rules L F) (carries : Carries f rules others) where
  -- a stage, as it is told
  abbrev told : Stage K → Stage L
  told stage = stage_of (f stage.known) stage.left

  -- ---- frames

  pub carried_fits : (old : Stage K) (frame : Frame) (new : Stage K) → Fits rules old frame new → Fits others (told old) frame (told new)
  carried_fits old frame new fits = record {
    place = fits.place;
    places = fits.places;
    next = fits.next;
    allowed = fits.allowed;
    passes = carries.passes old.known frame new.known fits.passes;
    left = fits.left ∙ sym (ap (λ (b : Grant → List Expect). left_after b fits.places (after_in frame)) carries.behind);
  }

  pub carried_passes : (old : Stage K) (frames : List Frame) (new : Stage K) → Passes rules old frames new → Passes others (told old) frames (told new)
  carried_passes old [] new passes = ap told passes
  carried_passes old (frame ∷ frames) new passes =
      (told passes.0, carried_fits old frame passes.0 passes.1, carried_passes passes.0 frames new passes.2)

  pub carried_reached : (stage : Stage K) → Reached rules stage → Reached others (told stage)
  carried_reached stage reached = record {
    start = f reached.start;
    begins = carries.first reached.start reached.begins;
    frames = reached.frames;
    passed = subst (λ (l : List Expect). Passes others (stage_of (f reached.start) l) reached.frames (told stage)) (sym carries.places)
        (carried_passes (stage_of reached.start rules.places) reached.frames stage reached.passed);
  }

  -- ---- what an end does

  pub carried_answers : (side : Side) (old : Stage K) (frame : Frame) (answer : List Frame) (new : Stage K) → AnswersBy side rules old frame answer new
      → AnswersBy side others (told old) frame answer (told new)
  carried_answers side old frame answer new answers = record {
    passes = carried_passes old (frame ∷ answer) new answers.passes;
    own = answers.own;
    waits = answers.waits;
  }

  carried_stop : (side : Side) (stage : Stage K) (fault : EndFault F) (known : K) → FailsThere side rules stage fault known
      → FailsThere side others (told stage) fault (f known)
  carried_stop side stage (OfVoice fault) known fails = (fails.0, fails.1, carries.declines stage.known fails.0 fault known fails.2)
  carried_stop side stage NoMemory known fails = ap f fails

  carried_fails : (side : Side) (old : Stage K) (frames : List Frame) (fault : EndFault F) (known : K) → AnswerFails side rules old frames fault known
      → AnswerFails side others (told old) frames fault (f known)
  carried_fails side old frames fault known fails = record {
    stage = told fails.stage;
    passes = carried_passes old frames fails.stage fails.passes;
    fails = carried_stop side fails.stage fault known fails.fails;
  }

  pub carried_down : (side : Side) (old : Stage K) (frame : Frame) (fault : EndFault F) (known : K) → TurnsDown side rules old frame fault known
      → TurnsDown side others (told old) frame fault (f known)
  carried_down side old frame fault known (inl refused) =
      inl (refused.0, refused.1, carries.refuses old.known frame refused.0 known refused.2)
  carried_down side old frame fault known (inr stopped) =
      inr (stopped.0, stopped.1, carried_fails side old (frame ∷ stopped.0) fault known stopped.2)

  -- ---- what a run leaves

  same_code : (fault : EndFault F) → code_for rules fault ≡ code_for others fault
  same_code (OfVoice fault) = sym (carries.code fault)
  same_code NoMemory = refl

  pub carried_stops : (side : Side) (greeting frames : List Frame) (stage : Stage K) (known : K) (outcome : Outcome (EndFault F)) (first now : LinkSnapshot)
      → StopsAt rules side greeting frames stage known outcome first now → StopsAt others side greeting frames (told stage) (f known) outcome first now
  carried_stops side greeting frames stage known Done first now over = record { same = ap f over.same; none = over.none; well = over.well }
  carried_stops side greeting frames stage known (Refused fault) first now down = record {
    place = down.place;
    next = down.next;
    frame = down.frame;
    allowed = down.allowed;
    refused = carried_down side stage down.frame fault known down.refused;
    tried = subst (λ (code : ℕ). TriesCode side (log_of (greeting ++ frames) ++ bytes_from (peer_of side) (frame_spelling down.frame)) (refusal_at stage.left code) first now) (same_code fault) down.tried;
  }
  carried_stops side greeting frames stage known (Cut fault) first now (inl lacks) = inl (record {
    same = ap f lacks.same;
    place = lacks.place;
    next = lacks.next;
    rest = lacks.rest;
    short = lacks.short;
  })
  carried_stops side greeting frames stage known (Cut fault) first now (inr (inl kept)) = inr (inl (record {
    frame = kept.frame;
    answer = kept.answer;
    some = kept.some;
    after = told kept.after;
    answered = carried_answers side stage kept.frame kept.answer kept.after kept.answered;
    same = ap f kept.same;
    kept = kept.kept;
  }))
  carried_stops side greeting frames stage known (Cut fault) first now (inr (inr kept)) = inr (inr (record {
    same = ap f kept.same;
    none = kept.none;
    some = kept.some;
    kept = kept.kept;
  }))

  pub carried_leaves : (side : Side) (greeting : List Frame) (old : Stage K) (known : K) (outcome : Outcome (EndFault F)) (first now : LinkSnapshot)
      → ScriptLeaves rules side greeting old known outcome first now → ScriptLeaves others side greeting (told old) (f known) outcome first now
  carried_leaves side greeting old known outcome first now leaves = record {
    frames = leaves.frames;
    stage = told leaves.stage;
    passed = carried_passes old leaves.frames leaves.stage leaves.passed;
    waits = leaves.waits;
    stops = carried_stops side greeting leaves.frames leaves.stage known outcome first now leaves.stops;
    come = leaves.come;
  }
