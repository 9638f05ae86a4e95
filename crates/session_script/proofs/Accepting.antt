-- A log of a session that ends accepted is of no run but one that is over, and said so.
use Rattle.std.proofs.Common.{◌≡◌, ◌⊎◌, ℕ, inl, inr, Option, Some, None, List, [], ◌∷◌, ◌++◌, drop, refl, sym, ◌∙◌, ap, subst, arith, append_assoc, append-nil}
use Rattle.zk_model.specs.Transcript.{Grant, bytes_from, refuse_frame}
use Rattle.zk_model.specs.Frames.{Frame, verdict, refuse, frame_spelling, Allows}
use Rattle.zk_model.specs.declared.Expect.{Expect}
use Rattle.zk_model.specs.declared.Side.{Side}
use Rattle.zk_model.specs.declared.Side.TheVariants.{Prover, Verifier}
use Rattle.frame_link.specs.Lines.{LinkSnapshot}
use Rattle.frame_link.specs.declared.fault.LineFault.{LineFault}
use Rattle.session_driver.specs.Leaving.{TriesCode, KeepsBack}
use Rattle.session_driver.specs.declared.drive.Outcome.{Outcome}
use Rattle.session_driver.specs.declared.drive.Outcome.TheVariants.{Done, Refused, Cut}
use Rattle.session_script.specs.declared.fault.EndFault.{EndFault}
use Rattle.session_script.specs.Scripts.{said_by, log_of, after_in, left_after, next_of, own_of, refusal_at, Fills, Rules, Stage, stage_of, Fits, Passes, StopsAt, ScriptLeaves, EndsAccepted, EndsSo}
use Rattle.session_script.proofs.Scripting.{next_front, peers, allowed_side}
use Rattle.session_script.proofs.Reading.{is_refusal, spelled, GoesOn, one_reading, none_more, same_bytes, last_by, last_behind, last_one, last_side, last_said, passes_fill, fills_more}
use Rattle.session_script.proofs.Led.{log_on}

pub passes_last : {K F : Type 0} (rules : Rules K F) (old new : Stage K) (frames : List Frame) (frame : Frame) → Passes rules old (frames ++ frame ∷ []) new
    → (mid : Stage K) × Fits rules mid frame new
passes_last rules old new [] frame passes = (old, subst (λ s. Fits rules old frame s) (sym passes.2) passes.1)
passes_last rules old new (first ∷ frames) frame passes = passes_last rules passes.0 new frames frame passes.2

-- ---- a log that ends accepted

-- it ends with the verifier
accepted_last : (frames : List Frame) (number : ℕ) (log : List (Side × ℕ)) → log ≡ log_of (frames ++ verdict 0 number ∷ [])
    → last_by (λ (entry : Side × ℕ). entry.0) log ≡ Some Verifier
accepted_last frames number log is = ap (last_by (λ (entry : Side × ℕ). entry.0)) is ∙ last_said frames (verdict 0 number)

not_prover : (log : List (Side × ℕ)) → last_by (λ (entry : Side × ℕ). entry.0) log ≡ Some Prover → last_by (λ (entry : Side × ℕ). entry.0) log ≡ Some Verifier → ⊥
not_prover log one other = let e : Some Prover ≡ Some Verifier = sym one ∙ other in cc

-- no refusal ends it
ends_so : (frames others : List Frame) (number code : ℕ) (m : Frame) (more : List Frame) → others ++ verdict 0 number ∷ [] ≡ frames ++ m ∷ more
    → m ≡ refuse code → more ≡ [] → ⊥
ends_so frames others number code m more is refused none =
    let last : Some (verdict 0 number) ≡ Some m = sym (last_one (λ (frame : Frame). frame) others (verdict 0 number))
    ∙ ap (last_by (λ (frame : Frame). frame)) (is ∙ ap (λ l. frames ++ m ∷ l) none) ∙ last_one (λ (frame : Frame). frame) frames m in
    let clash : Some (verdict 0 number) ≡ Some (refuse code) = last ∙ ap Some refused in cc

no_more : (behind : Grant → List Expect) (more : List Frame) → Fills behind [] more [] → more ≡ []
no_more behind [] fills = refl
no_more behind (next ∷ more) fills = absurd fills

by_left : (behind : Grant → List Expect) (frames others : List Frame) (number code : ℕ) (m : Frame) (more : List Frame)
    → others ++ verdict 0 number ∷ [] ≡ frames ++ m ∷ more → m ≡ refuse code → (places : List Expect) → Fills behind places (m ∷ more) [] → ⊥
by_left behind frames others number code m more is refused [] some = some
by_left behind frames others number code m more is refused (place ∷ places) some =
    ends_so frames others number code m more is refused
    (no_more behind more (subst (λ f. Fills behind (left_after behind places (after_in f)) more []) refused some.1))

refusal_last : (behind : Grant → List Expect) (frames others : List Frame) (left : List Expect) (number code : ℕ) (more : List Frame)
    → others ++ verdict 0 number ∷ [] ≡ frames ++ more → refuse_frame code ≡ spelled more ++ [] → Fills behind left more [] → ⊥
refusal_last behind frames others left number code [] is bytes some = cc
refusal_last behind frames others left number code (m ∷ more) is bytes some =
    let refusal = is_refusal m code (spelled more ++ []) []
    (sym (append_assoc (frame_spelling m) (spelled more) []) ∙ sym bytes ∙ sym (append-nil (refuse_frame code))) in
    by_left behind frames others number refusal.0 m more is refusal.1 left some

none_behind : (behind : Grant → List Expect) (left : List Expect) (code : ℕ) (more : List Frame) → [] ≡ spelled more ++ refuse_frame code
    → Fills behind [] more left → ⊥
none_behind behind left code [] bytes some = cc
none_behind behind left code (next ∷ more) bytes some = some

no_refusal : (behind : Grant → List Expect) (places : List Expect) (frames others : List Frame) (left : List Expect) (number code : ℕ)
    → Fills behind places (others ++ verdict 0 number ∷ []) []
    → GoesOn behind frames left (refuse_frame code) (others ++ verdict 0 number ∷ []) [] []
    ⊎ GoesOn behind (others ++ verdict 0 number ∷ []) [] [] frames left (refuse_frame code) → ⊥
no_refusal behind places frames others left number code ends (inl on) = refusal_last behind frames others left number code on.more on.is on.bytes on.fills
no_refusal behind places frames others left number code ends (inr on) = none_behind behind left code on.more on.bytes on.fills

module _ (behind : Grant → List Expect) (places : List Expect) (frames others : List Frame) (left : List Expect) (number : ℕ) (log : List (Side × ℕ))
    (fills : Fills behind places frames left) (ends : Fills behind places (others ++ verdict 0 number ∷ []) [])
    (logged : log ≡ log_of (others ++ verdict 0 number ∷ [])) where
  -- frames with this log are those, and leave nothing
  pub same_frames : log ≡ log_of frames → (frames ≡ others ++ verdict 0 number ∷ []) × (left ≡ [])
  same_frames is = found (one_reading behind places frames (others ++ verdict 0 number ∷ []) left [] [] [] fills ends
      (same_bytes frames (others ++ verdict 0 number ∷ []) Prover [] (append-nil (log_of frames) ∙ sym is ∙ logged)))
    where
      found : GoesOn behind frames left [] (others ++ verdict 0 number ∷ []) [] [] ⊎ GoesOn behind (others ++ verdict 0 number ∷ []) [] [] frames left []
          → (frames ≡ others ++ verdict 0 number ∷ []) × (left ≡ [])
      found (inl on) =
          let none = none_more on.more [] on.bytes in
          (sym (on.is ∙ ap (λ l. frames ++ l) none ∙ append-nil frames), sym (subst (λ l. Fills behind left l []) none on.fills))
      found (inr on) =
          let none = none_more on.more [] on.bytes in
          (on.is ∙ ap (λ l. (others ++ verdict 0 number ∷ []) ++ l) none ∙ append-nil (others ++ verdict 0 number ∷ []), subst (λ l. Fills behind [] l left) none on.fills)

  -- nor does a frame of the prover's come last
  pub not_heard : (frame : Frame) → said_by frame ≡ Prover → log ≡ log_of (frames ++ frame ∷ []) → ⊥
  not_heard frame from is = not_prover log (ap (last_by (λ (entry : Side × ℕ). entry.0)) is ∙ last_said frames frame ∙ ap Some from) (accepted_last others number log logged)

  -- nor bytes of one
  pub not_begun : (byte : ℕ) (rest : List ℕ) → log ≡ log_of frames ++ bytes_from Prover (byte ∷ rest) → ⊥
  not_begun byte rest is = not_prover log
      (ap (last_by (λ (entry : Side × ℕ). entry.0)) is
      ∙ last_behind (λ (entry : Side × ℕ). entry.0) (log_of frames) (bytes_from Prover (byte ∷ rest)) Prover (last_side Prover byte rest))
      (accepted_last others number log logged)

  -- nor a refusal
  pub not_refused : (code : ℕ) → log ≡ log_of frames ++ bytes_from Verifier (refuse_frame code) → ⊥
  not_refused code is = no_refusal behind places frames others left number code ends
      (one_reading behind places frames (others ++ verdict 0 number ∷ []) left [] (refuse_frame code) [] fills ends
      (same_bytes frames (others ++ verdict 0 number ∷ []) Verifier (refuse_frame code) (sym is ∙ logged)))

-- ---- runs

-- a refusal that was tried is logged, or not
by_code : (code : Option ℕ) (log : List (Side × ℕ)) (first now : LinkSnapshot) → TriesCode Verifier log code first now
    → (now.log ≡ log) ⊎ ((n : ℕ) × (now.log ≡ log ++ bytes_from Verifier (refuse_frame n)))
by_code None log first now well = inl well.logged
by_code (Some code) log first now (inl well) = inr (code, well.logged)
by_code (Some code) log first now (inr lost) = inl lost.logged

by_kept : (code : Option ℕ) (log : List (Side × ℕ)) (bytes : List ℕ) (fault : LineFault) (first now : LinkSnapshot) → KeepsBack code Verifier log bytes fault first now
    → (now.log ≡ log) ⊎ ((n : ℕ) × (now.log ≡ log ++ bytes_from Verifier (refuse_frame n)))
by_kept code log bytes fault first now (inl lacks) = by_code code log first now lacks.1
by_kept code log bytes fault first now (inr lost) = inl lost.logged

module _ {K F : Type 0} (rules : Rules K F) (known new : K) (first now : LinkSnapshot) (frames : List Frame) (stage : Stage K)
    (passed : Passes rules (stage_of known rules.places) frames stage) (waits : own_of Verifier stage.left ≡ None) (ends : EndsAccepted rules.behind rules.places now.log) where
  fills : Fills rules.behind rules.places frames stage.left
  fills = passes_fill rules (stage_of known rules.places) stage frames passed

  from_prover : (place : Expect) (frame : Frame) → next_of stage.left ≡ Some place → Allows place frame → said_by frame ≡ Prover
  from_prover place frame next allowed =
      allowed_side place frame allowed ∙ peers Verifier place (drop 1 stage.left) (ap (own_of Verifier) (sym (next_front stage.left place next)) ∙ waits)

  -- a frame of the prover's came last, and was answered by nothing, or by a refusal
  heard_no : (place : Expect) (frame : Frame) → next_of stage.left ≡ Some place → Allows place frame
      → (now.log ≡ log_of frames ++ bytes_from Prover (frame_spelling frame))
      ⊎ ((n : ℕ) × (now.log ≡ (log_of frames ++ bytes_from Prover (frame_spelling frame)) ++ bytes_from Verifier (refuse_frame n))) → ⊥
  heard_no place frame next allowed is = by is
    where
      from : said_by frame ≡ Prover
      from = from_prover place frame next allowed

      heard : log_of frames ++ bytes_from Prover (frame_spelling frame) ≡ log_of (frames ++ frame ∷ [])
      heard = (λ i. log_of frames ++ bytes_from (sym from i) (frame_spelling frame)) ∙ sym (log_on frames (frame ∷ []) ∙ ap (λ l. log_of frames ++ l) (append-nil _))

      by : (now.log ≡ log_of frames ++ bytes_from Prover (frame_spelling frame))
          ⊎ ((n : ℕ) × (now.log ≡ (log_of frames ++ bytes_from Prover (frame_spelling frame)) ++ bytes_from Verifier (refuse_frame n))) → ⊥
      by (inl same) = not_heard rules.behind rules.places frames ends.frames stage.left ends.number now.log fills ends.fills ends.logged frame from (same ∙ heard)
      by (inr (n, same)) =
          not_refused rules.behind rules.places (frames ++ frame ∷ []) ends.frames (left_after rules.behind (drop 1 stage.left) (after_in frame)) ends.number now.log
          (fills_more rules.behind rules.places stage.left (drop 1 stage.left) place frames frame fills (next_front stage.left place next) allowed)
          ends.fills ends.logged n (same ∙ ap (λ l. l ++ bytes_from Verifier (refuse_frame n)) heard)

  by_rest : (place : Expect) (rest : List ℕ) → next_of stage.left ≡ Some place → now.log ≡ log_of frames ++ bytes_from Prover rest → ⊥
  by_rest place [] next is =
      let found = same_frames rules.behind rules.places frames ends.frames stage.left ends.number now.log fills ends.fills ends.logged (is ∙ append-nil (log_of frames)) in
      let none : None ≡ Some place = sym (ap next_of found.1) ∙ next in cc
  by_rest place (byte ∷ rest) next is =
      not_begun rules.behind rules.places frames ends.frames stage.left ends.number now.log fills ends.fills ends.logged byte rest is

  by_stop : (outcome : Outcome (EndFault F)) → StopsAt rules Verifier [] frames stage new outcome first now → EndsSo rules outcome new
  by_stop Done over =
      let found = same_frames rules.behind rules.places frames ends.frames stage.left ends.number now.log fills ends.fills ends.logged over.well.logged in
      let last = passes_last rules (stage_of known rules.places) stage ends.frames (verdict 0 ends.number)
      (subst (λ l. Passes rules (stage_of known rules.places) l stage) found.0 passed) in
      record { over = refl; stage = last.0; number = ends.number; said = subst (λ k. rules.passes last.0.known (verdict 0 ends.number) k) (sym over.same) last.1.passes }
  by_stop (Refused fault) down = absurd (heard_no down.place down.frame down.next down.allowed
      (by_code (refusal_at stage.left _) (log_of frames ++ bytes_from Prover (frame_spelling down.frame)) first now down.tried))
  by_stop (Cut fault) (inl missing) = absurd (by_rest missing.place missing.rest missing.next missing.short.logged)
  by_stop (Cut fault) (inr (inl kept)) =
      let fits = kept.answered.passes.1 in
      absurd (heard_no fits.place kept.frame (ap next_of fits.next) fits.allowed
      (by_kept (refusal_at stage.left 4) (log_of frames ++ bytes_from Prover (frame_spelling kept.frame)) _ fault first now kept.kept))
  by_stop (Cut fault) (inr (inr kept)) = absurd (omega (arith, kept.some))

-- of an end of the verifier's side, which greets by nothing
pub accepts : {K F : Type 0} (rules : Rules K F) (side : Side) (greeting : List Frame) (old : Stage K) (new : K) (outcome : Outcome (EndFault F)) (first now : LinkSnapshot)
    → side ≡ Verifier → greeting ≡ [] → old.left ≡ rules.places → ScriptLeaves rules side greeting old new outcome first now → EndsAccepted rules.behind rules.places now.log
    → EndsSo rules outcome new
accepts {K} rules side greeting old new outcome first now verifier silent begins leaves ends =
    let is = subst (λ (q : Side × List Frame × List Expect). ScriptLeaves rules q.0 q.1 (stage_of old.known q.2) new outcome first now)
    (λ i. (verifier i, silent i, begins i)) leaves in
    by_stop rules old.known new first now is.frames is.stage is.passed is.waits ends outcome is.stops
