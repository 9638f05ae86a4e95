-- What frames leave, frame by frame.
use Rattle.std.proofs.lemmas.Bool.Decides.{nat_tests}
use Rattle.std.proofs.Common.{◌≡◌, ℕ, false, not, nat_eq, ◌+◌, ◌*◌, ◌<◌, List, [], ◌∷◌, ◌++◌, map, flat_map, take, length, get_or, refl, sym, ◌∙◌, ap, subst, arith, append_assoc, append-nil, length-append}
use Rattle.std.specs.Prelude.{All, Some, slice_get}
use Rattle.std.proofs.lemmas.List.{length-map, map-append, map-id, get_or-map, take_more, length-take-le}
use Rattle.std.proofs.Math.Seq.{take-length}
use Rattle.std.proofs.Math.ListN.{get_or-append}
use Rattle.std.proofs.lemmas.Option.{slice_get-get_or}
use Rattle.std.proofs.lemmas.List.FromFn.{length-enumerate_from, get_or-enumerate_from}
use Rattle.std.specs.List.{enumerate_from}
use Rattle.std.proofs.lemmas.List.Elements.{All-from_recursion, All-append}
use Rattle.std.proofs.lemmas.Simd.{map-map}
use Rattle.std.proofs.Common.{Vec, Global}
use Rattle.mersenne_field.specs.declared.Fe.{Fe}
use Rattle.zk_model.specs.Program.{Program}
use Rattle.zk_model.specs.Field.{IsElement}
use Rattle.zk_model.specs.Files.{IsVerifierFile, correlations_per_unit, rounds_of}
use Rattle.zk_model.specs.Correlations.{span_keys}
use Rattle.zk_model.specs.Transcript.{Hello, Grant, TreeAsk, TreeReply, Round, IsGrant, IsRound, ForEachTree, IsTreeAsk, IsTreeReply}
use Rattle.zk_model.specs.Frames.{Frame, hello, grant, asks, replies, corrections, challenge, sums, openings, AreAsks, AreElements}
use Rattle.zk_model.specs.View.{span_of}
use Rattle.zk_model.specs.ServedVerifier.{VerifierTask, challenge_coin, round_replies}
use Rattle.zk_model.specs.Audit.{setup_frames, round_frames, IsReplyAfter}
use Rattle.zk_model.specs.Replies.{unit_reply}
use Rattle.zk_model.specs.declared.Kind.{Kind}
use Rattle.zk_model.specs.declared.Kind.TheVariants.{Extended}
use Rattle.zk_model.specs.declared.Params.{Params}
use Rattle.proof_frames.specs.Frames.{frame_value}
use Rattle.proof_frames.specs.declared.frame.Frame as coded
use Rattle.session_core.specs.Extending.{asks_in, replies_in, asks_of, replies_of}
use Rattle.session_laws.proofs.Shapes.{round_replies_shaped}
use Rattle.proof_audit.specs.declared.session.Session.{Session}
use Rattle.proof_audit.specs.declared.session.Stage.TheVariants as at
use Rattle.proof_audit.specs.Stages.{IsSetUp, HoldsRoundKeys, Describes, IsDescribed, StageTakes, Wrongs, setup_read, rounds_read}

-- ---- one frame more

-- numbers that do not differ
pub same_numbers : (a b : ℕ) → false ≡ not (nat_eq a b) → a ≡ b
same_numbers a b same = grind (arith, nat_tests)

-- behind some frames and a last one
more : (before : List Frame) (last frame : Frame) (frames : List Frame) → frames ≡ before ++ last ∷ [] → frames ++ frame ∷ [] ≡ before ++ last ∷ frame ∷ []
more before last frame frames is = ap (λ (fs : List Frame). fs ++ frame ∷ []) is ∙ append_assoc before (last ∷ []) (frame ∷ [])

-- ---- after the rounds

-- the challenge that is the coin
pub challenge_next : (task : VerifierTask) (s : Session) (frame : Frame) (element : ℕ) → frame ≡ challenge element → IsElement element
    → element ≡ challenge_coin task.file s.grant.start
    → StageTakes task (at.Challenge s) frame (at.Sums (record s { challenge = element }))
challenge_next task s frame element is ranged coin =
    subst (λ (f : Frame). StageTakes task (at.Challenge s) f (at.Sums (record s { challenge = element }))) (sym is)
    (λ frames described. record {
      given = record { given = s.grant; behind = _; granted = record { greeting = described.0; begun = described.1 }; coin = coin };
      described = (
        described.0,
        more (setup_frames (setup_read task described.0 s)) (corrections s.corrections.items) (challenge element) frames described.1,
        record { committed = described.2; coin = coin; ranged = ranged },
      );
    })

-- the openings
pub openings_next : (task : VerifierTask) (s : Session) (frame : Frame) (macs : Vec Fe Global) → frame ≡ openings macs.items
    → AreElements (length task.statement.program.opened) macs.items
    → StageTakes task (at.Openings s) frame (at.Verdict (record s { openings = macs }))
openings_next task s frame macs is counted =
    subst (λ (f : Frame). StageTakes task (at.Openings s) f (at.Verdict (record s { openings = macs }))) (sym is)
    (λ frames described. record {
      given = tt;
      described = (
        described.0,
        ap (λ (fs : List Frame). fs ++ openings macs.items ∷ []) described.1
            ∙ append_assoc (setup_frames (setup_read task described.0 s)) (corrections s.corrections.items ∷ challenge s.challenge ∷ sums s.sums.items ∷ []) (openings macs.items ∷ []),
        record { summed = described.2; openings = counted },
      );
    })

-- ---- a round

-- what holds of the only round
only_round : (kind : Kind) (asked : List (List TreeAsk)) (replied : List (List TreeReply)) (P : Round → Type 0) → kind ≡ Extended
    → All P (rounds_read kind asked replied) → P (record { asks = asked; replies = replied })
only_round kind asked replied P extended all =
    let one : All P (rounds_read Extended asked replied) = subst (λ (k : Kind). All P (rounds_read k asked replied)) extended all in
    one 0 (record { asks = asked; replies = replied }) (omega arith)

-- holds of all
all_rounds : (kind : Kind) (asked : List (List TreeAsk)) (replied : List (List TreeReply)) (P : Round → Type 0) → kind ≡ Extended
    → P (record { asks = asked; replies = replied }) → All P (rounds_read kind asked replied)
all_rounds kind asked replied P extended holds =
    subst (λ (k : Kind). All P (rounds_read k asked replied)) (sym extended) (All-from_recursion P (record { asks = asked; replies = replied } ∷ []) (holds, tt))

-- asks or replies of units, as rounds have them
shaped_asks : (params : Params) (given : Grant) (asked : List (List TreeAsk)) → length asked ≡ given.count
    → All (AreAsks params.height params.trees) asked → ForEachTree params given (IsTreeAsk params.height) asked
shaped_asks params given asked counted each = (counted, λ k d below. let here = each k d below in (here.counted, here.each))

-- one more unit's asks
asks_more : (old new : List coded.Frame) (frame : coded.Frame) (trees : List TreeAsk) → new ≡ old ++ frame ∷ [] → frame_value frame ≡ asks trees
    → asks_of new ≡ asks_of old ++ trees ∷ []
asks_more old new frame trees pushed is =
    ap asks_of pushed ∙ map-append (λ (f : coded.Frame). asks_in (frame_value f)) old (frame ∷ [])
    ∙ ap (λ (said : List TreeAsk). asks_of old ++ said ∷ []) (ap asks_in is)

-- all of them
pub all_asks : (task : VerifierTask) (old new : List coded.Frame) (frame : coded.Frame) (trees : List TreeAsk) → new ≡ old ++ frame ∷ []
    → frame_value frame ≡ asks trees → AreAsks task.file.params.height task.file.params.trees trees
    → All (AreAsks task.file.params.height task.file.params.trees) (asks_of old) → All (AreAsks task.file.params.height task.file.params.trees) (asks_of new)
all_asks task old new frame trees pushed is right each =
    subst (All (AreAsks task.file.params.height task.file.params.trees)) (sym (asks_more old new frame trees pushed is))
    (All-append (AreAsks task.file.params.height task.file.params.trees) (asks_of old) (trees ∷ []) each
    (All-from_recursion (AreAsks task.file.params.height task.file.params.trees) (trees ∷ []) (right, tt)))

-- the frames after one more
asked_frames : (greeting : Hello) (given : Grant) (old new : List (List TreeAsk)) (trees : List TreeAsk) (frames : List Frame)
    → frames ≡ hello greeting ∷ grant given ∷ map asks old → new ≡ old ++ trees ∷ []
    → frames ++ asks trees ∷ [] ≡ hello greeting ∷ grant given ∷ map asks new
asked_frames greeting given old new trees frames are pushed =
    ap (λ (fs : List Frame). fs ++ asks trees ∷ []) are
    ∙ ap (λ (fs : List Frame). hello greeting ∷ grant given ∷ fs) (sym (ap (map asks) pushed ∙ map-append asks old (trees ∷ [])))

-- what has been asked, and one frame more
pub record IsAskMore (task : VerifierTask) (old new : Session) (frame : coded.Frame) (trees : List TreeAsk) : Type 0 where
  pub granted : new.grant ≡ old.grant
  pub pushed : new.asked.items ≡ old.asked.items ++ frame ∷ []
  pub is : frame_value frame ≡ asks trees
  pub right : AreAsks task.file.params.height task.file.params.trees trees

-- as long as others are to come
pub asks_next : (task : VerifierTask) (old new : Session) (frame : coded.Frame) (trees : List TreeAsk) → IsAskMore task old new frame trees
    → length new.asked.items < new.grant.count → StageTakes task (at.Asks old) (frame_value frame) (at.Asks new)
asks_next task old new frame trees one few =
    subst (λ (f : Frame). StageTakes task (at.Asks old) f (at.Asks new)) (sym one.is)
    (λ frames described. record {
      given = tt;
      described = (
        described.0,
        asked_frames described.0 old.grant (asks_of old.asked.items) (asks_of new.asked.items) trees frames described.1
            (asks_more old.asked.items new.asked.items frame trees one.pushed one.is)
            ∙ ap (λ (given : Grant). hello described.0 ∷ grant given ∷ map asks (asks_of new.asked.items)) (sym one.granted),
        record {
          hello = described.2.hello;
          fits = described.2.fits;
          granted = subst (IsGrant task.file.params task.statement.program) (sym one.granted) described.2.granted;
          extended = described.2.extended;
          each = all_asks task old.asked.items new.asked.items frame trees one.pushed one.is one.right described.2.each;
        },
        few,
      );
    })

-- replies of frames, where the frames are replies
replies_back : (items : List coded.Frame) (said : List (List TreeReply)) → map frame_value items ≡ map replies said → replies_of items ≡ said
replies_back items said are =
    sym (map-map replies_in frame_value items) ∙ ap (map replies_in) are ∙ map-map replies_in replies said ∙ map-id said

-- and after the last the replies are due
pub asks_last : (task : VerifierTask) (old new : Session) (frame : coded.Frame) (trees : List TreeAsk) → IsVerifierFile task.file
    → IsAskMore task old new frame trees → length new.asked.items ≡ new.grant.count
    → map frame_value new.replied.items ≡ map replies (round_replies task.file new.grant (asks_of new.asked.items))
    → new.keys.items ≡ span_keys task.file (span_of new.grant)
    → length new.keys.items ≡ new.grant.count * correlations_per_unit task.file.params
    → StageTakes task (at.Asks old) (frame_value frame) (at.Replies new 0)
asks_last task old new frame trees file one all replied keys key_count =
    subst (λ (f : Frame). StageTakes task (at.Asks old) f (at.Replies new 0)) (sym one.is)
    (λ frames described.
    let granted : IsGrant task.file.params task.statement.program new.grant =
    subst (IsGrant task.file.params task.statement.program) (sym one.granted) described.2.granted in
    let each : All (AreAsks task.file.params.height task.file.params.trees) (asks_of new.asked.items) =
    all_asks task old.asked.items new.asked.items frame trees one.pushed one.is one.right described.2.each in
    let shaped : ForEachTree task.file.params new.grant (IsTreeAsk task.file.params.height) (asks_of new.asked.items) =
    shaped_asks task.file.params new.grant (asks_of new.asked.items) (length-map new.asked.items (λ (f : coded.Frame). asks_in (frame_value f)) ∙ all) each in
    let answered : replies_of new.replied.items ≡ round_replies task.file new.grant (asks_of new.asked.items) =
    replies_back new.replied.items (round_replies task.file new.grant (asks_of new.asked.items)) replied in
    record {
      given = tt;
      described = (
        described.0,
        asked_frames described.0 old.grant (asks_of old.asked.items) (asks_of new.asked.items) trees frames described.1
            (asks_more old.asked.items new.asked.items frame trees one.pushed one.is)
            ∙ ap (λ (given : Grant). hello described.0 ∷ grant given ∷ map asks (asks_of new.asked.items)) (sym one.granted)
            ∙ ap (λ (fs : List Frame). hello described.0 ∷ grant new.grant ∷ fs) (sym (append-nil (map asks (asks_of new.asked.items)))),
        record {
          fits = described.2.fits;
          whole = record {
            hello = described.2.hello;
            grant = granted;
            round_count = subst (λ (k : Kind). length (rounds_read k (asks_of new.asked.items) (replies_of new.replied.items)) ≡ rounds_of k) (sym described.2.extended) refl;
            rounds = all_rounds task.file.params.kind (asks_of new.asked.items) (replies_of new.replied.items) (IsRound task.file.params new.grant) described.2.extended
                (record {
                  asks = shaped;
                  replies = subst (ForEachTree task.file.params new.grant (IsTreeReply task.file.params.height)) (sym answered)
                      (round_replies_shaped task.file new.grant (asks_of new.asked.items) file granted.within shaped);
                });
          };
          replies = all_rounds task.file.params.kind (asks_of new.asked.items) (replies_of new.replied.items)
              (λ round. round.replies ≡ round_replies task.file new.grant round.asks) described.2.extended answered;
          kept = subst (λ (k : Kind). HoldsRoundKeys k task.file new.grant new.keys.items) (sym described.2.extended) (keys, key_count);
        },
        described.2.extended,
        units_some task.file.params task.statement.program new.grant granted,
      );
    })
  where
    units_some : (params : Params) (program : Program) (given : Grant) → IsGrant params program given → 0 < given.count
    units_some params program given granted = let counted = granted.count in omega (arith, counted)

-- ---- replies

-- what is known of a round of which so many replies have been read
record IsRoundRead (task : VerifierTask) (s : Session) (done : ℕ) : Type 0 where
  asked_count : length (asks_of s.asked.items) ≡ s.grant.count
  replied_count : length (replies_of s.replied.items) ≡ s.grant.count
  due : get_or (replies_of s.replied.items) done [] ≡ unit_reply task.file (s.grant.start + done) (get_or (asks_of s.asked.items) done [])

round_read : (task : VerifierTask) (s : Session) (done : ℕ) (greeting : Hello) → IsSetUp task (setup_read task greeting s) s.keys.items
    → task.file.params.kind ≡ Extended → done < s.grant.count → IsRoundRead task s done
round_read task s done greeting set extended below = record {
  asked_count = round.asks.0;
  replied_count = round.replies.0;
  due = ap (λ (said : List (List TreeReply)). get_or said done []) replied
      ∙ get_or-map made (enumerate_from s.grant.start asked) done (0, []) [] (omega (arith, below, round.asks.0, length-enumerate_from s.grant.start asked))
      ∙ ap made (get_or-enumerate_from s.grant.start asked done (0, []) (omega (arith, below, round.asks.0)));
}
  where
    asked : List (List TreeAsk)
    asked = asks_of s.asked.items

    made : ℕ × List TreeAsk → List TreeReply
    made entry = unit_reply task.file entry.0 entry.1

    round : IsRound task.file.params s.grant (record { asks = asked; replies = replies_of s.replied.items })
    round = only_round task.file.params.kind asked (replies_of s.replied.items) (IsRound task.file.params s.grant) extended set.whole.rounds

    replied : replies_of s.replied.items ≡ round_replies task.file s.grant asked
    replied = only_round task.file.params.kind asked (replies_of s.replied.items) (λ round. round.replies ≡ round_replies task.file s.grant round.asks) extended set.replies

-- there is one for each unit
pub replied_some : (task : VerifierTask) (s : Session) (done : ℕ) → IsDescribed task (at.Replies s done) → done < length s.replied.items
replied_some task s done described =
    let read = round_read task s done described.1.0 described.1.2 described.1.3 described.1.4 in
    let below = described.1.4 in
    omega (arith, read.replied_count, length-map s.replied.items (λ (f : coded.Frame). replies_in (frame_value f)), below)

-- what stands behind the grant, and the ask of the same unit in it
behind_grant : Session → ℕ → List Frame
behind_grant s done = map asks (asks_of s.asked.items) ++ map replies (take done (replies_of s.replied.items))

behind_length : (task : VerifierTask) (s : Session) (done : ℕ) → IsRoundRead task s done → done < s.grant.count
    → length (behind_grant s done) ≡ s.grant.count + done
unfolding behind_grant
behind_length task s done read below =
    let a = length-map (asks_of s.asked.items) asks in
    let r = length-map (take done (replies_of s.replied.items)) replies in
    let t = length-take-le done (replies_of s.replied.items) (omega (arith, below, read.replied_count)) in
    omega (arith, length-append (map asks (asks_of s.asked.items)) (map replies (take done (replies_of s.replied.items))), a, r, t, read.asked_count)

ask_stands : (task : VerifierTask) (s : Session) (done : ℕ) → IsRoundRead task s done → done < s.grant.count
    → slice_get (behind_grant s done) done ≡ Some (asks (get_or (asks_of s.asked.items) done []))
unfolding behind_grant
ask_stands task s done read below =
    slice_get-get_or (map asks said ++ map replies (take done (replies_of s.replied.items))) done (asks [])
    (omega (arith, inside, length-append (map asks said) (map replies (take done (replies_of s.replied.items)))))
    ∙ ap Some (get_or-append (map asks said) (map replies (take done (replies_of s.replied.items))) (asks []) done inside
    ∙ get_or-map asks said done [] (asks []) (omega (arith, below, read.asked_count)))
  where
    said : List (List TreeAsk)
    said = asks_of s.asked.items

    inside : done < length (map asks said)
    inside = omega (arith, below, read.asked_count, length-map said asks)

-- the replies that are due are given
due_given : (task : VerifierTask) (s : Session) (done : ℕ) (frames : List Frame) (trees : List TreeReply) → Describes task frames (at.Replies s done)
    → trees ≡ get_or (replies_of s.replied.items) done [] → IsReplyAfter task frames trees
unfolding behind_grant
due_given task s done frames trees described same = record {
  given = s.grant;
  behind = behind_grant s done;
  granted = record { greeting = described.0; begun = described.1 };
  unit = done;
  counted = behind_length task s done read described.4;
  asked = get_or (asks_of s.asked.items) done [];
  stands = ask_stands task s done read described.4;
  replied = same ∙ read.due;
}
  where
    read : IsRoundRead task s done
    read = round_read task s done described.0 described.2 described.3 described.4

-- and no others
others_wrong : (task : VerifierTask) (s : Session) (done : ℕ) (frames : List Frame) (trees : List TreeReply) → Describes task frames (at.Replies s done)
    → ¬ (trees ≡ get_or (replies_of s.replied.items) done []) → ¬ IsReplyAfter task frames trees
unfolding behind_grant
others_wrong task s done frames trees described differ given = differ
    (given.replied ∙ (λ i. unit_reply task.file ((same_grant i).start + same_unit i) (same_ask i)) ∙ sym read.due)
  where
    read : IsRoundRead task s done
    read = round_read task s done described.0 described.2 described.3 described.4

    one : hello given.granted.greeting ∷ grant given.given ∷ given.behind ≡ hello described.0 ∷ grant s.grant ∷ behind_grant s done
    one = sym given.granted.begun ∙ described.1

    same_grant : given.given ≡ s.grant
    same_grant = cc

    same_behind : given.behind ≡ behind_grant s done
    same_behind = cc

    same_unit : given.unit ≡ done
    same_unit =
        let sized = behind_length task s done read described.4 in
        let counted = given.counted in
        omega (arith, counted, sized, ap length same_behind, ap (λ (g : Grant). g.count) same_grant)

    both : Some (asks given.asked) ≡ Some (asks (get_or (asks_of s.asked.items) done []))
    both = sym given.stands ∙ (λ i. slice_get (same_behind i) (same_unit i)) ∙ ask_stands task s done read described.4

    same_ask : given.asked ≡ get_or (asks_of s.asked.items) done []
    same_ask = let e : Some (asks given.asked) ≡ Some (asks (get_or (asks_of s.asked.items) done [])) = both in cc

-- the frames after one more
replied_frames : (s : Session) (done : ℕ) (greeting : Hello) (frames : List Frame) (trees : List TreeReply) → done < length (replies_of s.replied.items)
    → frames ≡ hello greeting ∷ grant s.grant ∷ behind_grant s done → trees ≡ get_or (replies_of s.replied.items) done []
    → frames ++ replies trees ∷ [] ≡ hello greeting ∷ grant s.grant ∷ behind_grant s (done + 1)
unfolding behind_grant
replied_frames s done greeting frames trees below are same =
    ap (λ (fs : List Frame). fs ++ replies trees ∷ []) are
    ∙ ap (λ (fs : List Frame). hello greeting ∷ grant s.grant ∷ fs)
    (append_assoc (map asks (asks_of s.asked.items)) (map replies (take done said)) (replies trees ∷ [])
    ∙ ap (λ (fs : List Frame). map asks (asks_of s.asked.items) ++ fs)
    (ap (λ (t : List TreeReply). map replies (take done said) ++ replies t ∷ []) same
    ∙ sym (ap (map replies) (take_more said done [] below) ∙ map-append replies (take done said) (get_or said done [] ∷ []))))
  where
    said : List (List TreeReply)
    said = replies_of s.replied.items

-- all of them are those of the setup
all_replied : (task : VerifierTask) (s : Session) (n : ℕ) (greeting : Hello) → task.file.params.kind ≡ Extended → n ≡ length (replies_of s.replied.items)
    → hello greeting ∷ grant s.grant ∷ behind_grant s n ≡ setup_frames (setup_read task greeting s)
unfolding behind_grant
all_replied task s n greeting extended all =
    ap (λ (fs : List Frame). hello greeting ∷ grant s.grant ∷ fs)
    (ap (λ (said : List (List TreeReply)). map asks (asks_of s.asked.items) ++ map replies said)
    (ap (λ k. take k (replies_of s.replied.items)) all ∙ take-length (replies_of s.replied.items))
    ∙ sym (append-nil (map asks (asks_of s.asked.items) ++ map replies (replies_of s.replied.items)))
    ∙ ap (λ (k : Kind). flat_map round_frames (rounds_read k (asks_of s.asked.items) (replies_of s.replied.items))) (sym extended))

-- a frame of the replies that are due, of which others are to come
pub replies_next : (task : VerifierTask) (s : Session) (done : ℕ) (frame : Frame) (trees : List TreeReply) → frame ≡ replies trees
    → trees ≡ get_or (replies_of s.replied.items) done [] → done + 1 < s.grant.count
    → StageTakes task (at.Replies s done) frame (at.Replies s (done + 1))
unfolding behind_grant
replies_next task s done frame trees is same few =
    subst (λ (f : Frame). StageTakes task (at.Replies s done) f (at.Replies s (done + 1))) (sym is)
    (λ frames described.
    let read = round_read task s done described.0 described.2 described.3 described.4 in
    record {
      given = due_given task s done frames trees described same;
      described = (
        described.0,
        replied_frames s done described.0 frames trees (omega (arith, few, read.replied_count)) described.1 same,
        described.2,
        described.3,
        few,
      );
    })

-- and the last one
pub replies_last : (task : VerifierTask) (s : Session) (done : ℕ) (frame : Frame) (trees : List TreeReply) → frame ≡ replies trees
    → trees ≡ get_or (replies_of s.replied.items) done [] → done + 1 ≡ s.grant.count
    → StageTakes task (at.Replies s done) frame (at.Corrections s)
unfolding behind_grant
replies_last task s done frame trees is same all =
    subst (λ (f : Frame). StageTakes task (at.Replies s done) f (at.Corrections s)) (sym is)
    (λ frames described. record {
      described = (
        described.0,
        replied_frames s done described.0 frames trees
            (let counted = (round_read task s done described.0 described.2 described.3 described.4).replied_count in omega (arith, all, counted)) described.1 same
            ∙ all_replied task s (done + 1) described.0 described.3
            (all ∙ sym (round_read task s done described.0 described.2 described.3 described.4).replied_count),
        described.2,
      );
      given = due_given task s done frames trees described same;
    })

-- other replies are wrong
pub replies_wrong : (task : VerifierTask) (s : Session) (done : ℕ) (frame : Frame) (trees : List TreeReply) → frame ≡ replies trees
    → ¬ (trees ≡ get_or (replies_of s.replied.items) done []) → Wrongs task (at.Replies s done) frame
replies_wrong task s done frame trees is differ =
    subst (λ (f : Frame). Wrongs task (at.Replies s done) f) (sym is)
    (λ frames described. others_wrong task s done frames trees described differ)

-- replies are still to come
pub more_replies : (task : VerifierTask) (s : Session) (done : ℕ) → IsDescribed task (at.Replies s done) → done < s.grant.count
more_replies task s done described = described.1.4

-- asks are still to come
pub asks_few : (task : VerifierTask) (s : Session) → IsDescribed task (at.Asks s) → length s.asked.items < s.grant.count
asks_few task s described = described.1.3

-- so many frames stand behind the grant
pub round_facts : (task : VerifierTask) (s : Session) (done : ℕ) (greeting : Hello) → IsSetUp task (setup_read task greeting s) s.keys.items
    → task.file.params.kind ≡ Extended → done < s.grant.count
    → length (map asks (asks_of s.asked.items) ++ map replies (take done (replies_of s.replied.items))) ≡ s.grant.count + done
unfolding behind_grant
round_facts task s done greeting set extended below = behind_length task s done (round_read task s done greeting set extended below) below
