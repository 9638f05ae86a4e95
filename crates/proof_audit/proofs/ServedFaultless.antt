-- The frames of a session that the verifier leads are faultless.
use Rattle.std.proofs.Common.{◌≡◌, ℕ, ◌+◌, ◌-◌, ◌<◌, inl, Some, List, [], ◌∷◌, ◌++◌, map, flat_map, length, get_or, refl, sym, ◌∙◌, ap, subst, arith, append_assoc, append-nil, length-append}
use Rattle.std.specs.Prelude.{slice_get, All}
use Rattle.std.specs.List.{enumerate_from}
use Rattle.std.proofs.lemmas.List.{length-map, get_or-map, get_or-append-add}
use Rattle.std.proofs.Math.ListN.{get_or-append}
use Rattle.std.proofs.lemmas.List.FromFn.{length-enumerate_from, get_or-enumerate_from}
use Rattle.std.proofs.lemmas.Option.{slice_get-get_or}
use Rattle.zk_model.specs.Files.{IsVerifierFile, rounds_of}
use Rattle.zk_model.specs.Program.{section_count}
use Rattle.zk_model.specs.Transcript.{Hello, Grant, TreeAsk, TreeReply, Round, Transcript, IsRound, IsTranscript}
use Rattle.zk_model.specs.Frames.{Frame, hello, grant, asks, replies, corrections, challenge, sums, openings, verdict, FitsGrant, AreAsks, AreReplies}
use Rattle.zk_model.specs.Replies.{unit_reply}
use Rattle.zk_model.specs.ServedVerifier.{VerifierTask, IsServed, round_replies}
use Rattle.frame_laws.proofs.Hellos.{hello_allowed}
use Rattle.zk_model.specs.Audit.{round_frames, setup_frames, session_frames, hello_place, IsRight, AreFaultless}
use Rattle.zk_model.specs.declared.Expect.TheVariants as expect
use Rattle.zk_model.specs.declared.Kind.{Kind}
use Rattle.zk_model.specs.declared.Kind.TheVariants.{Direct, Extended}
use Rattle.zk_model.specs.declared.Side.{Side}
use Rattle.zk_model.specs.declared.Verdict.{Verdict}
use Rattle.proof_audit.proofs.Faultless.{none_faultless, more_faultless}
use Rattle.proof_audit.proofs.Places.{place_behind, place_of_ask, place_of_reply}

-- ---- many frames more

-- each of these is right behind the others and those before it
abbrev AreRightBehind : VerifierTask → List Frame → List Frame → Type 0
AreRightBehind task before more = (mid : List Frame) (frame : Frame) (behind : List Frame)
    → more ≡ mid ++ frame ∷ behind → IsRight task (before ++ mid) frame

all_faultless : (task : VerifierTask) (before more : List Frame) → AreFaultless task before → AreRightBehind task before more
    → AreFaultless task (before ++ more)
all_faultless task before [] faultless right = subst (AreFaultless task) (sym (append-nil before)) faultless
all_faultless task before (m ∷ more) faultless right =
    subst (AreFaultless task) (append_assoc before (m ∷ []) more)
    (all_faultless task (before ++ m ∷ []) more
    (more_faultless task before m faultless (subst (λ fs. IsRight task fs m) (append-nil before) (right [] m more refl)))
    (λ mid frame behind is. subst (λ fs. IsRight task fs frame) (sym (append_assoc before (m ∷ []) mid))
    (right (m ∷ mid) frame behind (ap (λ l. m ∷ l) is))))

-- an item of a list by those before it
item_at : {A : Type 0} (items mid : List A) (item : A) (behind : List A) (none : A) → items ≡ mid ++ item ∷ behind
    → (get_or items (length mid) none ≡ item) × (length mid < length items)
item_at items mid item behind none is = (
  ap (λ l. get_or l (length mid) none) is ∙ ap (λ m. get_or (mid ++ item ∷ behind) m none) (omega arith)
      ∙ get_or-append-add mid (item ∷ behind) 0 none,
  omega (arith, ap length is, length-append mid (item ∷ behind)),
)

-- ---- the round

asks_right : (task : VerifierTask) (h : Hello) (g : Grant) (asked : List (List TreeAsk)) → task.file.params.kind ≡ Extended
    → length asked ≡ g.count → All (AreAsks task.file.params.height task.file.params.trees) asked
    → AreRightBehind task (hello h ∷ grant g ∷ []) (map asks asked)
asks_right task h g asked extended counted all mid frame behind is =
    subst (λ f. IsRight task (hello h ∷ grant g ∷ mid) f) same (record {
      place = expect.Ask task.file.params.height task.file.params.trees (g.count - length mid);
      placed = record {
        place_is = place_of_ask task.file.params task.statement g (hello h) mid (length mid) extended refl (omega (arith, below, counted));
        allowed = (get_or asked (length mid) [], refl, all (length mid) [] below);
      };
      given = tt;
    })
  where
    found : (get_or (map asks asked) (length mid) (asks []) ≡ frame) × (length mid < length (map asks asked))
    found = item_at (map asks asked) mid frame behind (asks []) is

    below : length mid < length asked
    below = omega (arith, found.1, length-map asked asks)

    same : asks (get_or asked (length mid) []) ≡ frame
    same = sym (get_or-map asks asked (length mid) [] (asks []) below) ∙ found.0

replies_right : (task : VerifierTask) (h : Hello) (g : Grant) (asked : List (List TreeAsk)) (said : List (List TreeReply))
    → task.file.params.kind ≡ Extended → length asked ≡ g.count → length said ≡ g.count
    → All (AreReplies task.file.params.height task.file.params.trees) said → said ≡ round_replies task.file g asked
    → AreRightBehind task (hello h ∷ grant g ∷ map asks asked) (map replies said)
replies_right task h g asked said extended counted said_counted all due mid frame behind is =
    subst (λ f. IsRight task (hello h ∷ grant g ∷ map asks asked ++ mid) f) same (record {
      place = expect.Reply task.file.params.height task.file.params.trees (g.count - length mid);
      placed = record {
        place_is = place_of_reply task.file.params task.statement g (hello h) (map asks asked ++ mid) (length mid) extended sized
            (omega (arith, below, said_counted));
        allowed = (get_or said (length mid) [], refl, all (length mid) [] below);
      };
      given = record {
        given = g;
        behind = map asks asked ++ mid;
        granted = record { greeting = h; begun = refl };
        unit = length mid;
        counted = sized;
        asked = get_or asked (length mid) [];
        stands = stands;
        replied = ap (λ trees. get_or trees (length mid) []) due
            ∙ get_or-map (λ (entry : ℕ × List TreeAsk). unit_reply task.file entry.0 entry.1) (enumerate_from g.start asked) (length mid) (0, []) []
            (omega (arith, length-enumerate_from g.start asked, inside))
            ∙ ap (λ (entry : ℕ × List TreeAsk). unit_reply task.file entry.0 entry.1) (get_or-enumerate_from g.start asked (length mid) (0, []) inside);
      };
    })
  where
    found : (get_or (map replies said) (length mid) (replies []) ≡ frame) × (length mid < length (map replies said))
    found = item_at (map replies said) mid frame behind (replies []) is

    below : length mid < length said
    below = omega (arith, found.1, length-map said replies)

    inside : length mid < length asked
    inside = omega (arith, below, counted, said_counted)

    same : replies (get_or said (length mid) []) ≡ frame
    same = sym (get_or-map replies said (length mid) [] (replies []) below) ∙ found.0

    asks_sized : length (map asks asked) ≡ g.count
    asks_sized = length-map asked asks ∙ counted

    sized : length (map asks asked ++ mid) ≡ g.count + length mid
    sized = length-append (map asks asked) mid ∙ ap (λ n. n + length mid) asks_sized

    stands : slice_get (map asks asked ++ mid) (length mid) ≡ Some (asks (get_or asked (length mid) []))
    stands = slice_get-get_or (map asks asked ++ mid) (length mid) (asks []) (omega (arith, sized, inside, counted))
        ∙ ap Some (get_or-append (map asks asked) mid (asks []) (length mid) (omega (arith, asks_sized, inside, counted))
        ∙ get_or-map asks asked (length mid) [] (asks []) inside)

-- ---- the setup

round_faultless : (task : VerifierTask) (h : Hello) (g : Grant) (round : Round) → task.file.params.kind ≡ Extended
    → AreFaultless task (hello h ∷ grant g ∷ []) → IsRound task.file.params g round → round.replies ≡ round_replies task.file g round.asks
    → AreFaultless task (hello h ∷ grant g ∷ round_frames round)
round_faultless task h g round extended base is due =
    all_faultless task (hello h ∷ grant g ∷ map asks round.asks) (map replies round.replies)
    (all_faultless task (hello h ∷ grant g ∷ []) (map asks round.asks) base
    (asks_right task h g round.asks extended is.asks.0
    (λ k d below. record { counted = (is.asks.1 k d below).0; each = (is.asks.1 k d below).1 })))
    (replies_right task h g round.asks round.replies extended is.asks.0 is.replies.0
    (λ k d below. record { counted = (is.replies.1 k d below).0; each = (is.replies.1 k d below).1 }) due)

rounds_faultless : (task : VerifierTask) (h : Hello) (g : Grant) (kind : Kind) (rounds : List Round) → task.file.params.kind ≡ kind
    → length rounds ≡ rounds_of kind → AreFaultless task (hello h ∷ grant g ∷ []) → All (IsRound task.file.params g) rounds
    → All (λ round. round.replies ≡ round_replies task.file g round.asks) rounds
    → AreFaultless task (hello h ∷ grant g ∷ flat_map round_frames rounds)
rounds_faultless task h g Direct [] is counted base all due = base
rounds_faultless task h g Direct (round ∷ rounds) is counted base all due = absurd (omega (arith, counted))
rounds_faultless task h g Extended [] is counted base all due = absurd (omega (arith, counted))
rounds_faultless task h g Extended (round ∷ []) is counted base all due =
    subst (λ fs. AreFaultless task (hello h ∷ grant g ∷ fs)) (sym (append-nil (round_frames round)))
    (round_faultless task h g round is base (all 0 round (omega arith)) (due 0 round (omega arith)))
rounds_faultless task h g Extended (round ∷ next ∷ rounds) is counted base all due = absurd (omega (arith, counted))

-- ---- the session

pub served_faultless : (task : VerifierTask) (t : Transcript) (judged : Verdict) (log : List (Side × ℕ)) → IsVerifierFile task.file
    → IsServed task t judged log → AreFaultless task (session_frames t)
served_faultless task t judged log file served =
    next (corrections t.commitment.corrections ∷ challenge t.challenge ∷ sums t.sums ∷ openings t.openings ∷ []) (verdict t.code t.number)
    (next (corrections t.commitment.corrections ∷ challenge t.challenge ∷ sums t.sums ∷ []) (openings t.openings)
    (next (corrections t.commitment.corrections ∷ challenge t.challenge ∷ []) (sums t.sums)
    (next (corrections t.commitment.corrections ∷ []) (challenge t.challenge)
    (next [] (corrections t.commitment.corrections) (subst (AreFaultless task) (sym (append-nil (setup_frames t.commitment.setup))) set)
    (record {
      place = expect.Corrections task.statement.program.givens;
      placed = record {
        place_is = place_behind task.file.params task.statement t.commitment.setup [] 0 (expect.Corrections task.statement.program.givens)
            whole.commitment.setup refl (omega arith) refl;
        allowed = (t.commitment.corrections, refl, record { counted = whole.commitment.count; ranged = whole.commitment.elements });
      };
      given = tt;
    }))
    (record {
      place = expect.Challenge;
      placed = record {
        place_is = place_behind task.file.params task.statement t.commitment.setup (corrections t.commitment.corrections ∷ []) 1 expect.Challenge
            whole.commitment.setup refl (omega arith) refl;
        allowed = (t.challenge, refl, whole.challenge);
      };
      given = record {
        given = t.commitment.setup.grant;
        behind = flat_map round_frames t.commitment.setup.rounds ++ corrections t.commitment.corrections ∷ [];
        granted = record { greeting = t.commitment.setup.hello; begun = refl };
        coin = served.challenge;
      };
    }))
    (record {
      place = expect.Sums (section_count task.statement.program t.commitment.setup.grant.section_length);
      placed = record {
        place_is = place_behind task.file.params task.statement t.commitment.setup
            (corrections t.commitment.corrections ∷ challenge t.challenge ∷ []) 2
            (expect.Sums (section_count task.statement.program t.commitment.setup.grant.section_length)) whole.commitment.setup refl (omega arith) refl;
        allowed = (t.sums, refl, record { counted = whole.sum_count; ranged = whole.sums });
      };
      given = tt;
    }))
    (record {
      place = expect.Openings (length task.statement.program.opened);
      placed = record {
        place_is = place_behind task.file.params task.statement t.commitment.setup
            (corrections t.commitment.corrections ∷ challenge t.challenge ∷ sums t.sums ∷ []) 3
            (expect.Openings (length task.statement.program.opened)) whole.commitment.setup refl (omega arith) refl;
        allowed = (t.openings, refl, record { counted = whole.opening_count; ranged = whole.openings });
      };
      given = tt;
    }))
    (record {
      place = expect.Verdict;
      placed = record {
        place_is = place_behind task.file.params task.statement t.commitment.setup
            (corrections t.commitment.corrections ∷ challenge t.challenge ∷ sums t.sums ∷ openings t.openings ∷ []) 4
            expect.Verdict whole.commitment.setup refl (omega arith) refl;
        allowed = (t.code, t.number, refl, record { said = whole.code; numbered = whole.number });
      };
      given = record {
        t = t;
        frames = sym (append_assoc (setup_frames t.commitment.setup)
            (corrections t.commitment.corrections ∷ challenge t.challenge ∷ sums t.sums ∷ openings t.openings ∷ []) (verdict t.code t.number ∷ []));
        verdict = judged;
        judged = served.judged;
      };
    })
  where
    whole : IsTranscript task.file.params task.statement.program t
    whole = served.in_order.transcript

    fits : FitsGrant t.commitment.setup.grant
    fits = let at = whole.commitment.setup.grant in let total = file.params.total in record {
      start = omega (arith, at.within, total);
      count = omega (arith, at.count_most);
      section_length = omega (arith, at.section_most);
    }

    greeted : AreFaultless task (hello t.commitment.setup.hello ∷ [])
    greeted = more_faultless task [] (hello t.commitment.setup.hello) (none_faultless task) (record {
      place = hello_place task.statement.kind;
      placed = record {
        place_is = refl;
        allowed = hello_allowed task.statement.kind t.commitment.setup.hello whole.commitment.setup.hello served.in_order.hello.form;
      };
      given = served.in_order.hello;
    })

    granted : AreFaultless task (hello t.commitment.setup.hello ∷ grant t.commitment.setup.grant ∷ [])
    granted = more_faultless task (hello t.commitment.setup.hello ∷ []) (grant t.commitment.setup.grant) greeted (record {
      place = expect.Grant;
      placed = record { place_is = refl; allowed = inl (t.commitment.setup.grant, refl, fits) };
      given = whole.commitment.setup.grant;
    })

    set : AreFaultless task (setup_frames t.commitment.setup)
    set = rounds_faultless task t.commitment.setup.hello t.commitment.setup.grant task.file.params.kind t.commitment.setup.rounds refl
        whole.commitment.setup.round_count granted whole.commitment.setup.rounds served.replies

    next : (tail : List Frame) (frame : Frame) → AreFaultless task (setup_frames t.commitment.setup ++ tail)
        → IsRight task (setup_frames t.commitment.setup ++ tail) frame → AreFaultless task (setup_frames t.commitment.setup ++ (tail ++ frame ∷ []))
    next tail frame faultless right = subst (AreFaultless task) (append_assoc (setup_frames t.commitment.setup) tail (frame ∷ []))
        (more_faultless task (setup_frames t.commitment.setup ++ tail) frame faultless right)
