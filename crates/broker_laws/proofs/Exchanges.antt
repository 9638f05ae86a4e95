-- The exchanges of a broker are a list of its deeds.
use Rattle.std.proofs.Common.{◌≡◌, ℕ, suc, ◌+◌, ◌-◌, ◌%◌, ◌^◌, ◌≤◌, max, min, ◌⊎◌, inl, inr, Bool, true, false, cond, List, [], ◌∷◌, ◌++◌, refl, sym, ap, ◌∙◌, subst, arith, Option, None, Some, nat_lt}
use Rattle.std.specs.Prelude.{IfSome, IsSomeAnd, MatchOption, Result, Ok, Err, slice_index_or}
use Rattle.std.specs.List.{All, flat_map}
use Rattle.std.proofs.lemmas.Bool.{ltb-false, ltb-true}
use Rattle.std.proofs.lemmas.List.Elements.{All-cons, All-nil}
use Rattle.std.proofs.lemmas.List.{append-nil, append_assoc}
use Rattle.zk_model.specs.declared.Span.{Span}
use Rattle.zk_model.specs.declared.limits.TheConstants.{MAX_NODES}
use Rattle.zk_model.specs.declared.messages.Block.{Block}
use Rattle.zk_model.specs.declared.messages.Want.{Want}
use Rattle.zk_port.specs.Disks.{DiskState}
use Rattle.zk_port.specs.Links.{LinkState}
use Rattle.lease_core.specs.Machine.{ceiling_for}
use Rattle.lease_words.specs.Calls.{AreGathered, IsExhausted, RisesFrom, all_entries, entries_of, greatest_end, number_of, seen}
use Rattle.lease_words.specs.Views.{entry, units_drawn}
use Rattle.lease_words.specs.declared.fault.Exhausted.{Exhausted}
use Rattle.lease_words.specs.declared.pass.Pass.{Pass}
use Rattle.lease_words.specs.declared.view.Entry.{Entry}
use Rattle.lease_words.specs.declared.view.View.{View}
use Rattle.lease_store.specs.Leases.{Leased}
use Rattle.lease_store.specs.declared.LeaseFault.{LeaseFault}
use Rattle.lease_store.specs.declared.LeaseFault.TheVariants as lease
use Rattle.broker_core.specs.Leases.{kept_of, repeated}
use Rattle.broker_core.specs.Messages.{block_of, rounded}
use Rattle.broker_core.specs.declared.message.Kept.{Kept}
use Rattle.broker_core.specs.declared.message.Message.{Message}
use Rattle.broker_links.specs.Answers.{Asked}
use Rattle.broker_links.specs.declared.note.BrokerNote.{BrokerNote}
use Rattle.broker_links.specs.declared.reply.Reply.{Reply}
use Rattle.broker_links.specs.declared.reply.Reply.TheVariants as reply
use Rattle.broker_node.specs.BrokerSteps.{IsBrokerStep, IsLeasedFor, reply_of}
use Rattle.broker_node.specs.Steps.{AreRising, DrawsInTurn}
use Rattle.broker_node.specs.declared.broker.Reply.{Reply as Decided}
use Rattle.broker_node.specs.declared.broker.Reply.TheVariants as decided
use Rattle.broker_node.proofs.Turns.{turns_are_seen}
use Rattle.broker_service.specs.Granted.{IsSafeBlock, LiesBetween, block_by, block_in}
use Rattle.broker_service.specs.Left.{keeping_none}
use Rattle.broker_service.specs.Turns.{AreExchanges, IsReplyStep, Keeping, said_to_node}
use Rattle.broker_laws.specs.BrokerDeeds.{AreBrokerDeeds, IsWithinService, broker_party, broker_run, ceiling_after, drawn_end, raised, replies}
use Rattle.broker_laws.specs.Laws.{AnswersByDeeds, ExchangesAreDeeds, IsGrantedOrUnasked, ServicesAreDeeds, message_answered, want_answered}
use Rattle.broker_laws.proofs.Ceilings.{ends_last}

-- ---- a step has one entry more, or none

pub record EntriesGrow (p q : Pass) : Type 0 where
  pub more : List Entry
  pub are : entries_of q ≡ entries_of p ++ more
  pub few : (more ≡ []) ⊎ ((e : Entry) × (more ≡ e ∷ []))

none_more : (p q : Pass) → entries_of q ≡ entries_of p → EntriesGrow p q
none_more p q same = record { more = []; are = same ∙ sym (append-nil (entries_of p)); few = inl refl }

one_more : (p q : Pass) (e : Entry) → entries_of q ≡ entries_of p ++ e ∷ [] → EntriesGrow p q
one_more p q e is = record { more = e ∷ []; are = is; few = inr (e, refl) }

leased_grows : (p q : Pass) (n : ℕ) (answer : Result Span LeaseFault) → Leased p n answer q → EntriesGrow p q
leased_grows p q n (Ok s) l = one_more p q _ l.0.entry_is
leased_grows p q n (Err (lease.Exhausted at count total)) l = by_kept p.kept l.1 where
  by_kept : (o : Option Exhausted) → MatchOption o (IsExhausted p n (record { at = at; count = count; total = total }) q)
      (λ k. ((record { at = at; count = count; total = total }) ≡ k) × (seen q ≡ seen p)) → EntriesGrow p q
  by_kept None h = one_more p q _ (ap (λ (x : View). x.entries) h.0)
  by_kept (Some k) h = none_more p q (ap (λ (x : View). x.entries) h.1)
leased_grows p q n (Err lease.Device) l = one_more p q _ l.2.drawn.entry_is
leased_grows p q n (Err (lease.Broken first)) l = one_more p q _ l.2.drawn.entry_is

step_grows : (kept now : List (Option Kept)) (p q : Pass) (want : Want) (made : Result Decided LeaseFault) → IsBrokerStep kept p want made now q → EntriesGrow p q
step_grows kept now p q want made step = by_repeat (repeated (kept_of kept want.node) want.number) step where
  by_repeat : (o : Option Span) → MatchOption o (IsLeasedFor kept p want made now q) (λ s. (made ≡ Ok (decided.Block (block_of want.node want.number s))) × (now ≡ kept) × (q ≡ p)) → EntriesGrow p q
  by_repeat None l = leased_grows p q _ l.answer l.leased
  by_repeat (Some s) (said, keeps, same) = none_more p q (ap entries_of same)

-- and they rise on
rises_on : (p q : Pass) → EntriesGrow p q → RisesFrom p q → AreRising (entries_of p) → AreRising (entries_of q)
rises_on p q g rises rising = by_few g.few where
  by_few : (g.more ≡ []) ⊎ ((e : Entry) × (g.more ≡ e ∷ [])) → AreRising (entries_of q)
  by_few (inl none) = subst AreRising (sym (g.are ∙ ap (λ (es : List Entry). entries_of p ++ es) none ∙ append-nil (entries_of p))) rising
  by_few (inr (e, one)) = turns_are_seen.goes p q e rising rises (g.are ∙ ap (λ (es : List Entry). entries_of p ++ es) one)

-- ---- exchanges

module _ {C L : Type 0} (tells : L → LinkState) (state : C → DiskState) where
  -- what one link did, by whether it was asked
  abbrev TurnBy : Option (Result Reply LeaseFault) → Option Want → Keeping → Keeping → Type 0
  TurnBy answer want old new = MatchOption answer ((want ≡ None) × (new ≡ old)) (λ a. IsSomeAnd want (λ w. IsReplyStep state w a old new))

  turn_grows : (answer : Option (Result Reply LeaseFault)) (want : Option Want) (old new : Keeping) → TurnBy answer want old new → EntriesGrow old.pass new.pass
  turn_grows None want old new t = none_more old.pass new.pass (ap (λ (k : Keeping). entries_of k.pass) t.1)
  turn_grows (Some a) None old new t = elim t [ ]
  turn_grows (Some a) (Some w) old new t = step_grows old.kept new.kept old.pass new.pass w t.made t.step

  turn_rises : (answer : Option (Result Reply LeaseFault)) (want : Option Want) (old new : Keeping) → TurnBy answer want old new
      → AreRising (entries_of old.pass) → AreRising (entries_of new.pass)
  turn_rises None want old new t rising = subst (λ (k : Keeping). AreRising (entries_of k.pass)) (sym t.1) rising
  turn_rises (Some a) None old new t rising = elim t [ ]
  turn_rises (Some a) (Some w) old new t rising = rises_on old.pass new.pass (turn_grows (Some a) (Some w) old new t) t.rises rising

  -- what was drawn stays, and rises
  record GoesOn (old last : Keeping) : Type 0 where
    later : List Entry
    are : entries_of last.pass ≡ entries_of old.pass ++ later
    rising : AreRising (entries_of old.pass) → AreRising (entries_of last.pass)

  goes_on : (notes : List (BrokerNote L LeaseFault)) (asks : List (Asked LeaseFault)) (old last : Keeping) → AreExchanges tells state notes asks old last → GoesOn old last
  goes_on [] [] old last same = record {
    later = [];
    are = ap (λ (k : Keeping). entries_of k.pass) same ∙ sym (append-nil (entries_of old.pass));
    rising = λ r. subst (λ (k : Keeping). AreRising (entries_of k.pass)) (sym same) r;
  }
  goes_on [] (asked ∷ asks) old last h = absurd h
  goes_on (note ∷ notes) [] old last h = absurd h
  goes_on (note ∷ notes) (asked ∷ asks) old last (mid, one, rest) =
      let g = turn_grows asked.answer asked.want old mid one.turn in
      let more = goes_on notes asks mid last rest in
      record {
        later = g.more ++ more.later;
        are = more.are ∙ ap (λ (es : List Entry). es ++ more.later) g.are ∙ append_assoc (entries_of old.pass) g.more more.later;
        rising = λ r. more.rising (turn_rises asked.answer asked.want old mid one.turn r);
      }

  module _ (total nodes base highest mark : ℕ) (stored : Bool) where
    -- one step, whose pass draws in turn
    turn_of : (old mid last : Keeping) → GoesOn mid last → AreRising (entries_of mid.pass) → AreGathered base highest mark (last.pass ∷ [])
        → DrawsInTurn base old.pass mid.pass
    turn_of old mid last g rising gathered =
        turns_are_seen.closed base highest mark old.pass mid.pass last.pass g.later gathered (g.rising rising) g.are

    -- ---- the ceiling that is kept

    -- the end of the Block of an answer is at or below this
    abbrev EndBelow : ℕ → List (Asked LeaseFault) → Type 0
    EndBelow high asks = All (λ a. IfSome (block_in a) (λ b. b.start + b.count ≤ high)) asks

    abbrev AllGranted : List (Asked LeaseFault) → Type 0
    AllGranted asks = All (λ a. IsGrantedOrUnasked a.answer) asks

    -- Where each Want was granted, units within the total, the ceiling that is kept is no lower than before; all that was drawn ends at or below it, or
    -- where it ended before, as multiples of 16; and it is at or below each multiple of 16 at or below which it was and the Blocks end.
    record Levels (ceiling left : ℕ) (asks : List (Asked LeaseFault)) (old last : Keeping) : Type 0 where
      rises : ceiling ≤ left
      covers : drawn_end base last ≤ max (drawn_end base old) left
      even : drawn_end base old % 16 ≡ 0 → drawn_end base last % 16 ≡ 0
      later : drawn_end base old ≤ drawn_end base last
      drawn_below : (high : ℕ) → drawn_end base old ≤ high → EndBelow high asks → drawn_end base last ≤ high
      below : (high : ℕ) → ceiling ≤ high → high % 16 ≡ 0 → EndBelow high asks → left ≤ high

    record AnswersOn (ceiling : ℕ) (asks : List (Asked LeaseFault)) (old last : Keeping) : Type 0 where
      answers : AnswersByDeeds state total nodes base ceiling stored asks old last
      levels : AllGranted asks → EndBelow total asks → Levels ceiling answers.left asks old last

    -- what a Block's end does
    raised_least : (ceiling end : ℕ) → end ≤ total → (ceiling ≤ raised total ceiling end) × (end ≤ raised total ceiling end)
    raised_least ceiling end low = by_test (nat_lt ceiling end) refl where
      by_test : (t : Bool) → nat_lt ceiling end ≡ t
          → (ceiling ≤ cond t (ceiling_for total end) ceiling) × (end ≤ cond t (ceiling_for total end) ceiling)
      by_test true is = let less = ltb-true ceiling end is in (omega (arith, less, low), omega (arith, low))
      by_test false is = let more = ltb-false ceiling end is in (omega arith, omega (arith, more))

    raised_most : (ceiling end high : ℕ) → ceiling ≤ high → high % 16 ≡ 0 → end ≤ high → raised total ceiling end ≤ high
    raised_most ceiling end high low even below = by_test (nat_lt ceiling end) where
      by_test : (t : Bool) → cond t (ceiling_for total end) ceiling ≤ high
      by_test true = omega (arith, even, below)
      by_test false = low

    -- a Block that is the answer: it is the one from before, or its units are those that were drawn
    abbrev DrewFor : Block → Want → Keeping → Keeping → Type 0
    DrewFor b w old mid = (drawn_end base mid ≡ drawn_end base old)
        ⊎ ((drawn_end base mid ≡ b.start + b.count) × (drawn_end base mid ≡ drawn_end base old + rounded w.count))

    abbrev StepBy : Want → Keeping → Keeping → Result Decided LeaseFault → Option Span → Type 0
    StepBy w old mid made o = MatchOption o (IsLeasedFor old.kept old.pass w made mid.kept mid.pass)
        (λ s. (made ≡ Ok (decided.Block (block_of w.node w.number s))) × (mid.kept ≡ old.kept) × (mid.pass ≡ old.pass))

    drew_for : (b : Block) (w : Want) (old mid : Keeping) → (t : IsReplyStep state w (Ok (reply.Block b)) old mid) → DrawsInTurn base old.pass mid.pass → DrewFor b w old mid
    drew_for b w old mid t turn = by_made t.made t.said t.step where
      by_answer : (answer : Result Span LeaseFault) → Leased old.pass (rounded w.count) answer mid.pass → Ok (decided.Block b) ≡ reply_of w answer → DrewFor b w old mid
      by_answer (Ok s) l said =
          let same : b ≡ block_of w.node w.number s = cc in
          let begins : greatest_end base (entries_of old.pass) ≡ s.start = turn (entry (number_of old.pass) s.start (rounded w.count)) l.0.entry_is in
          let ends : drawn_end base mid ≡ s.start + rounded w.count = ap (greatest_end base) l.0.entry_is
          ∙ ends_last base (entries_of old.pass) (number_of old.pass) s.start (rounded w.count) begins in
          let few = t.fits.most in let size = l.1 in
          let sum : s.start + rounded w.count ≡ s.start + min (s.end - s.start) (2 ^ 32 - 1) = omega (arith, few, size) in
          inr (ends ∙ sum ∙ ap (λ (x : Block). x.start + x.count) (sym same), ends ∙ ap (λ (x : ℕ). x + rounded w.count) (sym begins))
      by_answer (Err (lease.Exhausted at count whole)) l said = absurd (cc)
      by_answer (Err lease.Device) l said = absurd (cc)
      by_answer (Err (lease.Broken first)) l said = absurd (cc)

      by_repeat : (o : Option Span) → StepBy w old mid (Ok (decided.Block b)) o → DrewFor b w old mid
      by_repeat None l = by_answer l.answer l.leased l.replied
      by_repeat (Some s) (said, keeps, same) = inl (ap (λ (p : Pass). greatest_end base (entries_of p)) same)

      by_made : (made : Result Decided LeaseFault) → Ok (reply.Block b) ≡ said_to_node made → IsBrokerStep old.kept old.pass w made mid.kept mid.pass → DrewFor b w old mid
      by_made (Ok (decided.Block c)) said step =
          let same : c ≡ b = cc in
          by_repeat (repeated (kept_of old.kept w.node) w.number) (subst (λ (x : Block). IsBrokerStep old.kept old.pass w (Ok (decided.Block x)) mid.kept mid.pass) same step)
      by_made (Ok (decided.Out o)) said step = absurd (cc)
      by_made (Err fault) said step = absurd (cc)

    first_of_all : (P : Asked LeaseFault → Type 0) (asked : Asked LeaseFault) (asks : List (Asked LeaseFault)) → All P (asked ∷ asks) → P asked
    first_of_all P asked asks all = all 0 asked (omega arith)

    rest_of_all : (P : Asked LeaseFault → Type 0) (asked : Asked LeaseFault) (asks : List (Asked LeaseFault)) → All P (asked ∷ asks) → All P asks
    rest_of_all P asked asks all k d l = all (suc k) d (omega (arith, l))

    -- one Block, and what follows
    level_more : (b : Block) (w : Want) (ceiling left : ℕ) (asks : List (Asked LeaseFault)) (all : List (Asked LeaseFault)) (old mid last : Keeping)
        → b.start + b.count ≤ total → ((high : ℕ) → EndBelow high all → (b.start + b.count ≤ high) × EndBelow high asks) → DrewFor b w old mid
        → Levels (raised total ceiling (b.start + b.count)) left asks mid last → Levels ceiling left all old last
    level_more b w ceiling left asks all old mid last within parts_of drew more =
        let least = raised_least ceiling (b.start + b.count) within in let rises = more.rises in let covers = more.covers in let later = more.later in
        record {
          rises = let one = least.0 in omega (arith, one, rises);
          covers = by_cover drew;
          even = λ e. more.even (by_even drew e);
          later = by_later drew;
          drawn_below = λ high low ends. more.drawn_below high (by_below drew high low (parts_of high ends).0) (parts_of high ends).1;
          below = λ high low e ends. more.below high (raised_most ceiling (b.start + b.count) high low e (parts_of high ends).0) e (parts_of high ends).1;
        } where
          by_cover : DrewFor b w old mid → drawn_end base last ≤ max (drawn_end base old) left
          by_cover (inl same) = let c = more.covers in omega (arith, same, c)
          by_cover (inr (is, sum)) =
              let c = more.covers in let r = more.rises in let one = (raised_least ceiling (b.start + b.count) within).1 in omega (arith, is, c, r, one)

          by_even : DrewFor b w old mid → drawn_end base old % 16 ≡ 0 → drawn_end base mid % 16 ≡ 0
          by_even (inl same) e = ap (λ (x : ℕ). x % 16) same ∙ e
          by_even (inr (is, sum)) e = omega (arith, sum, e)

          by_later : DrewFor b w old mid → drawn_end base old ≤ drawn_end base last
          by_later (inl same) = let l = more.later in omega (arith, same, l)
          by_later (inr (is, sum)) = let l = more.later in omega (arith, sum, l)

          by_below : DrewFor b w old mid → (high : ℕ) → drawn_end base old ≤ high → b.start + b.count ≤ high → drawn_end base mid ≤ high
          by_below (inl same) high low ends = omega (arith, same, low)
          by_below (inr (is, sum)) high low ends = omega (arith, is, ends)

    -- ---- all of them

    answers_on : (notes : List (BrokerNote L LeaseFault)) (asks : List (Asked LeaseFault)) (ceiling : ℕ) (old last : Keeping)
        → AreRising (entries_of old.pass) → AreExchanges tells state notes asks old last → AreGathered base highest mark (last.pass ∷ [])
        → AnswersOn ceiling asks old last
    answers_on [] [] ceiling old last rising same gathered = record {
      answers = record {
        deeds = [];
        left = ceiling;
        did = ap (λ (k : Keeping). broker_party ceiling (Some (broker_run base k))) same;
        wanted = refl;
        replied = refl;
        within = All-nil (IsWithinService stored);
      };
      levels = λ granted within. let ends : drawn_end base last ≡ drawn_end base old = ap (drawn_end base) same in record {
        rises = omega arith;
        covers = omega (arith, ends);
        even = λ e. ap (λ (x : ℕ). x % 16) ends ∙ e;
        later = omega (arith, ends);
        drawn_below = λ high low _. omega (arith, ends, low);
        below = λ high low _ _. low;
      };
    }
    answers_on [] (asked ∷ asks) ceiling old last rising h gathered = absurd h
    answers_on (note ∷ notes) [] ceiling old last rising h gathered = absurd h
    answers_on (note ∷ notes) (asked ∷ asks) ceiling old last rising (mid, one, rest) gathered =
        let on = turn_rises asked.answer asked.want old mid one.turn rising in
        by_turn (turn_of old mid last (goes_on notes asks mid last rest) on gathered) (λ now. answers_on notes asks now mid last on rest gathered)
        asked.answer asked.want refl refl one.turn where
          no_level : (left : ℕ) → drawn_end base mid ≡ drawn_end base old → Levels ceiling left asks mid last → Levels ceiling left (asked ∷ asks) old last
          no_level left same v = record {
            rises = v.rises;
            covers = let c = v.covers in omega (arith, c, same);
            even = λ e. v.even (ap (λ (x : ℕ). x % 16) same ∙ e);
            later = let l = v.later in omega (arith, l, same);
            drawn_below = λ high low ends. v.drawn_below high (omega (arith, low, same)) (rest_of_all (λ x. IfSome (block_in x) (λ b. b.start + b.count ≤ high)) asked asks ends);
            below = λ high low e ends. v.below high low e (rest_of_all (λ x. IfSome (block_in x) (λ b. b.start + b.count ≤ high)) asked asks ends);
          }

          -- the end of its Block
          end_of_block : (b : Block) → asked.answer ≡ Some (Ok (reply.Block b)) → (high : ℕ) → EndBelow high (asked ∷ asks) → b.start + b.count ≤ high
          end_of_block b is high ends = subst (λ (o : Option (Result Reply LeaseFault)). IfSome (block_by o) (λ x. x.start + x.count ≤ high)) is
              (first_of_all (λ x. IfSome (block_in x) (λ c. c.start + c.count ≤ high)) asked asks ends)

          by_answer : DrawsInTurn base old.pass mid.pass → (w : Want) (a : Result Reply LeaseFault) → asked.answer ≡ Some a → IsReplyStep state w a old mid → (left : ℕ)
              → IsGrantedOrUnasked (Some a) → EndBelow total (asked ∷ asks)
              → Levels (ceiling_after total ceiling (drawn_end base mid) stored a) left asks mid last → Levels ceiling left (asked ∷ asks) old last
          by_answer turn w (Ok (reply.Block b)) is t left granted within v =
              level_more b w ceiling left asks (asked ∷ asks) old mid last (end_of_block b is total within)
              (λ high ends. (end_of_block b is high ends, rest_of_all (λ x. IfSome (block_in x) (λ c. c.start + c.count ≤ high)) asked asks ends))
              (drew_for b w old mid t turn) v
          by_answer turn w (Ok (reply.Out o)) is t left granted within v = absurd granted
          by_answer turn w (Err fault) is t left granted within v = absurd granted

          by_turn : DrawsInTurn base old.pass mid.pass → ((now : ℕ) → AnswersOn now asks mid last)
              → (answer : Option (Result Reply LeaseFault)) (want : Option Want) → asked.answer ≡ answer → asked.want ≡ want → TurnBy answer want old mid
              → AnswersOn ceiling (asked ∷ asks) old last
          by_turn turn following None want is_answer is_want t =
              let on = following ceiling in let f = on.answers in record {
                answers = record {
                  deeds = f.deeds;
                  left = f.left;
                  did = subst (λ (k : Keeping). AreBrokerDeeds state total nodes f.deeds (broker_party ceiling (Some (broker_run base k))) (broker_party f.left (Some (broker_run base last)))) t.1 f.did;
                  wanted = f.wanted ∙ ap (λ (o : Option Want). want_answered o ++ flat_map (λ (a : Asked LeaseFault). want_answered a.want) asks) (sym (is_want ∙ t.0));
                  replied = f.replied ∙ ap (λ (o : Option (Result Reply LeaseFault)). message_answered o ++ flat_map (λ (a : Asked LeaseFault). message_answered a.answer) asks) (sym is_answer);
                  within = f.within;
                };
                levels = λ granted within. no_level f.left (ap (drawn_end base) t.1) (on.levels (rest_of_all (λ a. IsGrantedOrUnasked a.answer) asked asks granted)
                    (rest_of_all (λ a. IfSome (block_in a) (λ b. b.start + b.count ≤ total)) asked asks within));
              }
          by_turn turn following (Some a) None is_answer is_want t = elim t [ ]
          by_turn turn following (Some a) (Some w) is_answer is_want t =
              let now : ℕ = ceiling_after total ceiling (drawn_end base mid) stored a in
              let on = following now in let f = on.answers in record {
                answers = record {
                  deeds = replies w a stored mid ∷ f.deeds;
                  left = f.left;
                  did = (broker_party now (Some (broker_run base mid)), record { step = t; turn = turn; becomes = refl }, f.did);
                  wanted = ap (λ (ws : List Want). w ∷ ws) f.wanted ∙ ap (λ (o : Option Want). want_answered o ++ flat_map (λ (x : Asked LeaseFault). want_answered x.want) asks) (sym is_want);
                  replied = ap (λ (ms : List Message). message_answered (Some a) ++ ms) f.replied
                      ∙ ap (λ (o : Option (Result Reply LeaseFault)). message_answered o ++ flat_map (λ (x : Asked LeaseFault). message_answered x.answer) asks) (sym is_answer);
                  within = All-cons (IsWithinService stored) (replies w a stored mid) f.deeds refl f.within;
                };
                levels = λ granted within. by_answer turn w a is_answer t f.left (subst IsGrantedOrUnasked is_answer (first_of_all (λ x. IsGrantedOrUnasked x.answer) asked asks granted)) within
                    (on.levels (rest_of_all (λ x. IsGrantedOrUnasked x.answer) asked asks granted)
                    (rest_of_all (λ x. IfSome (block_in x) (λ b. b.start + b.count ≤ total)) asked asks within));
              }

pub exchanges_are_deeds : {C L : Type 0} (tells : L → LinkState) (state : C → DiskState) → ExchangesAreDeeds {C = C} tells state
exchanges_are_deeds tells state total nodes base ceiling highest mark stored notes asks old last rising made gathered =
    (answers_on tells state total nodes base highest mark stored notes asks ceiling old last rising made gathered).answers

module _ {C L : Type 0} (tells : L → LinkState) (state : C → DiskState) (total base highest mark : ℕ) (stored : Bool) (notes : List (BrokerNote L LeaseFault))
    (asks : List (Asked LeaseFault)) (old last : Keeping) (none : entries_of old.pass ≡ []) (made : AreExchanges tells state notes asks old last)
    (gathered : AreGathered base highest mark (last.pass ∷ [])) where
  from_none : AnswersOn tells state total MAX_NODES base highest mark stored base asks old last
  from_none = answers_on tells state total MAX_NODES base highest mark stored notes asks base old last (subst AreRising (sym none) turns_are_seen.fresh) made gathered

  ends_below : (high : ℕ) → All (λ a. IfSome (block_in a) (LiesBetween base high)) asks → All (λ a. IfSome (block_in a) (λ b. b.start + b.count ≤ high)) asks
  ends_below high all k d l = by_block (block_in (slice_index_or asks k d)) (all k d l) where
    by_block : (o : Option Block) → IfSome o (LiesBetween base high) → IfSome o (λ b. b.start + b.count ≤ high)
    by_block None h = tt
    by_block (Some b) h = h.1

  stays : base % 16 ≡ 0 → base ≤ highest → highest ≤ max base (ceiling_for total (base + units_drawn (all_entries (last.pass ∷ []))))
      → All (λ a. IfSome (block_in a) (LiesBetween base total)) asks → All (λ a. IfSome (block_in a) (LiesBetween base highest)) asks
      → All (λ a. IsGrantedOrUnasked a.answer) asks → from_none.answers.left ≡ highest
  stays even low most within between granted =
      let v = from_none.levels granted (ends_below total within) in
      let begins : drawn_end base old ≡ base = ap (greatest_end base) none in
      let whole : all_entries (last.pass ∷ []) ≡ entries_of last.pass = append-nil (entries_of last.pass) in
      let tile : base + units_drawn (all_entries (last.pass ∷ [])) ≡ drawn_end base last = gathered.tile ∙ ap (greatest_end base) whole in
      let e : drawn_end base last % 16 ≡ 0 = v.even (ap (λ (x : ℕ). x % 16) begins ∙ even) in
      let later = v.later in
      let under : drawn_end base last ≤ highest = v.drawn_below highest (omega (arith, begins, low)) (ends_below highest between) in
      let most_is : highest ≤ max base (ceiling_for total (drawn_end base last)) = subst (λ (x : ℕ). highest ≤ max base (ceiling_for total x)) tile most in
      let is : highest ≡ drawn_end base last = omega (arith, most_is, under, e, later, begins) in
      let rises = v.rises in let covers = v.covers in
      let left_most = v.below highest low (ap (λ (x : ℕ). x % 16) is ∙ e) (ends_below highest between) in
      omega (arith, is, rises, covers, left_most, begins)

pub services_are_deeds : {C L : Type 0} (tells : L → LinkState) (state : C → DiskState) → ServicesAreDeeds {C = C} tells state
services_are_deeds tells state start disk id base total number table passes notes stored b fresh = record {
  answers = (from_none tells state total base b.closed.ceiling b.closed.mark stored notes b.asks (keeping_none b.first) b.last fresh.3 b.exchanges b.closed.gathered).answers;
  stays = λ even granted. stays tells state total base b.closed.ceiling b.closed.mark stored notes b.asks (keeping_none b.first) b.last fresh.3 b.exchanges b.closed.gathered
      even b.closed.grows b.closed.most within b.between granted;
} where
  within : All (λ a. IfSome (block_in a) (LiesBetween base total)) b.asks
  within k d l = by_block (block_in (slice_index_or b.asks k d)) (b.safe k d l) where
    by_block : (o : Option Block) → IfSome o (IsSafeBlock state base total) → IfSome o (LiesBetween base total)
    by_block None h = tt
    by_block (Some blk) h = h.between
