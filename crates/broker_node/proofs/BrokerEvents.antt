-- The broker's step as an event of the world.
use Rattle.std.proofs.Common.{◌≡◌, ℕ, zero, suc, ◌+◌, ◌<◌, ◌≤◌, max, ◌⊎◌, inl, inr, Bool, true, false, cond, ◌&&◌, ◌||◌, List, [], ◌∷◌, ◌++◌, length, get_or, set, take, refl, sym, ap, ◌∙◌, subst, arith, Option, None, Some, nat_eq, nat_le, nat_lt}
use Rattle.std.specs.List.{list_any}
use Rattle.std.specs.Prelude.{Result, Ok, Err, IsNone, MatchOption, slice_index}
use Rattle.std.proofs.lemmas.Bool.{and_from, and_parts, eqb-true, false≢true, le-leb, le-ltb, lt-ltb, true≢false}
use Rattle.std.proofs.lemmas.List.{append-nil, set-get_or}
use Rattle.std.proofs.lemmas.List.Folds.{list_any-append}
use Rattle.std.proofs.lemmas.Option.{MatchOption-at_none, cond_some, none-some}
use Rattle.zk_model.specs.declared.Span.{Span}
use Rattle.zk_model.specs.declared.messages.Want.{Want}
use Rattle.lease_core.specs.Machine.{Machine, after, after_all, is_passed, last_drawn}
use Rattle.lease_core.specs.declared.event.Drawn.{Drawn}
use Rattle.lease_core.specs.declared.event.Event.{Event}
use Rattle.lease_core.specs.declared.event.Event.TheVariants.{Begin, Draw, Look, Put, Raise, Spend, Claim, Crash}
use Rattle.lease_core.specs.declared.event.Moment.TheVariants.{Body, BodySync, Gate, GateSync}
use Rattle.lease_core.proofs.Codes.{last_drawn_push}
use Rattle.lease_words.specs.Calls.{Drew, IsExhausted, entries_of, greatest_end, known_of, number_of, seen}
use Rattle.lease_words.specs.Views.{end_of, entry}
use Rattle.lease_words.specs.declared.fault.Exhausted.{Exhausted}
use Rattle.lease_words.specs.declared.pass.Pass.{Pass}
use Rattle.lease_words.specs.declared.view.Entry.{Entry}
use Rattle.lease_words.specs.declared.view.View.{View}
use Rattle.lease_store.specs.Leases.{HasDrawnUnits, IsBurnt, Leased, PassGoesOn}
use Rattle.lease_store.specs.declared.LeaseFault.{LeaseFault}
use Rattle.lease_store.specs.declared.LeaseFault.TheVariants as lease
use Rattle.broker_core.specs.Leases.{draw_steps, end_for, grant_steps, is_refused, kept_after, kept_of, last_start, lease_end, lease_steps, look_steps, next_span, repeated, reply_to, steps_for}
use Rattle.broker_core.specs.Messages.{block_of, given, rounded, want_at}
use Rattle.broker_core.specs.Worlds.{WorldState, is_node, served, with_steps}
use Rattle.broker_core.specs.declared.event.BrokerEvent.TheVariants as event
use Rattle.broker_core.specs.declared.message.Kept.{Kept}
use Rattle.broker_core.specs.declared.message.LeaseEnd.{LeaseEnd}
use Rattle.broker_core.specs.declared.message.LeaseEnd.TheVariants as end
use Rattle.broker_core.specs.declared.message.Message.{Message}
use Rattle.broker_core.specs.declared.message.Message.TheVariants as message
use Rattle.broker_node.specs.BrokerSteps.{IsLeasedFor, kept_with, reply_of}
use Rattle.broker_node.specs.Steps.{BrokerStepIsEvent, DrawsInTurn, IsBrokerEvent, IsServedBy, IsStepEvent, LeavesNoPut}
use Rattle.broker_node.specs.Ties.{HasPass, IsDrawnNext}
use Rattle.broker_node.specs.declared.broker.Reply.{Reply}
use Rattle.broker_node.specs.declared.broker.Reply.TheVariants as reply
use Rattle.broker_node.proofs.EndsAlike.{leases_end_alike}

-- ---- entries

greatest_more : (base : ℕ) (es : List Entry) (e : Entry) → greatest_end base (es ++ e ∷ []) ≡ max (greatest_end base es) (end_of e)
greatest_more base [] e = omega arith
greatest_more base (d ∷ es) e = let more = greatest_more base es e in omega (arith, more)

-- an entry that begins where those before it end is the one that ends last
ends_last : (base : ℕ) (es : List Entry) (pass start count : ℕ) → greatest_end base es ≡ start → greatest_end base (es ++ entry pass start count ∷ []) ≡ start + count
ends_last base es pass start count is = let more = greatest_more base es (entry pass start count) in omega (arith, more, is)

-- ---- the lease machine

-- looks, puts, raises and grants draw nothing
abbrev IsQuiet : Event → Type 0
IsQuiet (Look pass) = Unit {0}
IsQuiet (Put moment) = Unit {0}
IsQuiet Raise = Unit {0}
IsQuiet (Spend pass s) = Unit {0}
IsQuiet Begin = ⊥
IsQuiet (Draw pass n) = ⊥
IsQuiet (Claim s) = ⊥
IsQuiet (Crash body gate) = ⊥

abbrev AreQuiet : List Event → Type 0
AreQuiet [] = Unit {0}
AreQuiet (e ∷ es) = IsQuiet e × AreQuiet es

-- what has drawn alike
record DrewAlike (m now : Machine) : Type 0 where
  total : now.total ≡ m.total
  next : now.next ≡ m.next
  drawn : now.drawn ≡ m.drawn

quiet_one : (m : Machine) (e : Event) → IsQuiet e → DrewAlike m (after m e)
quiet_one m (Look pass) q = record { total = refl; next = refl; drawn = refl }
quiet_one m (Put (Body pass)) q = record { total = refl; next = refl; drawn = refl }
quiet_one m (Put BodySync) q = record { total = refl; next = refl; drawn = refl }
quiet_one m (Put Gate) q = record { total = refl; next = refl; drawn = refl }
quiet_one m (Put GateSync) q = record { total = refl; next = refl; drawn = refl }
quiet_one m Raise q = record { total = refl; next = refl; drawn = refl }
quiet_one m (Spend pass s) q = record { total = refl; next = refl; drawn = refl }
quiet_one m Begin q = absurd q
quiet_one m (Draw pass n) q = absurd q
quiet_one m (Claim s) q = absurd q
quiet_one m (Crash body gate) q = absurd q

quiet : (m : Machine) (es : List Event) → AreQuiet es → DrewAlike m (after_all m es)
quiet m [] q = record { total = refl; next = refl; drawn = refl }
quiet m (e ∷ es) q =
    let one = quiet_one m e q.0 in let more = quiet (after m e) es q.1 in
    record { total = more.total ∙ one.total; next = more.next ∙ one.next; drawn = more.drawn ∙ one.drawn }

quiet_first : (es : List Event) (k : ℕ) → AreQuiet es → AreQuiet (take k es)
quiet_first es zero q = tt
quiet_first [] (suc k) q = tt
quiet_first (e ∷ es) (suc k) q = (q.0, quiet_first es k q.1)

rest_quiet : (unseen low stands : Bool) (s : Span) → AreQuiet (look_steps unseen ++ grant_steps low stands s)
rest_quiet false false stands s = (tt, tt)
rest_quiet false true true s = tt
rest_quiet false true false s = (tt, (tt, (tt, (tt, (tt, (tt, (tt, tt)))))))
rest_quiet true false stands s = (tt, (tt, tt))
rest_quiet true true true s = (tt, tt)
rest_quiet true true false s = (tt, (tt, (tt, (tt, (tt, (tt, (tt, (tt, tt))))))))

-- no put stands after a lease where none stood before
rest_ends : (m : Machine) (unseen low stands : Bool) (s : Span) → m.stage ≡ 0 → (after_all m (look_steps unseen ++ grant_steps low stands s)).stage ≡ 0
rest_ends m false false stands s none = none
rest_ends m false true true s none = none
rest_ends m false true false s none = refl
rest_ends m true false stands s none = none
rest_ends m true true true s none = none
rest_ends m true true false s none = refl

-- what follows the draw of a lease of n units that fit
abbrev rest_of : Machine → ℕ → List Event
rest_of m n = look_steps (nat_lt (slice_index m.known 0) (m.next + n)) ++ grant_steps (nat_lt m.shown (m.next + n)) (nat_lt 0 m.stage) (next_span m n)

refused_push : (m : Machine) (n : ℕ) (over : Bool) → is_refused m ≡ false → nat_lt m.total (m.next + n) ≡ over
    → is_passed m.total 0 (m.drawn ++ record { pass = 0; span = next_span m n } ∷ []) ≡ over
refused_push m n over is ends =
    list_any-append (λ (d : Drawn). nat_eq d.pass 0 && nat_lt m.total d.span.end) m.drawn (record { pass = 0; span = next_span m n } ∷ [])
    ∙ ap (λ (b : Bool). b || (nat_lt m.total (m.next + n) || false)) is ∙ ap (λ (b : Bool). b || false) ends ∙ or_false over where
      or_false : (b : Bool) → (b || false) ≡ b
      or_false true = refl
      or_false false = refl

-- the machine has drawn these units, which fit, and nothing else
fits_drawn : (m now : Machine) (n : ℕ) → DrewAlike (after m (Draw 0 n)) now → is_refused m ≡ false → nat_lt m.total (m.next + n) ≡ false → is_refused now ≡ false
fits_drawn m now n d is ends =
    (λ i. is_passed (d.total i) 0 (d.drawn i)) ∙ refused_push m n false is ends

-- ---- the broker's pass

-- the pass drew the next units, which fit, and so did the machine
served_on : (base : ℕ) (m now : Machine) (p q : Pass) (start n : ℕ) → IsServedBy base m p → PassGoesOn p q → DrawsInTurn base p q → HasDrawnUnits p start n q
    → DrewAlike (after m (Draw 0 n)) now → IsServedBy base now q
served_on base m now p q start n s goes turn d alike =
    let begins : greatest_end base (entries_of p) ≡ start = turn (entry (number_of p) start n) d.entry_is in
    let at : m.next ≡ start = s.next ∙ begins in
    let total = s.pass.total in let within = d.within in
    let free : is_refused m ≡ false = MatchOption-at_none _ _ d.was_free s.pass.refused in
    let fits : nat_lt m.total (m.next + n) ≡ false = le-ltb m.total (m.next + n) (omega (arith, within, total, at)) in
    record {
      pass = record {
        total = alike.total ∙ s.pass.total ∙ sym goes.total;
        refused = subst (λ (o : Option Exhausted). MatchOption o (is_refused now ≡ false) (λ k. (is_refused now ≡ true) × (last_start now ≡ k.at))) (sym d.is_free)
            (fits_drawn m now n alike free fits);
      };
      next = alike.next ∙ ap (λ (x : ℕ). x + n) at ∙ sym (ap (greatest_end base) d.entry_is ∙ ends_last base (entries_of p) (number_of p) start n begins);
    }

-- no put stands after a lease where none stood before
lease_ends : (m : Machine) (n : ℕ) → m.stage ≡ 0 → (after_all m (lease_steps m n)).stage ≡ 0
lease_ends m n none = by_tests (is_refused m) (nat_lt m.total (m.next + n)) where
  by_tests : (refused over : Bool) → (after_all m (draw_steps refused over n (rest_of m n))).stage ≡ 0
  by_tests true over = none
  by_tests false true = none
  by_tests false false = rest_ends (after m (Draw 0 n)) (nat_lt (slice_index m.known 0) (m.next + n)) (nat_lt m.shown (m.next + n)) (nat_lt 0 m.stage) (next_span m n) none

-- nor after its first step
first_ends : (m : Machine) (n : ℕ) → m.stage ≡ 0 → (after_all m (take 1 (lease_steps m n))).stage ≡ 0
first_ends m n none = by_tests (is_refused m) (nat_lt m.total (m.next + n)) where
  by_tests : (refused over : Bool) → (after_all m (take 1 (draw_steps refused over n (rest_of m n)))).stage ≡ 0
  by_tests true over = none
  by_tests false true = none
  by_tests false false = none

-- a lease that is granted
granted_on : (base : ℕ) (m : Machine) (p q : Pass) (n : ℕ) (s : Span) → IsServedBy base m p → PassGoesOn p q → DrawsInTurn base p q → Leased p n (Ok s) q
    → IsServedBy base (after_all m (lease_steps m n)) q
granted_on base m p q n s v goes turn l =
    let d = l.0 in
    let at : m.next ≡ s.start = v.next ∙ turn (entry (number_of p) s.start n) d.entry_is in
    let total = v.pass.total in let within = d.within in
    let free : is_refused m ≡ false = MatchOption-at_none _ _ d.was_free v.pass.refused in
    let fits : nat_lt m.total (m.next + n) ≡ false = le-ltb m.total (m.next + n) (omega (arith, within, total, at)) in
    subst (λ (x : List Event). IsServedBy base (after_all m x) q) (λ i. draw_steps (sym free i) (sym fits i) n (rest_of m n))
    (served_on base m (after_all (after m (Draw 0 n)) (rest_of m n)) p q s.start n v goes turn d
    (quiet (after m (Draw 0 n)) (rest_of m n) (rest_quiet (nat_lt (slice_index m.known 0) (m.next + n)) (nat_lt m.shown (m.next + n)) (nat_lt 0 m.stage) (next_span m n))))

-- one that is exhausted
exhausted_on : (base : ℕ) (m : Machine) (p q : Pass) (n : ℕ) (e : Exhausted) → IsServedBy base m p → PassGoesOn p q → DrawsInTurn base p q → Drew p n (Err e) q
    → IsServedBy base (after_all m (lease_steps m n)) q
exhausted_on base m p q n e v goes turn (kept, drew) = by_kept p.kept refl drew v.pass.refused where
  Has : Machine → Option Exhausted → Type 0
  Has now o = MatchOption o (is_refused now ≡ false) (λ k. (is_refused now ≡ true) × (last_start now ≡ k.at))

  by_kept : (o : Option Exhausted) → p.kept ≡ o → MatchOption o (IsExhausted p n e q) (λ k. (e ≡ k) × (seen q ≡ seen p))
      → MatchOption o (is_refused m ≡ false) (λ k. (is_refused m ≡ true) × (last_start m ≡ k.at)) → IsServedBy base (after_all m (lease_steps m n)) q
  by_kept None is h free =
      let entries : entries_of q ≡ entries_of p ++ entry (number_of p) e.at n ∷ [] = ap (λ (x : View). x.entries) h.0 in
      let begins : greatest_end base (entries_of p) ≡ e.at = turn (entry (number_of p) e.at n) entries in
      let at : m.next ≡ e.at = v.next ∙ begins in
      let total = v.pass.total in let above = h.3 in let count = h.1 in
      let over : nat_lt m.total (m.next + n) ≡ true = lt-ltb m.total (m.next + n) (omega (arith, above, total, at)) in
      subst (λ (x : List Event). IsServedBy base (after_all m x) q) (λ i. draw_steps (sym free i) (sym over i) n (rest_of m n)) (record {
        pass = record {
          total = v.pass.total ∙ sym goes.total;
          refused = subst (Has (after m (Draw 0 n))) (sym kept) (
            refused_push m n true free over,
            ap (λ (o : Option Span). given o 0 (λ s. s.start)) (last_drawn_push 0 m.drawn (record { pass = 0; span = next_span m n })) ∙ at,
          );
        };
        next = ap (λ (x : ℕ). x + n) at ∙ sym (ap (greatest_end base) entries ∙ ends_last base (entries_of p) (number_of p) e.at n begins);
      })
  by_kept (Some k) is h refused =
      subst (λ (x : List Event). IsServedBy base (after_all m x) q) (λ i. draw_steps (sym refused.0 i) (nat_lt m.total (m.next + n)) n (rest_of m n)) (record {
        pass = record {
          total = v.pass.total ∙ sym goes.total;
          refused = subst (Has m) (sym kept) (refused.0, refused.1 ∙ sym (ap (λ (x : Exhausted). x.at) h.0));
        };
        next = v.next ∙ sym (ap (λ (x : View). greatest_end base x.entries) h.1);
      })

-- one that is burnt, whatever it did after its draw
burnt_on : (base : ℕ) (m : Machine) (p q : Pass) (start n k : ℕ) → IsServedBy base m p → PassGoesOn p q → DrawsInTurn base p q → IsBurnt p start n q
    → IsServedBy base (after_all m (take (suc k) (lease_steps m n))) q
burnt_on base m p q start n k v goes turn b =
    let d = b.drawn in
    let at : m.next ≡ start = v.next ∙ turn (entry (number_of p) start n) d.entry_is in
    let total = v.pass.total in let within = d.within in
    let free : is_refused m ≡ false = MatchOption-at_none _ _ d.was_free v.pass.refused in
    let fits : nat_lt m.total (m.next + n) ≡ false = le-ltb m.total (m.next + n) (omega (arith, within, total, at)) in
    subst (λ (x : List Event). IsServedBy base (after_all m (take (suc k) x)) q) (λ i. draw_steps (sym free i) (sym fits i) n (rest_of m n))
    (served_on base m (after_all (after m (Draw 0 n)) (take k (rest_of m n))) p q start n v goes turn d
    (quiet (after m (Draw 0 n)) (take k (rest_of m n)) (quiet_first (rest_of m n) k
    (rest_quiet (nat_lt (slice_index m.known 0) (m.next + n)) (nat_lt m.shown (m.next + n)) (nat_lt 0 m.stage) (next_span m n)))))

-- it has a step at least
burnt_steps : (base : ℕ) (m : Machine) (p q : Pass) (start n : ℕ) → IsServedBy base m p → DrawsInTurn base p q → IsBurnt p start n q → 1 ≤ length (lease_steps m n)
burnt_steps base m p q start n v turn b =
    let free : is_refused m ≡ false = MatchOption-at_none _ _ b.drawn.was_free v.pass.refused in
    subst (λ (r : Bool). 1 ≤ length (draw_steps r (nat_lt m.total (m.next + n)) n (rest_of m n))) (sym free) (some (nat_lt m.total (m.next + n))) where
      some : (over : Bool) → 1 ≤ length (draw_steps false over n (rest_of m n))
      some true = omega arith
      some false = omega arith

-- ---- the broker's step

module _ (base : ℕ) (w : WorldState) (i : ℕ) (want : Want) (is : want_at w.sent i ≡ Some want) (there : is_node w want.node ≡ true) where
  -- a Want comes
  to_broker : (now : List (Option Kept)) (more : List Message) (q : Pass) → kept_after w.kept want (end_for w.lease w.kept want) ≡ now
      → reply_to want (end_for w.lease w.kept want) ≡ more → IsServedBy base (after_all w.lease (steps_for w.lease w.kept want)) q
      → IsBrokerEvent base w (event.ToBroker i) now more q
  to_broker now more q kept sent serves = record {
    possible = ap (λ (o : Option Want). given o false (λ v. is_node w v.node)) is ∙ there;
    kept = ap (λ (o : Option Want). (given o w (served w)).kept) is ∙ kept;
    sent = ap (λ (o : Option Want). (given o w (served w)).sent) is ∙ ap (λ (x : List Message). w.sent ++ x) sent;
    serves = subst (λ (o : Option Want). IsServedBy base (given o w (served w)).lease q) (sym is) serves;
  }

  -- its lease is refused
  fail_broker : (steps : ℕ) (q : Pass) → steps ≤ length (steps_for w.lease w.kept want) → IsServedBy base (after_all w.lease (take steps (steps_for w.lease w.kept want))) q
      → IsBrokerEvent base w (event.BrokerFail i steps) w.kept [] q
  fail_broker steps q few serves = record {
    possible = ap (λ (o : Option Want). given o false (λ v. is_node w v.node && nat_le steps (length (steps_for w.lease w.kept v)))) is
        ∙ and_from (is_node w want.node) _ there (le-leb steps (length (steps_for w.lease w.kept want)) few);
    kept = ap (λ (o : Option Want). (given o w (with_steps w steps)).kept) is;
    sent = ap (λ (o : Option Want). (given o w (with_steps w steps)).sent) is ∙ sym (append-nil w.sent);
    serves = subst (λ (o : Option Want). IsServedBy base (given o w (with_steps w steps)).lease q) (sym is) serves;
  }

  -- what is kept of the node stays where the Want comes again
  kept_again : (s : Span) → repeated (kept_of w.kept want.node) want.number ≡ Some s → kept_after w.kept want (end.Leased s) ≡ w.kept
  kept_again s again = ap (λ (o : Option Kept). set w.kept want.node o) (sym (by_kept (kept_of w.kept want.node) again)) ∙ set-get_or w.kept want.node None where
    by_kept : (o : Option Kept) → repeated o want.number ≡ Some s → o ≡ Some (record { number = want.number; span = s })
    by_kept None e = absurd (none-some s e)
    by_kept (Some k) e =
        let p = cond_some (nat_eq k.number want.number) k.span s e in
        ap Some (λ j. record { number = eqb-true k.number want.number p.0 j; span = p.1 j })

  -- it leaves no put
  comes_unput : LeavesNoPut w (event.ToBroker i)
  comes_unput none = subst (λ (o : Option Want). (given o w (served w)).lease.stage ≡ 0) (sym is) (by_repeat (repeated (kept_of w.kept want.node) want.number)) where
    by_repeat : (o : Option Span) → (after_all w.lease (given o (lease_steps w.lease (rounded want.count)) (λ s. []))).stage ≡ 0
    by_repeat None = lease_ends w.lease (rounded want.count) none
    by_repeat (Some s) = none

  fails_unput : LeavesNoPut w (event.BrokerFail i 1)
  fails_unput none = subst (λ (o : Option Want). (given o w (with_steps w 1)).lease.stage ≡ 0) (sym is) (by_repeat (repeated (kept_of w.kept want.node) want.number)) where
    by_repeat : (o : Option Span) → (after_all w.lease (take 1 (given o (lease_steps w.lease (rounded want.count)) (λ s. [])))).stage ≡ 0
    by_repeat None = first_ends w.lease (rounded want.count) none
    by_repeat (Some s) = none

  module _ (p : Pass) (v : IsServedBy base w.lease p) where
    again : (s : Span) → repeated (kept_of w.kept want.node) want.number ≡ Some s
        → IsBrokerEvent base w (event.ToBroker i) w.kept (message.Block (block_of want.node want.number s) ∷ []) p
    again s e =
        let ends : end_for w.lease w.kept want ≡ end.Leased s = ap (λ (o : Option Span). given o (lease_end w.lease (rounded want.count)) end.Leased) e in
        to_broker w.kept (message.Block (block_of want.node want.number s) ∷ []) p
        (ap (kept_after w.kept want) ends ∙ kept_again s e) (ap (reply_to want) ends)
        (subst (λ (o : Option Span). IsServedBy base (after_all w.lease (given o (lease_steps w.lease (rounded want.count)) (λ s. []))) p) (sym e) v)

    module _ (q : Pass) (goes : PassGoesOn p q) (turn : DrawsInTurn base p q) (anew : repeated (kept_of w.kept want.node) want.number ≡ None) where
      steps_are : steps_for w.lease w.kept want ≡ lease_steps w.lease (rounded want.count)
      steps_are = ap (λ (o : Option Span). given o (lease_steps w.lease (rounded want.count)) (λ s. [])) anew

      end_is : end_for w.lease w.kept want ≡ lease_end w.lease (rounded want.count)
      end_is = ap (λ (o : Option Span). given o (lease_end w.lease (rounded want.count)) end.Leased) anew

      -- units are granted
      grants : (s : Span) → ((w.lease.stage ≡ 0) ⊎ (known_of q ≤ w.lease.shown)) → Leased p (rounded want.count) (Ok s) q
          → IsBrokerEvent base w (event.ToBroker i) (kept_after w.kept want (end.Leased s)) (message.Block (block_of want.node want.number s) ∷ []) q
      grants s found l =
          let begins : w.lease.next ≡ s.start = v.next ∙ turn (entry (number_of p) s.start (rounded want.count)) l.0.entry_is in
          let ends : end_for w.lease w.kept want ≡ end.Leased s = end_is ∙ leases_end_alike w.lease p q (rounded want.count) (Ok s) v.pass (begins, may found) l in
          to_broker (kept_after w.kept want (end.Leased s)) (message.Block (block_of want.node want.number s) ∷ []) q
          (ap (kept_after w.kept want) ends) (ap (reply_to want) ends)
          (subst (λ (x : List Event). IsServedBy base (after_all w.lease x) q) (sym steps_are) (granted_on base w.lease p q (rounded want.count) s v goes turn l)) where
            may : ((w.lease.stage ≡ 0) ⊎ (known_of q ≤ w.lease.shown)) → ((w.lease.stage ≡ 0) ⊎ (s.end ≤ w.lease.shown))
            may (inl none) = inl none
            may (inr low) = inr (let below = l.2 in omega (arith, below, low))

      -- no units are left
      exhausts : (e : Exhausted) → Drew p (rounded want.count) (Err e) q
          → IsBrokerEvent base w (event.ToBroker i) w.kept (message.Out (record { node = want.node; number = want.number; at = e.at }) ∷ []) q
      exhausts e drew =
          let ends : end_for w.lease w.kept want ≡ end.Exhausted e.at =
          end_is ∙ leases_end_alike w.lease p q (rounded want.count) (Err (lease.Exhausted e.at e.count e.total)) v.pass (by_kept p.kept refl drew.1) drew in
          to_broker w.kept (message.Out (record { node = want.node; number = want.number; at = e.at }) ∷ []) q
          (ap (kept_after w.kept want) ends) (ap (reply_to want) ends)
          (subst (λ (x : List Event). IsServedBy base (after_all w.lease x) q) (sym steps_are) (exhausted_on base w.lease p q (rounded want.count) e v goes turn drew)) where
            by_kept : (o : Option Exhausted) → p.kept ≡ o → MatchOption o (IsExhausted p (rounded want.count) e q) (λ k. (e ≡ k) × (seen q ≡ seen p))
                → IsNone p.kept → w.lease.next ≡ e.at
            by_kept None kept h none = v.next ∙ turn (entry (number_of p) e.at (rounded want.count)) (ap (λ (x : View). x.entries) h.0)
            by_kept (Some k) kept h none = absurd (true≢false (subst (λ (o : Option Exhausted). IsNone o) kept none))

      -- the journal failed
      fails : (start steps : ℕ) → IsBurnt p start (rounded want.count) q → 1 ≤ steps → steps ≤ length (steps_for w.lease w.kept want)
          → IsBrokerEvent base w (event.BrokerFail i steps) w.kept [] q
      fails start zero b some few = absurd (omega (arith, some))
      fails start (suc k) b some few = fail_broker (suc k) q few
          (subst (λ (x : List Event). IsServedBy base (after_all w.lease (take (suc k) x)) q) (sym steps_are)
          (burnt_on base w.lease p q start (rounded want.count) k v goes turn b))

      has_step : (start : ℕ) → IsBurnt p start (rounded want.count) q → 1 ≤ length (steps_for w.lease w.kept want)
      has_step start b = subst (λ (x : List Event). 1 ≤ length x) (sym steps_are) (burnt_steps base w.lease p q start (rounded want.count) v turn b)

      by_answer : (answer : Result Span LeaseFault) (result : Result Reply LeaseFault) (now : List (Option Kept)) → ((w.lease.stage ≡ 0) ⊎ (known_of q ≤ w.lease.shown))
          → Leased p (rounded want.count) answer q → result ≡ reply_of want answer → now ≡ kept_with w.kept want answer → IsStepEvent base w i want result now q
      by_answer (Ok s) result now found l replied keeps =
          subst (λ (r : Result Reply LeaseFault). IsStepEvent base w i want r now q) (sym replied)
          (subst (λ (x : List (Option Kept)). IsStepEvent base w i want (reply_of want (Ok s)) x q) (sym keeps) (grants s found l, comes_unput))
      by_answer (Err (lease.Exhausted at count total)) result now found l replied keeps =
          subst (λ (r : Result Reply LeaseFault). IsStepEvent base w i want r now q) (sym replied)
          (subst (λ (x : List (Option Kept)). IsStepEvent base w i want (reply_of want (Err (lease.Exhausted at count total))) x q) (sym keeps)
          (exhausts (record { at = at; count = count; total = total }) l, comes_unput))
      by_answer (Err lease.Device) result now found l replied keeps =
          subst (λ (r : Result Reply LeaseFault). IsStepEvent base w i want r now q) (sym replied)
          (subst (λ (x : List (Option Kept)). IsStepEvent base w i want (Err lease.Device) x q) (sym keeps)
          ((λ steps some few. fails l.1 steps l.2 some few), has_step l.1 l.2, fails_unput))
      by_answer (Err (lease.Broken first)) result now found l replied keeps =
          subst (λ (r : Result Reply LeaseFault). IsStepEvent base w i want r now q) (sym replied)
          (subst (λ (x : List (Option Kept)). IsStepEvent base w i want (Err (lease.Broken first)) x q) (sym keeps)
          (fails l.1 1 l.2 (omega arith) (has_step l.1 l.2), fails_unput))

pub broker_step_is_event : BrokerStepIsEvent
broker_step_is_event base w i want p q result now sound v is there step goes turn found =
    by_repeat (repeated (kept_of w.kept want.node) want.number) refl step where
      by_repeat : (o : Option Span) → repeated (kept_of w.kept want.node) want.number ≡ o
          → MatchOption o (IsLeasedFor w.kept p want result now q) (λ s. (result ≡ Ok (reply.Block (block_of want.node want.number s))) × (now ≡ w.kept) × (q ≡ p))
          → IsStepEvent base w i want result now q
      by_repeat None anew l = by_answer base w i want is there p v q goes turn anew l.answer result now found l.leased l.replied l.keeps
      by_repeat (Some s) e (replied, keeps, same) =
          subst (λ (r : Result Reply LeaseFault). IsStepEvent base w i want r now q) (sym replied)
          (subst (λ (x : List (Option Kept)). IsStepEvent base w i want (Ok (reply.Block (block_of want.node want.number s))) x q) (sym keeps)
          (subst (λ (x : Pass). IsStepEvent base w i want (Ok (reply.Block (block_of want.node want.number s))) w.kept x) (sym same)
          (again base w i want is there p v s e, comes_unput base w i want is there)))
