-- What a broker's step adds.
use Rattle.std.proofs.Common.{◌≡◌, ℕ, ◌+◌, ◌^◌, ◌<◌, ◌≤◌, max, ◌⊎◌, inl, inr, ⊎_elim, Bool, true, false, List, [], ◌∷◌, ◌++◌, get_or, refl, sym, ap, ◌∙◌, subst, arith, All, Contains, Option, None, Some, IfSome, Result, Ok, Err, nat_eq}
use Rattle.std.specs.Prelude.{MatchOption, IfOk, IsSomeAnd, cond}
use Rattle.std.specs.List.{sum_by}
use Rattle.std.proofs.lemmas.List.Elements.{Contains-append_left, Contains-push}
use Rattle.std.proofs.lemmas.List.{get_or_default}
use Rattle.std.proofs.lemmas.List.Sums.{sum_by_push}
use Rattle.std.proofs.lemmas.Bool.{cases_lt, eqb-true}
use Rattle.std.proofs.lemmas.Option.{none-some, same_Some}
use Rattle.zk_model.specs.Messages.{FitsWant}
use Rattle.zk_model.specs.declared.Span.{Span}
use Rattle.zk_model.specs.declared.messages.Block.{Block}
use Rattle.zk_model.specs.declared.messages.Want.{Want}
use Rattle.zk_port.specs.Disks.{DiskState}
use Rattle.lease_words.specs.Calls.{IsExhausted, RisesFrom, entries_of, greatest_end, known_of, mark_of, met_of, number_of, seen}
use Rattle.lease_words.specs.Views.{end_of, entry, units_drawn}
use Rattle.lease_words.specs.declared.fault.Exhausted.{Exhausted as Refusal}
use Rattle.lease_words.specs.declared.pass.Pass.{Pass}
use Rattle.lease_words.specs.declared.view.Entry.{Entry}
use Rattle.lease_store.specs.Leases.{IsBurnt, Leased, PassGoesOn}
use Rattle.lease_store.specs.Stops.{WasStored}
use Rattle.lease_store.specs.declared.LeaseFault.{LeaseFault}
use Rattle.lease_store.specs.declared.LeaseFault.TheVariants.{Exhausted, Device, Broken}
use Rattle.broker_core.specs.Leases.{kept_of, repeated}
use Rattle.broker_core.specs.Messages.{block_of, rounded}
use Rattle.broker_core.specs.declared.message.Kept.{Kept}
use Rattle.broker_core.proofs.Lists.{set_cases}
use Rattle.broker_links.specs.Answers.{Asked}
use Rattle.broker_links.specs.declared.reply.Reply.{Reply}
use Rattle.broker_node.specs.BrokerSteps.{IsLeasedFor, IsStoredReply, kept_with, reply_of}
use Rattle.broker_node.specs.declared.broker.Reply.{Reply as Decided}
use Rattle.broker_node.specs.declared.broker.Reply.TheVariants as decided
use Rattle.broker_service.specs.Granted.{AreOneOrApart, IsMarkedFault, block_in, fault_in, meets_fault, out_in, units_for}
use Rattle.broker_service.specs.Turns.{IsReplyStep, IsTurn, Keeping, keeping, said_to_node}
use Rattle.broker_service.proofs.Ledger.{DrawsOn, IsAdded, IsAmong, IsBacked, IsLedger, IsReached, ledger_pushed}

-- ---- passes

greatest_push : (es : List Entry) (e : Entry) → greatest_end 0 (es ++ e ∷ []) ≡ max (greatest_end 0 es) (end_of e)
greatest_push [] e = omega arith
greatest_push (x ∷ es) e = let i = greatest_push es e in omega (arith, i)

stays : (p q : Pass) (units : ℕ) → q.total ≡ p.total → entries_of q ≡ entries_of p → known_of p ≤ known_of q → (mark_of p ≡ 0) ⊎ (mark_of q ≡ mark_of p) → DrawsOn p q units
stays p q units total same known mark = record {
  total = total;
  entries = λ e is. subst (λ (es : List Entry). Contains es e) (sym same) is;
  known = known;
  mark = mark;
  drawn = let a = ap units_drawn same in omega (arith, a);
  further = let a = ap (greatest_end 0) same in omega (arith, a);
}

itself : (p : Pass) (units : ℕ) → DrawsOn p p units
itself p units = stays p p units refl refl (omega arith) (inr refl)

-- so many units more were drawn
record IsDrawn (p q : Pass) (start units : ℕ) : Type 0 where
  goes : PassGoesOn p q
  is : entries_of q ≡ entries_of p ++ entry (number_of p) start units ∷ []

module _ (p q : Pass) (start units : ℕ) (d : IsDrawn p q start units) where
  draws : DrawsOn p q units
  draws = record {
    total = d.goes.total;
    entries = λ e h. subst (λ (es : List Entry). Contains es e) (sym d.is) (Contains-append_left (entries_of p) (entry (number_of p) start units ∷ []) e h);
    known = d.goes.known;
    mark = d.goes.mark;
    drawn = let a = ap units_drawn d.is in let b = sum_by_push (λ (e : Entry). e.count) (entries_of p) (entry (number_of p) start units) in omega (arith, a, b);
    further = let a = ap (greatest_end 0) d.is in let b = greatest_push (entries_of p) (entry (number_of p) start units) in omega (arith, a, b);
  }

  reaches : start + units ≤ greatest_end 0 (entries_of q)
  reaches = let a = ap (greatest_end 0) d.is in let b = greatest_push (entries_of p) (entry (number_of p) start units) in omega (arith, a, b)

  -- every Block of an earlier entry ends there at the latest
  behind : RisesFrom p q → (total : ℕ) (b : Block) → IsBacked total p b → b.start + b.count ≤ start
  behind rises total b back =
      let low = rises (entry (number_of p) start units) d.is back.among.0 back.entry back.among.1 in
      let here : end_of back.entry ≤ start = subst (λ (e : Entry). end_of e ≤ start) back.among.2 low in
      let first = back.start in let many = back.count in omega (arith, here, first, many)

-- ---- one more want

-- the want that was answered so by the lease
abbrev leased_for : Want → Result Span LeaseFault → Asked LeaseFault
leased_for want answer = record { want = Some want; answer = Some (said_to_node (reply_of want answer)) }

few_units : (count : ℕ) → count ≤ 4096 → rounded count < 2 ^ 32
few_units count few = omega (arith, few)

module _ {B : Type 0} (state : B → DiskState) (total : ℕ) (fresh : Type 0) (asks : List (Asked LeaseFault)) (old new : Keeping) (w : IsLedger state total fresh asks old) where
  abbrev Adds : Asked LeaseFault → Type 0
  Adds a = IsAdded state total fresh asks a old new

  no_blocks : (o : Option Block) → o ≡ None → All (λ b. AreOneOrApart (block_in b) o) asks
  no_blocks o none k d l = subst (AreOneOrApart (block_in (get_or asks k d))) (sym none) (by_first (block_in (get_or asks k d))) where
    by_first : (b : Option Block) → AreOneOrApart b None
    by_first None = tt
    by_first (Some b) = tt

  -- nobody was asked
  unasked : new ≡ old → Adds (record { want = None; answer = None })
  unasked same = subst (λ (n : Keeping). IsAdded state total fresh asks (record { want = None; answer = None }) old n) (sym same) (record {
    draws = itself old.pass 0;
    kept = λ node k is. inl is;
    backed = tt;
    apart = no_blocks None refl;
    stored = tt;
    marked = tt;
    faults = omega arith;
    out = λ f. tt;
    refused = λ f e is. let a = w.refused f e is in omega (arith, a);
  })

  -- what holds of all Blocks holds of one
  at_among : (P : Block → Type 0) (b : Block) → All (λ a. IfSome (block_in a) P) asks → IsAmong asks b → P b
  at_among P b all among =
      let here = all among.1.0 among.0 among.1.1 in
      let one : IfSome (block_in among.0) P = subst (λ (a : Asked LeaseFault). IfSome (block_in a) P) among.1.2 here in
      subst (λ (o : Option Block). IfSome o P) among.2 one

  -- a Block that was among these is each of them, or apart from it
  same_as : (b : Block) → IsAmong asks b → All (λ x. AreOneOrApart (block_in x) (Some b)) asks
  same_as b among k d l = ⊎_elim
      (λ (before : k < among.1.0). subst (AreOneOrApart (block_in (get_or asks k d))) at_one (w.once k among.1.0 d before among.1.1))
      (λ (from : among.1.0 ≤ k). ⊎_elim
      (λ (after : among.1.0 < k). flips (Some b) (block_in (get_or asks k d))
      (subst (λ (o : Option Block). AreOneOrApart o (block_in (get_or asks k d))) at_one (w.once among.1.0 k d after l)))
      (λ (still : k ≤ among.1.0). let here : k ≡ among.1.0 = omega (arith, from, still) in
      subst (λ (o : Option Block). AreOneOrApart o (Some b)) (sym at_one ∙ ap (λ (i : ℕ). block_in (get_or asks i d)) (sym here)) (inl refl))
      (cases_lt among.1.0 k))
      (cases_lt k among.1.0) where
        at_one : block_in (get_or asks among.1.0 d) ≡ Some b
        at_one = ap block_in (get_or_default asks among.1.0 d among.0 among.1.1 ∙ among.1.2) ∙ among.2

        flips : (x y : Option Block) → AreOneOrApart x y → AreOneOrApart y x
        flips None None h = tt
        flips None (Some y) h = tt
        flips (Some x) None h = tt
        flips (Some x) (Some y) (inl same) = inl (sym same)
        flips (Some x) (Some y) (inr (inl low)) = inr (inr low)
        flips (Some x) (Some y) (inr (inr high)) = inr (inl high)

  -- a want comes again
  again : (want : Want) (s : Span) → new.kept ≡ old.kept → new.pass ≡ old.pass → IsAmong asks (block_of want.node want.number s)
      → Adds (record { want = Some want; answer = Some (said_to_node (Ok (decided.Block (block_of want.node want.number s)))) })
  again want s kept pass among =
      subst (λ (n : Keeping). IsAdded state total fresh asks (record { want = Some want; answer = Some (said_to_node (Ok (decided.Block (block_of want.node want.number s)))) }) old n)
      (sym same) (record {
        draws = itself old.pass (rounded want.count);
        kept = λ node k is. inl is;
        backed = at_among (IsBacked total old.pass) b w.backed among;
        apart = same_as b among;
        stored = at_among (λ x. WasStored state (x.start + x.count)) b w.stored among;
        marked = tt;
        faults = omega arith;
        out = λ f. tt;
        refused = λ f e is. let a = w.refused f e is in omega (arith, a);
      }) where
        b : Block
        b = block_of want.node want.number s

        same : new ≡ old
        same = ap (λ (k : List (Option Kept)). keeping k new.pass) kept ∙ ap (keeping old.kept) pass

  none_kept : (units : ℕ) → new.pass.kept ≡ None → (e : Refusal) → new.pass.kept ≡ Some e → IsReached new.pass (sum_by units_for asks + units) e.at 0
  none_kept units free e is = absurd (none-some e (sym free ∙ is))

  -- units were drawn and granted
  granted : (want : Want) (s : Span) → FitsWant want → PassGoesOn old.pass new.pass → RisesFrom old.pass new.pass → Leased old.pass (rounded want.count) (Ok s) new.pass
      → new.kept ≡ kept_with old.kept want (Ok s) → IsStoredReply state (decided.Block (block_of want.node want.number s))
      → Adds (leased_for want (Ok s))
  granted want s fits goes rises leased kept stored = record {
    draws = draws old.pass new.pass s.start units drew;
    kept = λ node k is. by_place node k is (set_cases old.kept want.node node (Some (record { number = want.number; span = s })) None);
    backed = record {
      entry = entry (number_of old.pass) s.start units;
      among = subst (λ (es : List Entry). Contains es (entry (number_of old.pass) s.start units)) (sym drew.is)
          (Contains-push (entries_of old.pass) (entry (number_of old.pass) s.start units));
      start = refl;
      count = count_is;
      known = let ends = leased.1 in let low = leased.2 in omega (arith, ends, low, count_is);
      within = let low = leased.0.within in let own = w.own in omega (arith, low, own, count_is);
    };
    apart = λ k d l. by_block (block_in (get_or asks k d)) (w.backed k d l);
    stored = stored;
    marked = tt;
    faults = let met = goes.met in omega (arith, met);
    out = λ f. tt;
    refused = λ f. none_kept units leased.0.is_free;
  } where
    units : ℕ
    units = rounded want.count

    b : Block
    b = block_of want.node want.number s

    drew : IsDrawn old.pass new.pass s.start units
    drew = record { goes = goes; is = leased.0.entry_is }

    count_is : b.count ≡ units
    count_is = let ends = leased.1 in let few = few_units want.count fits.most in omega (arith, ends, few)

    by_block : (o : Option Block) → IfSome o (IsBacked total old.pass) → AreOneOrApart o (Some b)
    by_block None back = tt
    by_block (Some x) back = inr (inl (behind old.pass new.pass s.start units drew rises total x back))

    by_place : (node : ℕ) (k : Kept) → kept_of new.kept node ≡ Some k
        → (kept_of (kept_with old.kept want (Ok s)) node ≡ kept_of old.kept node)
        ⊎ ((node ≡ want.node) × (kept_of (kept_with old.kept want (Ok s)) node ≡ Some (record { number = want.number; span = s })))
        → (kept_of old.kept node ≡ Some k) ⊎ (Some b ≡ Some (block_of node k.number k.span))
    by_place node k is (inl same) = inl (sym same ∙ ap (λ (ks : List (Option Kept)). kept_of ks node) (sym kept) ∙ is)
    by_place node k is (inr h) =
        let one : record { number = want.number; span = s } ≡ k =
        same_Some (record { number = want.number; span = s }) k (sym h.1 ∙ ap (λ (ks : List (Option Kept)). kept_of ks node) (sym kept) ∙ is) in
        inr (ap (λ (n : ℕ). Some (block_of n want.number s)) (sym h.0) ∙ ap (λ (x : Kept). Some (block_of node x.number x.span)) one)

  -- units were drawn, and are lost
  burnt : (want : Want) (fault : LeaseFault) (start : ℕ) → PassGoesOn old.pass new.pass → new.kept ≡ old.kept
      → IsBurnt old.pass start (rounded want.count) new.pass → out_in (leased_for want (Err fault)) ≡ None → block_in (leased_for want (Err fault)) ≡ None
      → IfSome (fault_in (leased_for want (Err fault))) (IsMarkedFault (mark_of new.pass))
      → meets_fault (fault_in (leased_for want (Err fault))) + met_of old.pass ≤ met_of new.pass
      → Adds (leased_for want (Err fault))
  burnt want fault start goes kept is no_out no_block marked faults = record {
    draws = draws old.pass new.pass start (rounded want.count) (record { goes = goes; is = is.drawn.entry_is });
    kept = λ node k h. inl (ap (λ (ks : List (Option Kept)). kept_of ks node) (sym kept) ∙ h);
    backed = subst (λ o. IfSome o (IsBacked total new.pass)) (sym no_block) tt;
    apart = no_blocks (block_in (leased_for want (Err fault))) no_block;
    stored = subst (λ o. IfSome o (λ b. WasStored state (b.start + b.count))) (sym no_block) tt;
    marked = marked;
    faults = faults;
    out = λ f. subst (λ o. IfSome o (λ x. IsReached new.pass (sum_by units_for asks + rounded want.count) x.at (rounded want.count))) (sym no_out) tt;
    refused = λ f. none_kept (rounded want.count) is.drawn.is_free;
  }

  -- no units are left
  exhausted : (want : Want) (at n all : ℕ) → PassGoesOn old.pass new.pass → new.kept ≡ old.kept → new.pass.kept ≡ Some (record { at = at; count = n; total = all })
      → (was : Option Refusal) → old.pass.kept ≡ was
      → MatchOption was (IsExhausted old.pass (rounded want.count) (record { at = at; count = n; total = all }) new.pass)
      (λ k. (record { at = at; count = n; total = all } ≡ k) × (seen new.pass ≡ seen old.pass))
      → Adds (leased_for want (Err (Exhausted at n all)))
  exhausted want at n all goes kept now None free refused = record {
    draws = draws old.pass new.pass at units drew;
    kept = λ node k h. inl (ap (λ (ks : List (Option Kept)). kept_of ks node) (sym kept) ∙ h);
    backed = tt;
    apart = no_blocks None refl;
    stored = tt;
    marked = tt;
    faults = let met = goes.met in omega (arith, met);
    out = λ f. reached f units (omega arith);
    refused = λ f e is. subst (λ (r : Refusal). IsReached new.pass (sum_by units_for asks + units) r.at 0)
        (same_Some (record { at = at; count = n; total = all }) e (sym now ∙ is)) (reached f 0 (omega arith));
  } where
    units : ℕ
    units = rounded want.count

    drew : IsDrawn old.pass new.pass at units
    drew = record { goes = goes; is = ap (λ v. v.entries) refused.0 }

    reached : fresh → (own : ℕ) → own ≤ units → IsReached new.pass (sum_by units_for asks + units) at own
    reached f own few =
        let more = (draws old.pass new.pass at units drew).drawn in let far = reaches old.pass new.pass at units drew in let all_drawn = w.drawn f in
        omega (arith, more, far, all_drawn, few)
  exhausted want at n all goes kept now (Some k) was refused = record {
    draws = stays old.pass new.pass units goes.total same goes.known goes.mark;
    kept = λ node k h. inl (ap (λ (ks : List (Option Kept)). kept_of ks node) (sym kept) ∙ h);
    backed = tt;
    apart = no_blocks None refl;
    stored = tt;
    marked = tt;
    faults = let met = goes.met in omega (arith, met);
    out = λ f. reached f units (omega arith);
    refused = λ f e is. subst (λ (r : Refusal). IsReached new.pass (sum_by units_for asks + units) r.at 0)
        (same_Some (record { at = at; count = n; total = all }) e (sym now ∙ is)) (reached f 0 (omega arith));
  } where
    units : ℕ
    units = rounded want.count

    same : entries_of new.pass ≡ entries_of old.pass
    same = ap (λ v. v.entries) refused.1

    reached : fresh → (own : ℕ) → own ≤ units → IsReached new.pass (sum_by units_for asks + units) at own
    reached f own few =
        let first = w.refused f k was in let place : at ≡ k.at = ap (λ (r : Refusal). r.at) refused.0 in
        let a = ap units_drawn same in let b = ap (greatest_end 0) same in omega (arith, first, place, a, b, few)

  -- none were granted
  ungranted : (want : Want) (fault : LeaseFault) → PassGoesOn old.pass new.pass → Leased old.pass (rounded want.count) (Err fault) new.pass
      → new.kept ≡ old.kept → Adds (leased_for want (Err fault))
  ungranted want (Exhausted at n all) goes leased kept = exhausted want at n all goes kept leased.0 old.pass.kept refl leased.1
  ungranted want Device goes leased kept =
      burnt want Device leased.1 goes kept leased.2 refl refl leased.2.marked (let met = leased.0 in omega (arith, met))
  ungranted want (Broken first) goes leased kept =
      burnt want (Broken first) leased.1 goes kept leased.2 refl refl (leased.2.marked, sym leased.0) (let met = goes.met in omega (arith, met))

  -- ---- a turn

  by_answer : (want : Want) (answer : Result Span LeaseFault) → FitsWant want → PassGoesOn old.pass new.pass → RisesFrom old.pass new.pass
      → Leased old.pass (rounded want.count) answer new.pass → new.kept ≡ kept_with old.kept want answer → IfOk (reply_of want answer) (IsStoredReply state)
      → Adds (leased_for want answer)
  by_answer want (Ok s) fits goes rises leased kept stored = granted want s fits goes rises leased kept stored
  by_answer want (Err fault) fits goes rises leased kept stored = ungranted want fault goes leased kept

  repeats : (o : Option Kept) (number : ℕ) (s : Span) → repeated o number ≡ Some s → (k : Kept) × (o ≡ Some k) × (k.number ≡ number) × (k.span ≡ s)
  repeats None number s is = absurd (none-some s is)
  repeats (Some k) number s is = by_number (nat_eq k.number number) refl is where
    by_number : (b : Bool) → nat_eq k.number number ≡ b → cond b (Some k.span) None ≡ Some s
        → (j : Kept) × (Some k ≡ Some j) × (j.number ≡ number) × (j.span ≡ s)
    by_number true same h = (k, refl, eqb-true k.number number same, same_Some k.span s h)
    by_number false other h = absurd (none-some s h)

  kept_among : (want : Want) (s : Span) → repeated (kept_of old.kept want.node) want.number ≡ Some s → IsAmong asks (block_of want.node want.number s)
  kept_among want s is =
      let r = repeats (kept_of old.kept want.node) want.number s is in
      subst (λ (n : ℕ). IsAmong asks (block_of want.node n s)) r.2
      (subst (λ (t : Span). IsAmong asks (block_of want.node r.0.number t)) r.3 (w.kept want.node r.0 r.1))

  by_step : (want : Want) (made : Result Decided LeaseFault) → FitsWant want → PassGoesOn old.pass new.pass → RisesFrom old.pass new.pass
      → (o : Option Span) → repeated (kept_of old.kept want.node) want.number ≡ o
      → MatchOption o (IsLeasedFor old.kept old.pass want made new.kept new.pass)
      (λ s. (made ≡ Ok (decided.Block (block_of want.node want.number s))) × (new.kept ≡ old.kept) × (new.pass ≡ old.pass))
      → (o ≡ None → IfOk made (IsStoredReply state)) → Adds (record { want = Some want; answer = Some (said_to_node made) })
  by_step want made fits goes rises None is leased stored =
      subst (λ (m : Result Decided LeaseFault). Adds (record { want = Some want; answer = Some (said_to_node m) })) (sym leased.replied)
      (by_answer want leased.answer fits goes rises leased.leased leased.keeps
      (subst (λ (m : Result Decided LeaseFault). IfOk m (IsStoredReply state)) leased.replied (stored refl)))
  by_step want made fits goes rises (Some s) is step stored =
      subst (λ (m : Result Decided LeaseFault). Adds (record { want = Some want; answer = Some (said_to_node m) })) (sym step.0)
      (again want s step.1 step.2 (kept_among want s is))

  replied : (want : Want) (answer : Result Reply LeaseFault) → IsReplyStep state want answer old new → Adds (record { want = Some want; answer = Some answer })
  replied want answer r =
      subst (λ (x : Result Reply LeaseFault). Adds (record { want = Some want; answer = Some x })) (sym r.said)
      (by_step want r.made r.fits r.goes r.rises (repeated (kept_of old.kept want.node) want.number) refl r.step r.stored)

  by_parts : (want : Option Want) (answer : Option (Result Reply LeaseFault))
      → MatchOption answer ((want ≡ None) × (new ≡ old)) (λ r. IsSomeAnd want (λ v. IsReplyStep state v r old new))
      → Adds (record { want = want; answer = answer })
  by_parts None None turn = unasked turn.1
  by_parts (Some want) None turn = absurd (none-some want (sym turn.0))
  by_parts None (Some answer) turn = absurd turn
  by_parts (Some want) (Some answer) turn = replied want answer turn

  pub turn_adds : (a : Asked LeaseFault) → IsTurn state a old new → Adds a
  turn_adds a turn = by_parts a.want a.answer turn

-- the ledger once the turn was taken
pub turn_pushes : {B : Type 0} (state : B → DiskState) (total : ℕ) (fresh : Type 0) (asks : List (Asked LeaseFault)) (a : Asked LeaseFault) (old new : Keeping)
    → IsLedger state total fresh asks old → IsTurn state a old new → IsLedger state total fresh (asks ++ a ∷ []) new
turn_pushes state total fresh asks a old new w turn = ledger_pushed state total fresh asks a old new w (turn_adds state total fresh asks old new w a turn)
