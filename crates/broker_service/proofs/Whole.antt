-- What is left of the whole service.
use Rattle.std.proofs.Common.{◌≡◌, ℕ, ◌+◌, ◌-◌, ◌≤◌, ◌⊎◌, inl, inr, max, List, [], ◌∷◌, ◌++◌, sym, subst, arith, All, get_or, Option, None, Some, IfSome}
use Rattle.std.specs.List.{sum_by}
use Rattle.std.proofs.lemmas.List.{append_assoc, append-nil}
use Rattle.std.proofs.lemmas.List.Elements.{All-weaker}
use Rattle.std.proofs.lemmas.List.Sums.{sum_by-cons}
use Rattle.zk_model.specs.declared.messages.Block.{Block}
use Rattle.zk_port.specs.Disks.{DiskState}
use Rattle.zk_port.specs.Links.{LinkState}
use Rattle.lease_core.specs.Machine.{ceiling_for}
use Rattle.lease_words.specs.Calls.{all_entries, entries_of, greatest_end, known_of, mark_of, met_of}
use Rattle.lease_words.specs.Views.{units_drawn}
use Rattle.lease_words.specs.declared.pass.Pass.{Pass}
use Rattle.lease_words.specs.declared.view.Entry.{Entry}
use Rattle.lease_store.specs.Leases.{IsClosed}
use Rattle.lease_store.specs.Stops.{WasStored}
use Rattle.lease_store.specs.declared.LeaseFault.{LeaseFault}
use Rattle.session_pool.specs.Notes.{IsUnused}
use Rattle.broker_links.specs.Answers.{Asked}
use Rattle.broker_links.specs.declared.note.BrokerNote.{BrokerNote}
use Rattle.broker_service.specs.Granted.{IsMarkedFault, IsSafeBlock, LiesBetween, block_in, fault_in, out_in, units_for}
use Rattle.broker_service.specs.Left.{IsBrokered, IsService, keeping_none}
use Rattle.broker_service.specs.Turns.{AreExchanges, Keeping}
use Rattle.broker_service.proofs.Ledger.{IsBacked, IsLedger, IsReached, if_weaker, mark_stays, none_asked}
use Rattle.broker_service.proofs.Steps.{turn_pushes}
use Rattle.broker_service.proofs.Told.{all_told}

module _ {B L : Type 0} (tells : L → LinkState) (state : B → DiskState) where
  ledger_of : (total : ℕ) (fresh : Type 0) (notes : List (BrokerNote L LeaseFault)) (before asks : List (Asked LeaseFault)) (old new : Keeping)
      → IsLedger state total fresh before old → AreExchanges tells state notes asks old new → IsLedger state total fresh (before ++ asks) new
  ledger_of total fresh [] before [] old new w are =
      subst (λ (s : Keeping). IsLedger state total fresh (before ++ []) s) (sym are) (subst (λ (xs : List (Asked LeaseFault)). IsLedger state total fresh xs old) (sym (append-nil before)) w)
  ledger_of total fresh [] before (a ∷ asks) old new w are = absurd are
  ledger_of total fresh (n ∷ notes) before [] old new w are = absurd are
  ledger_of total fresh (n ∷ notes) before (a ∷ asks) old new w are =
      subst (λ (xs : List (Asked LeaseFault)). IsLedger state total fresh xs new) (append_assoc before (a ∷ []) asks)
      (ledger_of total fresh notes (before ++ a ∷ []) asks are.0 new (turn_pushes state total fresh before a old are.0 w are.1.turn) are.2)

-- ---- the end

greatest_base : (base : ℕ) (es : List Entry) → greatest_end 0 es ≤ greatest_end base es
greatest_base base [] = omega arith
greatest_base base (e ∷ es) = let i = greatest_base base es in omega (arith, i)

most_of : (base total ceiling drawn taken : ℕ) → drawn ≤ taken → ceiling ≤ max base (ceiling_for total (base + drawn)) → ceiling ≤ max base (ceiling_for total (base + taken))
most_of base total ceiling drawn taken few most = omega arith

reached_last : (base at own drawn taken reach : ℕ) → at + own + drawn ≤ reach + taken → reach ≤ base + drawn → at ≤ base + (taken - own)
reached_last base at own drawn taken reach is low = omega (arith, is, low)

module _ (start disk : DiskState) (id : List ℕ) (base total : ℕ) (p : Pass) (closed : IsClosed start disk id base total (p ∷ [])) where
  all_are : all_entries (p ∷ []) ≡ entries_of p
  all_are = append-nil (entries_of p)

  lies : (b : Block) → IsBacked total p b → LiesBetween base closed.ceiling b
  lies b back =
      let above = subst (All (λ e. base ≤ e.start)) all_are closed.gathered.above in
      let here : base ≤ back.entry.start = subst (λ (e : Entry). base ≤ e.start) back.among.2 (above back.among.0 back.entry back.among.1) in
      let low : known_of p ≤ closed.ceiling = closed.gathered.known 0 p (omega arith) in
      let known = back.known in let first = back.start in
      (omega (arith, here, first), omega (arith, low, known))

  marked_at : (fault : LeaseFault) → IsMarkedFault (mark_of p) fault → IsMarkedFault closed.mark fault
  marked_at = mark_stays (mark_of p) closed.mark (by_mark (closed.gathered.marks 0 p (omega arith))) where
    by_mark : (mark_of p ≡ 0) ⊎ (mark_of p ≡ closed.mark) → (mark_of p ≡ 0) ⊎ (closed.mark ≡ mark_of p)
    by_mark (inl none) = inl none
    by_mark (inr same) = inr (sym same)

  one_met : met_of p ≤ 1
  one_met = let all = closed.once in let one = sum_by-cons met_of p [] in omega (arith, all, one)

  low_reach : greatest_end 0 (entries_of p) ≤ base + units_drawn (entries_of p)
  low_reach =
      let tile = closed.gathered.tile in let low = greatest_base base (all_entries (p ∷ [])) in
      let is : base + units_drawn (entries_of p) ≡ greatest_end base (entries_of p) = subst (λ (es : List Entry). base + units_drawn es ≡ greatest_end base es) all_are tile in
      let most = greatest_base base (entries_of p) in omega (arith, is, most)

  most_drawn : closed.ceiling ≤ max base (ceiling_for total (base + units_drawn (entries_of p)))
  most_drawn = subst (λ (es : List Entry). closed.ceiling ≤ max base (ceiling_for total (base + units_drawn es))) all_are closed.most

module _ {B L : Type 0} (tells : L → LinkState) (state : B → DiskState) (start disk : DiskState) (id : List ℕ) (base total : ℕ)
    (passes : List Pass) (notes : List (BrokerNote L LeaseFault)) where
  at_end : (first : Pass) (asks : List (Asked LeaseFault)) (last : Keeping) → passes ≡ first ∷ [] → AreExchanges tells state notes asks (keeping_none first) last
      → IsLedger state total (IsUnused first) asks last → IsClosed start disk id base total (last.pass ∷ [])
      → IsBrokered tells state start disk id base total passes notes
  at_end first asks last one are w closed = record {
    first = first;
    one_pass = one;
    asks = asks;
    last = last;
    exchanges = are;
    told = all_told tells state notes asks (keeping_none first) last are;
    closed = closed;
    once = w.once;
    safe = λ k d l. both_of (block_in (get_or asks k d)) (w.backed k d l) (w.stored k d l);
    between = All-weaker (λ a. IfSome (block_in a) (IsBacked total last.pass)) (λ a. IfSome (block_in a) (LiesBetween base closed.ceiling))
        (λ a. if_weaker (IsBacked total last.pass) (LiesBetween base closed.ceiling) (lies start disk id base total last.pass closed) (block_in a)) asks w.backed;
    marked = All-weaker (λ a. IfSome (fault_in a) (IsMarkedFault (mark_of last.pass))) (λ a. IfSome (fault_in a) (IsMarkedFault closed.mark))
        (λ a. if_weaker (IsMarkedFault (mark_of last.pass)) (IsMarkedFault closed.mark) (marked_at start disk id base total last.pass closed) (fault_in a)) asks w.marked;
    one_fault = let a = w.faults in let b = one_met start disk id base total last.pass closed in omega (arith, a, b);
    out = λ f. All-weaker (λ a. IfSome (out_in a) (λ o. IsReached last.pass (sum_by units_for asks) o.at (units_for a)))
        (λ a. IfSome (out_in a) (λ o. o.at ≤ base + (sum_by units_for asks - units_for a)))
        (λ a. if_weaker (λ o. IsReached last.pass (sum_by units_for asks) o.at (units_for a)) (λ o. o.at ≤ base + (sum_by units_for asks - units_for a))
        (λ o is. reached_last base o.at (units_for a) (units_drawn (entries_of last.pass)) (sum_by units_for asks) (greatest_end 0 (entries_of last.pass)) is
        (low_reach start disk id base total last.pass closed)) (out_in a)) asks (w.out f);
    most = λ f. most_of base total closed.ceiling (units_drawn (entries_of last.pass)) (sum_by units_for asks) (w.drawn f)
        (most_drawn start disk id base total last.pass closed);
  } where
    both_of : (o : Option Block) → IfSome o (IsBacked total last.pass) → IfSome o (λ b. WasStored state (b.start + b.count)) → IfSome o (IsSafeBlock state base total)
    both_of None back stored = tt
    both_of (Some b) back stored =
        record { between = ((lies start disk id base total last.pass closed b back).0, back.within); stored = stored }

  pub brokered : (now : List Pass) → All (λ p. p.total ≡ total) passes → IsService tells state passes now notes → IsClosed start disk id base total now
      → IsBrokered tells state start disk id base total passes notes
  brokered now own served closed =
      let first_own : served.first.total ≡ total =
      subst (All (λ p. p.total ≡ total)) served.one_pass own 0 served.first (omega arith) in
      at_end served.first served.exchanges.0 served.last served.one_pass served.exchanges.1
      (ledger_of tells state total (IsUnused served.first) notes [] served.exchanges.0 (keeping_none served.first) served.last
      (none_asked state total served.first first_own) served.exchanges.1)
      (subst (IsClosed start disk id base total) served.still_one closed)
