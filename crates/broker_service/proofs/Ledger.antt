-- What holds of all that was asked for and granted so far, and what one more want adds.
use Rattle.std.proofs.Common.{◌≡◌, ℕ, ◌+◌, ◌≤◌, ◌⊎◌, inl, inr, ⊎_elim, List, [], ◌∷◌, ◌++◌, sym, ap, ◌∙◌, subst, arith, All, Contains, Option, None, Some, IfSome}
use Rattle.std.specs.List.{AllPairs, sum_by}
use Rattle.std.proofs.lemmas.List.Elements.{All-push, All-weaker, Contains-append_left, Contains-push}
use Rattle.std.proofs.lemmas.List.Quantifiers.{all_pairs_push}
use Rattle.std.proofs.lemmas.List.Sums.{sum_by_push}
use Rattle.std.proofs.lemmas.Option.{none-some}
use Rattle.zk_model.specs.declared.messages.Block.{Block}
use Rattle.zk_port.specs.Disks.{DiskState}
use Rattle.lease_words.specs.Calls.{entries_of, greatest_end, known_of, mark_of, met_of}
use Rattle.lease_words.specs.Views.{units_drawn}
use Rattle.lease_words.specs.declared.fault.Exhausted.{Exhausted as Refusal}
use Rattle.lease_words.specs.declared.pass.Pass.{Pass}
use Rattle.lease_words.specs.declared.view.Entry.{Entry}
use Rattle.lease_store.specs.Stops.{WasStored}
use Rattle.lease_store.specs.declared.LeaseFault.{LeaseFault}
use Rattle.lease_store.specs.declared.LeaseFault.TheVariants.{Exhausted, Device, Broken}
use Rattle.session_pool.specs.Notes.{IsUnused}
use Rattle.broker_core.specs.Leases.{kept_of}
use Rattle.broker_core.specs.Messages.{block_of}
use Rattle.broker_core.specs.declared.message.Kept.{Kept}
use Rattle.broker_core.proofs.Lists.{default_at}
use Rattle.broker_links.specs.Answers.{Asked}
use Rattle.broker_service.specs.Granted.{AreOneOrApart, IsMarkedFault, block_in, fault_in, faults_met, meets_fault, out_in, units_for}
use Rattle.broker_service.specs.Left.{keeping_none}
use Rattle.broker_service.specs.Turns.{Keeping}

-- a Block is of an entry of the pass, and ends where the pass knows that it may, and within the total
pub record IsBacked (total : ℕ) (p : Pass) (b : Block) : Type 0 where
  pub entry : Entry
  pub among : Contains (entries_of p) entry
  pub start : b.start ≡ entry.start
  pub count : b.count ≡ entry.count
  pub known : b.start + b.count ≤ known_of p
  pub within : b.start + b.count ≤ total

-- one of these was answered by this Block
abbrev pub IsAmong : List (Asked LeaseFault) → Block → Type 0
IsAmong asks b = (a : Asked LeaseFault) × Contains asks a × (block_in a ≡ Some b)

-- so many units refused from a place on end at or below the greatest end of what was drawn, or above by no more than what wants asked for and
-- nobody drew
abbrev pub IsReached : Pass → ℕ → ℕ → ℕ → Type 0
IsReached p asked at own = at + own + units_drawn (entries_of p) ≤ greatest_end 0 (entries_of p) + asked

-- what a broker keeps is what it answered; and so on
pub record IsLedger {B : Type 0} (state : B → DiskState) (total : ℕ) (fresh : Type 0) (asks : List (Asked LeaseFault)) (s : Keeping) : Type 0 where
  pub own : s.pass.total ≡ total
  pub kept : (node : ℕ) (k : Kept) → kept_of s.kept node ≡ Some k → IsAmong asks (block_of node k.number k.span)
  pub backed : All (λ a. IfSome (block_in a) (IsBacked total s.pass)) asks
  pub once : AllPairs (λ a b. AreOneOrApart (block_in a) (block_in b)) asks
  pub stored : All (λ a. IfSome (block_in a) (λ b. WasStored state (b.start + b.count))) asks
  pub marked : All (λ a. IfSome (fault_in a) (IsMarkedFault (mark_of s.pass))) asks
  pub faults : faults_met asks ≤ met_of s.pass
  pub drawn : fresh → units_drawn (entries_of s.pass) ≤ sum_by units_for asks
  pub out : fresh → All (λ a. IfSome (out_in a) (λ o. IsReached s.pass (sum_by units_for asks) o.at (units_for a))) asks
  pub refused : fresh → (e : Refusal) → s.pass.kept ≡ Some e → IsReached s.pass (sum_by units_for asks) e.at 0

pub none_asked : {B : Type 0} (state : B → DiskState) (total : ℕ) (p : Pass) → p.total ≡ total → IsLedger state total (IsUnused p) [] (keeping_none p)
none_asked state total p own = record {
  own = own;
  kept = λ node k is. absurd (none-some k (sym (default_at 1024 node None) ∙ is));
  backed = λ k d l. absurd (omega (arith, l));
  once = λ i j d h l. absurd (omega (arith, l));
  stored = λ k d l. absurd (omega (arith, l));
  marked = λ k d l. absurd (omega (arith, l));
  faults = omega arith;
  drawn = λ f. let e = ap units_drawn f.1 in omega (arith, e);
  out = λ f k d l. absurd (omega (arith, l));
  refused = λ f e is. absurd (none-some e (sym f.0 ∙ is));
}

-- a pass goes on, and draws so many units at most
pub record DrawsOn (p q : Pass) (units : ℕ) : Type 0 where
  pub total : q.total ≡ p.total
  pub entries : (e : Entry) → Contains (entries_of p) e → Contains (entries_of q) e
  pub known : known_of p ≤ known_of q
  pub mark : (mark_of p ≡ 0) ⊎ (mark_of q ≡ mark_of p)
  pub drawn : units_drawn (entries_of q) ≤ units_drawn (entries_of p) + units
  pub further : greatest_end 0 (entries_of p) ≤ greatest_end 0 (entries_of q)

-- what one more want adds
pub record IsAdded {B : Type 0} (state : B → DiskState) (total : ℕ) (fresh : Type 0) (asks : List (Asked LeaseFault)) (a : Asked LeaseFault) (old new : Keeping) : Type 0 where
  pub draws : DrawsOn old.pass new.pass (units_for a)
  pub kept : (node : ℕ) (k : Kept) → kept_of new.kept node ≡ Some k
      → (kept_of old.kept node ≡ Some k) ⊎ (block_in a ≡ Some (block_of node k.number k.span))
  pub backed : IfSome (block_in a) (IsBacked total new.pass)
  pub apart : All (λ b. AreOneOrApart (block_in b) (block_in a)) asks
  pub stored : IfSome (block_in a) (λ b. WasStored state (b.start + b.count))
  pub marked : IfSome (fault_in a) (IsMarkedFault (mark_of new.pass))
  pub faults : meets_fault (fault_in a) + met_of old.pass ≤ met_of new.pass
  pub out : fresh → IfSome (out_in a) (λ o. IsReached new.pass (sum_by units_for asks + units_for a) o.at (units_for a))
  pub refused : fresh → (e : Refusal) → new.pass.kept ≡ Some e → IsReached new.pass (sum_by units_for asks + units_for a) e.at 0

pub if_weaker : {X : Type 0} (P Q : X → Type 0) → ((x : X) → P x → Q x) → (o : Option X) → IfSome o P → IfSome o Q
if_weaker P Q f None h = tt
if_weaker P Q f (Some x) h = f x h

-- a mark that stays
pub mark_stays : (m n : ℕ) → (m ≡ 0) ⊎ (n ≡ m) → (fault : LeaseFault) → IsMarkedFault m fault → IsMarkedFault n fault
mark_stays m n (inl none) (Exhausted at count total) is = is
mark_stays m n (inl none) Device is = absurd (is none)
mark_stays m n (inl none) (Broken first) is = absurd (is.0 none)
mark_stays m n (inr same) fault is = subst (λ (x : ℕ). IsMarkedFault x fault) (sym same) is

module _ {B : Type 0} (state : B → DiskState) (total : ℕ) (fresh : Type 0) (asks : List (Asked LeaseFault)) (a : Asked LeaseFault) (old new : Keeping)
    (w : IsLedger state total fresh asks old) (s : IsAdded state total fresh asks a old new) where
  abbrev Now : List (Asked LeaseFault)
  Now = asks ++ a ∷ []

  asked_now : sum_by units_for Now ≡ sum_by units_for asks + units_for a
  asked_now = sum_by_push units_for asks a

  backed_on : (b : Block) → IsBacked total old.pass b → IsBacked total new.pass b
  backed_on b is = record {
    entry = is.entry;
    among = s.draws.entries is.entry is.among;
    start = is.start;
    count = is.count;
    known = let x = is.known in let y = s.draws.known in omega (arith, x, y);
    within = is.within;
  }

  among_now : (b : Block) → IsAmong asks b → IsAmong Now b
  among_now b is = (is.0, Contains-append_left asks (a ∷ []) is.0 is.1, is.2)

  reached_on : (at own : ℕ) → IsReached old.pass (sum_by units_for asks) at own → IsReached new.pass (sum_by units_for Now) at own
  reached_on at own is = let x = s.draws.drawn in let y = s.draws.further in let z = asked_now in omega (arith, is, x, y, z)

  reached_now : (at own : ℕ) → IsReached new.pass (sum_by units_for asks + units_for a) at own → IsReached new.pass (sum_by units_for Now) at own
  reached_now at own is = let z = asked_now in omega (arith, is, z)

  pub ledger_pushed : IsLedger state total fresh (asks ++ a ∷ []) new
  ledger_pushed = record {
    own = s.draws.total ∙ w.own;
    kept = λ node k is. ⊎_elim
        (λ (x : kept_of old.kept node ≡ Some k). among_now (block_of node k.number k.span) (w.kept node k x))
        (λ (x : block_in a ≡ Some (block_of node k.number k.span)). (a, Contains-push asks a, x)) (s.kept node k is);
    backed = All-push (λ b. IfSome (block_in b) (IsBacked total new.pass)) asks a
        (All-weaker (λ b. IfSome (block_in b) (IsBacked total old.pass)) (λ b. IfSome (block_in b) (IsBacked total new.pass))
        (λ b. if_weaker (IsBacked total old.pass) (IsBacked total new.pass) backed_on (block_in b)) asks w.backed) s.backed;
    once = all_pairs_push (λ x y. AreOneOrApart (block_in x) (block_in y)) asks a w.once s.apart;
    stored = All-push (λ x. IfSome (block_in x) (λ b. WasStored state (b.start + b.count))) asks a w.stored s.stored;
    marked = All-push (λ x. IfSome (fault_in x) (IsMarkedFault (mark_of new.pass))) asks a
        (All-weaker (λ x. IfSome (fault_in x) (IsMarkedFault (mark_of old.pass))) (λ x. IfSome (fault_in x) (IsMarkedFault (mark_of new.pass)))
        (λ x. if_weaker (IsMarkedFault (mark_of old.pass)) (IsMarkedFault (mark_of new.pass)) (mark_stays (mark_of old.pass) (mark_of new.pass) s.draws.mark) (fault_in x))
        asks w.marked) s.marked;
    faults = let x = w.faults in let y = s.faults in let z = sum_by_push (λ (x : Asked LeaseFault). meets_fault (fault_in x)) asks a in omega (arith, x, y, z);
    drawn = λ f. let x = w.drawn f in let y = s.draws.drawn in let z = asked_now in omega (arith, x, y, z);
    out = λ f. All-push (λ x. IfSome (out_in x) (λ o. IsReached new.pass (sum_by units_for Now) o.at (units_for x))) asks a
        (All-weaker (λ x. IfSome (out_in x) (λ o. IsReached old.pass (sum_by units_for asks) o.at (units_for x)))
        (λ x. IfSome (out_in x) (λ o. IsReached new.pass (sum_by units_for Now) o.at (units_for x)))
        (λ x. if_weaker (λ o. IsReached old.pass (sum_by units_for asks) o.at (units_for x)) (λ o. IsReached new.pass (sum_by units_for Now) o.at (units_for x))
        (λ o. reached_on o.at (units_for x)) (out_in x)) asks (w.out f))
        (if_weaker (λ o. IsReached new.pass (sum_by units_for asks + units_for a) o.at (units_for a)) (λ o. IsReached new.pass (sum_by units_for Now) o.at (units_for a))
        (λ o. reached_now o.at (units_for a)) (out_in a) (s.out f));
    refused = λ f e is. reached_now e.at 0 (s.refused f e is);
  }
