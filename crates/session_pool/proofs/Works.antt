-- One more note, and the notes of two workers together.
use Rattle.std.proofs.Common.{◌≡◌, ◌≢◌, ℕ, ◌+◌, ◌<◌, ◌≤◌, max, ◌⊎◌, inl, inr, ⊎_elim, List, [], ◌∷◌, ◌++◌, length, refl, sym, ap, ◌∙◌, subst, arith, All, Contains, Option, None, Some, IfSome, Result, Ok, Err, length-append}
use Rattle.std.specs.Prelude.{MatchOption}
use Rattle.std.specs.List.{sum_by}
use Rattle.std.proofs.lemmas.List.{get_or_append_left, get_or-append-add}
use Rattle.std.proofs.lemmas.List.Sums.{sum_by_push, sum_by-append}
use Rattle.std.proofs.lemmas.List.Elements.{All-push, All-append, All-weaker}
use Rattle.atomic_table.specs.Seated.{TableId}
use Rattle.zk_model.specs.declared.Span.{Span}
use Rattle.zk_model.specs.declared.limits.TheConstants.{MAX_UNITS}
use Rattle.lease_words.specs.Views.{entry, end_of, inside, times_drawn, units_drawn}
use Rattle.lease_words.specs.Calls.{seen, entries_of, known_of, mark_of, met_of, number_of, greatest_end, IsExhausted}
use Rattle.lease_words.specs.declared.fault.Exhausted.{Exhausted as Refusal}
use Rattle.lease_words.specs.declared.pass.Pass.{Pass}
use Rattle.lease_words.specs.declared.view.Entry.{Entry}
use Rattle.lease_store.specs.Leases.{PassGoesOn, IsPassAt}
use Rattle.lease_store.specs.declared.grantor.GrantFault.{GrantFault}
use Rattle.lease_store.specs.declared.LeaseFault.TheVariants as lease
use Rattle.lease_store.specs.declared.grantor.GrantFault.TheVariants as grant
use Rattle.session_pool.specs.Notes.{granted_by, Lends, IsOfStore, IsSessionServed, IsMarked, TellsMark, meets_fault}
use Rattle.session_pool.specs.Works.{counts_unit, IsUpTo, IsReachedBy, IsPoolReached, AllowsMark, IsWork, IsRefusalKept, IsWorker, IsShiftOf}

-- ---- facts that stay

pub upto_more : (units total k l : ℕ) → k ≤ l → (g : Option Span) → IsUpTo units total k g → IsUpTo units total l g
upto_more units total k l h None u = tt
upto_more units total k l h (Some s) u = (u.0, u.1, omega (arith, u.2), u.3)

marked_now : (n mark : ℕ) → (n ≡ 0) ⊎ (n ≡ mark) → n ≢ 0 → n ≡ mark
marked_now n mark h some = ⊎_elim (λ (x : n ≡ 0). absurd (some x)) (λ (x : n ≡ mark). x) h

allowed_before : (m n mark : ℕ) → (m ≡ 0) ⊎ (n ≡ m) → (n ≡ 0) ⊎ (n ≡ mark) → (m ≡ 0) ⊎ (m ≡ mark)
allowed_before m n mark stays allows = ⊎_elim (λ (x : m ≡ 0). inl x)
    (λ (x : n ≡ m). ⊎_elim (λ (y : n ≡ 0). inl (sym x ∙ y)) (λ (y : n ≡ mark). inr (sym x ∙ y)) allows) stays

reached_by_more : (units own more total reach far drawn rest taken all : ℕ) → reach ≤ far → more + rest + taken ≤ own + drawn + all
    → (fault : GrantFault) → IsReachedBy units own total reach drawn taken fault → IsReachedBy units more total far rest all fault
reached_by_more units own more total reach far drawn rest taken all high spare (grant.Lease (lease.Exhausted at count limit)) u =
    let ends = u.0 in let last = u.4 in (omega (arith, high, ends), u.1, u.2, u.3, omega (arith, high, spare, last))
reached_by_more units own more total reach far drawn rest taken all high spare (grant.Lease lease.Device) u = tt
reached_by_more units own more total reach far drawn rest taken all high spare (grant.Lease (lease.Broken first)) u = tt
reached_by_more units own more total reach far drawn rest taken all high spare grant.NoMemory u = u
reached_by_more units own more total reach far drawn rest taken all high spare (grant.NoBlock wants) u = u
reached_by_more units own more total reach far drawn rest taken all high spare grant.Broker u = u

-- among more entries and notes, which take more by as much as is drawn
pub reached_more : {M : Type 0} (size : M → ℕ) (total own more : ℕ) (d e : List Entry) (xs ys : List M)
    → greatest_end 0 d ≤ greatest_end 0 e → more + units_drawn e + sum_by size xs ≤ own + units_drawn d + sum_by size ys
    → ((x : M) → Contains xs x → Contains ys x) → (fault : GrantFault)
    → IsPoolReached size total d xs own fault → IsPoolReached size total e ys more fault
reached_more size total own more d e xs ys high spare keeps fault r = record {
  drawer = r.drawer;
  among = keeps r.drawer r.among;
  least = r.least;
  most = r.most;
  reached = reached_by_more (size r.drawer) own more total (greatest_end 0 d) (greatest_end 0 e) (units_drawn d) (units_drawn e)
      (sum_by size xs) (sum_by size ys) high spare fault r.reached;
}

pub if_weaker : {X : Type 0} (P Q : X → Type 0) → ((x : X) → P x → Q x) → (o : Option X) → IfSome o P → IfSome o Q
if_weaker P Q f None h = tt
if_weaker P Q f (Some x) h = f x h

-- an element stands in what a list is put together of
contains_left : {M : Type 0} (xs ys : List M) (x : M) → Contains xs x → Contains (xs ++ ys) x
contains_left xs ys x c = (c.0, (let a = length-append xs ys in let b = c.1 in omega (arith, a, b)), get_or_append_left xs ys x c.0 c.1 ∙ c.2)

contains_right : {M : Type 0} (xs ys : List M) (y : M) → Contains ys y → Contains (xs ++ ys) y
contains_right xs ys y c =
    (length xs + c.0, (let a = length-append xs ys in let b = c.1 in omega (arith, a, b)), get_or-append-add xs ys c.0 y ∙ c.2)

contains_last : {M : Type 0} (xs : List M) (x : M) → Contains (xs ++ x ∷ []) x
contains_last xs x = contains_right xs (x ∷ []) x (0, omega arith, refl)

pub greatest_append : (xs ys : List Entry) → greatest_end 0 (xs ++ ys) ≡ max (greatest_end 0 xs) (greatest_end 0 ys)
greatest_append [] ys = omega arith
greatest_append (x ∷ xs) ys = let i = greatest_append xs ys in omega (arith, i)

-- ---- one more note

-- what one session adds
pub record IsStep {M : Type 0} (fresh : Type 0) (size : M → ℕ) (total : ℕ) (d e : List Entry) (k l : ℕ) (Before Now : ℕ → Type 0) (notes : List M) (x : M)
    (granted : Option Span) (refused : Option GrantFault) : Type 0 where
  pub once : (unit : ℕ) → times_drawn unit d + counts_unit granted unit ≤ times_drawn unit e
  pub higher : k ≤ l
  pub upto : IsUpTo (size x) total l granted
  pub stays : (mark : ℕ) → Now mark → Before mark
  pub marked : (mark : ℕ) → Now mark → IsMarked mark refused × TellsMark mark refused
  pub drawn : units_drawn e ≤ units_drawn d + size x
  pub further : greatest_end 0 d ≤ greatest_end 0 e
  pub reached : fresh → IfSome refused (IsPoolReached size total e (notes ++ x ∷ []) (size x))

module _ {M : Type 0} (granted : M → Option Span) (refused : M → Option GrantFault) (is_note : M → Type 0) (fresh : Type 0) (size : M → ℕ) (total : ℕ) where
  -- what each note of a list is refused by
  abbrev Reached : List Entry → List M → M → Type 0
  Reached entries notes m = IfSome (refused m) (IsPoolReached size total entries notes (size m))

  reached_on : (d e : List Entry) (xs ys : List M) → greatest_end 0 d ≤ greatest_end 0 e → units_drawn e + sum_by size xs ≤ units_drawn d + sum_by size ys
      → ((x : M) → Contains xs x → Contains ys x) → (zs : List M) → All (Reached d xs) zs → All (Reached e ys) zs
  reached_on d e xs ys high spare keeps zs = All-weaker (Reached d xs) (Reached e ys)
      (λ m. if_weaker (IsPoolReached size total d xs (size m)) (IsPoolReached size total e ys (size m))
      (reached_more size total (size m) (size m) d e xs ys high (omega (arith, spare)) keeps) (refused m)) zs

  pub pushed : (d e : List Entry) (k l : ℕ) (Before Now : ℕ → Type 0) (notes : List M) (x : M)
      → IsWork granted refused is_note fresh size total d k Before notes → is_note x
      → IsStep fresh size total d e k l Before Now notes x (granted x) (refused x)
      → IsWork granted refused is_note fresh size total e l Now (notes ++ x ∷ [])
  pushed d e k l Before Now notes x w is s = record {
    rightly = All-push is_note notes x w.rightly is;
    once = λ unit. let a = w.once unit in let b = s.once unit in omega (arith, sum_by_push (λ (y : M). counts_unit (granted y) unit) notes x, a, b);
    upto = All-push (λ y. IsUpTo (size y) total l (granted y)) notes x
        (All-weaker (λ y. IsUpTo (size y) total k (granted y)) (λ y. IsUpTo (size y) total l (granted y)) (λ y. upto_more (size y) total k l s.higher (granted y)) notes w.upto) s.upto;
    marked = λ mark now. All-push (λ y. IsMarked mark (refused y) × TellsMark mark (refused y)) notes x (w.marked mark (s.stays mark now)) (s.marked mark now);
    drawn = λ f. let a = w.drawn f in let b = s.drawn in let c = sum_by_push size notes x in omega (arith, a, b, c);
    reached = λ f. let b = s.drawn in let c = sum_by_push size notes x in
        All-push (Reached e (notes ++ x ∷ [])) notes x
        (reached_on d e notes (notes ++ x ∷ []) s.further (omega (arith, b, c)) (contains_left notes (x ∷ [])) notes (w.reached f)) (s.reached f);
  }

  -- two workers together
  pub joined : (d e : List Entry) (k l : ℕ) (First Second Both : ℕ → Type 0) (xs ys : List M)
      → ((mark : ℕ) → Both mark → First mark × Second mark)
      → IsWork granted refused is_note fresh size total d k First xs → IsWork granted refused is_note fresh size total e l Second ys
      → IsWork granted refused is_note fresh size total (d ++ e) (max k l) Both (xs ++ ys)
  joined d e k l First Second Both xs ys parts v w = record {
    rightly = All-append is_note xs ys v.rightly w.rightly;
    once = λ unit. let a = v.once unit in let b = w.once unit in
        omega (arith, sum_by-append (λ (y : M). counts_unit (granted y) unit) xs ys, sum_by-append (λ (z : Entry). inside z.start (end_of z) unit) d e, a, b);
    upto = All-append (λ y. IsUpTo (size y) total (max k l) (granted y)) xs ys
        (All-weaker (λ y. IsUpTo (size y) total k (granted y)) (λ y. IsUpTo (size y) total (max k l) (granted y)) (λ y. upto_more (size y) total k (max k l) (omega arith) (granted y)) xs v.upto)
        (All-weaker (λ y. IsUpTo (size y) total l (granted y)) (λ y. IsUpTo (size y) total (max k l) (granted y)) (λ y. upto_more (size y) total l (max k l) (omega arith) (granted y)) ys w.upto);
    marked = λ mark both. let p = parts mark both in
        All-append (λ y. IsMarked mark (refused y) × TellsMark mark (refused y)) xs ys (v.marked mark p.0) (w.marked mark p.1);
    drawn = λ f. let a = v.drawn f in let b = w.drawn f in let c = sum_by-append (λ (z : Entry). z.count) d e in let n = sum_by-append size xs ys in omega (arith, a, b, c, n);
    reached = λ f. let g = greatest_append d e in let a = v.drawn f in let b = w.drawn f in
        let c = sum_by-append (λ (z : Entry). z.count) d e in let n = sum_by-append size xs ys in
        All-append (Reached (d ++ e) (xs ++ ys)) xs ys
        (reached_on d (d ++ e) xs (xs ++ ys) (omega (arith, g)) (omega (arith, b, c, n)) (contains_left xs ys) xs (v.reached f))
        (reached_on e (d ++ e) ys (xs ++ ys) (omega (arith, g)) (omega (arith, a, c, n)) (contains_right xs ys) ys (w.reached f));
  }

-- ---- what a lease adds

abbrev Causes : Option (Result Span GrantFault) → Option GrantFault → Type 0
Causes answer o = IfSome o (λ fault. answer ≡ Some (Err fault))

same_refusal : (P : GrantFault → Type 0) (one other : GrantFault)
    → ◌≡◌ {A = Option (Result Span GrantFault)} (Some (Err one)) (Some (Err other)) → P one → P other
same_refusal P one other is h = let same : one ≡ other = cc in subst P same h

same_kept : (P : Refusal → Type 0) (k e : Refusal) → Some k ≡ Some e → P k → P e
same_kept P k e is h = let same : k ≡ e = cc in subst P same h

marked_by : (answer : Option (Result Span GrantFault)) (n mark : ℕ) (o : Option GrantFault) → IsOfStore answer → Causes answer o → (n ≡ 0) ⊎ (n ≡ mark)
    → (answer ≡ Some (Err (grant.Lease lease.Device)) → n ≢ 0) → ((first : ℕ) → answer ≡ Some (Err (grant.Lease (lease.Broken first))) → (n ≢ 0) × (n ≡ first))
    → IsMarked mark o × TellsMark mark o
marked_by answer n mark None of e h f g = (tt, tt)
marked_by answer n mark (Some (grant.Lease (lease.Exhausted at count all))) of e h f g = (tt, tt)
marked_by answer n mark (Some (grant.Lease lease.Device)) of e h f g = let some = f e in let same : n ≡ mark = marked_now n mark h some in ((λ (x : mark ≡ 0). some (same ∙ x)), tt)
marked_by answer n mark (Some (grant.Lease (lease.Broken first))) of e h f g =
    let was = g first e in let same : n ≡ mark = marked_now n mark h was.0 in ((λ (x : mark ≡ 0). was.0 (same ∙ x)), sym was.1 ∙ same)
marked_by answer n mark (Some grant.NoMemory) of e h f g = absurd (subst IsOfStore e of)
marked_by answer n mark (Some (grant.NoBlock wants)) of e h f g = absurd (subst IsOfStore e of)
marked_by answer n mark (Some grant.Broker) of e h f g = absurd (subst IsOfStore e of)

caused_by : (P : GrantFault → Type 0) (answer : Option (Result Span GrantFault)) (o : Option GrantFault) → Causes answer o
    → ((fault : GrantFault) → answer ≡ Some (Err fault) → P fault) → IfSome o P
caused_by P answer None e f = tt
caused_by P answer (Some fault) e f = f fault e

-- an entry of so many units behind these
record IsMore (d e : List Entry) (start units : ℕ) : Type 0 where
  once : (unit : ℕ) → times_drawn unit e ≡ times_drawn unit d + inside start (start + units) unit
  drawn : units_drawn e ≡ units_drawn d + units
  further : greatest_end 0 d ≤ greatest_end 0 e
  reached : start + units ≤ greatest_end 0 e

is_more : (d e : List Entry) (number start units : ℕ) → e ≡ d ++ entry number start units ∷ [] → IsMore d e start units
is_more d e number start units is = subst (λ (x : List Entry). IsMore d x start units) (sym is) (record {
  once = λ unit. sum_by_push (λ (z : Entry). inside z.start (end_of z) unit) d (entry number start units);
  drawn = sum_by_push (λ (z : Entry). z.count) d (entry number start units);
  further = let g = greatest_append d (entry number start units ∷ []) in omega (arith, g);
  reached = let g = greatest_append d (entry number start units ∷ []) in omega (arith, g);
})

no_units : (g : Option Span) (unit : ℕ) → g ≡ None → counts_unit g unit ≡ 0
no_units g unit is = ap (λ (x : Option Span). counts_unit x unit) is

module _ {M : Type 0} (fresh : Type 0) (size : M → ℕ) (total : ℕ) (notes : List M) (x : M) (p q : Pass) (within : p.total ≡ total) (goes : PassGoesOn p q)
    (drawn : fresh → units_drawn (entries_of p) ≤ sum_by size notes) (kept : IsRefusalKept fresh size total notes p) where
  abbrev Adds : Option Span → Option GrantFault → Type 0
  Adds g o = IsStep fresh size total (entries_of p) (entries_of q) (known_of p) (known_of q) (AllowsMark p) (AllowsMark q) notes x g o
      × IsRefusalKept fresh size total (notes ++ x ∷ []) q

  -- refused units among these entries, by a session that takes so many itself
  abbrev Refuses : ℕ → GrantFault → Type 0
  Refuses = IsPoolReached size total (entries_of q) (notes ++ x ∷ [])

  abbrev Sized : Type 0
  Sized = (1 ≤ size x) × (size x ≤ MAX_UNITS)

  -- a refusal that was drawn before, where nothing was drawn since
  stays_refused : entries_of q ≡ entries_of p → (own : ℕ) → own ≤ size x → (fault : GrantFault)
      → IsPoolReached size total (entries_of p) notes 0 fault → Refuses own fault
  stays_refused same own few = let a = ap units_drawn same in let b = ap (greatest_end 0) same in let c = sum_by_push size notes x in
      reached_more size total 0 own (entries_of p) (entries_of q) notes (notes ++ x ∷ []) (omega (arith, b)) (omega (arith, a, c, few)) (contains_left notes (x ∷ []))

  -- one of the session's own units
  own_refused : Sized → (own : ℕ) (fault : GrantFault)
      → IsReachedBy (size x) own total (greatest_end 0 (entries_of q)) (units_drawn (entries_of q)) (sum_by size (notes ++ x ∷ [])) fault → Refuses own fault
  own_refused sized own fault by = record { drawer = x; among = contains_last notes x; least = sized.0; most = sized.1; reached = by }

  -- nothing was drawn
  same_step : (answer : Option (Result Span GrantFault)) (g : Option Span) (o : Option GrantFault) → g ≡ None → IsOfStore answer → Causes answer o
      → entries_of q ≡ entries_of p → (q.kept ≡ p.kept)
      → ((first : ℕ) → answer ≡ Some (Err (grant.Lease (lease.Broken first))) → ⊥) → (answer ≡ Some (Err (grant.Lease lease.Device)) → ⊥)
      → (fresh → (fault : GrantFault) → answer ≡ Some (Err fault) → IsPoolReached size total (entries_of p) notes 0 fault) → Adds g o
  same_step answer g o none of cause same also no_broken no_device refused = (
    record {
      once = λ unit. let a = ap (times_drawn unit) same in let b = no_units g unit none in omega (arith, a, b);
      higher = goes.known;
      upto = subst (IsUpTo (size x) total (known_of q)) (sym none) tt;
      stays = λ mark now. allowed_before (mark_of p) (mark_of q) mark goes.mark now;
      marked = λ mark now. marked_by answer (mark_of q) mark o of cause now (λ e. absurd (no_device e)) (λ f e. absurd (no_broken f e));
      drawn = let a = ap units_drawn same in omega (arith, a);
      further = let a = ap (greatest_end 0) same in omega (arith, a);
      reached = λ f. caused_by (Refuses (size x)) answer o cause (λ fault e. stays_refused same (size x) (omega arith) fault (refused f fault e));
    },
    λ f e is. stays_refused same 0 (omega arith) (grant.Lease (lease.Exhausted e.at e.count e.total)) (kept f e (sym also ∙ is)),
  )

  -- units were drawn, and are not granted
  burnt_step : (answer : Option (Result Span GrantFault)) (g : Option Span) (o : Option GrantFault) (start : ℕ) → g ≡ None → IsOfStore answer → Causes answer o
      → IsMore (entries_of p) (entries_of q) start (size x)
      → (answer ≡ Some (Err (grant.Lease lease.Device)) → mark_of q ≢ 0) → ((first : ℕ) → answer ≡ Some (Err (grant.Lease (lease.Broken first))) → (mark_of q ≢ 0) × (mark_of q ≡ first))
      → (fresh → (fault : GrantFault) → answer ≡ Some (Err fault) → Refuses (size x) fault) → IsRefusalKept fresh size total (notes ++ x ∷ []) q → Adds g o
  burnt_step answer g o start none of cause more device broken refused kept_now = (
    record {
      once = λ unit. let a = more.once unit in let b = no_units g unit none in omega (arith, a, b);
      higher = goes.known;
      upto = subst (IsUpTo (size x) total (known_of q)) (sym none) tt;
      stays = λ mark now. allowed_before (mark_of p) (mark_of q) mark goes.mark now;
      marked = λ mark now. marked_by answer (mark_of q) mark o of cause now device broken;
      drawn = let a = more.drawn in omega (arith, a);
      further = more.further;
      reached = λ f. caused_by (Refuses (size x)) answer o cause (refused f);
    },
    kept_now,
  )

  free_keeps : q.kept ≡ None → IsRefusalKept fresh size total (notes ++ x ∷ []) q
  free_keeps free f e is = absurd (none_some e (sym free ∙ is)) where
    none_some : (e : Refusal) → None ≡ Some e → ⊥
    none_some e z = cc

  -- the session's own draw ends above the total
  short_now : (at n all own : ℕ) → IsMore (entries_of p) (entries_of q) at (size x) → n ≡ size x → all ≡ total → total < at + n → own ≤ size x
      → Sized → fresh → Refuses own (grant.Lease (lease.Exhausted at n all))
  short_now at n all own more count_is all_is above few sized f =
      let a = more.drawn in let b = more.reached in let c = sum_by_push size notes x in let d = drawn f in
      own_refused sized own (grant.Lease (lease.Exhausted at n all))
      (b, count_is, all_is, omega (arith, above, count_is), omega (arith, a, b, c, d, few))

  exhausted_step : (at n all : ℕ) (g : Option Span) (o : Option GrantFault) → g ≡ None → Causes (Some (Err (grant.Lease (lease.Exhausted at n all)))) o → Sized
      → q.kept ≡ Some (record { at = at; count = n; total = all })
      → (was : Option Refusal) → p.kept ≡ was
      → MatchOption was (IsExhausted p (size x) (record { at = at; count = n; total = all }) q) (λ k. (record { at = at; count = n; total = all } ≡ k) × (seen q ≡ seen p)) → Adds g o
  exhausted_step at n all g o none cause sized now None free refused =
      let more = is_more (entries_of p) (entries_of q) (number_of p) at (size x) (ap (λ v. v.entries) refused.0) in
      let above : total < at + n = (let a = refused.3 in omega (arith, a, within)) in
      burnt_step (Some (Err (grant.Lease (lease.Exhausted at n all)))) g o at none tt cause more
      (λ z. (cc)) (λ first z. (cc))
      (λ f fault is. same_refusal (Refuses (size x)) (grant.Lease (lease.Exhausted at n all)) fault is
      (short_now at n all (size x) more refused.1 (refused.2 ∙ within) above (omega arith) sized f))
      (λ f e is. same_kept (λ k. Refuses 0 (grant.Lease (lease.Exhausted k.at k.count k.total))) (record { at = at; count = n; total = all }) e (sym now ∙ is)
      (short_now at n all 0 more refused.1 (refused.2 ∙ within) above (omega arith) sized f))
  exhausted_step at n all g o none cause sized now (Some k) was same =
      same_step (Some (Err (grant.Lease (lease.Exhausted at n all)))) g o none tt cause (ap (λ v. v.entries) same.1) (now ∙ ap Some same.0 ∙ sym was)
      (λ first z. (cc)) (λ z. (cc))
      (λ f fault is. same_refusal (IsPoolReached size total (entries_of p) notes 0) (grant.Lease (lease.Exhausted at n all)) fault is
      (subst (λ (r : Refusal). IsPoolReached size total (entries_of p) notes 0 (grant.Lease (lease.Exhausted r.at r.count r.total))) (sym same.0) (kept f k was)))

  -- what one session adds, however it was answered
  pub step_of : (answer : Option (Result Span GrantFault)) (g : Option Span) (o : Option GrantFault) → g ≡ granted_by answer → Causes answer o
      → Lends p (size x) answer q → IfSome answer (λ _. Sized) → Adds g o
  step_of None g o is cause lends sized =
      same_step None g o is tt cause (ap entries_of lends) (ap (λ (r : Pass). r.kept) lends) (λ first z. (cc)) (λ z. (cc)) (λ f fault z. absurd (cc))
  step_of (Some (Ok s)) g o is cause lends sized =
      let more = is_more (entries_of p) (entries_of q) (number_of p) s.start (size x) lends.0.entry_is in
      let end_is : s.end ≡ s.start + size x = lends.1 in
      let upto : s.end ≤ known_of q = lends.2 in
      let some_units : 1 ≤ size x = sized.0 in
      let inside_total : s.start + size x ≤ p.total = lends.0.within in (
        record {
          once = λ unit. let a = more.once unit in let b : counts_unit g unit ≡ inside s.start s.end unit = ap (λ (r : Option Span). counts_unit r unit) is in
              let c : inside s.start s.end unit ≡ inside s.start (s.start + size x) unit = ap (λ (r : ℕ). inside s.start r unit) end_is in omega (arith, a, b, c);
          higher = goes.known;
          upto = subst (IsUpTo (size x) total (known_of q)) (sym is) (omega (arith, end_is, some_units), end_is, upto, omega (arith, end_is, inside_total, within));
          stays = λ mark now. allowed_before (mark_of p) (mark_of q) mark goes.mark now;
          marked = λ mark now. marked_by (Some (Ok s)) (mark_of q) mark o tt cause now (λ z. absurd (cc)) (λ first z. absurd (cc));
          drawn = let a = more.drawn in omega (arith, a);
          further = more.further;
          reached = λ f. caused_by (Refuses (size x)) (Some (Ok s)) o cause (λ fault z. absurd (cc));
        },
        free_keeps lends.0.is_free,
      )
  step_of (Some (Err (grant.Lease (lease.Exhausted at n all)))) g o is cause lends sized = exhausted_step at n all g o is cause sized lends.0 p.kept refl lends.1
  step_of (Some (Err (grant.Lease lease.Device))) g o is cause lends sized =
      burnt_step (Some (Err (grant.Lease lease.Device))) g o lends.1 is tt cause (is_more (entries_of p) (entries_of q) (number_of p) lends.1 (size x) lends.2.drawn.entry_is)
      (λ z. lends.2.marked) (λ first z. absurd (cc))
      (λ f fault z. same_refusal (Refuses (size x)) (grant.Lease lease.Device) fault z (own_refused sized (size x) (grant.Lease lease.Device) tt)) (free_keeps lends.2.drawn.is_free)
  step_of (Some (Err (grant.Lease (lease.Broken first)))) g o is cause lends sized =
      burnt_step (Some (Err (grant.Lease (lease.Broken first)))) g o lends.1 is tt cause (is_more (entries_of p) (entries_of q) (number_of p) lends.1 (size x) lends.2.drawn.entry_is)
      (λ z. absurd (cc)) (λ f z. let same : first ≡ f = cc in (lends.2.marked, lends.0 ∙ same))
      (λ f fault z. same_refusal (Refuses (size x)) (grant.Lease (lease.Broken first)) fault z (own_refused sized (size x) (grant.Lease (lease.Broken first)) tt)) (free_keeps lends.2.drawn.is_free)
  step_of (Some (Err grant.NoMemory)) g o is cause lends sized = absurd lends
  step_of (Some (Err (grant.NoBlock wants))) g o is cause lends sized = absurd lends
  step_of (Some (Err grant.Broker)) g o is cause lends sized = absurd lends

-- a session whose own lease the journal refused adds a fault to its pass
fault_step : (p q : Pass) (units : ℕ) (answer : Option (Result Span GrantFault)) (o : Option GrantFault) → Causes answer o → Lends p units answer q
    → met_of p ≤ met_of q → meets_fault o + met_of p ≤ met_of q
fault_step p q units answer None cause lends goes = omega (arith, goes)
fault_step p q units answer (Some (grant.Lease (lease.Exhausted at count all))) cause lends goes = omega (arith, goes)
fault_step p q units answer (Some (grant.Lease lease.Device)) cause lends goes =
    let told : Lends p units (Some (Err (grant.Lease lease.Device))) q = subst (λ (a : Option (Result Span GrantFault)). Lends p units a q) cause lends in
    let more = told.0 in omega (arith, more)
fault_step p q units answer (Some (grant.Lease (lease.Broken first))) cause lends goes = omega (arith, goes)
fault_step p q units answer (Some grant.NoMemory) cause lends goes = omega (arith, goes)
fault_step p q units answer (Some (grant.NoBlock wants)) cause lends goes = omega (arith, goes)
fault_step p q units answer (Some grant.Broker) cause lends goes = omega (arith, goes)

-- a pass goes on so only by a store's answer
of_store : (p q : Pass) (units : ℕ) (answer : Option (Result Span GrantFault)) → Lends p units answer q → IsOfStore answer
of_store p q units None lends = tt
of_store p q units (Some (Ok span)) lends = tt
of_store p q units (Some (Err (grant.Lease fault))) lends = tt
of_store p q units (Some (Err grant.NoMemory)) lends = lends
of_store p q units (Some (Err (grant.NoBlock wants))) lends = lends
of_store p q units (Some (Err grant.Broker)) lends = lends

-- ---- a worker behind one session

pub next_worker : {M : Type 0} (is_note : M → Type 0) (granted : M → Option Span) (refused : M → Option GrantFault) (fresh : Type 0) (size : M → ℕ) (table : TableId) (total : ℕ)
    (IsNote : Option (Result Span GrantFault) → M → Type 0) (session_granted : M → Option Span) (session_refused : M → Option GrantFault) (session_size : M → ℕ) (session_total : ℕ)
    (p q : Pass) (parts amount parts_now amount_now : ℕ) (notes kept_notes notes_now : List M) (x : M)
    → IsShiftOf is_note granted refused size total IsNote session_granted session_refused session_size session_total
    → IsWorker granted refused is_note fresh size table total p parts amount notes
    → IsPassAt table total q → PassGoesOn p q → IsSessionServed IsNote session_granted session_refused session_size x p q
    → parts_now ≡ parts → amount_now ≡ amount + 1 → kept_notes ≡ notes → notes_now ≡ kept_notes ++ x ∷ []
    → IsWorker granted refused is_note fresh size table total q parts_now amount_now notes_now
next_worker {M} is_note granted refused fresh size table total IsNote session_granted session_refused session_size session_total p q parts amount parts_now amount_now notes kept_notes notes_now x
    of w own goes served parts_is amount_is notes_stay notes_are =
    let size_is : session_size x ≡ size x = sym (of.size_is x) in
    let lends : Lends p (size x) served.answer q = subst (λ (n : ℕ). Lends p n served.answer q) size_is served.lends in
    let sized : IfSome served.answer (λ _. (1 ≤ size x) × (size x ≤ MAX_UNITS)) =
    subst (λ (n : ℕ). IfSome served.answer (λ _. (1 ≤ n) × (n ≤ MAX_UNITS))) size_is served.sized in
    let granted_is : granted x ≡ granted_by served.answer = of.granted_is x ∙ served.granted_is in
    let refused_is : IfSome (refused x) (λ fault. served.answer ≡ Some (Err fault)) =
    subst (λ (o : Option GrantFault). IfSome o (λ fault. served.answer ≡ Some (Err fault))) (sym (of.refused_is x)) served.refused_is in
    let step = step_of fresh size total notes x p q w.own.1 goes w.work.drawn w.kept served.answer (granted x) (refused x) granted_is refused_is lends sized in
    let len : length (notes ++ x ∷ []) ≡ length notes + 1 = length-append notes (x ∷ []) in
    rw (notes_are, notes_stay) (record {
      own = own;
      part = parts_is ∙ w.part;
      counted = let a = w.counted in omega (arith, amount_is, len, a);
      work = pushed granted refused is_note fresh size total (entries_of p) (entries_of q) (known_of p) (known_of q) (AllowsMark p) (AllowsMark q)
          notes x w.work (of.notes x (served.answer, of_store p q (session_size x) served.answer served.lends, served.is_note)) step.0;
      kept = step.1;
      faults = let a = w.faults in let b = sum_by_push (λ (y : M). meets_fault (refused y)) notes x in
          let c = fault_step p q (size x) served.answer (refused x) refused_is lends goes.met in omega (arith, a, b, c);
    })
