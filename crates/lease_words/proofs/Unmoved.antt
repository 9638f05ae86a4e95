-- Steps on the words that are no events of the machine.
use Rattle.std.proofs.Common.{◌≡◌, ◌≢◌, ℕ, suc, ◌+◌, ◌<◌, ⊎_elim, Bool, true, cond, List, [], ◌∷◌, ◌++◌, map, get_or, set, refl, sym, ap, ◌∙◌, subst, arith, nat_eq, All}
use Rattle.std.specs.List.{filter}
use Rattle.std.proofs.lemmas.List.Elements.{All-nil, All-cons, All-same, All-append, filter-append}
use Rattle.std.proofs.lemmas.List.{append-nil}
use Rattle.std.proofs.lemmas.Bool.{true≢false, eq-eqb, ne_eqb, cases_eq}
use Rattle.atomic_table.proofs.Lists.{set_else}
use mathlib.Core.Option.{some, some-injective}
use lib.ListN.{get_elem?}
use Rattle.lease_core.specs.Machine.{Machine}
use Rattle.lease_words.specs.Views.{report, reports_of, own, spent_view, IsPassView, after_marked, after_mark, after_join}
use Rattle.lease_words.specs.Rule.{Fits, passes_made}
use Rattle.lease_words.specs.Leased.{Sits}
use Rattle.lease_words.specs.Events.{span_drawn, drawn_by, HasDrawn, HasKnown, Mirrors, HasTakenIn, MarkIsNoEvent, MarkedIsNoEvent, JoinIsNoEvent}
use Rattle.lease_words.specs.declared.view.Bounds.{Bounds}
use Rattle.lease_words.specs.declared.view.Entry.{Entry}
use Rattle.lease_words.specs.declared.view.Report.{Report}
use Rattle.lease_words.specs.declared.view.View.{View}
use Rattle.lease_words.proofs.Sums.{total_set, all_set}
use Rattle.lease_words.proofs.Keeps.{made_by}
use Rattle.lease_words.proofs.PlainWords.{same_seat, own_reported, reported_at}

-- one seat's view changed, and the machine has what it then knows
mirrors_set : (b : Bounds) (next shown : ℕ) (views : List View) (seat : ℕ) (v w : View) (m : Machine) → Sits views seat v → w.made ≡ v.made → (IsPassView w → HasDrawn m w × HasKnown m w)
    → Mirrors b next shown views m → Mirrors b next shown (set views seat w) m
mirrors_set b next shown views seat v w m at same mine mir =
    let made : passes_made (set views seat w) ≡ passes_made views = (let s = total_set made_by views seat v w at in omega arith) in record {
      up = mir.up;
      total = mir.total;
      base = mir.base;
      passes = mir.passes ∙ sym made;
      next_is = mir.next_is;
      shown_is = mir.shown_is;
      all_known = mir.all_known;
      drawn = all_set (λ j u. IsPassView u → HasDrawn m u) views seat w (λ p. (mine p).0) (λ j u away g p. mir.drawn j u g p);
      known = all_set (λ j u. IsPassView u → HasKnown m u) views seat w (λ p. (mine p).1) (λ j u away g p. mir.known j u g p);
    }

pub mark_is_no_event : MarkIsNoEvent
mark_is_no_event b next shown views seat v first m at is mir = mirrors_set b next shown views seat v (after_mark v first) m at refl (λ p. absurd (true≢false (sym is ∙ p.0))) mir

pub marked_is_no_event : MarkedIsNoEvent
marked_is_no_event b next shown views seat v found m at pass mir =
    let w : View = after_marked v found in
    let now : own w ≡ report (own v).number (own v).known found = ap (λ (rs : List Report). get_or (map (λ r. report r.number r.known found) rs) 0 (report 0 0 0)) pass.1 in
    mirrors_set b next shown views seat v w m at refl (λ p. (
      ap (λ (r : Report). drawn_by r.number m.drawn) now ∙ mir.drawn seat v at pass,
      ap (λ (r : Report). get_or m.known r.number 0) now ∙ mir.known seat v at pass ∙ sym (ap (λ (r : Report). r.known) now),
    )) mir

-- ---- entries of one pass among others

keep_all : (number : ℕ) (es : List Entry) → All (λ e. e.pass ≡ number) es → filter (λ e. nat_eq e.pass number) es ≡ es
keep_all number [] h = refl
keep_all number (e ∷ es) h = ap (λ (b : Bool). cond b (e ∷ filter (λ x. nat_eq x.pass number) es) (filter (λ x. nat_eq x.pass number) es)) (eq-eqb e.pass number (h 0 e (omega arith)))
    ∙ ap (λ (xs : List Entry). e ∷ xs) (keep_all number es (λ k d l. h (suc k) d (omega arith)))

keep_none : (number : ℕ) (es : List Entry) → All (λ e. e.pass ≢ number) es → filter (λ e. nat_eq e.pass number) es ≡ []
keep_none number [] h = refl
keep_none number (e ∷ es) h = ap (λ (b : Bool). cond b (e ∷ filter (λ x. nat_eq x.pass number) es) (filter (λ x. nat_eq x.pass number) es)) (ne_eqb e.pass number (h 0 e (omega arith)))
    ∙ keep_none number es (λ k d l. h (suc k) d (omega arith))

-- a lone report that counts is of this number
of_one : (number : ℕ) (r : Report) → 0 < reports_of number (r ∷ []) → number ≡ r.number
of_one number r h = ⊎_elim (λ (x : r.number ≡ number). sym x) (λ (x : r.number ≢ number). let c : reports_of number (r ∷ []) ≡ 0 + cond {A = ℕ} (nat_eq r.number number) 1 0 = refl in let z : cond {A = ℕ} (nat_eq r.number number) 1 0 ≡ 0 = ap (λ (b : Bool). cond {A = ℕ} b 1 0) (ne_eqb r.number number x) in absurd (omega arith)) (cases_eq r.number number)

pass_entries : (b : Bounds) (shown mark seat : ℕ) (w : View) → Fits b shown mark seat w → IsPassView w → All (λ e. e.pass ≡ (own w).number) w.entries
pass_entries b shown mark seat w f p k d l = of_one (get_or w.entries k d).pass (own w) (subst (λ (rs : List Report). 0 < reports_of (get_or w.entries k d).pass rs) p.1 (f.named k d l))

no_report : (r : Report) → [] ≡ r ∷ [] → ⊥
no_report r e = absurd (cc)

pub join_is_no_event : JoinIsNoEvent
join_is_no_event b next shown mark views seat other v w m k at is at' pass mir = (
  mirrors_set b next shown vs other w spent_view m sits (sym (theirs.makes pass.0)) (λ p. absurd (no_report (own spent_view) p.1)) (mirrors_set b next shown views seat v both m at refl (λ p. absurd (true≢false (sym is ∙ p.0))) mir),
  λ taken. all_set (λ j u. u.journal ≡ true → All (HasTakenIn m u.entries) u.reports) vs other spent_view (λ h. absurd (true≢false (sym h)))
      (λ j u away g h. all_set (λ i x. x.journal ≡ true → All (HasTakenIn m x.entries) x.reports) views seat both (λ _. joined (taken seat v at is)) (λ i x _ e y. taken i x e y) j u g h),
) where
  both : View
  both = after_join v w

  vs : List View
  vs = set views seat both

  n : ℕ
  n = (own w).number

  theirs : Fits b shown mark other w
  theirs = k.each other w at'

  mine : Fits b shown mark seat v
  mine = k.each seat v at

  two : other ≢ seat
  two e = let both_here : some v ≡ some w = sym at ∙ ap (get_elem? views) (sym e) ∙ at' in true≢false (sym is ∙ ap (λ (x : View). x.journal) (some-injective v w both_here) ∙ pass.0)

  sits : Sits vs other w
  sits = set_else views seat other both two ∙ at'

  -- no report of the journal's seat is of this pass
  apart : (number : ℕ) → 0 < reports_of number v.reports → number ≢ n
  apart number h e = two (sym (same_seat b next shown mark views k seat other v w number at at' h (subst (λ (x : ℕ). 0 < reports_of x w.reports) (sym e) (let o = own_reported w pass in omega arith))))

  theirs_of : All (λ e. e.pass ≡ n) w.entries
  theirs_of = pass_entries b shown mark other w theirs pass

  of_pass : HasTakenIn m (w.entries ++ v.entries) (own w)
  of_pass = (
    mir.drawn other w at' pass ∙ ap (map span_drawn) (sym (filter-append (λ e. nat_eq e.pass n) w.entries v.entries
        ∙ ap (λ (xs : List Entry). xs ++ filter (λ e. nat_eq e.pass n) v.entries) (keep_all n w.entries theirs_of)
        ∙ ap (λ (xs : List Entry). w.entries ++ xs) (keep_none n v.entries (λ i d l. apart (get_or v.entries i d).pass (mine.named i d l)))
        ∙ append-nil w.entries)),
    mir.known other w at' pass,
  )

  of_earlier : (r : Report) → r.number ≢ n → HasTakenIn m v.entries r → HasTakenIn m (w.entries ++ v.entries) r
  of_earlier r away h = (
    h.0 ∙ ap (map span_drawn) (sym (filter-append (λ e. nat_eq e.pass r.number) w.entries v.entries
        ∙ ap (λ (xs : List Entry). xs ++ filter (λ e. nat_eq e.pass r.number) v.entries) (keep_none r.number w.entries (λ i d l e. away (sym e ∙ theirs_of i d l))))),
    h.1,
  )

  joined : All (HasTakenIn m v.entries) v.reports → All (HasTakenIn m (w.entries ++ v.entries)) (w.reports ++ v.reports)
  joined taken = All-append (HasTakenIn m (w.entries ++ v.entries)) w.reports v.reports
      (All-same (HasTakenIn m (w.entries ++ v.entries)) w.reports (own w ∷ []) pass.1 (All-cons (HasTakenIn m (w.entries ++ v.entries)) (own w) [] of_pass (All-nil (HasTakenIn m (w.entries ++ v.entries)))))
      (λ i d l. of_earlier (get_or v.reports i d) (apart (get_or v.reports i d).number (reported_at v.reports i d l)) (taken i d l))
