-- What one seat at the lease table knows.
use Rattle.std.specs.Prelude.{◌≡◌, ℕ, ◌+◌, max, true, false, cond, ◌&&◌, List, [], ◌∷◌, ◌++◌, map, slice_index_or, nat_eq, nat_lt, nat_le}
use Rattle.std.specs.List.{sum_by, count_by}
use Rattle.lease_words.specs.declared.view.Bounds.{Bounds}
use Rattle.lease_words.specs.declared.view.Entry.{Entry}
use Rattle.lease_words.specs.declared.view.Report.{Report}
use Rattle.lease_words.specs.declared.view.View.{View}

-- a draw of a pass
abbrev pub entry : ℕ → ℕ → ℕ → Entry
entry pass start count = record { pass = pass; start = start; count = count }

-- the unit after it
abbrev pub end_of : Entry → ℕ
end_of e = e.start + e.count

-- what a pass with this number knows of the ceiling and of the mark
abbrev pub report : ℕ → ℕ → ℕ → Report
report number known mark = record { number = number; known = known; mark = mark }

-- 1 where a unit lies from low up to high, and else 0
abbrev pub inside : ℕ → ℕ → ℕ → ℕ
inside low high unit = cond (nat_le low unit && nat_lt unit high) 1 0

-- how often a unit was drawn, and how many units were
abbrev pub times_drawn : ℕ → List Entry → ℕ
times_drawn unit entries = sum_by (λ e. inside e.start (end_of e) unit) entries

abbrev pub units_drawn : List Entry → ℕ
units_drawn entries = sum_by (λ e. e.count) entries

-- how many entries end above the total, and how many of these are of one pass
abbrev pub entry_overshoots : ℕ → List Entry → ℕ
entry_overshoots total entries = count_by (λ e. nat_lt total (end_of e)) entries

abbrev pub entry_overshoots_of : ℕ → ℕ → List Entry → ℕ
entry_overshoots_of total pass entries = count_by (λ e. nat_eq e.pass pass && nat_lt total (end_of e)) entries

-- how many reports are of one pass
abbrev pub reports_of : ℕ → List Report → ℕ
reports_of number reports = count_by (λ r. nat_eq r.number number) reports

-- a report that stands where there is none
abbrev pub nobody : Report
nobody = report 0 0 0

-- what a pass knows of itself: its one report
abbrev pub own : View → Report
own v = slice_index_or v.reports 0 nobody

-- it is a pass: it has its own report and no other
abbrev pub IsPassView : View → Type 0
IsPassView v = (v.journal ≡ false) × (v.reports ≡ own v ∷ [])

-- the journal's seat once it made some passes, with the ceiling at the base
abbrev pub journal_at : ℕ → ℕ → ℕ → View
journal_at base total made = record {
  journal = true;
  keeper = [];
  total = total;
  ceiling = base;
  made = made;
  own_mark = 0;
  looks = 0;
  drawn = 0;
  met = 0;
  reports = [];
  entries = [];
}

-- the same, where what keeps the ceiling has this name
abbrev pub journal_of : List ℕ → ℕ → ℕ → ℕ → View
journal_of name base total made = record (journal_at base total made) { keeper = name }

-- the journal's seat, before any pass is made
abbrev pub first_view : List ℕ → Bounds → View
first_view name b = journal_of name b.base b.total 0

-- what is left of a pass that was taken in
abbrev pub spent_view : View
spent_view = record (journal_at 0 0 0) { journal = false }

-- the journal's seat makes one pass more, which has the next number and knows the ceiling
abbrev pub after_make : View → View
after_make v = record v { made = v.made + 1 }

abbrev pub new_pass : View → View
new_pass v = record spent_view { total = v.total; reports = report v.made v.ceiling 0 ∷ [] }

-- a pass drew `count` units from `start` on
abbrev pub after_draw : View → ℕ → ℕ → View
after_draw v start count = record v { entries = v.entries ++ entry (own v).number start count ∷ []; drawn = start + count }

-- a pass found the ceiling
abbrev pub after_look : View → ℕ → View
after_look v found = record v {
  looks = v.looks + 1;
  reports = map (λ r. report r.number found r.mark) v.reports;
}

-- a pass found the mark
abbrev pub after_marked : View → ℕ → View
after_marked v found = record v { reports = map (λ r. report r.number r.known found) v.reports }

-- what a pass's receipt says: how far it knows that units were drawn
abbrev pub receipt_of : View → View
receipt_of v = record spent_view { drawn = v.drawn }

-- the journal's seat learns it from a receipt, where that is further than it knew
abbrev pub after_receipt : View → View → View
after_receipt v w = record v { drawn = max v.drawn w.drawn }

-- the journal's seat gives away the faults that it met, a word has them, and a pass takes them
abbrev pub after_telling : View → View
after_telling v = record v { met = 0 }

abbrev pub word_of : View → View
word_of v = record spent_view { met = v.met }

abbrev pub after_told : View → View → View
after_told v w = record v { met = v.met + w.met }

-- the journal's seat showed a ceiling
abbrev pub after_raise : View → ℕ → View
after_raise v ceiling = record v { ceiling = ceiling }

-- the journal's seat met a fault, and set the mark
abbrev pub after_mark : View → ℕ → View
after_mark v mark = record v { own_mark = mark; met = v.met + 1 }

-- the journal's seat takes in what a pass knows
abbrev pub after_join : View → View → View
after_join v w = record v { reports = w.reports ++ v.reports; entries = w.entries ++ v.entries; met = v.met + w.met }

-- the journal's seat once it has taken in passes with these reports, entries and faults
abbrev pub taken_in : View → List Report → List Entry → ℕ → View
taken_in v reports entries met = record v { reports = reports; entries = entries; met = met }
