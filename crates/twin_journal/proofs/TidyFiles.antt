-- Which journals stand in a file, and that they are tidy.
use Rattle.std.proofs.Common.{◌≡◌, ◌⊎◌, ◌+◌, ◌*◌, ◌≤◌, ◌==◌, ◌&&◌, not, nat_le, if◌then◌else◌, ℕ, List, Bool, true, false, length, get_or, inl, inr, refl, sym, ap, ◌∙◌, subst, arith}
use Rattle.std.proofs.lemmas.Bool.Decides.{nat_tests}
use Rattle.zk_model.specs.declared.JournalKind.{JournalKind}
use Rattle.zk_model.specs.declared.JournalKind.TheVariants.{Claims, Ceilings}
use Rattle.lease_journal.specs.Journals.{journal_code, slots_at}
use Rattle.lease_journal.specs.Twins.{HasMovedHeader, HasTwinHeader, HoldsTwin, IsTwinTidy, is_migrated, twin_begin, twin_code, twin_slots_at}
use Rattle.twin_journal.specs.Laws.{SaidIsTidy}
use Rattle.twin_journal.specs.Starts.{AreTidy}
use Rattle.twin_journal.proofs.TwinLaws.{says_recovers}

either : (b : Bool) → (b ≡ true) ⊎ (b ≡ false)
either true = inl refl
either false = inr refl

same_byte : (a b : ℕ) → not (a == b) ≡ false → a ≡ b
same_byte a b is = grind (arith, nat_tests, is)

both_bytes : (a : Bool) (x c y : ℕ) → (a && (x == c) && (y == 90)) ≡ true → (x ≡ c) × (y ≡ 90)
both_bytes true x c y is = (grind (arith, nat_tests, is), grind (arith, nat_tests, is))
both_bytes false x c y is = absurd (cc is)

-- the byte of the kind in the first header of a file that a journal stands in
code_at : (kind : JournalKind) (id : List ℕ) (total begin : ℕ) (bytes : List ℕ) → HasTwinHeader kind id total begin bytes
    → get_or bytes (begin + 8) 0 ≡ twin_code kind
code_at kind id total begin bytes header = same_byte (get_or bytes (begin + 8) 0) (twin_code kind) (header.right 8 (omega arith))

abbrev moved_bytes : (kind : JournalKind) (bytes : List ℕ) → is_migrated kind bytes ≡ true
    → (get_or bytes 8 0 ≡ journal_code kind) × (get_or bytes 15 0 ≡ 90)
moved_bytes kind bytes moved = both_bytes (nat_le 64 (length bytes)) (get_or bytes 8 0) (journal_code kind) (get_or bytes 15 0) moved

here_code : (kind : JournalKind) (id : List ℕ) (total begin slots : ℕ) (bytes : List ℕ) → HoldsTwin kind id total begin slots bytes
    → is_migrated kind bytes ≡ false → get_or bytes 8 0 ≡ twin_code kind
here_code kind id total begin slots bytes holds here =
    let first : begin ≡ 0 = sym holds.begins ∙ ap (λ b. if b then 64 + 32 * slots_at bytes else 0) here in
    subst (λ n. get_or bytes (n + 8) 0 ≡ twin_code kind) first (code_at kind id total begin bytes holds.stands.header)

abbrev IsCodeOf : JournalKind → ℕ → Type 0
IsCodeOf kind byte = (byte ≡ journal_code kind) ⊎ (byte ≡ twin_code kind)

first_code : (kind : JournalKind) (id : List ℕ) (total begin slots : ℕ) (bytes : List ℕ) → HoldsTwin kind id total begin slots bytes
    → IsCodeOf kind (get_or bytes 8 0)
first_code kind id total begin slots bytes holds = elim (either (is_migrated kind bytes)) [
  | inl moved ↦ inl (moved_bytes kind bytes moved).0
  | inr here ↦ inr (here_code kind id total begin slots bytes holds here)
]

apart : (b : ℕ) → IsCodeOf Claims b → IsCodeOf Ceilings b → ⊥
apart b (inl one) (inl two) = omega (arith, one, two)
apart b (inl one) (inr two) = omega (arith, one, two)
apart b (inr one) (inl two) = omega (arith, one, two)
apart b (inr one) (inr two) = omega (arith, one, two)

one_kind : (b : ℕ) (some other : JournalKind) → IsCodeOf some b → IsCodeOf other b → some ≡ other
one_kind b Claims Claims one two = refl
one_kind b Ceilings Ceilings one two = refl
one_kind b Claims Ceilings one two = absurd (apart b one two)
one_kind b Ceilings Claims one two = absurd (apart b two one)

pub said_is_tidy : SaidIsTidy
said_is_tidy kind id total begin slots generation bodies bytes holds says other other_id other_total there many stands =
    let same : kind ≡ other = one_kind (get_or bytes 8 0) kind other (first_code kind id total begin slots bytes holds)
    (first_code other other_id other_total there many bytes stands) in
    let place : begin ≡ there = sym holds.begins ∙ ap (λ k. twin_begin k bytes) same ∙ stands.begins in
    let count : slots ≡ many = sym holds.stands.says ∙ ap (λ n. twin_slots_at n bytes) place ∙ stands.stands.says in
    subst (λ n. IsTwinTidy n many bytes) place
    (subst (λ n. IsTwinTidy begin n bytes) count (says_recovers begin slots generation bodies bytes says).tidy)

-- ---- a journal of one area that was not migrated

unlike : (some other : JournalKind) (b : ℕ) → b ≡ journal_code some → b ≡ twin_code other → ⊥
unlike Claims Claims b one two = omega (arith, one, two)
unlike Claims Ceilings b one two = omega (arith, one, two)
unlike Ceilings Claims b one two = omega (arith, one, two)
unlike Ceilings Ceilings b one two = omega (arith, one, two)

shut : (a : Bool) (x c y : ℕ) → a ≡ true → x ≡ c → y ≡ 90 → (a && (x == c) && (y == 90)) ≡ true
shut true x c y a one two = grind (arith, nat_tests, one, two)
shut false x c y a one two = absurd (cc a)

long : (m : ℕ) → 64 ≤ m → nat_le 64 m ≡ true
long m enough = grind (arith, nat_tests, enough)

-- in its file stands no journal of two areas, so that all of them are tidy
pub one_area_is_tidy : (kind : JournalKind) (id : List ℕ) (total : ℕ) (bytes : List ℕ) → HasMovedHeader kind id total bytes → is_migrated kind bytes ≡ false
    → AreTidy bytes
one_area_is_tidy kind id total bytes header here other other_id other_total there many stands = absurd (elim (either (is_migrated other bytes)) [
  | inl moved ↦ no_gate (sym here ∙ shut (nat_le 64 (length bytes)) (get_or bytes 8 0) (journal_code kind) (get_or bytes 15 0)
      (long (length bytes) header.whole) code (moved_bytes other bytes moved).1)
  | inr first ↦ unlike kind other (get_or bytes 8 0) code (here_code other other_id other_total there many bytes stands first)
])
  where
    no_gate : false ≡ true → ⊥
    no_gate e = cc e

    code : get_or bytes 8 0 ≡ journal_code kind
    code = same_byte (get_or bytes 8 0) (journal_code kind) (header.right 8 (omega arith))
