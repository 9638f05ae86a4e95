-- The logs of sessions, kept one after another.
use Rattle.std.proofs.Common.{◌≡◌, ◌≢◌, ◌⊎◌, ◌+◌, ◌<◌, ◌≤◌, ℕ, List, Bool, true, false, get_or, length, Option, None, Some, IfSome, refl, ap, sym, ◌∙◌, subst, inl, inr, arith, ⊎_elim, true≢false}
use Rattle.std.proofs.lemmas.Bool.{cases_lt}
use Rattle.std.proofs.lemmas.List.{get_or_default}
use Rattle.zk_model.specs.declared.Span.{Span}
use Rattle.zk_port.specs.Changes.{change}
use Rattle.zk_port.specs.Files.{Files, StandsAs}
use Rattle.zk_port.specs.Shelves.{ShelfState}
use Rattle.file_commands.specs.Effects.{CountsStay, IsName, NameFailed, OnlyStores, OtherNamesStay, SomeFailed}
use Rattle.file_commands.proofs.Asking.{asks_among}
use Rattle.file_commands.proofs.Storing.{only_stores, stores_nothing}
use Rattle.session_verifier.specs.declared.note.SessionNote.{SessionNote}
use Rattle.session_verifier.specs.declared.service_logs.LogFaults.{LogFaults}
use Rattle.session_verifier.specs.ServiceLogs.{HasLog, HaveApartNames, IsLogName, KeepsLog, KeepsLogs, TriesLog, TriesLogs, log_bytes, log_name}

off : true ≡ false → ⊥
off = true≢false

-- ---- what stands under a name

-- where nothing but one name is changed, what stands under another stands on
stands_on : (one name bytes : List ℕ) (a b : Option Files) → OtherNamesStay (IsName one) a b → name ≢ one → StandsAs a name bytes → StandsAs b name bytes
stands_on one name bytes None b same apart stands = subst (λ (told : Option Files). StandsAs told name bytes) (sym same) tt
stands_on one name bytes (Some files) None same apart stands = absurd same
stands_on one name bytes (Some files) (Some more) same apart stands = same name apart ∙ stands

-- a failure of a name stays one
failed_on : (name : List ℕ) (a b c : ShelfState) → NameFailed name (change a b) → ((other : List ℕ) → b.faults_of other ≤ c.faults_of other)
    → NameFailed name (change a c)
failed_on name a b c failed later = let more = later name in omega (arith, failed, more)

-- so does one after calls that did not fail, or did
failed_since : (name : List ℕ) (a b c : ShelfState) → NameFailed name (change b c) → ((other : List ℕ) → a.faults_of other ≤ b.faults_of other)
    → NameFailed name (change a c)
failed_since name a b c failed later = let more = later name in omega (arith, failed, more)

-- ---- the logs of sessions, one after another

-- a note is the one of its number, whatever stands for none
pub note_at : {L : Type 0} (notes : List (SessionNote L)) (i : ℕ) (note : SessionNote L) → i < length notes → note ≡ get_or notes i note
    → (d : SessionNote L) → get_or notes i d ≡ note
note_at notes i note within is d = get_or_default notes i d note within ∙ sym is

-- those of the first sessions are kept, after what became of others
pub record Settles {L : Type 0} (prefix : List ℕ) (notes : List (SessionNote L)) (count : ℕ) (a b : ShelfState) (before now : LogFaults)
    : Type 0 where
  pub stores : OnlyStores (IsLogName (Some prefix)) (change a b)
  pub failed : now.failed ≡ true → (before.failed ≡ true) ⊎ SomeFailed (IsLogName (Some prefix)) (change a b)
  pub quiet : now.failed ≡ false → CountsStay (change a b)
  pub still : now.failed ≡ false → before.failed ≡ false
  pub each : (k : ℕ) (d : SessionNote L) → k < count → KeepsLog prefix (change a b) now.lacked (get_or notes k d)
  pub all : now.failed ≡ false → now.lacked ≡ false → (k : ℕ) (d : SessionNote L) → k < count → HasLog prefix b.told (get_or notes k d)

pub settles_none : {L : Type 0} (prefix : List ℕ) (notes : List (SessionNote L)) (a : ShelfState) (f : LogFaults) → Settles prefix notes 0 a a f f
settles_none prefix notes a f = record {
  stores = stores_nothing (IsLogName (Some prefix)) a;
  failed = λ on. inl on;
  quiet = λ on. record { all = refl; each = λ other. refl };
  still = λ on. on;
  each = λ k d few. absurd (omega (arith, few));
  all = λ on calm k d few. absurd (omega (arith, few));
}

-- one more, which was granted no units
pub settles_ungranted : {L : Type 0} (prefix : List ℕ) (notes : List (SessionNote L)) (i : ℕ) (note : SessionNote L) (a b : ShelfState) (f g : LogFaults)
    → ((d : SessionNote L) → get_or notes i d ≡ note) → note.granted ≡ None → Settles prefix notes i a b f g → Settles prefix notes (i + 1) a b f g
settles_ungranted {L} prefix notes i note a b f g at none settles = record {
  stores = settles.stores;
  failed = settles.failed;
  quiet = settles.quiet;
  still = settles.still;
  each = λ k d few. by_place (λ (n : SessionNote L). KeepsLog prefix (change a b) g.lacked n) keeps_none (settles.each) k d few;
  all = λ on calm k d few. by_place (λ (n : SessionNote L). HasLog prefix b.told n) has_none (settles.all on calm) k d few;
}
  where
    by_place : (P : SessionNote L → Type 0) → P note → ((k : ℕ) (d : SessionNote L) → k < i → P (get_or notes k d))
        → (k : ℕ) (d : SessionNote L) → k < i + 1 → P (get_or notes k d)
    by_place P last first k d few = ⊎_elim (λ (low : k < i). first k d low)
        (λ (high : i ≤ k). let is : k ≡ i = omega (arith, few, high) in subst P (sym (at d) ∙ ap (λ n. get_or notes n d) (sym is)) last)
        (cases_lt k i)

    keeps_none : KeepsLog prefix (change a b) g.lacked note
    keeps_none = rw none tt

    has_none : HasLog prefix b.told note
    has_none = rw none tt

-- names that are among those of logs
stores_among : (IsNamed IsOther : List ℕ → Type 0) (a b : ShelfState) → ((name : List ℕ) → IsNamed name → IsOther name)
    → OnlyStores IsNamed (change a b) → OnlyStores IsOther (change a b)
stores_among IsNamed IsOther a b among stores = record {
  others = stay a.told b.told stores.others;
  asked = asks_among IsNamed IsOther (change a b) among stores.asked;
}
  where
    stay : (old new : Option Files) → OtherNamesStay IsNamed old new → OtherNamesStay IsOther old new
    stay None new same = same
    stay (Some files) None same = absurd same
    stay (Some files) (Some more) same = λ other apart. same other (λ is. apart (among other is))

named_log : (prefix : List ℕ) (start : ℕ) (name : List ℕ) → IsName (log_name prefix start) name → IsLogName (Some prefix) name
named_log prefix start name is = (start, is)

-- two moments of the counts
counts_both : (a b c : ShelfState) → CountsStay (change a b) → CountsStay (change b c) → CountsStay (change a c)
counts_both a b c one two = record { all = two.all ∙ one.all; each = λ name. two.each name ∙ one.each name }

-- a flag that has not fallen
stays_on : (before now : Bool) → (now ≡ false → before ≡ false) → before ≡ true → now ≡ true
stays_on before true down on = refl
stays_on before false down on = absurd (off (sym on ∙ down refl))

-- what was tried before one log more
pub tries_more : (prefix bytes : List ℕ) (start : ℕ) (a b c : ShelfState) (f g : LogFaults) → TriesLogs (Some prefix) (change a b) f.failed
    → TriesLog (log_name prefix start) bytes (change b c) f g → TriesLogs (Some prefix) (change a c) g.failed
tries_more prefix bytes start a b c f g tried tries = record {
  kept = only_stores (IsLogName (Some prefix)) a b c tried.kept
      (stores_among (IsName (log_name prefix start)) (IsLogName (Some prefix)) b c (named_log prefix start) tries.stores);
  cause = λ on. elim (tries.failed on) [
    | inl was ↦ (let found = tried.cause was in (found.0, found.1, failed_on found.0 a b c found.2 tries.stores.asked.later))
    | inr failed ↦ (log_name prefix start, (start, refl), failed_since (log_name prefix start) a b c failed tried.kept.asked.later)
  ];
  quiet = λ on. counts_both a b c (tried.quiet (tries.still on)) (tries.quiet on);
}

-- a log that is kept is kept on while another is tried
module _ (prefix name bytes : List ℕ) (a b c : ShelfState) (g h : LogFaults) (tries : TriesLog name bytes (change b c) g h)
    (before : OnlyStores (IsLogName (Some prefix)) (change a b)) where
  keeps_on : (granted : Option Span) (kept : List ℕ) → IfSome granted (λ s. log_name prefix s.start ≢ name)
      → IfSome granted (λ s. StandsAs b.told (log_name prefix s.start) kept ⊎ NameFailed (log_name prefix s.start) (change a b) ⊎ (g.lacked ≡ true))
      → IfSome granted (λ s. StandsAs c.told (log_name prefix s.start) kept ⊎ NameFailed (log_name prefix s.start) (change a c) ⊎ (h.lacked ≡ true))
  keeps_on None kept apart keeps = tt
  keeps_on (Some s) kept apart keeps = elim keeps [
    | inl stands ↦ inl (stands_on name (log_name prefix s.start) kept b.told c.told tries.stores.others apart stands)
    | inr (inl failed) ↦ inr (inl (failed_on (log_name prefix s.start) a b c failed tries.stores.asked.later))
    | inr (inr lacked) ↦ inr (inr (stays_on g.lacked h.lacked tries.enough lacked))
  ]

  has_on : (granted : Option Span) (kept : List ℕ) → IfSome granted (λ s. log_name prefix s.start ≢ name)
      → IfSome granted (λ s. StandsAs b.told (log_name prefix s.start) kept) → IfSome granted (λ s. StandsAs c.told (log_name prefix s.start) kept)
  has_on None kept apart stands = tt
  has_on (Some s) kept apart stands = stands_on name (log_name prefix s.start) kept b.told c.told tries.stores.others apart stands

-- one more, which was granted units
module _ {L : Type 0} (prefix : List ℕ) (notes : List (SessionNote L)) (i : ℕ) (note : SessionNote L) (span : Span) (a b c : ShelfState)
    (f g h : LogFaults) (within : i < length notes) (at : (d : SessionNote L) → get_or notes i d ≡ note) (granted : note.granted ≡ Some span)
    (names : HaveApartNames (Some prefix) notes) (settles : Settles prefix notes i a b f g)
    (tries : TriesLog (log_name prefix span.start) (log_bytes note.log) (change b c) g h) where
  apart_from : (k : ℕ) (d : SessionNote L) → k < i → IfSome (get_or notes k d).granted (λ s. log_name prefix s.start ≢ log_name prefix span.start)
  apart_from k d few = by_first (get_or notes k d).granted
      (subst (λ (units : Option Span). IfSome (get_or notes k d).granted (λ s. IfSome units (λ t. log_name prefix s.start ≢ log_name prefix t.start)))
      (ap (λ (n : SessionNote L). n.granted) (at d) ∙ granted) (names k i d few within))
    where
      by_first : (one : Option Span) → IfSome one (λ s. IfSome (Some span) (λ t. log_name prefix s.start ≢ log_name prefix t.start))
          → IfSome one (λ s. log_name prefix s.start ≢ log_name prefix span.start)
      by_first None apart = tt
      by_first (Some s) apart = apart

  keeps_last : KeepsLog prefix (change a c) h.lacked note
  keeps_last = rw granted (elim tries.stands [
    | inl stands ↦ inl stands
    | inr (inl failed) ↦ inr (inl (failed_since (log_name prefix span.start) a b c failed settles.stores.asked.later))
    | inr (inr lacked) ↦ inr (inr lacked)
  ])

  has_last : h.failed ≡ false → h.lacked ≡ false → HasLog prefix c.told note
  has_last on calm = rw granted (tries.sure on calm)

  by_place : (P : SessionNote L → Type 0) → P note → ((k : ℕ) (d : SessionNote L) → k < i → P (get_or notes k d))
      → (k : ℕ) (d : SessionNote L) → k < i + 1 → P (get_or notes k d)
  by_place P last first k d few = ⊎_elim (λ (low : k < i). first k d low)
      (λ (high : i ≤ k). let is : k ≡ i = omega (arith, few, high) in subst P (sym (at d) ∙ ap (λ n. get_or notes n d) (sym is)) last)
      (cases_lt k i)

  pub settles_granted : Settles prefix notes (i + 1) a c f h
  settles_granted = record {
    stores = only_stores (IsLogName (Some prefix)) a b c settles.stores
        (stores_among (IsName (log_name prefix span.start)) (IsLogName (Some prefix)) b c (named_log prefix span.start) tries.stores);
    failed = λ on. elim (tries.failed on) [
      | inl was ↦ (elim (settles.failed was) [
        | inl first ↦ inl first
        | inr found ↦ inr (found.0, found.1, failed_on found.0 a b c found.2 tries.stores.asked.later)
      ])
      | inr failed ↦ inr (log_name prefix span.start, (span.start, refl), failed_since (log_name prefix span.start) a b c failed settles.stores.asked.later)
    ];
    quiet = λ on. counts_both a b c (settles.quiet (tries.still on)) (tries.quiet on);
    still = λ on. settles.still (tries.still on);
    each = by_place (λ (n : SessionNote L). KeepsLog prefix (change a c) h.lacked n) keeps_last
        (λ k d few. keeps_on prefix (log_name prefix span.start) (log_bytes note.log) a b c g h tries settles.stores
        (get_or notes k d).granted (log_bytes (get_or notes k d).log) (apart_from k d few) (settles.each k d few));
    all = λ on calm. by_place (λ (n : SessionNote L). HasLog prefix c.told n) (has_last on calm)
        (λ k d few. has_on prefix (log_name prefix span.start) (log_bytes note.log) a b c g h tries settles.stores
        (get_or notes k d).granted (log_bytes (get_or notes k d).log) (apart_from k d few) (settles.all (tries.still on) (tries.enough calm) k d few));
  }

-- all are kept, after what was tried before
pub keeps_logs : {L : Type 0} (prefix : List ℕ) (notes : List (SessionNote L)) (a b c : ShelfState) (f g : LogFaults)
    → Settles prefix notes (length notes) b c f g → TriesLogs (Some prefix) (change a b) f.failed → KeepsLogs (Some prefix) notes (change a c) g
keeps_logs {L} prefix notes a b c f g settles tried = record {
  tried = record {
    kept = only_stores (IsLogName (Some prefix)) a b c tried.kept settles.stores;
    cause = λ on. elim (settles.failed on) [
      | inl was ↦ (let found = tried.cause was in (found.0, found.1, failed_on found.0 a b c found.2 settles.stores.asked.later))
      | inr found ↦ (found.0, found.1, failed_since found.0 a b c found.2 tried.kept.asked.later)
    ];
    quiet = λ on. counts_both a b c (tried.quiet (settles.still on)) (settles.quiet on);
  };
  each = λ k d few. since (get_or notes k d).granted (log_bytes (get_or notes k d).log) (settles.each k d few);
  all = λ on calm k d few. settles.all on calm k d few;
}
  where
    since : (granted : Option Span) (kept : List ℕ)
        → IfSome granted (λ s. StandsAs c.told (log_name prefix s.start) kept ⊎ NameFailed (log_name prefix s.start) (change b c) ⊎ (g.lacked ≡ true))
        → IfSome granted (λ s. StandsAs c.told (log_name prefix s.start) kept ⊎ NameFailed (log_name prefix s.start) (change a c) ⊎ (g.lacked ≡ true))
    since None kept keeps = tt
    since (Some s) kept keeps = elim keeps [
      | inl stands ↦ inl stands
      | inr (inl failed) ↦ inr (inl (failed_since (log_name prefix s.start) a b c failed tried.kept.asked.later))
      | inr (inr lacked) ↦ inr (inr lacked)
    ]
