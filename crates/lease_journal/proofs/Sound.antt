-- Bodies that keep their rules, in lists and in slots.
use Rattle.std.proofs.Common.{◌≡◌, ◌<◌, ◌≤◌, ◌+◌, ◌-◌, ◌++◌, ℕ, zero, suc, List, [], ◌∷◌, length, get_or, true, None, ⊎_elim, refl, ap, sym, ◌∙◌, arith}
use Rattle.std.proofs.lemmas.Bool.{cases_lt}
use Rattle.std.proofs.lemmas.List.{get_or_append_left, get_or-append_right, length-append}
use Rattle.zk_model.specs.declared.JournalKind.{JournalKind}
use Rattle.lease_journal.specs.Journals.{AreSound, IsFirstBad, Recovers, body_before, first_bodies, is_sound_at, keeps_rule, last_body}
use Rattle.lease_journal.proofs.Putting.{first-at, length-first, no_body}

pub before_left : (bodies : List (ℕ × ℕ)) (body : ℕ × ℕ) (place : ℕ) → place ≤ length bodies → body_before (bodies ++ body ∷ []) place ≡ body_before bodies place
before_left bodies body zero within = refl
before_left bodies body (suc place) within = get_or_append_left bodies (body ∷ []) no_body place (omega (arith, within))

pub last_at : (bodies : List (ℕ × ℕ)) (body : ℕ × ℕ) (place : ℕ) → place ≡ length bodies → get_or (bodies ++ body ∷ []) place no_body ≡ body
last_at bodies body place is =
    let gone : place - length bodies ≡ 0 = omega (arith, is) in
    get_or-append_right bodies (body ∷ []) (length bodies) place no_body refl (omega (arith, is)) ∙ ap (λ k. get_or (body ∷ []) k no_body) gone

-- the last of a list with one body more
pub before_more : (bodies : List (ℕ × ℕ)) (body : ℕ × ℕ) (count : ℕ) → length bodies ≡ count → body_before (bodies ++ body ∷ []) (count + 1) ≡ body
before_more bodies body count size =
    let next : count + 1 ≡ suc count = omega arith in
    ap (body_before (bodies ++ body ∷ [])) next ∙ last_at bodies body count (sym size)

pub none_sound : (kind : JournalKind) (total : ℕ) → AreSound kind total []
none_sound kind total place below = absurd (omega (arith, below))

-- one body more, which keeps the rule after the last
pub sound_more : (kind : JournalKind) (total : ℕ) (bodies : List (ℕ × ℕ)) (body : ℕ × ℕ) → AreSound kind total bodies
    → keeps_rule kind total (body_before bodies (length bodies)).0 body ≡ true → AreSound kind total (bodies ++ body ∷ [])
sound_more kind total bodies body sound keeps place below = ⊎_elim
    ahead
    (λ from. here (omega (arith, from, below, length-append bodies (body ∷ []))))
    (cases_lt place (length bodies))
  where
    ahead : place < length bodies → keeps_rule kind total (body_before (bodies ++ body ∷ []) place).0 (get_or (bodies ++ body ∷ []) place no_body) ≡ true
    ahead inside =
        ap (λ (b : ℕ × ℕ). keeps_rule kind total b.0 (get_or (bodies ++ body ∷ []) place no_body)) (before_left bodies body place (omega (arith, inside)))
        ∙ ap (keeps_rule kind total (body_before bodies place).0) (get_or_append_left bodies (body ∷ []) no_body place inside)
        ∙ sound place inside

    here : place ≡ length bodies → keeps_rule kind total (body_before (bodies ++ body ∷ []) place).0 (get_or (bodies ++ body ∷ []) place no_body) ≡ true
    here is =
        ap (λ (b : ℕ × ℕ). keeps_rule kind total b.0 (get_or (bodies ++ body ∷ []) place no_body)) (before_left bodies body place (omega (arith, is)))
        ∙ ap (keeps_rule kind total (body_before bodies place).0) (last_at bodies body place is)
        ∙ ap (λ k. keeps_rule kind total (body_before bodies k).0 body) is
        ∙ keeps

-- the bodies of slots
pub before_slot : (at used : ℕ) (bytes : List ℕ) (slot : ℕ) → slot ≤ used → body_before (first_bodies at used bytes) slot ≡ last_body at bytes slot
before_slot at used bytes zero within = refl
before_slot at used bytes (suc slot) within = first-at at used bytes slot (omega (arith, within))

same_rule : (kind : JournalKind) (total at used : ℕ) (bytes : List ℕ) (slot : ℕ) → slot < used
    → keeps_rule kind total (body_before (first_bodies at used bytes) slot).0 (get_or (first_bodies at used bytes) slot no_body) ≡ is_sound_at kind total at bytes slot
same_rule kind total at used bytes slot inside =
    ap (λ (b : ℕ × ℕ). keeps_rule kind total b.0 (get_or (first_bodies at used bytes) slot no_body)) (before_slot at used bytes slot (omega (arith, inside)))
    ∙ ap (keeps_rule kind total (last_body at bytes slot).0) (first-at at used bytes slot inside)

pub slots_sound : (kind : JournalKind) (total at used : ℕ) (bytes : List ℕ) → IsFirstBad kind total at bytes used None → AreSound kind total (first_bodies at used bytes)
slots_sound kind total at used bytes none place below =
    let inside : place < used = omega (arith, below, length-first at used bytes) in
    same_rule kind total at used bytes place inside ∙ none place inside

pub sound_slots : (kind : JournalKind) (total at used : ℕ) (bytes : List ℕ) → AreSound kind total (first_bodies at used bytes) → IsFirstBad kind total at bytes used None
sound_slots kind total at used bytes sound slot inside =
    sym (same_rule kind total at used bytes slot inside) ∙ sound slot (omega (arith, inside, length-first at used bytes))

-- one list is not shorter than the other
not_shorter : (at slots : ℕ) (bytes : List ℕ) (xs ys : List (ℕ × ℕ)) → Recovers at slots bytes xs → Recovers at slots bytes ys → length ys ≤ length xs
not_shorter at slots bytes xs ys one other = ⊎_elim
    (λ shorter. absurd (one.closed (omega (arith, shorter, other.within)) (other.opened (length xs) shorter)))
    (λ from. from)
    (cases_lt (length xs) (length ys))

-- bytes recover one list
pub recovers_same : (at slots : ℕ) (bytes : List ℕ) (xs ys : List (ℕ × ℕ)) → Recovers at slots bytes xs → Recovers at slots bytes ys → xs ≡ ys
recovers_same at slots bytes xs ys one other =
    let size : length xs ≡ length ys = omega (arith, not_shorter at slots bytes xs ys one other, not_shorter at slots bytes ys xs other one) in
    one.read ∙ ap (λ n. first_bodies at n bytes) size ∙ sym other.read
