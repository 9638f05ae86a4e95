-- How a run of calls of a disk goes on.
use Rattle.std.proofs.Common.{◌≤◌, inl, inr, ⊎_elim, ℕ, List, refl, ◌∙◌, arith}
use Rattle.zk_port.specs.Disks.{DiskState, Elapses, LeavesOnly, Stays}

-- before the first call
pub started : (old : DiskState) {P : List ℕ → Type 0} → ((c : List ℕ) → old.images_since old.moment c → P c) → LeavesOnly old old P
started old here = record { later = omega arith; each = here; before = λ t c le left. inl left }

-- one call more, after which a crash leaves what has P
pub goes_on : {old middle new : DiskState} {P : List ℕ → Type 0} → LeavesOnly old middle P → Elapses middle new
    → ((c : List ℕ) → new.images c → P c) → LeavesOnly old new P
goes_on {old} so_far time here = record {
  later = omega (arith, so_far.later, time.later);
  each = λ c left. ⊎_elim (so_far.each c) (here c) (time.nothing_else old.moment c so_far.later left);
  before = λ t c le left. ⊎_elim (so_far.before t c le) (λ now. inr (here c now)) (time.nothing_else t c (omega (arith, le, so_far.later)) left);
}

-- two runs, one after the other
pub then_leaves : {old middle new : DiskState} {P : List ℕ → Type 0} → LeavesOnly old middle P → LeavesOnly middle new P → LeavesOnly old new P
then_leaves {old} first second = record {
  later = omega (arith, first.later, second.later);
  each = λ c left. ⊎_elim (first.each c) (λ p. p) (second.before old.moment c first.later left);
  before = λ t c le left. ⊎_elim (first.before t c le) (λ p. inr p) (second.before t c (omega (arith, le, first.later)) left);
}

-- what is left has more
pub leaves_also : {old new : DiskState} {P Q : List ℕ → Type 0} → LeavesOnly old new P → ((c : List ℕ) → P c → Q c) → LeavesOnly old new Q
leaves_also leaves wider = record {
  later = leaves.later;
  each = λ c left. wider c (leaves.each c left);
  before = λ t c le left. ⊎_elim (λ was. inl was) (λ p. inr (wider c p)) (leaves.before t c le left);
}

-- no call
pub stays_here : (s : DiskState) → Stays s s
stays_here s = record {
  chosen = refl;
  content = refl;
  room = refl;
  crash = λ c left. left;
  time = record { later = omega arith; nothing_else = λ t c le left. inl left; keeps = λ t c le left. left };
}

-- calls that write nothing, one after another
pub stays_then : {old middle new : DiskState} → ((t : ℕ) (c : List ℕ) → t ≤ old.moment → old.images c → old.images_since t c)
    → Stays old middle → Stays middle new → Stays old new
stays_then counts first second = record {
  chosen = second.chosen ∙ first.chosen;
  content = second.content ∙ first.content;
  room = second.room ∙ first.room;
  crash = λ c left. first.crash c (second.crash c left);
  time = record {
    later = omega (arith, first.time.later, second.time.later);
    nothing_else = λ t c le left. ⊎_elim
        (λ middle. ⊎_elim (λ was. inl was) (λ now. inl (counts t c le (first.crash c now))) (first.time.nothing_else t c le middle))
        (λ now. inr now)
        (second.time.nothing_else t c (omega (arith, le, first.time.later)) left);
    keeps = λ t c le left. second.time.keeps t c (omega (arith, le, first.time.later)) (first.time.keeps t c le left);
  };
}

-- a crash during calls that write nothing leaves what it could leave before
pub stays_leaves : {old new : DiskState} → ((c : List ℕ) → old.images_since old.moment c → old.images c) → Stays old new → LeavesOnly old new old.images
stays_leaves {old} only stays = goes_on (started old only) stays.time stays.crash

-- what is left has both
pub leaves_both : {old new : DiskState} {P Q : List ℕ → Type 0} → LeavesOnly old new P → LeavesOnly old new Q → LeavesOnly old new (λ c. P c × Q c)
leaves_both first second = record {
  later = first.later;
  each = λ c left. (first.each c left, second.each c left);
  before = λ t c le left. ⊎_elim
      (λ was. inl was)
      (λ p. ⊎_elim (λ was. inl was) (λ q. inr (p, q)) (second.before t c le left))
      (first.before t c le left);
}
