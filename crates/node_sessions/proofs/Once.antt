-- The sessions of a node grant no unit twice.
use Rattle.std.proofs.Common.{◌≡◌, ℕ, zero, suc, ◌-◌, ◌^◌, ◌≤◌, Bool, true, false, not, nat_eq, List, [], ◌∷◌, ◌++◌, length, get_or, refl, sym, ap, ◌∙◌, subst, arith, Option, None, Some, IfSome}
use Rattle.std.specs.Prelude.{Result, Ok, Err, MatchOption}
use Rattle.std.proofs.lemmas.Bool.{and_parts, eqb-false, not-true, true≢false}
use Rattle.std.proofs.lemmas.List.Elements.{All-weaker}
use Rattle.zk_model.specs.declared.Span.{Span}
use Rattle.zk_model.specs.declared.messages.Block.{Block}
use Rattle.zk_port.specs.Disks.{DiskState}
use Rattle.zk_port.specs.Links.{LinkState}
use Rattle.lease_store.specs.declared.grantor.GrantFault.{GrantFault}
use Rattle.claim_store.specs.Claims.{ClaimState}
use Rattle.claim_store.specs.declared.ClaimFault.{ClaimFault}
use Rattle.broker_core.specs.Messages.{units_of}
use Rattle.broker_node.specs.NodeStates.{IsTakeOf, NodeState, takes_own}
use Rattle.session_core.specs.Jobs.{VerifierJobs}
use Rattle.session_pool.specs.Notes.{AreGrantsApart, granted_by}
use Rattle.session_verifier.specs.declared.note.SessionNote.{SessionNote}
use Rattle.node_grants.specs.Desks.{Desk, Draws}
use Rattle.node_grants.specs.Grants.{IsGrantOf, Ports, ports_of}
use Rattle.node_sessions.specs.Sessions.{HaveLed, IsLed, size_of}
use Rattle.node_sessions.specs.Laws.{GrantedUnitsAreClaimed, GrantsClaim, IsNewlyClaimed, IsSized, LaterGrantsAreApart, SessionsGrantOnce}
use Rattle.node_sessions.proofs.Held.{AreHeld, IsGrantedSo, apart_by, block_gone, block_held, none_held, session_drawn, session_none}
use Rattle.node_sessions.proofs.Walks.{LeavesGrant, grant_keeps}

-- so it is with what a node holds and a store claims
pub record HoldsOnce {L B : Type 0} (jobs : VerifierJobs) (total : ℕ) (first : List Span) (notes : List (SessionNote L)) (node : NodeState) (claims : ClaimState B) : Type 0 where
  pub total_is : claims.total ≡ total
  pub held : AreHeld (λ m. m.granted) (λ m. size_of jobs m) total first notes node.own.block claims.claims

-- a Block that a node takes has units
has_units : (node : NodeState) (b : Block) → takes_own node b ≡ true → 1 ≤ b.count
has_units node b takes =
    let own = (and_parts (nat_eq node.node b.node) _ takes).1 in
    let more = (and_parts (nat_eq node.own.number b.number) _ own).1 in
    let some = (and_parts (not (nat_eq node.own.number (2 ^ 64 - 1))) (not (nat_eq b.count 0)) more).1 in
    above b.count (eqb-false b.count 0 (not-true (nat_eq b.count 0) some)) where
      above : (n : ℕ) → (n ≡ 0 → ⊥) → 1 ≤ n
      above zero other = absurd (other refl)
      above (suc n) other = omega arith

taken_once : {L B : Type 0} (jobs : VerifierJobs) (total : ℕ) (first : List Span) (notes : List (SessionNote L)) (node : NodeState) (claims : ClaimState B)
    (b : Block) (answer : Result Bool ClaimFault) (now : NodeState) (new : ClaimState B) → IsTakeOf node claims b answer now new
    → HoldsOnce jobs total first notes node claims → HoldsOnce jobs total first notes now new
taken_once {L} {B} jobs total first notes node claims b (Ok false) now new takes once =
    subst (λ (q : NodeState × ClaimState B). HoldsOnce jobs total first notes q.0 q.1) (λ i. (sym takes.1 i, sym takes.2 i)) once
taken_once jobs total first notes node claims b (Ok true) now new takes once = record {
  total_is = takes.4 ∙ once.total_is;
  held = subst (λ (h : Option Span). AreHeld (λ m. m.granted) (λ m. size_of jobs m) total first notes h new.claims)
      (sym (ap (λ (n : NodeState). n.own.block) takes.1))
      (block_held (λ m. m.granted) (λ m. size_of jobs m) total first notes node.own.block claims.claims new.claims (units_of b) once.held takes.3
      takes.2.apart (omega (arith, has_units node b takes.0)) (let low = takes.2.within in let same = once.total_is in omega (arith, low, same)));
}
taken_once jobs total first notes node claims b (Err fault) now new takes once = record {
  total_is = takes.3 ∙ once.total_is;
  held = subst (λ (q : Option Span × List Span). AreHeld (λ m. m.granted) (λ m. size_of jobs m) total first notes q.0 q.1)
      (λ i. (sym (ap (λ (n : NodeState). n.own.block) takes.1) i, sym takes.2 i))
      (block_gone (λ m. m.granted) (λ m. size_of jobs m) total first notes node.own.block claims.claims once.held);
}

-- ---- a session

drawn_once : {L B : Type 0} (jobs : VerifierJobs) (total : ℕ) (first : List Span) (notes : List (SessionNote L)) (note : SessionNote L) (s : Span)
    (mid new : Desk B L) → 1 ≤ size_of jobs note → note.granted ≡ Some s → HoldsOnce jobs total first notes mid.node mid.claims
    → Draws (size_of jobs note) s mid new → HoldsOnce jobs total first (notes ++ note ∷ []) new.node new.claims
drawn_once jobs total first notes note s mid new least granted once draws =
    let held = subst (λ (h : Option Span). AreHeld (λ m. m.granted) (λ m. size_of jobs m) total first notes h mid.claims.claims) draws.held once.held in
    let drawn = session_drawn (λ m. m.granted) (λ m. size_of jobs m) total first notes draws.block mid.claims.claims note held least draws.enough
    (granted ∙ ap (λ (d : Span). Some d) draws.drawn_is) in
    subst (λ (d : Desk _ _). HoldsOnce jobs total first (notes ++ note ∷ []) d.node d.claims) (sym draws.rest)
    (record { total_is = once.total_is; held = drawn })

led_once : {B L : Type 0} (ports : Ports B L) (jobs : VerifierJobs) (total : ℕ) (first : List Span) (notes : List (SessionNote L)) (note : SessionNote L)
    (old new : Desk B L) → IsLed ports jobs old new note → HoldsOnce jobs total first notes old.node old.claims
    → HoldsOnce jobs total first (notes ++ note ∷ []) new.node new.claims
led_once {B} {L} ports jobs total first notes note old new led once = by led.answer led.granted led.moved where
  after_none : (node : NodeState) (claims : ClaimState B) → note.granted ≡ None → HoldsOnce jobs total first notes node claims
      → HoldsOnce jobs total first (notes ++ note ∷ []) node claims
  after_none node claims none holds = record {
    total_is = holds.total_is;
    held = session_none (λ m. m.granted) (λ m. size_of jobs m) total first notes node.own.block claims.claims note holds.held none;
  }

  granted : (a : Result Span GrantFault) → note.granted ≡ granted_by (Some a)
      → LeavesGrant (λ node claims. HoldsOnce jobs total first notes node claims) (size_of jobs note) a new
      → HoldsOnce jobs total first (notes ++ note ∷ []) new.node new.claims
  granted (Ok s) is left = drawn_once jobs total first notes note s left.0 new led.least is left.1 left.2
  granted (Err fault) is left = after_none new.node new.claims is left

  by : (answer : Option (Result Span GrantFault)) → note.granted ≡ granted_by answer
      → MatchOption answer (new ≡ old) (λ a. IsGrantOf ports (size_of jobs note) a old new)
      → HoldsOnce jobs total first (notes ++ note ∷ []) new.node new.claims
  by None is same = subst (λ (d : Desk _ _). HoldsOnce jobs total first (notes ++ note ∷ []) d.node d.claims) (sym same) (after_none old.node old.claims is once)
  by (Some a) is moved = granted a is
      (grant_keeps ports (λ node claims. HoldsOnce jobs total first notes node claims)
      (λ node claims b answer now new taken. taken_once jobs total first notes node claims b answer now new taken.taken)
      (size_of jobs note) a old new moved once)

pub have_led_once : {B L : Type 0} (ports : Ports B L) (jobs : VerifierJobs) (n : ℕ) (first new : Desk B L) (notes : List (SessionNote L))
    → first.node.own.block ≡ None → HaveLed ports jobs n first new notes
    → HoldsOnce jobs first.claims.total first.claims.claims notes new.node new.claims
have_led_once {B} {L} ports jobs zero first new notes none led =
    subst (λ (q : Desk B L × List (SessionNote L)). HoldsOnce jobs first.claims.total first.claims.claims q.1 q.0.node q.0.claims)
    (λ i. (sym led.0 i, sym led.1 i))
    (record {
      total_is = refl;
      held = subst (λ (h : Option Span). AreHeld {M = SessionNote L} (λ m. m.granted) (λ m. size_of jobs m) first.claims.total first.claims.claims [] h first.claims.claims)
          (sym none) (none_held {M = SessionNote L} (λ m. m.granted) (λ m. size_of jobs m) first.claims.total first.claims.claims);
    })
have_led_once ports jobs (suc n) first new notes none led =
    let mid = led.0 in
    let next = led.4 in
    subst (λ (l : List (SessionNote _)). HoldsOnce jobs first.claims.total first.claims.claims l new.node new.claims) (sym led.5)
    (led_once ports jobs first.claims.total first.claims.claims led.1 led.2 (record mid { door = next.door; tries = [] }) new next.led
    (have_led_once ports jobs n first mid led.1 none led.3))

-- ---- what was granted

sized : (units total : ℕ) (earlier later : List Span) (g : Option Span) → IfSome g (λ s. IsGrantedSo units total earlier later s) → IsSized units total g
sized units total earlier later None so = tt
sized units total earlier later (Some s) so = let size = so.size in let least = so.least in (omega (arith, size, least), size, so.within)

newly : (units total : ℕ) (earlier later : List Span) (g : Option Span) → IfSome g (λ s. IsGrantedSo units total earlier later s) → IsNewlyClaimed earlier later g
newly units total earlier later None so = tt
newly units total earlier later (Some s) so = so.new

pub sessions_grant_once : {B L : Type 0} (tells : L → LinkState) (state : B → DiskState) → SessionsGrantOnce tells state
sessions_grant_once tells state broker patience jobs sessions first door claims door_failed memory_failed notes none serves =
    let once = have_led_once (ports_of tells state broker patience) jobs (length notes) first serves.last notes none serves.led in
    record {
      apart = once.held.apart;
      sized = All-weaker _ (λ note. IsSized (size_of jobs note) first.claims.total note.granted)
          (λ m. sized (size_of jobs m) first.claims.total first.claims.claims serves.last.claims.claims m.granted) notes once.held.each;
    }

pub granted_units_are_claimed : {B L : Type 0} (tells : L → LinkState) (state : B → DiskState) → GrantedUnitsAreClaimed tells state
granted_units_are_claimed tells state broker patience jobs sessions first door claims door_failed memory_failed notes none serves =
    let once = have_led_once (ports_of tells state broker patience) jobs (length notes) first serves.last notes none serves.led in
    subst (λ (c : ClaimState _). GrantsClaim first.claims.claims c.claims notes) (sym serves.claims_are)
    (All-weaker _ (λ note. IsNewlyClaimed first.claims.claims serves.last.claims.claims note.granted)
    (λ m. newly (size_of jobs m) first.claims.total first.claims.claims serves.last.claims.claims m.granted) notes once.held.each)

-- ---- later sessions

apart_from : (units others total whole : ℕ) (first left last : List Span) (g h : Option Span) → IsSized units total g → IsNewlyClaimed first left g
    → IsSized others whole h → IsNewlyClaimed left last h → AreGrantsApart g h
apart_from units others total whole first left last None h one new other more = tt
apart_from units others total whole first left last (Some s) None one new other more = tt
apart_from units others total whole first left last (Some s) (Some t) one new other more =
    apart_by s t one.0 other.0 (λ unit has has_too. true≢false (sym (new unit has).0 ∙ (more unit has_too).1))

pub later_grants_are_apart : (L M : Type 0) → LaterGrantsAreApart L M
later_grants_are_apart L M jobs others total whole first left last notes more once claimed again claims k d below i e within =
    let m = get_or notes k d in
    let n = get_or more i e in
    apart_from (size_of jobs m) (size_of others n) total whole first left last m.granted n.granted (once.sized k d below) (claimed k d below)
    (again.sized i e within) (claims i e within)
