-- What a crash leaves of the journal of a node's claims.
use Rattle.std.proofs.Common.{◌≡◌, ℕ, zero, suc, ◌-◌, ◌^◌, ◌<◌, ◌≤◌, ◌⊎◌, inl, inr, ⊎_elim, Bool, true, false, List, [], ◌∷◌, ◌++◌, length, sym, ap, ◌∙◌, subst, arith, Option, None, Some, IfSome, length-append}
use Rattle.std.specs.Prelude.{Result, Ok, Err}
use Rattle.std.proofs.lemmas.Bool.{cases_lt}
use Rattle.std.proofs.lemmas.List.{append-nil, append_assoc}
use Rattle.std.proofs.lemmas.List.Elements.{All-weaker}
use Rattle.zk_model.specs.declared.Span.{Span}
use Rattle.zk_model.specs.declared.messages.Block.{Block}
use Rattle.zk_port.specs.Disks.{DiskState, LeavesOnly}
use Rattle.zk_port.specs.Links.{LinkState}
use Rattle.claim_store.specs.ClaimedRanges.{has_unit, is_claimed}
use Rattle.claim_store.specs.Claims.{AreDurable, ClaimState, SaysClaims, SaysOldOrNewClaims}
use Rattle.claim_store.specs.declared.ClaimFault.{ClaimFault}
use Rattle.claim_store.specs.declared.ClaimFault.TheVariants.{Broken, OutOfRange, Overlap, Full, Device, NoMemory}
use Rattle.broker_core.specs.Messages.{units_of}
use Rattle.broker_node.specs.NodeStates.{IsTakeOf, NodeState, takes_own}
use Rattle.session_core.specs.Jobs.{VerifierJobs}
use Rattle.session_verifier.specs.declared.note.SessionNote.{SessionNote}
use Rattle.node_grants.specs.Desks.{Desk}
use Rattle.node_grants.specs.Grants.{IsTaken, Ports, ports_of}
use Rattle.node_sessions.specs.Sessions.{HaveLed, LeadsNext, size_of}
use Rattle.node_sessions.specs.Laws.{ClaimsStay}
use Rattle.node_sessions.specs.Journals.{JournalsSayGrants, LeavesGrants, SaysGrants, TellsContent}
use Rattle.node_sessions.proofs.Held.{IsGrantedSo, claimed_before}
use Rattle.node_sessions.proofs.Kept.{keeps_all, keeps_then, taken_keeps}
use Rattle.node_sessions.proofs.Once.{have_led_once}
use Rattle.node_sessions.proofs.Walks.{StaysDrawn, StaysOver, have_led_keep, led_keeps}

-- this moment counts among those since an earlier one, and there is no other since itself
pub record TellsMoments {B : Type 0} (state : B → DiskState) : Type 0 where
  pub counts : (disk : B) (t : ℕ) (c : List ℕ) → t ≤ (state disk).moment → (state disk).images c → (state disk).images_since t c
  pub only : (disk : B) (c : List ℕ) → (state disk).images_since (state disk).moment c → (state disk).images c

-- bytes say claims, among which are those of a store
record SaysAll {B : Type 0} (claims : ClaimState B) (bytes : List ℕ) : Type 0 where
  pub ranges : List Span
  pub says : SaysClaims claims.total claims.begin claims.slots ranges bytes
  pub kept : (unit : ℕ) → is_claimed claims.claims unit ≡ true → is_claimed ranges unit ≡ true

-- what later claims say, earlier ones do
says_ranges : {B : Type 0} (state : B → DiskState) (old new : ClaimState B) (ranges : List Span) (bytes : List ℕ) → ClaimsStay state old new
    → SaysClaims new.total new.begin new.slots ranges bytes → SaysClaims old.total old.begin old.slots ranges bytes
says_ranges state old new ranges bytes kept says =
    subst (λ (t : ℕ). SaysClaims t old.begin old.slots ranges bytes) kept.total
    (subst (λ (b : ℕ). SaysClaims new.total b old.slots ranges bytes) kept.begin
    (subst (λ (s : ℕ). SaysClaims new.total new.begin s ranges bytes) kept.slots says))

says_earlier : {B : Type 0} (state : B → DiskState) (old new : ClaimState B) (bytes : List ℕ) → ClaimsStay state old new → SaysAll new bytes → SaysAll old bytes
says_earlier state old new bytes kept says = record {
  ranges = says.ranges;
  says = says_ranges state old new says.ranges bytes kept says.says;
  kept = λ unit claimed. says.kept unit (kept.kept unit claimed);
}

says_old_or_new : {B : Type 0} (claims : ClaimState B) (s : Span) (bytes : List ℕ)
    → SaysOldOrNewClaims claims.total claims.begin claims.slots claims.claims s bytes → SaysAll claims bytes
says_old_or_new claims s bytes (inl old) = record { ranges = claims.claims; says = old; kept = λ unit claimed. claimed }
says_old_or_new claims s bytes (inr more) = record {
  ranges = more.ranges;
  says = more.says;
  kept = λ unit claimed. claimed_before claims.claims more.ranges s unit more.merged claimed;
}

-- ---- one thing after another

leaves_then : (a b c : DiskState) (P Q : List ℕ → Type 0) → LeavesOnly a b P → LeavesOnly b c Q → ((x : List ℕ) → Q x → P x) → LeavesOnly a c P
leaves_then a b c P Q one next weaker = record {
  later = let x = one.later in let y = next.later in omega (arith, x, y);
  each = λ x since. ⊎_elim (λ early. one.each x early) (λ late. weaker x late) (next.before a.moment x one.later since);
  before = λ t x early since. by t x early (next.before t x (let y = one.later in omega (arith, early, y)) since);
}
  where
    by : (t : ℕ) (x : List ℕ) → t ≤ a.moment → b.images_since t x ⊎ Q x → a.images_since t x ⊎ P x
    by t x early (inl since) = one.before t x early since
    by t x early (inr late) = inr (weaker x late)

-- What holds of a store: while it is whole its claims are durable, and what a crash leaves now says them.
record Stands {B : Type 0} (state : B → DiskState) (claims : ClaimState B) : Type 0 where
  pub durable : claims.fault ≡ 0 → AreDurable state claims
  pub images : (c : List ℕ) → (state claims.disk).images c → SaysAll claims c

-- from one store to another, which is later
record GoesOn {B : Type 0} (state : B → DiskState) (old new : ClaimState B) : Type 0 where
  pub kept : ClaimsStay state old new
  pub stands : Stands state new
  pub leaves : LeavesOnly (state old.disk) (state new.disk) (SaysAll old)

stays_on : {B : Type 0} (state : B → DiskState) → TellsMoments state → (claims : ClaimState B) → Stands state claims → GoesOn state claims claims
stays_on state moments claims stands = record {
  kept = keeps_all state claims;
  stands = stands;
  leaves = record {
    later = omega arith;
    each = λ c since. stands.images c (moments.only claims.disk c since);
    before = λ t c early since. inl since;
  };
}

goes_then : {B : Type 0} (state : B → DiskState) (old mid new : ClaimState B) → GoesOn state old mid → GoesOn state mid new → GoesOn state old new
goes_then state old mid new one next = record {
  kept = keeps_then state old mid new one.kept next.kept;
  stands = next.stands;
  leaves = leaves_then (state old.disk) (state mid.disk) (state new.disk) (SaysAll old) (SaysAll mid) one.leaves next.leaves
      (λ c says. says_earlier state old mid c one.kept says);
}

-- durable claims are said by each image
durable_stands : {B : Type 0} (state : B → DiskState) → TellsContent state → (claims : ClaimState B) → AreDurable state claims → Stands state claims
durable_stands {B} state tells claims durable = record {
  durable = λ whole. durable;
  images = λ c image. record { ranges = claims.claims; says = said (tells claims.disk).0 (tells claims.disk).1 durable c image; kept = λ unit claimed. claimed };
}
  where
    said : (bytes : List ℕ) → (state claims.disk).content ≡ Some bytes → AreDurable state claims
        → (c : List ℕ) → (state claims.disk).images c → SaysClaims claims.total claims.begin claims.slots claims.claims c
    said bytes is all c image =
        (subst (λ (o : Option (List ℕ)). IfSome o (λ bytes. SaysClaims claims.total claims.begin claims.slots claims.claims bytes
        × ((image : List ℕ) → (state claims.disk).images image → SaysClaims claims.total claims.begin claims.slots claims.claims image))) is all).1 c image

-- ---- a Block that is taken

leaves_weaker : (a b : DiskState) (P Q : List ℕ → Type 0) → LeavesOnly a b P → ((x : List ℕ) → P x → Q x) → LeavesOnly a b Q
leaves_weaker a b P Q leaves weaker = record {
  later = leaves.later;
  each = λ x since. weaker x (leaves.each x since);
  before = λ t x early since. ⊎_elim (λ was. inl was) (λ p. inr (weaker x p)) (leaves.before t x early since);
}

-- a claim of it was written, or a part of it
written : {B : Type 0} (state : B → DiskState) → TellsContent state → (node : NodeState) (claims : ClaimState B) (b : Block)
    (answer : Result Bool ClaimFault) (now : NodeState) (new : ClaimState B) → claims.total < 2 ^ 64 - 1 → IsTaken state node claims b answer now new
    → takes_own node b ≡ true → claims.fault ≡ 0 → LeavesOnly (state claims.disk) (state new.disk) (SaysAll claims)
written state tells node claims b answer now new low taken own whole =
    leaves_weaker (state claims.disk) (state new.disk) (SaysOldOrNewClaims claims.total claims.begin claims.slots claims.claims (units_of b)) (SaysAll claims)
    (taken.any_moment own whole low (tells claims.disk).0 (tells claims.disk).1) (λ c says. says_old_or_new claims (units_of b) c says)

says_same : {B : Type 0} (old new : ClaimState B) (bytes : List ℕ) → new.total ≡ old.total → new.begin ≡ old.begin → new.slots ≡ old.slots
    → new.claims ≡ old.claims → SaysAll old bytes → SaysAll new bytes
says_same old new bytes total begin slots same says = record {
  ranges = says.ranges;
  says = subst (λ (t : ℕ). SaysClaims t new.begin new.slots says.ranges bytes) (sym total)
      (subst (λ (b : ℕ). SaysClaims old.total b new.slots says.ranges bytes) (sym begin)
      (subst (λ (s : ℕ). SaysClaims old.total old.begin s says.ranges bytes) (sym slots) says.says));
  kept = λ unit claimed. says.kept unit (subst (λ (l : List Span). is_claimed l unit ≡ true) same claimed);
}

-- the disk failed in its claim
failed_on : {B : Type 0} (state : B → DiskState) → TellsMoments state → TellsContent state → (node : NodeState) (claims : ClaimState B) (b : Block)
    (now : NodeState) (new : ClaimState B) → claims.total < 2 ^ 64 - 1 → IsTaken state node claims b (Err Device) now new
    → IsTakeOf node claims b (Err Device) now new → GoesOn state claims new
failed_on state moments tells node claims b now new low taken takes =
    let leaves = written state tells node claims b (Err Device) now new low taken takes.0 taken.cause.0.whole in
    record {
      kept = taken_keeps state node claims b (Err Device) now new taken;
      stands = record {
        durable = λ whole. let some = taken.cause.3 in absurd (omega (arith, whole, some));
        images = λ c image. says_same claims new c takes.3 taken.begin taken.slots takes.2
            (leaves.each c (moments.counts new.disk (state claims.disk).moment c leaves.later image));
      };
      leaves = leaves;
    }

taken_on : {B : Type 0} (state : B → DiskState) → TellsMoments state → TellsContent state → (node : NodeState) (claims : ClaimState B) (b : Block)
    (answer : Result Bool ClaimFault) (now : NodeState) (new : ClaimState B) → claims.total < 2 ^ 64 - 1 → Stands state claims
    → IsTaken state node claims b answer now new → IsTakeOf node claims b answer now new → GoesOn state claims new
taken_on {B} state moments tells node claims b (Ok false) now new low stands taken takes =
    subst (λ (c : ClaimState B). GoesOn state claims c) (sym takes.2) (stays_on state moments claims stands)
taken_on state moments tells node claims b (Ok true) now new low stands taken takes = record {
  kept = taken_keeps state node claims b (Ok true) now new taken;
  stands = durable_stands state tells new (taken.durable takes.0 low);
  leaves = written state tells node claims b (Ok true) now new low taken takes.0 takes.2.whole;
}
taken_on state moments tells node claims b (Err Device) now new low stands taken takes = failed_on state moments tells node claims b now new low taken takes
taken_on {B} state moments tells node claims b (Err (Broken first)) now new low stands taken takes =
    subst (λ (c : ClaimState B). GoesOn state claims c) (sym taken.cause.1) (stays_on state moments claims stands)
taken_on {B} state moments tells node claims b (Err (OutOfRange total)) now new low stands taken takes =
    subst (λ (c : ClaimState B). GoesOn state claims c) (sym taken.cause.1) (stays_on state moments claims stands)
taken_on {B} state moments tells node claims b (Err (Overlap earlier)) now new low stands taken takes =
    subst (λ (c : ClaimState B). GoesOn state claims c) (sym taken.cause.1) (stays_on state moments claims stands)
taken_on {B} state moments tells node claims b (Err (Full slots)) now new low stands taken takes =
    subst (λ (c : ClaimState B). GoesOn state claims c) (sym taken.cause.1) (stays_on state moments claims stands)
taken_on {B} state moments tells node claims b (Err NoMemory) now new low stands taken takes =
    subst (λ (c : ClaimState B). GoesOn state claims c) (sym taken.cause.1) (stays_on state moments claims stands)

-- ---- sessions

goes_over : {B : Type 0} (state : B → DiskState) → TellsMoments state → TellsContent state → (first : ClaimState B) → first.total < 2 ^ 64 - 1
    → StaysOver state (λ node claims. GoesOn state first claims)
goes_over state moments tells first low node claims b answer now new taken goes =
    let total = goes.kept.total in
    goes_then state first claims new goes
    (taken_on state moments tells node claims b answer now new (omega (arith, low, total)) goes.stands taken taken.taken)

goes_drawn : {B : Type 0} (state : B → DiskState) (first : ClaimState B) → StaysDrawn (λ node claims. GoesOn state first claims)
goes_drawn state first node claims left goes = goes

have_led_on : {B L : Type 0} (ports : Ports B L) → TellsMoments ports.state → TellsContent ports.state → (jobs : VerifierJobs) (n : ℕ)
    (first new : Desk B L) (notes : List (SessionNote L)) → first.claims.total < 2 ^ 64 - 1 → Stands ports.state first.claims
    → HaveLed ports jobs n first new notes → GoesOn ports.state first.claims new.claims
have_led_on ports moments tells jobs n first new notes low stands led =
    have_led_keep ports (λ node claims. GoesOn ports.state first.claims claims) (goes_over ports.state moments tells first.claims low)
    (goes_drawn ports.state first.claims) jobs n first new notes led (stays_on ports.state moments first.claims stands)

led_on : {B L : Type 0} (ports : Ports B L) → TellsMoments ports.state → TellsContent ports.state → (jobs : VerifierJobs) (old new : Desk B L)
    (note : SessionNote L) → old.claims.total < 2 ^ 64 - 1 → Stands ports.state old.claims → LeadsNext ports jobs old new note
    → GoesOn ports.state old.claims new.claims
led_on ports moments tells jobs old new note low stands next =
    led_keeps ports (λ node claims. GoesOn ports.state old.claims claims) (goes_over ports.state moments tells old.claims low)
    (goes_drawn ports.state old.claims) jobs (record old { door = next.door; tries = [] }) new note next.led
    (stays_on ports.state moments old.claims stands)

led_count : {B L : Type 0} (ports : Ports B L) (jobs : VerifierJobs) (n : ℕ) (first new : Desk B L) (notes : List (SessionNote L))
    → HaveLed ports jobs n first new notes → length notes ≡ n
led_count ports jobs zero first new notes led = ap length led.1
led_count ports jobs (suc n) first new notes led =
    omega (arith, ap length led.5, length-append led.1 (led.2 ∷ []), led_count ports jobs n first led.0 led.1 led.3)

-- so many of these sessions, and what is left of the store behind them
record LedTo {B L : Type 0} (ports : Ports B L) (jobs : VerifierJobs) (first new : Desk B L) (notes : List (SessionNote L)) (m : ℕ) : Type 0 where
  pub mid : Desk B L
  pub before : List (SessionNote L)
  pub after : List (SessionNote L)
  pub split : notes ≡ before ++ after
  pub led : HaveLed ports jobs m first mid before
  pub goes : GoesOn ports.state mid.claims new.claims

led_to_all : {B L : Type 0} (ports : Ports B L) → TellsMoments ports.state → TellsContent ports.state → (jobs : VerifierJobs) (n m : ℕ)
    (first new : Desk B L) (notes : List (SessionNote L)) → first.claims.total < 2 ^ 64 - 1 → Stands ports.state first.claims
    → HaveLed ports jobs n first new notes → n ≡ m → LedTo ports jobs first new notes m
led_to_all ports moments tells jobs n m first new notes low stands led same = record {
  mid = new;
  before = notes;
  after = [];
  split = sym (append-nil notes);
  led = subst (λ (k : ℕ). HaveLed ports jobs k first new notes) same led;
  goes = stays_on ports.state moments new.claims (have_led_on ports moments tells jobs n first new notes low stands led).stands;
}

led_to : {B L : Type 0} (ports : Ports B L) → TellsMoments ports.state → TellsContent ports.state → (jobs : VerifierJobs) (n m : ℕ)
    (first new : Desk B L) (notes : List (SessionNote L)) → first.claims.total < 2 ^ 64 - 1 → Stands ports.state first.claims
    → HaveLed ports jobs n first new notes → m ≤ n → LedTo ports jobs first new notes m
led_to ports moments tells jobs zero m first new notes low stands led few =
    led_to_all ports moments tells jobs zero m first new notes low stands led (omega (arith, few))
led_to {B} {L} ports moments tells jobs (suc n) m first new notes low stands led few =
    by (λ fewer. led_to ports moments tells jobs n m first led.0 led.1 low stands led.3 fewer) (cases_lt m (suc n)) where
      by : (m ≤ n → LedTo ports jobs first led.0 led.1 m) → ((m < suc n) ⊎ (suc n ≤ m)) → LedTo ports jobs first new notes m
      by before (inr all) = led_to_all ports moments tells jobs (suc n) m first new notes low stands led (omega (arith, few, all))
      by before (inl fewer) =
          let earlier = before (omega (arith, fewer)) in
          let there = have_led_on ports moments tells jobs n first led.0 led.1 low stands led.3 in
          let total = there.kept.total in
          record {
            mid = earlier.mid;
            before = earlier.before;
            after = earlier.after ++ led.2 ∷ [];
            split = led.5 ∙ ap (λ (l : List (SessionNote L)). l ++ led.2 ∷ []) earlier.split ∙ append_assoc earlier.before earlier.after (led.2 ∷ []);
            led = earlier.led;
            goes = goes_then ports.state earlier.mid.claims led.0.claims new.claims earlier.goes
                (led_on ports moments tells jobs led.0 new led.2 (omega (arith, low, total)) there.stands led.4);
          }

-- ---- what was granted

says_granted : (units total : ℕ) (first claims ranges : List Span) (g : Option Span) → ((unit : ℕ) → is_claimed claims unit ≡ true → is_claimed ranges unit ≡ true)
    → IfSome g (λ s. IsGrantedSo units total first claims s) → IfSome g (λ s. (unit : ℕ) → has_unit unit s ≡ true → is_claimed ranges unit ≡ true)
says_granted units total first claims ranges None kept so = tt
says_granted units total first claims ranges (Some s) kept so = λ unit has. kept unit (so.new unit has).0

leaves_grants : {B L : Type 0} (ports : Ports B L) → TellsMoments ports.state → (jobs : VerifierJobs) (first : Desk B L) (last : ClaimState B)
    (notes : List (SessionNote L)) (count n : ℕ) (new : Desk B L) → first.node.own.block ≡ None → last ≡ new.claims
    → HaveLed ports jobs count first new notes → TellsContent ports.state → first.claims.total < 2 ^ 64 - 1 → AreDurable ports.state first.claims
    → n ≤ count → LeavesGrants ports jobs first last notes n
leaves_grants {B} {L} ports moments jobs first last notes count n new none is led tells low durable few =
    let stands = durable_stands ports.state tells first.claims durable in
    let to = led_to ports moments tells jobs count n first new notes low stands led few in
    let once = have_led_once ports jobs n first to.mid to.before none to.led in
    let on = have_led_on ports moments tells jobs n first to.mid to.before low stands to.led in
    record {
      mid = to.mid;
      before = to.before;
      after = to.after;
      split = to.split;
      count = led_count ports jobs n first to.mid to.before to.led;
      led = to.led;
      leaves = subst (λ (c : ClaimState B). LeavesOnly (ports.state to.mid.claims.disk) (ports.state c.disk) (SaysGrants first.claims to.before)) (sym is)
          (leaves_weaker (ports.state to.mid.claims.disk) (ports.state new.claims.disk) (SaysAll to.mid.claims) (SaysGrants first.claims to.before) to.goes.leaves
          (λ c says. record {
            ranges = says.ranges;
            says = says_ranges ports.state first.claims to.mid.claims says.ranges c on.kept says.says;
            kept = λ unit claimed. says.kept unit (on.kept.kept unit claimed);
            granted = All-weaker _ (λ note. IfSome note.granted (λ s. (unit : ℕ) → has_unit unit s ≡ true → is_claimed says.ranges unit ≡ true))
                (λ m. says_granted (size_of jobs m) first.claims.total first.claims.claims to.mid.claims.claims says.ranges m.granted says.kept)
                to.before once.held.each;
          }));
    }

pub journals_say_grants : {B L : Type 0} (tells : L → LinkState) (state : B → DiskState) → TellsMoments state → JournalsSayGrants tells state
journals_say_grants tells state moments broker patience jobs sessions first door claims door_failed memory_failed notes none serves told whole low durable n few =
    leaves_grants (ports_of tells state broker patience) moments jobs first claims notes (length notes) n serves.last none serves.claims_are serves.led told low
    durable few
