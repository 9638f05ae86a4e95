-- The steps of a lease, as events of the lease machine, and how it ends.
use Rattle.std.specs.Prelude.{◌≡◌, ℕ, ◌+◌, ◌≤◌, Bool, true, false, cond, Option, None, Some, List, [], ◌∷◌, ◌++◌, length, take, nat_eq, nat_lt, slice_index, slice_index_or, slice_set}
use Rattle.lease_core.specs.Spans.{span}
use Rattle.lease_core.specs.Machine.{Machine, after_all, is_passed, last_drawn}
use Rattle.lease_core.specs.declared.event.Event.{Event}
use Rattle.lease_core.specs.declared.event.Event.TheVariants.{Begin, Draw, Look, Put, Raise, Spend, Claim, Crash}
use Rattle.lease_core.specs.declared.event.Moment.TheVariants.{Body, BodySync, Gate, GateSync}
use Rattle.zk_model.specs.declared.Span.{Span}
use Rattle.broker_core.specs.Messages.{block_of, given, rounded}
use Rattle.broker_core.specs.declared.message.Kept.{Kept}
use Rattle.broker_core.specs.declared.message.LeaseEnd.{LeaseEnd}
use Rattle.broker_core.specs.declared.message.LeaseEnd.TheVariants.{Leased, Exhausted, Refused}
use Rattle.broker_core.specs.declared.message.Message.{Message}
use Rattle.broker_core.specs.declared.message.Message.TheVariants as message
use Rattle.zk_model.specs.declared.messages.Want.{Want}

-- the units that a draw of n gives
abbrev pub next_span : Machine → ℕ → Span
next_span m n = span m.next (m.next + n)

-- the broker's one pass was refused
abbrev pub is_refused : Machine → Bool
is_refused m = is_passed m.total 0 m.drawn

-- where what the pass drew last begins
abbrev pub last_start : Machine → ℕ
last_start m = given (last_drawn 0 m.drawn) 0 (λ s. s.start)

-- what follows a draw: a look where the ceiling that the pass knows is too low
abbrev pub look_steps : Bool → List Event
look_steps false = []
look_steps true = Look 0 ∷ []

-- and where the ceiling shown is too low, a put of the next one, which is then shown and seen; or nothing, where an earlier put stands
abbrev pub grant_steps : Bool → Bool → Span → List Event
grant_steps false stands s = Spend 0 s ∷ []
grant_steps true true s = []
grant_steps true false s =
    Put (Body 0) ∷ Put BodySync ∷ Put Gate ∷ Put GateSync ∷ Raise ∷ Look 0 ∷ Spend 0 s ∷ []

-- no draw where the pass was refused before; nothing after it where the units end above the total
abbrev pub draw_steps : Bool → Bool → ℕ → List Event → List Event
draw_steps true over n more = []
draw_steps false true n more = Draw 0 n ∷ []
draw_steps false false n more = Draw 0 n ∷ more

-- the steps of a lease of n units
abbrev pub lease_steps : Machine → ℕ → List Event
lease_steps m n = draw_steps (is_refused m) (nat_lt m.total (m.next + n)) n
    (look_steps (nat_lt (slice_index m.known 0) (m.next + n))
    ++ grant_steps (nat_lt m.shown (m.next + n)) (nat_lt 0 m.stage) (next_span m n))

-- and its end
abbrev pub grant_end : Bool → Bool → Span → LeaseEnd
grant_end false stands s = Leased s
grant_end true false s = Leased s
grant_end true true s = Refused

abbrev pub lease_end : Machine → ℕ → LeaseEnd
lease_end m n = cond (is_refused m) (Exhausted (last_start m))
    (cond (nat_lt m.total (m.next + n)) (Exhausted m.next)
    (grant_end (nat_lt m.shown (m.next + n)) (nat_lt 0 m.stage) (next_span m n)))

-- each is an event of a pass or of a put
abbrev pub IsStep : Event → Type 0
IsStep Begin = ⊥
IsStep (Draw pass n) = Unit {0}
IsStep (Look pass) = Unit {0}
IsStep (Put moment) = Unit {0}
IsStep Raise = Unit {0}
IsStep (Spend pass s) = Unit {0}
IsStep (Claim s) = ⊥
IsStep (Crash body gate) = ⊥

abbrev pub AreSteps : List Event → Type 0
AreSteps [] = Unit {0}
AreSteps (e ∷ es) = IsStep e × AreSteps es

-- the first of these steps took place, and no others
abbrev pub TookSome : Machine → List Event → Machine → Type 0
TookSome m steps now = (k : ℕ) × (k ≤ length steps) × (now ≡ after_all m (take k steps))

-- ---- a Want

-- what the broker keeps of a node
abbrev pub kept_of : List (Option Kept) → ℕ → Option Kept
kept_of kept node = slice_index_or kept node None

-- the span of a Want that comes again: its number is the one kept
abbrev pub repeated : Option Kept → ℕ → Option Span
repeated None number = None
repeated (Some k) number = cond (nat_eq k.number number) (Some k.span) None

-- the steps of the lease for a Want, none where it comes again, and its end
abbrev pub steps_for : Machine → List (Option Kept) → Want → List Event
steps_for m kept want = given (repeated (kept_of kept want.node) want.number) (lease_steps m (rounded want.count)) (λ s. [])

abbrev pub end_for : Machine → List (Option Kept) → Want → LeaseEnd
end_for m kept want = given (repeated (kept_of kept want.node) want.number) (lease_end m (rounded want.count)) Leased

-- what the broker keeps once a lease for a Want ended
abbrev pub kept_after : List (Option Kept) → Want → LeaseEnd → List (Option Kept)
kept_after kept want (Leased s) = slice_set kept want.node (Some (record { number = want.number; span = s }))
kept_after kept want (Exhausted at) = kept
kept_after kept want Refused = kept

-- and what it sends
abbrev pub reply_to : Want → LeaseEnd → List Message
reply_to want (Leased s) = message.Block (block_of want.node want.number s) ∷ []
reply_to want (Exhausted at) = message.Out (record { node = want.node; number = want.number; at = at }) ∷ []
reply_to want Refused = []
