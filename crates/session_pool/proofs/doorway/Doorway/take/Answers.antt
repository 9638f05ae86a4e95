use Rattle.std.proofs.Common.{ap, sym, ◌∙◌, refl}
use Rattle.session_pool.specs.Doorways.{DoorwayState}
use Rattle.session_pool.proofs.Doorways.{gives_now, fails_now, is_unserved_now, some_wanted}
use Rattle.session_pool.proofs.doorway.Doorway.take.Goals as goal

pub invariant_of-self : goal.invariant_of-self
invariant_of-self g c =
    let d = c.self.inside in (
      c.self.invariant.0,
      λ _. some_wanted d.taken d.sessions d.emptied d.door_failed d.memory_failed d.starved
          (ap (λ (s : DoorwayState). s.is_done) c.self.view_is ∙ sym c.is_done.ensures ∙ c.if-is_done.false) c.self.invariant.0.most,
    )

pub invariant_of-self-in-Err-Failed : goal.invariant_of-self-in-Err-Failed
invariant_of-self-in-Err-Failed g c =
    let d = c.self.inside in
    let cause = rw c.in-Err-Failed.field-0-is at c.in-Err-Failed.ensures.cause in
    fails_now g.W.Run.first (g.D.Door.state d.door) (g.D.Door.state c.next.new.self) g.W.Run.sessions d.book.total d.taken d.sessions d.emptied d.door_failed d.memory_failed d.starved c.self.invariant.0
    (ap (λ (s : DoorwayState). s.is_done) c.self.view_is ∙ sym c.is_done.ensures ∙ c.if-is_done.false)
    c.in-Err-Failed.ensures.refused (cause.failed refl) cause.later

pub invariant_of-self-in-Err-NoMemory : goal.invariant_of-self-in-Err-NoMemory
invariant_of-self-in-Err-NoMemory g c =
    let d = c.self.inside in
    is_unserved_now g.W.Run.first (g.D.Door.state d.door) (g.D.Door.state c.next.new.self) g.W.Run.sessions d.book.total d.taken d.sessions d.emptied d.door_failed d.memory_failed d.starved c.self.invariant.0
    (ap (λ (s : DoorwayState). s.is_done) c.self.view_is ∙ sym c.is_done.ensures ∙ c.if-is_done.false)
    c.in-Err-NoMemory.ensures.refused ((rw c.in-Err-NoMemory.field-0-is at c.in-Err-NoMemory.ensures.cause).unserved refl)

pub invariant_of-self-in-Ok-Some : goal.invariant_of-self-in-Ok-Some
invariant_of-self-in-Ok-Some g c =
    let d = c.self.inside in
    gives_now g.W.Run.first (g.D.Door.state d.door) (g.D.Door.state c.next.new.self) g.W.Run.sessions d.book.total d.taken d.sessions d.emptied d.door_failed d.memory_failed d.starved c.self.invariant.0
    (ap (λ (s : DoorwayState). s.is_done) c.self.view_is ∙ sym c.is_done.ensures ∙ c.if-is_done.false)
    c.add.new.self.total c.add.ensures.total (rw c.in-Ok-Some.field-0-is at c.in-Ok-Some.ensures.given) c.in-Ok-Some.ensures.rest c.in-Ok-Some.ensures.cause.done
