-- What a link tells of itself.
use Rattle.std.specs.Prelude.{◌≡◌, ◌<◌, ◌↔◌, ℕ, List, [], take, Bool, true, false, Option, IfSome, IsTrue}
use Rattle.std.specs.Option.{option_map}
use Rattle.zk_port.specs.Counts.{counted}
use Rattle.zk_port.specs.Logs.{appended, put_before, ended_after, bytes_of}
use Rattle.zk_port.specs.declared.way.Way.{Way}
use Rattle.zk_port.specs.declared.way.Way.TheVariants.{Sent, Received}

-- each byte that passed, with the way that it went; what the peer sends from now on, whatever is sent to it; and whether the peer
-- was seen to have ended: these where the link tells them. Whether this end may still be used; how many sends and receives there
-- were, refused ones too; how many sends were refused; and how often a call has failed. A count at the end of its type stays there.
pub record LinkState : Type 0 where
  pub log : Option (List (Way × ℕ))
  pub to_come : Option (List ℕ)
  pub ended : Option Bool
  pub is_open : Bool
  pub sends : ℕ
  pub refused_sends : ℕ
  pub receives : ℕ
  pub faults : ℕ

-- after a send of these bytes
abbrev pub after_send : List ℕ → LinkState → LinkState
after_send bytes old = record old { log = appended (bytes_of Sent bytes) old.log; sends = counted true old.sends }

-- after a send that was refused: a first part of the bytes went out, maybe none or all
pub record SendsPart (bytes : List ℕ) (old new : LinkState) : Type 0 where
  pub count : ℕ
  pub part : new ≡ record old {
    log = appended (bytes_of Sent (take count bytes)) old.log;
    sends = counted true old.sends;
    refused_sends = counted true old.refused_sends;
    faults = new.faults;
  }

-- after a receive of a piece of n bytes into a buffer of so many bytes
pub record Receives (size n : ℕ) (piece : List ℕ) (old new : LinkState) : Type 0 where
  pub taken : new ≡ record old {
    log = appended (bytes_of Received piece) old.log;
    to_come = new.to_come;
    ended = option_map (ended_after size n) old.ended;
    receives = counted true old.receives;
  }
  pub next : old.to_come ≡ put_before piece new.to_come
  pub none : 0 < size → IfSome old.to_come (λ bytes. (n ≡ 0) ↔ (bytes ≡ []))
  pub stays_ended : IfSome old.ended (λ was. IsTrue was → n ≡ 0)

-- after a receive that was refused
abbrev pub after_refused_receive : ℕ → LinkState → LinkState
after_refused_receive faults old = record old { receives = counted true old.receives; faults = faults }

-- after the end of this side
abbrev pub after_end : LinkState → LinkState
after_end old = record old { is_open = false }
