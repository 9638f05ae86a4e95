-- How often a link was used in an exchange, in which each end sends once.
use Rattle.std.specs.Prelude.{◌≡◌, ℕ, ◌≤◌, List, ◌++◌, true}
use Rattle.zk_model.specs.Transcript.{bytes_from, BeginsWith}
use Rattle.zk_model.specs.declared.Side.{Side}
use Rattle.zk_port.specs.Counts.{counted}
use Rattle.zk_port.specs.Logs.{appended}
use Rattle.frame_link.specs.Lines.{LinkSnapshot}
use Rattle.session_driver.specs.Leaving.{RefusesSends}

-- nothing was sent
pub record NeverSends (first now : LinkSnapshot) : Type 0 where
  pub sends : now.sends ≡ first.sends
  pub refused_sends : now.refused_sends ≡ first.refused_sends

-- one send was made, and not refused
pub record SendsOnce (first now : LinkSnapshot) : Type 0 where
  pub sends : now.sends ≡ counted true first.sends
  pub refused_sends : now.refused_sends ≡ first.refused_sends

-- one send was made, and refused
pub record LosesSend (first now : LinkSnapshot) : Type 0 where
  pub sends : now.sends ≡ counted true first.sends
  pub refused_sends : now.refused_sends ≡ counted true first.refused_sends

-- What the link tells is what it told before and the log; and where a send was refused, which may be, a first part of these bytes, maybe
-- none or all.
pub record TellsLog (side : Side) (may : Type 0) (bytes : List ℕ) (first now : LinkSnapshot) : Type 0 where
  pub part : List ℕ
  pub told : now.told ≡ appended (now.log ++ bytes_from side part) first.told
  pub begins : BeginsWith bytes part
  pub refused : RefusesSends may part first now

-- the count of failed calls does not fall, and rises only where the link failed
pub record CountsFailures (failed : Type 0) (before after : ℕ) : Type 0 where
  pub later : before ≤ after
  pub unfailed : ¬ failed → after ≡ before
