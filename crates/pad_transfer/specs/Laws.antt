-- What the definitions of a transfer promise.
use Rattle.std.specs.Prelude.{◌≡◌, Bool}
use Rattle.zk_model.specs.Bytes.{LeftRight, AreBothBytes}
use Rattle.zk_model.specs.Extension.{choice_of, flip_for, masked_messages, unmasked_message}

-- the receiver gets the message that it chose
abbrev pub ChosenIsUnmasked : Type 0
ChosenIsUnmasked = (pads messages : LeftRight) (dealt choice : Bool)
    → AreBothBytes 16 pads → AreBothBytes 16 messages
    → unmasked_message (choice_of dealt pads) choice (masked_messages pads (flip_for dealt choice) messages)
    ≡ choice_of choice messages
