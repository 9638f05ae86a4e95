-- What is read of a file of bits, and which bits of a circuit are wanted.
use Rattle.std.specs.Prelude.{◌||◌, ℕ, List, [], ◌∷◌, codes, Bool}
use Rattle.std.specs.Str.{bytes_eq}
use Rattle.command_words.specs.BitWords.{Bits}
use Rattle.file_commands.specs.GivenBits.{BitsOf, Public, Private, Outputs, IsBitsText, IsCutText}
use Rattle.file_commands.specs.declared.given_bits.BitsText.{BitsText}
use Rattle.file_commands.specs.declared.given_bits.BitsText.TheVariants as says
use Rattle.file_commands.specs.declared.given_bits.WantedBits.{WantedBits}
use Rattle.file_commands.specs.declared.given_bits.WantedBits.TheVariants as wanted

-- the text says these bits; or it says none, and so many digits stand before its first other byte
abbrev pub SaysBits : List ℕ → BitsText → Type 0
SaysBits text (says.Bits bits) = IsBitsText text bits.items
SaysBits text (says.Cut got) = IsCutText text got

-- a text that says bits may end with this rest behind their digits: none, or a line feed; with no digits the rest is the word `none`
abbrev pub is_end : Bits → List ℕ → Bool
is_end [] rest = bytes_eq rest (codes "none") || bytes_eq rest (codes "none\n")
is_end (bit ∷ bits) rest = bytes_eq rest [] || bytes_eq rest (codes "\n")

-- which bits of a circuit are wanted
abbrev pub wanted_bits : WantedBits → BitsOf
wanted_bits wanted.Public = Public
wanted_bits (wanted.Private public) = Private public.now
wanted_bits wanted.Outputs = Outputs
