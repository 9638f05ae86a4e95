-- What the two checks answer.
use Rattle.std.specs.Prelude.{◌≡◌, ℕ, List, map, slice_index}
use Rattle.std.specs.List.{range_with_len}
use Rattle.zk_model.specs.Program.{section_count}
use Rattle.zk_model.specs.Check.{ProductCheck, OpeningCheck, FailsFirstAt, OpensFalselyAt, left_of_section, right_of_section, left_of_opening, right_of_opening}
use Rattle.wire_auth.specs.Sides.{VerifierSide}
use Rattle.mult_check.specs.declared.sections.Differs.{Differs}
use Rattle.mult_check.specs.declared.sent.SentSums.{SentSums}
use Rattle.mult_check.specs.declared.openings.OpeningDiffers.{OpeningDiffers}

-- what the check of products is over
abbrev pub product_check : VerifierSide → ℕ → ℕ → List ℕ → ℕ → List (ℕ × ℕ) → ProductCheck
product_check side section_length challenge masks key sums = record {
  program = side.program;
  section_length = section_length;
  key = key;
  keys = side.keys;
  masks = masks;
  challenge = challenge;
  sums = sums;
}

-- the same of sums that were sent
abbrev pub sent_check : VerifierSide → SentSums → ProductCheck
sent_check side sent =
    product_check side sent.section_length sent.challenge sent.mask_keys.now sent.key sent.sums.now

-- what the check of the opened wires is over
abbrev pub opening_check : VerifierSide → ℕ → List ℕ → List ℕ → OpeningCheck
opening_check side key macs claims =
    record { program = side.program; key = key; keys = side.keys; macs = macs; claims = claims }

-- the left sides of the first n sections, in which the sums have no part
abbrev pub left_sides : ProductCheck → ℕ → List ℕ
left_sides check n = map (λ s. left_of_section check s) (range_with_len 0 n)

-- those of all sections
abbrev pub all_left_sides : ProductCheck → List ℕ
all_left_sides check = left_sides check (section_count check.program check.section_length)

-- the keys of the opened wires, which are the left sides of their equations
abbrev pub opened_keys : VerifierSide → List ℕ
opened_keys side = map (slice_index side.keys.wires) side.program.opened

-- the first section whose equation fails, and its two sides
pub record SectionDiffersFirst (check : ProductCheck) (differs : Differs) : Type 0 where
  pub first : FailsFirstAt check differs.section
  pub left : differs.left ≡ left_of_section check differs.section
  pub right : differs.right ≡ right_of_section check differs.section

-- the first opened wire whose equation fails, and its two sides
pub record OpensFirst (check : OpeningCheck) (differs : OpeningDiffers) : Type 0 where
  pub first : OpensFalselyAt check differs.output
  pub left : differs.left ≡ left_of_opening check differs.output
  pub right : differs.right ≡ right_of_opening check differs.output
