-- Numbers of the command line.
use Rattle.std.specs.Prelude.{ℕ, List, length, Bool, ◌&&◌, nat_le, nat_lt, if◌then◌else◌, Option, Some, None}
use Rattle.std.specs.List.{list_all}
use Rattle.zk_model.specs.Bristol.{is_digit, decimal_value}

-- one or more digits
abbrev pub is_number : List ℕ → Bool
is_number word = nat_lt 0 (length word) && list_all is_digit word

-- the number that the digits say, however many zeros lead it, where it lies between these two
abbrev pub number_within : ℕ → ℕ → List ℕ → Option ℕ
number_within low high word =
    if is_number word && nat_le low (decimal_value word) && nat_le (decimal_value word) high
    then Some (decimal_value word) else None
