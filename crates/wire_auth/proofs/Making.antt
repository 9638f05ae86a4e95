-- Public values and private inputs make the values of all wires, step by step.
use Rattle.std.proofs.Common.{◌≡◌, ◌≢◌, ℕ, zero, suc, ◌+◌, ◌*◌, ◌-◌, ◌%◌, ◌<◌, ◌≤◌, ⊎_elim, inl, List, [], ◌++◌, map, length, take, drop, get_or, set, replicate, refl, sym, ap, ◌∙◌, arith, subst, get_or-set_other, length-append, length-drop}
use Rattle.std.specs.Prelude.{Some, slice_get, slice_index}
use Rattle.std.proofs.lemmas.Bool.{cases_lt, cond_below, cond_above}
use Rattle.std.proofs.lemmas.List.{length-map, length-replicate, length-take-le, get_or-map, get_or_append_left, get_or-append_right, get_or-take, get_or-drop, take_all, ext_get_or}
use Rattle.std.specs.List.{range_with_len}
use Rattle.std.proofs.lemmas.List.FromFn.{length-range_with_len, length-map-range_with_len, get_or-map-range_with_len}
use Rattle.std.proofs.lemmas.Option.{slice_get_within, slice_get-get_or, get_or_from_slice_get}
use Rattle.zk_model.specs.Bits.{from_bit}
use Rattle.zk_model.specs.Field.{prime, ◌*ₚ◌}
use Rattle.zk_model.specs.Program.{Term, Step, Program, IsProgram, IsProduct, IsSet, IsMadeBefore, AreMade, weighted, step_value}
use Rattle.zk_model.specs.Circuit.{Circuit, IsWellFormed}
use Rattle.zk_model.specs.Boolean.{circuit_program}
use Rattle.circuit_laws.proofs.Programs.{weighted_same}
use Rattle.zk_model.proofs.SetWires.{set_below, set_later}
use Rattle.circuit_laws.proofs.CircuitIsProgram.{circuit_is_program, numbered, nth_value}
use Rattle.circuit_laws.proofs.Ordered.{circuit_is_ordered}
use Rattle.circuit_laws.proofs.Made.{one_made, bits_are_made}
use Rattle.field_program.specs.Counts.{unchecked}
use Rattle.field_program.specs.Programs.{IsSmallProgram}
use Rattle.wire_auth.specs.Sides.{AreFirstWires}
use Rattle.wire_auth.specs.Values.{given_value, given_from, CanBeMade, with_step, after_steps, first_numbers, wires_made, given_made, after_numbers, numbers_carried, MadeExist, CarriedExist, BitsMakeProducts}
use Rattle.wire_auth.proofs.Setting.{AreSoFar, one_more, all_met, all_follow, still_begun, begin_filled}
use Rattle.zk_model.specs.declared.Product.{Product}

abbrev no_product : Product
no_product = record { a = 0; b = 0; c = 0 }

-- a program that is held can be made
pub can_be_made : (program : Program) → IsSmallProgram program → CanBeMade program
can_be_made program held = record {
  formed = held.formed;
  ordered = held.ordered;
  counted = held.counted;
  inputs = ⊎_elim (λ none. omega (arith, none)) (λ all. omega (arith, all)) held.all_or_none;
  numbered = held.numbered;
}

-- the factors of a product are wires
pub factors_within : (program : Program) (i : ℕ) (product : Product) → IsProgram program → slice_get program.products i ≡ Some product
    → (product.a < program.wires) × (product.b < program.wires)
factors_within program i product formed at =
    let is : IsProduct program product =
    subst (IsProduct program) (get_or_from_slice_get program.products i product product at)
    (formed.products i product (slice_get_within program.products i product at)) in
    (set_below program (length program.steps) product.a formed is.left, set_below program (length program.steps) product.b formed is.right)

-- ---- given values

value_of_input : (program : Program) (values : List ℕ) (product : Product) → product.c < program.inputs
    → given_value program values product ≡ slice_index values (program.public + product.c)
value_of_input program values product below =
    sym (cond_below product.c program.inputs (slice_index values (program.public + product.c)) (slice_index values product.a *ₚ slice_index values product.b) below)

value_of_product : (program : Program) (values : List ℕ) (product : Product) → program.inputs ≤ product.c
    → given_value program values product ≡ slice_index values product.a *ₚ slice_index values product.b
value_of_product program values product low =
    sym (cond_above product.c program.inputs (slice_index values (program.public + product.c)) (slice_index values product.a *ₚ slice_index values product.b)
    (slice_index values product.a *ₚ slice_index values product.b) low refl)

-- the given values of the inputs that are not checked
abbrev unchecked_values : Program → List ℕ → List ℕ
unchecked_values program values = map (λ i. slice_index values (program.public + i)) (range_with_len 0 (unchecked program))

length-unchecked_values : (program : Program) (values : List ℕ) → length (unchecked_values program values) ≡ unchecked program
length-unchecked_values program values = length-map-range_with_len (λ i. slice_index values (program.public + i)) 0 (unchecked program)

pub length-given_from : (program : Program) (values : List ℕ) → length program.products + unchecked program ≡ program.givens
    → length (given_from program values) ≡ program.givens
length-given_from program values counted = omega (
  arith,
  counted,
  length-append (unchecked_values program values) (map (given_value program values) program.products),
  length-unchecked_values program values,
  length-map program.products (given_value program values),
)

-- each is the value of its input
pub given_input : (program : Program) (values : List ℕ) (i : ℕ) → i < unchecked program
    → slice_index (given_from program values) i ≡ slice_index values (program.public + i)
given_input program values i below =
    get_or_append_left (unchecked_values program values) (map (given_value program values) program.products) 0 i
    (omega (arith, below, length-unchecked_values program values))
    ∙ get_or-map-range_with_len (λ i. slice_index values (program.public + i)) 0 (unchecked program) i i 0 below (omega arith)

-- and the others are those of the products
pub given_at : (program : Program) (values : List ℕ) (i n : ℕ) (product : Product) → slice_get program.products i ≡ Some product
    → n ≡ unchecked program + i → slice_index (given_from program values) n ≡ given_value program values product
given_at program values i n product at number =
    get_or-append_right (unchecked_values program values) (map (given_value program values) program.products) (unchecked program) n 0
    (length-unchecked_values program values) late
    ∙ ap (λ k. get_or (map (given_value program values) program.products) k 0) back
    ∙ get_or-map (given_value program values) program.products i product 0 (slice_get_within program.products i product at)
    ∙ ap (given_value program values) (get_or_from_slice_get program.products i product product at)
  where
    late : unchecked program ≤ n
    late = omega (arith, number)

    back : n - unchecked program ≡ i
    back = omega (arith, number)

-- that of a product which has these factors
pub given_of : (program : Program) (values : List ℕ) (a b n value : ℕ) → IsSmallProgram program
    → slice_get program.products (n - unchecked program) ≡ Some (record { a = a; b = b; c = n })
    → value ≡ given_value program values (record { a = a; b = b; c = n }) → value ≡ slice_index (given_from program values) n
given_of program values a b n value held at is =
    is ∙ sym (given_at program values (n - unchecked program) n (record { a = a; b = b; c = n }) at (held.numbered (n - unchecked program) _ at))

-- the first are the inputs
first_given : (program : Program) (values : List ℕ) → CanBeMade program → length values ≡ program.wires
    → take program.inputs (given_from program values) ≡ take program.inputs (drop program.public values)
first_given program values held whole =
    ext_get_or 0 (take program.inputs given) (take program.inputs (drop program.public values)) (few ∙ sym many) (λ i below.
    let less : i < program.inputs = omega (arith, few, below) in
    get_or-take program.inputs given i 0 less
    ∙ ⊎_elim (given_input program values i) (checked i less) (cases_lt i (unchecked program))
    ∙ sym (get_or-drop program.public values i 0)
    ∙ sym (get_or-take program.inputs (drop program.public values) i 0 less))
  where
    given : List ℕ
    given = given_from program values

    few : length (take program.inputs given) ≡ program.inputs
    few = length-take-le program.inputs given (omega (arith, length-given_from program values held.counted, held.formed.inputs))

    many : length (take program.inputs (drop program.public values)) ≡ program.inputs
    many = length-take-le program.inputs (drop program.public values) (omega (arith, length-drop program.public values, held.formed.first, whole))

    checked : (i : ℕ) → i < program.inputs → unchecked program ≤ i → slice_index given i ≡ slice_index values (program.public + i)
    checked i less late =
        let product = get_or program.products (i - unchecked program) no_product in
        let at : slice_get program.products (i - unchecked program) ≡ Some product =
        slice_get-get_or program.products (i - unchecked program) no_product (omega (arith, held.counted, held.formed.inputs, less, late)) in
        let number : product.c ≡ i = held.numbered (i - unchecked program) product at ∙ omega (arith, late) in
        given_at program values (i - unchecked program) i product at (omega (arith, late))
        ∙ value_of_input program values product (omega (arith, number, less))
        ∙ ap (λ n. slice_index values (program.public + n)) number

-- ---- one step more

-- a wire that is set early is not the one that a later step sets
apart : (program : Program) (k n wire : ℕ) (later : Step) → IsProgram program → k ≤ n → slice_get program.steps n ≡ Some later
    → IsSet program k wire → wire ≢ later.out
apart program k n wire later formed before is set same =
    (formed.steps n later is).once (subst (IsSet program n) same (set_later program k n wire before set))

-- what an early step takes stays where a later one sets its wire
given_kept : (program : Program) (values : List ℕ) (k n put : ℕ) (term : Term) (later : Step) → CanBeMade program → k ≤ n
    → slice_get program.steps n ≡ Some later → term.place < program.givens → IsMadeBefore program k term
    → slice_index (given_from program (set values later.out put)) term.place ≡ slice_index (given_from program values) term.place
given_kept program values k n put term later held before is within made = ⊎_elim unread product (cases_lt term.place (unchecked program))
  where
    now : List ℕ
    now = set values later.out put

    kept : (wire : ℕ) → IsSet program k wire → slice_index now wire ≡ slice_index values wire
    kept wire early = get_or-set_other values later.out wire put 0 (apart program k n wire later held.formed before is early)

    unread : term.place < unchecked program → slice_index (given_from program now) term.place ≡ slice_index (given_from program values) term.place
    unread below =
        given_input program now term.place below
        ∙ kept (program.public + term.place) (inl (omega (arith, below, held.inputs)))
        ∙ sym (given_input program values term.place below)

    product : unchecked program ≤ term.place → slice_index (given_from program now) term.place ≡ slice_index (given_from program values) term.place
    product late =
        given_at program now place term.place taken at number
        ∙ ⊎_elim
        (λ input.
        value_of_input program now taken input
        ∙ kept (program.public + taken.c) (inl (omega (arith, input)))
        ∙ sym (value_of_input program values taken input))
        (λ low.
        let sets = made place taken at same (omega (arith, low, same)) in
        value_of_product program now taken low
        ∙ (λ i. kept taken.a sets.0 i *ₚ kept taken.b sets.1 i)
        ∙ sym (value_of_product program values taken low))
        (cases_lt taken.c program.inputs)
        ∙ sym (given_at program values place term.place taken at number)
      where
        place : ℕ
        place = term.place - unchecked program

        number : term.place ≡ unchecked program + place
        number = omega (arith, late)

        taken : Product
        taken = get_or program.products place no_product

        at : slice_get program.products place ≡ Some taken
        at = slice_get-get_or program.products place no_product (omega (arith, held.counted, within, late))

        same : taken.c ≡ term.place
        same = held.numbered place taken at ∙ sym number

-- values of all wires, of which the first are as they were, that meet the first n steps with the given values that they make
abbrev pub AreMadeSoFar : Program → List ℕ → List ℕ → ℕ → Type 0
AreMadeSoFar program initial values n = AreSoFar program 1 (given_from program values) initial values n

pub made_more : (program : Program) (initial values now : List ℕ) (n out number : ℕ) (step : Step) → CanBeMade program
    → slice_get program.steps n ≡ Some step → out ≡ step.out → number ≡ step_value 1 values (given_from program values) step
    → now ≡ set values out number → AreMadeSoFar program initial values n → AreMadeSoFar program initial now (n + 1)
made_more program initial values now n out number step held at o k sets far = record {
  whole = next.whole;
  first = next.first;
  met = λ j other below there. next.met j other below there ∙ taken j other below there;
}
  where
    next : AreSoFar program 1 (given_from program values) initial now (n + 1)
    next = one_more program 1 (given_from program values) initial values now n out number step held.formed at o k sets far

    same : set values step.out number ≡ now
    same = ap (λ w. set values w number) (sym o) ∙ sym sets

    -- what these steps take is the same
    taken : (j : ℕ) (other : Step) → j < n + 1 → slice_get program.steps j ≡ Some other
        → step_value 1 now (given_from program values) other ≡ step_value 1 now (given_from program now) other
    taken j other below there = ap (λ sum. (weighted now other.wires + sum + other.constant * 1) % prime)
        (weighted_same (given_from program values) (given_from program now) other.given (λ i d less.
        sym (given_kept program values j n number (get_or other.given i d) step held (omega (arith, below)) at
        ((held.formed.steps j other there).takes i d less) (held.ordered j other there i d less))
        ∙ ap (λ l. slice_index (given_from program l) (get_or other.given i d).place) same))

-- all is made in the end
pub all_made : (program : Program) (public inputs initial values : List ℕ) (n : ℕ) → CanBeMade program → n ≡ length program.steps
    → length inputs ≡ program.inputs → AreMadeSoFar program initial values n → AreFirstWires 1 program public inputs initial
    → AreMade program public inputs values (given_from program values)
all_made program public inputs initial values n held end counted far begun =
    let now = still_begun 1 program public inputs initial values begun far.whole far.first in
    let firsts = first_given program values held far.whole in
    record {
      carried = record {
        whole = now.whole;
        constants = now.constants;
        inputs = sym firsts;
        steps = all_met program 1 (given_from program values) values n end far.met;
      };
      count = length-given_from program values held.counted;
      first = firsts ∙ now.inputs ∙ take_all program.inputs inputs (omega (arith, counted));
      others = λ i d below low.
          let product = get_or program.products i d in
          let at : slice_get program.products i ≡ Some product = slice_get-get_or program.products i d below in
          given_at program values i product.c product at (held.numbered i product at)
          ∙ value_of_product program values product low;
    }

-- ---- the one list

after_made : (program : Program) (initial : List ℕ) (n : ℕ) → CanBeMade program → length initial ≡ program.wires → n ≤ length program.steps
    → AreMadeSoFar program initial (after_steps program initial n) n
after_made program initial zero held whole within = record { whole = whole; first = refl; met = λ k step below. elim below [ ] }
after_made program initial (suc n) held whole within =
    let step = get_or program.steps n (record { out = 0; wires = []; given = []; constant = 0 }) in
    let at : slice_get program.steps n ≡ Some step = slice_get-get_or program.steps n (record { out = 0; wires = []; given = []; constant = 0 }) (omega (arith, within)) in
    let values = after_steps program initial n in
    let more : n + 1 ≡ suc n = omega arith in
    subst (AreMadeSoFar program initial (with_step program values step)) more
    (made_more program initial values (with_step program values step) n step.out (step_value 1 values (given_from program values) step) step held at refl refl refl
    (after_made program initial n held whole (omega (arith, within))))

begins : (one : ℕ) (program : Program) (public given inputs : List ℕ) → IsProgram program → length public ≡ program.public → length inputs ≡ program.inputs
    → take program.inputs given ≡ inputs → AreFirstWires one program public given (first_numbers one program public inputs)
begins one program public given inputs formed p few same =
    begin_filled one program public given inputs first (first_numbers one program public inputs) rest program.wires p few same formed refl refl
    (ap (λ l. l ++ rest) (sym (take_all program.wires first short))) whole
  where
    first : List ℕ
    first = map (λ value. value *ₚ one) public ++ inputs

    rest : List ℕ
    rest = replicate (program.wires - (length public + length inputs)) 0

    counted : length first ≡ length public + length inputs
    counted = length-append (map (λ value. value *ₚ one) public) inputs ∙ ap (λ n. n + length inputs) (length-map public (λ value. value *ₚ one))

    short : length first ≤ program.wires
    short = omega (arith, counted, p, few, formed.first)

    whole : length (first ++ rest) ≡ program.wires
    whole = omega (arith, length-append first rest, length-replicate {A = ℕ} (program.wires - (length public + length inputs)) 0, counted, p, few, formed.first)

pub made_exist : MadeExist
unfolding given_made wires_made
made_exist program public inputs held p few =
    let begun = begins 1 program public inputs inputs held.formed p few (take_all program.inputs inputs (omega (arith, few))) in
    all_made program public inputs (first_numbers 1 program public inputs) (after_steps program (first_numbers 1 program public inputs) (length program.steps))
    (length program.steps) held refl few (after_made program (first_numbers 1 program public inputs) (length program.steps) held begun.whole (omega arith)) begun

-- ---- the one list of numbers

after_carried : (one : ℕ) (program : Program) (given initial : List ℕ) (n : ℕ) → IsProgram program → length initial ≡ program.wires
    → n ≤ length program.steps → AreSoFar program one given initial (after_numbers one program given initial n) n
after_carried one program given initial zero formed whole within = record { whole = whole; first = refl; met = λ k step below. elim below [ ] }
after_carried one program given initial (suc n) formed whole within =
    let step = get_or program.steps n (record { out = 0; wires = []; given = []; constant = 0 }) in
    let at : slice_get program.steps n ≡ Some step = slice_get-get_or program.steps n (record { out = 0; wires = []; given = []; constant = 0 }) (omega (arith, within)) in
    let before = after_numbers one program given initial n in
    let more : n + 1 ≡ suc n = omega arith in
    subst (AreSoFar program one given initial (set before step.out (step_value one before given step))) more
    (one_more program one given initial before (set before step.out (step_value one before given step)) n step.out (step_value one before given step) step formed at refl refl refl
    (after_carried one program given initial n formed whole (omega (arith, within))))

pub carried_exist : CarriedExist
unfolding numbers_carried
carried_exist one program public given formed p enough =
    all_follow program one public given first (after_numbers one program given first (length program.steps)) (length program.steps) refl
    (after_carried one program given first (length program.steps) formed begun.whole (omega arith)) begun
  where
    inputs : List ℕ
    inputs = take program.inputs given

    first : List ℕ
    first = first_numbers one program public inputs

    begun : AreFirstWires one program public given first
    begun = begins one program public given inputs formed p (length-take-le program.inputs given enough) refl

-- ---- circuits

circuit_can_be_made : (public : ℕ) (circuit : Circuit) → IsWellFormed circuit → public ≤ circuit.inputs → CanBeMade (circuit_program public circuit)
circuit_can_be_made public circuit formed few = record {
  formed = circuit_is_program public circuit formed few;
  ordered = circuit_is_ordered public circuit formed few;
  counted = omega (arith, one_each);
  inputs = omega (arith, one_each);
  numbered = λ i product at.
      nth_value (circuit_program public circuit).products (circuit_program public circuit).givens i product (numbered public circuit) at
      ∙ omega (arith, one_each);
}
  where
    one_each : length (circuit_program public circuit).products ≡ (circuit_program public circuit).givens
    one_each = sym (length-map (circuit_program public circuit).products (λ product. product.c))
        ∙ ap length (numbered public circuit) ∙ length-range_with_len 0 (circuit_program public circuit).givens

pub bits_make_products : BitsMakeProducts
bits_make_products public circuit inputs bits formed few met =
    let program = circuit_program public circuit in
    let held = circuit_can_be_made public circuit formed few in
    let made = bits_are_made public circuit inputs bits formed few met in
    let known = map from_bit (take public inputs) in
    let private = map from_bit (drop public inputs) in
    one_made program known private (wires_made program known private) (given_made program known private) (map from_bit bits) _ held.formed held.ordered
    (made_exist program known private held known_count private_count) made
  where
    counted : length inputs ≡ circuit.inputs
    counted = ap length (sym met.first) ∙ length-take-le circuit.inputs bits (let whole = met.whole in omega (arith, whole, formed.inputs_within))

    known_count : length (map from_bit (take public inputs)) ≡ public
    known_count = length-map (take public inputs) from_bit ∙ length-take-le public inputs (omega (arith, counted, few))

    private_count : length (map from_bit (drop public inputs)) ≡ circuit.inputs - public
    private_count = length-map (drop public inputs) from_bit ∙ length-drop public inputs ∙ ap (λ n. n - public) counted
