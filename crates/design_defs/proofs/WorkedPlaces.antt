-- Worked examples of ranges, and of the bits that expressions name.
use Rattle.std.proofs.Common.{◌≡◌, [], ◌∷◌, Some, None, refl}
use Rattle.std.specs.Prelude.{codes}
use Rattle.std.specs.Fmt.{digits}
use Rattle.pw_defs.specs.declared.cells.Dir.TheVariants.{Input}
use Rattle.pw_defs.specs.declared.netlist.Expr.TheVariants.{Whole, Bit, Part, Const, Join}
use Rattle.pw_defs.specs.declared.netlist.Module.{Module}
use Rattle.design_defs.specs.Places.{Signal, misselected, net_range, signals}
use Rattle.design_defs.specs.Ranges.{bit_name, place_at, width}
use Rattle.design_defs.proofs.Expressions.{of_expressions}

-- a scalar has one bit, a vector as many as its ends say, whichever end is greater
pub scalar_width : width None ≡ 1
scalar_width = refl

pub falling_width : width (Some (3, 0)) ≡ 4
falling_width = refl

pub rising_width : width (Some (2, 5)) ≡ 4
rising_width = refl

-- places count from the left end
pub left_of_falling : place_at (3, 0) 3 ≡ Some 0
left_of_falling = refl

pub right_of_rising : place_at (2, 5) 5 ≡ Some 3
right_of_rising = refl

pub outside_of_range : place_at (3, 0) 4 ≡ None
outside_of_range = refl

-- the bit of a vector has its index in its name, that of a scalar has none
pub vector_bit_name : bit_name (codes "a") (Some (3, 0)) 1 ≡ codes "a[2]"
unfolding digits
vector_bit_name = refl

pub scalar_bit_name : bit_name (codes "x") None 0 ≡ codes "x"
scalar_bit_name = refl

-- a module with a vector port, a vector wire that rises, and a scalar
abbrev shapes : Module
shapes = record {
  name = codes "shapes";
  ports = record { name = codes "a"; dir = Input; range = Some (3, 0) } ∷ record { name = codes "x"; dir = Input; range = None } ∷ [];
  nets = record { name = codes "up"; range = Some (0, 1) } ∷ [];
  assigns = record { left = Whole (codes "n"); right = Whole (codes "x"); line = 2 } ∷ [];
  insts = record { kind = codes "BUF"; name = codes "i"; conns = []; line = 3 } ∷ [];
  line = 1;
}

-- a select of the left end is the first place
pub select_of_left_end : signals shapes (Bit (codes "a") 3) ≡ Signal.net_bit (codes "a") 0 ∷ []
select_of_left_end = simp of_expressions

-- a part runs in the direction of its range
pub part_in_direction : signals shapes (Part (codes "a") 2 1) ≡ Signal.net_bit (codes "a") 1 ∷ Signal.net_bit (codes "a") 2 ∷ []
part_in_direction = simp of_expressions

pub part_in_direction_is_right : misselected shapes (Part (codes "a") 2 1) ≡ []
part_in_direction_is_right = simp of_expressions

pub part_against_direction : misselected shapes (Part (codes "a") 1 2) ≡ codes "a" ∷ []
part_against_direction = simp of_expressions

pub part_of_rising : misselected shapes (Part (codes "up") 0 1) ≡ []
part_of_rising = simp of_expressions

-- selects outside the range, of a scalar and of what isn't declared are wrong, and so is the name of an instance
pub select_outside : misselected shapes (Bit (codes "a") 4) ≡ codes "a" ∷ []
select_outside = simp of_expressions

pub select_of_scalar : misselected shapes (Bit (codes "x") 0) ≡ codes "x" ∷ []
select_of_scalar = simp of_expressions

pub select_of_undeclared : misselected shapes (Bit (codes "n") 0) ≡ codes "n" ∷ []
select_of_undeclared = simp of_expressions

pub instance_as_net : misselected shapes (Whole (codes "i")) ≡ codes "i" ∷ []
instance_as_net = simp of_expressions

-- a name that isn't declared is a wire of one bit, where it stands alone
pub undeclared_is_one_bit : signals shapes (Whole (codes "n")) ≡ Signal.net_bit (codes "n") 0 ∷ []
undeclared_is_one_bit = simp of_expressions

pub implicit_wire : net_range shapes (codes "n") ≡ Some None
implicit_wire = simp of_expressions

pub no_wire : net_range shapes (codes "i") ≡ None
no_wire = refl

-- a concatenation has the bits of its parts in turn
pub bits_in_turn : signals shapes (Join (Whole (codes "up") ∷ Const 1 ∷ Bit (codes "a") 0 ∷ []))
    ≡ Signal.net_bit (codes "up") 0 ∷ Signal.net_bit (codes "up") 1 ∷ Signal.constant ∷ Signal.net_bit (codes "a") 3 ∷ []
bits_in_turn = simp of_expressions
