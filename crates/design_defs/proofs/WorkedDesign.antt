-- The netlist of the two blocks has no fault and makes their design.
use Rattle.std.proofs.Common.{◌≡◌, ℕ, false, true, List, [], ◌∷◌, Option, Some, None, refl, sym, ◌∙◌, subst}
use Rattle.std.specs.Prelude.{codes}
use Rattle.std.specs.List.{AllZip, slice_get}
use Rattle.pw_defs.specs.declared.design.Bit.{Bit}
use Rattle.pw_defs.specs.declared.design.Body.TheVariants.{Module as ModuleBody}
use Rattle.pw_defs.specs.declared.design.Feeder.TheVariants.{Bit as BitFeeder, Driver}
use Rattle.pw_defs.specs.declared.design.PortBit.{PortBit}
use Rattle.pw_defs.specs.declared.netlist.Module.{Module}
use Rattle.worked_jobs.specs.Designs.{pair as pair_design}
use Rattle.worked_jobs.specs.Netlists.{driving, pair_top, receiving}
use Rattle.design_defs.specs.Bits.{Spot}
use Rattle.design_defs.specs.Designs.{IsBitAt, IsFeederOf, IsInstanceAt, IsLinked, IsMadeFrom, IsPlainBit, begins_signal_at, passes_on_at}
use Rattle.design_defs.specs.Hierarchy.{Way, body_at, module_at}
use Rattle.design_defs.specs.Links.{End, Link, links_in, spot_of}
use Rattle.design_defs.proofs.Expressions.{of_expressions}
use Rattle.design_defs.proofs.WorkedHierarchy.{all_spots, all_ways, bit_at, block_a, block_b, buffer_a, buffer_b, s, some_same, spots_are_all, ways_are_all}

-- LINKS.
abbrev pub links_of_top : List Link
links_of_top =
    record { fed = End.child (codes "u_a") (codes "x") 0; source = End.inner (codes "x") 0; line = 9 }
    ∷ record { fed = End.inner (codes "n") 0; source = End.child (codes "u_a") (codes "y") 0; line = 9 }
    ∷ record { fed = End.child (codes "u_b") (codes "a") 0; source = End.inner (codes "n") 0; line = 10 }
    ∷ []

abbrev pub links_of_driving : List Link
links_of_driving =
    record { fed = End.child (codes "o") (codes "A") 0; source = End.inner (codes "x") 0; line = 2 }
    ∷ record { fed = End.inner (codes "y") 0; source = End.child (codes "o") (codes "Y") 0; line = 2 }
    ∷ []

abbrev pub links_of_receiving : List Link
links_of_receiving =
    record { fed = End.child (codes "i") (codes "A") 0; source = End.inner (codes "a") 0; line = 5 }
    ∷ record { fed = End.inner (codes "z") 0; source = End.child (codes "i") (codes "Y") 0; line = 5 }
    ∷ []

pub in_top : links_in s pair_top ≡ links_of_top
in_top = simp of_expressions

pub in_driving : links_in s driving ≡ links_of_driving
in_driving = simp of_expressions

pub in_receiving : links_in s receiving ≡ links_of_receiving
in_receiving = simp of_expressions

-- a link of a module at the end of a way
linked : (way : Way) (n number : ℕ) (m : Module) (ls : List Link) (l : Link) (x : Spot) (y : Spot) → body_at s way ≡ Some (ModuleBody n)
    → module_at s n ≡ Some m
    → links_in s m ≡ ls → slice_get ls number ≡ Some l → spot_of way l.fed ≡ Some x → spot_of way l.source ≡ Some y → IsLinked s x (Some y)
linked way n number m ls l x y body there links at fed source = (
  way,
  number,
  l.line,
  record {
    module_number = n;
    of_module = m;
    is_module = record { body = body; is_module = there };
    link = l;
    there = subst (λ ks. slice_get ks number ≡ Some l) (sym links) at;
    on_line = refl;
    fed_there = fed;
    source_there = source;
  },
)

-- a port bit at which no signal begins and none is passed on
plain_port : (x : Spot) (b : Bit) (q : PortBit) → b.port ≡ Some q → begins_signal_at s x.way q ≡ false → passes_on_at s x.way q ≡ false → IsPlainBit s x b
plain_port x b q port no_signal not_passing = record {
  no_signal = λ p e. subst (λ z. begins_signal_at s x.way z ≡ false) (some_same q p (sym port ∙ e)) no_signal;
  not_passing = λ p e. subst (λ z. passes_on_at s x.way z ≡ false) (some_same q p (sym port ∙ e)) not_passing;
}

-- a bit of a wire
plain_wire : (x : Spot) (b : Bit) → b.port ≡ None → IsPlainBit s x b
plain_wire x b port = record { no_signal = λ p e. none p (sym port ∙ e); not_passing = λ p e. none p (sym port ∙ e) }
  where
    none : {A : Type 0} (p : PortBit) → None ≡ Some p → A
    none p e = cc

-- THE DESIGN.
each_instance : AllZip (IsInstanceAt s all_ways) all_ways pair_design.insts
each_instance = (
  record { path_there = refl; parent_there = refl; body_there = refl },
  (
    record { path_there = refl; parent_there = (0, refl, refl); body_there = refl },
    (
      record { path_there = refl; parent_there = (1, refl, refl); body_there = refl },
      (
        record { path_there = refl; parent_there = (0, refl, refl); body_there = refl },
        (
          record { path_there = refl; parent_there = (3, refl, refl); body_there = refl },
          tt,
        ),
      ),
    ),
  ),
)

-- the port bit of an instance
abbrev port_bit : ℕ → ℕ → PortBit
port_bit inst port = record { inst = inst; port = port; place = 0 }

-- the bits of the design, by number
abbrev bit_number : ℕ → Option Bit
bit_number n = slice_get pair_design.bits n

-- a driver, and a bit that a link feeds
driven : (x : Spot) (b : Bit) (p : PortBit) → b.port ≡ Some p → begins_signal_at s x.way p ≡ true → b.feeder ≡ Driver p → IsFeederOf s all_spots x b
driven x b p port signal feeder = IsFeederOf.driver p port signal feeder

fed_by : (x : Spot) (b : Bit) (y : Spot) (n : ℕ) → IsPlainBit s x b → IsLinked s x (Some y) → slice_get all_spots n ≡ Some y
    → b.feeder ≡ BitFeeder n → IsFeederOf s all_spots x b
fed_by x b y n plain link at feeder = IsFeederOf.bit y n plain link at feeder

abbrev bit_0 : Bit
bit_0 = record { name = codes "n"; owner = 0; port = None; feeder = BitFeeder 3 }

is_bit_0 : IsBitAt s all_ways all_spots (bit_at [] (codes "n")) bit_0
is_bit_0 = record {
  name_there = (None, refl, refl);
  owner_there = refl;
  port_there = refl;
  fed_so = fed_by (bit_at [] (codes "n")) bit_0 (bit_at block_a (codes "y")) 3 (plain_wire (bit_at [] (codes "n")) bit_0 refl)
      (linked [] 2 1 pair_top links_of_top (record { fed = End.inner (codes "n") 0; source = End.child (codes "u_a") (codes "y") 0; line = 9 })
      (bit_at [] (codes "n")) (bit_at block_a (codes "y")) refl refl in_top refl refl refl) refl refl;
}

abbrev bit_1 : Bit
bit_1 = record { name = codes "x"; owner = 0; port = Some (port_bit 0 0); feeder = Driver (port_bit 0 0) }

is_bit_1 : IsBitAt s all_ways all_spots (bit_at [] (codes "x")) bit_1
is_bit_1 = record {
  name_there = (None, refl, refl);
  owner_there = refl;
  port_there = refl;
  fed_so = driven (bit_at [] (codes "x")) bit_1 (port_bit 0 0) refl refl refl;
}

abbrev bit_2 : Bit
bit_2 = record { name = codes "u_a/x"; owner = 1; port = Some (port_bit 1 0); feeder = BitFeeder 1 }

is_bit_2 : IsBitAt s all_ways all_spots (bit_at block_a (codes "x")) bit_2
is_bit_2 = record {
  name_there = (None, refl, refl);
  owner_there = refl;
  port_there = refl;
  fed_so = fed_by (bit_at block_a (codes "x")) bit_2 (bit_at [] (codes "x")) 1 (plain_port (bit_at block_a (codes "x")) bit_2 (port_bit 1 0) refl refl refl)
      (linked [] 2 0 pair_top links_of_top (record { fed = End.child (codes "u_a") (codes "x") 0; source = End.inner (codes "x") 0; line = 9 })
      (bit_at block_a (codes "x")) (bit_at [] (codes "x")) refl refl in_top refl refl refl) refl refl;
}

abbrev bit_3 : Bit
bit_3 = record { name = codes "u_a/y"; owner = 1; port = Some (port_bit 1 1); feeder = BitFeeder 5 }

is_bit_3 : IsBitAt s all_ways all_spots (bit_at block_a (codes "y")) bit_3
is_bit_3 = record {
  name_there = (None, refl, refl);
  owner_there = refl;
  port_there = refl;
  fed_so =
      fed_by (bit_at block_a (codes "y")) bit_3 (bit_at buffer_a (codes "Y")) 5 (plain_port (bit_at block_a (codes "y")) bit_3 (port_bit 1 1) refl refl refl)
      (linked block_a 0 1 driving links_of_driving (record { fed = End.inner (codes "y") 0; source = End.child (codes "o") (codes "Y") 0; line = 2 })
      (bit_at block_a (codes "y")) (bit_at buffer_a (codes "Y")) refl refl in_driving refl refl refl) refl refl;
}

abbrev bit_4 : Bit
bit_4 = record { name = codes "u_a/o/A"; owner = 2; port = Some (port_bit 2 0); feeder = BitFeeder 2 }

is_bit_4 : IsBitAt s all_ways all_spots (bit_at buffer_a (codes "A")) bit_4
is_bit_4 = record {
  name_there = (None, refl, refl);
  owner_there = refl;
  port_there = refl;
  fed_so =
      fed_by (bit_at buffer_a (codes "A")) bit_4 (bit_at block_a (codes "x")) 2 (plain_port (bit_at buffer_a (codes "A")) bit_4 (port_bit 2 0) refl refl refl)
      (linked block_a 0 0 driving links_of_driving (record { fed = End.child (codes "o") (codes "A") 0; source = End.inner (codes "x") 0; line = 2 })
      (bit_at buffer_a (codes "A")) (bit_at block_a (codes "x")) refl refl in_driving refl refl refl) refl refl;
}

abbrev bit_5 : Bit
bit_5 = record { name = codes "u_a/o/Y"; owner = 2; port = Some (port_bit 2 1); feeder = Driver (port_bit 2 1) }

is_bit_5 : IsBitAt s all_ways all_spots (bit_at buffer_a (codes "Y")) bit_5
is_bit_5 = record {
  name_there = (None, refl, refl);
  owner_there = refl;
  port_there = refl;
  fed_so = driven (bit_at buffer_a (codes "Y")) bit_5 (port_bit 2 1) refl refl refl;
}

abbrev bit_6 : Bit
bit_6 = record { name = codes "u_b/a"; owner = 3; port = Some (port_bit 3 0); feeder = BitFeeder 0 }

is_bit_6 : IsBitAt s all_ways all_spots (bit_at block_b (codes "a")) bit_6
is_bit_6 = record {
  name_there = (None, refl, refl);
  owner_there = refl;
  port_there = refl;
  fed_so = fed_by (bit_at block_b (codes "a")) bit_6 (bit_at [] (codes "n")) 0 (plain_port (bit_at block_b (codes "a")) bit_6 (port_bit 3 0) refl refl refl)
      (linked [] 2 2 pair_top links_of_top (record { fed = End.child (codes "u_b") (codes "a") 0; source = End.inner (codes "n") 0; line = 10 })
      (bit_at block_b (codes "a")) (bit_at [] (codes "n")) refl refl in_top refl refl refl) refl refl;
}

abbrev bit_7 : Bit
bit_7 = record { name = codes "u_b/z"; owner = 3; port = Some (port_bit 3 1); feeder = BitFeeder 9 }

is_bit_7 : IsBitAt s all_ways all_spots (bit_at block_b (codes "z")) bit_7
is_bit_7 = record {
  name_there = (None, refl, refl);
  owner_there = refl;
  port_there = refl;
  fed_so =
      fed_by (bit_at block_b (codes "z")) bit_7 (bit_at buffer_b (codes "Y")) 9 (plain_port (bit_at block_b (codes "z")) bit_7 (port_bit 3 1) refl refl refl)
      (linked block_b 1 1 receiving links_of_receiving (record {
        fed = End.inner (codes "z") 0;
        source = End.child (codes "i")
            (codes "Y") 0;
        line = 5;
      }) (bit_at block_b (codes "z")) (bit_at buffer_b (codes "Y")) refl refl in_receiving refl refl refl) refl refl;
}

abbrev bit_8 : Bit
bit_8 = record { name = codes "u_b/i/A"; owner = 4; port = Some (port_bit 4 0); feeder = BitFeeder 6 }

is_bit_8 : IsBitAt s all_ways all_spots (bit_at buffer_b (codes "A")) bit_8
is_bit_8 = record {
  name_there = (None, refl, refl);
  owner_there = refl;
  port_there = refl;
  fed_so =
      fed_by (bit_at buffer_b (codes "A")) bit_8 (bit_at block_b (codes "a")) 6 (plain_port (bit_at buffer_b (codes "A")) bit_8 (port_bit 4 0) refl refl refl)
      (linked block_b 1 0 receiving links_of_receiving (record {
        fed = End.child (codes "i") (codes "A") 0;
        source = End.inner
            (codes "a") 0;
        line = 5;
      }) (bit_at buffer_b (codes "A")) (bit_at block_b (codes "a")) refl refl in_receiving refl refl refl) refl refl;
}

abbrev bit_9 : Bit
bit_9 = record { name = codes "u_b/i/Y"; owner = 4; port = Some (port_bit 4 1); feeder = Driver (port_bit 4 1) }

is_bit_9 : IsBitAt s all_ways all_spots (bit_at buffer_b (codes "Y")) bit_9
is_bit_9 = record {
  name_there = (None, refl, refl);
  owner_there = refl;
  port_there = refl;
  fed_so = driven (bit_at buffer_b (codes "Y")) bit_9 (port_bit 4 1) refl refl refl;
}

each_bit : AllZip (IsBitAt s all_ways all_spots) all_spots pair_design.bits
each_bit = (is_bit_0, (is_bit_1, (is_bit_2, (is_bit_3, (is_bit_4, (is_bit_5, (is_bit_6, (is_bit_7, (is_bit_8, (is_bit_9, tt))))))))))

-- The three modules and the library make the design of the two blocks.
pub pair_is_made : IsMadeFrom s pair_design
pair_is_made = record {
  same_cells = refl;
  heads = refl;
  same_models = refl;
  numbering = record { ways = all_ways; spots = all_spots; all_ways = ways_are_all; all_spots = spots_are_all };
  instances = each_instance;
  all_bits = each_bit;
}
