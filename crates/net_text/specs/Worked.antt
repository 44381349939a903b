-- The texts of small netlists.
use Rattle.std.specs.Prelude.{ℕ, List, [], ◌∷◌, Some, None, codes}
use Rattle.pw_defs.specs.declared.cells.Dir.TheVariants.{Input, Output}
use Rattle.pw_defs.specs.declared.netlist.Expr.TheVariants.{Whole, Bit, Part, Const, Join}
use Rattle.pw_defs.specs.declared.netlist.Module.{Module}

-- a header with directions, of which a port takes over that before it; escaped names; a concatenation with a constant
abbrev pub small_text : List ℕ
small_text =
    codes "`define X\nmodule m(input [1:0] a, b, output \\y ); // ports\nwire w;\nassign {w, y} = {a[1], 2'b0x};\nBUF \\i/0 (.A(b[1:0]), .Y());\nendmodule\n"

-- a header of names, with directions in the body, and a wire that repeats a port
abbrev pub listed_text : List ℕ
listed_text = codes "module m(y, a);\ninput [3:0] a;\noutput y;\nwire [3:0] a;\nendmodule\n"

abbrev pub cut_text : List ℕ
cut_text = codes "module m(input x);\nB u(.a(x)"

abbrev pub inout_text : List ℕ
inout_text = codes "module m(a);\ninout a;\nendmodule\n"

abbrev pub left_out_text : List ℕ
left_out_text = codes "module m;\nreg r;\nendmodule\n"

-- a constant on the left side
abbrev pub constant_left_text : List ℕ
constant_left_text = codes "module m;\nassign {a,\n1'b0} = b;\nendmodule\n"

-- a number that is too great for a range
abbrev pub wide_text : List ℕ
wide_text = codes "module m;\nwire [65536:0] a;\nendmodule\n"

abbrev pub second_wire_text : List ℕ
second_wire_text = codes "module m(input a);\nwire a;\nwire a;\nendmodule\n"

-- a port of the header without a direction
abbrev pub bare_port_text : List ℕ
bare_port_text = codes "module m(a,\nb);\ninput a;\nendmodule\n"

abbrev pub small : List Module
small =
    record {
      name = codes "m";
      ports =
          record { name = codes "a"; dir = Input; range = Some (1, 0) } ∷ record { name = codes "b"; dir = Input; range = Some (1, 0) }
          ∷ record { name = codes "y"; dir = Output; range = None } ∷ [];
      nets = record { name = codes "w"; range = None } ∷ [];
      assigns = record { left = Join (Whole (codes "w") ∷ Whole (codes "y") ∷ []); right = Join (Bit (codes "a") 1 ∷ Const 2 ∷ []); line = 4 } ∷ [];
      insts =
          record {
            kind = codes "BUF";
            name = codes "i/0";
            conns = record { port = codes "A"; expr = Some (Part (codes "b") 1 0) }
                ∷ record { port = codes "Y"; expr = None } ∷ [];
            line = 5;
          } ∷ [];
      line = 2;
    } ∷ []

abbrev pub listed : List Module
listed =
    record {
      name = codes "m";
      ports = record { name = codes "y"; dir = Output; range = None } ∷ record { name = codes "a"; dir = Input; range = Some (3, 0) } ∷ [];
      nets = [];
      assigns = [];
      insts = [];
      line = 1;
    } ∷ []
