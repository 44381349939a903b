-- The modules of the netlists.
use Rattle.std.specs.Prelude.{List, [], ◌∷◌, Some, None, codes}
use Rattle.pw_defs.specs.declared.cells.Dir.TheVariants.{Input, Output}
use Rattle.pw_defs.specs.declared.netlist.Expr.TheVariants.{Whole, Bit, Const, Join}
use Rattle.pw_defs.specs.declared.netlist.Module.{Module}

-- the driving block
abbrev pub driving : Module
driving = record {
  name = codes "blka";
  ports = record { name = codes "x"; dir = Input; range = None } ∷ record { name = codes "y"; dir = Output; range = None } ∷ [];
  nets = [];
  assigns = [];
  insts = record { kind = codes "BUF"; name = codes "o"; conns = record { port = codes "A"; expr = Some (Whole (codes "x")) } ∷ record { port = codes "Y"; expr = Some (Whole (codes "y")) } ∷ []; line = 2 } ∷ [];
  line = 1;
}

-- the receiving block
abbrev pub receiving : Module
receiving = record {
  name = codes "blkb";
  ports = record { name = codes "a"; dir = Input; range = None } ∷ record { name = codes "z"; dir = Output; range = None } ∷ [];
  nets = [];
  assigns = [];
  insts = record { kind = codes "BUF"; name = codes "i"; conns = record { port = codes "A"; expr = Some (Whole (codes "a")) } ∷ record { port = codes "Y"; expr = Some (Whole (codes "z")) } ∷ []; line = 5 } ∷ [];
  line = 4;
}

-- the top of the two blocks
abbrev pub pair_top : Module
pair_top = record {
  name = codes "top";
  ports = record { name = codes "x"; dir = Input; range = None } ∷ [];
  nets = record { name = codes "n"; range = None } ∷ [];
  assigns = [];
  insts = record { kind = codes "blka"; name = codes "u_a"; conns = record { port = codes "x"; expr = Some (Whole (codes "x")) } ∷ record { port = codes "y"; expr = Some (Whole (codes "n")) } ∷ []; line = 9 } ∷ record { kind = codes "blkb"; name = codes "u_b"; conns = record { port = codes "a"; expr = Some (Whole (codes "n")) } ∷ record { port = codes "z"; expr = None } ∷ []; line = 10 } ∷ [];
  line = 7;
}

-- the two blocks and their top
abbrev pub pair : List Module
pair = driving ∷ receiving ∷ pair_top ∷ []

-- the receiving block with an isolation cell
abbrev pub isolated_receiving : Module
isolated_receiving = record {
  name = codes "blkb";
  ports = record { name = codes "a"; dir = Input; range = None } ∷ record { name = codes "z"; dir = Output; range = None } ∷ [];
  nets = record { name = codes "t"; range = None } ∷ [];
  assigns = [];
  insts = record { kind = codes "ISO"; name = codes "s"; conns = record { port = codes "D"; expr = Some (Whole (codes "a")) } ∷ record { port = codes "EN"; expr = Some (Const 1) } ∷ record { port = codes "Y"; expr = Some (Whole (codes "t")) } ∷ []; line = 6 } ∷ record { kind = codes "BUF"; name = codes "i"; conns = record { port = codes "A"; expr = Some (Whole (codes "t")) } ∷ record { port = codes "Y"; expr = Some (Whole (codes "z")) } ∷ []; line = 7 } ∷ [];
  line = 4;
}

-- the top in that text
abbrev pub isolated_top : Module
isolated_top = record {
  name = codes "top";
  ports = record { name = codes "x"; dir = Input; range = None } ∷ [];
  nets = record { name = codes "n"; range = None } ∷ [];
  assigns = [];
  insts = record { kind = codes "blka"; name = codes "u_a"; conns = record { port = codes "x"; expr = Some (Whole (codes "x")) } ∷ record { port = codes "y"; expr = Some (Whole (codes "n")) } ∷ []; line = 11 } ∷ record { kind = codes "blkb"; name = codes "u_b"; conns = record { port = codes "a"; expr = Some (Whole (codes "n")) } ∷ record { port = codes "z"; expr = None } ∷ []; line = 12 } ∷ [];
  line = 9;
}

-- the two blocks with an isolation cell
abbrev pub isolated : List Module
isolated = driving ∷ isolated_receiving ∷ isolated_top ∷ []

-- a netlist with vectors, selects, a concatenation and a constant
abbrev pub vector : List Module
vector = record {
  name = codes "w";
  ports = record { name = codes "a"; dir = Input; range = Some (3, 0) } ∷ [];
  nets = [];
  assigns = [];
  insts = record { kind = codes "BUF"; name = codes "i"; conns = record { port = codes "A"; expr = Some (Bit (codes "a") 3) } ∷ record { port = codes "Y"; expr = None } ∷ []; line = 2 } ∷ [];
  line = 1;
} ∷ record {
  name = codes "top";
  ports = record { name = codes "x"; dir = Input; range = None } ∷ [];
  nets = record { name = codes "n"; range = Some (1, 0) } ∷ [];
  assigns = record { left = (Whole (codes "n")); right = (Join ((Whole (codes "x")) ∷ (Whole (codes "x")) ∷ [])); line = 6 } ∷ [];
  insts = record { kind = codes "w"; name = codes "u_b"; conns = record { port = codes "a"; expr = Some (Join ((Whole (codes "n")) ∷ (Const 2) ∷ [])) } ∷ []; line = 7 } ∷ [];
  line = 4;
} ∷ []

-- two wires that feed one another
abbrev pub ring : List Module
ring = record {
  name = codes "top";
  ports = record { name = codes "x"; dir = Input; range = None } ∷ [];
  nets = record { name = codes "n"; range = None } ∷ record { name = codes "m"; range = None } ∷ [];
  assigns = record { left = (Whole (codes "n")); right = (Whole (codes "m")); line = 3 } ∷ record { left = (Whole (codes "m")); right = (Whole (codes "n")); line = 4 } ∷ [];
  insts = [];
  line = 1;
} ∷ []

-- a wire with two feeders
abbrev pub twice : List Module
twice = record {
  name = codes "top";
  ports = record { name = codes "x"; dir = Input; range = None } ∷ [];
  nets = [];
  assigns = record { left = (Whole (codes "n")); right = (Whole (codes "x")); line = 2 } ∷ record { left = (Whole (codes "n")); right = (Whole (codes "x")); line = 3 } ∷ [];
  insts = [];
  line = 1;
} ∷ []

-- a block whose port has two bits
abbrev pub bits : List Module
bits = record {
  name = codes "blkv";
  ports = record { name = codes "a"; dir = Input; range = Some (1, 0) } ∷ [];
  nets = [];
  assigns = [];
  insts = record { kind = codes "BUF"; name = codes "i0"; conns = record { port = codes "A"; expr = Some (Bit (codes "a") 0) } ∷ record { port = codes "Y"; expr = None } ∷ []; line = 2 } ∷ record { kind = codes "BUF"; name = codes "i1"; conns = record { port = codes "A"; expr = Some (Bit (codes "a") 1) } ∷ record { port = codes "Y"; expr = None } ∷ []; line = 3 } ∷ [];
  line = 1;
} ∷ record {
  name = codes "topv";
  ports = record { name = codes "x"; dir = Input; range = Some (1, 0) } ∷ [];
  nets = [];
  assigns = [];
  insts = record { kind = codes "blkv"; name = codes "u_b"; conns = record { port = codes "a"; expr = Some (Whole (codes "x")) } ∷ []; line = 6 } ∷ [];
  line = 5;
} ∷ []

-- a macro with the two blocks, and the chip that holds it
abbrev pub macro_and_chip : List Module
macro_and_chip = record {
  name = codes "mac";
  ports = record { name = codes "x"; dir = Input; range = None } ∷ [];
  nets = record { name = codes "n"; range = None } ∷ [];
  assigns = [];
  insts = record { kind = codes "blka"; name = codes "u_a"; conns = record { port = codes "x"; expr = Some (Whole (codes "x")) } ∷ record { port = codes "y"; expr = Some (Whole (codes "n")) } ∷ []; line = 3 } ∷ record { kind = codes "blkb"; name = codes "u_b"; conns = record { port = codes "a"; expr = Some (Whole (codes "n")) } ∷ record { port = codes "z"; expr = None } ∷ []; line = 4 } ∷ [];
  line = 1;
} ∷ record {
  name = codes "chip";
  ports = record { name = codes "x"; dir = Input; range = None } ∷ [];
  nets = [];
  assigns = [];
  insts = record { kind = codes "mac"; name = codes "m"; conns = record { port = codes "x"; expr = Some (Whole (codes "x")) } ∷ []; line = 7 } ∷ [];
  line = 6;
} ∷ []

-- all modules of the chip
abbrev pub chip : List Module
chip = driving ∷ receiving ∷ pair_top ∷ macro_and_chip
