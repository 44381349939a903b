-- The designs of the netlists: instances by path, bits by path, net and place, and what feeds each bit.
use Rattle.std.specs.Prelude.{[], ◌∷◌, Some, None, codes}
use Rattle.pw_defs.specs.declared.cells.Dir.TheVariants.{Input, Output}
use Rattle.pw_defs.specs.declared.design.Body.TheVariants.{Module as ModuleBody, Cell as CellBody}
use Rattle.pw_defs.specs.declared.design.Feeder.TheVariants.{Bit as BitFeeder, Through, Driver, Constant}
use Rattle.pw_defs.specs.declared.design.Design.{Design}
use Rattle.pw_defs.specs.declared.netlist.Module.{Module}
use Rattle.worked_jobs.specs.Libraries.{library}

-- the head of the driving block: name, ports and line
abbrev pub driving_head : Module
driving_head = record { name = codes "blka"; ports = record { name = codes "x"; dir = Input; range = None } ∷ record { name = codes "y"; dir = Output; range = None } ∷ []; nets = []; assigns = []; insts = []; line = 1 }

-- the head of the receiving block
abbrev pub receiving_head : Module
receiving_head = record { name = codes "blkb"; ports = record { name = codes "a"; dir = Input; range = None } ∷ record { name = codes "z"; dir = Output; range = None } ∷ []; nets = []; assigns = []; insts = []; line = 4 }

-- the two blocks
abbrev pub pair : Design
pair = record {
  cells = library;
  modules = driving_head ∷ receiving_head ∷ record { name = codes "top"; ports = record { name = codes "x"; dir = Input; range = None } ∷ []; nets = []; assigns = []; insts = []; line = 7 } ∷ [];
  models = [];
  insts =
      record { path = []; parent = None; body = ModuleBody 2 }
      ∷ record { path = codes "u_a"; parent = Some 0; body = ModuleBody 0 }
      ∷ record { path = codes "u_a/o"; parent = Some 1; body = CellBody 0 }
      ∷ record { path = codes "u_b"; parent = Some 0; body = ModuleBody 1 }
      ∷ record { path = codes "u_b/i"; parent = Some 3; body = CellBody 0 } ∷ [];
  bits =
      record { name = codes "n"; owner = 0; port = None; feeder = BitFeeder 3 }
      ∷ record { name = codes "x"; owner = 0; port = Some (record { inst = 0; port = 0; place = 0 }); feeder = Driver (record { inst = 0; port = 0; place = 0 }) }
      ∷ record { name = codes "u_a/x"; owner = 1; port = Some (record { inst = 1; port = 0; place = 0 }); feeder = BitFeeder 1 }
      ∷ record { name = codes "u_a/y"; owner = 1; port = Some (record { inst = 1; port = 1; place = 0 }); feeder = BitFeeder 5 }
      ∷ record { name = codes "u_a/o/A"; owner = 2; port = Some (record { inst = 2; port = 0; place = 0 }); feeder = BitFeeder 2 }
      ∷ record { name = codes "u_a/o/Y"; owner = 2; port = Some (record { inst = 2; port = 1; place = 0 }); feeder = Driver (record { inst = 2; port = 1; place = 0 }) }
      ∷ record { name = codes "u_b/a"; owner = 3; port = Some (record { inst = 3; port = 0; place = 0 }); feeder = BitFeeder 0 }
      ∷ record { name = codes "u_b/z"; owner = 3; port = Some (record { inst = 3; port = 1; place = 0 }); feeder = BitFeeder 9 }
      ∷ record { name = codes "u_b/i/A"; owner = 4; port = Some (record { inst = 4; port = 0; place = 0 }); feeder = BitFeeder 6 }
      ∷ record { name = codes "u_b/i/Y"; owner = 4; port = Some (record { inst = 4; port = 1; place = 0 }); feeder = Driver (record { inst = 4; port = 1; place = 0 }) } ∷ [];
}

-- the two blocks with an isolation cell
abbrev pub isolated : Design
isolated = record {
  cells = library;
  modules = driving_head ∷ record { name = codes "blkb"; ports = record { name = codes "a"; dir = Input; range = None } ∷ record { name = codes "z"; dir = Output; range = None } ∷ []; nets = []; assigns = []; insts = []; line = 4 } ∷ record { name = codes "top"; ports = record { name = codes "x"; dir = Input; range = None } ∷ []; nets = []; assigns = []; insts = []; line = 9 } ∷ [];
  models = [];
  insts =
      record { path = []; parent = None; body = ModuleBody 2 }
      ∷ record { path = codes "u_a"; parent = Some 0; body = ModuleBody 0 }
      ∷ record { path = codes "u_a/o"; parent = Some 1; body = CellBody 0 }
      ∷ record { path = codes "u_b"; parent = Some 0; body = ModuleBody 1 }
      ∷ record { path = codes "u_b/i"; parent = Some 3; body = CellBody 0 }
      ∷ record { path = codes "u_b/s"; parent = Some 3; body = CellBody 1 } ∷ [];
  bits =
      record { name = codes "n"; owner = 0; port = None; feeder = BitFeeder 3 }
      ∷ record { name = codes "x"; owner = 0; port = Some (record { inst = 0; port = 0; place = 0 }); feeder = Driver (record { inst = 0; port = 0; place = 0 }) }
      ∷ record { name = codes "u_a/x"; owner = 1; port = Some (record { inst = 1; port = 0; place = 0 }); feeder = BitFeeder 1 }
      ∷ record { name = codes "u_a/y"; owner = 1; port = Some (record { inst = 1; port = 1; place = 0 }); feeder = BitFeeder 5 }
      ∷ record { name = codes "u_a/o/A"; owner = 2; port = Some (record { inst = 2; port = 0; place = 0 }); feeder = BitFeeder 2 }
      ∷ record { name = codes "u_a/o/Y"; owner = 2; port = Some (record { inst = 2; port = 1; place = 0 }); feeder = Driver (record { inst = 2; port = 1; place = 0 }) }
      ∷ record { name = codes "u_b/a"; owner = 3; port = Some (record { inst = 3; port = 0; place = 0 }); feeder = BitFeeder 0 }
      ∷ record { name = codes "u_b/t"; owner = 3; port = None; feeder = BitFeeder 13 }
      ∷ record { name = codes "u_b/z"; owner = 3; port = Some (record { inst = 3; port = 1; place = 0 }); feeder = BitFeeder 10 }
      ∷ record { name = codes "u_b/i/A"; owner = 4; port = Some (record { inst = 4; port = 0; place = 0 }); feeder = BitFeeder 7 }
      ∷ record { name = codes "u_b/i/Y"; owner = 4; port = Some (record { inst = 4; port = 1; place = 0 }); feeder = Driver (record { inst = 4; port = 1; place = 0 }) }
      ∷ record { name = codes "u_b/s/D"; owner = 5; port = Some (record { inst = 5; port = 0; place = 0 }); feeder = BitFeeder 6 }
      ∷ record { name = codes "u_b/s/EN"; owner = 5; port = Some (record { inst = 5; port = 1; place = 0 }); feeder = Constant }
      ∷ record { name = codes "u_b/s/Y"; owner = 5; port = Some (record { inst = 5; port = 2; place = 0 }); feeder = Through 5 11 } ∷ [];
}

-- the netlist with vectors
abbrev pub vector : Design
vector = record {
  cells = library;
  modules = record { name = codes "w"; ports = record { name = codes "a"; dir = Input; range = Some (3, 0) } ∷ []; nets = []; assigns = []; insts = []; line = 1 } ∷ record { name = codes "top"; ports = record { name = codes "x"; dir = Input; range = None } ∷ []; nets = []; assigns = []; insts = []; line = 4 } ∷ [];
  models = [];
  insts =
      record { path = []; parent = None; body = ModuleBody 1 }
      ∷ record { path = codes "u_b"; parent = Some 0; body = ModuleBody 0 }
      ∷ record { path = codes "u_b/i"; parent = Some 1; body = CellBody 0 } ∷ [];
  bits =
      record { name = codes "n[1]"; owner = 0; port = None; feeder = BitFeeder 2 }
      ∷ record { name = codes "n[0]"; owner = 0; port = None; feeder = BitFeeder 2 }
      ∷ record { name = codes "x"; owner = 0; port = Some (record { inst = 0; port = 0; place = 0 }); feeder = Driver (record { inst = 0; port = 0; place = 0 }) }
      ∷ record { name = codes "u_b/a[3]"; owner = 1; port = Some (record { inst = 1; port = 0; place = 0 }); feeder = BitFeeder 0 }
      ∷ record { name = codes "u_b/a[2]"; owner = 1; port = Some (record { inst = 1; port = 0; place = 1 }); feeder = BitFeeder 1 }
      ∷ record { name = codes "u_b/a[1]"; owner = 1; port = Some (record { inst = 1; port = 0; place = 2 }); feeder = Constant }
      ∷ record { name = codes "u_b/a[0]"; owner = 1; port = Some (record { inst = 1; port = 0; place = 3 }); feeder = Constant }
      ∷ record { name = codes "u_b/i/A"; owner = 2; port = Some (record { inst = 2; port = 0; place = 0 }); feeder = BitFeeder 3 }
      ∷ record { name = codes "u_b/i/Y"; owner = 2; port = Some (record { inst = 2; port = 1; place = 0 }); feeder = Driver (record { inst = 2; port = 1; place = 0 }) } ∷ [];
}

-- the block whose port has two bits
abbrev pub bits : Design
bits = record {
  cells = library;
  modules = record { name = codes "blkv"; ports = record { name = codes "a"; dir = Input; range = Some (1, 0) } ∷ []; nets = []; assigns = []; insts = []; line = 1 } ∷ record { name = codes "topv"; ports = record { name = codes "x"; dir = Input; range = Some (1, 0) } ∷ []; nets = []; assigns = []; insts = []; line = 5 } ∷ [];
  models = [];
  insts =
      record { path = []; parent = None; body = ModuleBody 1 }
      ∷ record { path = codes "u_b"; parent = Some 0; body = ModuleBody 0 }
      ∷ record { path = codes "u_b/i0"; parent = Some 1; body = CellBody 0 }
      ∷ record { path = codes "u_b/i1"; parent = Some 1; body = CellBody 0 } ∷ [];
  bits =
      record { name = codes "x[1]"; owner = 0; port = Some (record { inst = 0; port = 0; place = 0 }); feeder = Driver (record { inst = 0; port = 0; place = 0 }) }
      ∷ record { name = codes "x[0]"; owner = 0; port = Some (record { inst = 0; port = 0; place = 1 }); feeder = Driver (record { inst = 0; port = 0; place = 1 }) }
      ∷ record { name = codes "u_b/a[1]"; owner = 1; port = Some (record { inst = 1; port = 0; place = 0 }); feeder = BitFeeder 0 }
      ∷ record { name = codes "u_b/a[0]"; owner = 1; port = Some (record { inst = 1; port = 0; place = 1 }); feeder = BitFeeder 1 }
      ∷ record { name = codes "u_b/i0/A"; owner = 2; port = Some (record { inst = 2; port = 0; place = 0 }); feeder = BitFeeder 3 }
      ∷ record { name = codes "u_b/i0/Y"; owner = 2; port = Some (record { inst = 2; port = 1; place = 0 }); feeder = Driver (record { inst = 2; port = 1; place = 0 }) }
      ∷ record { name = codes "u_b/i1/A"; owner = 3; port = Some (record { inst = 3; port = 0; place = 0 }); feeder = BitFeeder 2 }
      ∷ record { name = codes "u_b/i1/Y"; owner = 3; port = Some (record { inst = 3; port = 1; place = 0 }); feeder = Driver (record { inst = 3; port = 1; place = 0 }) } ∷ [];
}

-- the chip with its macro
abbrev pub chip : Design
chip = record {
  cells = library;
  modules = driving_head ∷ receiving_head ∷ record { name = codes "top"; ports = record { name = codes "x"; dir = Input; range = None } ∷ []; nets = []; assigns = []; insts = []; line = 7 } ∷ record { name = codes "mac"; ports = record { name = codes "x"; dir = Input; range = None } ∷ []; nets = []; assigns = []; insts = []; line = 1 } ∷ record { name = codes "chip"; ports = record { name = codes "x"; dir = Input; range = None } ∷ []; nets = []; assigns = []; insts = []; line = 6 } ∷ [];
  models = [];
  insts =
      record { path = []; parent = None; body = ModuleBody 4 }
      ∷ record { path = codes "m"; parent = Some 0; body = ModuleBody 3 }
      ∷ record { path = codes "m/u_a"; parent = Some 1; body = ModuleBody 0 }
      ∷ record { path = codes "m/u_a/o"; parent = Some 2; body = CellBody 0 }
      ∷ record { path = codes "m/u_b"; parent = Some 1; body = ModuleBody 1 }
      ∷ record { path = codes "m/u_b/i"; parent = Some 4; body = CellBody 0 } ∷ [];
  bits =
      record { name = codes "x"; owner = 0; port = Some (record { inst = 0; port = 0; place = 0 }); feeder = Driver (record { inst = 0; port = 0; place = 0 }) }
      ∷ record { name = codes "m/n"; owner = 1; port = None; feeder = BitFeeder 4 }
      ∷ record { name = codes "m/x"; owner = 1; port = Some (record { inst = 1; port = 0; place = 0 }); feeder = BitFeeder 0 }
      ∷ record { name = codes "m/u_a/x"; owner = 2; port = Some (record { inst = 2; port = 0; place = 0 }); feeder = BitFeeder 2 }
      ∷ record { name = codes "m/u_a/y"; owner = 2; port = Some (record { inst = 2; port = 1; place = 0 }); feeder = BitFeeder 6 }
      ∷ record { name = codes "m/u_a/o/A"; owner = 3; port = Some (record { inst = 3; port = 0; place = 0 }); feeder = BitFeeder 3 }
      ∷ record { name = codes "m/u_a/o/Y"; owner = 3; port = Some (record { inst = 3; port = 1; place = 0 }); feeder = Driver (record { inst = 3; port = 1; place = 0 }) }
      ∷ record { name = codes "m/u_b/a"; owner = 4; port = Some (record { inst = 4; port = 0; place = 0 }); feeder = BitFeeder 1 }
      ∷ record { name = codes "m/u_b/z"; owner = 4; port = Some (record { inst = 4; port = 1; place = 0 }); feeder = BitFeeder 10 }
      ∷ record { name = codes "m/u_b/i/A"; owner = 5; port = Some (record { inst = 5; port = 0; place = 0 }); feeder = BitFeeder 7 }
      ∷ record { name = codes "m/u_b/i/Y"; owner = 5; port = Some (record { inst = 5; port = 1; place = 0 }); feeder = Driver (record { inst = 5; port = 1; place = 0 }) } ∷ [];
}
