-- The texts of the files of small jobs, and of the reports on them.
use Rattle.std.specs.Prelude.{ℕ, List, codes, ◌++◌}

-- the library of all jobs
abbrev pub cells_text : List ℕ
cells_text =
    codes "library(cells) {\n"
    ++ codes "cell(BUF) {\n"
    ++ codes "pin(A) { direction : input; }\n"
    ++ codes "pin(Y) { direction : output; }\n"
    ++ codes "}\n"
    ++ codes "cell(ISO) {\n"
    ++ codes "is_isolation_cell : true;\n"
    ++ codes "pin(D) { direction : input; isolation_cell_data_pin : true; }\n"
    ++ codes "pin(EN) { direction : input; isolation_cell_enable_pin : true; }\n"
    ++ codes "pin(Y) { direction : output; }\n"
    ++ codes "}\n"
    ++ codes "cell(LS) {\n"
    ++ codes "is_level_shifter : true;\n"
    ++ codes "pin(A) { direction : input; level_shifter_data_pin : true; }\n"
    ++ codes "pin(Y) { direction : output; }\n"
    ++ codes "}\n"
    ++ codes "}\n"

-- a netlist of two blocks, of which the first drives the second
abbrev pub pair_text : List ℕ
pair_text =
    codes "module blka(input x, output y);\n"
    ++ codes "BUF o(.A(x), .Y(y));\n"
    ++ codes "endmodule\n"
    ++ codes "module blkb(input a, output z);\n"
    ++ codes "BUF i(.A(a), .Y(z));\n"
    ++ codes "endmodule\n"
    ++ codes "module top(input x);\n"
    ++ codes "wire n;\n"
    ++ codes "blka u_a(.x(x), .y(n));\n"
    ++ codes "blkb u_b(.a(n), .z());\n"
    ++ codes "endmodule\n"

-- the intent of the two blocks: the supply of the first can be off, that of the second is always on
abbrev pub pair_script : List ℕ
pair_script =
    codes "create_supply_net VA\n"
    ++ codes "create_supply_net VB\n"
    ++ codes "create_supply_net VSS\n"
    ++ codes "add_supply_state VA -state {off off} -state {on 0.8}\n"
    ++ codes "add_supply_state VB -state {on 0.8}\n"
    ++ codes "add_supply_state VSS -state {gnd 0}\n"
    ++ codes "create_supply_set SA -function {power VA} -function {ground VSS}\n"
    ++ codes "create_supply_set SB -function {power VB} -function {ground VSS}\n"
    ++ codes "create_power_domain PT -elements {.} -supply {primary SB}\n"
    ++ codes "create_power_domain PA -elements {u_a} -supply {primary SA}\n"
    ++ codes "create_power_domain PB -elements {u_b} -supply {primary SB}\n"

-- the report on the two blocks
abbrev pub pair_report : List ℕ
pair_report =
    codes "upfsign report 1\n"
    ++ codes "top top\n"
    ++ codes "chains 2\n"
    ++ codes "passed 0\n"
    ++ codes "ISO_MISSING u_b/i/A from u_a/o/Y\n"
    ++ codes "  state VA=off VB=0.800000 VSS=0.000000\n"
    ++ codes "findings 1\n"

-- the same netlist with an isolation cell in the second block
abbrev pub isolated_text : List ℕ
isolated_text =
    codes "module blka(input x, output y);\n"
    ++ codes "BUF o(.A(x), .Y(y));\n"
    ++ codes "endmodule\n"
    ++ codes "module blkb(input a, output z);\n"
    ++ codes "wire t;\n"
    ++ codes "ISO s(.D(a), .EN(1'b1), .Y(t));\n"
    ++ codes "BUF i(.A(t), .Y(z));\n"
    ++ codes "endmodule\n"
    ++ codes "module top(input x);\n"
    ++ codes "wire n;\n"
    ++ codes "blka u_a(.x(x), .y(n));\n"
    ++ codes "blkb u_b(.a(n), .z());\n"
    ++ codes "endmodule\n"

-- a netlist with vectors, selects, a concatenation and a constant
abbrev pub vector_text : List ℕ
vector_text =
    codes "module w(input [3:0] a);\n"
    ++ codes "BUF i(.A(a[3]), .Y());\n"
    ++ codes "endmodule\n"
    ++ codes "module top(input x);\n"
    ++ codes "wire [1:0] n;\n"
    ++ codes "assign n = {x, x};\n"
    ++ codes "w u_b(.a({n, 2'b00}));\n"
    ++ codes "endmodule\n"

-- a netlist whose two wires feed one another
abbrev pub ring_text : List ℕ
ring_text =
    codes "module top(input x);\n"
    ++ codes "wire n, m;\n"
    ++ codes "assign n = m;\n"
    ++ codes "assign m = n;\n"
    ++ codes "endmodule\n"

-- a netlist whose wire has two feeders
abbrev pub twice_text : List ℕ
twice_text =
    codes "module top(input x);\n"
    ++ codes "assign n = x;\n"
    ++ codes "assign n = x;\n"
    ++ codes "endmodule\n"

-- a netlist that ends in an instance
abbrev pub cut_text : List ℕ
cut_text =
    codes "module top(input x);\n"
    ++ codes "blka u_a(.x(x)"

-- a netlist with a block whose port has two bits
abbrev pub bits_text : List ℕ
bits_text =
    codes "module blkv(input [1:0] a);\n"
    ++ codes "BUF i0(.A(a[0]), .Y());\n"
    ++ codes "BUF i1(.A(a[1]), .Y());\n"
    ++ codes "endmodule\n"
    ++ codes "module topv(input [1:0] x);\n"
    ++ codes "blkv u_b(.a(x));\n"
    ++ codes "endmodule\n"

-- its intent, with strategies that name a bit, a port and nothing
abbrev pub bits_script : List ℕ
bits_script =
    codes "create_supply_net VB\n"
    ++ codes "add_supply_state VB -state {on 0.8}\n"
    ++ codes "create_supply_set SB -function {power VB}\n"
    ++ codes "create_power_domain PT -elements {.} -supply {primary SB}\n"
    ++ codes "create_power_domain PB -elements {u_b} -supply {primary SB}\n"
    ++ codes "set_isolation I2 -domain PB -elements {u_b/a[0]} -no_isolation\n"
    ++ codes "set_isolation I1 -domain PB -elements {u_b/a} -isolation_supply SB -force_isolation\n"
    ++ codes "set_isolation I0 -domain PB -isolation_supply SB\n"

-- the report on it
abbrev pub bits_report : List ℕ
bits_report =
    codes "upfsign report 1\n"
    ++ codes "top topv\n"
    ++ codes "chains 2\n"
    ++ codes "passed 0\n"
    ++ codes "ISO_MISSING u_b/i1/A from x[1] forced\n"
    ++ codes "findings 1\n"

-- a netlist in which the two blocks stand in a macro
abbrev pub macro_text : List ℕ
macro_text =
    codes "module mac(input x);\n"
    ++ codes "wire n;\n"
    ++ codes "blka u_a(.x(x), .y(n));\n"
    ++ codes "blkb u_b(.a(n), .z());\n"
    ++ codes "endmodule\n"
    ++ codes "module chip(input x);\n"
    ++ codes "mac m(.x(x));\n"
    ++ codes "endmodule\n"

-- the intent of the macro, which is a soft macro
abbrev pub macro_script : List ℕ
macro_script =
    codes "set_design_attributes -elements {.} -is_soft_macro TRUE\n"
    ++ codes "create_supply_port VA\n"
    ++ codes "create_supply_port VB\n"
    ++ codes "add_port_state VA -state {off off} -state {on 0.8}\n"
    ++ codes "add_port_state VB -state {on 0.8}\n"
    ++ codes "create_supply_set SA -function {power VA}\n"
    ++ codes "create_supply_set SB -function {power VB}\n"
    ++ codes "create_power_domain PT -elements {.} -supply {primary SB}\n"
    ++ codes "create_power_domain PA -elements {u_a} -supply {primary SA}\n"
    ++ codes "create_power_domain PB -elements {u_b} -supply {primary SB}\n"

-- the intent of the chip, which loads that of its macro
abbrev pub chip_script : List ℕ
chip_script =
    codes "create_supply_net V1\n"
    ++ codes "create_supply_net V2\n"
    ++ codes "add_supply_state V1 -state {off off} -state {on 0.8}\n"
    ++ codes "add_supply_state V2 -state {on 0.8}\n"
    ++ codes "create_supply_set S2 -function {power V2}\n"
    ++ codes "create_power_domain PC -elements {.} -supply {primary S2}\n"
    ++ codes "load_upf mac.upf -scope m\n"
    ++ codes "connect_supply_net V1 -ports {m/VA}\n"
    ++ codes "connect_supply_net V2 -ports {m/VB}\n"

-- the report on the chip
abbrev pub chip_report : List ℕ
chip_report =
    codes "upfsign report 1\n"
    ++ codes "top chip\n"
    ++ codes "chains 2\n"
    ++ codes "passed 0\n"
    ++ codes "ISO_MISSING m/u_b/i/A from m/u_a/o/Y\n"
    ++ codes "  state V1=off V2=0.800000\n"
    ++ codes "findings 1\n"

-- the intent of the two blocks with a power switch in front of the first
abbrev pub switched_script : List ℕ
switched_script =
    codes "create_supply_net VA\n"
    ++ codes "create_supply_net VB\n"
    ++ codes "create_supply_net VSS\n"
    ++ codes "add_supply_state VB -state {on 0.8}\n"
    ++ codes "add_supply_state VSS -state {gnd 0}\n"
    ++ codes "create_power_switch SW -output_supply_port {o VA} -input_supply_port {i VB} -on_state {run i {c}}\n"
    ++ codes "create_supply_set SA -function {power VA} -function {ground VSS}\n"
    ++ codes "create_supply_set SB -function {power VB} -function {ground VSS}\n"
    ++ codes "create_power_domain PT -elements {.} -supply {primary SB}\n"
    ++ codes "create_power_domain PA -elements {u_a} -supply {primary SA}\n"
    ++ codes "create_power_domain PB -elements {u_b} -supply {primary SB}\n"
