-- Where signals come from: drivers, the outputs of models, and the outputs of isolation cells and level shifters.
use Rattle.std.specs.Prelude.{◌==◌, Bool, false, not, ◌&&◌, ◌||◌, Option, Some, None, slice_get}
use Rattle.pw_defs.specs.declared.cells.Cell.{Cell}
use Rattle.pw_defs.specs.declared.design.Body.{Body}
use Rattle.pw_defs.specs.declared.design.Body.TheVariants.{Module, Cell as CellBody, Model}
use Rattle.pw_defs.specs.declared.design.Design.{Design}
use Rattle.pw_defs.specs.declared.design.PortBit.{PortBit}
use Rattle.design_defs.specs.Ports.{dir_in, is_input, is_output, body_of}

-- whether a cell is an isolation cell or a level shifter
abbrev pub is_interface_cell : Option Cell → Bool
is_interface_cell None = false
is_interface_cell (Some c) = c.iso || c.shift

-- A driver is an output pin of a leaf cell that is neither isolation cell nor level shifter, or an input bit of the top.
abbrev pub drives_in : Design → Body → PortBit → Bool
drives_in d (Module m) p = p.inst == 0 && is_input (dir_in d (Module m) p.port)
drives_in d (CellBody c) p = is_output (dir_in d (CellBody c) p.port) && not (is_interface_cell (slice_get d.cells.cells c))
drives_in d (Model m) p = false

-- A signal begins at a driver, or comes out of an instance that a model stands for.
abbrev pub begins_signal_in : Design → Body → PortBit → Bool
begins_signal_in d (Module m) p = drives_in d (Module m) p
begins_signal_in d (CellBody c) p = drives_in d (CellBody c) p
begins_signal_in d (Model m) p = is_output (dir_in d (Model m) p.port)

-- the output pins of isolation cells and level shifters, which pass on what comes in at the through pin
abbrev pub passes_on_in : Design → Body → PortBit → Bool
passes_on_in d (Module m) p = false
passes_on_in d (CellBody c) p = is_output (dir_in d (CellBody c) p.port) && is_interface_cell (slice_get d.cells.cells c)
passes_on_in d (Model m) p = false

-- what is asked of a port bit, with what its instance is an instance of
abbrev pub asked_at : (Design → Body → PortBit → Bool) → Design → PortBit → Option Body → Bool
asked_at test d p None = false
asked_at test d p (Some body) = test d body p

-- whether a port bit is a driver
abbrev pub drives : Design → PortBit → Bool
drives d p = asked_at drives_in d p (body_of d p.inst)

-- whether a signal begins at a port bit
abbrev pub begins_signal : Design → PortBit → Bool
begins_signal d p = asked_at begins_signal_in d p (body_of d p.inst)

-- whether a port bit is an output pin of an isolation cell or level shifter
abbrev pub passes_on : Design → PortBit → Bool
passes_on d p = asked_at passes_on_in d p (body_of d p.inst)
