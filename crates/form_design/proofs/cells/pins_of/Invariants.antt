use Rattle.std.proofs.Common.{◌≡◌, ◌++◌, map, drop}
use Rattle.pw_defs.specs.declared.cells.Pin.{Pin}
use Rattle.line_forms.specs.declared.library_lines.PinLine.{PinLine}
use Rattle.form_design.proofs.cells.pins_of.Given as goal

-- those so far and those that are left are all
abbrev pub invariant-loop-pin : goal.invariant-loop-pin
invariant-loop-pin l = l.pins ++ map (λ (p : PinLine). let pin : Pin = record { name = p.name; dir = p.dir } in pin) (drop l.pin-index l.lines) ≡ map (λ (p : PinLine). let pin : Pin = record { name = p.name; dir = p.dir } in pin) l.lines
