use Rattle.lib_cells.specs.declared.pins.PinRoles.{PinRoles}
use Rattle.lib_cells.proofs.RoleLaws.{only_end}
use Rattle.lib_cells.proofs.pins.through_pin.Goals as goal

pub returns : goal.returns
returns c = only_end (λ (r : PinRoles). r.is_data) c.args.roles.now c.loop-at.at c.loop-at.found c.loop-at-test.false c.loop-at.invariant
