use Rattle.net_names.proofs.PortSteps.{of_cell, of_model, of_module}
use Rattle.net_names.proofs.walking.meet_ports.Goals as goal

pub returns-in_ok-meet_module-in-Module : goal.returns-in_ok-meet_module-in-Module
returns-in_ok-meet_module-in-Module c =
    of_module c.args.modules.now c.args.cells.now c.args.models.now c.args.number c.args.own c.args.path.now c.args.body c.args.meeting.now c.meet_module.new.meeting c.in-Module.holder _
    c.in-Module.is (c.has_module.ensures.0 c.if-not-has_module.false) c.module-line.ensures.line c.in_ok-meet_module-in-Module.ensures

pub returns-in_ok-meet_cell-in-Cell : goal.returns-in_ok-meet_cell-in-Cell
returns-in_ok-meet_cell-in-Cell c =
    of_cell c.args.modules.now c.args.cells.now c.args.models.now c.args.number c.args.own c.args.path.now c.args.body c.args.meeting.now c.meet_cell.new.meeting c.in-Cell.cell c.in-Cell.is
    c.in_ok-meet_cell-in-Cell.ensures

pub returns-in_ok-meet_model-in-Model : goal.returns-in_ok-meet_model-in-Model
returns-in_ok-meet_model-in-Model c =
    of_model c.args.modules.now c.args.cells.now c.args.models.now c.args.number c.args.own c.args.path.now c.args.body c.args.meeting.now c.meet_model.new.meeting c.in-Model.model c.in-Model.is
    c.in_ok-meet_model-in-Model.ensures
