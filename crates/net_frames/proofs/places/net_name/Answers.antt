use Rattle.std.proofs.Common.{sym, ap, ◌∙◌}
use Rattle.std.specs.List.{slice_get}
use Rattle.pw_defs.specs.declared.design.Body.{Body}
use Rattle.net_frames.specs.Places.{spellings}
use Rattle.net_frames.proofs.places.net_name.Goals as goal

pub returns-in-Cell : goal.returns-in-Cell
returns-in-Cell c =
    c.pin_name.ensures c.args.modules.now ∙ ap (λ (body : Body). slice_get (spellings c.args.modules.now c.args.rows.now body) c.args.name) (sym c.in-Cell.is)

pub returns-in-Model : goal.returns-in-Model
returns-in-Model c =
    c.port_name.ensures c.args.modules.now ∙ ap (λ (body : Body). slice_get (spellings c.args.modules.now c.args.rows.now body) c.args.name) (sym c.in-Model.is)
