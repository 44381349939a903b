use Rattle.std.proofs.lemmas.Option.{MatchOption-at_none, MatchOption-at_some}
use Rattle.form_design.proofs.OverLemmas.{held_by, fits_not, hierarchy_by}
use Rattle.form_design.proofs.design.design_over.Goals as goal

pub hierarchy_of-requires : goal.hierarchy_of-requires
hierarchy_of-requires c = record { held = held_by c.args.names.now c.args.lines.now c.args.modules.now c.args.top c.requires.named }

pub named_design-requires-clause-held : goal.named_design-requires-clause-held
named_design-requires-clause-held c =
    hierarchy_by c.args.names.now c.args.lines.now c.args.modules.now c.args.top c.in-Some.hierarchy.helds.items c.in-Some.hierarchy.bits.items c.requires.named
    (MatchOption-at_some _ _ c.in-Some.hierarchy c.in-Some.is c.in_ok-hierarchy.ensures)

pub returns-in-Some : goal.returns-in-Some
returns-in-Some c = c.named_design.ensures

pub returns-in-None : goal.returns-in-None
returns-in-None c = fits_not c.args.names.now c.args.lines.now c.args.modules.now c.args.top c.requires.named (MatchOption-at_none _ _ c.in-None.is c.in_ok-hierarchy.ensures)
