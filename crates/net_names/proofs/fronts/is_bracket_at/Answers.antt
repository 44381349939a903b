use Rattle.std.proofs.Common.{sym, take, ◌∙◌}
use Rattle.list_defs.proofs.NameLemmas.{absent-place_of}
use Rattle.net_names.proofs.Steps.{is_none_of, other_byte}
use Rattle.net_names.proofs.fronts.is_bracket_at.Goals as goal

pub returns-then-name-at-eq91 : goal.returns-then-name-at-eq91
returns-then-name-at-eq91 c none is there =
    absent-place_of (take c.args.at c.args.name.now) c.args.index.now (sym c.find.ensures ∙ is_none_of c.find.result (sym c.is_some.ensures ∙ none)) there

pub returns-else-name-at-eq91 : goal.returns-else-name-at-eq91
returns-else-name-at-eq91 c differ is there = other_byte c.args.name.now c.args.at 91 differ is
