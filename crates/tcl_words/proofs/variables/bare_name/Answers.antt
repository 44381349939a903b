use Rattle.std.proofs.Common.{rules}
use Rattle.tcl_words.proofs.VariableNames.{no_bare_name, is_bare_name}
use Rattle.tcl_words.proofs.variables.bare_name.Goals as goal

pub returns-then-is_empty-clause-named : goal.returns-then-is_empty-clause-named
returns-then-is_empty-clause-named c =
    no_bare_name c.args.reader.now.left c.in_ok-name.name.items c.name_front.new.reader.left (search rules) (search rules) (search rules)

pub returns-clause-named : goal.returns-clause-named
returns-clause-named c =
    is_bare_name c.args.reader.now.left c.in_ok-name.name.items c.name_front.new.reader.left (search rules) (search rules) (search rules)
