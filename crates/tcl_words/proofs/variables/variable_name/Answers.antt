use Rattle.std.proofs.Common.{rules}
use Rattle.tcl_words.proofs.VariableNames.{no_braced_name, no_closed_name, is_braced_name}
use Rattle.tcl_words.proofs.variables.variable_name.Goals as goal

pub returns-then-is_empty-clause-named : goal.returns-then-is_empty-clause-named
returns-then-is_empty-clause-named c =
    no_braced_name c.args.reader.now.left c.takes.new.self.left c.in_ok-name.name.items c.name_front.new.reader.left (search rules) (search rules) (search rules)

pub returns-then-not-takes-2-clause-named : goal.returns-then-not-takes-2-clause-named
returns-then-not-takes-2-clause-named c =
    no_closed_name c.args.reader.now.left c.takes.new.self.left c.in_ok-name.name.items c.name_front.new.reader.left (search rules) (search rules) (search rules)

pub returns-clause-named : goal.returns-clause-named
returns-clause-named c =
    is_braced_name c.args.reader.now.left c.takes.new.self.left c.in_ok-name.name.items c.name_front.new.reader.left c.takes-2.new.self.left (search rules)
    (search rules) (search rules) (search rules)
