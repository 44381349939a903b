use Rattle.std.proofs.Common.{rules}
use Rattle.pw_lex.proofs.Printed.{one_digit, two_digits, three_digits, four_digits}
use Rattle.pw_lex.proofs.printing.unneeded.Goals as goal

pub returns-then-number-lt10-clause-needed : goal.returns-then-number-lt10-clause-needed
returns-then-number-lt10-clause-needed c = one_digit c.args.number (search rules)

pub returns-then-number-lt100-clause-needed : goal.returns-then-number-lt100-clause-needed
returns-then-number-lt100-clause-needed c = two_digits c.args.number (search rules) (search rules)

pub returns-then-number-lt1000-clause-needed : goal.returns-then-number-lt1000-clause-needed
returns-then-number-lt1000-clause-needed c = three_digits c.args.number (search rules) (search rules)

pub returns-clause-needed : goal.returns-clause-needed
returns-clause-needed c = four_digits c.args.number (search rules) (search rules)
