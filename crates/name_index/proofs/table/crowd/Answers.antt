use Rattle.std.proofs.Common.{ap}
use Rattle.std.specs.Map.{lookup}
use Rattle.std.specs.BTreeMap.{is_at}
use Rattle.std.specs.Cmp.Lexicographic.{slice_cmp}
use Rattle.std.specs.Ordering.{nat_cmp}
use Rattle.name_index.proofs.Trees.{number_kept}
use Rattle.name_index.proofs.table.crowd.Goals as goal

pub returns-in_err-insert : goal.returns-in_err-insert
returns-in_err-insert c = λ other apart. ap (lookup (is_at (λ k. slice_cmp nat_cmp other k.items))) c.in_err-insert.ensures.err

pub returns : goal.returns
returns c = λ other apart. number_kept c.args.crowded.now c.insert.new.self c.in_ok-copy.copy c.args.name.now other c.in_ok-copy.ensures.items apart c.in_ok-insert.ensures.updates.3
