use Rattle.power_states.specs.Expressions.{IsSupplyValue}
use Rattle.state_terms.proofs.Comparisons.{level_reads, level_lacks}
use Rattle.state_terms.proofs.Passing.{none_read}
use Rattle.state_terms.proofs.values.supply_value.Goals as goal

pub returns-in_err-level-in-Some : goal.returns-in_err-level-in-Some
returns-in_err-level-in-Some c =
    none_read (IsSupplyValue c.args.power) c.args.text.now c.from_residual.result c.from_residual.ensures
    (level_lacks c.args.power c.args.text.now c.in-Some.word.now c.in-Some.left.now c.in-Some.ensures c.in_err-level-in-Some.ensures)

pub returns-in_ok-level-in-Some : goal.returns-in_ok-level-in-Some
returns-in_ok-level-in-Some c =
    level_reads c.args.power c.args.text.now c.in-Some.word.now c.in-Some.left.now c.in_ok-level-in-Some.field-0 c.in-Some.ensures c.in_ok-level-in-Some.ensures
