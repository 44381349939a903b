use Rattle.state_terms.proofs.Comparisons.{value_reads, value_lacks, function_lacks}
use Rattle.state_terms.proofs.terms.value_side.Goals as goal

pub returns-in_default-clause-lacks : goal.returns-in_default-clause-lacks
returns-in_default-clause-lacks c = function_lacks c.args.subject.now c.args.text.now c.in_default.ensures

pub returns-in_default-supply_value-clause-lacks : goal.returns-in_default-supply_value-clause-lacks
returns-in_default-supply_value-clause-lacks c = value_lacks c.args.subject.now c.in-Some.power c.args.text.now c.in-Some.ensures c.in_default-supply_value.ensures

pub returns-clause-reads : goal.returns-clause-reads
returns-clause-reads c = value_reads c.args.subject.now c.in-Some.power c.args.text.now c.in-Some-supply_value.rest.now c.in-Some-supply_value.term c.in-Some.ensures
    c.in-Some-supply_value.ensures
