use Rattle.std.proofs.Common.{rules}
use Rattle.net_modules.proofs.ToldLaws.{fault_taken, modules_taken, second_taken}
use Rattle.net_modules.proofs.texts.add_modules.Goals as goal

pub returns-in-None-clause-modules : goal.returns-in-None-clause-modules
returns-in-None-clause-modules c =
    modules_taken c.args.text.now c.new-tokens.result c.whole_netlist.new.tokens c.args.builder.now c.whole_netlist.new.builder c.new-tokens.ensures c.in-Ok.whole
    c.in-Ok.ensures c.in-None.is

pub returns-in-Some-clause-fault : goal.returns-in-Some-clause-fault
returns-in-Some-clause-fault c =
    second_taken c.args.text.now c.new-tokens.result c.whole_netlist.new.tokens c.args.builder.now c.whole_netlist.new.builder c.new-tokens.ensures c.in-Ok.whole
    c.in-Some.second c.second_at.result c.in-Ok.ensures c.in-Some.is (search rules)

pub returns-in-Err-Fault-clause-fault : goal.returns-in-Err-Fault-clause-fault
returns-in-Err-Fault-clause-fault c =
    fault_taken c.args.text.now c.new-tokens.result c.whole_netlist.new.tokens c.args.builder.now c.whole_netlist.new.builder c.new-tokens.ensures c.in-Err-Fault.field-0
    c.fault_next.result c.in-Err-Fault.ensures c.in-Err-Fault.field-0-is c.fault_next.ensures
