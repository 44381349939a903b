use Rattle.std.proofs.Common.{ℕ, List, subst}
use Rattle.list_defs.specs.Members.{IsIn}
use Rattle.unit_lists.proofs.GatherLemmas.{outermost_whole, unit_whole}
use Rattle.unit_lists.proofs.plans.plan_unit.Goals as goal

pub plan_ports-requires-clause-there : goal.plan_ports-requires-clause-there
plan_ports-requires-clause-there c = λ port listed. c.requires.there port (let I : List ℕ → Type 0 = λ xs. IsIn port xs in subst I c.as_slice.ensures.items listed)

pub returns : goal.returns
returns c =
    unit_whole c.args.supplies.now c.args.plan.now c.plan_ports.new.plan c.args.inner c.in-Some.outer c.args.unit.now c.as_slice.result.now c.in-Some.is
    c.as_slice.ensures.items c.in_ok-plan_ports.ensures

pub returns-in_default : goal.returns-in_default
returns-in_default c = outermost_whole c.args.supplies.now c.args.plan.now c.args.inner c.args.unit.now c.in_default.is
