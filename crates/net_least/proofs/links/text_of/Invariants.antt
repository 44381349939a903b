use Rattle.design_defs.specs.Hierarchy.{Way}
use Rattle.net_least.specs.Links.{IsWalked, IsWay}
use Rattle.net_least.proofs.links.text_of.Given as goal

abbrev pub invariant-loop : goal.invariant-loop
invariant-loop l = (way : Way) → IsWay l.modules.symbols l.links l.fn.at way → IsWalked l.modules.symbols l.links way l.rest l.text
