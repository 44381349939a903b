use Rattle.std.proofs.Common.{◌≡◌, ◌++◌, List, Option, map, take}
use Rattle.pw_defs.specs.declared.netlist.Inst.{Inst}
use Rattle.design_defs.specs.Hierarchy.{Sources, type_of, AreNamedInsts}
use Rattle.module_rows.specs.Reads.{module_at}
use Rattle.net_least.specs.Nearest.{AreHeldNear, IsNear, IsWayBy}
use Rattle.net_least.specs.declared.links.Link.{Link}
use Rattle.net_least.specs.declared.own.OwnFault.{OwnFault}
use Rattle.net_least.proofs.nearest.nearest_by.Given as goal

abbrev pub invariant-loop-inst : goal.invariant-loop-inst
invariant-loop-inst l = record {
  grown : (more : List Link) × (l.links ≡ l.fn.links ++ more);
  near : (s : Sources) → (own : List (Option OwnFault)) → AreNamedInsts s → s.modules ≡ l.modules.modules
      → l.row ≡ map (λ (i : Inst). type_of s i.kind) (module_at l.modules l.holder).insts → AreHeldNear s own l.modules.symbols l.fn.links l.nears l.holder
      → IsNear l.modules.symbols l.links (IsWayBy s own (take l.inst (module_at l.modules l.holder).insts)) l.best;
}
