use Rattle.std.proofs.Common.{◌≡◌, None, Some, map, refl, sym, ◌∙◌}
use Rattle.std.proofs.lemmas.Bool.{false≢true}
use Rattle.std.proofs.lemmas.Option.{same_Some}
use Rattle.pw_defs.specs.declared.netlist.Inst.{Inst}
use Rattle.design_defs.specs.Hierarchy.{type_of}
use Rattle.module_rows.specs.Reads.{module_at}
use Rattle.net_least.proofs.Nears.{near_here, near_through}
use Rattle.net_least.proofs.RowItems.{module_there, row_there}
use Rattle.net_least.proofs.nearest.nearest_below.Goals as goal

pub returns-then-has_mark-clause-near : goal.returns-then-has_mark-clause-near
returns-then-has_mark-clause-near c s names apart is types held =
    near_here s c.args.own.now c.args.modules.now.symbols c.args.links.now c.args.number (c.has_mark.ensures.0 c.if-has_mark.true) _ refl refl

pub returns-in_ok-near-in-Some-clause-near : goal.returns-in_ok-near-in-Some-clause-near
returns-in_ok-near-in-Some-clause-near c s names apart is types held =
    let modules = c.args.modules.now.modules in
    let n = c.args.number in
    let m = module_at c.args.modules.now n in
    let row : c.in-Some.row.now ≡ map (λ (i : Inst). type_of s i.kind) m.insts =
    same_Some c.in-Some.row.now (map (λ (i : Inst). type_of s i.kind) m.insts) (c.in-Some.ensures ∙ row_there s c.args.types.now modules n types is c.requires) in
    near_through s c.args.own.now c.args.modules.now.symbols c.nearest_by.new.links apart n m (module_there s modules n is c.requires)
    (λ mark. false≢true (sym c.if-has_mark.false ∙ c.has_mark.ensures.1 mark)) c.in_ok-near-in-Some.near
    (c.in_ok-near-in-Some.ensures.near s c.args.own.now names is (c.as_slice.ensures.items ∙ row) held)

pub returns-in-None-clause-near : goal.returns-in-None-clause-near
returns-in-None-clause-near c s names apart is types held =
    let row = map (λ (i : Inst). type_of s i.kind) (module_at c.args.modules.now c.args.number).insts in
    let never : None ≡ Some row = c.in-None.ensures ∙ row_there s c.args.types.now c.args.modules.now.modules c.args.number types is c.requires in
    cc
