-- A world has one intent.
use Rattle.std.proofs.Common.{◌≡◌, ℕ, List, Option, Some, None, option_map, refl, sym, ap, ◌∙◌, subst}
use Rattle.std.specs.Prelude.{codes}
use Rattle.pw_defs.specs.declared.design.Design.{Design}
use Rattle.pw_defs.specs.declared.intent.CellSet.{CellSet}
use Rattle.pw_defs.specs.declared.intent.Domain.{Domain}
use Rattle.pw_defs.specs.declared.intent.Intent.{Intent}
use Rattle.pw_defs.specs.declared.intent.PortSet.{PortSet}
use Rattle.pw_defs.specs.declared.intent.SupplySet.{SupplySet}
use Rattle.pw_defs.specs.declared.intent.Unit.{Unit as PowerUnit}
use Rattle.pw_defs.specs.declared.intent.Want.{Want}
use Rattle.pw_defs.specs.declared.strategies.Act.{Act}
use Rattle.pw_defs.specs.declared.strategies.Strategy.{Strategy}
use Rattle.pw_defs.specs.declared.strategies.Tool.{Tool}
use Rattle.pw_defs.specs.declared.supplies.Supply.{Supply}
use Rattle.domain_defs.specs.DomainFaults.{AreDomainsOf}
use Rattle.domain_defs.proofs.OneDomain.{one_list_of_domains}
use Rattle.supply_defs.specs.UnitLists.{AreUnitLists}
use Rattle.supply_defs.proofs.UnitListLaws.{one_unit_lists}
use Rattle.script_defs.specs.World.{GivenClause, Object, SetLine, World}
use Rattle.script_defs.specs.LookUps.{HandleName, handle_of}
use Rattle.script_defs.specs.Supplies.{given_to}
use Rattle.script_defs.specs.Numbers.{unit_paths, domain_objects}
use Rattle.script_defs.specs.Constraints.{constraints}
use Rattle.script_defs.specs.IntentOf.{IsSetIfNamed, IsUnitOf, IsDomainOf, filter_given}
use Rattle.script_defs.specs.StrategiesOf.{IsActOf, IsStrategyOf, IsCellSet, IsPortSet, IsIntentOf, used_port_lines, tool_in}
use Rattle.script_defs.proofs.OneClosing.{one_zip, one_some, one_set, one_unit}

one_set_if : (d : Design) (w : World) (name : Option (List ℕ)) (a b : Option SupplySet) → IsSetIfNamed d w name a → IsSetIfNamed d w name b → a ≡ b
one_set_if d w None None None p q = refl
one_set_if d w None None (Some b) p q = absurd q
one_set_if d w None (Some a) b p q = absurd p
one_set_if d w (Some name) None b p q = absurd p
one_set_if d w (Some name) (Some a) None p q = absurd q
one_set_if d w (Some name) (Some a) (Some b) p q = ap Some (one_set d w name a b p q)

one_domain : (d : Design) (w : World) (o : Object) (x y : Domain) → IsDomainOf d w o x → IsDomainOf d w o y → x ≡ y
one_domain d w o x y p q =
    let primary : x.primary ≡ y.primary =
    one_some x.primary y.primary (one_set_if d w (option_map (λ h. h.set) (handle_of (Some o.body) HandleName.primary)) (Some x.primary)
    (Some y.primary) p.primary_is q.primary_is) in
    let default : x.default_iso ≡ y.default_iso =
    one_set_if d w (option_map (λ h. h.set) (handle_of (Some o.body) HandleName.default_isolation)) x.default_iso y.default_iso p.default_is q.default_is in
    let name : x.name ≡ y.name = p.name_is ∙ sym q.name_is in
    let unit : x.unit ≡ y.unit = p.unit_is ∙ sym q.unit_is in
    let line : x.line ≡ y.line = p.line_is ∙ sym q.line_is in
    let elements : x.elements ≡ y.elements = p.elements_are ∙ sym q.elements_are in
    let excluded : x.excluded ≡ y.excluded = p.excluded_are ∙ sym q.excluded_are in
    λ i. record { name = name i; unit = unit i; line = line i; elements = elements i; excluded = excluded i; primary = primary i; default_iso = default i }

one_act : (d : Design) (w : World) (tool : Tool) (given : List GivenClause) (a b : Act) → IsActOf d w tool given a → IsActOf d w tool given b → a ≡ b
one_act d w Tool.Iso given a b p q =
    let supply : p.supply ≡ q.supply = one_set_if d w _ p.supply q.supply p.supply_is q.supply_is in
    p.act_is ∙ ap (λ s. Act.Iso _ s) supply ∙ sym q.act_is
one_act d w Tool.Shift given a b p q =
    let input : p.input ≡ q.input = one_set_if d w _ p.input q.input p.input_is q.input_is in
    let output : p.output ≡ q.output = one_set_if d w _ p.output q.output p.output_is q.output_is in
    cc (p.act_is, q.act_is)

one_strategy : (d : Design) (w : World) (o : Object) (x y : Strategy) → IsStrategyOf d w o x → IsStrategyOf d w o y → x ≡ y
one_strategy d w o x y p q =
    let domain : x.domain ≡ y.domain = p.domain_is ∙ sym q.domain_is in
    let elements : x.elements ≡ y.elements = p.elements_are ∙ sym q.elements_are in
    let excluded : x.excluded ≡ y.excluded = p.excluded_are ∙ sym q.excluded_are in
    let inputs : x.inputs ≡ y.inputs = p.inputs_is ∙ sym q.inputs_is in
    let outputs : x.outputs ≡ y.outputs = p.outputs_is ∙ sym q.outputs_is in
    let upper : x.upper ≡ y.upper = p.upper_is ∙ sym q.upper_is in
    let lower : x.lower ≡ y.lower = p.lower_is ∙ sym q.lower_is in
    let cells : x.cells ≡ y.cells = p.cells_are ∙ sym q.cells_are in
    let source : x.filter.source ≡ y.filter.source = one_set_if d w (filter_given w (codes "-source") (given_to (Some o.body))) _ _ p.source_is q.source_is in
    let sink : x.filter.sink ≡ y.filter.sink = one_set_if d w (filter_given w (codes "-sink") (given_to (Some o.body))) _ _ p.sink_is q.sink_is in
    let diff : x.filter.diff ≡ y.filter.diff = p.diff_is ∙ sym q.diff_is in
    let sides : x.filter ≡ y.filter = λ i. record { source = source i; sink = sink i; diff = diff i } in
    let act : x.act ≡ y.act = one_act d w (tool_in o.body) (given_to (Some o.body)) x.act y.act p.act_is q.act_is in
    λ i. record {
      domain = domain i;
      elements = elements i;
      excluded = excluded i;
      inputs = inputs i;
      outputs = outputs i;
      upper = upper i;
      lower = lower i;
      cells = cells i;
      filter = sides i;
      act = act i;
    }

one_cell_set : (d : Design) (w : World) (l : SetLine) (x y : CellSet) → IsCellSet d w l x → IsCellSet d w l y → x ≡ y
one_cell_set d w l x y p q =
    let inst : x.inst ≡ y.inst = p.inst_is ∙ sym q.inst_is in
    let set : x.set ≡ y.set = one_set d w l.set x.set y.set p.set_is q.set_is in
    λ i. record { inst = inst i; set = set i }

one_port_set : (d : Design) (w : World) (l : ℕ × SetLine) (x y : PortSet) → IsPortSet d w l x → IsPortSet d w l y → x ≡ y
one_port_set d w l x y p q =
    let port : x.port ≡ y.port = p.port_is ∙ sym q.port_is in
    let set : x.set ≡ y.set = one_set d w l.1.set x.set y.set p.set_is q.set_is in
    λ i. record { port = port i; set = set i }

-- a world has at most one intent
pub one_intent : (d : Design) (w : World) (want : Want) (a b : Intent) → IsIntentOf d w want a → IsIntentOf d w want b → a ≡ b
one_intent d w want a b p q =
    let wanted : a.want ≡ b.want = p.want_is ∙ sym q.want_is in
    let units : a.units ≡ b.units = one_zip (IsUnitOf d w) (one_unit d w) (unit_paths d w) a.units b.units p.units_are q.units_are in
    let supplies : a.supplies ≡ b.supplies = p.supplies_are ∙ sym q.supplies_are in
    let P : List Supply → Type 0 = λ s. AreUnitLists s b.units b.lists in
    let Q : List PowerUnit → Type 0 = λ u. AreUnitLists a.supplies u b.lists in
    let lists : a.lists ≡ b.lists = one_unit_lists a.supplies a.units a.lists b.lists p.lists_are (subst Q (sym units) (subst P (sym supplies) q.lists_are)) in
    let domains : a.domains ≡ b.domains = one_zip (IsDomainOf d w) (one_domain d w) (domain_objects w) a.domains b.domains p.domains_are q.domains_are in
    let R : List Domain → Type 0 = λ ds. AreDomainsOf d ds b.domain_of in
    let members : a.domain_of ≡ b.domain_of = one_list_of_domains d a.domains a.domain_of b.domain_of p.members_are (subst R (sym domains) q.members_are) in
    let strategies : a.strategies ≡ b.strategies =
    one_zip (IsStrategyOf d w) (one_strategy d w) _ a.strategies b.strategies p.strategies_are q.strategies_are in
    let cells : a.cell_sets ≡ b.cell_sets = one_zip (IsCellSet d w) (one_cell_set d w) w.cell_sets a.cell_sets b.cell_sets p.cell_sets_are q.cell_sets_are in
    let ports : a.port_sets ≡ b.port_sets =
    one_zip (IsPortSet d w) (one_port_set d w) (used_port_lines d w) a.port_sets b.port_sets p.port_sets_are q.port_sets_are in
    let conds : a.conds ≡ b.conds = p.conds_are ∙ ap (constraints d w want) lists ∙ sym q.conds_are in
    λ i. record {
      want = wanted i;
      units = units i;
      supplies = supplies i;
      lists = lists i;
      domains = domains i;
      domain_of = members i;
      strategies = strategies i;
      cell_sets = cells i;
      port_sets = ports i;
      conds = conds i;
    }
