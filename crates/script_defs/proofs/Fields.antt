-- Statements, domains and strategies, each from what is to be said of its fields, for the worked scripts.
use Rattle.std.specs.Prelude.{◌≡◌, ℕ, List, None, Some, option_map, if◌then◌else◌, map, codes}
use Rattle.std.specs.List.{AllZip}
use Rattle.pw_defs.specs.declared.design.Design.{Design}
use Rattle.pw_defs.specs.declared.intent.Domain.{Domain}
use Rattle.pw_defs.specs.declared.script.Command.{Command}
use Rattle.pw_defs.specs.declared.script.Given.{Given}
use Rattle.pw_defs.specs.declared.strategies.Strategy.{Strategy}
use Rattle.upf_commands.specs.CommandRows.{OptionRow}
use Rattle.script_defs.specs.World.{Object, World}
use Rattle.script_defs.specs.Scopes.{path_from}
use Rattle.script_defs.specs.Supplies.{given_to}
use Rattle.script_defs.specs.LookUps.{HandleName, handle_of, whole_name}
use Rattle.script_defs.specs.Numbers.{unit_number, inst_number}
use Rattle.script_defs.specs.IntentOf.{IsSetIfNamed, IsDomainOf, insts_given, pairs_given, has_option, has_flag, parts_given, filter_given}
use Rattle.script_defs.specs.Loads.{IsDomainByElements}
use Rattle.script_defs.specs.StrategiesOf.{IsActOf, IsStrategyOf, admits, domain_given, tool_in}
use Rattle.script_defs.specs.Statements.{Clause, Statement}
use Rattle.script_defs.specs.ReadStatements.{IsClauseOf, IsOptionSaid, IsStatementOf, option_row}

-- one and then the rest
pub beside : {A B : Type 0} → A → B → A × B
beside a b = (a, b)

pub clause_so : (command : List ℕ) (g : Given) (c : Clause) (row : OptionRow) → c.option ≡ g.option → c.bytes ≡ g.value
    → option_row command g.option ≡ Some row → IsOptionSaid row.arity row.form g.value c.parts → IsClauseOf command g c
clause_so command g c row option bytes is said = record { option_is = option; bytes_are = bytes; row = row; row_is = is; said = said }

pub statement_so : (c : Command) (s : Statement)
    → s.name ≡ c.name
    → s.args ≡ c.args
    → s.line ≡ c.line
    → s.passed ≡ c.passed
    → AllZip (IsClauseOf c.name) c.options.given s.clauses
    → IsStatementOf c s
statement_so c s name_is args_are line_is passed_is clauses_are = record { name_is = name_is; args_are = args_are; line_is = line_is; passed_is = passed_is; clauses_are = clauses_are }

pub domain_so : (d : Design) (w : World) (o : Object) (x : Domain)
    → x.name ≡ whole_name o
    → x.unit ≡ unit_number d w o.origin.home
    → x.line ≡ o.origin.line
    → x.elements ≡ insts_given d (codes "-elements") (given_to (Some o.body))
    → x.excluded ≡ insts_given d (codes "-exclude_elements") (given_to (Some o.body))
    → IsSetIfNamed d w (option_map (λ h. h.set) (handle_of (Some o.body) HandleName.primary)) (Some x.primary)
    → IsSetIfNamed d w (option_map (λ h. h.set) (handle_of (Some o.body) HandleName.default_isolation)) x.default_iso
    → IsDomainOf d w o x
domain_so d w o x name_is unit_is line_is elements_are excluded_are primary_is default_is = record { name_is = name_is; unit_is = unit_is; line_is = line_is; elements_are = elements_are; excluded_are = excluded_are; primary_is = primary_is; default_is = default_is }

pub domain_by_elements : (d : Design) (w : World) (o : Object) (x : Domain)
    → x.name ≡ whole_name o
    → x.unit ≡ unit_number d w o.origin.home
    → x.line ≡ o.origin.line
    → x.elements ≡ insts_given d (codes "-elements") (given_to (Some o.body))
    → x.excluded ≡ insts_given d (codes "-exclude_elements") (given_to (Some o.body))
    → x.primary.power ≡ 0
    → x.primary.ground ≡ None
    → x.default_iso ≡ None
    → IsDomainByElements d w o x
domain_by_elements d w o x name_is unit_is line_is elements_are excluded_are power_is no_ground no_default = record { name_is = name_is; unit_is = unit_is; line_is = line_is; elements_are = elements_are; excluded_are = excluded_are; power_is = power_is; no_ground = no_ground; no_default = no_default }

pub strategy_so : (d : Design) (w : World) (o : Object) (s : Strategy)
    → s.domain ≡ domain_given w (given_to (Some o.body))
    → s.elements ≡ (if has_option (codes "-elements") (given_to (Some o.body)) then Some (parts_given d (codes "-elements") (given_to (Some o.body))) else None)
    → s.excluded ≡ parts_given d (codes "-exclude_elements") (given_to (Some o.body))
    → s.inputs ≡ admits (codes "-applies_to") (codes "inputs") (codes "both") (given_to (Some o.body))
    → s.outputs ≡ admits (codes "-applies_to") (codes "outputs") (codes "both") (given_to (Some o.body))
    → s.upper ≡ admits (codes "-applies_to_boundary") (codes "upper") (codes "upper") (given_to (Some o.body))
    → s.lower ≡ admits (codes "-applies_to_boundary") (codes "lower") (codes "upper") (given_to (Some o.body))
    → s.cells ≡ map (λ (p : List ℕ × List ℕ). inst_number d (path_from p.0 p.1)) (pairs_given (codes "-instance") (given_to (Some o.body)))
    → IsSetIfNamed d w (filter_given w (codes "-source") (given_to (Some o.body))) s.filter.source
    → IsSetIfNamed d w (filter_given w (codes "-sink") (given_to (Some o.body))) s.filter.sink
    → s.filter.diff ≡ has_flag (codes "-diff_supply_only") (given_to (Some o.body))
    → IsActOf d w (tool_in o.body) (given_to (Some o.body)) s.act
    → IsStrategyOf d w o s
strategy_so d w o s domain_is elements_are excluded_are inputs_is outputs_is upper_is lower_is cells_are source_is sink_is diff_is act_is = record { domain_is = domain_is; elements_are = elements_are; excluded_are = excluded_are; inputs_is = inputs_is; outputs_is = outputs_is; upper_is = upper_is; lower_is = lower_is; cells_are = cells_are; source_is = source_is; sink_is = sink_is; diff_is = diff_is; act_is = act_is }
