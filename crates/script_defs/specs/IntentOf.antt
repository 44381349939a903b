-- The intent of a final world: what the script says, with numbers in place of names.
use Rattle.std.specs.Prelude.{◌≡◌, ℕ, Bool, true, false, ◌&&◌, List, [], ◌∷◌, Option, None, Some, option_map, option_and_then, option_to_list, unwrap_or, is_some, is_none, map, codes, if◌then◌else◌}
use Rattle.std.specs.List.{AllZip, list_any, list_all, filter, filter_map, flat_map, count_by}
use Rattle.pw_defs.specs.declared.design.Design.{Design}
use Rattle.pw_defs.specs.declared.design.Named.{Named}
use Rattle.pw_defs.specs.declared.intent.Domain.{Domain}
use Rattle.pw_defs.specs.declared.intent.Export.{Export}
use Rattle.pw_defs.specs.declared.intent.SupplySet.{SupplySet}
use Rattle.pw_defs.specs.declared.intent.Unit.{Unit as PowerUnit}
use Rattle.list_defs.specs.Members.{same_name}
use Rattle.design_defs.specs.Names.{joined}
use Rattle.script_defs.specs.Statements.{first_of, names_in, pairs_in, truth_in}
use Rattle.script_defs.specs.World.{SupplyKey, GivenClause, Object, World}
use Rattle.script_defs.specs.Scopes.{above, unit_of, path_from, is_modelled}
use Rattle.script_defs.specs.LookUps.{HandleName, body_named, handle_in, handle_of, is_domain, is_set, set_at, whole_name}
use Rattle.script_defs.specs.DesignParts.{part_from}
use Rattle.script_defs.specs.Supplies.{given_to, function_of, modelled}
use Rattle.script_defs.specs.UnitSteps.{exports_at}
use Rattle.script_defs.specs.StateSteps.{is_in_port_of}
use Rattle.script_defs.specs.Numbers.{unit_number, inst_number, supply_number, function_number, port_keys}

-- SETS. The set with a name has this power and this ground.
pub record IsSetNamed (d : Design) (w : World) (name : List ℕ) (s : SupplySet) : Type 0 where
  pub power_is : function_number d w name true ≡ Some s.power
  pub ground_is : function_number d w name false ≡ s.ground

-- the set with a name, if there is a name
abbrev pub IsSetIfNamed : Design → World → Option (List ℕ) → Option SupplySet → Type 0
IsSetIfNamed d w None None = Unit {0}
IsSetIfNamed d w (Some name) (Some s) = IsSetNamed d w name s
IsSetIfNamed d w _ _ = ⊥

-- UNITS. Whether every function that a set is given is an `in` port of an instance.
abbrev pub has_port_functions : Design → World → List ℕ → List ℕ → Bool
has_port_functions d w path set =
    is_some (function_of d w set (codes "power"))
    && list_all (λ key. list_all (is_in_port_of d w path) (option_to_list (function_of d w set key))) (codes "power" ∷ codes "ground" ∷ [])

-- an exported set: made under a simple name in the instance's own scope, with a power, all of its functions `in` ports of
-- the instance
abbrev pub is_exported : Design → World → List ℕ → Object → Bool
is_exported d w path o = is_set (Some o.body) && same_name path o.scope && is_none (handle_in o.name) && has_port_functions d w path (whole_name o)

abbrev pub IsExport : Design → World → Object → Export → Type 0
IsExport d w o x = (x.name ≡ o.name) × IsSetNamed d w (whole_name o) x.set

-- an export of the model at a path, with the numbers of the instance's supplies
pub record IsModelExport (d : Design) (w : World) (path : List ℕ) (x y : Export) : Type 0 where
  pub name_is : y.name ≡ x.name
  pub power_is : y.set.power ≡ supply_number d w (SupplyKey.inner path x.set.power)
  pub ground_is : y.set.ground ≡ option_map (λ n. supply_number d w (SupplyKey.inner path n)) x.set.ground

abbrev pub AreExports : Design → World → List ℕ → Bool → List Export → Type 0
AreExports d w path true xs = AllZip (IsModelExport d w path) (exports_at d path) xs
AreExports d w path false xs = AllZip (IsExport d w) (filter (is_exported d w path) w.objects) xs

-- how many lines were passed over: of the frames that belong to the unit, and inside a model as it says
abbrev pub passed_in : Design → World → List ℕ → ℕ
passed_in d w path =
    if is_modelled d path then unwrap_or (first_of (filter_map (λ m. if same_name path m.0 then Some m.1.passed else None) (modelled d))) 0
    else count_by (λ home. same_name path (unit_of d w.marks home)) w.passed

pub record IsUnitOf (d : Design) (w : World) (path : List ℕ) (u : PowerUnit) : Type 0 where
  pub inst_is : u.inst ≡ inst_number d path
  pub outer_is : u.outer ≡ option_map (unit_number d w) (first_of (above d path))
  pub passed_is : u.passed ≡ passed_in d w path
  pub ports_are : u.ports ≡ map (supply_number d w) (port_keys d w path)
  pub exports_are : AreExports d w path (is_modelled d path) u.exports

-- GIVEN OPTIONS. Those of one name.
abbrev pub given_as : List ℕ → List GivenClause → List GivenClause
given_as option given = filter (λ g. same_name option g.clause.option) given

-- the words that an option names, each with the scope from which it is seen
abbrev pub words_given : List ℕ → List GivenClause → List (List ℕ × List ℕ)
words_given option given = flat_map (λ (g : GivenClause). map (λ word. (g.scope, word)) (names_in g.clause.parts)) (given_as option given)

-- the first names of the pairs that an option gives
abbrev pub pairs_given : List ℕ → List GivenClause → List (List ℕ × List ℕ)
pairs_given option given = flat_map (λ (g : GivenClause). map (λ (p : List ℕ × List ℕ). (g.scope, p.0)) (pairs_in g.clause.parts)) (given_as option given)

abbrev pub has_option : List ℕ → List GivenClause → Bool
has_option option given = list_any (λ _. true) (given_as option given)

-- whether an option is given as a flag, or as TRUE
abbrev pub has_flag : List ℕ → List GivenClause → Bool
has_flag option given = list_any (λ (g : GivenClause). truth_in g.clause.parts) (given_as option given)

-- the word that an option gives, or another where it isn't given
abbrev pub word_or : List ℕ → List ℕ → List GivenClause → List ℕ
word_or option other given = unwrap_or (option_map (λ (p : List ℕ × List ℕ). p.1) (first_of (words_given option given))) other

-- the instances that an option names
abbrev pub insts_given : Design → List ℕ → List GivenClause → List ℕ
insts_given d option given = map (λ (p : List ℕ × List ℕ). inst_number d (path_from p.0 p.1)) (words_given option given)

-- the parts of the design that an option names
abbrev pub parts_given : Design → List ℕ → List GivenClause → List Named
parts_given d option given = filter_map (λ (p : List ℕ × List ℕ). option_map (λ x. x.named) (part_from d p.0 p.1)) (words_given option given)

-- the set that an option names
abbrev pub set_given : World → List ℕ → List GivenClause → Option (List ℕ)
set_given w option given = option_and_then (λ (p : List ℕ × List ℕ). set_at w (joined p.0 p.1)) (first_of (words_given option given))

-- the set that a filter names: a domain stands for its primary
abbrev pub filter_set : World → List ℕ → Option (List ℕ)
filter_set w name = if is_domain (body_named w name) then option_map (λ h. h.set) (handle_of (body_named w name) HandleName.primary) else set_at w name

abbrev pub filter_given : World → List ℕ → List GivenClause → Option (List ℕ)
filter_given w option given = option_and_then (λ (p : List ℕ × List ℕ). filter_set w (joined p.0 p.1)) (first_of (words_given option given))

-- DOMAINS
pub record IsDomainOf (d : Design) (w : World) (o : Object) (x : Domain) : Type 0 where
  pub name_is : x.name ≡ whole_name o
  pub unit_is : x.unit ≡ unit_number d w o.origin.home
  pub line_is : x.line ≡ o.origin.line
  pub elements_are : x.elements ≡ insts_given d (codes "-elements") (given_to (Some o.body))
  pub excluded_are : x.excluded ≡ insts_given d (codes "-exclude_elements") (given_to (Some o.body))
  pub primary_is : IsSetIfNamed d w (option_map (λ h. h.set) (handle_of (Some o.body) HandleName.primary)) (Some x.primary)
  pub default_is : IsSetIfNamed d w (option_map (λ h. h.set) (handle_of (Some o.body) HandleName.default_isolation)) x.default_iso
