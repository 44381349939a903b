-- The numbers of an intent: of the units, supplies and domains of a world, in their orders.
use Rattle.std.specs.Prelude.{ℕ, Bool, true, false, ◌||◌, List, [], ◌∷◌, ◌++◌, Option, Some, option_map, option_to_list, unwrap_or, map, codes, if◌then◌else◌}
use Rattle.std.specs.List.{list_any, filter, flat_map, enumerate_from}
use Rattle.pw_defs.specs.declared.design.Design.{Design}
use Rattle.pw_defs.specs.declared.model.Model.{Model as ModelText}
use Rattle.pw_defs.specs.declared.model.ModelSupply.{ModelSupply}
use Rattle.pw_defs.specs.declared.supplies.Said.{Said}
use Rattle.pw_defs.specs.declared.supplies.Supply.{Supply}
use Rattle.pw_defs.specs.declared.terms.Term.{Term}
use Rattle.pw_defs.specs.declared.terms.Term.TheOpen.{Term-F}
use Rattle.pw_defs.specs.declared.terms.Term.TheFolds.{fold-Term}
use Rattle.pw_defs.specs.declared.values.Value.{Value}
use Rattle.list_defs.specs.Members.{place_of, same_name}
use Rattle.design_defs.specs.Names.{joined}
use Rattle.script_defs.specs.World.{Body, SupplyKey, same_supply, Expression, Object, World}
use Rattle.script_defs.specs.Scopes.{unit_of, is_soft_macro, is_modelled, is_one_of}
use Rattle.script_defs.specs.LookUps.{is_set, is_domain, whole_name, switch_port}
use Rattle.script_defs.specs.Supplies.{SupplyEntry, entries, entry_of, feeder_of, function_of, modelled}
use Rattle.script_defs.specs.PowerStateSteps.{states_of}

-- the units by the paths of their instances, in order of instances: the top's first
abbrev pub unit_paths : Design → World → List (List ℕ)
unit_paths d w = filter (λ path. same_name path [] || is_soft_macro d w.marks path) (map (λ i. i.path) d.insts)

-- the place of a name in a list of names
abbrev pub number_in : List (List ℕ) → List ℕ → ℕ
number_in names name = unwrap_or (place_of (same_name name) names) 0

-- the number of the unit at or above an instance
abbrev pub unit_number : Design → World → List ℕ → ℕ
unit_number d w path = number_in (unit_paths d w) (unit_of d w.marks path)

-- the number of the instance at a path
abbrev pub inst_number : Design → List ℕ → ℕ
inst_number d path = number_in (map (λ i. i.path) d.insts) path

-- the number of a supply
abbrev pub supply_number : Design → World → SupplyKey → ℕ
supply_number d w key = unwrap_or (place_of (λ e. same_supply key e.key) (entries d w)) 0

-- the values of sets' functions that a term has, each with whether it is the power's
abbrev pub literals_at : Term-F (List (Bool × Value)) → List (Bool × Value)
literals_at (Term-F.Is left state) = []
literals_at (Term-F.Volt power value) = (power, value) ∷ []
literals_at (Term-F.On power) = []
literals_at (Term-F.Not part) = part
literals_at (Term-F.All parts) = flat_map (λ p. p) parts
literals_at (Term-F.Any parts) = flat_map (λ p. p) parts

unfoldable pub literals_in : Term → List (Bool × Value)
literals_in = fold-Term (List (Bool × Value)) literals_at

abbrev pub function_key : Bool → List ℕ
function_key true = codes "power"
function_key false = codes "ground"

-- the supply of a function of a set, as its number
abbrev pub function_number : Design → World → List ℕ → Bool → Option ℕ
function_number d w set power = option_map (supply_number d w) (function_of d w set (function_key power))

-- a value that is mentioned on a supply, and the scope at which the frame of its line began
pub record Mention : Type 0 where
  pub supply : SupplyKey
  pub value : Value
  pub home : List ℕ

-- the literals of a set's states, each on the supply that its function has in the end
abbrev pub literals_of_set : Design → World → List ℕ → Expression → List Mention
literals_of_set d w set e =
    flat_map
    (λ (p : Bool × Value). map (λ key. record { supply = key; value = p.1; home = e.origin.home }) (option_to_list (function_of d w set (function_key p.0))))
    (literals_in e.term)

abbrev pub mentions_of_set : Design → World → Object → List Mention
mentions_of_set d w o = flat_map (λ st. flat_map (literals_of_set d w (whole_name o)) st.expressions) (states_of (Some o.body)).states

-- the values of the interface supplies of a model
abbrev pub mentions_of_model : List ℕ × ModelText → List Mention
mentions_of_model m =
    flat_map (λ (e : ℕ × ModelSupply). map (λ v. record { supply = SupplyKey.inner m.0 e.0; value = v; home = m.0 }) e.1.values) (enumerate_from 0 m.1.supplies)

-- All values that are mentioned on supplies: those of models, those that lines state, in order, and the literals of sets'
-- states, by set in order of making.
abbrev pub mentions : Design → World → List Mention
mentions d w =
    flat_map mentions_of_model (modelled d)
    ++ map (λ st. record { supply = st.supply; value = st.value; home = st.origin.home }) w.stated
    ++ flat_map (mentions_of_set d w) (filter (λ o. is_set (Some o.body)) w.objects)

abbrev pub said_on : Design → World → SupplyKey → List Said
said_on d w key = map (λ m. record { unit = unit_number d w m.home; value = m.value }) (filter (λ m. same_supply key m.supply) (mentions d w))

-- the inputs of a switch that an on state names, each once, in order of the inputs
abbrev pub named_inputs : Option Body → List (List ℕ)
named_inputs (Some (Body.switch output inputs on)) = filter (λ port. is_one_of port on) inputs
named_inputs _ = []

abbrev pub output_port : Option Body → List ℕ
output_port (Some (Body.switch output inputs on)) = output
output_port _ = []

abbrev pub key_of_port : Object → List ℕ → SupplyKey
key_of_port o port = SupplyKey.made (joined o.scope (switch_port o.name port))

abbrev pub is_switch : Option Body → Bool
is_switch (Some (Body.switch output inputs on)) = true
is_switch _ = false

-- the switches, in order of making
abbrev pub switches : World → List Object
switches w = filter (λ o. is_switch (Some o.body)) w.objects

-- the inputs that on states name, of the switch whose output a supply is
abbrev pub inputs_behind : Design → World → SupplyKey → List ℕ
inputs_behind d w key =
    flat_map
    (λ o. map (λ port. supply_number d w (key_of_port o port)) (named_inputs (Some o.body)))
    (filter (λ o. same_supply key (key_of_port o (output_port (Some o.body)))) (switches w))

-- a supply of the intent: its name has the path of its scope in front
abbrev pub supply_of : Design → World → SupplyEntry → Supply
supply_of d w e = record {
  name = joined e.scope e.name;
  unit = unit_number d w e.scope;
  kind = e.kind;
  feeder = option_map (supply_number d w) (feeder_of w.links e.key);
  inputs = inputs_behind d w e.key;
  said = said_on d w e.key;
}

-- the supplies of the intent
abbrev pub supplies_of : Design → World → List Supply
supplies_of d w = map (supply_of d w) (entries d w)

-- the supply ports of a unit's own instance: in order of declaration, and of a model its supplies in order
abbrev pub port_keys : Design → World → List ℕ → List SupplyKey
port_keys d w path =
    if is_modelled d path then map (λ e. e.key) (filter (λ e. same_name path e.scope) (entries d w))
    else filter (λ key. list_any (λ e. same_name path e.scope) (option_to_list (entry_of d w key))) (map SupplyKey.made w.ports)

-- the domains, in order of making
abbrev pub domain_objects : World → List Object
domain_objects w = filter (λ o. is_domain (Some o.body)) w.objects

-- the number of the domain with a whole name
abbrev pub domain_number : World → List ℕ → ℕ
domain_number w name = number_in (map whole_name (domain_objects w)) name
