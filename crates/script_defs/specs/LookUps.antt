-- What a name stands for: objects of the script, supplies, sets, and parts of the design.
use Rattle.std.specs.Prelude.{ℕ, ◌==◌, Bool, true, false, List, [], ◌∷◌, ◌++◌, Option, None, Some, option_map, option_and_then, is_some, map, codes, if◌then◌else◌}
use Rattle.std.specs.List.{find, list_any, before_last, after_last}
use Rattle.pw_defs.specs.declared.strategies.Tool.{Tool}
use Rattle.pw_defs.specs.declared.supplies.SupplyKind.{SupplyKind}
use Rattle.pw_defs.specs.declared.supplies.SupplyKind.TheVariants.{SwitchIn, SwitchOut}
use Rattle.list_defs.specs.Members.{same_name}
use Rattle.design_defs.specs.Names.{joined}
use Rattle.script_defs.specs.World.{Body, Handle, Object, World}

-- the whole name of an object: its simple name with the path of its scope in front
abbrev pub whole_name : Object → List ℕ
whole_name o = joined o.scope o.name

-- the object with a whole name
abbrev pub object_at : World → List ℕ → Option Object
object_at w name = find (λ o. same_name name (whole_name o)) w.objects

abbrev pub body_named : World → List ℕ → Option Body
body_named w name = option_map (λ o. o.body) (object_at w name)

abbrev pub is_taken : World → List ℕ → Bool
is_taken w name = is_some (object_at w name)

-- what a supply of the script is, as an object
abbrev pub supply_kind : Option Body → Option SupplyKind
supply_kind (Some (Body.supply kind)) = Some kind
supply_kind _ = None

abbrev pub is_set : Option Body → Bool
is_set (Some (Body.set given states)) = true
is_set _ = false

abbrev pub is_domain : Option Body → Bool
is_domain (Some (Body.domain given primary isolation states)) = true
is_domain _ = false

abbrev pub is_table : Option Body → Bool
is_table (Some (Body.table columns rows)) = true
is_table _ = false

abbrev pub is_group : Option Body → Bool
is_group (Some (Body.group states)) = true
is_group _ = false

abbrev pub is_strategy : Option Body → Bool
is_strategy (Some (Body.strategy tool given)) = true
is_strategy _ = false

abbrev pub same_tool : Tool → Tool → Bool
same_tool Tool.Iso Tool.Iso = true
same_tool Tool.Shift Tool.Shift = true
same_tool _ _ = false

abbrev pub is_strategy_for : Tool → Option Body → Bool
is_strategy_for tool (Some (Body.strategy other given)) = same_tool tool other
is_strategy_for tool _ = false

abbrev pub is_power_model : Option Body → Bool
is_power_model (Some (Body.power_model modules lines)) = true
is_power_model _ = false

-- the two sets that a domain can have
pub data HandleName : Type 0 where
  primary default_isolation : HandleName

abbrev pub is_dot : ℕ → Bool
is_dot b = b == 46

abbrev pub handle_named : List ℕ → Option HandleName
handle_named word =
    if same_name word (codes "primary") then Some HandleName.primary
    else (if same_name word (codes "default_isolation") then Some HandleName.default_isolation else None)

-- a name of the form D.primary or D.default_isolation, as the name of the domain and the handle
abbrev pub handle_in : List ℕ → Option (List ℕ × HandleName)
handle_in name =
    if list_any is_dot name then option_map (λ h. (before_last is_dot name, h)) (handle_named (after_last is_dot name)) else None

abbrev pub handle_of : Option Body → HandleName → Option Handle
handle_of (Some (Body.domain given p isolation states)) HandleName.primary = p
handle_of (Some (Body.domain given p isolation states)) HandleName.default_isolation = isolation
handle_of _ _ = None

-- the set of a handle of the domain with a name
abbrev pub handle_at : World → List ℕ × HandleName → Option Handle
handle_at w h = handle_of (body_named w h.0) h.1

-- the set that a name stands for, by its whole name: a set, or that of a domain's handle
abbrev pub set_at : World → List ℕ → Option (List ℕ)
set_at w name =
    if is_set (body_named w name) then Some name
    else option_map (λ h. h.set) (option_and_then (handle_at w) (handle_in name))

-- the port names of a switch: its output, then its inputs
abbrev pub switch_ports : Option Body → List (List ℕ)
switch_ports (Some (Body.switch output inputs on)) = output ∷ inputs
switch_ports _ = []

-- a port of a switch is named by switch and port
abbrev pub switch_port : List ℕ → List ℕ → List ℕ
switch_port switch port = switch ++ 47 ∷ port

-- the supplies that an object has: a port or net itself, and the ports of a switch
abbrev pub supplies_in : Object → List (List ℕ × SupplyKind)
supplies_in o = elim o.body as (λ b. List (List ℕ × SupplyKind)) [
  | Body.supply kind ↦ (o.name, kind) ∷ []
  | Body.switch output inputs on ↦ (switch_port o.name output, SwitchOut) ∷ map (λ port. (switch_port o.name port, SwitchIn)) inputs
  | _ ↦ []
]
