-- The supplies of a world: what a name stands for, what feeds a supply, and the functions of sets.
use Rattle.std.specs.Prelude.{ℕ, zero, suc, Bool, true, false, ◌&&◌, List, [], ◌∷◌, ◌++◌, Option, None, Some, option_map, option_and_then, map, length, slice_get, if◌then◌else◌}
use Rattle.std.specs.List.{find, filter_map, flat_map, enumerate_from, before_last, after_last}
use Rattle.std.specs.Option.{option_or}
use Rattle.pw_defs.specs.declared.cells.Dir.{Dir}
use Rattle.pw_defs.specs.declared.cells.Dir.TheVariants.{Input, Output}
use Rattle.pw_defs.specs.declared.design.Body.{Body as DesignBody}
use Rattle.pw_defs.specs.declared.design.Body.TheVariants.{Model}
use Rattle.pw_defs.specs.declared.design.Design.{Design}
use Rattle.pw_defs.specs.declared.design.Instance.{Instance}
use Rattle.pw_defs.specs.declared.model.Model.{Model as ModelText}
use Rattle.pw_defs.specs.declared.model.ModelSupply.{ModelSupply}
use Rattle.pw_defs.specs.declared.model.OutPort.{OutPort as ModelOut}
use Rattle.pw_defs.specs.declared.supplies.SupplyKind.{SupplyKind}
use Rattle.pw_defs.specs.declared.supplies.SupplyKind.TheVariants.{InPort, OutPort, SwitchIn, SwitchOut, Kept}
use Rattle.list_defs.specs.Members.{same_name}
use Rattle.design_defs.specs.Names.{joined}
use Rattle.script_defs.specs.Statements.{pairs_in, first_of}
use Rattle.script_defs.specs.World.{Body, SupplyKey, same_supply, Link, GivenClause, Object, World}
use Rattle.script_defs.specs.LookUps.{body_named, is_dot, set_at, supplies_in}

-- A supply by its key, with the scope where it stands, its name there and its kind.
pub record SupplyEntry : Type 0 where
  pub key : SupplyKey
  pub scope : List ℕ
  pub name : List ℕ
  pub kind : SupplyKind

-- the interface supplies of the model at a path, then its `out` ports
abbrev pub entries_of_model : List ℕ → ModelText → List SupplyEntry
entries_of_model path m =
    map (λ (e : ℕ × ModelSupply). record { key = SupplyKey.inner path e.0; scope = path; name = e.1.name; kind = if e.1.port then InPort else Kept })
    (enumerate_from 0 m.supplies)
    ++ map (λ (e : ℕ × ModelOut). record { key = SupplyKey.outer path e.0; scope = path; name = e.1.name; kind = OutPort }) (enumerate_from 0 m.outs)

abbrev pub model_of_body : Design → DesignBody → Option ModelText
model_of_body d (Model m) = slice_get d.models m
model_of_body d _ = None

-- each instance that a model stands for, by its path, with the model
abbrev pub modelled : Design → List (List ℕ × ModelText)
modelled d = filter_map (λ (i : Instance). option_map (λ m. (i.path, m)) (model_of_body d i.body)) d.insts

abbrev pub entries_of_object : Object → List SupplyEntry
entries_of_object o = map (λ (s : List ℕ × SupplyKind). record { key = SupplyKey.made (joined o.scope s.0); scope = o.scope; name = s.0; kind = s.1 })
    (supplies_in o)

-- All supplies: those of models in order of instances, then those that the script made, in order of making.
abbrev pub entries : Design → World → List SupplyEntry
entries d w = flat_map (λ (m : List ℕ × ModelText). entries_of_model m.0 m.1) (modelled d) ++ flat_map entries_of_object w.objects

abbrev pub entry_of : Design → World → SupplyKey → Option SupplyEntry
entry_of d w key = find (λ e. same_supply key e.key) (entries d w)

-- the direction of a supply port; nets, switch ports and inner supplies of models have none
abbrev pub port_dir : SupplyEntry → Option Dir
port_dir e = elim e.kind as (λ k. Option Dir) [ InPort ↦ Some Input | OutPort ↦ Some Output | _ ↦ None ]

-- whether a script can name it: an inner supply of a model has no name for scripts
abbrev pub has_name : SupplyEntry → Bool
has_name e = elim e.kind as (λ k. Bool) [ Kept ↦ false | _ ↦ true ]

-- the supply that a whole name stands for: the first of that name
abbrev pub supply_at : Design → World → List ℕ → Option SupplyEntry
supply_at d w name = find (λ e. has_name e && same_name name (joined e.scope e.name)) (entries d w)

abbrev pub key_at : Design → World → List ℕ → Option SupplyKey
key_at d w name = option_map (λ e. e.key) (supply_at d w name)

abbrev pub is_switch_kind : SupplyKind → Bool
is_switch_kind SwitchIn = true
is_switch_kind SwitchOut = true
is_switch_kind _ = false

-- what feeds a supply
abbrev pub feeder_of : List Link → SupplyKey → Option SupplyKey
feeder_of links key = option_map (λ l. l.by) (find (λ l. same_supply key l.fed) links)

-- a supply and those that feed it, one after the other, over at most n feeders
abbrev pub feeders_up : List Link → ℕ → Option SupplyKey → List SupplyKey
feeders_up links n None = []
feeders_up links zero (Some key) = key ∷ []
feeders_up links (suc n) (Some key) = key ∷ feeders_up links n (feeder_of links key)

-- a supply and all that feed it, one after the other
abbrev pub fed_through : List Link → SupplyKey → List SupplyKey
fed_through links key = feeders_up links (length links) (Some key)

-- the options of a set, as its lines gave them
abbrev pub given_to : Option Body → List GivenClause
given_to (Some (Body.set given states)) = given
given_to (Some (Body.domain given primary isolation states)) = given
given_to (Some (Body.strategy tool given)) = given
given_to _ = []

-- the supply that a clause `-function {KEY NET}` gives, where it is of this key
abbrev pub function_given : Design → World → List ℕ → GivenClause → Option SupplyKey
function_given d w key g =
    option_and_then (λ (p : List ℕ × List ℕ). key_at d w (joined g.scope p.1)) (find (λ (p : List ℕ × List ℕ). same_name key p.0) (pairs_in g.clause.parts))

-- the supply of a function of a set, which is named by its whole name
abbrev pub function_of : Design → World → List ℕ → List ℕ → Option SupplyKey
function_of d w set key = first_of (filter_map (function_given d w key) (given_to (body_named w set)))

-- the supply of a column: a supply, or the function of a set that is named with it
abbrev pub column_at : Design → World → List ℕ → Option SupplyKey
column_at d w name =
    option_or (key_at d w name) (option_and_then (λ set. function_of d w set (after_last is_dot name)) (set_at w (before_last is_dot name)))
