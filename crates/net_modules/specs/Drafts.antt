-- What a builder of modules is given of a module.
use Rattle.std.specs.Prelude.{◌≡◌, ℕ, List, [], ◌∷◌, ◌++◌, Option, Some, None, length, map}
use Rattle.std.specs.List.{filter_map, flat_map}
use Rattle.text_defs.specs.FirstPlace.{HasNoPlace}
use Rattle.pw_defs.specs.declared.netlist.Assign.{Assign}
use Rattle.pw_defs.specs.declared.netlist.Module.{Module}
use Rattle.pw_defs.specs.declared.netlist.Net.{Net}
use Rattle.pw_defs.specs.declared.netlist.Port.{Port}
use Rattle.module_rows.specs.declared.plain.Draft.{Draft}
use Rattle.module_rows.specs.Growth.{no_module, with_module, with_net, with_port}
use Rattle.net_text.specs.NetlistFaults.{HasRefused, ReadsAsModules}
use Rattle.net_text.specs.NetlistGrammar.{Item, ModuleWords, Named}
use Rattle.net_text.specs.ModulesMeant.{assigns_in, insts_in, module_of, net_in, port_in}
use Rattle.net_text.specs.SecondDeclarations.{Declaration, IsRefused, declarations}
use Rattle.net_modules.specs.Refusals.{IsRefusedFirst, IsSecondIn}

-- the open module with more ports, wires, or what items hold
abbrev pub with_ports : Draft → List Port → Draft
with_ports d ports = record d { current = record d.current { ports = d.current.ports ++ ports } }

abbrev pub with_nets : Draft → List Net → Draft
with_nets d nets = record d { current = record d.current { nets = d.current.nets ++ nets } }

-- the same with one, where there is one
abbrev pub with_port_option : Draft → Option Port → Draft
with_port_option d None = d
with_port_option d (Some port) = with_port d port

abbrev pub with_net_option : Draft → Option Net → Draft
with_net_option d None = d
with_net_option d (Some net) = with_net d net

abbrev pub with_assigns : Draft → List Assign → Draft
with_assigns d assigns = record d { current = record d.current { assigns = d.current.assigns ++ assigns } }

abbrev pub with_item : Draft → Item → Draft
with_item d item = record d {
  current = record d.current { assigns = d.current.assigns ++ assigns_in item; insts = d.current.insts ++ insts_in item };
}

abbrev pub with_items : Draft → List Item → Draft
with_items d items = record d {
  current = record d.current { assigns = d.current.assigns ++ flat_map assigns_in items; insts = d.current.insts ++ flat_map insts_in items };
}

-- The end of a module with what it declares: it is whole, or it has a declaration that it cannot have.
abbrev pub IsClosed : Draft → Draft → List ℕ → ℕ → List Declaration → Option Named → Type 0
IsClosed old new name line given None =
    HasNoPlace IsRefused given
    × (new ≡ with_module (with_nets (with_ports old (filter_map (port_in given) given)) (filter_map (net_in given) given)) name line)
IsClosed old new name line given (Some named) = IsRefusedFirst given named

-- a module stands behind the whole ones, and none is open
abbrev pub with_words : Draft → ModuleWords → Draft
with_words d words = record { modules = d.modules ++ module_of words ∷ []; current = no_module }

-- a module was read: it is whole, where none was open before it, or it has a declaration that it cannot have
abbrev pub IsEnded : Draft → Draft → Option Named → ModuleWords → Type 0
IsEnded old new None words = HasNoPlace IsRefused (declarations words) × (old.current ≡ no_module → new ≡ with_words old words)
IsEnded old new (Some named) words = IsRefusedFirst (declarations words) named

-- the modules so far are whole behind those that were there, or one has a declaration that it cannot have
abbrev pub IsReadFrom : List Module → List ModuleWords → Draft → Option Named → Type 0
IsReadFrom held words draft None = HasNoPlace HasRefused words × (draft ≡ record { modules = held ++ map module_of words; current = no_module })
IsReadFrom held words draft (Some named) = IsSecondIn words named

-- the same of a whole netlist, with the number of its modules
pub record IsReadWhole (held : List Module) (words : List ModuleWords) (draft : Draft) (second : Option Named) (count : ℕ) : Type 0 where
  pub is : IsReadFrom held words draft second
  pub long : length words ≡ count

-- the modules of a text were added behind those that were there, and none is open
pub record AreAdded (text : List ℕ) (old new : Draft) : Type 0 where
  pub modules : List Module
  pub reads : ReadsAsModules text modules
  pub behind : new ≡ record { modules = old.modules ++ modules; current = no_module }
