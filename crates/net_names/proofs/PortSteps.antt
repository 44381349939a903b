-- The ports of an instance were met, by what it is an instance of.
use Rattle.std.proofs.Common.{◌≡◌, ◌<◌, ℕ, List, length, map, option_map, sym, ap, ◌∙◌, subst}
use Rattle.std.proofs.lemmas.Option.{slice_get-get_or}
use Rattle.pw_defs.specs.declared.cells.Cell.{Cell}
use Rattle.pw_defs.specs.declared.cells.Cells.{Cells}
use Rattle.pw_defs.specs.declared.design.Body.{Body}
use Rattle.pw_defs.specs.declared.design.Body.TheVariants.{Module as ModuleBody, Cell as CellBody, Model as ModelBody}
use Rattle.pw_defs.specs.declared.model.Model.{Model}
use Rattle.pw_defs.specs.declared.netlist.Module.{Module}
use Rattle.design_defs.specs.Ports.{port_of_pin}
use Rattle.module_rows.specs.Growth.{no_module}
use Rattle.module_rows.specs.Reads.{module_at}
use Rattle.module_rows.specs.declared.plain.Netlist.{Netlist}
use Rattle.net_names.specs.Meets.{HasMetCell, HasMetModel, met_all, ports_at}
use Rattle.net_names.specs.Walking.{HasMetPorts}
use Rattle.net_names.specs.declared.meeting.Meeting.{Meeting}
use Rattle.net_names.specs.declared.meeting.Place.{Place}

module _ (n : Netlist) (cells : Cells) (models : List Model) (number : ℕ) (own : Place) (path : List ℕ) (body : Body) (old new : Meeting) where
  pub of_module : (holder line : ℕ) → body ≡ ModuleBody holder → holder < length n.modules → line ≡ (module_at n holder).line
      → new ≡ met_all old (ports_at (record { holder = number; line = line }) path (module_at n holder).ports) → HasMetPorts n cells models number own path body old new
  of_module holder line is within lines met_so = subst (λ b. HasMetPorts n cells models number own path b old new) (sym is) (record {
    ports = (module_at n holder).ports;
    are = ap (option_map (λ (x : Module). x.ports)) (slice_get-get_or n.modules holder no_module within);
    met_so = met_so ∙ ap (λ (l : ℕ). met_all old (ports_at (record { holder = number; line = l }) path (module_at n holder).ports)) lines;
  })

  pub of_cell : (c : ℕ) → body ≡ CellBody c → HasMetCell cells own path c old new → HasMetPorts n cells models number own path body old new
  of_cell c is was = subst (λ b. HasMetPorts n cells models number own path b old new) (sym is) (record {
    ports = map port_of_pin was.c.pins;
    are = ap (option_map (λ (x : Cell). map port_of_pin x.pins)) was.there;
    met_so = was.met_so;
  })

  pub of_model : (k : ℕ) → body ≡ ModelBody k → HasMetModel models own path k old new → HasMetPorts n cells models number own path body old new
  of_model k is was = subst (λ b. HasMetPorts n cells models number own path b old new) (sym is) (record {
    ports = was.m.ports;
    are = ap (option_map (λ (x : Model). x.ports)) was.there;
    met_so = was.met_so;
  })
