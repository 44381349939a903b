-- Ports and wires that are added one by one.
use Rattle.std.proofs.Common.{◌≡◌, Bool, List, [], ◌∷◌, ◌++◌, Option, None, Some, cond, filter, refl, sym, ap, ◌∙◌, append_assoc}
use Rattle.std.proofs.lemmas.List.{append-nil}
use Rattle.std.specs.List.{cons_option, filter_map}
use Rattle.std.specs.Option.{option_map}
use Rattle.pw_defs.specs.declared.netlist.Net.{Net}
use Rattle.pw_defs.specs.declared.netlist.Port.{Port}
use Rattle.module_rows.specs.declared.plain.Draft.{Draft}
use Rattle.net_text.specs.ModulesMeant.{net_in, port_in}
use Rattle.net_text.specs.SecondDeclarations.{Declaration, HeaderPort, PortDirection, WireName, InstanceName}
use Rattle.net_modules.specs.Drafts.{with_net_option, with_nets, with_port_option, with_ports}
use Rattle.net_modules.specs.Sayings.{Saying, says_port}
use Rattle.net_modules.specs.SaidTables.{IsTableOf, net_by, port_by, port_of}
use Rattle.net_modules.specs.declared.tables.SaidTable.{SaidTable}
use Rattle.net_modules.proofs.SayingLaws.{port_shape, port_there}

pub ports_none : (d : Draft) → d ≡ with_ports d []
ports_none d = λ i. record d { current = record d.current { ports = sym (append-nil d.current.ports) i } }

pub nets_none : (d : Draft) → d ≡ with_nets d []
nets_none d = λ i. record d { current = record d.current { nets = sym (append-nil d.current.nets) i } }

chosen_push : {X Y : Type 0} (f : X → Option Y) (xs : List X) (x : X) → filter_map f (xs ++ x ∷ []) ≡ filter_map f xs ++ cons_option (f x) []
chosen_push f [] x = refl
chosen_push {X} {Y} f (z ∷ xs) x = by (chosen_push f xs x) (f z)
  where
    by : filter_map f (xs ++ x ∷ []) ≡ filter_map f xs ++ cons_option (f x) [] → (o : Option Y) → cons_option o (filter_map f (xs ++ x ∷ [])) ≡ cons_option o (filter_map f xs) ++ cons_option (f x) []
    by rest None = rest
    by rest (Some y) = ap (λ l. y ∷ l) rest

pub ports_push : {X : Type 0} (d : Draft) (f : X → Option Port) (xs : List X) (x : X)
    → with_port_option (with_ports d (filter_map f xs)) (f x) ≡ with_ports d (filter_map f (xs ++ x ∷ []))
ports_push d f xs x = by (f x) ∙ ap (with_ports d) (sym (chosen_push f xs x))
  where
    by : (o : Option Port) → with_port_option (with_ports d (filter_map f xs)) o ≡ with_ports d (filter_map f xs ++ cons_option o [])
    by None = ap (with_ports d) (sym (append-nil (filter_map f xs)))
    by (Some p) = λ i. record d { current = record d.current { ports = append_assoc d.current.ports (filter_map f xs) (p ∷ []) i } }

pub nets_push : {X : Type 0} (d : Draft) (f : X → Option Net) (xs : List X) (x : X)
    → with_net_option (with_nets d (filter_map f xs)) (f x) ≡ with_nets d (filter_map f (xs ++ x ∷ []))
nets_push d f xs x = by (f x) ∙ ap (with_nets d) (sym (chosen_push f xs x))
  where
    by : (o : Option Net) → with_net_option (with_nets d (filter_map f xs)) o ≡ with_nets d (filter_map f xs ++ cons_option o [])
    by None = ap (with_nets d) (sym (append-nil (filter_map f xs)))
    by (Some n) = λ i. record d { current = record d.current { nets = append_assoc d.current.nets (filter_map f xs) (n ∷ []) i } }

-- what is chosen in the same way is the same
same_chosen : {X Y : Type 0} (f g : X → Option Y) → ((x : X) → f x ≡ g x) → (xs : List X) → filter_map f xs ≡ filter_map g xs
same_chosen f g same [] = refl
same_chosen f g same (x ∷ xs) = λ i. cons_option (same x i) (same_chosen f g same xs i)

module _ (t : SaidTable) (given : List Declaration) (of : IsTableOf t (filter says_port given)) where
  port_same : (d : Declaration) → port_by t d ≡ port_in given d
  port_same (HeaderPort n shape) = ap (option_map (port_of n.text)) (ap (λ (s : Saying). s.shape) (of.tells n.text) ∙ port_shape n.text given)
  port_same (PortDirection n shape) = refl
  port_same (WireName n range) = refl
  port_same (InstanceName n) = refl

  net_same : (d : Declaration) → net_by t d ≡ net_in given d
  net_same (HeaderPort n shape) = refl
  net_same (PortDirection n shape) = refl
  net_same (WireName n range) =
      ap (λ (b : Bool). cond b None (Some (let net : Net = record { name = n.text; range = range } in net)))
      (ap (λ (s : Saying). s.port) (of.tells n.text) ∙ port_there n.text given)
  net_same (InstanceName n) = refl

  pub ports_meant : (ds : List Declaration) → filter_map (port_by t) ds ≡ filter_map (port_in given) ds
  ports_meant ds = same_chosen (port_by t) (port_in given) port_same ds

  pub nets_meant : (ds : List Declaration) → filter_map (net_by t) ds ≡ filter_map (net_in given) ds
  nets_meant ds = same_chosen (net_by t) (net_in given) net_same ds
