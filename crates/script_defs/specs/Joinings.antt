-- What the supply network gains by a line: joinings of one supply to another, and which of them can't be.
use Rattle.std.specs.Prelude.{ℕ, Bool, false, not, ◌&&◌, ◌||◌, List, [], ◌∷◌, ◌++◌, Option, None, Some, option_map, option_and_then, unwrap_or, option_to_list, codes, if◌then◌else◌}
use Rattle.std.specs.List.{list_any, filter_map}
use Rattle.pw_defs.specs.declared.cells.Dir.{Dir}
use Rattle.pw_defs.specs.declared.cells.Dir.TheVariants.{Input, Output}
use Rattle.pw_defs.specs.declared.design.Design.{Design}
use Rattle.list_defs.specs.Members.{same_name}
use Rattle.design_defs.specs.Names.{joined}
use Rattle.script_defs.specs.Statements.{Statement, names_of, pairs_of, is_command, subject_of}
use Rattle.script_defs.specs.World.{SupplyKey, same_supply, Link, Frame, World}
use Rattle.script_defs.specs.LookUps.{switch_port}
use Rattle.script_defs.specs.Supplies.{SupplyEntry, entry_of, supply_at, key_at, port_dir, feeder_of, fed_through}

abbrev pub link : SupplyKey → SupplyKey → Link
link fed by = record { fed = fed; by = by }

-- A net joined to a supply port from a scope: of the ports of that scope an `in` port feeds the net and the net feeds an
-- `out` port; of the ports further in the net feeds an `in` port and an `out` port feeds the net.
abbrev pub joining : List ℕ → SupplyKey → SupplyEntry → Dir → Link
joining scope net port Input = if same_name scope port.scope then link net port.key else link port.key net
joining scope net port Output = if same_name scope port.scope then link port.key net else link net port.key

abbrev pub joining_of : Design → List ℕ → SupplyKey → SupplyEntry → Option Link
joining_of d scope net port = option_map (joining scope net port) (port_dir port)

-- the joinings of `connect_supply_net`, port by port
abbrev pub connections : Design → World → Frame → Statement → List Link
connections d w f s =
    filter_map
    (λ word. option_and_then (λ net. option_and_then (joining_of d f.scope net) (supply_at d w (joined f.scope word))) (key_at d w (joined f.scope
    (subject_of s))))
    (names_of (codes "-ports") s.clauses)

-- the key of a port of the switch that a line makes
abbrev pub switch_key : Frame → Statement → List ℕ → SupplyKey
switch_key f s port = SupplyKey.made (joined f.scope (switch_port (subject_of s) port))

-- the joinings of a switch: each input port is fed by its net, and the output port feeds its net
abbrev pub switch_joinings : Design → World → Frame → Statement → List Link
switch_joinings d w f s =
    filter_map (λ (p : List ℕ × List ℕ). option_map (λ net. link net (switch_key f s p.0)) (key_at d w (joined f.scope p.1))) (pairs_of
    (codes "-output_supply_port") s.clauses)
    ++ filter_map (λ (p : List ℕ × List ℕ). option_map (λ net. link (switch_key f s p.0) net) (key_at d w (joined f.scope p.1))) (pairs_of
    (codes "-input_supply_port") s.clauses)

-- the joinings that a line makes
abbrev pub joinings_of : Design → World → Frame → Statement → List Link
joinings_of d w f s =
    if is_command (codes "connect_supply_net") s then connections d w f s
    else (if is_command (codes "create_power_switch") s then switch_joinings d w f s else [])

-- An `in` supply port is fed from outside its scope alone, and an `out` port from inside. So a line run in the scope of
-- the one, or outside the scope of the other, can't feed it.
abbrev pub is_wrong_side : List ℕ → SupplyEntry → Option Dir → Bool
is_wrong_side scope e None = false
is_wrong_side scope e (Some Input) = same_name scope e.scope
is_wrong_side scope e (Some Output) = not (same_name scope e.scope)

abbrev pub is_fed_from_wrong_side : Design → World → List ℕ → SupplyKey → Bool
is_fed_from_wrong_side d w scope key = list_any (λ e. is_wrong_side scope e (port_dir e)) (option_to_list (entry_of d w key))

-- a joining of a supply to itself does nothing
abbrev pub is_idle : Link → Bool
is_idle l = same_supply l.fed l.by

abbrev pub has_feeder : List Link → Link → Bool
has_feeder links l = list_any (λ by. same_supply by l.by) (option_to_list (feeder_of links l.fed))

-- whether a supply would get a second feeder
abbrev pub has_other_feeder : List Link → Link → Bool
has_other_feeder links l = list_any (λ by. not (same_supply by l.by)) (option_to_list (feeder_of links l.fed))

-- whether a supply would feed itself in a ring
abbrev pub closes_ring : List Link → Link → Bool
closes_ring links l = list_any (same_supply l.fed) (fed_through links l.by)

-- A joining can't be where it feeds a port from the wrong side, gives a supply a second feeder, or closes a ring.
abbrev pub is_refused : Design → World → List ℕ → List Link → Link → Bool
is_refused d w scope links l = not (is_idle l) && (is_fed_from_wrong_side d w scope l.fed || has_other_feeder links l || (not (has_feeder links l)
    && closes_ring links l))

-- the links with one more, where it does something
abbrev pub with_link : List Link → Link → List Link
with_link links l = if is_idle l || has_feeder links l then links else links ++ l ∷ []

-- the links with more, one after the other
abbrev pub with_links : List Link → List Link → List Link
with_links links [] = links
with_links links (l ∷ ls) = with_links (with_link links l) ls

-- the supplies that would get a feeder by a joining that can't be, each with those before it made
abbrev pub refused_supplies : Design → World → List ℕ → List Link → List Link → List SupplyKey
refused_supplies d w scope links [] = []
refused_supplies d w scope links (l ∷ ls) =
    (if is_refused d w scope links l then l.fed ∷ [] else []) ++ refused_supplies d w scope (with_link links l) ls

-- a supply as refusals show it: its name with the path of its scope in front
abbrev pub supply_text : Design → World → SupplyKey → List ℕ
supply_text d w key = unwrap_or (option_map (λ e. joined e.scope e.name) (entry_of d w key)) []
