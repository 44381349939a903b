-- What the lines on units and frames make: marks of soft macros, power models, scopes, the frames that a line opens, and
-- the map of supplies behind a frame.
use Rattle.std.specs.Prelude.{ℕ, Bool, false, ◌&&◌, ◌||◌, List, [], ◌∷◌, ◌++◌, Option, None, Some, option_map, option_and_then, unwrap_or, is_some, option_to_list, map, codes, if◌then◌else◌}
use Rattle.std.specs.List.{list_any, list_all, find, filter_map, flat_map}
use Rattle.pw_defs.specs.declared.design.Design.{Design}
use Rattle.pw_defs.specs.declared.intent.Export.{Export}
use Rattle.pw_defs.specs.declared.intent.SupplySet.{SupplySet}
use Rattle.pw_defs.specs.declared.model.Model.{Model as ModelText}
use Rattle.pw_defs.specs.declared.script.Line.{Line}
use Rattle.list_defs.specs.Members.{same_name}
use Rattle.upf_commands.specs.Forms.{macro_mark}
use Rattle.upf_commands.specs.Values.{truth_of}
use Rattle.design_defs.specs.Names.{joined}
use Rattle.design_defs.specs.Ports.{is_input}
use Rattle.script_defs.specs.Statements.{Statement, names_of, name_of, pairs_of, is_given, is_true, is_command, subject_of}
use Rattle.script_defs.specs.World.{Body, SupplyKey, Link, Naming, Use, Object, Frame, World}
use Rattle.script_defs.specs.Scopes.{path_from, is_one_of, is_modelled}
use Rattle.script_defs.specs.LookUps.{object_at, set_at}
use Rattle.script_defs.specs.Supplies.{entry_of, port_dir, function_of, modelled}
use Rattle.script_defs.specs.Joinings.{link, with_links}
use Rattle.script_defs.specs.SupplySteps.{with_object, object_of, target_of}

-- whether a pair is the attribute that marks a soft macro, and true
abbrev pub is_true_mark : List ℕ × List ℕ → Bool
is_true_mark p = same_name p.0 macro_mark && unwrap_or (truth_of p.1) false

-- whether a line marks the instance of its scope as a soft macro; of a FALSE and a TRUE the TRUE counts
abbrev pub is_mark : Statement → Bool
is_mark s =
    is_command (codes "set_design_attributes") s
    && (is_true (codes "-is_soft_macro") s.clauses || list_any is_true_mark (pairs_of (codes "-attribute") s.clauses))

-- the marks with one more instance
abbrev pub with_mark : List (List ℕ) → List ℕ → List (List ℕ)
with_mark marks path = if is_one_of path marks then marks else marks ++ path ∷ []

abbrev pub after_attributes : World → Frame → Statement → World
after_attributes w f s = if is_mark s then record w { marks = with_mark w.marks f.scope } else w

-- the modules that a power model is for: those of `-for`, else the one of its own name
abbrev pub modules_for : Statement → List (List ℕ)
modules_for s = if is_given (codes "-for") s.clauses then names_of (codes "-for") s.clauses else subject_of s ∷ []

-- a power model, with the lines of its body
abbrev pub after_model : World → Frame → Statement → List Line → World
after_model w f s lines = with_object w (object_of f s (Body.power_model (modules_for s) lines))

-- The frame behind a line: `/` goes back to the scope at which the file began.
abbrev pub frame_after : Frame → Statement → Frame
frame_after f s =
    if is_command (codes "set_scope") s then record f { scope = if same_name (subject_of s) (codes "/") then f.home else path_from f.scope (subject_of s) }
    else f

-- where the lines of a frame come from: a file, or the body of a power model in a file
pub data Source : Type 0 where
  file : List ℕ → Source
  body : List ℕ → List Line → Source

-- a frame that a line opens at an instance, and the map of supplies behind it, lower sets with upper ones
pub record Opening : Type 0 where
  pub source : Source
  pub home : List ℕ
  pub pairs : List (List ℕ × List ℕ)
  pub line : ℕ

-- `load_upf` opens a frame at its scope, or at the instance that it names
abbrev pub file_opening : Frame → Statement → Opening
file_opening f s = record {
  source = Source.file (subject_of s);
  home = unwrap_or (option_map (path_from f.scope) (name_of (codes "-scope") s.clauses)) f.scope;
  pairs = [];
  line = s.line;
}

abbrev pub body_source : Option Object → List Source
body_source (Some o) = elim o.body as (λ b. List Source) [ Body.power_model modules lines ↦ Source.body o.origin.file lines ∷ [] | _ ↦ [] ]
body_source None = []

-- `apply_power_model` opens a frame at each instance that it names, in order
abbrev pub body_openings : World → Frame → Statement → List Opening
body_openings w f s =
    flat_map
    (λ source. map (λ word. record { source = source; home = path_from f.scope word; pairs = pairs_of (codes "-supply_map") s.clauses; line = s.line })
    (names_of (codes "-elements") s.clauses))
    (body_source (object_at w (target_of f s)))

-- the frames that a line opens, in order
abbrev pub openings_of : World → Frame → Statement → List Opening
openings_of w f s =
    if is_command (codes "load_upf") s then file_opening f s ∷ []
    else (if is_command (codes "apply_power_model") s then body_openings w f s else [])

-- the frame that is opened, in a file
abbrev pub frame_inside : Frame → Opening → List ℕ → ℕ → Frame
frame_inside f o name left = record { file = name; home = o.home; scope = o.home; left = left }

-- the function of a set that a model exports
abbrev pub export_function : List ℕ → SupplySet → List ℕ → Option SupplyKey
export_function path set key =
    if same_name key (codes "power") then Some (SupplyKey.inner path set.power) else option_map (SupplyKey.inner path) set.ground

-- the exports of the model at a path
abbrev pub exports_at : Design → List ℕ → List Export
exports_at d path = flat_map (λ (m : List ℕ × ModelText). if same_name path m.0 then m.1.exports else []) (modelled d)

abbrev pub export_named : Design → List ℕ → List ℕ → Option Export
export_named d path name = find (λ x. same_name name x.name) (exports_at d path)

-- whether the lower set of a map is there: an export of the model at the instance, else a set seen from the instance
abbrev pub is_lower_set : Design → World → List ℕ → List ℕ → Bool
is_lower_set d w home lower = if is_modelled d home then is_some (export_named d home lower) else is_some (set_at w (joined home lower))

-- the supply of a function of the lower set
abbrev pub lower_function : Design → World → List ℕ → List ℕ → List ℕ → Option SupplyKey
lower_function d w home lower key =
    if is_modelled d home then option_and_then (λ x. export_function home x.set key) (export_named d home lower)
    else option_and_then (λ set. function_of d w set key) (set_at w (joined home lower))

abbrev pub is_in_port : Design → World → SupplyKey → Bool
is_in_port d w key = list_any (λ e. is_input (port_dir e)) (option_to_list (entry_of d w key))

-- the `in` port of a function of the lower set
abbrev pub lower_port : Design → World → List ℕ → List ℕ → List ℕ → Option SupplyKey
lower_port d w home lower key = option_and_then (λ port. if is_in_port d w port then Some port else None) (lower_function d w home lower key)

-- the functions of the upper set of a pair, each with its key
abbrev pub upper_functions : Design → World → Frame → List ℕ → List (List ℕ × SupplyKey)
upper_functions d w f upper =
    flat_map
    (λ set. filter_map (λ key. option_map (λ supply. (key, supply)) (function_of d w set key)) (codes "power" ∷ codes "ground" ∷ []))
    (option_to_list (set_at w (joined f.scope upper)))

-- whether the lower set has an `in` port for each function of the upper set
abbrev pub has_lower_ports : Design → World → Frame → List ℕ → List ℕ × List ℕ → Bool
has_lower_ports d w f home p = list_all (λ (u : List ℕ × SupplyKey). is_some (lower_port d w home p.0 u.0)) (upper_functions d w f p.1)

-- the joinings of a map: each function of the upper set feeds the lower set's `in` port of that function
abbrev pub map_joinings : Design → World → Frame → Opening → List Link
map_joinings d w f o =
    flat_map
    (λ (p : List ℕ × List ℕ). filter_map (λ (u : List ℕ × SupplyKey). option_map (λ port. link port u.1) (lower_port d w o.home p.0 u.0))
    (upper_functions d w f p.1))
    o.pairs

-- the lower sets that a map names, seen from the instance
abbrev pub map_uses : Frame → Opening → List Use
map_uses f o = map (λ (p : List ℕ × List ℕ). record {
  naming = Naming.lower_set;
  word = p.0;
  scope = o.home;
  origin = record
      { file = f.file; line = o.line; home = f.home };
}) o.pairs

-- the world with the map of a frame
abbrev pub after_map : Design → World → Frame → Opening → World
after_map d w f o = record w { links = with_links w.links (map_joinings d w f o); uses = w.uses ++ map_uses f o }
