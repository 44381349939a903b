-- Whatever frames a line opens, a call that runs the line can answer them.
use Rattle.std.proofs.Common.{◌≡◌, ℕ, Bool, true, false, List, [], ◌∷◌, map, Option, Some, None, refl, sym, ap, ◌∙◌, cond}
use Rattle.std.specs.Prelude.{codes, option_map, unwrap_or}
use Rattle.std.specs.List.{flat_map}
use Rattle.std.proofs.lemmas.List.{append-nil}
use Rattle.script_defs.specs.Statements.{Statement, is_command, name_of, names_of, pairs_of, subject_of}
use Rattle.script_defs.specs.World.{Body, Frame, Object, World}
use Rattle.script_defs.specs.LookUps.{object_at}
use Rattle.script_defs.specs.Scopes.{path_from}
use Rattle.script_defs.specs.SupplySteps.{target_of}
use Rattle.script_defs.specs.UnitSteps.{Opening, Source as PlainSource, body_openings, body_source, file_opening, openings_of}
use Rattle.script_runs.specs.declared.frames.Openings.{Openings}
use Rattle.script_runs.specs.declared.frames.Source.TheVariants.{File, Body as BodyLines}
use Rattle.script_runs.specs.Views.{opened, opening_at}

-- the frames of one source at the instances that words name
abbrev from_source : (List ℕ → List ℕ) → List (List ℕ × List ℕ) → ℕ → List (List ℕ) → PlainSource → List Opening
from_source home pairs line words source = map (λ word. record { source = source; home = home word; pairs = pairs; line = line }) words

at_homes : (os : Openings) (home : List ℕ → List ℕ) (words : List (List ℕ))
    → map (opening_at os) (map home words) ≡ map (λ word. opening_at os (home word)) words
at_homes os home [] = refl
at_homes os home (word ∷ words) = ap (λ rest. opening_at os (home word) ∷ rest) (at_homes os home words)

of_body : (home : List ℕ → List ℕ) (pairs : List (List ℕ × List ℕ)) (line : ℕ) (words : List (List ℕ)) (file : List ℕ) (b : Body)
    → (os : Option Openings) × (opened os ≡ flat_map (from_source home pairs line words) (elim b as (λ x. List PlainSource) [ Body.power_model modules lines ↦ PlainSource.body file lines ∷ [] | _ ↦ [] ]))
of_body home pairs line words file (Body.power_model modules lines) =
    let os : Openings = record { source = BodyLines file lines; homes = map home words; pairs = pairs; line = line } in
    (Some os, at_homes os home words ∙ sym (append-nil (from_source home pairs line words (PlainSource.body file lines))))
of_body home pairs line words file _ = (None, refl)

of_model : (home : List ℕ → List ℕ) (pairs : List (List ℕ × List ℕ)) (line : ℕ) (words : List (List ℕ)) (o : Option Object)
    → (os : Option Openings) × (opened os ≡ flat_map (from_source home pairs line words) (body_source o))
of_model home pairs line words None = (None, refl)
of_model home pairs line words (Some o) = of_body home pairs line words o.origin.file o.body

pub all_openings_answered : (w : World) (f : Frame) (s : Statement) → (os : Option Openings) × (opened os ≡ openings_of w f s)
all_openings_answered w f s = by (is_command (codes "load_upf") s) (is_command (codes "apply_power_model") s)
  where
    home : List ℕ
    home = unwrap_or (option_map (path_from f.scope) (name_of (codes "-scope") s.clauses)) f.scope

    by : (load apply : Bool) → (os : Option Openings) × (opened os ≡ cond load (file_opening f s ∷ []) (cond apply (body_openings w f s) []))
    by true apply = (Some (record { source = File (subject_of s); homes = home ∷ []; pairs = []; line = s.line }), refl)
    by false true = of_model (path_from f.scope) (pairs_of (codes "-supply_map") s.clauses) s.line (names_of (codes "-elements") s.clauses) (object_at w (target_of f s))
    by false false = (None, refl)
