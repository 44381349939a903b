-- Domains without a primary, and sets that are used without a function that they need.
use Rattle.std.specs.Prelude.{ℕ, Bool, true, not, ◌&&◌, ◌||◌, List, [], ◌∷◌, ◌++◌, Some, option_to_list, is_none, map, codes}
use Rattle.std.specs.List.{list_any, filter, flat_map}
use Rattle.pw_defs.specs.declared.design.Design.{Design}
use Rattle.pw_defs.specs.declared.terms.Term.{Term}
use Rattle.pw_defs.specs.declared.terms.Term.TheOpen.{Term-F}
use Rattle.pw_defs.specs.declared.terms.Term.TheFolds.{fold-Term}
use Rattle.script_defs.specs.World.{Body, GivenClause, PowerState, Object, World}
use Rattle.script_defs.specs.Scopes.{is_one_of}
use Rattle.script_defs.specs.LookUps.{HandleName, handle_of, is_domain, is_set, whole_name}
use Rattle.script_defs.specs.Supplies.{function_of}
use Rattle.script_defs.specs.PowerStateSteps.{states_of}
use Rattle.script_defs.specs.IntentOf.{set_given, filter_given}

-- the sets of a domain's handles
abbrev pub sets_of_domain : Object → List (List ℕ)
sets_of_domain o =
    map (λ h. h.set) (option_to_list (handle_of (Some o.body) HandleName.primary) ++ option_to_list (handle_of (Some o.body) HandleName.default_isolation))

-- the sets that a strategy's options name
abbrev pub sets_of_given : World → List GivenClause → List (List ℕ)
sets_of_given w given =
    flat_map (λ option. option_to_list (set_given w option given)) (codes "-isolation_supply" ∷ codes "-input_supply" ∷ codes "-output_supply" ∷ [])
    ++ flat_map (λ option. option_to_list (filter_given w option given)) (codes "-source" ∷ codes "-sink" ∷ [])

abbrev pub sets_of_object : World → Object → List (List ℕ)
sets_of_object w o = elim o.body as (λ b. List (List ℕ)) [
  | Body.domain given primary isolation states ↦ sets_of_domain o
  | Body.strategy tool given ↦ sets_of_given w given
  | _ ↦ []
]

-- the sets that domains, strategies and lines on cells and ports speak of
abbrev pub sets_spoken_of : World → List (List ℕ)
sets_spoken_of w =
    flat_map (sets_of_object w) w.objects ++ map (λ l. l.set) w.cell_sets ++ map (λ l. l.set) w.driver_sets ++ map (λ l. l.set) w.receiver_sets

-- one level of: the functions that a term names, each as whether it is the power
abbrev pub functions_at : Term-F (List Bool) → List Bool
functions_at (Term-F.Is left state) = []
functions_at (Term-F.Volt power value) = power ∷ []
functions_at (Term-F.On power) = power ∷ []
functions_at (Term-F.Not part) = part
functions_at (Term-F.All parts) = flat_map (λ p. p) parts
functions_at (Term-F.Any parts) = flat_map (λ p. p) parts

unfoldable pub functions_in : Term → List Bool
functions_in = fold-Term (List Bool) functions_at

-- the functions that the expressions of a set's states name
abbrev pub functions_named : Object → List Bool
functions_named o = flat_map (λ (st : PowerState). flat_map (λ e. functions_in e.term) st.expressions) (states_of (Some o.body)).states

-- a set is used where something speaks of it, or an expression of its own states does
abbrev pub is_used : World → Object → Bool
is_used w o = is_one_of (whole_name o) (sets_spoken_of w) || list_any (λ _. true) (functions_named o)

abbrev pub lacks : Design → World → Object → List ℕ → Bool
lacks d w o key = is_none (function_of d w (whole_name o) key)

-- A used set needs a power, and a ground where an expression of its states names it.
abbrev pub lacks_function : Design → World → Object → Bool
lacks_function d w o = is_used w o && (lacks d w o (codes "power") || list_any not (functions_named o) && lacks d w o (codes "ground"))

abbrev pub lacks_primary : Object → Bool
lacks_primary o = is_none (handle_of (Some o.body) HandleName.primary)

-- the domains without a primary and the used sets without a function that they need, in order of making
abbrev pub lacking_objects : Design → World → List Object
lacking_objects d w = filter (λ o. is_domain (Some o.body) && lacks_primary o || is_set (Some o.body) && lacks_function d w o) w.objects
