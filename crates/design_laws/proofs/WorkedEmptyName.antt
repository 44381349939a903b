-- Why names have to be full: below an instance `u` one of the empty name has the path `u/`, which is no name below `u`.
use Rattle.std.proofs.Common.{◌≡◌, ℕ, suc, List, [], ◌∷◌, Some, None, length, refl, sym, ap, ◌∙◌, arith}
use Rattle.std.specs.Prelude.{codes}
use Rattle.std.proofs.lemmas.Option.{same_Some}
use Rattle.pw_defs.specs.declared.design.Body.TheVariants.{Module as ModuleBody}
use Rattle.pw_defs.specs.declared.design.Design.{Design}
use Rattle.pw_defs.specs.declared.netlist.Module.{Module}
use Rattle.worked_jobs.specs.Libraries.{library}
use Rattle.design_defs.specs.Alike.{IsAtOrBelow, IsNamedBelow, named_below}
use Rattle.design_defs.specs.Sound.{IsSoundDesign}
use Rattle.design_defs.proofs.Lookups.{other_name}

abbrev pub empty_module : List ℕ → Module
empty_module name = record { name = name; ports = []; nets = []; assigns = []; insts = []; line = 1 }

abbrev pub unnamed : Design
unnamed = record {
  cells = library;
  modules = empty_module (codes "top") ∷ empty_module (codes "m") ∷ empty_module (codes "n") ∷ [];
  models = [];
  insts =
      record { path = []; parent = None; body = ModuleBody 0 } ∷ record { path = codes "u"; parent = Some 0; body = ModuleBody 1 }
      ∷ record { path = codes "u/"; parent = Some 1; body = ModuleBody 2 } ∷ [];
  bits = [];
}

-- the path is no name below the other one
not_below : (name : List ℕ) → codes "u/" ≡ named_below (codes "u") name → ⊥
not_below [] e = other_name (codes "u/") (codes "u") refl e
not_below (c ∷ cs) e = let lengths : 2 ≡ suc (suc (suc (length cs))) = ap length e in omega (arith, lengths)

inner : IsAtOrBelow unnamed 1 2
inner = IsAtOrBelow.inside 2 1 refl (IsAtOrBelow.at 1 refl)

pub unnamed_is_not_sound : IsSoundDesign unnamed → ⊥
unnamed_is_not_sound sound =
    let named = (sound.modules_alike 1 1 1 refl refl).named 2 inner in
    let is : IsNamedBelow unnamed 1 named.0 2 = named.1 in
    let above : codes "u" ≡ is.path = same_Some (codes "u") is.path is.path_of_top in
    let below : codes "u/" ≡ named_below is.path named.0 = same_Some (codes "u/") (named_below is.path named.0) is.path_there in
    not_below named.0 (below ∙ ap (λ p. named_below p named.0) (sym above))
