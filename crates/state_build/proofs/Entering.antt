-- Which parts building a condition may add.
use Rattle.std.proofs.Common.{◌≡◌, ℕ, Bool, List, Some, take, length, subst, ◌∙◌}
use Rattle.std.specs.List.{slice_get}
use Rattle.pw_defs.specs.declared.values.Value.{Value}
use Rattle.pw_defs.specs.declared.conditions.Cond.{Cond}
use Rattle.pw_defs.specs.declared.conditions.Cond.TheVariants.{Not}
use Rattle.diagram_defs.specs.Diagrams.{Diagram, Grows}
use Rattle.diagram_defs.specs.Parts.{IsPartOf}
use Rattle.diagram_defs.specs.declared.locals.Local.{Local}
use Rattle.diagram_defs.proofs.PartLemmas.{IsPartOf_grown}
use Rattle.diagram_defs.specs.declared.quantifiers.Quantifier.{Quantifier}
use Rattle.diagram_defs.specs.declared.quantifiers.Quantifier.TheVariants as which
use Rattle.state_meets.specs.Fronts.{IsPartOfFront}
use Rattle.state_build.specs.Built.{built_set, joined_cond}
use Rattle.state_build.specs.Joined.{AreBuilt}
use Rattle.state_build.proofs.Joining.{front_built}
use Rattle.state_build.specs.Entries.{IsPartOfEntry}
use Rattle.state_build.specs.Entries.IsEntry.{itself, part_of_not, part_of_all, part_of_any, first_of_all, first_of_any}

module _ (arities : List ℕ) (lists : List (List Value)) where
  pub own_parts : (cond : Cond) (l : ℕ) (part : List ℕ → Bool) → IsPartOf (length arities) 0 (built_set arities lists cond) l part → IsPartOfEntry arities lists cond l part
  own_parts cond l part p = record { entry = built_set arities lists cond; listed = itself cond; of = p }

  pub not_parts : (cond : Cond) (l : ℕ) (part : List ℕ → Bool) → IsPartOfEntry arities lists cond l part → IsPartOfEntry arities lists (Not cond) l part
  not_parts cond l part p = record { entry = p.entry; listed = part_of_not cond p.entry p.listed; of = p.of }

  pub joined_parts : (q : Quantifier) (conds : List Cond) (at : ℕ) (cond : Cond) → slice_get conds at ≡ Some cond → (l : ℕ) (part : List ℕ → Bool) → IsPartOfEntry arities lists cond l part → IsPartOfEntry arities lists (joined_cond q conds) l part
  joined_parts which.All conds at cond there l part p = record { entry = p.entry; listed = part_of_all conds at cond p.entry there p.listed; of = p.of }
  joined_parts which.Any conds at cond there l part p = record { entry = p.entry; listed = part_of_any conds at cond p.entry there p.listed; of = p.of }

  pub first_parts : (q : Quantifier) (conds : List Cond) (count l : ℕ) (part : List ℕ → Bool) → IsPartOf (length arities) 0 (built_set arities lists (joined_cond q (take count conds))) l part → IsPartOfEntry arities lists (joined_cond q conds) l part
  first_parts which.All conds count l part p = record { entry = _; listed = first_of_all conds count; of = p }
  first_parts which.Any conds count l part p = record { entry = _; listed = first_of_any conds count; of = p }

-- the same in a table that has grown
pub grown_parts : (old mid : Diagram) (lists : List (List Value)) (cond : Cond) → Grows old mid → (l : ℕ) (part : List ℕ → Bool) → IsPartOfEntry mid.arities lists cond l part → IsPartOfEntry old.arities lists cond l part
grown_parts old mid lists cond g l part p = subst (λ (arities : List ℕ). IsPartOfEntry arities lists cond l part) g.arities p

-- what first ones of the sets of conditions make
pub front_parts : (old mid : Diagram) (lists : List (List Value)) (q : Quantifier) (conds : List Cond) (sets : List Local) → Grows old mid → AreBuilt mid old.arities lists conds sets → (l : ℕ) (part : List ℕ → Bool) → IsPartOfFront mid q sets l part → IsPartOfEntry old.arities lists (joined_cond q conds) l part
front_parts old mid lists q conds sets g built l part p =
    let count = p.listed.count in
    let agree : (state : List ℕ) → p.entry state ≡ built_set old.arities lists (joined_cond q (take count conds)) state = λ state. p.listed.same state ∙ front_built old.arities lists mid q conds sets count state g.arities built in
    first_parts old.arities lists q conds count l part (IsPartOf_grown old mid 0 p.entry (built_set old.arities lists (joined_cond q (take count conds))) g agree l part p.of)
