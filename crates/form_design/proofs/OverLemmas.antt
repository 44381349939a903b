-- The design over a top from what the top holds.
use Rattle.std.proofs.Common.{◌≡◌, ℕ, ◌≤◌, List, Option, Some, IsSomeAnd, true, false, map, length, sym, subst, ap, ◌∙◌}
use Rattle.std.proofs.lemmas.List.{length-map}
use Rattle.pw_defs.specs.declared.design.Design.{Design}
use Rattle.pw_defs.specs.declared.design.Bit.{Bit}
use Rattle.line_forms.specs.declared.library_lines.CellLines.{CellLines}
use Rattle.line_forms.specs.declared.netlist_lines.ModuleLines.{ModuleLines}
use Rattle.design_defs.specs.Walks.{WalksEnd}
use Rattle.form_design.specs.declared.hierarchy.Held.{Held}
use Rattle.form_design.specs.Names.{Table, table_of}
use Rattle.form_design.specs.Hierarchy.{lines_at, helds}
use Rattle.form_design.specs.Fits.{top_fits_by, top_fits}
use Rattle.form_design.specs.Designs.{design_with, design_over, instance_of}
use Rattle.form_design.specs.Sound.{AreHeld}
use Rattle.form_design.specs.Results.{IsHierarchy, IsDesignOver}
use Rattle.form_design.proofs.HeldLemmas.{helds_held}
use Rattle.form_design.proofs.WalkLemmas.{walks_end}

pub held_by : (t : Table) (cells : List CellLines) (modules : List ModuleLines) (top : ℕ) → t ≡ table_of cells modules → AreHeld t (helds t modules top)
held_by t cells modules top is = subst (λ (x : Table). AreHeld x (helds x modules top)) (sym is) (helds_held cells modules top)

pub fits_not : (t : Table) (cells : List CellLines) (modules : List ModuleLines) (top : ℕ) → t ≡ table_of cells modules → top_fits_by t cells modules top ≡ false → top_fits cells modules top ≡ false
fits_not t cells modules top is unfit = subst (λ (x : Table). top_fits_by x cells modules top ≡ false) is unfit

pub hierarchy_by : (t : Table) (cells : List CellLines) (modules : List ModuleLines) (top : ℕ) (hs : List Held) (bs : List Bit) → t ≡ table_of cells modules
    → IsHierarchy t cells modules top hs bs → IsHierarchy (table_of cells modules) cells modules top hs bs
hierarchy_by t cells modules top hs bs is held = subst (λ (x : Table). IsHierarchy x cells modules top hs bs) is held

pub over_is : (cells : List CellLines) (modules : List ModuleLines) (top : ℕ) (hs : List Held) (bs : List Bit) (d : Design) (names : List (List ℕ))
    → IsHierarchy (table_of cells modules) cells modules top hs bs → d ≡ design_with cells modules hs bs → names ≡ map (λ i. i.name) (lines_at modules top)
    → (top_fits cells modules top ≡ true) × IsDesignOver cells modules top d names
over_is cells modules top hs bs d names is made named = (
  is.fits,
  record {
    design = over;
    insts = named;
    walks = subst (λ (x : Design). WalksEnd x.bits) (sym over) (walks_end cells modules top);
    few = subst (λ (x : Design). length x.insts ≤ 1000000) (sym made) (subst (λ (n : ℕ). n ≤ 1000000) (sym (length-map hs instance_of)) is.few);
  },
)
  where
    over : d ≡ design_over cells modules top
    over = made ∙ ap (λ (h : List Held). design_with cells modules h bs) is.held ∙ ap (λ (b : List Bit). design_with cells modules (helds (table_of cells modules) modules top) b) is.linked

pub value_at : {A : Type 0} {o : Option A} (Q : A → Type 0) (x : A) → o ≡ Some x → IsSomeAnd o Q → Q x
value_at {A} Q x is held = subst (λ (p : Option A). IsSomeAnd p Q) is held
