-- What an expression says is what its names and constants say, one after the other.
use Rattle.std.proofs.Common.{◌≡◌, ℕ, ◌+◌, ◌<◌, ◌≤◌, List, [], ◌∷◌, ◌++◌, length, length-append, append-nil, Option, None, Some, refl, sym, ap, ◌∙◌, subst, arith}
use Rattle.std.specs.List.{flat_map, slice_range}
use Rattle.std.proofs.lemmas.Grind.{flat_map-append}
use Rattle.std.proofs.lemmas.List.{map-append}
use Rattle.std.proofs.lemmas.Slice.Zip.{AllZip-long}
use Rattle.pw_defs.specs.declared.design.Body.TheVariants.{Module as ModuleBody}
use Rattle.pw_defs.specs.declared.netlist.Expr.{Expr}
use Rattle.pw_defs.specs.declared.netlist.Expr.TheVariants.{Const as ConstExpr}
use Rattle.pw_defs.specs.declared.netlist.Module.{Module}
use Rattle.design_defs.specs.Hierarchy.{Sources}
use Rattle.design_defs.specs.Places.{Signal, misselected, names_in, signals}
use Rattle.module_rows.specs.declared.plain.Netlist.{Netlist}
use Rattle.module_rows.specs.Leaves.{leaves, own_leaf}
use Rattle.module_rows.specs.Reads.{numbered_expr}
use Rattle.net_places.proofs.LeafParts.{misselected_by_leaves, signals_by_leaves}
use Rattle.net_places.proofs.Steps.{empty_part, part_more}
use Rattle.net_runs.specs.declared.runs.Run.{Run}
use Rattle.net_runs.specs.Leaves.{IsLeafRun}
use Rattle.net_runs.specs.LocalNumbers.{IsSignalBit, run_bits}
use Rattle.net_least.specs.declared.own.OwnFault.{OwnFault}
use Rattle.net_widths.specs.declared.sides.Side.{Side}
use Rattle.net_widths.specs.Refusals.{Finds, IsFirstName, at_one_line, first_of, right_width}
use Rattle.net_widths.specs.Sides.{AddsLeaves, IsLeafWidth, IsSide, both_widths, refused, width_of_all}
use Rattle.net_widths.proofs.Finding.{finds_also, finds_none}

-- widths together
right_more : (xs ys : List (List ℕ)) (a b : ℕ) → right_width (xs ++ ys) (a + b) ≡ both_widths (right_width xs a) (right_width ys b)
right_more [] [] a b = refl
right_more [] (y ∷ ys) a b = refl
right_more (x ∷ xs) ys a b = refl

all_more : (m : Module) (xs ys : List Expr) → width_of_all m (xs ++ ys) ≡ both_widths (width_of_all m xs) (width_of_all m ys)
all_more m xs ys =
    let wrong = flat_map (misselected m) xs in
    let more_wrong = flat_map (misselected m) ys in
    let bits = flat_map (signals m) xs in
    let more_bits = flat_map (signals m) ys in
    ap (λ names. right_width names (length (flat_map (signals m) (xs ++ ys)))) (flat_map-append (misselected m) xs ys)
    ∙ ap (λ (all : List Signal). right_width (wrong ++ more_wrong) (length all)) (flat_map-append (signals m) xs ys)
    ∙ ap (right_width (wrong ++ more_wrong)) (length-append bits more_bits)
    ∙ right_more wrong more_wrong (length bits) (length more_bits)

both_assoc : (a b c : Option ℕ) → both_widths (both_widths a b) c ≡ both_widths a (both_widths b c)
both_assoc None b c = refl
both_assoc (Some a) None c = refl
both_assoc (Some a) (Some b) None = refl
both_assoc (Some a) (Some b) (Some c) = let same : a + b + c ≡ a + (b + c) = omega arith in ap Some same

both_zero : (a : Option ℕ) → both_widths a (Some 0) ≡ a
both_zero None = refl
both_zero (Some a) = let same : a + 0 ≡ a = omega arith in ap Some same

zero_both : (a : Option ℕ) → both_widths (Some 0) a ≡ a
zero_both None = refl
zero_both (Some a) = let same : 0 + a ≡ a = omega arith in ap Some same

-- names at a line and more of them
pub line_more : (line : ℕ) (xs ys : List (List ℕ)) → at_one_line line (xs ++ ys) ≡ at_one_line line xs ++ at_one_line line ys
line_more line xs ys = map-append (λ name. (line, name)) xs ys

module _ (symbols : List (List ℕ)) (m : Module) (line : ℕ) where
  pub adds_none : (side : Side) (es : List Expr) → es ≡ [] → AddsLeaves symbols m line side side es
  adds_none side es none =
      subst (AddsLeaves symbols m line side side) (sym none) (record {
        finds = finds_none symbols side.best [] refl;
        width = sym (both_zero side.width);
      })

  pub adds_also : (a b c : Side) (xs ys zs : List Expr) → AddsLeaves symbols m line a b xs → AddsLeaves symbols m line b c ys → zs ≡ xs ++ ys → AddsLeaves symbols m line a c zs
  adds_also a b c xs ys zs first second joined =
      subst (AddsLeaves symbols m line a c) (sym joined) (record {
        finds =
            finds_also symbols a.best b.best c.best (at_one_line line (flat_map (misselected m) xs)) (at_one_line line (flat_map (misselected m) ys)) _ first.finds second.finds
            (ap (at_one_line line) (flat_map-append (misselected m) xs ys) ∙ line_more line (flat_map (misselected m) xs) (flat_map (misselected m) ys));
        width =
            second.width ∙ ap (λ w. both_widths w (width_of_all m ys)) first.width ∙ both_assoc a.width (width_of_all m xs) (width_of_all m ys)
            ∙ ap (both_widths a.width) (sym (all_more m xs ys));
      })

  -- one name or constant more
  pub adds_leaf : (old new : Side) (es : List Expr) (name width : Option ℕ) → IsLeafWidth m es width → IsFirstName symbols (flat_map names_in es) name
      → ((names : List (List ℕ)) → IsFirstName symbols names name → Finds symbols old.best new.best (at_one_line line (refused width names)))
      → new.width ≡ both_widths old.width width → AddsLeaves symbols m line old new es
  adds_leaf old new es name width leaf first found widths = record {
    finds = subst (λ wrong. Finds symbols old.best new.best (at_one_line line wrong)) (sym leaf.wrong) (found (flat_map names_in es) first);
    width = widths ∙ ap (both_widths old.width) leaf.is_width;
  }

  -- a whole expression
  pub side_of_leaves : (best : Option OwnFault) (side : Side) (e : Expr) → AddsLeaves symbols m line (record { best = best; width = Some 0 }) side (leaves e)
      → IsSide symbols m line best side e
  side_of_leaves best side e adds = record {
    finds = subst (λ wrong. Finds symbols best side.best (at_one_line line wrong)) (sym (misselected_by_leaves m e)) adds.finds;
    width =
        adds.width ∙ zero_both (width_of_all m (leaves e))
        ∙ ap (λ names. right_width names (length (flat_map (signals m) (leaves e)))) (sym (misselected_by_leaves m e))
        ∙ ap (λ (all : List Signal). right_width (misselected m e) (length all)) (sym (signals_by_leaves m e));
  }

-- the names and constants among the numbered expressions, one more at a time
pub leaf_more : (n : Netlist) (first i : ℕ) → first ≤ i → i < length n.exprs
    → flat_map own_leaf (slice_range n.exprs first (i + 1)) ≡ flat_map own_leaf (slice_range n.exprs first i) ++ own_leaf (numbered_expr n i)
leaf_more n first i rises within =
    let front = slice_range n.exprs first i in
    let e = numbered_expr n i in
    ap (flat_map own_leaf) (part_more n.exprs first i (ConstExpr 0) rises within) ∙ flat_map-append own_leaf front (e ∷ [])
    ∙ ap (λ last. flat_map own_leaf front ++ last) (append-nil (own_leaf e))

pub no_leaves : (n : Netlist) (first : ℕ) → flat_map own_leaf (slice_range n.exprs first first) ≡ []
no_leaves n first = ap (flat_map own_leaf) (empty_part n.exprs first)

-- the width of what a run stands for
pub run_width : (s : Sources) (number : ℕ) (m : Module) (e : Expr) (run : Run) → IsLeafRun s number m e (Some run) → IsLeafWidth m (own_leaf e) (Some (length (run_bits run)))
run_width s number m e run is =
    let named = flat_map (signals m) (own_leaf e) in
    let count : length named ≡ length (run_bits run) = sym (AllZip-long (IsSignalBit s (ModuleBody number)) named (run_bits run) is.1) in
    record {
      is_width = sym (ap (λ names. right_width names (length named)) is.0 ∙ ap Some count);
      wrong = is.0;
    }

pub no_run_width : (s : Sources) (number : ℕ) (m : Module) (e : Expr) → IsLeafRun s number m e None → IsLeafWidth m (own_leaf e) None
no_run_width s number m e (name, wrong, named) = record {
  is_width = sym (ap (λ names. right_width names (length (flat_map (signals m) (own_leaf e)))) wrong);
  wrong = wrong ∙ sym (ap first_of named);
}
