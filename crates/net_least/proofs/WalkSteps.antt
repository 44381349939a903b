-- The walk down to the first recursion, step by step.
use Rattle.std.proofs.Common.{◌≡◌, ℕ, ◌<◌, Bool, true, false, List, ◌∷◌, Some, set, length, replicate, inl, inr, ◌∙◌, arith}
use Rattle.std.proofs.lemmas.List.{length-replicate, length-set}
use Rattle.std.proofs.lemmas.Option.{slice_get_within}
use Rattle.pw_defs.specs.declared.netlist.Module.{Module}
use Rattle.design_defs.specs.Hierarchy.{Sources, module_at, module_named, AreNamedInsts}
use Rattle.net_hierarchy.specs.Graph.{AreInstsApart, Leads, types_of}
use Rattle.net_hierarchy.proofs.Ways.{top_at}
use Rattle.net_sizes.proofs.Sizing.{leads_within}
use Rattle.net_least.specs.Recursion.{AreFree, Closes, IsBegun, IsMarked, IsNext}
use Rattle.net_least.proofs.Descents.{begun_at_top, begun_next, body_next}
use Rattle.net_least.proofs.Marking.{marked_new, marked_old, marked_set, none_marked}
use Rattle.net_least.proofs.OwnFirst.{leads_to}

pub begun_start : (s : Sources) (top count : ℕ) → module_named s s.top ≡ Some top → count ≡ length s.modules
    → IsBegun s (set (replicate count false) top true) top × (length (set (replicate count false) top true) ≡ length s.modules)
begun_start s top count named same =
    (begun_at_top s top (set (replicate count false) top true) (top_at s top named) one (marked_new (replicate count false) top within), length-set (replicate count false) top true ∙ all ∙ same)
  where
    all : length (replicate count false) ≡ count
    all = length-replicate count false

    m : (m : Module) × (module_at s top ≡ Some m)
    m = leads_within s top top named (Leads.here top)

    within : top < length (replicate count false)
    within = let below : top < length s.modules = slice_get_within s.modules top m.0 m.1 in omega (arith, below, all, same)

    one : (j : ℕ) → IsMarked (set (replicate count false) top true) j → j ≡ top
    one j mark = elim (marked_set (replicate count false) top j mark) [ inl e ↦ e | inr never ↦ absurd (none_marked count j never) ]

pub begun_after : (s : Sources) (top : ℕ) → module_named s s.top ≡ Some top → (apart : AreInstsApart s) (names : AreNamedInsts s) (marks : List Bool) (n : ℕ) (begun : IsBegun s marks n)
    (free : List Bool) (are_free : AreFree (types_of s) free) (m : Module) (is_module : module_at s n ≡ Some m) (open_here : Closes (types_of s) marks n → ⊥)
    (k : ℕ) (next : IsNext s free marks m.insts k) → length marks ≡ length s.modules
    → IsBegun s (set marks k true) k × (length (set marks k true) ≡ length s.modules)
begun_after s top named apart names marks n begun free are_free m is_module open_here k next count =
    (begun_next s apart names marks n begun free are_free m is_module open_here k next (set marks k true) (marked_set marks k) (marked_new marks k within) (marked_old marks k), length-set marks k true ∙ count)
  where
    there : (x : Module) × (module_at s k ≡ Some x)
    there = leads_within s top k named (leads_to s top named (next.i.name ∷ begun.way) k (body_next s apart names marks n begun free are_free m is_module open_here k next))

    within : k < length marks
    within = let below : k < length s.modules = slice_get_within s.modules k there.0 there.1 in omega (arith, below, count)
