-- What a whole text is read as.
use Rattle.std.proofs.Common.{◌≡◌, ◌≢◌, ℕ, List, [], ◌∷◌, map, Ok, Err, refl, ap, ◌∙◌, subst, codes}
use Rattle.pw_defs.specs.declared.faults.At.{At}
use Rattle.pw_defs.specs.declared.faults.LibFault.{LibFault}
use Rattle.pw_defs.specs.declared.faults.LibFault.TheVariants.{L1, L2, L3, Memory}
use Rattle.text_defs.specs.Grammar.{Grammar, ended, read, read_whole, whole}
use Rattle.text_defs.specs.Tokens.{Token, line_left}
use Rattle.text_streams.specs.declared.stops.Stop.{Stop}
use Rattle.text_streams.specs.declared.stops.Stop.TheVariants as stops
use Rattle.lib_cells.specs.LibraryWords.{LibraryClass, library_tokens}
use Rattle.lib_cells.specs.Groups.{library_group}
use Rattle.lib_cells.specs.CellViews.{placed_of}
use Rattle.lib_cells.specs.Kept.{Shows}
use Rattle.lib_cells.specs.Readings.{IsCutAt, ReadsGroups, ShowsWhole}
use Rattle.lib_cells.specs.declared.libraries.PlacedCell.{PlacedCell}
use Rattle.lib_cells.proofs.LibraryLaws.{fault_read}

-- a whole text that was read to its end
pub whole_ok : {K A : Type 0} (g : Grammar K A) (old rest : List K) (x : A) → read g old ≡ Ok (x, rest) → rest ≡ [] → read_whole g old ≡ Ok x
whole_ok g old rest x e none = ap whole e ∙ ap (ended x) none

-- a text that goes on behind what was read
pub whole_more : {K A : Type 0} (g : Grammar K A) (old rest : List K) (x : A) → read g old ≡ Ok (x, rest) → rest ≢ [] → read_whole g old ≡ Err rest
whole_more g old [] x e some = absurd (some refl)
whole_more g old (k ∷ rest) x e some = ap whole e

pub whole_stopped : (old new : List (Token LibraryClass)) (e : Stop) → Shows {X = List PlacedCell} {B = List PlacedCell} (λ cells. cells) (map placed_of) library_group old (Err e) new
    → ShowsWhole old (Err e) new
whole_stopped old new stops.Fault h = ap whole h
whole_stopped old new stops.Memory h = tt

-- a text that is cut short
pub reads_cut : (text : List ℕ) (left : List (Token LibraryClass)) (line : ℕ) (f : LibFault) → read_whole library_group (library_tokens text) ≡ Err left
    → line ≡ line_left text left → IsCutAt line f → ReadsGroups text (Err f)
reads_cut text left line (L1 at) e is cut =
    record { left = left; fault = fault_read text left e; place = cut ∙ ap (λ (n : ℕ). let p : At = record { line = n; name = codes "-" } in p) is }
reads_cut text left line (L2 at) e is cut = absurd cut
reads_cut text left line (L3 at) e is cut = absurd cut
reads_cut text left line Memory e is cut = tt

pub whole_fault : (old new : List (Token LibraryClass)) (e : Stop) → e ≡ stops.Fault → ShowsWhole old (Err e) new → read_whole library_group old ≡ Err new
whole_fault old new e is h = subst (λ (x : Stop). ShowsWhole old (Err x) new) is h
