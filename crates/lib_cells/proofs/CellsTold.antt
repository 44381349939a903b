-- Of two cells it can be told whether they are the same, so each library text is read as cells or has a fault.
use Rattle.std.proofs.Common.{◌≡◌, ◌≢◌, ℕ, Bool, true, false, List, [], ◌∷◌, ◌++◌, map, Option, Some, None, ◌⊎◌, inl, inr, refl, ap, subst}
use Rattle.list_defs.specs.Members.{IsIn}
use Rattle.pw_defs.specs.declared.cells.Dir.{Dir}
use Rattle.pw_defs.specs.declared.cells.Dir.TheVariants.{Input, Output}
use Rattle.pw_defs.specs.declared.cells.Pin.{Pin}
use Rattle.pw_defs.specs.declared.cells.Cell.{Cell}
use Rattle.pw_defs.specs.declared.cells.Cells.{Cells}
use Rattle.pw_defs.specs.declared.faults.LibFault.{LibFault}
use Rattle.pw_defs.specs.declared.faults.LibFault.TheVariants.{L1, L2, L3}
use Rattle.text_defs.specs.FirstFault.{IsFirstFault}
use Rattle.text_defs.specs.FirstPlace.{HasNoPlace, IsFirstPlace, firsts}
use Rattle.text_defs.specs.Tokens.{Token}
use Rattle.text_defs.specs.Grammar.{IsPhrase}
use Rattle.text_defs.proofs.FirstPlaces.{first_or_none}
use Rattle.text_defs.proofs.Told.{IsTold, told_not, told_both, told_name, told_one}
use Rattle.lib_cells.specs.LibraryWords.{LibraryClass, library_tokens}
use Rattle.lib_cells.specs.Groups.{CellGroup, library_group}
use Rattle.lib_cells.specs.CellsMeant.{cell_of, is_odd}
use Rattle.lib_cells.specs.Joins.{JoinsTo, HasJoinFault, IsGivenOtherwise, same_cell_name}
use Rattle.lib_cells.specs.LibraryFaults.{HasGroups, IsOddGroup, IsOtherGroup, ReadsAsCells, HasLibraryFault, at_group}
use Rattle.lib_cells.proofs.LibraryLaws.{groups_or_fault}

-- what is told of the images of two things by functions that tell things apart, is told of the things
told_by : {X Y : Type 0} (f : X → Y) (x y : X) → (f x ≡ f y → x ≡ y) → IsTold (f x ≡ f y) → IsTold (x ≡ y)
told_by f x y apart (inl e) = inl (apart e)
told_by f x y apart (inr n) = inr (λ e. n (ap f e))

told_bool : (a b : Bool) → IsTold (a ≡ b)
told_bool true true = inl refl
told_bool true false = inr (λ e. cc)
told_bool false true = inr (λ e. cc)
told_bool false false = inl refl

told_dir : (a b : Dir) → IsTold (a ≡ b)
told_dir Input Input = inl refl
told_dir Input Output = inr (λ e. cc)
told_dir Output Input = inr (λ e. cc)
told_dir Output Output = inl refl

told_place : (a b : Option ℕ) → IsTold (a ≡ b)
told_place None None = inl refl
told_place None (Some b) = inr (λ e. cc)
told_place (Some a) None = inr (λ e. cc)
told_place (Some a) (Some b) = told_by digit (Some a) (Some b) (λ e. cc) (told_name (a ∷ []) (b ∷ []))
  where
    digit : Option ℕ → List ℕ
    digit None = []
    digit (Some n) = n ∷ []

pub pin_of_parts : (a b : Pin) → a.name ≡ b.name → a.dir ≡ b.dir → a ≡ b
pin_of_parts a b name dir = λ i. record { name = name i; dir = dir i }

told_pin : (a b : Pin) → IsTold (a ≡ b)
told_pin a b = by (told_name a.name b.name) (told_dir a.dir b.dir)
  where
    by : IsTold (a.name ≡ b.name) → IsTold (a.dir ≡ b.dir) → IsTold (a ≡ b)
    by (inl name) (inl dir) = inl (pin_of_parts a b name dir)
    by (inl name) (inr n) = inr (λ e. n (ap (λ (p : Pin). p.dir) e))
    by (inr n) d = inr (λ e. n (ap (λ (p : Pin). p.name) e))

told_pins : (a b : List Pin) → IsTold (a ≡ b)
told_pins [] [] = inl refl
told_pins [] (q ∷ b) = inr (λ e. cc)
told_pins (p ∷ a) [] = inr (λ e. cc)
told_pins (p ∷ a) (q ∷ b) = by (told_pin p q) (told_pins a b)
  where
    by : IsTold (p ≡ q) → IsTold (a ≡ b) → IsTold (p ∷ a ≡ q ∷ b)
    by (inl first) (inl rest) = inl (let both : p ∷ a ≡ q ∷ b = cc in both)
    by (inl first) (inr n) = inr (λ e. n (let rest : a ≡ b = cc in rest))
    by (inr n) rest = inr (λ e. n (let first : p ≡ q = cc in first))

pub cell_of_parts : (a b : Cell) → a.name ≡ b.name → a.pins ≡ b.pins → a.iso ≡ b.iso → a.shift ≡ b.shift → a.through ≡ b.through → a.enable ≡ b.enable → a ≡ b
cell_of_parts a b name pins iso shift through enable =
    λ i. record { name = name i; pins = pins i; iso = iso i; shift = shift i; through = through i; enable = enable i }

pub told_cell : (a b : Cell) → IsTold (a ≡ b)
told_cell a b =
    by (told_both (told_name a.name b.name) (told_both (told_pins a.pins b.pins) (told_both (told_bool a.iso b.iso)
    (told_both (told_bool a.shift b.shift) (told_both (told_place a.through b.through) (told_place a.enable b.enable))))))
  where
    AreParts : Cell → Cell → Type 0
    AreParts x y = (x.name ≡ y.name) × ((x.pins ≡ y.pins) × ((x.iso ≡ y.iso) × ((x.shift ≡ y.shift) × ((x.through ≡ y.through) × (x.enable ≡ y.enable)))))

    by : IsTold (AreParts a b) → IsTold (a ≡ b)
    by (inl p) = inl (cell_of_parts a b p.0 p.1.0 p.1.1.0 p.1.1.1.0 p.1.1.1.1.0 p.1.1.1.1.1)
    by (inr n) = inr (λ e. n (subst (AreParts a) e (refl, (refl, (refl, (refl, (refl, refl)))))))

told_odd : (before : List CellGroup) (group : CellGroup) (behind : List CellGroup) → IsTold (IsOddGroup before group behind)
told_odd before group behind = told_bool (is_odd (cell_of group)) true

told_otherwise : (before : List Cell) (cell : Cell) (behind : List Cell) → IsTold (IsGivenOtherwise before cell behind)
told_otherwise before cell behind =
    flat (told_one (λ other. (other.name ≡ cell.name) × (other ≢ cell)) (λ other.
    told_both (told_name other.name cell.name) (told_not (told_cell other cell))) before)
  where
    flat : IsTold ((other : Cell) × IsIn other before × ((other.name ≡ cell.name) × (other ≢ cell))) → IsTold (IsGivenOtherwise before cell behind)
    flat (inl f) = inl (f.0, f.1, f.2.0, f.2.1)
    flat (inr n) = inr (λ f. n (f.0, f.1, (f.2, f.3)))

-- each text is read as cells, or has a fault
pub reading_or_fault : (text : List ℕ) → ((cells : Cells) × ReadsAsCells text cells) ⊎ ((f : LibFault) × HasLibraryFault text f)
reading_or_fault text = by (groups_or_fault text)
  where
    alike : (groups : List CellGroup) → HasGroups text groups → HasNoPlace IsOddGroup groups
        → HasNoPlace IsOtherGroup groups ⊎ ((g : CellGroup) × IsFirstPlace IsOtherGroup groups g)
        → ((cells : Cells) × ReadsAsCells text cells) ⊎ ((f : LibFault) × HasLibraryFault text f)
    alike groups reads straight (inl none) =
        inl (
          record { cells = firsts same_cell_name (map cell_of groups) },
          record {
            groups = groups;
            reads = reads;
            straight = straight;
            alike = none;
            value = refl;
          },
        )
    alike groups reads straight (inr g) =
        inr (L2 (at_group g.0), record { groups = groups; reads = reads; straight = straight; group = g.0; first = g.1; place = refl })

    whole : (groups : List CellGroup) → HasGroups text groups → HasNoPlace IsOddGroup groups ⊎ ((g : CellGroup) × IsFirstPlace IsOddGroup groups g)
        → ((cells : Cells) × ReadsAsCells text cells) ⊎ ((f : LibFault) × HasLibraryFault text f)
    whole groups reads (inl straight) =
        alike groups reads straight (first_or_none IsOtherGroup (λ before g behind.
        told_otherwise (map cell_of before) (cell_of g) (map cell_of behind)) groups)
    whole groups reads (inr g) = inr (L3 (at_group g.0), record { groups = groups; reads = reads; group = g.0; first = g.1; place = refl })

    by : ((groups : List CellGroup) × HasGroups text groups)
        ⊎ ((left : List (Token LibraryClass)) × IsFirstFault (IsPhrase library_group) (library_tokens text) left)
        → ((cells : Cells) × ReadsAsCells text cells) ⊎ ((f : LibFault) × HasLibraryFault text f)
    by (inl g) = whole g.0 g.1 (first_or_none IsOddGroup told_odd g.0)
    by (inr f) = inr (L1 _, record { left = f.0; fault = f.1; place = refl })

-- two lists of cells are joined, or have a fault
pub join_or_fault : (all more : Cells) → ((joined : Cells) × JoinsTo all more joined) ⊎ ((f : LibFault) × HasJoinFault all more f)
join_or_fault all more = by (first_or_none IsGivenOtherwise told_otherwise (all.cells ++ more.cells))
  where
    by : HasNoPlace IsGivenOtherwise (all.cells ++ more.cells) ⊎ ((cell : Cell) × IsFirstPlace IsGivenOtherwise (all.cells ++ more.cells) cell)
        → ((joined : Cells) × JoinsTo all more joined) ⊎ ((f : LibFault) × HasJoinFault all more f)
    by (inl none) = inl (record { cells = firsts same_cell_name (all.cells ++ more.cells) }, record { alike = none; value = refl })
    by (inr c) = inr (L2 (record { line = 0; name = c.0.name }), (c.0, c.1, refl))
