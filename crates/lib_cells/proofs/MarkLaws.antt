-- What attributes say, put together from what each says.
use Rattle.std.proofs.Common.{◌≡◌, ℕ, Bool, true, false, List, [], ◌∷◌, ◌++◌, codes, map, reverse, Option, Some, None, refl, sym, ap, ◌∙◌, if◌then◌else◌, unwrap_or}
use Rattle.std.specs.List.{find, filter_map}
use Rattle.std.specs.Option.{option_map, option_or}
use Rattle.std.proofs.lemmas.List.{reverse-append}
use Rattle.std.proofs.lemmas.List.Folds.{find-append}
use Rattle.std.proofs.lemmas.List.Elements.{filter_map-append}
use Rattle.list_defs.specs.Members.{same_name}
use Rattle.pw_defs.specs.declared.cells.Dir.TheVariants.{Input, Output}
use Rattle.lib_cells.specs.Groups.{Attribute, present}
use Rattle.lib_cells.specs.CellsMeant.{direction_of, is_set, is_value, value_of}
use Rattle.lib_cells.specs.Marks.{is_lone, lone, lone_dir, lone_flag, mark_of, marks_of, one_said, overlaid, said}
use Rattle.lib_cells.specs.declared.marks.Marks.{Marks}

-- marks of the same parts
pub same_marks : (a b : Marks) → a.direction ≡ b.direction → a.isolation ≡ b.isolation → a.shifter ≡ b.shifter → a.isolation_data ≡ b.isolation_data
    → a.isolation_enable ≡ b.isolation_enable → a.shifter_data ≡ b.shifter_data → a.shifter_enable ≡ b.shifter_enable → a ≡ b
same_marks a b dir iso shift iso_data iso_enable shift_data shift_enable =
    λ i. record {
      direction = dir i;
      isolation = iso i;
      shifter = shift i;
      isolation_data = iso_data i;
      isolation_enable = iso_enable i;
      shifter_data = shift_data i;
      shifter_enable = shift_enable i;
    }

map-or : {X Y : Type 0} (f : X → Y) (a b : Option X) → option_map f (option_or a b) ≡ option_or (option_map f a) (option_map f b)
map-or f None b = refl
map-or f (Some x) b = refl

or-none : {X : Type 0} (a : Option X) → option_or a None ≡ a
or-none None = refl
or-none (Some x) = refl

or-assoc : {X : Type 0} (a b c : Option X) → option_or (option_or a b) c ≡ option_or a (option_or b c)
or-assoc None b c = refl
or-assoc (Some x) b c = refl

or-self : {X : Type 0} (a : Option X) → option_or a a ≡ a
or-self None = refl
or-self (Some x) = refl

value-append : (name : List ℕ) (xs ys : List Attribute) → value_of name (xs ++ ys) ≡ option_or (value_of name ys) (value_of name xs)
value-append name xs ys =
    let named : Attribute → Bool = λ a. same_name a.name name in
    ap (λ l. option_map (λ (a : Attribute). a.value) (find named l)) (reverse-append xs ys)
    ∙ ap (option_map (λ (a : Attribute). a.value)) (find-append named (reverse ys) (reverse xs))
    ∙ map-or (λ (a : Attribute). a.value) (find named (reverse ys)) (find named (reverse xs))

said-append : {A : Type 0} (says : Option (List ℕ) → A) (name : List ℕ) (xs ys : List Attribute)
    → said says name (xs ++ ys) ≡ option_or (said says name ys) (said says name xs)
said-append says name xs ys =
    ap (option_map (λ (words : List (List ℕ)). says (lone words))) (value-append name xs ys)
    ∙ map-or (λ (words : List (List ℕ)). says (lone words)) (value_of name ys) (value_of name xs)

-- earlier and later attributes
pub marks-append : (xs ys : List Attribute) → marks_of (xs ++ ys) ≡ overlaid (marks_of xs) (marks_of ys)
unfolding marks_of overlaid
marks-append xs ys =
    same_marks _ _ (said-append lone_dir (codes "direction") xs ys)
    (said-append lone_flag (codes "is_isolation_cell") xs ys)
    (said-append lone_flag (codes "is_level_shifter") xs ys)
    (said-append lone_flag (codes "isolation_cell_data_pin") xs ys)
    (said-append lone_flag (codes "isolation_cell_enable_pin") xs ys)
    (said-append lone_flag (codes "level_shifter_data_pin") xs ys)
    (said-append lone_flag (codes "level_shifter_enable_pin") xs ys)

said-one : {A : Type 0} (says : Option (List ℕ) → A) (name : List ℕ) (a : Attribute) → said says name (a ∷ []) ≡ one_said says name a.name (lone a.value)
said-one {A} says name a = by (same_name a.name name)
  where
    by : (b : Bool) → option_map (λ (words : List (List ℕ)). says (lone words)) (option_map (λ (x : Attribute). x.value) (if b then Some a else None))
        ≡ (if b then Some (says (lone a.value)) else None)
    by true = refl
    by false = refl

-- one attribute
pub marks-one : (a : Attribute) → marks_of (a ∷ []) ≡ mark_of a.name (lone a.value)
unfolding marks_of mark_of
marks-one a =
    same_marks _ _ (said-one lone_dir (codes "direction") a)
    (said-one lone_flag (codes "is_isolation_cell") a)
    (said-one lone_flag (codes "is_level_shifter") a)
    (said-one lone_flag (codes "isolation_cell_data_pin") a)
    (said-one lone_flag (codes "isolation_cell_enable_pin") a)
    (said-one lone_flag (codes "level_shifter_data_pin") a)
    (said-one lone_flag (codes "level_shifter_enable_pin") a)

pub overlaid-none : (m : Marks) → overlaid m (marks_of []) ≡ m
unfolding marks_of overlaid
overlaid-none m = refl

pub none-overlaid : (m : Marks) → overlaid (marks_of []) m ≡ m
unfolding marks_of overlaid
none-overlaid m =
    same_marks _ _ (or-none m.direction) (or-none m.isolation) (or-none m.shifter) (or-none m.isolation_data) (or-none m.isolation_enable)
    (or-none m.shifter_data) (or-none m.shifter_enable)

pub overlaid-assoc : (a b c : Marks) → overlaid (overlaid a b) c ≡ overlaid a (overlaid b c)
unfolding overlaid
overlaid-assoc a b c =
    same_marks _ _ (sym (or-assoc c.direction b.direction a.direction)) (sym (or-assoc c.isolation b.isolation a.isolation))
    (sym (or-assoc c.shifter b.shifter a.shifter)) (sym (or-assoc c.isolation_data b.isolation_data a.isolation_data))
    (sym (or-assoc c.isolation_enable b.isolation_enable a.isolation_enable)) (sym (or-assoc c.shifter_data b.shifter_data a.shifter_data))
    (sym (or-assoc c.shifter_enable b.shifter_enable a.shifter_enable))

-- what is said again adds nothing
pub overlaid-self : (a : Marks) → overlaid a a ≡ a
unfolding overlaid
overlaid-self a =
    same_marks _ _ (or-self a.direction) (or-self a.isolation) (or-self a.shifter) (or-self a.isolation_data) (or-self a.isolation_enable)
    (or-self a.shifter_data) (or-self a.shifter_enable)

-- an entry, and those behind it
pub present-first : {A : Type 0} (x : Option A) (xs : List (Option A)) → present (x ∷ xs) ≡ present (x ∷ []) ++ present xs
present-first x xs = filter_map-append (λ y. y) (x ∷ []) xs

pub marks_more : (all entry longer : Marks) (x : Option Attribute) (xs : List (Option Attribute)) → longer ≡ overlaid all entry → entry ≡ marks_of (present (x ∷ []))
    → overlaid longer (marks_of (present xs)) ≡ overlaid all (marks_of (present (x ∷ xs)))
marks_more all entry longer x xs long one =
    ap (λ m. overlaid m (marks_of (present xs))) (long ∙ ap (overlaid all) one)
    ∙ overlaid-assoc all (marks_of (present (x ∷ []))) (marks_of (present xs))
    ∙ ap (overlaid all) (sym (marks-append (present (x ∷ [])) (present xs)) ∙ ap marks_of (sym (present-first x xs)))

lone-value : (word : List ℕ) (value : List (List ℕ)) → is_value word (Some value) ≡ is_lone word (lone value)
lone-value word [] = refl
lone-value word (w ∷ []) = refl
lone-value word (w ∷ more ∷ _) = refl

-- a flag by what is said of it
pub set-said : (name : List ℕ) (given : List Attribute) → is_set name given ≡ unwrap_or (said lone_flag name given) false
set-said name given = by (value_of name given)
  where
    by : (v : Option (List (List ℕ))) → is_value (codes "true") v ≡ unwrap_or (option_map (λ (words : List (List ℕ)). lone_flag (lone words)) v) false
    by None = refl
    by (Some value) = lone-value (codes "true") value

-- a direction by what is said of it
pub dir-said : (given : List Attribute) → direction_of given ≡ unwrap_or (said lone_dir (codes "direction") given) None
dir-said given = by (value_of (codes "direction") given)
  where
    by : (v : Option (List (List ℕ))) → (if is_value (codes "input") v then Some Input else if is_value (codes "output") v then Some Output else None)
        ≡ unwrap_or (option_map (λ (words : List (List ℕ)). lone_dir (lone words)) v) None
    by None = refl
    by (Some value) = rw (lone-value (codes "input") value, lone-value (codes "output") value) refl
