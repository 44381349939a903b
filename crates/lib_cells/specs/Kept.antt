-- What is kept of what the grammar reads.
use Rattle.std.specs.Prelude.{◌≡◌, ℕ, zero, suc, Bool, true, false, List, [], ◌∷◌, Option, Some, None, Result, Ok, Err, codes}
use Rattle.text_defs.specs.Grammar.{Grammar, Reading, read, ◌>>=◌}
use Rattle.text_defs.specs.Tokens.{Token, one_of}
use Rattle.text_streams.specs.declared.stops.Stop.{Stop}
use Rattle.text_streams.specs.declared.stops.Stop.TheVariants as stops
use Rattle.list_defs.specs.Members.{same_name}
use Rattle.lib_cells.specs.LibraryWords.{LibraryClass}
use Rattle.lib_cells.specs.Groups.{Attribute, CellGroup, CellPart, LibraryGrammar, arguments, cell_behind, cell_entry, entry, entry_of, group_or_nothing, is_right_brace, nothing_read, present, semicolon}

-- The answer shows what is kept of what the grammar reads, and these tokens are left; or the grammar's fault stands where they begin.
abbrev pub Shows : {K X A B : Type 0} → (X → B) → (A → B) → Grammar K A → List K → Result X Stop → List K → Type 0
Shows {A = A} view kept g old (Ok y) new = (x : A) × (read g old ≡ Ok (x, new)) × (view y ≡ kept x)
Shows view kept g old (Err stops.Fault) new = read g old ≡ Err new
Shows view kept g old (Err stops.Memory) new = Unit {0}

-- nothing but that it was read
abbrev pub nothing : {A : Type 0} → A → Unit {0}
nothing x = tt

-- whether there are any
abbrev pub are_some : {A : Type 0} → List A → Bool
are_some [] = false
are_some (x ∷ xs) = true

-- a reading of which something is kept
abbrev pub seen : {K A B : Type 0} → (A → B) → Reading K A → Reading K B
seen kept (Ok p) = Ok (kept p.0, p.1)
seen kept (Err left) = Err left

-- what stands behind the arguments of an entry of which only an attribute is read
abbrev pub behind_entry : ℕ → LibraryGrammar (Option Attribute)
behind_entry zero = nothing_read
behind_entry (suc depth) = group_or_nothing (λ _. None) (entry depth)

-- such an entry
abbrev pub attribute_entry : ℕ → LibraryGrammar (Option Attribute)
attribute_entry depth = entry_of Some (λ _ _. behind_entry depth)

-- what stands behind the entries of a block
abbrev pub end_of_block : LibraryGrammar (Unit {0})
end_of_block = do
  _ ← one_of is_right_brace
  _ ← semicolon
  Grammar.gives tt

-- what stands behind the word of an entry of a cell that is no attribute
abbrev pub behind_head : ℕ → Token LibraryClass → LibraryGrammar (Option CellPart)
behind_head depth head = arguments >>= λ words. cell_behind depth head words

-- in a library, behind `cell` and its arguments, by the one argument
abbrev pub cell_group : ℕ → ℕ → Option (List ℕ) → LibraryGrammar (Option CellGroup)
cell_group depth line None = nothing_read
cell_group depth line (Some name) = group_or_nothing (λ parts. Some (record { name = name; line = line; parts = present parts })) (cell_entry depth)

-- the same behind any word of a library
abbrev pub behind_word : ℕ → Token LibraryClass → Option (List ℕ) → LibraryGrammar (Option CellGroup)
behind_word depth head name =
    elim (same_name head.text (codes "cell"))
    [ true ↦ cell_group depth head.line name | false ↦ group_or_nothing (λ _. None) (entry (suc depth)) ]
