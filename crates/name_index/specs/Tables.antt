-- Tables that tell the number of a name from its bytes.
use Rattle.std.specs.Prelude.{◌≡◌, ◌≢◌, ℕ, ◌+◌, ◌-◌, ◌≤◌, ◌%◌, ◌⊎◌, List, [], ◌∷◌, ◌++◌, Option, Some, true, length, get_or, slice_get, slice_set}
use Rattle.std.specs.BTreeMap.{BTreeMap, get_by}
use Rattle.std.specs.Int.Bits.{bit_and}
use Rattle.std.specs.Global.{Vec}
use Rattle.std.specs.Ordering.{nat_cmp}
use Rattle.std.specs.Cmp.Lexicographic.{slice_cmp}
use Rattle.std.specs.Hash.FoldHasher as folding
use Rattle.list_defs.specs.Members.{all_differ, same_name}
use Rattle.name_index.specs.declared.table.Link.{Link}
use Rattle.name_index.specs.declared.table.Table.{Table}

-- the hash of a name
unfoldable pub hash_of : List ℕ → ℕ
hash_of name = folding.finish (folding.write folding.initial name)

-- and the half of it that stands beside a link
abbrev pub tag_of : List ℕ → ℕ
tag_of name = hash_of name % 4294967296

-- the place of a hash among so many, which are a power of two
unfoldable pub place_in : ℕ → ℕ → ℕ
place_in hash places = bit_and hash (places - 1)

-- the link to no name
abbrev pub nowhere : Link
nowhere = record { behind = 0; tag = 0 }

-- the link to the last name that was linked at the place of a name
abbrev pub head_of : Table → List ℕ → Link
head_of t name = get_or t.heads.items (place_in (hash_of name) (length t.heads.items)) nowhere

-- the links lead from a link to a number with a tag
pub data Leads (tag : ℕ) (links : List Link) : Link → ℕ → Type 0 where
  here : (link : Link) (n : ℕ) → link.behind ≡ n + 1 → link.tag ≡ tag → Leads tag links link n
  goes : (link : Link) (m : ℕ) (next : Link) (n : ℕ) → link.behind ≡ m + 1 → slice_get links m ≡ Some next → Leads tag links next n → Leads tag links link n

-- the number of a name in a tree by names
abbrev pub number_in : BTreeMap (Vec ℕ) ℕ → List ℕ → Option ℕ
number_in tree name = get_by (λ k. slice_cmp nat_cmp name k.items) tree

abbrev pub crowded_number : Table → List ℕ → Option ℕ
crowded_number t name = number_in t.crowded name

-- the table leads from a name to a number
abbrev pub Finds : Table → List ℕ → ℕ → Type 0
Finds t name n = Leads (tag_of name) t.links.items (head_of t name) n ⊎ (crowded_number t name ≡ Some n)

-- heads and links are of numbers that there are, and each link goes to an earlier name
pub record IsSmooth (t : Table) : Type 0 where
  pub heads : (place : ℕ) → (get_or t.heads.items place nowhere).behind ≤ length t.links.items
  pub links : (n : ℕ) → (get_or t.links.items n nowhere).behind ≤ n

-- a table of these names, in their order
pub record IsTable (names : List (List ℕ)) (t : Table) : Type 0 where
  pub smooth : IsSmooth t
  pub count : length t.links.items ≡ length names
  pub finds : (n : ℕ) (name : List ℕ) → slice_get names n ≡ Some name → Finds t name n

-- what one table finds, other than the name, the other finds too
abbrev pub KeepsNumbers : Table → Table → List ℕ → Type 0
KeepsNumbers old new name = (other : List ℕ) (n : ℕ) → other ≢ name → Finds old other n → Finds new other n

-- the two tables have the same links, and trees that may differ at the name alone
pub record IsSameBut (name : List ℕ) (old new : Table) : Type 0 where
  pub heads : new.heads.items ≡ old.heads.items
  pub links : new.links.items ≡ old.links.items
  pub others : (other : List ℕ) → other ≢ name → crowded_number new other ≡ crowded_number old other

-- the next number stands in front of those that were linked at the place of a name
pub record IsLinked (old new : Table) (name : List ℕ) : Type 0 where
  pub heads : new.heads.items ≡ slice_set old.heads.items (place_in (hash_of name) (length old.heads.items)) (record { behind = length old.links.items + 1; tag = tag_of name })
  pub links : new.links.items ≡ old.links.items ++ head_of old name ∷ []
  pub tree : new.crowded ≡ old.crowded

-- names of which no two are the same, with their table
pub record IsIndex (names : List (List ℕ)) (t : Table) : Type 0 where
  pub table : IsTable names t
  pub differ : all_differ same_name names ≡ true
