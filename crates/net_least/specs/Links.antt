-- Ways as links that lead on to each other, and what their texts are.
use Rattle.std.specs.Prelude.{◌≡◌, ◌≢◌, ℕ, List, [], ◌∷◌, ◌++◌, Option, Some, None, length, reverse, slice_get}
use Rattle.std.specs.Cmp.Lexicographic.{slice_cmp}
use Rattle.std.specs.Ordering.{nat_cmp, ordering_then}
use Rattle.std.specs.declared.cmp.Ordering.{Ordering}
use Rattle.list_defs.specs.Orders.{name_cmp}
use Rattle.design_defs.specs.Hierarchy.{Way, path}
use Rattle.net_least.specs.declared.links.Link.{Link}
use Rattle.net_least.specs.declared.links.Text.{Text}

-- no name of a way is empty
abbrev pub AreNamed : Way → Type 0
AreNamed [] = Unit {0}
AreNamed (name ∷ outer) = (name ≢ []) × AreNamed outer

-- The way from a link on, by the spellings of symbols. No link is the end of a way.
pub data IsWay (symbols : List (List ℕ)) (links : List Link) : Option ℕ → Way → Type 0 where
  end : (at : Option ℕ) (way : Way) → at ≡ None → way ≡ [] → IsWay symbols links at way
  link : (at : Option ℕ) (way : Way) (k : ℕ) (l : Link) (name : List ℕ) (inner : Way) → at ≡ Some k → slice_get links k ≡ Some l
      → slice_get symbols l.name ≡ Some name → name ≢ [] → IsWay symbols links l.next inner → way ≡ inner ++ name ∷ [] → IsWay symbols links at way

-- the path of a way with a slash before each of its names
abbrev pub slashed : Way → List ℕ
slashed [] = []
slashed (name ∷ outer) = 47 ∷ path (name ∷ outer)

-- where the names of a way end in that text, the last first
abbrev pub ends : Way → List ℕ
ends [] = []
ends (name ∷ outer) = length (slashed (name ∷ outer)) ∷ ends outer

-- the text of a way
pub record IsSpelled (t : Text) (way : Way) : Type 0 where
  pub bytes : t.bytes.items ≡ slashed way
  pub places : t.ends.items ≡ reverse (ends way)

-- a text has a slash and a name more
pub record IsLonger (old new : Text) (name : List ℕ) : Type 0 where
  pub bytes : new.bytes.items ≡ (old.bytes.items ++ 47 ∷ []) ++ name
  pub ends : new.ends.items ≡ old.ends.items ++ length new.bytes.items ∷ []

-- a part of the way was spelled, and the rest of it goes on from a link
pub record IsWalked (symbols : List (List ℕ)) (links : List Link) (way : Way) (rest : Option ℕ) (t : Text) : Type 0 where
  pub left : Way
  pub done : Way
  pub goes : IsWay symbols links rest left
  pub whole : way ≡ left ++ done
  pub named : AreNamed done
  pub spelled : IsSpelled t done

-- the order of texts, and of ends where they are the same
abbrev pub by_text : List ℕ → List ℕ → List ℕ → List ℕ → Ordering
by_text p q xs ys = ordering_then (name_cmp p q) (slice_cmp nat_cmp xs ys)
