-- Worked examples of the order of instances, of their paths, and of names below an instance.
use Rattle.std.proofs.Common.{◌≡◌, [], ◌∷◌, refl}
use Rattle.std.specs.Prelude.{codes}
use Rattle.std.specs.declared.cmp.Ordering.TheVariants.{Less}
use Rattle.design_defs.specs.Alike.{named_below}
use Rattle.design_defs.specs.Hierarchy.{path, way_cmp}

-- the top comes first
pub top_first : way_cmp [] (codes "a" ∷ []) ≡ Less
top_first = refl

-- what an instance is inside comes before it
pub outer_first : way_cmp (codes "a" ∷ []) (codes "x" ∷ codes "a" ∷ []) ≡ Less
outer_first = refl

-- paths go by their bytes: `a$b` stands between `a` and `a/x`, so that what is inside an instance doesn't stand together
pub dollar_before_slash : way_cmp (codes "a$b" ∷ []) (codes "x" ∷ codes "a" ∷ []) ≡ Less
dollar_before_slash = refl

pub outer_before_dollar : way_cmp (codes "a" ∷ []) (codes "a$b" ∷ []) ≡ Less
outer_before_dollar = refl

-- two instances may have one path, where a name holds a slash; the one in the top comes first
pub one_path_twice : path (codes "a/b" ∷ []) ≡ path (codes "b" ∷ codes "a" ∷ [])
one_path_twice = refl

pub of_one_path_the_outer_first : way_cmp (codes "a/b" ∷ []) (codes "b" ∷ codes "a" ∷ []) ≡ Less
of_one_path_the_outer_first = refl

-- a name below an instance stands behind its path and a slash, and below the top by itself
pub name_below_block : named_below (codes "u_a") (codes "o") ≡ codes "u_a/o"
name_below_block = refl

pub name_below_top : named_below [] (codes "u_a/o") ≡ codes "u_a/o"
name_below_top = refl

pub empty_name_below : named_below (codes "u_a") [] ≡ codes "u_a"
empty_name_below = refl
