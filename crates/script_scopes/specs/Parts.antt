-- Parts of the design by what they are.
use Rattle.std.specs.Prelude.{◌≡◌, ℕ, ◌<◌, ◌↔◌, false, List, None, Some, codes, length}
use Rattle.std.specs.Option.{option_map}
use Rattle.pw_defs.specs.declared.design.Design.{Design}
use Rattle.pw_defs.specs.declared.design.Named.{Named}
use Rattle.pw_defs.specs.declared.design.Named.TheVariants.{Instance, Port, PortBit}
use Rattle.list_defs.specs.Members.{same_name}
use Rattle.design_defs.specs.Resolves.{Resolves, ResolvesToNothing}
use Rattle.script_defs.specs.DesignParts.{DesignPart, part_from}
use Rattle.script_scopes.specs.Standing.{own_path}

-- the instance that it is, or that it is a part of
abbrev pub owner_of : Named → ℕ
owner_of (Instance n) = n
owner_of (Port inst port) = inst
owner_of (PortBit b) = b.inst

-- it as a part, with its whole name
abbrev pub part_of : Design → List ℕ → Named → DesignPart
part_of d name x = record { name = name; owner = own_path d (owner_of x); named = x }

-- what a word names from a scope is what it stands for below the scope's instance
abbrev pub DoWordsResolve : Design → Type 0
DoWordsResolve d =
    (scope : ℕ) (word : List ℕ) (x : Named) → scope < length d.insts → same_name word (codes ".") ≡ false
    → Resolves d scope word x ↔ (option_map (λ p. p.named) (part_from d (own_path d scope) word) ≡ Some x)

-- and it names nothing where it stands for nothing there
abbrev pub DoOthersNot : Design → Type 0
DoOthersNot d =
    (scope : ℕ) (word : List ℕ) → scope < length d.insts → same_name word (codes ".") ≡ false
    → ResolvesToNothing d scope word ↔ (part_from d (own_path d scope) word ≡ None)
