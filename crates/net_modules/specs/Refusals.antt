-- The first declaration that a module cannot have, and the first module with one.
use Rattle.std.specs.Prelude.{◌≡◌, List, Option, Some, None}
use Rattle.text_defs.specs.FirstPlace.{HasNoPlace, IsFirstPlace}
use Rattle.net_text.specs.NetlistGrammar.{Named, ModuleWords}
use Rattle.net_text.specs.NetlistFaults.{HasRefused}
use Rattle.net_text.specs.SecondDeclarations.{Declaration, IsRefused, declarations, named_in}

-- the name and line of the first that cannot be
pub record IsRefusedFirst (given : List Declaration) (named : Named) : Type 0 where
  pub declaration : Declaration
  pub first : IsFirstPlace IsRefused given declaration
  pub same : named_in declaration ≡ named

-- the first that cannot be, where there is one
abbrev pub IsRefusal : List Declaration → Option Named → Type 0
IsRefusal given None = HasNoPlace IsRefused given
IsRefusal given (Some named) = IsRefusedFirst given named

-- the same in the first module that has one
pub record IsSecondIn (words : List ModuleWords) (named : Named) : Type 0 where
  pub inside : ModuleWords
  pub first_module : IsFirstPlace HasRefused words inside
  pub refused : IsRefusedFirst (declarations inside) named
