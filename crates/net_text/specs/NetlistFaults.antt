-- Which text is read as which modules, and the fault of one that isn't.
use Rattle.std.specs.Prelude.{◌≡◌, ◌≢◌, ℕ, Option, Some, None, List, [], ◌∷◌, map, codes}
use Rattle.pw_defs.specs.declared.netlist.Module.{Module as NetlistModule}
use Rattle.pw_defs.specs.declared.faults.At.{At}
use Rattle.pw_defs.specs.declared.faults.NetFault.{NetFault}
use Rattle.pw_defs.specs.declared.faults.NetFault.TheVariants.{N1, N2, N3, N4, Memory}
use Rattle.text_defs.specs.Grammar.{Reads, IsPhrase}
use Rattle.text_defs.specs.FirstFault.{IsFirstFault}
use Rattle.text_defs.specs.FirstPlace.{IsFirstPlace, HasPlace, HasNoPlace}
use Rattle.text_defs.specs.Tokens.{Token, line_left}
use Rattle.net_text.specs.NetlistTokens.{NetlistClass, Inout, LeftOut, netlist_tokens}
use Rattle.net_text.specs.NetlistGrammar.{ModuleWords, netlist}
use Rattle.net_text.specs.SecondDeclarations.{Declaration, IsRefused, named_in, declarations}
use Rattle.net_text.specs.ModulesMeant.{module_of}

-- the words of a text's modules
abbrev pub HasWords : List ℕ → List ModuleWords → Type 0
HasWords text words = Reads netlist (netlist_tokens text) words

-- a module with a declaration that it cannot have
abbrev pub HasRefused : List ModuleWords → ModuleWords → List ModuleWords → Type 0
HasRefused before words behind = HasPlace IsRefused (declarations words)

-- The text is a netlist, whose modules are these. Each declares only what it can.
pub record ReadsAsModules (text : List ℕ) (modules : List NetlistModule) : Type 0 where
  pub words : List ModuleWords
  pub reads : HasWords text words
  pub once : HasNoPlace HasRefused words
  pub value : modules ≡ map module_of words

-- the text of the next token, as a refusal shows it; `-` at the end
abbrev pub name_left : List (Token NetlistClass) → List ℕ
name_left [] = codes "-"
name_left (t ∷ _) = t.text

-- the class of the next token
abbrev pub class_left : List (Token NetlistClass) → Option NetlistClass
class_left [] = None
class_left (t ∷ _) = Some t.class

-- Where the text cannot go on to a netlist; the class is that of the token at the fault.
pub record IsCutShort (text : List ℕ) (IsOf : Option NetlistClass → Type 0) (at : At) : Type 0 where
  pub left : List (Token NetlistClass)
  pub fault : IsFirstFault (IsPhrase netlist) (netlist_tokens text) left
  pub of_class : IsOf (class_left left)
  pub place : at ≡ record { line = line_left text left; name = name_left left }

abbrev pub IsOther : Option NetlistClass → Type 0
IsOther c = (c ≢ Some Inout) × (c ≢ Some LeftOut)

-- the first declaration in the text that its module cannot have, at its line
pub record HasSecond (text : List ℕ) (at : At) : Type 0 where
  pub words : List ModuleWords
  pub reads : HasWords text words
  pub inside : ModuleWords
  pub first_module : IsFirstPlace HasRefused words inside
  pub declaration : Declaration
  pub first : IsFirstPlace IsRefused (declarations inside) declaration
  pub place : at ≡ record { line = (named_in declaration).line; name = (named_in declaration).text }

-- The fault of a text: first that it is no netlist, by the token with which none goes on, and then a declaration that its module cannot have.
abbrev pub HasNetlistFault : List ℕ → NetFault → Type 0
HasNetlistFault text (N1 at) = IsCutShort text IsOther at
HasNetlistFault text (N2 at) = IsCutShort text (λ c. c ≡ Some Inout) at
HasNetlistFault text (N3 at) = IsCutShort text (λ c. c ≡ Some LeftOut) at
HasNetlistFault text (N4 at) = HasSecond text at
HasNetlistFault text Memory = ⊥
