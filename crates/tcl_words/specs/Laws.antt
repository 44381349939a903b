-- Each text is read in one way: it has one value or one first fault, and never both.
use Rattle.std.specs.Prelude.{◌≡◌, ℕ, ◌⊎◌, List}
use Rattle.pw_defs.specs.declared.faults.TclFault.{TclFault}
use Rattle.tcl_words.specs.ListWords.{PartsInto, HasListFault}
use Rattle.tcl_words.specs.ScriptWords.{ReadsAsLines, HasTclFault}

-- the readings and the faults of a text: one of them is there, and no other
pub record IsReadInOneWay {X : Type 0} (Reads : List ℕ → X → Type 0) (Faults : List ℕ → TclFault → Type 0) : Type 0 where
  pub one_value : (text : List ℕ) (x y : X) → Reads text x → Reads text y → x ≡ y
  pub one_fault : (text : List ℕ) (f g : TclFault) → Faults text f → Faults text g → f ≡ g
  pub not_both : (text : List ℕ) (x : X) (f : TclFault) → Reads text x → Faults text f → ⊥
  pub either : (text : List ℕ) → ((x : X) × Reads text x) ⊎ ((f : TclFault) × Faults text f)

-- the law of scripts
abbrev pub ScriptsReadInOneWay : Type 0
ScriptsReadInOneWay = IsReadInOneWay ReadsAsLines HasTclFault

-- the law of lists
abbrev pub ListsPartInOneWay : Type 0
ListsPartInOneWay = IsReadInOneWay PartsInto HasListFault
