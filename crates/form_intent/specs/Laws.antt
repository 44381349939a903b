-- Laws of the values and intents of scripts.
use Rattle.std.specs.Prelude.{◌≡◌, ℕ, true, ◌⊎◌, List, ◌∷◌, Option}
use Rattle.pw_defs.specs.Values.{value_cmp}
use Rattle.pw_defs.specs.declared.intent.Intent.{Intent}
use Rattle.pw_defs.specs.declared.values.Value.{Value}
use Rattle.pw_defs.specs.declared.values.Value.TheVariants.{Off}
use Rattle.line_forms.specs.declared.script_lines.CommandLine.{CommandLine}
use Rattle.list_defs.specs.Members.{IsIn}
use Rattle.list_defs.specs.Orders.{AreAllRising, IsRising}
use Rattle.form_intent.specs.Script.{values_of}
use Rattle.form_intent.specs.Fits.{script_fits}
use Rattle.form_intent.specs.Intent.{IsIntentOf}
use Rattle.form_intent.specs.Sound.{IsSound}

-- the values of a supply rise, and where some are stated they are off and those, each once
pub record ValuesRise : Type 0 where
  pub rising : (stated : List Value) → IsRising value_cmp (values_of stated)
  pub all : (v : Value) (vs : List Value) → AreAllRising value_cmp (λ x. (x ≡ Off) ⊎ IsIn x (v ∷ vs)) (values_of (v ∷ vs))

-- the intent of each script of the form is sound
abbrev pub IntentsAreSound : Type 0
IntentsAreSound =
    (instances : List (List ℕ)) (commands : List CommandLine) (parents : List (Option ℕ)) (i : Intent)
    → script_fits instances commands ≡ true → IsIntentOf commands instances parents i → IsSound i
