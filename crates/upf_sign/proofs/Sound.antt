-- A sound intent is one that can be checked.
use Rattle.std.proofs.Common.{◌≡◌, ℕ, true, length, sym, subst, ◌∙◌}
use Rattle.std.specs.Prelude.{All}
use Rattle.std.proofs.lemmas.List.{length-map}
use Rattle.std.proofs.lemmas.List.Elements.{All-map}
use Rattle.pw_defs.specs.Values.{value_cmp}
use Rattle.pw_defs.specs.declared.conditions.UnitCond.{UnitCond}
use Rattle.pw_defs.specs.declared.intent.Intent.{Intent}
use Rattle.list_defs.specs.Orders.{IsRising}
use Rattle.supply_defs.specs.Conditions.{speaks_below}
use Rattle.checks.specs.LineFindings.{lists_of, conds_of}
use Rattle.form_intent.specs.Sound.{IsSound}

pub lists_rise : (i : Intent) → IsSound i → All (IsRising value_cmp) (lists_of i)
lists_rise i sound = All-map (IsRising value_cmp) (λ l. l.values) i.lists sound.rising

pub conds_speak : (i : Intent) → IsSound i → All (λ cond. speaks_below (length (lists_of i)) cond ≡ true) (conds_of i)
conds_speak i sound =
    All-map (λ cond. speaks_below (length (lists_of i)) cond ≡ true) (λ c. c.cond) i.conds
    (subst (λ (n : ℕ). All (λ (c : UnitCond). speaks_below n c.cond ≡ true) i.conds) (sym (length-map i.lists (λ l. l.values) ∙ sound.lists)) sound.conds)
