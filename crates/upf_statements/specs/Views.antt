-- What the value of an option says in code, as the definitions see it.
use Rattle.std.specs.Prelude.{ℕ, List, map}
use Rattle.std.specs.Borrow.{Bor}
use Rattle.script_defs.specs.Statements.{Parts as PlainParts, StateOption as PlainOption}
use Rattle.upf_statements.specs.declared.statements.Parts.{Parts}
use Rattle.upf_statements.specs.declared.statements.Parts.TheVariants.{Flag, Truth, Volts, Word, Names, Pair, Pairs, Valued, Described}
use Rattle.upf_statements.specs.declared.statements.StateOption.{StateOption}
use Rattle.upf_statements.specs.declared.statements.StateOption.TheVariants.{SupplyExpr, LogicExpr, Legal, Illegal}

abbrev pub option_view : StateOption → PlainOption
option_view (SupplyExpr term) = PlainOption.supply_expr term
option_view (LogicExpr term) = PlainOption.logic_expr term
option_view Legal = PlainOption.legal
option_view Illegal = PlainOption.illegal

abbrev pub parts_view : Parts → PlainParts
parts_view Flag = PlainParts.flag
parts_view (Truth says) = PlainParts.truth says
parts_view (Volts microvolts) = PlainParts.volts microvolts
parts_view (Word word) = PlainParts.word word
parts_view (Names names) = PlainParts.names names
parts_view (Pair pair) = PlainParts.pair pair.0 pair.1
parts_view (Pairs pairs) = PlainParts.pairs pairs
parts_view (Valued name value) = PlainParts.valued name value
parts_view (Described name options) = PlainParts.described name (map option_view options)

-- words that stand elsewhere, as the definitions see them
abbrev pub texts_view : List (Bor (List ℕ)) → List (List ℕ)
texts_view texts = map (λ t. t.now) texts

abbrev pub pairs_view : List (Bor (List ℕ) × Bor (List ℕ)) → List (List ℕ × List ℕ)
pairs_view pairs = map (λ (p : Bor (List ℕ) × Bor (List ℕ)). (p.0.now, p.1.now)) pairs
