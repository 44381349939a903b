-- The meaning of a term and its first fault, from those of its parts.
use Rattle.std.proofs.Common.{◌≡◌, ◌+◌, List, [], ◌∷◌, ◌++◌, take, drop, sym, ap, ◌∙◌, Ok, subst, refl, rules}
use Rattle.std.proofs.lemmas.List.{drop_more, take_more, take-append-drop}
use Rattle.pw_defs.specs.declared.conditions.Cond.{Cond}
use Rattle.pw_defs.specs.declared.conditions.Cond.TheVariants.{Is as IsValue, On as IsOn, Not as NotCond, All as AllConds, Any as AnyConds}
use Rattle.pw_defs.specs.declared.terms.Term.{Term, the_lemmas}
use Rattle.pw_defs.specs.declared.terms.Term.TheVariants.{Volt, On, Not, All, Any}
use Rattle.power_states.specs.TermMeaning.{EachMeans, Means, none, value, on, opposite, all, any}
use Rattle.state_conditions.proofs.FunctionLemmas.{names_not, names_all, names_any}
use Rattle.state_conditions.proofs.MeaningLemmas.{each_more, each_same, fault_all, fault_among, fault_any, fault_not, means_same, passed_on}
use Rattle.state_conditions.proofs.meanings.+conditions.Goals as goal

pub condition-condition-requires : goal.condition-condition-requires
condition-condition-requires t c = (search (rules, the_lemmas), (c.requires.found, cc (names_not c.args.names.now c.in-Not.part)))

pub condition-conditions-requires : goal.condition-conditions-requires
condition-conditions-requires t c =
    (search (rules, the_lemmas), (c.requires.found, cc (names_all c.args.names.now c.in-All.parts, c.as_slice.ensures.items)))

pub condition-conditions-requires-in-Any : goal.condition-conditions-requires-in-Any
condition-conditions-requires-in-Any t c =
    (search (rules, the_lemmas), (c.requires.found, cc (names_any c.args.names.now c.in-Any.parts, c.as_slice-in-Any.ensures.items)))

pub condition-returns-in_err-cond-in-Not-clause-cause :
    goal.condition-returns-in_err-cond-in-Not-clause-cause
condition-returns-in_err-cond-in-Not-clause-cause t c =
    passed_on c.from_residual.result c.in_err-cond-in-Not.field-0.0 _ c.from_residual.ensures.1
    (fault_not c.args.names.now c.args.term.now c.in-Not.part c.get.result.now c.in_err-cond-in-Not.field-0.0 c.in-Not.is c.get.ensures c.in_err-cond-in-Not.ensures.cause)

pub condition-returns-in_err-conds-in-All-clause-cause :
    goal.condition-returns-in_err-conds-in-All-clause-cause
condition-returns-in_err-conds-in-All-clause-cause t c =
    passed_on c.from_residual-in_err-conds-in-All.result c.in_err-conds-in-All.field-0.0 _ c.from_residual-in_err-conds-in-All.ensures.1
    (fault_all c.args.names.now c.args.term.now c.in-All.parts c.as_slice.result.now c.in_err-conds-in-All.field-0.0 c.in-All.is c.as_slice.ensures.items c.in_err-conds-in-All.ensures.cause)

pub condition-returns-in_err-conds-in-Any-clause-cause :
    goal.condition-returns-in_err-conds-in-Any-clause-cause
condition-returns-in_err-conds-in-Any-clause-cause t c =
    passed_on c.from_residual-in_err-conds-in-Any.result c.in_err-conds-in-Any.field-0.0 _ c.from_residual-in_err-conds-in-Any.ensures.1
    (fault_any c.args.names.now c.args.term.now c.in-Any.parts c.as_slice-in-Any.result.now c.in_err-conds-in-Any.field-0.0 c.in-Any.is c.as_slice-in-Any.ensures.items c.in_err-conds-in-Any.ensures.cause)

pub condition-returns-in-Volt-clause-ok : goal.condition-returns-in-Volt-clause-ok
condition-returns-in-Volt-clause-ok t c =
    means_same c.args.names.now c.args.term.now (Volt c.in-Volt.power c.in-Volt.value) (IsValue c.function.result c.in-Volt.value) (IsValue c.function.result c.in-Volt.value) c.in-Volt.is refl
    (value c.in-Volt.power c.in-Volt.value c.function.result c.function.ensures)

pub condition-returns-in-On-clause-ok : goal.condition-returns-in-On-clause-ok
condition-returns-in-On-clause-ok t c =
    means_same c.args.names.now c.args.term.now (On c.in-On.power) (IsOn c.function-in-On.result) (IsOn c.function-in-On.result) c.in-On.is refl
    (on c.in-On.power c.function-in-On.result c.function-in-On.ensures)

pub condition-returns-in_ok-opposite-in-Not-clause-ok :
    goal.condition-returns-in_ok-opposite-in-Not-clause-ok
condition-returns-in_ok-opposite-in-Not-clause-ok t c =
    let part : Means c.args.names.now c.in-Not.part (Ok c.in_ok-cond-in-Not.cond) =
    means_same c.args.names.now c.in-Not.part c.get.result.now c.in_ok-cond-in-Not.cond c.in_ok-cond-in-Not.cond (sym c.get.ensures) refl c.in_ok-cond-in-Not.ensures.ok in
    means_same c.args.names.now c.args.term.now (Not c.in-Not.part) (NotCond c.in_ok-cond-in-Not.cond) c.in_ok-opposite-in-Not.opposite c.in-Not.is c.in_ok-opposite-in-Not.ensures
    (opposite c.in-Not.part (Ok c.in_ok-cond-in-Not.cond) part)

pub condition-returns-in_ok-conds-in-All-clause-ok :
    goal.condition-returns-in_ok-conds-in-All-clause-ok
condition-returns-in_ok-conds-in-All-clause-ok t c =
    let conds = c.in_ok-conds-in-All.conds in
    means_same c.args.names.now c.args.term.now (All c.in-All.parts) (AllConds conds) (AllConds conds) c.in-All.is refl
    (all c.in-All.parts (Ok conds) (each_same c.args.names.now c.as_slice.result.now c.in-All.parts conds c.as_slice.ensures.items c.in_ok-conds-in-All.ensures.ok))

pub condition-returns-in_ok-conds-in-Any-clause-ok :
    goal.condition-returns-in_ok-conds-in-Any-clause-ok
condition-returns-in_ok-conds-in-Any-clause-ok t c =
    let conds = c.in_ok-conds-in-Any.conds in
    means_same c.args.names.now c.args.term.now (Any c.in-Any.parts) (AnyConds conds) (AnyConds conds) c.in-Any.is refl
    (any c.in-Any.parts (Ok conds) (each_same c.args.names.now c.as_slice-in-Any.result.now c.in-Any.parts conds c.as_slice-in-Any.ensures.items c.in_ok-conds-in-Any.ensures.ok))

pub conditions-loop-term-init : goal.conditions-loop-term-init
conditions-loop-term-init t c =
    let P : List Cond → Type 0 = λ cs. EachMeans c.args.names.now [] (Ok cs) in
    subst P (sym c.new-conds.ensures) none

pub conditions-returns-in_err-cond-clause-cause : goal.conditions-returns-in_err-cond-clause-cause
conditions-returns-in_err-cond-clause-cause t c =
    let terms = c.args.terms.now in
    let i = c.loop-term.term-index in
    let term = c.term-item.result in
    let rest : term ∷ drop (i + 1) terms ≡ drop i terms =
    ap (λ (x : Term). x ∷ drop (i + 1) terms) c.term-item.is ∙ sym (drop_more terms i term c.loop-term-test.true) in
    passed_on c.from_residual.result c.in_err-cond.field-0.0 _ c.from_residual.ensures.1
    (fault_among c.args.names.now terms (take i terms) (drop (i + 1) terms) term c.loop-term.conds c.in_err-cond.field-0.0
    (ap (λ (xs : List Term). take i terms ++ xs) rest ∙ take-append-drop i terms)
    c.loop-term.invariant
    c.in_err-cond.ensures.cause)

pub conditions-loop-term-preserved : goal.conditions-loop-term-preserved
conditions-loop-term-preserved t c =
    let terms = c.args.terms.now in
    let i = c.loop-term.term-index in
    let term = c.term-item.result in
    let more : take i terms ++ term ∷ [] ≡ take (i + 1) terms =
    ap (λ (x : Term). take i terms ++ x ∷ []) c.term-item.is ∙ sym (take_more terms i term c.loop-term-test.true) in
    let P : List Term → Type 0 = λ ts. EachMeans c.args.names.now ts (Ok c.put.new.conds) in
    let Q : List Cond → Type 0 = λ cs. EachMeans c.args.names.now (take i terms ++ term ∷ []) (Ok cs) in
    subst P more
    (subst Q (sym c.in_ok-put.ensures)
    (each_more c.args.names.now (take i terms) term c.loop-term.conds c.in_ok-cond.cond c.loop-term.invariant c.in_ok-cond.ensures.ok))
