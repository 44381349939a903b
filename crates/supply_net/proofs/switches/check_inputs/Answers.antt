use Rattle.std.proofs.Common.{◌≡◌, ℕ, Bool, true, false, not, List, is_some, sym, ap, ◌∙◌}
use Rattle.std.specs.List.{list_any}
use Rattle.list_defs.specs.Members.{same_name}
use Rattle.supply_net.specs.Switches.{input_names}
use Rattle.supply_net.proofs.SwitchLemmas.{find_here, find_later, found_is}
use Rattle.supply_net.proofs.switches.check_inputs.Goals as goal

pub returns-then-is_none-clause-fault : goal.returns-then-is_none-clause-fault
returns-then-is_none-clause-fault c =
    let items = c.as_slice-name-items.result.now in
    let inputs = input_names c.args.switch.now.inputs in
    let test : List ℕ → Bool = λ port. not (list_any (same_name port) inputs) in
    let there : is_some c.find.result ≡ list_any (same_name c.name-item.result) inputs =
    found_is c.in_ok-index.index inputs c.as_slice.result.now c.find.result c.find.ensures (c.in_ok-index.ensures c.as_slice.result.now)
    ∙ ap (λ (x : List ℕ). list_any (same_name x) inputs) c.as_slice.ensures.bytes in
    let passes : test c.name-item.result ≡ true = ap not (sym there ∙ c.if-is_none.ensures) in
    c.unknown.ensures c.args.switch.now
    (sym c.loop-name.invariant ∙ find_here test items c.loop-name.name-index c.name-item.result c.loop-name-test.true c.name-item.is passes)

pub loop-name-preserved : goal.loop-name-preserved
loop-name-preserved c =
    let items = c.as_slice-name-items.result.now in
    let inputs = input_names c.args.switch.now.inputs in
    let test : List ℕ → Bool = λ port. not (list_any (same_name port) inputs) in
    let there : is_some c.find.result ≡ list_any (same_name c.name-item.result) inputs =
    found_is c.in_ok-index.index inputs c.as_slice.result.now c.find.result c.find.ensures (c.in_ok-index.ensures c.as_slice.result.now)
    ∙ ap (λ (x : List ℕ). list_any (same_name x) inputs) c.as_slice.ensures.bytes in
    let fails : test c.name-item.result ≡ false = ap not (sym there ∙ c.if-is_none.ensures) in
    sym (find_later test items c.loop-name.name-index c.name-item.result c.loop-name-test.true c.name-item.is fails) ∙ c.loop-name.invariant
