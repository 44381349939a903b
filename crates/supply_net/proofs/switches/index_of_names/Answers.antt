use Rattle.std.proofs.Common.{ℕ, ◌||◌, Bool, List, sym, ap, ◌∙◌}
use Rattle.std.specs.List.{list_any}
use Rattle.list_defs.specs.Members.{same_name}
use Rattle.supply_net.proofs.SwitchLemmas.{any_more_names, index_more}
use Rattle.supply_net.proofs.switches.index_of_names.Goals as goal

pub loop-name-preserved : goal.loop-name-preserved
loop-name-preserved c other =
    let items = c.as_slice-name-items.result.now in
    let i = c.loop-name.name-index in
    index_more c.loop-name.index c.number.new.self c.as_slice.result.now other c.in_ok-number.ensures.names
    ∙ ap (λ (x : List ℕ). list_any (same_name other) c.loop-name.index || same_name other x) c.as_slice.ensures.bytes
    ∙ ap (λ (b : Bool). b || same_name other c.name-item.result) (c.loop-name.invariant other)
    ∙ sym (any_more_names items i c.name-item.result other c.loop-name-test.true c.name-item.is)
