use Rattle.std.proofs.Common.{ℕ, ◌||◌, Bool, List, sym, ap, ◌∙◌}
use Rattle.std.specs.List.{list_any}
use Rattle.list_defs.specs.Members.{same_name}
use Rattle.supply_net.proofs.SwitchLemmas.{any_more, index_more}
use Rattle.supply_net.proofs.switches.index_of_inputs.Goals as goal

pub loop-input-preserved : goal.loop-input-preserved
loop-input-preserved c name =
    let items = c.as_slice-input-items.result.now in
    let i = c.loop-input.input-index in
    index_more c.loop-input.index c.number.new.self c.as_slice.result.now name c.in_ok-number.ensures.names
    ∙ ap (λ (x : List ℕ). list_any (same_name name) c.loop-input.index || same_name name x) c.as_slice.ensures.bytes
    ∙ ap (λ (b : Bool). b || same_name name c.input-item.result.0) (c.loop-input.invariant name)
    ∙ sym (any_more (λ (p : List ℕ × ℕ). p.0) items i c.input-item.result name c.loop-input-test.true c.input-item.is)
