-- A place is below the number of names, which a `u32` counts.
use Rattle.std.proofs.Common.{◌∙◌, sym, arith}
use Rattle.list_defs.specs.Members.{same_name}
use Rattle.list_defs.proofs.NameLemmas.{place_of-within}
use Rattle.form_intent.proofs.elements.element_number.Goals as goal

pub overflow_add-result : goal.overflow_add-result
overflow_add-result c =
    omega (arith, place_of-within (same_name c.as_slice.result.now) c.args.instances.now c.in_ok-place-in-Some.place (sym c.find.ensures ∙ c.in_ok-place-in-Some.was), c.len-count.ensures.len, c.len-count.type_inv)
