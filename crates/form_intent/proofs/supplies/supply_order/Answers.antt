-- The names of the nets differ, and so they do in order.
use Rattle.std.proofs.Common.{◌∙◌, ap}
use Rattle.list_defs.specs.Members.{all_differ, same_name}
use Rattle.list_defs.proofs.NameLemmas.{same_name-symmetric}
use Rattle.form_intent.proofs.ListLemmas.{all_differ-IsPermutation}
use Rattle.form_intent.proofs.supplies.supply_order.Goals as goal

pub index_of-requires : goal.index_of-requires
index_of-requires c =
    ap (all_differ same_name) c.as_slice.ensures.value ∙ all_differ-IsPermutation same_name same_name-symmetric c.in_ok-names.names.items _ c.in_ok-sort.ensures.permutation (ap (all_differ same_name) c.in_ok-names.ensures ∙ c.requires)
