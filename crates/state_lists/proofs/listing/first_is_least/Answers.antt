use Rattle.supply_defs.specs.Conditions.{holds}
use Rattle.supply_defs.specs.States.{value_in}
use Rattle.pw_defs.specs.Values.{state_cmp}
use Rattle.list_defs.proofs.Rising.{first_least}
use Rattle.supply_defs.proofs.TotalOrders.{state_cmp_total}
use Rattle.state_lists.proofs.listing.first_is_least.Goals as goal

pub returns : goal.returns
returns c = λ states cond first rising e. first_least state_cmp state_cmp_total (λ s. holds (value_in s) cond) states first rising e
