-- The intents of the worked scripts are those of their worlds.
use Rattle.std.proofs.Common.{None, Some, refl}
use Rattle.std.specs.Prelude.{codes}
use Rattle.std.specs.Fmt.{digits}
use Rattle.pw_defs.specs.declared.intent.Want.{Want}
use Rattle.worked_jobs.specs.Designs.{pair, bits}
use Rattle.worked_jobs.specs.Intents.{pair as pair_intent, bits as bits_intent, vector_set}
use Rattle.domain_defs.specs.DomainFaults.{AreDomainsOf}
use Rattle.supply_defs.specs.UnitLists.{AreUnitLists}
use Rattle.script_defs.specs.World.{World}
use Rattle.script_defs.specs.Runs.{first_frame, fresh}
use Rattle.script_defs.specs.StrategiesOf.{IsIntentOf}
use Rattle.script_defs.specs.Worked.{bits_statements}
use Rattle.script_defs.proofs.Behind.{pair_world, world_behind}
use Rattle.script_defs.proofs.Fields.{beside, domain_so, strategy_so}

-- The intent of the two blocks is that of its world, where its lists of values and of domains are those of its supplies
-- and domains.
pub pair_is_intent :
    AreUnitLists pair_intent.supplies pair_intent.units pair_intent.lists → AreDomainsOf pair pair_intent.domains pair_intent.domain_of
    → IsIntentOf pair pair_world Want.Check pair_intent
pair_is_intent lists members = record {
  want_is = refl;
  units_are = (record { inst_is = refl; outer_is = refl; passed_is = refl; ports_are = refl; exports_are = tt }, tt);
  supplies_are = refl;
  lists_are = lists;
  domains_are = beside (domain_so _ _ _ _ refl refl refl refl refl (record { power_is = refl; ground_is = refl }) tt) (beside (domain_so _ _ _ _ refl refl refl refl refl (record { power_is = refl; ground_is = refl }) tt)
      (beside (domain_so _ _ _ _ refl refl refl refl refl (record { power_is = refl; ground_is = refl }) tt) tt));
  members_are = members;
  strategies_are = tt;
  cell_sets_are = tt;
  port_sets_are = tt;
  conds_are = refl;
}

abbrev bits_world : World
bits_world = world_behind bits (first_frame (codes "bits.upf")) (fresh bits) bits_statements

-- The same for the block with a vector port, with its three strategies: one for a bit, one for a port, one for all.
pub bits_is_intent :
    AreUnitLists bits_intent.supplies bits_intent.units bits_intent.lists → AreDomainsOf bits bits_intent.domains bits_intent.domain_of
    → IsIntentOf bits bits_world Want.Check bits_intent
unfolding digits
bits_is_intent lists members = record {
  want_is = refl;
  units_are = (record { inst_is = refl; outer_is = refl; passed_is = refl; ports_are = refl; exports_are = tt }, tt);
  supplies_are = refl;
  lists_are = lists;
  domains_are = beside (domain_so _ _ _ _ refl refl refl refl refl (record { power_is = refl; ground_is = refl }) tt) (beside (domain_so _ _ _ _ refl refl refl refl refl (record { power_is = refl; ground_is = refl }) tt) tt);
  members_are = members;
  strategies_are = beside (strategy_so _ _ _ _ refl refl refl refl refl refl refl refl tt tt refl (record { supply = None; supply_is = tt; act_is = refl }))
      (beside (strategy_so _ _ _ _ refl refl refl refl refl refl refl refl tt tt refl (record { supply = Some vector_set; supply_is = record { power_is = refl; ground_is = refl }; act_is = refl }))
      (beside (strategy_so _ _ _ _ refl refl refl refl refl refl refl refl tt tt refl (record { supply = Some vector_set; supply_is = record { power_is = refl; ground_is = refl }; act_is = refl })) tt));
  cell_sets_are = tt;
  port_sets_are = tt;
  conds_are = refl;
}
