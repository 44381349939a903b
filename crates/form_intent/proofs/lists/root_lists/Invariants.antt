use Rattle.std.proofs.Common.{◌≡◌, map, take, length, nat_le, true}
use Rattle.std.specs.List.{enumerate_from, list_all}
use Rattle.form_intent.specs.Script.{list_with, values_of}
use Rattle.form_intent.proofs.lists.root_lists.Given as goal

abbrev pub invariant-loop-values : goal.invariant-loop-values
invariant-loop-values l = record {
  lists : l.lists ≡ map list_with (take l.values-index (enumerate_from 0 (map (λ values. values.items) l.stated)));
  few : list_all (λ values. nat_le (length (values_of values.items)) 64) (take l.values-index l.stated) ≡ true;
}
