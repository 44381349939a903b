use Rattle.std.proofs.Common.{ap}
use Rattle.upf_reader.specs.Rows.{form_view, list_view}
use Rattle.upf_reader.proofs.KeyLemmas.{keyed_list_so}
use Rattle.upf_reader.proofs.keys.is_keyed.Goals as goal

pub returns-in-List : goal.returns-in-List
returns-in-List c =
    keyed_list_so (form_view c.args.option.now.shape) (list_view c.in-List.form) c.has_keys.result (ap form_view c.in-List.is) c.has_keys.ensures
