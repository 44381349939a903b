use Rattle.unit_lists.proofs.SetLemmas.{exact_views, gains_by}
use Rattle.unit_lists.specs.Views.{view_cmp}
use Rattle.unit_lists.proofs.plans.add_view.Goals as goal

pub returns : goal.returns
returns c = gains_by view_cmp exact_views c.args.views.now.keys c.insert.new.self.keys c.args.view c.in_ok-insert.ensures.keys
