use Rattle.unit_lists.proofs.SetLemmas.{at_view_cmp, exact_at_views, exact_views, gains_by}
use Rattle.unit_lists.specs.Views.{view_cmp}
use Rattle.unit_lists.proofs.plans.add_link.Goals as goal

pub returns : goal.returns
returns c =
    gains_by (at_view_cmp view_cmp) (exact_at_views view_cmp exact_views) c.args.links.now.keys c.insert.new.self.keys (c.args.from, c.args.to) c.in_ok-insert.ensures.keys
