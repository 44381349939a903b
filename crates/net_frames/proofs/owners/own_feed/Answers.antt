use Rattle.std.proofs.Common.{◌≡◌, None, sym, ap, ◌∙◌}
use Rattle.std.proofs.lemmas.Option.{none-some}
use Rattle.design_rows.specs.View.{port_in}
use Rattle.net_frames.specs.Feeding.{IsFeed, own_port}
use Rattle.net_frames.proofs.OwnFeeds.{place_is}
use Rattle.net_frames.proofs.owners.own_feed.Goals as goal

pub returns-in-Net : goal.returns-in-Net
returns-in-Net c =
    let r = c.args.rows.now in
    let place = place_is r c.args.inst c.instance.result c.kind-kind.result c.instance.ensures c.kind-kind.ensures c.args.at c.place_of.result c.place_of.ensures in
    let none : own_port r c.args.inst c.args.at ≡ None = ap (port_in c.args.inst) (sym place ∙ c.in-Net.is) in
    IsFeed.by_link (λ p there. absurd (none-some p (sym none ∙ there)))

pub returns-in_ok-feed-in-Port : goal.returns-in_ok-feed-in-Port
returns-in_ok-feed-in-Port c =
    let place = place_is c.args.rows.now c.args.inst c.instance.result c.kind-kind.result c.instance.ensures c.kind-kind.ensures c.args.at c.place_of.result c.place_of.ensures in
    c.in_ok-feed-in-Port.ensures c.args.at c.in-Port.place (ap (port_in c.args.inst) (sym place ∙ c.in-Port.is))
