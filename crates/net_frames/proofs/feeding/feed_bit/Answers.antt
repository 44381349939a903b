use Rattle.std.proofs.Common.{◌≡◌, ◌+◌, ◌<◌, ℕ, length, set, refl, ap, ◌∙◌, subst, arith}
use Rattle.std.proofs.lemmas.List.{get_or_default}
use Rattle.design_rows.specs.declared.tables.Feed.{Feed}
use Rattle.design_rows.specs.declared.tables.InstanceRow.{InstanceRow}
use Rattle.design_rows.specs.View.{inst_at, no_feed}
use Rattle.net_frames.specs.Feeding.{IsFeed, feed_of}
use Rattle.net_frames.proofs.BitFeeds.{one_fed}
use Rattle.net_frames.proofs.feeding.feed_bit.Goals as goal

pub returns : goal.returns
returns c =
    let r = c.args.rows.now in
    let feeds = c.args.feeds.now.items in
    let k : ℕ = c.instance.result.first_bit + c.args.at in
    let n : ℕ = (inst_at r c.args.inst).first_bit + c.args.at in
    let same : k ≡ n = ap (λ (x : InstanceRow). x.first_bit + c.args.at) c.instance.ensures in
    let within : k < length feeds = omega (arith, c.len.ensures) in
    let linked : c.index.result.now ≡ feed_of feeds n =
    c.index.ensures ∙ get_or_default feeds k c.index.result.now no_feed within ∙ ap (feed_of feeds) same in
    let P : Feed → Type 0 = λ feed. IsFeed r c.args.inst c.args.at feed c.in_ok-feed.feed in
    one_fed r c.args.inst c.args.at n feeds (set feeds k c.in_ok-feed.feed) c.in_ok-feed.feed c.requires.there c.requires.within refl
    (subst (λ (m : ℕ). m < length feeds) same within) (subst P linked c.in_ok-feed.ensures) (ap (λ (m : ℕ). set feeds m c.in_ok-feed.feed) same)
