use Rattle.std.proofs.Common.{List, sym, ap, ◌∙◌, subst}
use Rattle.net_places.specs.Gathered.{Gathers}
use Rattle.net_places.specs.Mentions.{Mention, of_leaf}
use Rattle.net_places.proofs.Mentioning.{gathers_nothing}
use Rattle.net_places.proofs.Steps.{leaf_bit, leaf_const, leaf_join, leaf_part, leaf_whole}
use Rattle.net_places.proofs.lines.mention_leaf.Goals as goal

pub returns-in_ok-mention_net-in-Whole : goal.returns-in_ok-mention_net-in-Whole
returns-in_ok-mention_net-in-Whole c =
    let P : List Mention → Type 0 = λ more. Gathers c.args.modules.now.symbols c.args.mark c.args.gathering.now c.mention_net.new.gathering more in
    subst P (sym (ap of_leaf c.in-Whole.ensures.1 ∙ leaf_whole _)) c.in_ok-mention_net-in-Whole.ensures

pub returns-in-Bit : goal.returns-in-Bit
returns-in-Bit c = gathers_nothing c.args.modules.now.symbols c.args.mark c.args.gathering.now _ (ap of_leaf c.in-Bit.ensures.1 ∙ leaf_bit _ _)

pub returns-in-Part : goal.returns-in-Part
returns-in-Part c = gathers_nothing c.args.modules.now.symbols c.args.mark c.args.gathering.now _ (ap of_leaf c.in-Part.ensures.1 ∙ leaf_part _ _ _)

pub returns-in-Const : goal.returns-in-Const
returns-in-Const c = gathers_nothing c.args.modules.now.symbols c.args.mark c.args.gathering.now _ (ap of_leaf c.in-Const.ensures ∙ leaf_const _)

pub returns-in-Join : goal.returns-in-Join
returns-in-Join c = gathers_nothing c.args.modules.now.symbols c.args.mark c.args.gathering.now _ (ap of_leaf c.in-Join.ensures.1 ∙ leaf_join c.in-Join.ensures.0)
