use Rattle.std.proofs.Common.{◌+◌, ◌-◌, ◌≤◌, ℕ, drop, ap, ◌∙◌, arith}
use Rattle.diagram_defs.specs.Diagrams.{member}
use Rattle.state_meets.proofs.Meetings.{stays, goes_on}
use Rattle.state_meets.proofs.commons.second_behind.Goals as goal

pub returns-then-at-begins : goal.returns-then-at-begins
returns-then-at-begins c rest = stays c.args.second.now c.args.begins c.args.at.level c.args.at.second c.args.v rest c.if-at-begins.true

pub returns : goal.returns
returns c rest =
    let begun : c.args.begins ≤ c.args.at.level = let e = c.if-at-begins.false in omega arith in
    ap (λ (n : ℕ). member c.args.second.now.nodes n (drop (c.args.begins - (c.args.at.level + 1)) rest)) c.child.ensures
    ∙ goes_on c.args.second.now c.args.begins c.args.at.level c.args.at.second c.args.v rest begun
