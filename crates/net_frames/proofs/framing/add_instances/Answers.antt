use Rattle.std.proofs.Common.{List, refl, sym, ◌∙◌, subst, arith}
use Rattle.std.proofs.lemmas.List.{take_all}
use Rattle.net_instances.specs.declared.numbering.InstanceRow.{InstanceRow}
use Rattle.net_frames.specs.Framed.{AreFramed}
use Rattle.net_frames.proofs.AddedKinds.{next_framed, same_joined}
use Rattle.net_frames.proofs.framing.add_instances.Goals as goal

pub loop-at-init : goal.loop-at-init
loop-at-init c = record { rows = c.requires; parts = record { cells = refl; modules = refl; models = refl }; framed = λ are. are }

pub loop-at-preserved : goal.loop-at-preserved
loop-at-preserved c = record {
  rows = c.add_row.ensures.rows;
  parts = same_joined c.args.rows.now c.loop-at.rows c.add_row.new.rows c.loop-at.invariant.parts c.in_ok-add_row.ensures.added.parts;
  framed = next_framed c.args.modules.now c.args.plans.now c.args.rows.now c.loop-at.rows c.add_row.new.rows c.args.instances.now.rows c.loop-at.at c.in_ok-row.row
      (sym c.row_at.ensures ∙ c.in_ok-row.ensures.ok_part) c.loop-at.invariant.framed c.in_ok-add_row.ensures.added;
}

pub returns-clause-framed : goal.returns-clause-framed
returns-clause-framed c are =
    let P : List InstanceRow → Type 0 = λ some. AreFramed c.args.modules.now c.args.plans.now some c.loop-at.rows in
    subst P (take_all c.loop-at.at c.args.instances.now.rows (omega (arith, c.len-at-end.ensures))) (c.loop-at.invariant.framed are)
