use Rattle.std.proofs.Common.{subst}
use Rattle.module_rows.specs.Reads.{IsExprHead}
use Rattle.net_widths.proofs.LeafNames.{bit_name, const_name, join_name, part_name, whole_name}
use Rattle.net_widths.proofs.names.name_of.Goals as goal

pub returns-in-Whole : goal.returns-in-Whole
returns-in-Whole c = λ n e is. whole_name n e c.in-Whole.name (subst (IsExprHead n e) c.in-Whole.is is)

pub returns-in-Bit : goal.returns-in-Bit
returns-in-Bit c = λ n e is. bit_name n e c.in-Bit.name _ (subst (IsExprHead n e) c.in-Bit.is is)

pub returns-in-Part : goal.returns-in-Part
returns-in-Part c = λ n e is. part_name n e c.in-Part.name _ _ (subst (IsExprHead n e) c.in-Part.is is)

pub returns-in-Const : goal.returns-in-Const
returns-in-Const c = λ n e is. const_name n e _ (subst (IsExprHead n e) c.in-Const.is is)

pub returns-in-Join : goal.returns-in-Join
returns-in-Join c = λ n e is. join_name n e (subst (IsExprHead n e) c.in-Join.is is)
