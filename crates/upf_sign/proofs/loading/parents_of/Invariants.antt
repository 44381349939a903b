use Rattle.std.proofs.Common.{◌≡◌, ◌++◌, map, drop}
use Rattle.upf_sign.proofs.loading.parents_of.Given as goal

-- those so far and those that are left are all
abbrev pub invariant-loop-inst : goal.invariant-loop-inst
invariant-loop-inst l = l.parents.items ++ map (λ i. i.parent) (drop l.inst-index l.insts) ≡ map (λ i. i.parent) l.insts
