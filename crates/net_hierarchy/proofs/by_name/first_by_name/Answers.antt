use Rattle.std.proofs.Common.{◌≡◌, slice_get, Some, inr, sym, ap, subst, ◌∙◌}
use Rattle.std.proofs.lemmas.Option.{get_or_from_slice_get}
use Rattle.pw_defs.specs.declared.netlist.Module.{Module}
use Rattle.module_rows.specs.Growth.{no_module}
use Rattle.pw_defs.specs.declared.faults.DesignFault.TheVariants.{N11, M5}
use Rattle.design_defs.specs.DesignFaults.{FaultKind, of_module}
use Rattle.net_hierarchy.specs.ByName.{AreAlike, AreNamedApart, IsFirstTwice, IsLeastOther}
use Rattle.net_hierarchy.proofs.NamesApart.{least_other, least_twice, none_other}
use Rattle.net_hierarchy.proofs.by_name.first_by_name.Goals as goal

pub returns-in-Some-clause-cause : goal.returns-in-Some-clause-cause
returns-in-Some-clause-cause c s are modules models =
    let first = subst (λ ms. IsFirstTwice c.args.kinds.now ms c.in-Some.number) (sym modules) c.in-Some.ensures in
    let there : slice_get c.args.modules.now.modules c.in-Some.number ≡ Some first.m = ap (λ ms. slice_get ms c.in-Some.number) (sym modules) ∙ first.there in
    inr (of_module FaultKind.module_twice c.in-Some.number first.m, least_twice s c.args.kinds.now are c.in-Some.number first, ap N11 (c.in_ok-place_of-in-Some.ensures ∙ ap (λ (m : Module). record { «module» = c.in-Some.number; line = m.line; name = m.name }) (get_or_from_slice_get c.args.modules.now.modules c.in-Some.number first.m no_module there)))

pub returns-in-Some-first_other-clause-cause : goal.returns-in-Some-first_other-clause-cause
returns-in-Some-first_other-clause-cause c s are modules models =
    let apart = subst (λ ms. AreNamedApart c.args.kinds.now ms) (sym modules) c.in-None.ensures in
    let here = subst (λ ms. IsLeastOther c.args.kinds.now c.args.modules.now.modules ms c.in-Some-first_other.number) (c.as_slice.ensures.items ∙ sym models) c.in-Some-first_other.ensures in
    let least = subst (λ ms. IsLeastOther c.args.kinds.now ms s.models c.in-Some-first_other.number) (sym modules) here in
    let there : slice_get c.args.modules.now.modules c.in-Some-first_other.number ≡ Some least.other.m = ap (λ ms. slice_get ms c.in-Some-first_other.number) (sym modules) ∙ least.other.there in
    inr (
      of_module FaultKind.port_mismatch c.in-Some-first_other.number least.other.m,
      least_other s c.args.kinds.now are apart c.in-Some-first_other.number least,
      ap M5 (
          c.in_ok-place_of-in-Some-first_other.ensures
          ∙ ap (λ (m : Module). record { «module» = c.in-Some-first_other.number; line = m.line; name = m.name })
          (get_or_from_slice_get c.args.modules.now.modules c.in-Some-first_other.number least.other.m no_module there)
          ),
    )

pub returns-clause-none : goal.returns-clause-none
returns-clause-none c s are modules models =
    let apart = subst (λ ms. AreNamedApart c.args.kinds.now ms) (sym modules) c.in-None.ensures in
    let here = subst (λ ms. AreAlike c.args.kinds.now c.args.modules.now.modules ms) (c.as_slice.ensures.items ∙ sym models) c.in-None-first_other.ensures in
    let alike = subst (λ ms. AreAlike c.args.kinds.now ms s.models) (sym modules) here in
    none_other s c.args.kinds.now are apart alike
