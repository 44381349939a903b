-- A top with an instance for which a model stands: its entry, its unit, and a domain that can't have it.
use Rattle.std.proofs.Common.{◌≡◌, ◌≢◌, ℕ, zero, suc, true, false, List, [], ◌∷◌, Some, None, slice_get, inl, inr, ◌↔◌, refl, ap, subst, arith}
use Rattle.std.specs.Prelude.{codes}
use Rattle.pw_defs.specs.declared.design.Body.TheVariants.{Module as ModuleBody, Model as ModelBody}
use Rattle.pw_defs.specs.declared.design.Design.{Design}
use Rattle.pw_defs.specs.declared.intent.Intent.{Intent}
use Rattle.pw_defs.specs.declared.intent.Want.TheVariants.{Check}
use Rattle.pw_defs.specs.declared.model.Model.{Model}
use Rattle.pw_defs.specs.declared.supplies.Said.{Said}
use Rattle.pw_defs.specs.declared.supplies.SupplyKind.TheVariants.{InPort, OutPort, Kept}
use Rattle.pw_defs.specs.declared.values.Value.{Value}
use Rattle.pw_defs.specs.declared.values.Value.TheVariants.{Off, On}
use Rattle.list_defs.specs.Members.{IsIn}
use Rattle.design_defs.specs.Joined.{path_of}
use Rattle.design_defs.specs.Ports.{body_of}
use Rattle.domain_defs.specs.DomainFaults.{CannotHave}
use Rattle.domain_defs.specs.Members.{IsModelled, IsEntry}
use Rattle.domain_defs.specs.ModelUnits.{IsUnitAt, HasModelUnits, ShowsModel, ShowsOutPort, ShowsSupply}
use Rattle.domain_defs.proofs.WorkedDomains.{domain}

-- a model with the `in` port V, the supply SW/o behind it, and the `out` port Q behind that one
abbrev macro_model : Model
macro_model = record {
  «module» = codes "mac";
  chains = 0;
  passed = 0;
  ports = [];
  supplies =
      record { name = codes "V"; port = true; values = Off ∷ On 800000 ∷ [] }
      ∷ record { name = codes "SW/o"; port = false; values = Off ∷ On 900000 ∷ [] } ∷ [];
  outs = record { name = codes "Q"; supply = 1 } ∷ [];
  exports = [];
  partials = [];
  kept = record { arities = []; nodes = [] };
  legal = 1;
  watches = [];
}

abbrev with_model : Design
with_model = record {
  cells = record { cells = [] };
  modules = record { name = codes "top"; ports = []; nets = []; assigns = []; insts = []; line = 1 } ∷ [];
  models = macro_model ∷ [];
  insts = record { path = []; parent = None; body = ModuleBody 0 } ∷ record { path = codes "m"; parent = Some 0; body = ModelBody 0 } ∷ [];
  bits = [];
}

abbrev says : Value → Said
says value = record { unit = 1; value = value }

abbrev intent : Intent
intent = record {
  want = Check;
  units =
      record { inst = 0; outer = None; passed = 0; ports = []; exports = [] }
      ∷ record { inst = 1; outer = Some 0; passed = 0; ports = 0 ∷ 1 ∷ 2 ∷ []; exports = [] } ∷ [];
  supplies =
      record { name = codes "m/V"; unit = 1; kind = InPort; feeder = None; inputs = []; said = says Off ∷ says (On 800000) ∷ [] }
      ∷ record { name = codes "m/SW/o"; unit = 1; kind = Kept; feeder = None; inputs = []; said = says Off ∷ says (On 900000) ∷ [] }
      ∷ record { name = codes "m/Q"; unit = 1; kind = OutPort; feeder = Some 1; inputs = []; said = [] } ∷ [];
  lists = [];
  domains = domain (codes "PT") 4 (0 ∷ 1 ∷ []) [] ∷ [];
  domain_of = 0 ∷ 1 ∷ [];
  strategies = [];
  cell_sets = [];
  port_sets = [];
  conds = [];
}

modelled : IsModelled with_model 1
modelled = (0, refl)

-- the modelled instance has the number of all domains, which names none of them
pub modelled_has_no_domain : IsEntry with_model intent.domains 1 1
modelled_has_no_domain = IsEntry.modelled modelled

pub no_other_entry : ¬ IsEntry with_model intent.domains 1 0
no_other_entry entry = by 0 entry refl
  where
    by : (d : ℕ) → IsEntry with_model intent.domains 1 d → d ≢ 0
    by _ (IsEntry.modelled is) = λ e. omega (arith, e)
    by _ (IsEntry.member d plain here) = absurd (plain modelled)

-- the domain that has it as an element can't have it
pub domain_cannot_have_model : CannotHave with_model intent.domains 0 1
domain_cannot_have_model = record { has = (domain (codes "PT") 4 (0 ∷ 1 ∷ []) [], refl, inr (inl refl)); why = inl modelled }

-- a value is one of two exactly where the unit mentions it
two_values : (a b v : Value) → IsIn v (a ∷ b ∷ []) ↔ IsIn (says v) (says a ∷ says b ∷ [])
two_values a b v = (λ i. to i, λ i. from i)
  where
    to : IsIn v (a ∷ b ∷ []) → IsIn (says v) (says a ∷ says b ∷ [])
    to (inl e) = inl (ap says e)
    to (inr (inl e)) = inr (inl (ap says e))
    to (inr (inr none)) = absurd none

    from : IsIn (says v) (says a ∷ says b ∷ []) → IsIn v (a ∷ b ∷ [])
    from (inl e) = inl (ap (λ (s : Said). s.value) e)
    from (inr (inl e)) = inr (inl (ap (λ (s : Said). s.value) e))
    from (inr (inr none)) = absurd none

-- its unit shows the interface of the model, and behind that its `out` port, which the switch feeds
shows_port : ShowsSupply intent 1 (codes "m") 0 (record { name = codes "V"; port = true; values = Off ∷ On 800000 ∷ [] })
shows_port = record {
  supply = _;
  there = refl;
  name_is = refl;
  unit_is = refl;
  kind_is = refl;
  unfed = λ inner. cc;
  values = λ v. two_values Off (On 800000) v;
}

shows_switch : ShowsSupply intent 1 (codes "m") 1 (record { name = codes "SW/o"; port = false; values = Off ∷ On 900000 ∷ [] })
shows_switch = record {
  supply = _;
  there = refl;
  name_is = refl;
  unit_is = refl;
  kind_is = refl;
  unfed = λ inner. refl;
  values = λ v. two_values Off (On 900000) v;
}

shows_out_port : ShowsOutPort intent 1 (codes "m") (0 ∷ 1 ∷ []) 2 (record { name = codes "Q"; supply = 1 })
shows_out_port = record { supply = _; there = refl; name_is = refl; unit_is = refl; kind_is = refl; feeder = 1; named = refl; fed = refl }

pub unit_shows_model : ShowsModel intent 1 (codes "m") macro_model (0 ∷ 1 ∷ 2 ∷ [])
unit_shows_model = record {
  interface = 0 ∷ 1 ∷ [];
  outs = 2 ∷ [];
  ports_are = refl;
  interface_are = (shows_port, (shows_switch, tt));
  outs_are = (shows_out_port, tt);
}

-- so each modelled instance has its unit
only_the_macro : (inst m : ℕ) → body_of with_model inst ≡ Some (ModelBody m) → inst ≡ 1
only_the_macro zero m body = cc
only_the_macro (suc zero) m body = refl
only_the_macro (suc (suc n)) m body = cc

pub each_model_has_unit : HasModelUnits with_model intent
each_model_has_unit inst m model path body there named =
    by inst m (only_the_macro inst m body) body there named
  where
    by : (i n : ℕ) → i ≡ 1 → body_of with_model i ≡ Some (ModelBody n) → slice_get with_model.models n ≡ Some model → path_of with_model i ≡ Some path
        → (number : ℕ) × (at : IsUnitAt intent.units i number) × ShowsModel intent number path model at.unit.ports
    by zero n same body there named = absurd (omega arith)
    by (suc zero) zero same body there named =
        let models : macro_model ≡ model = cc in
        let names : codes "m" ≡ path = cc in
        let M : Model → Type 0 = λ x. ShowsModel intent 1 path x (0 ∷ 1 ∷ 2 ∷ []) in
        let P : List ℕ → Type 0 = λ x. ShowsModel intent 1 x macro_model (0 ∷ 1 ∷ 2 ∷ []) in
        (1, record { unit = _; there = refl; inst_is = refl }, subst M models (subst P names unit_shows_model))
    by (suc zero) (suc n) same body there named = cc
    by (suc (suc i)) n same body there named = absurd (omega arith)
