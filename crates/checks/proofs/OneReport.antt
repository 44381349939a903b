-- There is one report on a design with its intent.
use Rattle.std.proofs.Common.{◌≡◌, ◌≢◌, ℕ, Bool, true, false, ◌⊎◌, List, [], ◌∷◌, Option, Some, None, map, length, sym, ap, subst, ◌∙◌, refl, inl, inr}
use Rattle.std.specs.Cmp.{IsTotalOrder}
use Rattle.std.specs.FinMap.{IsAntisymmetric, nat_cmp-IsAntisymmetric, slice_cmp-IsAntisymmetric}
use Rattle.std.specs.List.{AllZip}
use Rattle.std.specs.Ordering.{nat_cmp, ordering_reverse}
use Rattle.std.specs.declared.cmp.Ordering.{Ordering}
use Rattle.std.specs.declared.cmp.Ordering.TheVariants.{Less, Equal, Greater}
use Rattle.std.proofs.lemmas.Bool.{true≢false}
use Rattle.std.proofs.lemmas.Cmp.{nat_cmp_total, nat_list_cmp_total, on_total, then_total}
use Rattle.std.proofs.lemmas.Option.{same_Some}
use Rattle.pw_defs.specs.Kinds.{kind_number}
use Rattle.pw_defs.specs.Values.{value_cmp}
use Rattle.pw_defs.specs.declared.chains.Kind.{Kind}
use Rattle.pw_defs.specs.declared.chains.Walk.{Walk}
use Rattle.pw_defs.specs.declared.conditions.Cond.{Cond}
use Rattle.pw_defs.specs.declared.design.Bit.{Bit}
use Rattle.pw_defs.specs.declared.design.Design.{Design}
use Rattle.pw_defs.specs.declared.design.Feeder.{Feeder}
use Rattle.pw_defs.specs.declared.design.PortBit.{PortBit}
use Rattle.pw_defs.specs.declared.intent.Intent.{Intent}
use Rattle.pw_defs.specs.declared.report.Boundary.{Boundary}
use Rattle.pw_defs.specs.declared.report.Finding.{Finding}
use Rattle.pw_defs.specs.declared.report.Report.{Report}
use Rattle.pw_defs.specs.declared.values.State.{State}
use Rattle.pw_defs.specs.declared.values.Value.{Value}
use Rattle.pw_defs.specs.declared.values.Value.TheVariants.{Off, On}
use Rattle.list_defs.specs.Members.{IsIn}
use Rattle.list_defs.specs.Orders.{IsLeast, IsPutInOrder}
use Rattle.pw_defs.specs.Values.{state_cmp}
use Rattle.supply_defs.proofs.TotalOrders.{state_cmp_total}
use Rattle.checks.specs.LineChains.{Ends, chains}
use Rattle.design_defs.specs.Walks.{IsWalk, AreWalks, starts}
use Rattle.supply_defs.specs.Conditions.{holds}
use Rattle.supply_defs.specs.States.{value_in}
use Rattle.checks.specs.LineWatches.{watched}
use Rattle.checks.specs.LineFindings.{Shows, IsFindingOf, IsQuiet, AreFindings, none, found, quiet, finding_cmp, legal_of, IsReport}
use Rattle.list_defs.proofs.InOrder.{put_once}
use Rattle.list_defs.proofs.OneFound.{zip_once}
use Rattle.chains.specs.OneWalk.{HasOneWalk}

-- ---- one list of walks

walk_with : {f g : Feeder} {t u : PortBit} {b c : List ℕ} → f ≡ g → t ≡ u → b ≡ c
    → (let w : Walk = record { from = f; to = t; bits = b } in w) ≡ record { from = g; to = u; bits = c }
walk_with {f} {g} {t} {u} {b} {c} same_from same_to same_bits = cc

same_walk : HasOneWalk → (bits : List Bit) (s : ℕ × PortBit) (w v : Walk) → (w.to ≡ s.1) × IsWalk bits s.0 w.bits w.from → (v.to ≡ s.1) × IsWalk bits s.0 v.bits v.from → w ≡ v
same_walk one bits s w v a b =
    let same = one bits s.0 w.bits v.bits w.from v.from a.1 b.1 in
    walk_with same.1 (a.0 ∙ sym b.0) same.0

same_walks : HasOneWalk → (d : Design) (ws vs : List Walk) → AreWalks d ws → AreWalks d vs → ws ≡ vs
same_walks one d ws vs = zip_once (λ (s : ℕ × PortBit) (w : Walk). (w.to ≡ s.1) × IsWalk d.bits s.0 w.bits w.from) (same_walk one d.bits) (starts d) ws vs

-- ---- one witness

value_cmp_antisymmetric : IsAntisymmetric value_cmp
value_cmp_antisymmetric Off Off e = refl
value_cmp_antisymmetric Off (On b) e = cc
value_cmp_antisymmetric (On a) Off e = cc
value_cmp_antisymmetric (On a) (On b) e = ap (λ (n : ℕ). On n) (nat_cmp-IsAntisymmetric a b e)

least_once : {X : Type 0} (cmp : X → X → Ordering) → IsTotalOrder cmp → IsAntisymmetric cmp → (P : X → Type 0) (x y : X) → IsLeast cmp P x → IsLeast cmp P y → x ≡ y
least_once cmp o anti P x y a b = by (cmp x y) refl
  where
    by : (r : Ordering) → cmp x y ≡ r → x ≡ y
    by Less is = absurd (b.least x a.holds is)
    by Equal is = anti x y is
    by Greater is = absurd (a.least y b.holds (o.antisymm y x ∙ ap ordering_reverse is))

-- ---- one list of findings

finding_with : {k l : Kind} {r s c e : List ℕ} {a b : Bool} {v w : Option State} → k ≡ l → r ≡ s → c ≡ e → a ≡ b → v ≡ w
    → (let f : Finding = record { kind = k; receiver = r; driver = c; forced = a; witness = v } in f) ≡ record { kind = l; receiver = s; driver = e; forced = b; witness = w }
finding_with {k} {l} {r} {s} {c} {e} {a} {b} {v} {w} p q t u x = cc

finding_once : (d : Design) (i : Intent) (legal : List (List Value)) (c : Ends) (f g : Finding) → IsFindingOf d i legal c f → IsFindingOf d i legal c g → f ≡ g
finding_once d i legal c f g a b =
    let same_cond : a.cond ≡ b.cond = same_Some a.cond b.cond (sym a.watch ∙ b.watch) in
    let least = subst (λ (x : Cond). IsLeast state_cmp (Shows legal (length i.supplies) x) a.state.values) same_cond a.least in
    let same_values : a.state.values ≡ b.state.values = least_once state_cmp state_cmp_total (slice_cmp-IsAntisymmetric value_cmp_antisymmetric) (Shows legal (length i.supplies) b.cond) a.state.values b.state.values least b.least in
    let same_state : a.state ≡ b.state = ap (λ (v : List Value). record { values = v }) same_values in
    finding_with (a.kind ∙ sym b.kind) (a.receiver ∙ sym b.receiver) (a.driver ∙ sym b.driver) (a.forced ∙ sym b.forced) (a.witness ∙ ap (λ (s : State). Some s) same_state ∙ sym b.witness)

-- what is found of a chain isn't quiet
not_both : (d : Design) (i : Intent) (legal : List (List Value)) (c : Ends) (f : Finding) → IsFindingOf d i legal c f → IsQuiet i legal c → ⊥
not_both d i legal c f a q = let shows = a.least.holds in true≢false (sym shows.shown ∙ q a.cond a.watch shows.state shows.is_legal)

-- the findings of chains, opened at the first chain
abbrev Opened : Design → Intent → List (List Value) → List Ends → List Finding → Type 0
Opened d i legal [] fs = fs ≡ []
Opened d i legal (c ∷ cs) fs =
    ((f : Finding) × (gs : List Finding) × IsFindingOf d i legal c f × AreFindings d i legal cs gs × (fs ≡ f ∷ gs)) ⊎ (IsQuiet i legal c × AreFindings d i legal cs fs)

opened : (d : Design) (i : Intent) (legal : List (List Value)) (cs : List Ends) (fs : List Finding) → AreFindings d i legal cs fs → Opened d i legal cs fs
opened d i legal cs fs none = refl
opened d i legal cs fs (found c f more gs is rest) = inl (f, gs, is, rest, refl)
opened d i legal cs fs (quiet c more gs is rest) = inr (is, rest)

findings_once : (d : Design) (i : Intent) (legal : List (List Value)) (cs : List Ends) (fs gs : List Finding) → AreFindings d i legal cs fs → AreFindings d i legal cs gs → fs ≡ gs
findings_once d i legal [] fs gs a b = opened d i legal [] fs a ∙ sym (opened d i legal [] gs b)
findings_once d i legal (c ∷ cs) fs gs a b = by (opened d i legal (c ∷ cs) fs a) (opened d i legal (c ∷ cs) gs b) (findings_once d i legal cs)
  where
    by : Opened d i legal (c ∷ cs) fs → Opened d i legal (c ∷ cs) gs → ((xs ys : List Finding) → AreFindings d i legal cs xs → AreFindings d i legal cs ys → xs ≡ ys) → fs ≡ gs
    by (inl x) (inl y) rest =
        let first : x.0 ≡ y.0 = finding_once d i legal c x.0 y.0 x.2 y.2 in
        let more : x.1 ≡ y.1 = rest x.1 y.1 x.3 y.3 in
        let one : fs ≡ x.0 ∷ x.1 = x.4 in
        let other : gs ≡ y.0 ∷ y.1 = y.4 in
        cc
    by (inl x) (inr y) rest = absurd (not_both d i legal c x.0 x.2 y.0)
    by (inr x) (inl y) rest = absurd (not_both d i legal c y.0 y.2 x.0)
    by (inr x) (inr y) rest = rest fs gs x.1 y.1

-- ---- one report

finding_cmp_total : IsTotalOrder finding_cmp
finding_cmp_total = then_total (on_total (λ (f : Finding). f.receiver) nat_list_cmp_total) (on_total (λ (f : Finding). kind_number f.kind) nat_cmp_total)

report_with : {t u : List ℕ} {c e p q : ℕ} {b m : List Boundary} {v w : List (List ℕ)} {f g : List Finding} → t ≡ u → c ≡ e → p ≡ q → b ≡ m → v ≡ w → f ≡ g
    → (let r : Report = record { top = t; chains = c; passed = p; boundaries = b; visible = v; findings = f } in r) ≡ record { top = u; chains = e; passed = q; boundaries = m; visible = w; findings = g }
report_with {t} {u} {c} {e} {p} {q} {b} {m} {v} {w} {f} {g} i j k l n o = cc

pub one_report : HasOneWalk → (d : Design) (i : Intent) (r s : Report) → IsReport d i r → IsReport d i s → r ≡ s
one_report one d i r s a b =
    let walks : a.walks ≡ b.walks = same_walks one d a.walks b.walks a.are_walks b.are_walks in
    let found : a.found ≡ b.found = findings_once d i (legal_of i) (chains d a.walks) a.found b.found a.are_found
    (subst (λ (ws : List Walk). AreFindings d i (legal_of i) (chains d ws) b.found) (sym walks) b.are_found) in
    let findings : r.findings ≡ s.findings = put_once finding_cmp finding_cmp_total b.found r.findings s.findings
    (subst (λ (fs : List Finding). IsPutInOrder finding_cmp fs r.findings) found a.findings) b.findings in
    let top : r.top ≡ s.top = a.top ∙ sym b.top in
    let count : r.chains ≡ s.chains = a.chain_count ∙ ap (λ (ws : List Walk). length (chains d ws)) walks ∙ sym b.chain_count in
    let passed : r.passed ≡ s.passed = a.passed ∙ sym b.passed in
    let boundaries : r.boundaries ≡ s.boundaries = a.boundaries ∙ sym b.boundaries in
    let visible : r.visible ≡ s.visible = a.visible ∙ sym b.visible in
    report_with top count passed boundaries visible findings
