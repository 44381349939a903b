-- A design with a sound intent has one report.
use Rattle.std.proofs.Common.{◌≡◌, ℕ, List, map, take, length, sym, ap, subst, ◌∙◌}
use Rattle.std.specs.Cmp.{IsTotalOrder}
use Rattle.std.proofs.lemmas.Cmp.{nat_cmp_total, nat_list_cmp_total, on_total, then_total}
use Rattle.pw_defs.specs.declared.chains.Chain.{Chain}
use Rattle.pw_defs.specs.declared.design.Design.{Design}
use Rattle.pw_defs.specs.declared.intent.Intent.{Intent}
use Rattle.pw_defs.specs.declared.intent.Want.{Want}
use Rattle.pw_defs.specs.declared.intent.Want.TheVariants.{Check, Macro}
use Rattle.pw_defs.specs.declared.report.Boundary.{Boundary}
use Rattle.pw_defs.specs.declared.report.Finding.{Finding}
use Rattle.pw_defs.specs.declared.report.Report.{Report}
use Rattle.list_defs.specs.Orders.{IsRising, IsPutInOrder}
use Rattle.supply_defs.specs.Places.{ArePlaces}
use Rattle.signoff_defs.specs.Findings.{NamedWatch, AreFindings, finding_cmp}
use Rattle.pw_defs.specs.Kinds.{kind_number}
use Rattle.signoff_defs.specs.Laws.{HasOneReport}
use Rattle.signoff_defs.specs.Reports.{AreLegalStates, AreWatches, legal_states}
use Rattle.signoff_defs.specs.RootOrders.{RootOrder}
use Rattle.signoff_defs.specs.Visibility.{AreVisibleFor, root_cmp, supply_name}
use Rattle.signoff_defs.specs.Witnesses.{LegalStates}
use Rattle.list_defs.proofs.InOrder.{put_once}
use Rattle.signoff_defs.proofs.OneBoundary.{boundaries_once}
use Rattle.signoff_defs.proofs.OneChain.{all_chains_once, watches_once}
use Rattle.signoff_defs.proofs.OneFinding.{findings_once}
use Rattle.signoff_defs.proofs.SoundSupplies.{HasSoundSupplies, sound_supplies}
use Rattle.signoff_defs.proofs.OneOrder.{order_apart, order_once, places_once, rising_apart, root_cmp_total}

-- the visible roots of a design rise
visible_rise : (w : Want) (d : Design) (i : Intent) (xs : List ℕ) → w ≡ Check → AreVisibleFor w d i xs → IsRising (root_cmp d i) xs
visible_rise Check d i xs check are = are.rising
visible_rise Macro d i xs check are = cc

-- a design with a sound intent has one list of legal states
pub legal_once : (d : Design) (i : Intent) → i.want ≡ Check → HasSoundSupplies i → (o p : RootOrder) (x y : LegalStates) → AreLegalStates d i o x
    → AreLegalStates d i p y → (o ≡ p) × (x ≡ y)
legal_once d i check sound o p x y a b =
    let order : o ≡ p = order_once d i sound o p a.is_order b.is_order in
    let rise = visible_rise i.want d i b.is_order.seen check b.is_order.are_visible in
    let apart = order_apart d i p b.is_order (rising_apart (root_cmp d i) (root_cmp_total d i) b.is_order.seen rise) in
    let places : a.places ≡ b.places = places_once i sound p.roots a.places b.places apart
    (subst (λ (q : RootOrder). ArePlaces i.supplies q.roots a.places) order a.are_places) b.are_places in
    let both : legal_states i o a.places ≡ legal_states i p b.places = ap (λ (q : RootOrder). legal_states i q a.places) order ∙ ap (legal_states i p) places in
    (order, a.legal_are ∙ both ∙ sym b.legal_are)

finding_cmp_total : IsTotalOrder finding_cmp
finding_cmp_total = then_total (on_total (λ (f : Finding). f.receiver) nat_list_cmp_total) (on_total (λ (f : Finding). kind_number f.kind) nat_cmp_total)

report_with : {t u : List ℕ} {c e p q : ℕ} {b m : List Boundary} {v w : List (List ℕ)} {f g : List Finding} → t ≡ u → c ≡ e → p ≡ q → b ≡ m → v ≡ w → f ≡ g
    → (let r : Report = record { top = t; chains = c; passed = p; boundaries = b; visible = v; findings = f } in r) ≡ record { top = u; chains = e; passed = q; boundaries = m; visible = w; findings = g }
report_with {t} {u} {c} {e} {p} {q} {b} {m} {v} {w} {f} {g} i j k l n o = cc

pub one_report : HasOneReport
one_report d i good fits check r s a b =
    let sound = sound_supplies d i good fits in
    let chains : a.chains ≡ b.chains = all_chains_once d i a.chains b.chains a.are_chains b.are_chains in
    let legal = legal_once d i check sound a.order b.order a.legal b.legal a.are_legal b.are_legal in
    let watches : a.watches ≡ b.watches = watches_once d i b.chains a.watches b.watches
    (subst (λ (cs : List Chain). AreWatches d i cs a.watches) chains a.are_watches) b.are_watches in
    let found : a.found ≡ b.found = findings_once b.legal b.watches a.found b.found
    (subst (λ (l : LegalStates). AreFindings l b.watches a.found) legal.1
    (subst (λ (ws : List NamedWatch). AreFindings a.legal ws a.found) watches a.are_found)) b.are_found in
    report_with (a.top ∙ sym b.top) (a.chain_count ∙ ap length chains ∙ sym b.chain_count) (a.passed ∙ sym b.passed)
    (boundaries_once d i sound r.boundaries s.boundaries a.boundaries b.boundaries)
    (a.visible ∙ ap (λ (o : RootOrder). map (supply_name i) (take o.visible o.roots)) legal.0 ∙ sym b.visible)
    (put_once finding_cmp finding_cmp_total b.found r.findings s.findings
    (subst (λ (fs : List Finding). IsPutInOrder finding_cmp fs r.findings) found a.findings) b.findings)
