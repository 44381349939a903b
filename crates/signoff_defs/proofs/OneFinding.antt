-- Watches have one list of findings.
use Rattle.std.proofs.Common.{◌≡◌, ℕ, Bool, List, Option, Some, None, sym, ap, ◌∙◌, refl}
use Rattle.std.specs.FinMap.{IsAntisymmetric, nat_cmp-IsAntisymmetric, slice_cmp-IsAntisymmetric}
use Rattle.pw_defs.specs.Values.{value_cmp, state_cmp}
use Rattle.pw_defs.specs.declared.chains.Kind.{Kind}
use Rattle.pw_defs.specs.declared.chains.Sense.{Sense}
use Rattle.pw_defs.specs.declared.chains.Sense.TheVariants.{WhenSome, WhenNone, Always}
use Rattle.pw_defs.specs.declared.conditions.Cond.{Cond}
use Rattle.pw_defs.specs.declared.report.Finding.{Finding}
use Rattle.pw_defs.specs.declared.values.State.{State}
use Rattle.pw_defs.specs.declared.values.Value.{Value}
use Rattle.pw_defs.specs.declared.values.Value.TheVariants.{Off, On}
use Rattle.list_defs.proofs.OneList.{one_least}
use Rattle.supply_defs.proofs.TotalOrders.{state_cmp_total}
use Rattle.signoff_defs.specs.Witnesses.{LegalStates, IsVisiblePart, IsWitness}
use Rattle.signoff_defs.specs.Findings.{NamedWatch, IsFindingOf, IsQuiet, AreFindings}
use Rattle.list_defs.proofs.OneFound.{found_once}

value_cmp_antisymmetric : IsAntisymmetric value_cmp
value_cmp_antisymmetric Off Off e = refl
value_cmp_antisymmetric Off (On b) e = cc
value_cmp_antisymmetric (On a) Off e = cc
value_cmp_antisymmetric (On a) (On b) e = ap (λ (n : ℕ). On n) (nat_cmp-IsAntisymmetric a b e)

-- a watch has one witness
pub witness_once : (legal : LegalStates) (sense : Sense) (cond : Cond) (v w : Option State) → IsWitness legal sense cond v → IsWitness legal sense cond w
    → v ≡ w
witness_once legal WhenSome cond None w p q = absurd p
witness_once legal WhenSome cond (Some s) None p q = absurd q
witness_once legal WhenSome cond (Some s) (Some t) p q =
    let same : s.values ≡ t.values = one_least state_cmp state_cmp_total (slice_cmp-IsAntisymmetric value_cmp_antisymmetric)
    (IsVisiblePart legal cond) s.values t.values p q in
    ap (λ (v : List Value). let x : State = record { values = v } in Some x) same
witness_once legal WhenNone cond v w p q = p ∙ sym q
witness_once legal Always cond v w p q = p ∙ sym q

finding_with : {k l : Kind} {r s c e : List ℕ} {a b : Bool} {v w : Option State} → k ≡ l → r ≡ s → c ≡ e → a ≡ b → v ≡ w
    → (let f : Finding = record { kind = k; receiver = r; driver = c; forced = a; witness = v } in f) ≡ record { kind = l; receiver = s; driver = e; forced = b; witness = w }
finding_with {k} {l} {r} {s} {c} {e} {a} {b} {v} {w} p q t u x = cc

-- a watch has one finding
pub finding_once : (legal : LegalStates) (w : NamedWatch) (f g : Finding) → IsFindingOf legal w f → IsFindingOf legal w g → f ≡ g
finding_once legal w f g a b = finding_with (a.kind ∙ sym b.kind) (a.receiver ∙ sym b.receiver) (a.driver ∙ sym b.driver) (a.forced ∙ sym b.forced)
    (witness_once legal w.watch.sense w.watch.cond f.witness g.witness a.witness b.witness)

-- watches have one list of findings
pub findings_once : (legal : LegalStates) (ws : List NamedWatch) (fs gs : List Finding) → AreFindings legal ws fs → AreFindings legal ws gs → fs ≡ gs
findings_once legal = found_once (IsFindingOf legal) (IsQuiet legal) (λ w f g. finding_once legal w f g) (λ w f is quiet. quiet is.raised)
