-- Candidates have one view by roots, and a face one list of them.
use Rattle.std.proofs.Common.{◌≡◌, ℕ, Bool, List, Option, Some, sym, ap, subst, ◌∙◌, refl}
use Rattle.std.specs.List.{AllZip}
use Rattle.pw_defs.specs.declared.design.Design.{Design}
use Rattle.pw_defs.specs.declared.intent.Face.{Face}
use Rattle.pw_defs.specs.declared.intent.Intent.{Intent}
use Rattle.pw_defs.specs.declared.intent.SupplySet.{SupplySet}
use Rattle.pw_defs.specs.declared.strategies.Act.{Act}
use Rattle.pw_defs.specs.declared.strategies.Candidate.{Candidate}
use Rattle.pw_defs.specs.declared.strategies.Filter.{Filter}
use Rattle.pw_defs.specs.declared.strategies.Tool.{Tool}
use Rattle.pw_defs.specs.declared.supplies.Supply.{Supply}
use Rattle.list_defs.specs.Orders.{IsPutInOrder}
use Rattle.supply_defs.specs.UnitViews.{HasRoots}
use Rattle.supply_defs.proofs.SameSets.{one_set_of_roots}
use Rattle.domain_defs.specs.Precedence.{AreCandidates, candidate_cmp}
use Rattle.domain_defs.proofs.OneChoice.{one_list_of_candidates, candidate_cmp_total}
use Rattle.signoff_defs.specs.Seen.{HasRootsIfStated, IsSeenFilter, IsSeenAct, IsSeenCandidate}
use Rattle.list_defs.proofs.InOrder.{put_once}
use Rattle.list_defs.proofs.OneFound.{zip_once}

-- ---- views by roots

pub stated_once : (supplies : List Supply) (stop : List ℕ) (r s x y : Option SupplySet) → r ≡ s → HasRootsIfStated supplies stop r x
    → HasRootsIfStated supplies stop s y → x ≡ y
stated_once supplies stop _ _ _ _ same HasRootsIfStated.unstated HasRootsIfStated.unstated = refl
stated_once supplies stop _ _ _ _ same HasRootsIfStated.unstated (HasRootsIfStated.stated set roots is) = cc
stated_once supplies stop _ _ _ _ same (HasRootsIfStated.stated set roots is) HasRootsIfStated.unstated = cc
stated_once supplies stop _ _ _ _ same (HasRootsIfStated.stated set roots is) (HasRootsIfStated.stated other others also) =
    let one : set ≡ other = cc in
    ap Some (one_set_of_roots supplies stop other roots others (subst (λ (s : SupplySet). HasRoots supplies stop s roots) one is) also)

filter_with : {a b c e : Option SupplySet} {p q : Bool} → a ≡ b → c ≡ e → p ≡ q
    → (let f : Filter = record { source = a; sink = c; diff = p } in f) ≡ record { source = b; sink = e; diff = q }
filter_with {a} {b} {c} {e} {p} {q} x y z = cc

filter_once : (supplies : List Supply) (stop : List ℕ) (filter f g : Filter) → IsSeenFilter supplies stop filter f → IsSeenFilter supplies stop filter g → f ≡ g
filter_once supplies stop filter f g p q = filter_with
    (stated_once supplies stop filter.source filter.source f.source g.source refl p.source q.source)
    (stated_once supplies stop filter.sink filter.sink f.sink g.sink refl p.sink q.sink) (p.diff ∙ sym q.diff)

act_once : (supplies : List Supply) (stop : List ℕ) (a b x y : Act) → a ≡ b → IsSeenAct supplies stop a x → IsSeenAct supplies stop b y → x ≡ y
act_once supplies stop _ _ _ _ same (IsSeenAct.isolates mode supply seen is) (IsSeenAct.isolates other its found also) =
    let one : supply ≡ its = cc in
    let sets : seen ≡ found = stated_once supplies stop supply its seen found one is also in
    cc
act_once supplies stop _ _ _ _ same (IsSeenAct.isolates mode supply seen is) (IsSeenAct.shifts other up down threshold input output i o also too) = cc
act_once supplies stop _ _ _ _ same (IsSeenAct.shifts mode up down threshold input output i o is too) (IsSeenAct.isolates other its found also) = cc
act_once supplies stop _ _ _ _ same (IsSeenAct.shifts mode up down threshold input output i o is more)
    (IsSeenAct.shifts mode' up' down' threshold' input' output' i' o' is' more') =
    let inputs : input ≡ input' = cc in
    let outputs : output ≡ output' = cc in
    let ins : i ≡ i' = stated_once supplies stop input input' i i' inputs is is' in
    let outs : o ≡ o' = stated_once supplies stop output output' o o' outputs more more' in
    cc

candidate_with : {c e : ℕ} {f g : Filter} {a b : Act} → c ≡ e → f ≡ g → a ≡ b
    → (let k : Candidate = record { class = c; filter = f; act = a } in k) ≡ record { class = e; filter = g; act = b }
candidate_with {c} {e} {f} {g} {a} {b} x y z = cc

candidate_once : (supplies : List Supply) (stop : List ℕ) (c x y : Candidate) → IsSeenCandidate supplies stop c x → IsSeenCandidate supplies stop c y → x ≡ y
candidate_once supplies stop c x y p q = candidate_with (p.class ∙ sym q.class) (filter_once supplies stop c.filter x.filter y.filter p.filter q.filter)
    (act_once supplies stop c.act c.act x.act y.act refl p.act q.act)

pub seen_once : (supplies : List Supply) (stop : List ℕ) (cs xs ys : List Candidate) → AllZip (IsSeenCandidate supplies stop) cs xs
    → AllZip (IsSeenCandidate supplies stop) cs ys → xs ≡ ys
seen_once supplies stop = zip_once (IsSeenCandidate supplies stop) (candidate_once supplies stop)

-- ---- candidates at a face

-- a face has one list of candidates for a tool
pub candidates_once : (d : Design) (i : Intent) (face : Face) (tool : Tool) (xs ys : List Candidate) → AreCandidates d i face tool xs
    → AreCandidates d i face tool ys → xs ≡ ys
candidates_once d i face tool xs ys p q =
    let made : p.0 ≡ q.0 = one_list_of_candidates d i.domains face tool i.strategies p.0 q.0 p.1 q.1 in
    put_once candidate_cmp candidate_cmp_total q.0 xs ys (subst (λ (cs : List Candidate). IsPutInOrder candidate_cmp cs xs) made p.2) q.2
