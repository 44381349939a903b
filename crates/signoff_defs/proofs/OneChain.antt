-- A design with its intent has one list of chains, and a chain one crossing.
use Rattle.std.proofs.Common.{◌≡◌, ℕ, ◌≤◌, Bool, List, sym, ap, subst, ◌∙◌, refl, arith}
use Rattle.std.specs.List.{filter_map, list_any, zip, flat_map}
use Rattle.std.proofs.lemmas.Option.{same_Some}
use Rattle.pw_defs.specs.declared.chains.Chain.{Chain}
use Rattle.pw_defs.specs.declared.chains.Element.{Element}
use Rattle.pw_defs.specs.declared.chains.Walk.{Walk}
use Rattle.pw_defs.specs.declared.design.Bit.{Bit}
use Rattle.pw_defs.specs.declared.design.Design.{Design}
use Rattle.pw_defs.specs.declared.design.Feeder.{Feeder}
use Rattle.pw_defs.specs.declared.design.Feeder.TheVariants.{Driver}
use Rattle.pw_defs.specs.declared.design.PortBit.{PortBit}
use Rattle.pw_defs.specs.declared.intent.Intent.{Intent}
use Rattle.pw_defs.specs.declared.intent.SupplySet.{SupplySet}
use Rattle.pw_defs.specs.declared.strategies.Act.{Act}
use Rattle.pw_defs.specs.declared.strategies.Candidate.{Candidate}
use Rattle.pw_defs.specs.declared.strategies.Choice.{Choice}
use Rattle.design_defs.specs.Walks.{IsWalk, AreWalks, starts}
use Rattle.design_defs.proofs.Walking.{one_walk}
use Rattle.supply_defs.specs.UnitViews.{HasRoots, view_ends}
use Rattle.supply_defs.proofs.SameSets.{one_set_of_roots}
use Rattle.domain_defs.specs.Precedence.{IsChoice}
use Rattle.domain_defs.proofs.OneChoice.{one_choice}
use Rattle.signoff_defs.specs.ChainCrossings.{IsCrossingOf, candidates_on, chosen}
use Rattle.signoff_defs.specs.Chains.{HasEndSet, IsChainOf, IsNoChain, AreChains, AreAllChains}
use Rattle.signoff_defs.specs.Crossings.{Crossing, PassedCell}
use Rattle.signoff_defs.specs.Elements.{AreElements}
use Rattle.signoff_defs.specs.Findings.{NamedWatch}
use Rattle.signoff_defs.specs.Reports.{AreWatches, named_watches}
use Rattle.signoff_defs.specs.UnitsOf.{IsUnitOf}
use Rattle.signoff_defs.specs.WalkParts.{walk_parts}
use Rattle.signoff_defs.proofs.OneElement.{elements_once}
use Rattle.list_defs.proofs.OneFound.{found_once}
use Rattle.list_defs.proofs.OneFound.{zip_once}

-- ---- walks

walk_with : {f g : Feeder} {t u : PortBit} {b c : List ℕ} → f ≡ g → t ≡ u → b ≡ c
    → (let w : Walk = record { from = f; to = t; bits = b } in w) ≡ record { from = g; to = u; bits = c }
walk_with {f} {g} {t} {u} {b} {c} same_from same_to same_bits = cc

walk_once : (bits : List Bit) (s : ℕ × PortBit) (w v : Walk) → (w.to ≡ s.1) × IsWalk bits s.0 w.bits w.from → (v.to ≡ s.1) × IsWalk bits s.0 v.bits v.from
    → w ≡ v
walk_once bits s w v a b =
    let same = one_walk bits s.0 s.0 w.bits v.bits w.from v.from refl a.1 b.1 in
    walk_with same.1 (a.0 ∙ sym b.0) same.0

pub walks_once : (d : Design) (ws vs : List Walk) → AreWalks d ws → AreWalks d vs → ws ≡ vs
walks_once d = zip_once (λ (s : ℕ × PortBit) (w : Walk). (w.to ≡ s.1) × IsWalk d.bits s.0 w.bits w.from) (walk_once d.bits) (starts d)

-- ---- chains

unit_once : (d : Design) (i : Intent) (bits : List ℕ) (u v : ℕ) → IsUnitOf d i bits u → IsUnitOf d i bits v → u ≡ v
unit_once d i bits u v p q =
    let up : v ≤ u = p.innermost v q.holds in
    let down : u ≤ v = q.innermost u p.holds in
    omega arith

pub set_once : (d : Design) (i : Intent) (u v : ℕ) (p q : PortBit) (x y : SupplySet) → u ≡ v → p ≡ q → HasEndSet d i u p x → HasEndSet d i v q y → x ≡ y
set_once d i u v p q x y same one a b =
    let moved : HasEndSet d i v q x = subst (λ (r : PortBit). HasEndSet d i v r x) one (subst (λ (n : ℕ). HasEndSet d i n p x) same a) in
    let set : moved.set ≡ b.set = same_Some moved.set b.set (sym moved.is_set ∙ b.is_set) in
    one_set_of_roots i.supplies (view_ends i.supplies i.units v) b.set x y
    (subst (λ (s : SupplySet). HasRoots i.supplies (view_ends i.supplies i.units v) s x) set moved.roots) b.roots

chain_with : {r s c e : List ℕ} {t u f g : SupplySet} {m n : ℕ} {x y : List Element} → r ≡ s → t ≡ u → c ≡ e → f ≡ g → m ≡ n → x ≡ y
    → (let k : Chain = record { receiver = r; to = t; driver = c; from = f; unit = m; elements = x } in k) ≡ record { receiver = s; to = u; driver = e; from = g; unit = n; elements = y }
chain_with {r} {s} {c} {e} {t} {u} {f} {g} {m} {n} {x} {y} a b h j k l = cc

pub same_driver : (p q : PortBit) → Driver p ≡ Driver q → p ≡ q
same_driver p q e = cc

chain_once : (d : Design) (i : Intent) (w : Walk) (x y : Chain) → IsChainOf d i w x → IsChainOf d i w y → x ≡ y
chain_once d i w x y a b =
    let unit : x.unit ≡ y.unit = unit_once d i w.bits x.unit y.unit a.unit b.unit in
    let driver : a.driver ≡ b.driver = same_driver a.driver b.driver (sym a.driven.ends ∙ b.driven.ends) in
    chain_with (a.receiver_name ∙ sym b.receiver_name) (set_once d i x.unit y.unit w.to w.to x.to y.to unit refl a.to_set b.to_set)
    (a.driver_name ∙ sym b.driver_name) (set_once d i x.unit y.unit a.driver b.driver x.from y.from unit driver a.from_set b.from_set) unit
    (elements_once d i y.unit (walk_parts d 0 w.bits) x.elements y.elements
    (subst (λ (n : ℕ). AreElements d i n (walk_parts d 0 w.bits) x.elements) unit a.elements) b.elements)

chains_once : (d : Design) (i : Intent) (ws : List Walk) (xs ys : List Chain) → AreChains d i ws xs → AreChains d i ws ys → xs ≡ ys
chains_once d i = found_once (IsChainOf d i) (IsNoChain d i) (chain_once d i) (λ w c is none. none is.driver is.driven)

-- a design with its intent has one list of chains
pub all_chains_once : (d : Design) (i : Intent) (xs ys : List Chain) → AreAllChains d i xs → AreAllChains d i ys → xs ≡ ys
all_chains_once d i xs ys a b =
    let walks : a.walks ≡ b.walks = walks_once d a.walks b.walks a.are_walks b.are_walks in
    chains_once d i b.walks xs ys (subst (λ (ws : List Walk). AreChains d i ws xs) walks a.are_chains) b.are_chains

-- ---- crossings

crossing_with : {a b r s : SupplySet} {x y : List Act} {t u : Bool} {c e : List PassedCell} → a ≡ b → r ≡ s → x ≡ y → t ≡ u → c ≡ e
    → (let k : Crossing = record { driver = a; receiver = r; strategies = x; tied = t; cells = c } in k) ≡ record { driver = b; receiver = s; strategies = y; tied = u; cells = e }
crossing_with {a} {b} {r} {s} {x} {y} {t} {u} {c} {e} p q f g h = cc

crossing_once : (chain : Chain) (x y : Crossing) → IsCrossingOf chain x → IsCrossingOf chain y → x ≡ y
crossing_once chain x y a b =
    let choices : a.choices ≡ b.choices = zip_once (λ (cs : List Candidate) (choice : Choice). IsChoice cs chain.from chain.to choice)
    (λ cs c e p q. one_choice cs chain.from chain.to c e p q) (candidates_on chain) a.choices b.choices a.are_choices b.are_choices in
    crossing_with (a.driver ∙ sym b.driver) (a.receiver ∙ sym b.receiver)
    (a.strategies ∙ ap (λ (cs : List Choice). filter_map chosen (zip (candidates_on chain) cs)) choices ∙ sym b.strategies)
    (a.tied ∙ ap (λ (cs : List Choice). list_any (λ choice. choice.tie) cs) choices ∙ sym b.tied) (a.cells ∙ sym b.cells)

-- chains have one list of watches
pub watches_once : (d : Design) (i : Intent) (chains : List Chain) (xs ys : List NamedWatch) → AreWatches d i chains xs → AreWatches d i chains ys → xs ≡ ys
watches_once d i chains xs ys a b =
    let crossings : a.crossings ≡ b.crossings = zip_once IsCrossingOf crossing_once chains a.crossings b.crossings a.are_crossings b.are_crossings in
    a.all ∙ ap (λ (cs : List Crossing). flat_map named_watches (zip chains cs)) crossings ∙ sym b.all
