-- Instances, bits and faults are in total orders that tell them apart.
use Rattle.std.proofs.Common.{◌≡◌, ℕ, zero, suc, List, [], ◌∷◌, refl, sym, ap, ◌∙◌}
use Rattle.std.specs.Cmp.{IsTotalOrder}
use Rattle.std.specs.Cmp.Lexicographic.{slice_cmp}
use Rattle.std.specs.Ordering.{nat_cmp, on, then_cmp}
use Rattle.std.specs.declared.cmp.Ordering.{Ordering}
use Rattle.std.proofs.lemmas.Cmp.{lists_total, nat_cmp_total, nat_list_cmp_total, on_total, then_total}
use Rattle.std.proofs.lemmas.List.{append_cancel_left}
use Rattle.std.proofs.lemmas.Map.Lookups.{CmpEqualImpliesEq, exact_bytes, exact_unsigned}
use Rattle.list_defs.specs.Orders.{name_cmp}
use Rattle.design_defs.specs.Bits.{Spot, spot_cmp}
use Rattle.design_defs.specs.DesignFaults.{Fault, FaultKind, fault_cmp, kind_number, place_cmp}
use Rattle.design_defs.specs.Hierarchy.{Way, path, paths, way_cmp}
use Rattle.design_defs.specs.Names.{joined}
use Rattle.list_defs.proofs.OneList.{both_equal}

-- lists are told apart where their things are
exact_lists : {X : Type 0} (cmp : X → X → Ordering) → CmpEqualImpliesEq cmp → CmpEqualImpliesEq (slice_cmp cmp)
exact_lists cmp exact [] [] e = refl
exact_lists cmp exact [] (y ∷ ys) e = cc
exact_lists cmp exact (x ∷ xs) [] e = cc
exact_lists cmp exact (x ∷ xs) (y ∷ ys) e =
    let both = both_equal (cmp x y) (slice_cmp cmp xs ys) e in
    let head : x ≡ y = exact x y both.0 in
    let rest : xs ≡ ys = exact_lists cmp exact xs ys both.1 in
    cc

-- a path tells the last name of a way from the rest
last_name : (outer name other : List ℕ) → joined outer name ≡ joined outer other → name ≡ other
last_name [] name other e = e
last_name (c ∷ cs) name other e = let rest : 47 ∷ name ≡ 47 ∷ other = append_cancel_left (c ∷ cs) (47 ∷ name) (47 ∷ other) e in cc

-- the paths of an instance and of those that it is inside tell it from others
same_way : (v w : Way) → paths v ≡ paths w → v ≡ w
same_way [] [] e = refl
same_way [] (n ∷ ns) e = cc
same_way (n ∷ ns) [] e = cc
same_way (n ∷ ns) (m ∷ ms) e =
    let outer : ns ≡ ms = same_way ns ms cc in
    let paths_same : joined (path ns) n ≡ joined (path ms) m = cc in
    let path_same : path ms ≡ path ns = ap path (sym outer) in
    let moved : joined (path ns) n ≡ joined (path ns) m = paths_same ∙ ap (λ p. joined p m) path_same in
    let name : n ≡ m = last_name (path ns) n m moved in
    cc

pub way_total : IsTotalOrder way_cmp
way_total = on_total paths (lists_total nat_list_cmp_total)

pub way_exact : CmpEqualImpliesEq way_cmp
way_exact v w e = same_way v w (exact_lists name_cmp exact_bytes (paths v) (paths w) e)

pub spot_total : IsTotalOrder spot_cmp
spot_total =
    then_total (on_total (λ (x : Spot). x.way) way_total) (then_total (on_total (λ (x : Spot). x.net) nat_list_cmp_total)
    (on_total (λ (x : Spot). x.place) nat_cmp_total))

pub spot_of_parts : (x y : Spot) → x.way ≡ y.way → x.net ≡ y.net → x.place ≡ y.place → x ≡ y
spot_of_parts x y p q r = λ i. record { way = p i; net = q i; place = r i }

pub spot_exact : CmpEqualImpliesEq spot_cmp
spot_exact x y e =
    let ways = both_equal (way_cmp x.way y.way) (then_cmp (on (λ (s : Spot). s.net) name_cmp) (on (λ (s : Spot). s.place) nat_cmp) x y) e in
    let nets = both_equal (name_cmp x.net y.net) (nat_cmp x.place y.place) ways.1 in
    spot_of_parts x y (way_exact x.way y.way ways.0) (exact_bytes x.net y.net nets.0) (exact_unsigned x.place y.place nets.1)

pub place_total : IsTotalOrder place_cmp
place_total = then_total (on_total (λ (x : Way × ℕ). x.0) way_total) (on_total (λ (x : Way × ℕ). x.1) nat_cmp_total)

pub fault_total : IsTotalOrder fault_cmp
fault_total =
    then_total (on_total (λ (f : Fault). kind_number f.kind) nat_cmp_total)
    (then_total (on_total (λ (f : Fault). f.way) way_total)
    (then_total (on_total (λ (f : Fault). f.module_number) nat_cmp_total)
    (then_total (on_total (λ (f : Fault). f.line) nat_cmp_total)
    (on_total (λ (f : Fault). f.name) nat_list_cmp_total))))

-- the kind with a number
kind_at : ℕ → FaultKind
kind_at zero = FaultKind.module_twice
kind_at (suc zero) = FaultKind.port_mismatch
kind_at (suc (suc zero)) = FaultKind.recursion
kind_at (suc (suc (suc zero))) = FaultKind.unknown_type
kind_at (suc (suc (suc (suc zero)))) = FaultKind.size
kind_at (suc (suc (suc (suc (suc zero))))) = FaultKind.unknown_port
kind_at (suc (suc (suc (suc (suc (suc zero)))))) = FaultKind.wrong_width
kind_at (suc (suc (suc (suc (suc (suc (suc zero))))))) = FaultKind.path_twice
kind_at (suc (suc (suc (suc (suc (suc (suc (suc zero)))))))) = FaultKind.multi_driven
kind_at (suc (suc (suc (suc (suc (suc (suc (suc (suc n))))))))) = FaultKind.wire_loop

number_of_kind : (k : FaultKind) → kind_at (kind_number k) ≡ k
unfolding kind_at
number_of_kind FaultKind.module_twice = refl
number_of_kind FaultKind.port_mismatch = refl
number_of_kind FaultKind.recursion = refl
number_of_kind FaultKind.unknown_type = refl
number_of_kind FaultKind.size = refl
number_of_kind FaultKind.unknown_port = refl
number_of_kind FaultKind.wrong_width = refl
number_of_kind FaultKind.path_twice = refl
number_of_kind FaultKind.multi_driven = refl
number_of_kind FaultKind.wire_loop = refl

fault_of_parts : (f g : Fault) → f.kind ≡ g.kind → f.way ≡ g.way → f.module_number ≡ g.module_number → f.line ≡ g.line → f.name ≡ g.name → f ≡ g
fault_of_parts f g p q r s t = λ i. record { kind = p i; way = q i; module_number = r i; line = s i; name = t i }

pub fault_exact : CmpEqualImpliesEq fault_cmp
fault_exact f g e =
    let by_name = on (λ (x : Fault). x.name) name_cmp in
    let by_line = then_cmp (on (λ (x : Fault). x.line) nat_cmp) by_name in
    let by_module = then_cmp (on (λ (x : Fault). x.module_number) nat_cmp) by_line in
    let by_way = then_cmp (on (λ (x : Fault). x.way) way_cmp) by_module in
    let kinds = both_equal (nat_cmp (kind_number f.kind) (kind_number g.kind)) (by_way f g) e in
    let ways = both_equal (way_cmp f.way g.way) (by_module f g) kinds.1 in
    let modules = both_equal (nat_cmp f.module_number g.module_number) (by_line f g) ways.1 in
    let lines = both_equal (nat_cmp f.line g.line) (by_name f g) modules.1 in
    let numbers : kind_number f.kind ≡ kind_number g.kind = exact_unsigned (kind_number f.kind) (kind_number g.kind) kinds.0 in
    let kind : f.kind ≡ g.kind = sym (number_of_kind f.kind) ∙ ap kind_at numbers ∙ number_of_kind g.kind in
    fault_of_parts f g kind (way_exact f.way g.way ways.0) (exact_unsigned f.module_number g.module_number modules.0) (exact_unsigned f.line g.line lines.0)
    (exact_bytes f.name g.name lines.1)
