-- What the order of ports by their keys says.
use Rattle.std.proofs.Common.{◌≡◌, ◌⊎◌, ℕ, ◌<◌, true, List, get_or, inl, inr, refl, sym, ap, ◌∙◌, subst, arith}
use Rattle.std.specs.Cmp.{IsTotalOrder}
use Rattle.std.specs.FinMap.{nat_cmp-IsAntisymmetric, slice_cmp-IsAntisymmetric}
use Rattle.std.specs.List.Sorted.{IsPartitionedBy}
use Rattle.std.specs.Ordering.{is_lt, nat_cmp, ordering_then}
use Rattle.std.specs.declared.cmp.Ordering.{Ordering}
use Rattle.std.specs.declared.cmp.Ordering.TheVariants.{Less, Equal, Greater}
use Rattle.std.proofs.lemmas.Bool.{cases_eq}
use Rattle.std.proofs.lemmas.Cmp.{lists_total, nat_cmp_total, on_total, ranked, then_total}
use Rattle.std.proofs.lemmas.Option.{slice_get-get_or}
use Rattle.pw_defs.specs.declared.cells.Cells.{Cells}
use Rattle.pw_defs.specs.declared.design.Body.{Body}
use Rattle.pw_defs.specs.declared.design.Body.TheVariants.{Module as ModuleBody, Cell as CellBody, Model as ModelBody}
use Rattle.pw_defs.specs.declared.model.Model.{Model}
use Rattle.pw_defs.specs.declared.netlist.Module.{Module}
use Rattle.list_defs.specs.Orders.{IsRising, name_cmp}
use Rattle.list_defs.proofs.OneList.{both_equal}
use Rattle.list_defs.proofs.Rising.{rising_at}
use Rattle.port_order.specs.declared.keys.PortNumber.{PortNumber}
use Rattle.port_order.specs.PortOrders.{body_cmp, body_key, key_cmp, key_of, port_cmp}
use Rattle.port_order.proofs.Risings.{is_less}

body_total : IsTotalOrder body_cmp
body_total = on_total body_key (then_total (on_total (λ (k : ℕ × ℕ). k.0) nat_cmp_total) (on_total (λ (k : ℕ × ℕ). k.1) nat_cmp_total))

pub key_total : IsTotalOrder key_cmp
key_total = then_total (on_total (λ (k : Body × List ℕ). k.0) body_total) (on_total (λ (k : Body × List ℕ). k.1) (lists_total nat_cmp_total))

pub port_total : (modules : List Module) (cells : Cells) (models : List Model) → IsTotalOrder (port_cmp modules cells models)
port_total modules cells models =
    then_total (on_total (key_of modules cells models) key_total) (on_total (λ (n : PortNumber). n.port) nat_cmp_total)

-- two bodies of which neither comes first are the same
same_body : (a b : Body) → body_cmp a b ≡ Equal → a ≡ b
same_body (ModuleBody m) (ModuleBody n) e = ap ModuleBody (nat_cmp-IsAntisymmetric m n e)
same_body (ModuleBody m) (CellBody n) e = cc
same_body (ModuleBody m) (ModelBody n) e = cc
same_body (CellBody m) (ModuleBody n) e = cc
same_body (CellBody m) (CellBody n) e = ap CellBody (nat_cmp-IsAntisymmetric m n e)
same_body (CellBody m) (ModelBody n) e = cc
same_body (ModelBody m) (ModuleBody n) e = cc
same_body (ModelBody m) (CellBody n) e = cc
same_body (ModelBody m) (ModelBody n) e = ap ModelBody (nat_cmp-IsAntisymmetric m n e)

-- and so are two keys
pub same_key : (a b : Body × List ℕ) → key_cmp a b ≡ Equal → a ≡ b
same_key a b equal =
    let both = both_equal (body_cmp a.0 b.0) (name_cmp a.1 b.1) equal in
    let body : a.0 ≡ b.0 = same_body a.0 b.0 both.0 in
    let name : a.1 ≡ b.1 = slice_cmp-IsAntisymmetric nat_cmp-IsAntisymmetric a.1 b.1 both.1 in
    ap (λ (own : Body). (own, a.1)) body ∙ ap (λ (own : List ℕ). (b.0, own)) name

then_less : (a b : Ordering) → ordering_then a b ≡ Less → (a ≡ Less) ⊎ ((a ≡ Equal) × (b ≡ Less))
then_less Less b e = inl refl
then_less Equal b e = inr (refl, e)
then_less Greater b e = cc

module _ (modules : List Module) (cells : Cells) (models : List Model) where
  -- a port that comes first has a key that comes first, or the same key and a lesser number
  pub less_parts : (x y : PortNumber) → port_cmp modules cells models x y ≡ Less
      → (key_cmp (key_of modules cells models x) (key_of modules cells models y) ≡ Less)
      ⊎ ((key_of modules cells models x ≡ key_of modules cells models y) × (x.port < y.port))
  less_parts x y less = elim (then_less (key_cmp (key_of modules cells models x) (key_of modules cells models y)) (nat_cmp x.port y.port) less) [
    | inl keys ↦ inl keys
    | inr both ↦ inr (same_key (key_of modules cells models x) (key_of modules cells models y) both.0, ranked x.port y.port Less (sym both.1))
  ]

  -- what comes before a port that comes before a key comes before the key
  earlier : (k : Body × List ℕ) (x y : PortNumber) → port_cmp modules cells models x y ≡ Less → key_cmp (key_of modules cells models y) k ≡ Less
      → key_cmp (key_of modules cells models x) k ≡ Less
  earlier k x y less before = elim (less_parts x y less) [
    | inl keys ↦ key_total.trans (key_of modules cells models x) (key_of modules cells models y) k keys before
    | inr both ↦ subst (λ key. key_cmp key k ≡ Less) (sym both.0) before
  ]

  -- those before a key stand in front of the others
  pub parted : (numbers : List PortNumber) → IsRising (port_cmp modules cells models) numbers → (k : Body × List ℕ)
      → IsPartitionedBy (λ n. is_lt (key_cmp (key_of modules cells models n) k)) numbers
  parted numbers rising k = λ i j d le within passes. elim (cases_eq i j) [
    | inl same ↦ subst (λ at. is_lt (key_cmp (key_of modules cells models (get_or numbers at d)) k) ≡ true) (sym same) passes
    | inr other ↦
        let x = get_or numbers i d in
        let y = get_or numbers j d in
        let here = slice_get-get_or numbers i d (omega (arith, le, within)) in
        let there = slice_get-get_or numbers j d within in
        let less = rising_at (port_cmp modules cells models) numbers rising i j x y (omega (arith, le, other)) here there in
        ap is_lt (earlier k x y less (is_less (key_cmp (key_of modules cells models y) k) passes))
  ]
