-- The least fault of a kind is the first of all, where no kind before it has a fault.
use Rattle.std.proofs.Common.{◌≡◌, ◌≢◌, ℕ, ◌<◌, ◌≤◌, ◌⊎◌, inl, inr, refl, sym, subst, arith}
use Rattle.std.specs.Cmp.{nat_cmp_is}
use Rattle.std.proofs.lemmas.Bool.{cases_lt}
use Rattle.std.specs.Ordering.{nat_cmp}
use Rattle.std.specs.declared.cmp.Ordering.{Ordering}
use Rattle.std.specs.declared.cmp.Ordering.TheVariants.{Less, Equal, Greater}
use Rattle.list_defs.specs.Orders.{IsLeast}
use Rattle.pw_defs.specs.declared.netlist.Module.{Module}
use Rattle.design_defs.specs.DesignFaults.{Fault, FaultKind, IsFault, fault_cmp, kind_number, of_module, HasNoneBefore}
use Rattle.design_defs.specs.Hierarchy.{Sources}
use Rattle.design_defs.proofs.BitOrders.{fault_total}
use Rattle.list_defs.proofs.Rising.{not_before_itself}

pub same_or_less : (a b : ℕ) → a ≤ b → (a ≡ b) ⊎ (a < b)
same_or_less a b le = elim (cases_lt a b) [ inl less ↦ inr less | inr more ↦ inl (omega arith) ]

pub nat_cmp_same : (a b : ℕ) → a ≡ b → nat_cmp a b ≡ Equal
nat_cmp_same a b e = sym (nat_cmp_is a b Equal e)

nat_cmp_more : (a b : ℕ) → b < a → nat_cmp a b ≡ Greater
nat_cmp_more a b e = sym (nat_cmp_is a b Greater e)

-- what says Greater does not say Less
pub not_less : (o : Ordering) → o ≡ Greater → o ≢ Less
not_less o greater less = cc

-- a fault of a later kind comes later
pub later_kind : (f g : Fault) → kind_number f.kind < kind_number g.kind → fault_cmp g f ≢ Less
later_kind f g later = not_less (fault_cmp g f) (rw (nat_cmp_more (kind_number g.kind) (kind_number f.kind) later) refl)

-- of the faults of a kind of modules by themselves, that of a later module comes later
later_module : (kind : FaultKind) (n k : ℕ) (m other : Module) → n ≤ k → (n ≡ k → m ≡ other) → fault_cmp (of_module kind k other) (of_module kind n m) ≢ Less
later_module kind n k m other le same = by (same_or_less n k le)
  where
    by : (n ≡ k) ⊎ (n < k) → fault_cmp (of_module kind k other) (of_module kind n m) ≢ Less
    by (inl e) =
        let whole : of_module kind k other ≡ of_module kind n m = λ i. of_module kind (sym e i) (sym (same e) i) in
        subst (λ g. fault_cmp g (of_module kind n m) ≢ Less) (sym whole) (not_before_itself fault_cmp fault_total (of_module kind n m))
    by (inr less) =
        not_less (fault_cmp (of_module kind k other) (of_module kind n m))
        (rw (nat_cmp_same (kind_number kind) (kind_number kind) refl, nat_cmp_more k n less) refl)

-- a fault of a module by itself, of the module of a number not before this one
pub record IsFromModule (s : Sources) (kind : FaultKind) (n : ℕ) (m : Module) (g : Fault) : Type 0 where
  pub number : ℕ
  pub other : Module
  pub is : g ≡ of_module kind number other
  pub later : n ≤ number
  pub same : n ≡ number → m ≡ other

pub least_of_modules : (s : Sources) (kind : FaultKind) (n : ℕ) (m : Module) → HasNoneBefore kind s → IsFault s (of_module kind n m)
    → ((g : Fault) → IsFault s g → kind_number g.kind ≡ kind_number kind → IsFromModule s kind n m g) → IsLeast fault_cmp (IsFault s) (of_module kind n m)
least_of_modules s kind n m none fault from = record { holds = fault; least = least }
  where
    least : (g : Fault) → IsFault s g → fault_cmp g (of_module kind n m) ≢ Less
    least g is = by (same_or_less (kind_number kind) (kind_number g.kind) (none g is))
      where
        by : (kind_number kind ≡ kind_number g.kind) ⊎ (kind_number kind < kind_number g.kind) → fault_cmp g (of_module kind n m) ≢ Less
        by (inl e) =
            let one = from g is (sym e) in
            subst (λ x. fault_cmp x (of_module kind n m) ≢ Less) (sym one.is) (later_module kind n one.number m one.other one.later one.same)
        by (inr later) = later_kind (of_module kind n m) g later
