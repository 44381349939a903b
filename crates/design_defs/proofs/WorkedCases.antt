-- The netlist of the two blocks has no fault: what its lines, ports and links are, case by case.
use Rattle.std.proofs.Common.{◌≡◌, ℕ, zero, suc, List, [], ◌∷◌, Option, Some, None, inl, inr, refl, sym, ap, ◌∙◌, subst}
use Rattle.std.specs.Prelude.{codes}
use Rattle.std.specs.List.{slice_get}
use Rattle.pw_defs.specs.declared.design.Body.TheVariants.{Module as ModuleBody}
use Rattle.pw_defs.specs.declared.netlist.Conn.{Conn}
use Rattle.pw_defs.specs.declared.netlist.Expr.TheVariants.{Whole}
use Rattle.pw_defs.specs.declared.netlist.Inst.{Inst}
use Rattle.pw_defs.specs.declared.netlist.Module.{Module}
use Rattle.worked_jobs.specs.Netlists.{driving, pair_top, receiving}
use Rattle.list_defs.specs.Members.{IsIn}
use Rattle.design_defs.specs.Bits.{Spot}
use Rattle.design_defs.specs.Hierarchy.{IsOfModule, Way, module_at}
use Rattle.design_defs.specs.Links.{IsLink, Link, links_in, spot_of}
use Rattle.design_defs.proofs.WorkedDesign.{in_driving, in_receiving, in_top, links_of_driving, links_of_receiving, links_of_top}
use Rattle.design_defs.proofs.WorkedHierarchy.{IsPart, bit_at, block_a, block_b, buffer_a, buffer_b, each_part, module_body, s, some_same}

-- MODULES. Where each of the three stands.
pub data IsOneModule (way : Way) (n : ℕ) (m : Module) : Type 0 where
  the_top : way ≡ [] → n ≡ 2 → m ≡ pair_top → IsOneModule way n m
  the_driving : way ≡ block_a → n ≡ 0 → m ≡ driving → IsOneModule way n m
  the_receiving : way ≡ block_b → n ≡ 1 → m ≡ receiving → IsOneModule way n m

module_is : (n k : ℕ) (m held : Module) → n ≡ k → module_at s k ≡ Some held → module_at s n ≡ Some m → m ≡ held
module_is n k m held e known there = some_same m held (sym there ∙ ap (module_at s) e ∙ known)

pub one_module : (way : Way) (n : ℕ) (m : Module) → IsOfModule s way n m → IsOneModule way n m
one_module way n m is = by (each_part way (ModuleBody n) is.body)
  where
    by : IsPart way (ModuleBody n) → IsOneModule way n m
    by (IsPart.is_top e body) = let number = module_body n 2 body in IsOneModule.the_top e number (module_is n 2 m pair_top number refl is.is_module)
    by (IsPart.is_block_a e body) = let number = module_body n 0 body in IsOneModule.the_driving e number (module_is n 0 m driving number refl is.is_module)
    by (IsPart.is_buffer_a e body) = cc
    by (IsPart.is_block_b e body) =
        let number = module_body n 1 body in IsOneModule.the_receiving e number (module_is n 1 m receiving number refl is.is_module)
    by (IsPart.is_buffer_b e body) = cc

-- what holds at each of the three holds at each module of an instance
pub at_modules : (P : Way → Module → Type 0) → P [] pair_top → P block_a driving → P block_b receiving → (way : Way) (n : ℕ) (m : Module)
    → IsOfModule s way n m → P way m
at_modules P a b c way n m is = by (one_module way n m is)
  where
    by : IsOneModule way n m → P way m
    by (IsOneModule.the_top e number f) = subst (λ x. P x m) (sym e) (subst (P []) (sym f) a)
    by (IsOneModule.the_driving e number f) = subst (λ x. P x m) (sym e) (subst (P block_a) (sym f) b)
    by (IsOneModule.the_receiving e number f) = subst (λ x. P x m) (sym e) (subst (P block_b) (sym f) c)

-- the lines that make instances
abbrev pub line_a : Inst
line_a =
    record {
      kind = codes "blka";
      name = codes "u_a";
      conns = record {
        port = codes "x";
        expr = Some
            (Whole (codes "x"));
      } ∷ record { port = codes "y"; expr = Some (Whole (codes "n")) } ∷ [];
      line = 9;
    }

abbrev pub line_b : Inst
line_b =
    record {
      kind = codes "blkb";
      name = codes "u_b";
      conns = record {
        port = codes "a";
        expr = Some
            (Whole (codes "n"));
      } ∷ record { port = codes "z"; expr = None } ∷ [];
      line = 10;
    }

abbrev pub line_o : Inst
line_o =
    record {
      kind = codes "BUF";
      name = codes "o";
      conns = record {
        port = codes "A";
        expr = Some
            (Whole (codes "x"));
      } ∷ record { port = codes "Y"; expr = Some (Whole (codes "y")) } ∷ [];
      line = 2;
    }

abbrev pub line_i : Inst
line_i =
    record {
      kind = codes "BUF";
      name = codes "i";
      conns = record {
        port = codes "A";
        expr = Some
            (Whole (codes "a"));
      } ∷ record { port = codes "Y"; expr = Some (Whole (codes "z")) } ∷ [];
      line = 5;
    }

pub one_of_one : {X : Type 0} (Q : X → Type 0) (a : X) → Q a → (x : X) → IsIn x (a ∷ []) → Q x
one_of_one Q a q x (inl e) = subst Q (sym e) q
one_of_one Q a q x (inr never) = absurd never

pub one_of_two : {X : Type 0} (Q : X → Type 0) (a b : X) → Q a → Q b → (x : X) → IsIn x (a ∷ b ∷ []) → Q x
one_of_two Q a b q r x (inl e) = subst Q (sym e) q
one_of_two Q a b q r x (inr (inl e)) = subst Q (sym e) r
one_of_two Q a b q r x (inr (inr never)) = absurd never

-- what holds of each line that makes an instance
pub at_insts : (P : Way → Module → Inst → Type 0) → P [] pair_top line_a → P [] pair_top line_b → P block_a driving line_o → P block_b receiving line_i
    → (way : Way) (n : ℕ) (m : Module) (i : Inst) → IsOfModule s way n m → IsIn i m.insts → P way m i
at_insts P a b c d way n m i is =
    at_modules (λ w x. IsIn i x.insts → P w x i) (one_of_two (P [] pair_top) line_a line_b a b i) (one_of_one (P block_a driving) line_o c i)
    (one_of_one (P block_b receiving) line_i d i) way n m is

-- what holds of each connection
pub at_conns : (P : Module → Inst → Conn → Type 0)
    → P pair_top line_a (record { port = codes "x"; expr = Some (Whole (codes "x")) })
    → P pair_top line_a (record { port = codes "y"; expr = Some (Whole (codes "n")) })
    → P pair_top line_b (record { port = codes "a"; expr = Some (Whole (codes "n")) }) → P pair_top line_b (record { port = codes "z"; expr = None })
    → P driving line_o (record { port = codes "A"; expr = Some (Whole (codes "x")) })
    → P driving line_o (record { port = codes "Y"; expr = Some (Whole (codes "y")) })
    → P receiving line_i (record { port = codes "A"; expr = Some (Whole (codes "a")) })
    → P receiving line_i (record { port = codes "Y"; expr = Some (Whole (codes "z")) })
    → (way : Way) (n : ℕ) (m : Module) (i : Inst) (c : Conn) → IsOfModule s way n m → IsIn i m.insts → IsIn c i.conns → P m i c
at_conns P p q r t u v x y way n m i c is there =
    at_insts (λ w k j. IsIn c j.conns → P k j c) (one_of_two (P pair_top line_a) _ _ p q c) (one_of_two (P pair_top line_b) _ _ r t c)
    (one_of_two (P driving line_o) _ _ u v c) (one_of_two (P receiving line_i) _ _ x y c) way n m i is there

-- LINKS. What holds of each link.
bits_of_link : (way at : Way) (l known : Link) (x : Spot) (y z : Spot) (source : Option Spot) → way ≡ at → l ≡ known → spot_of at known.fed ≡ Some y
    → spot_of at known.source ≡ Some z → spot_of way l.fed ≡ Some x → spot_of way l.source ≡ source → (x ≡ y) × (source ≡ Some z)
bits_of_link way at l known x y z source e same fed from is_fed is_from = (
  some_same x y (sym is_fed ∙ (λ i. spot_of (e i) (same i).fed) ∙ fed),
  sym is_from ∙ (λ i. spot_of (e i) (same i).source) ∙ from,
)

abbrev pub Holds : (Way → ℕ → Spot → Spot → Type 0) → Way → ℕ → Spot → Option Spot → Type 0
Holds Q way number x source = (y : Spot) × (source ≡ Some y) × Q way number x y

holds_so : (Q : Way → ℕ → Spot → Spot → Type 0) (way at : Way) (number k : ℕ) (x y z : Spot) (source : Option Spot) → way ≡ at → number ≡ k
    → (x ≡ y) × (source ≡ Some z) → Q at k y z → Holds Q way number x source
holds_so Q way at number k x y z source e f bits q =
    (z, bits.1, subst (λ w. Q w number x z) (sym e) (subst (λ n. Q at n x z) (sym f) (subst (λ b. Q at k b z) (sym bits.0) q)))

link_in_top : (Q : Way → ℕ → Spot → Spot → Type 0) → Q [] 0 (bit_at block_a (codes "x")) (bit_at [] (codes "x"))
    → Q [] 1 (bit_at [] (codes "n")) (bit_at block_a (codes "y")) → Q [] 2 (bit_at block_b (codes "a")) (bit_at [] (codes "n"))
    → (way : Way) (number : ℕ) (l : Link) (x : Spot) (source : Option Spot) → way ≡ [] → slice_get links_of_top number ≡ Some l → spot_of way l.fed ≡ Some x
    → spot_of way l.source ≡ source → Holds Q way number x source
link_in_top Q q0 q1 q2 way zero l x source e there fed from =
    holds_so Q way [] 0 0 x (bit_at block_a (codes "x")) (bit_at [] (codes "x")) source e refl
    (bits_of_link way [] l _ x (bit_at block_a (codes "x")) (bit_at [] (codes "x")) source e (some_same l _ (sym there)) refl refl fed from) q0
link_in_top Q q0 q1 q2 way (suc zero) l x source e there fed from =
    holds_so Q way [] 1 1 x (bit_at [] (codes "n")) (bit_at block_a (codes "y")) source e refl
    (bits_of_link way [] l _ x (bit_at [] (codes "n")) (bit_at block_a (codes "y")) source e (some_same l _ (sym there)) refl refl fed from) q1
link_in_top Q q0 q1 q2 way (suc (suc zero)) l x source e there fed from =
    holds_so Q way [] 2 2 x (bit_at block_b (codes "a")) (bit_at [] (codes "n")) source e refl
    (bits_of_link way [] l _ x (bit_at block_b (codes "a")) (bit_at [] (codes "n")) source e (some_same l _ (sym there)) refl refl fed from) q2
link_in_top Q q0 q1 q2 way (suc (suc (suc number))) l x source e there fed from = cc

link_in_driving : (Q : Way → ℕ → Spot → Spot → Type 0) → Q block_a 0 (bit_at buffer_a (codes "A")) (bit_at block_a (codes "x"))
    → Q block_a 1 (bit_at block_a (codes "y")) (bit_at buffer_a (codes "Y"))
    → (way : Way) (number : ℕ) (l : Link) (x : Spot) (source : Option Spot) → way ≡ block_a → slice_get links_of_driving number ≡ Some l
    → spot_of way l.fed ≡ Some x
    → spot_of way l.source ≡ source → Holds Q way number x source
link_in_driving Q q0 q1 way zero l x source e there fed from =
    holds_so Q way block_a 0 0 x (bit_at buffer_a (codes "A")) (bit_at block_a (codes "x")) source e refl
    (bits_of_link way block_a l _ x (bit_at buffer_a (codes "A")) (bit_at block_a (codes "x")) source e (some_same l _ (sym there)) refl refl fed from) q0
link_in_driving Q q0 q1 way (suc zero) l x source e there fed from =
    holds_so Q way block_a 1 1 x (bit_at block_a (codes "y")) (bit_at buffer_a (codes "Y")) source e refl
    (bits_of_link way block_a l _ x (bit_at block_a (codes "y")) (bit_at buffer_a (codes "Y")) source e (some_same l _ (sym there)) refl refl fed from) q1
link_in_driving Q q0 q1 way (suc (suc number)) l x source e there fed from = cc

link_in_receiving : (Q : Way → ℕ → Spot → Spot → Type 0) → Q block_b 0 (bit_at buffer_b (codes "A")) (bit_at block_b (codes "a"))
    → Q block_b 1 (bit_at block_b (codes "z")) (bit_at buffer_b (codes "Y"))
    → (way : Way) (number : ℕ) (l : Link) (x : Spot) (source : Option Spot) → way ≡ block_b → slice_get links_of_receiving number ≡ Some l
    → spot_of way l.fed ≡ Some x
    → spot_of way l.source ≡ source → Holds Q way number x source
link_in_receiving Q q0 q1 way zero l x source e there fed from =
    holds_so Q way block_b 0 0 x (bit_at buffer_b (codes "A")) (bit_at block_b (codes "a")) source e refl
    (bits_of_link way block_b l _ x (bit_at buffer_b (codes "A")) (bit_at block_b (codes "a")) source e (some_same l _ (sym there)) refl refl fed from) q0
link_in_receiving Q q0 q1 way (suc zero) l x source e there fed from =
    holds_so Q way block_b 1 1 x (bit_at block_b (codes "z")) (bit_at buffer_b (codes "Y")) source e refl
    (bits_of_link way block_b l _ x (bit_at block_b (codes "z")) (bit_at buffer_b (codes "Y")) source e (some_same l _ (sym there)) refl refl fed from) q1
link_in_receiving Q q0 q1 way (suc (suc number)) l x source e there fed from = cc

pub at_links : (Q : Way → ℕ → Spot → Spot → Type 0) → Q [] 0 (bit_at block_a (codes "x")) (bit_at [] (codes "x"))
    → Q [] 1 (bit_at [] (codes "n")) (bit_at block_a (codes "y"))
    → Q [] 2 (bit_at block_b (codes "a")) (bit_at [] (codes "n"))
    → Q block_a 0 (bit_at buffer_a (codes "A")) (bit_at block_a (codes "x"))
    → Q block_a 1 (bit_at block_a (codes "y")) (bit_at buffer_a (codes "Y"))
    → Q block_b 0 (bit_at buffer_b (codes "A")) (bit_at block_b (codes "a"))
    → Q block_b 1 (bit_at block_b (codes "z")) (bit_at buffer_b (codes "Y"))
    → (way : Way) (number line : ℕ) (x : Spot) (source : Option Spot) → IsLink s way number line x source → Holds Q way number x source
at_links Q a b c d e f g way number line x source k = by (one_module way k.module_number k.of_module k.is_module)
  where
    moved : (m : Module) (ls : List Link) → k.of_module ≡ m → links_in s m ≡ ls → slice_get ls number ≡ Some k.link
    moved m ls same links = subst (λ ks. slice_get ks number ≡ Some k.link) links (subst (λ y. slice_get (links_in s y) number ≡ Some k.link) same k.there)

    by : IsOneModule way k.module_number k.of_module → Holds Q way number x source
    by (IsOneModule.the_top at n same) = link_in_top Q a b c way number k.link x source at (moved pair_top links_of_top same in_top) k.fed_there k.source_there
    by (IsOneModule.the_driving at n same) =
        link_in_driving Q d e way number k.link x source at (moved driving links_of_driving same in_driving) k.fed_there k.source_there
    by (IsOneModule.the_receiving at n same) =
        link_in_receiving Q f g way number k.link x source at (moved receiving links_of_receiving same in_receiving) k.fed_there k.source_there
