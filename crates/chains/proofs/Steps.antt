-- One step of a walk, and of the list of walks.
use Rattle.std.proofs.Common.{◌≡◌, ℕ, ◌+◌, ◌<◌, ◌≤◌, List, [], ◌∷◌, ◌++◌, length, get_or, take, Option, Some, None, option_map, refl, sym, ap, ◌∙◌, subst, arith}
use Rattle.std.specs.List.{AllZip, enumerate_from, filter_map, cons_option}
use Rattle.std.specs.Option.{option_to_list}
use Rattle.std.proofs.lemmas.List.{append-nil, append_assoc, length-append, take_all, take_more}
use Rattle.std.proofs.lemmas.List.Elements.{filter_map-append}
use Rattle.std.proofs.lemmas.List.FromFn.{get_or-enumerate_from, length-enumerate_from}
use Rattle.std.proofs.lemmas.Option.{slice_get-get_or}
use Rattle.pw_defs.specs.declared.chains.Walk.{Walk}
use Rattle.pw_defs.specs.declared.design.Bit.{Bit}
use Rattle.pw_defs.specs.declared.design.Design.{Design}
use Rattle.pw_defs.specs.declared.design.Feeder.{Feeder}
use Rattle.pw_defs.specs.declared.design.PortBit.{PortBit}
use Rattle.design_defs.specs.Walks.{AreWalks, IsWalk, WalksEnd, feeder_at, next_of, start_at}
use Rattle.design_defs.proofs.Walking.{length_walk}

-- what was passed and any walk from here are a walk from the start
abbrev pub LeadsOn : List Bit → ℕ → List ℕ → ℕ → Type 0
LeadsOn bits start passed at = (rest : List ℕ) (end : Feeder) → IsWalk bits at rest end → IsWalk bits start (passed ++ rest) end

-- a read of a bit gives its feeder
pub feeder_read : (bits : List Bit) (at : ℕ) (d : Bit) → at < length bits → feeder_at bits at ≡ Some (get_or bits at d).feeder
feeder_read bits at d within = ap (option_map (λ (b : Bit). b.feeder)) (slice_get-get_or bits at d within)

pub leads_on : (bits : List Bit) (start : ℕ) (passed : List ℕ) (at next : ℕ) (f : Feeder) → feeder_at bits at ≡ Some f → next_of f ≡ Some next
    → LeadsOn bits start passed at → LeadsOn bits start (passed ++ at ∷ []) next
leads_on bits start passed at next f e more so_far = λ rest end walk.
    let P : List ℕ → Type 0 = λ p. IsWalk bits start p end in
    subst P (sym (append_assoc passed (at ∷ []) rest)) (so_far (at ∷ rest) end (IsWalk.goes at next f end rest e more walk))

-- a walk passes at least one bit
passes_one : (bits : List Bit) (n : ℕ) (p : List ℕ) (e : Feeder) → IsWalk bits n p e → 0 < length p
passes_one bits _ _ _ (IsWalk.ends n end e none) = omega arith
passes_one bits _ _ _ (IsWalk.goes n next f end rest e more walk) = omega arith

-- after as many steps as there are bits no walk goes on
pub no_further : (bits : List Bit) (start : ℕ) (passed : List ℕ) (at : ℕ) → WalksEnd bits → at < length bits → LeadsOn bits start passed at
    → length bits ≤ length passed → ⊥
no_further bits start passed at walks within so_far enough =
    let rest = walks at within in
    let whole = so_far rest.0 rest.1 rest.2 in
    omega (arith, length_walk bits start (passed ++ rest.0) rest.1 whole, length-append passed rest.0, passes_one bits at rest.0 rest.1 rest.2)

-- the walk of a start
abbrev pub IsWalkOf : Design → ℕ × PortBit → Walk → Type 0
IsWalkOf d s w = (w.to ≡ s.1) × IsWalk d.bits s.0 w.bits w.from

abbrev pub start_of : Design → ℕ × Bit → Option (ℕ × PortBit)
start_of d e = start_at d e.0 e.1.port

-- the walks that begin at the first n bits
abbrev pub AreFirstWalks : Design → ℕ → List Walk → Type 0
AreFirstWalks d n ws = AllZip (IsWalkOf d) (filter_map (start_of d) (take n (enumerate_from 0 d.bits))) ws

AllZip-push : {X Y : Type 0} (R : X → Y → Type 0) (xs : List X) (ys : List Y) (x : X) (y : Y) → AllZip R xs ys → R x y → AllZip R (xs ++ x ∷ []) (ys ++ y ∷ [])
AllZip-push R [] [] x y h k = (k, tt)
AllZip-push R [] (z ∷ ys) x y h k = absurd h
AllZip-push R (z ∷ xs) [] x y h k = absurd h
AllZip-push R (v ∷ xs) (w ∷ ys) x y h k = (h.0, AllZip-push R xs ys x y h.1 k)

-- the starts at one more bit
starts_more : (d : Design) (n : ℕ) (bit : Bit) → n < length d.bits → bit ≡ get_or d.bits n bit
    → filter_map (start_of d) (take (n + 1) (enumerate_from 0 d.bits)) ≡ filter_map (start_of d) (take n (enumerate_from 0 d.bits)) ++ option_to_list (start_at d n bit.port)
starts_more d n bit within is =
    let pairs = enumerate_from 0 d.bits in
    let number : 0 + n ≡ n = omega arith in
    let last : get_or pairs n (n, bit) ≡ (n, bit) = get_or-enumerate_from 0 d.bits n (n, bit) within ∙ pair (0 + n) n (get_or d.bits n bit) bit number (sym is) in
    ap (filter_map (start_of d)) (take_more pairs n (n, bit) (omega (arith, length-enumerate_from 0 d.bits)))
    ∙ filter_map-append (start_of d) (take n pairs) (get_or pairs n (n, bit) ∷ [])
    ∙ ap (λ (e : ℕ × Bit). filter_map (start_of d) (take n pairs) ++ filter_map (start_of d) (e ∷ [])) last
    ∙ ap (λ xs. filter_map (start_of d) (take n pairs) ++ xs) (one (start_at d n bit.port))
  where
    pair : (m k : ℕ) (b c : Bit) → m ≡ k → b ≡ c → (let p : ℕ × Bit = (m, b) in let q : ℕ × Bit = (k, c) in p ≡ q)
    pair m k b c e f = ap (λ i. (i, b)) e ∙ ap (λ x. (k, x)) f

    one : (o : Option (ℕ × PortBit)) → cons_option o [] ≡ option_to_list o
    one None = refl
    one (Some x) = refl

-- no walk begins at the next bit
pub walks_same : (d : Design) (n : ℕ) (bit : Bit) (ws : List Walk) → n < length d.bits → bit ≡ get_or d.bits n bit → start_at d n bit.port ≡ None
    → AreFirstWalks d n ws → AreFirstWalks d (n + 1) ws
walks_same d n bit ws within is none so_far =
    let P : List (ℕ × PortBit) → Type 0 = λ ss. AllZip (IsWalkOf d) ss ws in
    let same = starts_more d n bit within is ∙ ap (λ o. filter_map (start_of d) (take n (enumerate_from 0 d.bits)) ++ option_to_list o) none ∙ append-nil (filter_map (start_of d) (take n (enumerate_from 0 d.bits))) in
    subst P (sym same) so_far

-- the walk that begins at the next bit
pub walks_more : (d : Design) (n : ℕ) (bit : Bit) (p : PortBit) (ws : List Walk) (w : Walk) → n < length d.bits → bit ≡ get_or d.bits n bit → start_at d n bit.port ≡ Some (n, p)
    → w.to ≡ p → IsWalk d.bits n w.bits w.from → AreFirstWalks d n ws → AreFirstWalks d (n + 1) (ws ++ w ∷ [])
walks_more d n bit p ws w within is some to walk so_far =
    let P : List (ℕ × PortBit) → Type 0 = λ ss. AllZip (IsWalkOf d) ss (ws ++ w ∷ []) in
    let more = starts_more d n bit within is ∙ ap (λ o. filter_map (start_of d) (take n (enumerate_from 0 d.bits)) ++ option_to_list o) some in
    subst P (sym more) (AllZip-push (IsWalkOf d) (filter_map (start_of d) (take n (enumerate_from 0 d.bits))) ws (n, p) w so_far (to, walk))

-- past the last bit they are the walks of the design
pub walks_all : (d : Design) (n : ℕ) (ws : List Walk) → length d.bits ≤ n → AreFirstWalks d n ws → AreWalks d ws
walks_all d n ws past so_far =
    let P : List (ℕ × Bit) → Type 0 = λ ps. AllZip (IsWalkOf d) (filter_map (start_of d) ps) ws in
    subst P (take_all n (enumerate_from 0 d.bits) (omega (arith, length-enumerate_from 0 d.bits))) so_far
