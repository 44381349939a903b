-- Names that are apart in each body keep all joined names apart.
use Rattle.std.proofs.Common.{◌≡◌, ◌≢◌, ℕ, ◌<◌, List, [], ◌∷◌, ◌++◌, Option, Some, option_map, option_and_then, slice_get, refl, sym, ap, ◌∙◌, subst, arith, append_assoc}
use Rattle.std.specs.Prelude.{decimal}
use Rattle.std.proofs.lemmas.Fmt.{decimal_injective}
use Rattle.std.proofs.lemmas.List.{append-nil, append_cancel_right}
use Rattle.std.proofs.lemmas.Option.{option_and_then_some, same_Some, slice_get-map}
use Rattle.pw_defs.specs.declared.design.Body.{Body}
use Rattle.pw_defs.specs.declared.netlist.Inst.{Inst}
use Rattle.pw_defs.specs.declared.netlist.Module.{Module}
use Rattle.pw_defs.specs.declared.netlist.Port.{Port}
use Rattle.list_defs.specs.Members.{IsIn}
use Rattle.list_defs.proofs.Members.{IsIn-map, IsIn-slice_get}
use Rattle.list_defs.proofs.NameLemmas.{place_of-own}
use Rattle.design_defs.specs.DesignFaults.{HasPortAt, HasThingName, Thing}
use Rattle.design_defs.specs.Hierarchy.{Sources, Way, body_at, body_inside, path, ports_in, AreNamedInsts}
use Rattle.design_defs.specs.Names.{joined}
use Rattle.design_defs.specs.Ranges.{bit_name, index_at, width}
use Rattle.design_defs.proofs.Lookups.{at_outer, inside_by}
use Rattle.net_instances.specs.Ways.{AreNamed}
use Rattle.net_names.specs.Apart.{AreAllApart, AreApart, HasOwnNames, IsSmall, inst_names, insts_in, names_or_none, port_names}
use Rattle.net_names.proofs.Splits.{IsSplit, index_few, index_once, split}

-- WHAT stands in a body: an instance, a port, or a bit of a vector port
pub data Part : Type 0 where
  instance : List ℕ → Part
  port : ℕ → Part
  vector_bit : ℕ → ℕ → Part

abbrev thing_at : Way → Part → Thing
thing_at way (Part.instance name) = Thing.instance (name ∷ way)
thing_at way (Part.port number) = Thing.port way number
thing_at way (Part.vector_bit number place) = Thing.vector_bit way number place

-- the body has this port under this number
record IsPort (s : Sources) (body : Body) (number : ℕ) (p : Port) : Type 0 where
  pub ports : List Port
  pub are : ports_in s body ≡ Some ports
  pub at : slice_get ports number ≡ Some p

-- the text behind the bracket of a bit's name
abbrev behind : ℕ × ℕ → ℕ → List ℕ
behind range place = decimal (index_at range place) ++ 93 ∷ []

bit_text : (name : List ℕ) (range : ℕ × ℕ) (place : ℕ) → bit_name name (Some range) place ≡ name ++ 91 ∷ behind range place
bit_text name range place = append_assoc name (91 ∷ decimal (index_at range place)) (93 ∷ [])

-- what stands in a body, with its name there
data HasName (s : Sources) (body : Body) : Part → List ℕ → Type 0 where
  instance : (name : List ℕ) (inner : Body) → body_inside s name body ≡ Some inner → HasName s body (Part.instance name) name
  port : (number : ℕ) (p : Port) → IsPort s body number p → HasName s body (Part.port number) p.name
  vector_bit : (number : ℕ) (p : Port) (range : ℕ × ℕ) (place : ℕ) → IsPort s body number p → p.range ≡ Some range → place < width (Some range)
      → HasName s body (Part.vector_bit number place) (p.name ++ 91 ∷ behind range place)

-- TEXTS of names that lead down, and of the name at their end
abbrev text : List (List ℕ) → List ℕ → List ℕ
text [] last = last
text (name ∷ names) last = name ++ 47 ∷ text names last

-- what is below a body behind these names
abbrev pub down : Sources → Body → List (List ℕ) → Option Body
down s body [] = Some body
down s body (name ∷ names) = option_and_then (λ b. down s b names) (body_inside s name body)

-- the names of a way from the outermost on, with more behind them
abbrev pub onto : Way → List (List ℕ) → List (List ℕ)
onto [] names = names
onto (name ∷ outer) names = onto outer (name ∷ names)

onto_again : (way : Way) (names more : List (List ℕ)) → onto (onto way names) more ≡ onto names (way ++ more)
onto_again [] names more = refl
onto_again (name ∷ outer) names more = onto_again outer (name ∷ names) more

one_way : (v w : Way) → onto v [] ≡ onto w [] → v ≡ w
one_way v w e =
    sym (append-nil v) ∙ sym (onto_again v [] []) ∙ ap (λ x. onto x []) e ∙ onto_again w [] [] ∙ append-nil w

joined_more : (p name more : List ℕ) → name ≢ [] → joined p (name ++ 47 ∷ more) ≡ joined (joined p name) more
joined_more [] [] more some = absurd (some refl)
joined_more [] (c ∷ name) more some = refl
joined_more (d ∷ p) name more some = sym (append_assoc (d ∷ p) (47 ∷ name) (47 ∷ more))

text_onto : (way : Way) (names : List (List ℕ)) (last : List ℕ) → AreNamed way → text (onto way names) last ≡ joined (path way) (text names last)
text_onto [] names last named = refl
text_onto (name ∷ outer) names last named =
    text_onto outer (name ∷ names) last named.1 ∙ joined_more (path outer) name (text names last) named.0

-- the body inside that the first of some names leads to
record IsSteppedDown (s : Sources) (body : Body) (name : List ℕ) (names : List (List ℕ)) (end : Body) : Type 0 where
  pub inner : Body
  pub inside : body_inside s name body ≡ Some inner
  pub rest : down s inner names ≡ Some end

step_down : (s : Sources) (body end : Body) (name : List ℕ) (names : List (List ℕ)) → down s body (name ∷ names) ≡ Some end → IsSteppedDown s body name names end
step_down s body end name names e =
    option_and_then_some (λ b. down s b names) (body_inside s name body) end e (λ inner inside rest. record { inner = inner; inside = inside; rest = rest })

-- the names of a way lead down from the top
pub record IsBelowTop (s : Sources) (names : List (List ℕ)) (end : Body) : Type 0 where
  pub top : Body
  pub is_top : body_at s [] ≡ Some top
  pub leads : down s top names ≡ Some end

pub below_top : (s : Sources) (way : Way) (names : List (List ℕ)) (body end : Body) → body_at s way ≡ Some body → down s body names ≡ Some end
    → IsBelowTop s (onto way names) end
below_top s [] names body end there leads = record { top = body; is_top = there; leads = leads }
below_top s (name ∷ outer) names body end there leads =
    option_and_then_some (body_inside s name) (body_at s outer) body there
    (λ b is inside. below_top s outer (name ∷ names) b end is (ap (option_and_then (λ c. down s c names)) inside ∙ leads))

pub named_way : (s : Sources) → AreNamedInsts s → (way : Way) (body : Body) → body_at s way ≡ Some body → AreNamed way
named_way s named [] body e = tt
named_way s named (name ∷ outer) body e =
    let above = at_outer s name outer body e in
    let by = above.2 in
    ((λ empty. named by.number by.of_module by.inst by.is_module by.is_line (sym by.is_name ∙ empty)), named_way s named outer above.0 above.1)

module _ (s : Sources) (apart : AreAllApart s) (named : AreNamedInsts s) where
  -- the names of a body are apart
  record IsBodyApart (body : Body) : Type 0 where
    pub ports : List Port
    pub are : ports_in s body ≡ Some ports
    pub names : AreApart (insts_in s body) ports

  inst_of_body : (name : List ℕ) (body inner : Body) → body_inside s name body ≡ Some inner → IsIn name (insts_in s body)
  inst_of_body name body inner inside =
      let by = inside_by s name body inner inside in
      let same : inst_names by.of_module ≡ insts_in s body = sym (ap (insts_in s) by.is_outer ∙ ap names_or_none by.is_module) in
      let one : IsIn by.inst.name (inst_names by.of_module) = IsIn-map (λ (i : Inst). i.name) by.inst by.of_module.insts by.is_line in
      subst (λ n. IsIn n (insts_in s body)) (sym by.is_name) (subst (IsIn by.inst.name) same one)

  with_inst : (name : List ℕ) (body inner : Body) → body_inside s name body ≡ Some inner → IsBodyApart body
  with_inst name body inner inside =
      let by = inside_by s name body inner inside in
      let are : ports_in s body ≡ Some by.of_module.ports = ap (ports_in s) by.is_outer ∙ ap (option_map (λ (m : Module). m.ports)) by.is_module in
      record { ports = by.of_module.ports; are = are; names = apart body by.of_module.ports are }

  with_port : (body : Body) (number : ℕ) (p : Port) → IsPort s body number p → IsBodyApart body
  with_port body number p is = record { ports = is.ports; are = is.are; names = apart body is.ports is.are }

  body_apart : (body : Body) (x : Part) (name : List ℕ) → HasName s body x name → IsBodyApart body
  body_apart body _ _ (HasName.instance name inner inside) = with_inst name body inner inside
  body_apart body _ _ (HasName.port number p is) = with_port body number p is
  body_apart body _ _ (HasName.vector_bit number p range place is ranged within) = with_port body number p is

  -- ports of a body by their numbers
  there : (body : Body) (a : IsBodyApart body) (number : ℕ) (p : Port) → IsPort s body number p → slice_get a.ports number ≡ Some p
  there body a number p is =
      ap (λ (ps : List Port). slice_get ps number) (same_Some a.ports is.ports (sym a.are ∙ is.are)) ∙ is.at

  one_of : (body : Body) (a : IsBodyApart body) (number : ℕ) (p : Port) → IsPort s body number p → IsIn p a.ports
  one_of body a number p is = IsIn-slice_get a.ports number p (there body a number p is)

  same_number : (body : Body) (a : IsBodyApart body) (n m : ℕ) (p q : Port) → IsPort s body n p → IsPort s body m q → p.name ≡ q.name → n ≡ m
  same_number body a n m p q is_p is_q same =
      let names = port_names a.ports in
      let p_name : slice_get names n ≡ Some p.name = slice_get-map (λ (x : Port). x.name) a.ports n ∙ ap (option_map (λ (x : Port). x.name)) (there body a n p is_p) in
      let q_name : slice_get names m ≡ Some p.name =
      slice_get-map (λ (x : Port). x.name) a.ports m ∙ ap (option_map (λ (x : Port). x.name)) (there body a m q is_q) ∙ ap Some (sym same) in
      same_Some n m (sym (place_of-own p.name names n a.names.ports_differ p_name) ∙ place_of-own p.name names m a.names.ports_differ q_name)

  -- bits of one name
  same_place : (body : Body) (a : IsBodyApart body) (p : Port) (range : ℕ × ℕ) (i j : ℕ) → IsIn p a.ports → p.range ≡ Some range → i < width (Some range) → j < width (Some range)
      → behind range i ≡ behind range j → i ≡ j
  same_place body a p range i j one ranged in_i in_j same =
      let ends : IsSmall (Some range) = subst IsSmall ranged (a.names.small p one) in
      let digits : decimal (index_at range i) ≡ decimal (index_at range j) = append_cancel_right (decimal (index_at range i)) (decimal (index_at range j)) (93 ∷ []) same in
      index_once range i j in_i in_j
      (decimal_injective (index_at range i) (index_at range j) (index_few range i ends.0 ends.1 in_i) (index_few range j ends.0 ends.1 in_j) digits)

  one_bit : (body : Body) (a : IsBodyApart body) (n m : ℕ) (p q : Port) (r t : ℕ × ℕ) (i j : ℕ) → IsPort s body n p → IsPort s body m q → p.range ≡ Some r → q.range ≡ Some t
      → i < width (Some r) → j < width (Some t) → p.name ≡ q.name → behind r i ≡ behind t j → Part.vector_bit n i ≡ Part.vector_bit m j
  one_bit body a n m p q r t i j is_p is_q p_range q_range in_p in_q names digits =
      let number : n ≡ m = same_number body a n m p q is_p is_q names in
      let port : p ≡ q = same_Some p q (sym (there body a n p is_p) ∙ ap (slice_get a.ports) number ∙ there body a m q is_q) in
      let ranges : t ≡ r = same_Some t r (sym q_range ∙ ap (λ (x : Port). x.range) (sym port) ∙ p_range) in
      let in_r : j < width (Some r) = subst (λ (x : ℕ × ℕ). j < width (Some x)) ranges in_q in
      let texts : behind r i ≡ behind r j = digits ∙ ap (λ (x : ℕ × ℕ). behind x j) ranges in
      let place : i ≡ j = same_place body a p r i j (one_of body a n p is_p) p_range in_p in_r texts in
      ap (λ (k : ℕ). Part.vector_bit k i) number ∙ ap (Part.vector_bit m) place

  bits_apart : (body : Body) (a : IsBodyApart body) (n m : ℕ) (p q : Port) (r t : ℕ × ℕ) (i j : ℕ) → IsPort s body n p → IsPort s body m q → p.range ≡ Some r → q.range ≡ Some t
      → i < width (Some r) → j < width (Some t)
      → IsSplit 91 91 p.name q.name (behind r i) (behind t j) → Part.vector_bit n i ≡ Part.vector_bit m j
  bits_apart body a n m p q r t i j is_p is_q p_range q_range in_p in_q (IsSplit.same names bytes digits) =
      one_bit body a n m p q r t i j is_p is_q p_range q_range in_p in_q names digits
  bits_apart body a n m p q r t i j is_p is_q p_range q_range in_p in_q (IsSplit.left_longer rest longer) =
      absurd ((a.names.each_port p (one_of body a n p is_p)).bracket q t (one_of body a m q is_q) q_range (rest, longer))
  bits_apart body a n m p q r t i j is_p is_q p_range q_range in_p in_q (IsSplit.right_longer rest longer) =
      absurd ((a.names.each_port q (one_of body a m q is_q)).bracket p r (one_of body a n p is_p) p_range (rest, longer))

  -- an instance and a port, and names of bits
  inst_and_port : (body : Body) (a : IsBodyApart body) (name : List ℕ) (inner : Body) (number : ℕ) (p : Port) → body_inside s name body ≡ Some inner → IsPort s body number p
      → name ≡ p.name → ⊥
  inst_and_port body a name inner number p inside is same =
      let one : IsIn p.name (port_names a.ports) = IsIn-map (λ (x : Port). x.name) p a.ports (one_of body a number p is) in
      a.names.kinds_differ name (inst_of_body name body inner inside) (subst (λ n. IsIn n (port_names a.ports)) (sym same) one)

  inst_and_bit : (body : Body) (a : IsBodyApart body) (name : List ℕ) (inner : Body) (number : ℕ) (p : Port) (range : ℕ × ℕ) (place : ℕ) → body_inside s name body ≡ Some inner
      → IsPort s body number p → p.range ≡ Some range → name ≡ p.name ++ 91 ∷ behind range place → ⊥
  inst_and_bit body a name inner number p range place inside is ranged same =
      (a.names.each_inst name (inst_of_body name body inner inside)).bracket p range (one_of body a number p is) ranged (behind range place, same)

  port_and_bit : (body : Body) (a : IsBodyApart body) (n m : ℕ) (p q : Port) (range : ℕ × ℕ) (place : ℕ) → IsPort s body n p → IsPort s body m q → q.range ≡ Some range
      → p.name ≡ q.name ++ 91 ∷ behind range place → ⊥
  port_and_bit body a n m p q range place is_p is_q ranged same =
      (a.names.each_port p (one_of body a n p is_p)).bracket q range (one_of body a m q is_q) ranged (behind range place, same)

  -- what has one name in one body is one
  one_part : (body : Body) (a : IsBodyApart body) (x y : Part) (n m : List ℕ) → HasName s body x n → HasName s body y m → n ≡ m → x ≡ y
  one_part body a _ _ _ _ (HasName.instance name inner inside) (HasName.instance other b is) e = ap Part.instance e
  one_part body a _ _ _ _ (HasName.instance name inner inside) (HasName.port number p is) e = absurd (inst_and_port body a name inner number p inside is e)
  one_part body a _ _ _ _ (HasName.instance name inner inside) (HasName.vector_bit number p range place is ranged within) e =
      absurd (inst_and_bit body a name inner number p range place inside is ranged e)
  one_part body a _ _ _ _ (HasName.port number p is) (HasName.instance name inner inside) e = absurd (inst_and_port body a name inner number p inside is (sym e))
  one_part body a _ _ _ _ (HasName.port n p is) (HasName.port m q other) e = ap Part.port (same_number body a n m p q is other e)
  one_part body a _ _ _ _ (HasName.port n p is) (HasName.vector_bit m q range place other ranged within) e = absurd (port_and_bit body a n m p q range place is other ranged e)
  one_part body a _ _ _ _ (HasName.vector_bit number p range place is ranged within) (HasName.instance name inner inside) e =
      absurd (inst_and_bit body a name inner number p range place inside is ranged (sym e))
  one_part body a _ _ _ _ (HasName.vector_bit m q range place other ranged within) (HasName.port n p is) e = absurd (port_and_bit body a n m p q range place is other ranged (sym e))
  one_part body a _ _ _ _ (HasName.vector_bit n p r i is p_range in_p) (HasName.vector_bit m q t j other q_range in_q) e =
      bits_apart body a n m p q r t i j is other p_range q_range in_p in_q
      (split 91 91 p.name q.name (behind r i) (behind t j) e)

  bit_and_inner : (body : Body) (a : IsBodyApart body) (number : ℕ) (p : Port) (range : ℕ × ℕ) (name digits rest : List ℕ) (inner : Body) → IsPort s body number p
      → p.range ≡ Some range → body_inside s name body ≡ Some inner → IsSplit 91 47 p.name name digits rest → ⊥
  bit_and_inner body a number p range name digits rest inner is ranged inside (IsSplit.same names bytes ends) = absurd (omega (arith, bytes))
  bit_and_inner body a number p range name digits rest inner is ranged inside (IsSplit.left_longer more longer) =
      (a.names.each_port p (one_of body a number p is)).slash name (inst_of_body name body inner inside) (more, longer)
  bit_and_inner body a number p range name digits rest inner is ranged inside (IsSplit.right_longer more longer) =
      (a.names.each_inst name (inst_of_body name body inner inside)).bracket p range (one_of body a number p is) ranged (more, longer)

  -- no name goes on behind that of an instance
  not_inner : (body : Body) (a : IsBodyApart body) (x : Part) (n name rest : List ℕ) (inner : Body) → HasName s body x n → body_inside s name body ≡ Some inner
      → n ≡ name ++ 47 ∷ rest → ⊥
  not_inner body a _ _ name rest inner (HasName.instance n b is) inside e =
      (a.names.each_inst n (inst_of_body n body b is)).slash name (inst_of_body name body inner inside) (rest, e)
  not_inner body a _ _ name rest inner (HasName.port number p is) inside e =
      (a.names.each_port p (one_of body a number p is)).slash name (inst_of_body name body inner inside) (rest, e)
  not_inner body a _ _ name rest inner (HasName.vector_bit number p range place is ranged within) inside e =
      bit_and_inner body a number p range name (behind range place) rest inner is ranged inside
      (split 91 47 p.name name (behind range place) rest e)

  -- names that lead down to two things, and the things
  record AreOne (ns ms : List (List ℕ)) (x y : Part) : Type 0 where
    pub names : ns ≡ ms
    pub parts : x ≡ y

  one_down : (ns ms : List (List ℕ)) (body b c : Body) (x y : Part) (n m : List ℕ) → down s body ns ≡ Some b → down s body ms ≡ Some c → HasName s b x n → HasName s c y m
      → text ns n ≡ text ms m → AreOne ns ms x y
  one_down [] [] body b c x y n m to_b to_c of_x of_y e =
      let bodies : c ≡ b = same_Some c b (sym to_c ∙ to_b) in
      record { names = refl; parts = one_part b (body_apart b x n of_x) x y n m of_x (subst (λ z. HasName s z y m) bodies of_y) e }
  one_down [] (m1 ∷ ms) body b c x y n m to_b to_c of_x of_y e =
      let step = step_down s body c m1 ms to_c in
      let here : HasName s body x n = subst (λ z. HasName s z x n) (same_Some b body (sym to_b)) of_x in
      absurd (not_inner body (body_apart body x n here) x n m1 (text ms m) step.inner here step.inside e)
  one_down (n1 ∷ ns) [] body b c x y n m to_b to_c of_x of_y e =
      let step = step_down s body b n1 ns to_b in
      let here : HasName s body y m = subst (λ z. HasName s z y m) (same_Some c body (sym to_c)) of_y in
      absurd (not_inner body (body_apart body y m here) y m n1 (text ns n) step.inner here step.inside (sym e))
  one_down (n1 ∷ ns) (m1 ∷ ms) body b c x y n m to_b to_c of_x of_y e = by (split 47 47 n1 m1 (text ns n) (text ms m) e)
      (λ inner other rest more same. one_down ns ms inner b c x y n m rest (subst (λ z. down s z ms ≡ Some c) other more) of_x of_y same)
    where
      left : IsSteppedDown s body n1 ns b
      left = step_down s body b n1 ns to_b

      right : IsSteppedDown s body m1 ms c
      right = step_down s body c m1 ms to_c

      a : IsBodyApart body
      a = with_inst n1 body left.inner left.inside

      by : IsSplit 47 47 n1 m1 (text ns n) (text ms m)
          → ((inner : Body) → right.inner ≡ inner → down s inner ns ≡ Some b → down s right.inner ms ≡ Some c → text ns n ≡ text ms m → AreOne ns ms x y)
          → AreOne (n1 ∷ ns) (m1 ∷ ms) x y
      by (IsSplit.same firsts bytes rests) further =
          let inner : right.inner ≡ left.inner = same_Some right.inner left.inner (sym right.inside ∙ ap (λ k. body_inside s k body) (sym firsts) ∙ left.inside) in
          let rest = further left.inner inner left.rest right.rest rests in
          record { names = ap (λ k. k ∷ ns) firsts ∙ ap (λ k. m1 ∷ k) rest.names; parts = rest.parts }
      by (IsSplit.left_longer rest longer) further =
          absurd ((a.names.each_inst n1 (inst_of_body n1 body left.inner left.inside)).slash m1 (inst_of_body m1 body right.inner right.inside) (rest, longer))
      by (IsSplit.right_longer rest longer) further =
          absurd ((a.names.each_inst m1 (inst_of_body m1 body right.inner right.inside)).slash n1 (inst_of_body n1 body left.inner left.inside) (rest, longer))

  -- THINGS of the hierarchy by what stands in the body at their way
  record IsParted (t : Thing) (name : List ℕ) : Type 0 where
    pub way : Way
    pub body : Body
    pub part : Part
    pub last : List ℕ
    pub there_is : body_at s way ≡ Some body
    pub has : HasName s body part last
    pub joined_so : name ≡ joined (path way) last
    pub is : t ≡ thing_at way part

  of_port : (way : Way) (number : ℕ) (p : Port) (has : HasPortAt s way number p) → IsPort s has.0 number p
  of_port way number p has = record { ports = has.1; are = has.3; at = has.4 }

  parted : (t : Thing) (name : List ℕ) → HasThingName s t name → IsParted t name
  parted _ _ (HasThingName.instance name outer is) =
      option_and_then_some (body_inside s name) (body_at s outer) is.0 is.1
      (λ body at inside. record {
        way = outer;
        body = body;
        part = Part.instance name;
        last = name;
        there_is = at;
        has = HasName.instance name is.0 inside;
        joined_so = refl;
        is = refl;
      })
  parted _ _ (HasThingName.port way number p has) = record {
    way = way;
    body = has.0;
    part = Part.port number;
    last = p.name;
    there_is = has.2;
    has = HasName.port number p (of_port way number p has);
    joined_so = refl;
    is = refl;
  }
  parted _ _ (HasThingName.vector_bit way number p range place has ranged within) = record {
    way = way;
    body = has.0;
    part = Part.vector_bit number place;
    last = p.name ++ 91 ∷ behind range place;
    there_is = has.2;
    has = HasName.vector_bit number p range place (of_port way number p has) ranged (subst (λ (r : Option (ℕ × ℕ)). place < width r) ranged within);
    joined_so = ap (λ r. joined (path way) (bit_name p.name r place)) ranged ∙ ap (joined (path way)) (bit_text p.name range place);
    is = refl;
  }

  own_names : HasOwnNames s
  own_names x y name of_x of_y =
      let a = parted x name of_x in
      let b = parted y name of_y in
      let left = below_top s a.way [] a.body a.body a.there_is refl in
      let right = below_top s b.way [] b.body b.body b.there_is refl in
      let tops : right.top ≡ left.top = same_Some right.top left.top (sym right.is_top ∙ left.is_top) in
      let texts : text (onto a.way []) a.last ≡ text (onto b.way []) b.last =
      text_onto a.way [] a.last (named_way s named a.way a.body a.there_is) ∙ sym a.joined_so ∙ b.joined_so ∙ sym (text_onto b.way [] b.last (named_way s named b.way b.body b.there_is)) in
      let one = one_down (onto a.way []) (onto b.way []) left.top a.body b.body a.part b.part a.last b.last left.leads
      (subst (λ z. down s z (onto b.way []) ≡ Some b.body) tops right.leads) a.has b.has texts in
      let ways : a.way ≡ b.way = one_way a.way b.way one.names in
      a.is ∙ ap (λ w. thing_at w a.part) ways ∙ ap (thing_at b.way) one.parts ∙ sym b.is

pub apart_named : (s : Sources) → AreAllApart s → AreNamedInsts s → HasOwnNames s
apart_named s apart named = own_names s apart named
