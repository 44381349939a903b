-- Whether a module cannot have a declaration is told by what is said of its name.
use Rattle.std.proofs.Common.{◌≡◌, ◌≢◌, ℕ, Bool, true, false, not, ◌||◌, cond, List, ◌∷◌, ◌++◌, Option, None, Some, ◌⊎◌, inl, inr, refl, sym, ap, ◌∙◌, subst, is_some}
use Rattle.std.specs.List.{list_any, filter_map}
use Rattle.std.specs.Option.{option_map}
use Rattle.std.proofs.lemmas.Option.{none-some, same_Some}
use Rattle.list_defs.specs.Members.{IsIn, same_name}
use Rattle.list_defs.proofs.Members.{IsIn-append_cases, IsIn-append_right}
use Rattle.list_defs.proofs.NameLemmas.{same_name-equal}
use Rattle.text_defs.specs.Grammar.{next}
use Rattle.net_text.specs.NetlistGrammar.{Range, Shape}
use Rattle.net_text.specs.ModulesMeant.{is_port_named, shape_of, shape_said}
use Rattle.net_text.specs.SecondDeclarations.{Declaration, HeaderPort, PortDirection, WireName, InstanceName, named_in}
use Rattle.net_text.specs.SecondDeclarations.{HasOne, IsNamed, IsHeaderPort, GivesDirection, IsPortOfOther, IsWire, IsWireOfOther, IsInstance, IsRefused}
use Rattle.net_modules.specs.Sayings.{is_inst_named, is_named, is_other, is_refused, range_in, range_said, said_of, same_range, wire_of}
use Rattle.net_modules.proofs.FirstSaid.{first_any, first_from, first_map, parted, said_first}
use Rattle.net_modules.proofs.Telling.{Tells, tells_any, tells_as, tells_name, tells_not, tells_or, tells_range}

-- ---- what each part of what is said tells

tells_named : (name : List ℕ) (given : List Declaration) → Tells (list_any (is_named name) given) (HasOne (IsNamed name) given)
tells_named name given = tells_any (is_named name) (IsNamed name) (λ d. tells_name (named_in d).text name) given

tells_port : (name : List ℕ) (given : List Declaration) → Tells (list_any (is_port_named name) given) (HasOne (IsHeaderPort name) given)
tells_port name given = tells_any (is_port_named name) (IsHeaderPort name) each given
  where
    each : (d : Declaration) → Tells (is_port_named name d) (IsHeaderPort name d)
    each (HeaderPort n shape) = tells_name n.text name
    each (PortDirection n shape) = λ h. h
    each (WireName n range) = λ h. h
    each (InstanceName n) = λ h. h

tells_inst : (name : List ℕ) (given : List Declaration) → Tells (list_any (is_inst_named name) given) (HasOne (IsInstance name) given)
tells_inst name given = tells_any (is_inst_named name) (IsInstance name) each given
  where
    each : (d : Declaration) → Tells (is_inst_named name d) (IsInstance name d)
    each (HeaderPort n shape) = λ h. h
    each (PortDirection n shape) = λ h. h
    each (WireName n range) = λ h. h
    each (InstanceName n) = tells_name n.text name

chosen : {A : Type 0} (P : Type 0) (b : Bool) (x : A) → Tells b P → Tells (is_some (cond b (Some x) None)) P
chosen P true x p = p
chosen P false x n = n

none_chosen : (A : Type 0) (b : Bool) → Tells (is_some (cond b (let none : Option A = None in none) None)) ⊥
none_chosen A true = λ h. h
none_chosen A false = λ h. h

tells_shape : (name : List ℕ) (given : List Declaration) → Tells (is_some (shape_of name given)) (HasOne (GivesDirection name) given)
tells_shape name given =
    subst (λ (b : Bool). Tells b (HasOne (GivesDirection name) given)) (sym (first_any (shape_said name) given))
    (tells_any (λ d. is_some (shape_said name d)) (GivesDirection name) each given)
  where
    each : (d : Declaration) → Tells (is_some (shape_said name d)) (GivesDirection name d)
    each (HeaderPort n None) = none_chosen Shape (same_name n.text name)
    each (HeaderPort n (Some shape)) = chosen (n.text ≡ name) (same_name n.text name) shape (tells_name n.text name)
    each (PortDirection n shape) = chosen (n.text ≡ name) (same_name n.text name) shape (tells_name n.text name)
    each (WireName n range) = λ h. h
    each (InstanceName n) = λ h. h

tells_wire : (name : List ℕ) (given : List Declaration) → Tells (is_some (wire_of name given)) (HasOne (IsWire name) given)
tells_wire name given =
    subst (λ (b : Bool). Tells b (HasOne (IsWire name) given)) (sym (first_any (range_said name) given))
    (tells_any (λ d. is_some (range_said name d)) (IsWire name) each given)
  where
    each : (d : Declaration) → Tells (is_some (range_said name d)) (IsWire name d)
    each (HeaderPort n shape) = λ h. h
    each (PortDirection n shape) = λ h. h
    each (WireName n range) = chosen (n.text ≡ name) (same_name n.text name) range (tells_name n.text name)
    each (InstanceName n) = λ h. h

-- ---- what one that says something is

-- where something is chosen, the names are the same
picked : {A : Type 0} (a b : List ℕ) (x y : A) → cond (same_name a b) (Some x) None ≡ Some y → (a ≡ b) × (x ≡ y)
picked {A} a b x y e = by (same_name a b) refl e
  where
    by : (t : Bool) → same_name a b ≡ t → cond t (Some x) None ≡ Some y → (a ≡ b) × (x ≡ y)
    by true same e = (same_name-equal a b same, same_Some x y e)
    by false other e = absurd (none-some y e)

nothing_picked : {A : Type 0} (b : Bool) (y : A) → cond b None None ≡ Some y → ⊥
nothing_picked true y e = none-some y e
nothing_picked false y e = none-some y e

pick : {A : Type 0} (a b : List ℕ) (x : A) → a ≡ b → cond (same_name a b) (Some x) None ≡ Some x
pick {A} a b x e = by (same_name a b) (tells_name a b)
  where
    by : (t : Bool) → Tells t (a ≡ b) → cond t (Some x) None ≡ Some x
    by true same = refl
    by false other = absurd (other e)

gives : (name : List ℕ) (d : Declaration) (s : Shape) → shape_said name d ≡ Some s → GivesDirection name d
gives name (HeaderPort n None) s e = nothing_picked (same_name n.text name) s e
gives name (HeaderPort n (Some shape)) s e = (picked n.text name shape s e).0
gives name (PortDirection n shape) s e = (picked n.text name shape s e).0
gives name (WireName n range) s e = none-some s e
gives name (InstanceName n) s e = none-some s e

gives_named : (name : List ℕ) (d : Declaration) → GivesDirection name d → IsNamed name d
gives_named name (HeaderPort n None) h = absurd h
gives_named name (HeaderPort n (Some shape)) h = h
gives_named name (PortDirection n shape) h = h
gives_named name (WireName n range) h = absurd h
gives_named name (InstanceName n) h = absurd h

wires : (name : List ℕ) (d : Declaration) (r : Option Range) → range_said name d ≡ Some r → IsWire name d
wires name (HeaderPort n shape) r e = none-some r e
wires name (PortDirection n shape) r e = none-some r e
wires name (WireName n range) r e = (picked n.text name range r e).0
wires name (InstanceName n) r e = none-some r e

-- ---- one direction, one wire

-- what is before a declaration that can be says no direction of its name that it says too
other_direction : (front rest : List Declaration) (d e : Declaration) (name : List ℕ) (s t : Shape) → shape_said name d ≡ Some s → IsIn e front
    → shape_said name e ≡ Some t → IsRefused front d rest
other_direction front rest (HeaderPort n None) e name s t is i there = absurd (nothing_picked (same_name n.text name) s is)
other_direction front rest (HeaderPort n (Some shape)) e name s t is i there =
    let same = (picked n.text name shape s is).0 in
    inl (e, i, gives_named name e (gives name e t there) ∙ sym same)
other_direction front rest (PortDirection n shape) e name s t is i there =
    let same = (picked n.text name shape s is).0 in
    inr (inl (e, i, subst (λ (m : List ℕ). GivesDirection m e) (sym same) (gives name e t there)))
other_direction front rest (WireName n range) e name s t is i there = absurd (none-some s is)
other_direction front rest (InstanceName n) e name s t is i there = absurd (none-some s is)

other_wire : (front rest : List Declaration) (d e : Declaration) (name : List ℕ) (s t : Option Range) → range_said name d ≡ Some s → IsIn e front
    → range_said name e ≡ Some t → IsRefused front d rest
other_wire front rest (HeaderPort n shape) e name s t is i there = absurd (none-some s is)
other_wire front rest (PortDirection n shape) e name s t is i there = absurd (none-some s is)
other_wire front rest (WireName n range) e name s t is i there =
    let same = (picked n.text name range s is).0 in
    inl (e, i, subst (λ (m : List ℕ). IsWire m e) (sym same) (wires name e t there))
other_wire front rest (InstanceName n) e name s t is i there = absurd (none-some s is)

-- each of the list can be
abbrev pub AreClear : List Declaration → List Declaration → Type 0
AreClear before more = (front : List Declaration) (d : Declaration) (rest : List Declaration) → before ≡ front ++ d ∷ rest → ¬ IsRefused front d (rest ++ more)

-- whatever says something says what is said first
abbrev IsOneSaid : {R : Type 0} → (Declaration → Option R) → List Declaration → Type 0
IsOneSaid {R} f given = (d : Declaration) (r : R) → IsIn d given → f d ≡ Some r → next (filter_map f given) ≡ Some r

one_direction : (name : List ℕ) (given more : List Declaration) → AreClear given more → IsOneSaid (shape_said name) given
one_direction name given more clear d r i is =
    let p = parted d given i in
    said_first (shape_said name) given p.0 p.1 d r p.2 is (λ e t j there. clear p.0 d p.1 p.2 (other_direction p.0 (p.1 ++ more) d e name r t is j there))

one_wire : (name : List ℕ) (given more : List Declaration) → AreClear given more → IsOneSaid (range_said name) given
one_wire name given more clear d r i is =
    let p = parted d given i in
    said_first (range_said name) given p.0 p.1 d r p.2 is (λ e t j there. clear p.0 d p.1 p.2 (other_wire p.0 (p.1 ++ more) d e name r t is j there))

-- ---- other ranges

-- one says a range other than this
abbrev SaysOther : (Declaration → Option (Option Range)) → Option Range → Declaration → Type 0
SaysOther f range d = (r : Option Range) × (f d ≡ Some r) × (r ≢ range)

tells_other : (f : Declaration → Option (Option Range)) (given : List Declaration) → IsOneSaid f given → (range : Option Range)
    → Tells (is_other (next (filter_map f given)) range) (HasOne (SaysOther f range) given)
tells_other f given one range = by (next (filter_map f given)) refl
  where
    first : (o : Option (Option Range)) → next (filter_map f given) ≡ o → (d : Declaration) (r : Option Range) → IsIn d given → f d ≡ Some r → o ≡ Some r
    first o e d r i is = sym e ∙ one d r i is

    by : (o : Option (Option Range)) → next (filter_map f given) ≡ o → Tells (is_other o range) (HasOne (SaysOther f range) given)
    by None e = λ h. none-some h.2.0 (first None e h.0 h.2.0 h.1 h.2.1)
    by (Some s) e = tells_as (not (same_range s range)) to from (tells_not (s ≡ range) (same_range s range) (tells_range s range))
      where
        to : s ≢ range → HasOne (SaysOther f range) given
        to differs = let found = first_from f given s e in (found.0, found.1, (s, found.2, differs))

        from : HasOne (SaysOther f range) given → s ≢ range
        from h same = h.2.2 (sym (same_Some s h.2.0 (first (Some s) e h.0 h.2.0 h.1 h.2.1)) ∙ same)

-- the range that a declaration gives to a port
abbrev port_range : List ℕ → Declaration → Option (Option Range)
port_range name d = option_map range_in (shape_said name d)

no_range : (b : Bool) (r : Option Range) → option_map range_in (cond b None None) ≡ Some r → ⊥
no_range true r e = none-some r e
no_range false r e = none-some r e

picked_range : (a b : List ℕ) (s : Shape) (r : Option Range) → option_map range_in (cond (same_name a b) (Some s) None) ≡ Some r → (a ≡ b) × (s.range ≡ r)
picked_range a b s r e = by (same_name a b) refl e
  where
    by : (t : Bool) → same_name a b ≡ t → option_map range_in (cond t (Some s) None) ≡ Some r → (a ≡ b) × (s.range ≡ r)
    by true same e = (same_name-equal a b same, same_Some s.range r e)
    by false other e = absurd (none-some r e)

port_other_to : (name : List ℕ) (range : Option Range) (d : Declaration) → SaysOther (port_range name) range d → IsPortOfOther name range d
port_other_to name range (HeaderPort n None) h = no_range (same_name n.text name) h.0 h.1
port_other_to name range (HeaderPort n (Some shape)) h = let p = picked_range n.text name shape h.0 h.1 in (p.0, λ same. h.2 (sym p.1 ∙ same))
port_other_to name range (PortDirection n shape) h = let p = picked_range n.text name shape h.0 h.1 in (p.0, λ same. h.2 (sym p.1 ∙ same))
port_other_to name range (WireName n other) h = none-some h.0 h.1
port_other_to name range (InstanceName n) h = none-some h.0 h.1

port_other_from : (name : List ℕ) (range : Option Range) (d : Declaration) → IsPortOfOther name range d → SaysOther (port_range name) range d
port_other_from name range (HeaderPort n None) h = absurd h
port_other_from name range (HeaderPort n (Some shape)) h = (shape.range, ap (option_map range_in) (pick n.text name shape h.0), h.1)
port_other_from name range (PortDirection n shape) h = (shape.range, ap (option_map range_in) (pick n.text name shape h.0), h.1)
port_other_from name range (WireName n other) h = absurd h
port_other_from name range (InstanceName n) h = absurd h

wire_other_to : (name : List ℕ) (range : Option Range) (d : Declaration) → SaysOther (range_said name) range d → IsWireOfOther name range d
wire_other_to name range (HeaderPort n shape) h = none-some h.0 h.1
wire_other_to name range (PortDirection n shape) h = none-some h.0 h.1
wire_other_to name range (WireName n other) h = let p = picked n.text name other h.0 h.1 in (p.0, λ same. h.2 (sym p.1 ∙ same))
wire_other_to name range (InstanceName n) h = none-some h.0 h.1

wire_other_from : (name : List ℕ) (range : Option Range) (d : Declaration) → IsWireOfOther name range d → SaysOther (range_said name) range d
wire_other_from name range (HeaderPort n shape) h = absurd h
wire_other_from name range (PortDirection n shape) h = absurd h
wire_other_from name range (WireName n other) h = (other, pick n.text name other h.0, h.1)
wire_other_from name range (InstanceName n) h = absurd h

one_as : {P Q : Declaration → Type 0} (given : List Declaration) → ((d : Declaration) → P d → Q d) → HasOne P given → HasOne Q given
one_as given to h = (h.0, h.1, to h.0 h.2)

tells_port_other : (name : List ℕ) (given more : List Declaration) → AreClear given more → (range : Option Range)
    → Tells (is_other (option_map range_in (shape_of name given)) range) (HasOne (IsPortOfOther name range) given)
tells_port_other name given more clear range =
    tells_as (is_other (option_map range_in (shape_of name given)) range) (one_as given (port_other_to name range)) (one_as given (port_other_from name range))
    (subst (λ (o : Option (Option Range)). Tells (is_other o range) (HasOne (SaysOther (port_range name) range) given)) (first_map range_in (shape_said name) given)
    (tells_other (port_range name) given one range))
  where
    by : (o : Option Shape) (r : Option Range) → option_map range_in o ≡ Some r → (s : Shape) × (o ≡ Some s) × (s.range ≡ r)
    by None r e = absurd (none-some r e)
    by (Some s) r e = (s, refl, same_Some s.range r e)

    one : IsOneSaid (port_range name) given
    one d r i is =
        let found = by (shape_said name d) r is in
        first_map range_in (shape_said name) given ∙ ap (option_map range_in) (one_direction name given more clear d found.0 i found.1)
        ∙ ap (λ (range : Option Range). Some range) found.2

tells_wire_other : (name : List ℕ) (given more : List Declaration) → AreClear given more → (range : Option Range)
    → Tells (is_other (wire_of name given) range) (HasOne (IsWireOfOther name range) given)
tells_wire_other name given more clear range =
    tells_as (is_other (wire_of name given) range) (one_as given (wire_other_to name range)) (one_as given (wire_other_from name range))
    (tells_other (range_said name) given (one_wire name given more clear) range)

-- ---- a port of the header without a direction

module _ (name : List ℕ) (before : List Declaration) (d : Declaration) (behind : List Declaration) (silent : ¬ GivesDirection name d) where
  undirected : ¬ HasOne (IsNamed name) before → ¬ HasOne (GivesDirection name) behind → ¬ HasOne (GivesDirection name) (before ++ d ∷ behind)
  undirected unnamed none h = by (IsIn-append_cases h.0 before (d ∷ behind) h.1)
    where
      by : IsIn h.0 before ⊎ IsIn h.0 (d ∷ behind) → ⊥
      by (inl i) = unnamed (h.0, i, gives_named name h.0 h.2)
      by (inr (inl e)) = silent (subst (GivesDirection name) e h.2)
      by (inr (inr j)) = none (h.0, j, h.2)

  directed : ¬ HasOne (GivesDirection name) (before ++ d ∷ behind) → ¬ HasOne (GivesDirection name) behind
  directed none h = none (h.0, IsIn-append_right h.0 before (d ∷ behind) (inr h.1), h.2)

-- what is said of the name tells whether a module cannot have the declaration, where it can have those before it
pub told : (before : List Declaration) (d : Declaration) (behind : List Declaration) → AreClear before (d ∷ behind)
    → Tells (is_refused (said_of (named_in d).text before) (is_some (shape_of (named_in d).text (before ++ d ∷ behind))) d) (IsRefused before d behind)
unfolding said_of
told before (HeaderPort n None) behind clear = by (list_any (is_named n.text) before) (tells_named n.text before)
  where
    by : (b : Bool) → Tells b (HasOne (IsNamed n.text) before)
        → Tells (b || not (is_some (shape_of n.text (before ++ HeaderPort n None ∷ behind)))) (HasOne (IsNamed n.text) before ⊎ ((◌≡◌ {A = Option Shape} None None) × (¬ HasOne (GivesDirection n.text) behind)))
    by true named = inl named
    by false unnamed =
        let whole = before ++ HeaderPort n None ∷ behind in
        tells_or _ _ false (not (is_some (shape_of n.text whole))) unnamed
        (tells_as (not (is_some (shape_of n.text whole)))
        (λ none. (refl, directed n.text before (HeaderPort n None) behind (λ h. h) none))
        (λ q. undirected n.text before (HeaderPort n None) behind (λ h. h) unnamed q.1)
        (tells_not _ (is_some (shape_of n.text whole)) (tells_shape n.text whole)))
told before (HeaderPort n (Some shape)) behind clear =
    tells_as (list_any (is_named n.text) before) (λ p. inl p) (λ h. elim h [ inl p ↦ p | inr q ↦ absurd (none-some shape (sym q.0)) ]) (tells_named n.text before)
told before (PortDirection n shape) behind clear =
    tells_or _ _ (not (list_any (is_port_named n.text) before)) (is_some (shape_of n.text before) || is_other (wire_of n.text before) shape.range)
    (tells_not _ (list_any (is_port_named n.text) before) (tells_port n.text before))
    (tells_or _ _ (is_some (shape_of n.text before)) (is_other (wire_of n.text before) shape.range) (tells_shape n.text before)
    (tells_wire_other n.text before (PortDirection n shape ∷ behind) clear shape.range))
told before (WireName n range) behind clear =
    tells_or _ _ (is_some (wire_of n.text before)) (list_any (is_inst_named n.text) before || is_other (option_map range_in (shape_of n.text before)) range)
    (tells_wire n.text before)
    (tells_or _ _ (list_any (is_inst_named n.text) before) (is_other (option_map range_in (shape_of n.text before)) range) (tells_inst n.text before)
    (tells_port_other n.text before (WireName n range ∷ behind) clear range))
told before (InstanceName n) behind clear = tells_named n.text before
