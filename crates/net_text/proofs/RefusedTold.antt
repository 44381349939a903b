-- Of each declaration it can be told whether its module can have it, so each text is read as modules or has a fault.
use Rattle.std.proofs.Common.{◌≡◌, ℕ, Bool, true, List, [], ◌∷◌, map, Option, Some, None, ◌⊎◌, inl, inr, refl, ap, ◌∙◌}
use Rattle.pw_defs.specs.declared.netlist.Module.{Module}
use Rattle.pw_defs.specs.declared.faults.At.{At}
use Rattle.pw_defs.specs.declared.faults.NetFault.{NetFault}
use Rattle.pw_defs.specs.declared.faults.NetFault.TheVariants.{N1, N2, N3, N4}
use Rattle.text_defs.specs.Grammar.{IsPhrase}
use Rattle.text_defs.specs.FirstFault.{IsFirstFault}
use Rattle.text_defs.specs.FirstPlace.{HasNoPlace, IsFirstPlace}
use Rattle.text_defs.specs.Tokens.{Token}
use Rattle.text_defs.proofs.FirstPlaces.{first_or_none}
use Rattle.text_defs.proofs.Told.{IsTold, told_not, told_both, told_either, told_name, told_one, told_place, is_left, left_of}
use Rattle.net_text.specs.NetlistTokens.{NetlistClass, Inout, LeftOut, netlist_tokens}
use Rattle.net_text.specs.NetlistGrammar.{Range, Shape, ModuleWords, netlist}
use Rattle.net_text.specs.SecondDeclarations.{Declaration, HeaderPort, PortDirection, WireName, InstanceName, IsNamed, IsHeaderPort, GivesDirection, IsPortOfOther, IsWire, IsWireOfOther, IsInstance, IsRefused, named_in, declarations}
use Rattle.net_text.specs.ModulesMeant.{module_of}
use Rattle.net_text.specs.NetlistFaults.{HasWords, HasRefused, ReadsAsModules, HasNetlistFault, class_left}
use Rattle.net_text.proofs.NetlistLaws.{words_or_fault}

unfoldable pub never : IsTold ⊥
never = inr (λ h. h)

unfoldable pub told_number : (a b : ℕ) → IsTold (a ≡ b)
told_number a b = by (told_name (a ∷ []) (b ∷ []))
  where
    by : IsTold (a ∷ [] ≡ b ∷ []) → IsTold (a ≡ b)
    by (inl e) = inl (let head : a ≡ b = cc in head)
    by (inr n) = inr (λ e. n (ap (λ c. c ∷ []) e))

unfoldable pub told_range : (a b : Option Range) → IsTold (a ≡ b)
told_range None None = inl refl
told_range None (Some b) = inr (λ e. cc)
told_range (Some a) None = inr (λ e. cc)
told_range (Some a) (Some b) = by (told_number a.0 b.0) (told_number a.1 b.1)
  where
    by : IsTold (a.0 ≡ b.0) → IsTold (a.1 ≡ b.1) → IsTold (Some a ≡ Some b)
    by (inl d) (inl e) = inl (let left : Some (a.0, a.1) ≡ Some (b.0, a.1) = ap (λ n. Some (n, a.1)) d in left ∙ ap (λ n. Some (b.0, n)) e)
    by (inl d) (inr n) = inr (λ e. n (ap (λ r. right_of r) e))
      where
        right_of : Option Range → ℕ
        right_of None = a.1
        right_of (Some r) = r.1
    by (inr n) e = inr (λ e. n (ap (λ r. left_of r) e))
      where
        left_of : Option Range → ℕ
        left_of None = a.0
        left_of (Some r) = r.0

-- whether one of three holds
unfoldable pub told_three : {P Q R : Type 0} → IsTold P → IsTold Q → IsTold R → IsTold (P ⊎ Q ⊎ R)
told_three p q r = told_either p (told_either q r)

unfoldable pub told_header_port : (name : List ℕ) (d : Declaration) → IsTold (IsHeaderPort name d)
told_header_port name (HeaderPort n shape) = told_name n.text name
told_header_port name (PortDirection n shape) = never
told_header_port name (WireName n range) = never
told_header_port name (InstanceName n) = never

unfoldable pub told_direction : (name : List ℕ) (d : Declaration) → IsTold (GivesDirection name d)
told_direction name (HeaderPort n None) = never
told_direction name (HeaderPort n (Some shape)) = told_name n.text name
told_direction name (PortDirection n shape) = told_name n.text name
told_direction name (WireName n range) = never
told_direction name (InstanceName n) = never

unfoldable pub told_port_of_other : (name : List ℕ) (range : Option Range) (d : Declaration) → IsTold (IsPortOfOther name range d)
told_port_of_other name range (HeaderPort n None) = never
told_port_of_other name range (HeaderPort n (Some shape)) = told_both (told_name n.text name) (told_not (told_range shape.range range))
told_port_of_other name range (PortDirection n shape) = told_both (told_name n.text name) (told_not (told_range shape.range range))
told_port_of_other name range (WireName n other) = never
told_port_of_other name range (InstanceName n) = never

unfoldable pub told_wire : (name : List ℕ) (d : Declaration) → IsTold (IsWire name d)
told_wire name (HeaderPort n shape) = never
told_wire name (PortDirection n shape) = never
told_wire name (WireName n range) = told_name n.text name
told_wire name (InstanceName n) = never

unfoldable pub told_wire_of_other : (name : List ℕ) (range : Option Range) (d : Declaration) → IsTold (IsWireOfOther name range d)
told_wire_of_other name range (HeaderPort n shape) = never
told_wire_of_other name range (PortDirection n shape) = never
told_wire_of_other name range (WireName n other) = told_both (told_name n.text name) (told_not (told_range other range))
told_wire_of_other name range (InstanceName n) = never

unfoldable pub told_instance : (name : List ℕ) (d : Declaration) → IsTold (IsInstance name d)
told_instance name (HeaderPort n shape) = never
told_instance name (PortDirection n shape) = never
told_instance name (WireName n range) = never
told_instance name (InstanceName n) = told_name n.text name

unfoldable pub told_shape : (shape : Option Shape) → IsTold (shape ≡ None)
told_shape None = inl refl
told_shape (Some shape) = inr (λ e. cc)

unfoldable pub told_refused : (before : List Declaration) (d : Declaration) (behind : List Declaration) → IsTold (IsRefused before d behind)
told_refused before (HeaderPort n shape) behind =
    told_either (told_one (IsNamed n.text) (λ d. told_name (named_in d).text n.text) before)
    (told_both (told_shape shape) (told_not (told_one (GivesDirection n.text) (told_direction n.text) behind)))
told_refused before (PortDirection n shape) behind =
    told_three (told_not (told_one (IsHeaderPort n.text) (told_header_port n.text) before))
    (told_one (GivesDirection n.text) (told_direction n.text) before)
    (told_one (IsWireOfOther n.text shape.range) (told_wire_of_other n.text shape.range) before)
told_refused before (WireName n range) behind =
    told_three (told_one (IsWire n.text) (told_wire n.text) before)
    (told_one (IsInstance n.text) (told_instance n.text) before)
    (told_one (IsPortOfOther n.text range) (told_port_of_other n.text range) before)
told_refused before (InstanceName n) behind = told_one (IsNamed n.text) (λ d. told_name (named_in d).text n.text) before

unfoldable pub told_module : (before : List ModuleWords) (m : ModuleWords) (behind : List ModuleWords) → IsTold (HasRefused before m behind)
told_module before m behind = told_place IsRefused told_refused (declarations m)

-- whether no module has a declaration that it cannot have
unfoldable pub all_once : List ModuleWords → Bool
all_once words = is_left (first_or_none HasRefused told_module words)

pub once_where : (words : List ModuleWords) → all_once words ≡ true → HasNoPlace HasRefused words
unfolding all_once
once_where words h = left_of (first_or_none HasRefused told_module words) h

-- where a declaration stands
abbrev pub place_of : Declaration → At
place_of d = record { line = (named_in d).line; name = (named_in d).text }

-- the first declaration of a module that it cannot have, where there is one
unfoldable pub refused_in : ModuleWords → Option At
refused_in m = elim (first_or_none IsRefused told_refused (declarations m)) [ inl none ↦ None | inr d ↦ Some (place_of d.0) ]

-- the first of all modules
unfoldable pub refused_of : List ModuleWords → Option At
refused_of words = elim (first_or_none HasRefused told_module words) [ inl none ↦ None | inr m ↦ refused_in m.0 ]

pub second_where : (text : List ℕ) (words : List ModuleWords) (at : At) → HasWords text words → refused_of words ≡ Some at → HasNetlistFault text (N4 at)
unfolding refused_of refused_in
second_where text words at reads e = by (first_or_none HasRefused told_module words) e
  where
    by : (r : HasNoPlace HasRefused words ⊎ ((m : ModuleWords) × IsFirstPlace HasRefused words m))
        → ◌≡◌ {A = Option At} (elim r [ inl none ↦ None | inr m ↦ refused_in m.0 ]) (Some at) → HasNetlistFault text (N4 at)
    by (inl none) e = cc
    by (inr m) e = inside (first_or_none IsRefused told_refused (declarations m.0)) e
      where
        inside : (r : HasNoPlace IsRefused (declarations m.0) ⊎ ((d : Declaration) × IsFirstPlace IsRefused (declarations m.0) d))
            → ◌≡◌ {A = Option At} (elim r [ inl none ↦ None | inr d ↦ Some (place_of d.0) ]) (Some at) → HasNetlistFault text (N4 at)
        inside (inl none) e = cc
        inside (inr d) e =
            let here : at ≡ place_of d.0 = (let same : Some (place_of d.0) ≡ Some at = e in cc) in
            record { words = words; reads = reads; inside = m.0; first_module = m.1; declaration = d.0; first = d.1; place = here }

-- all that telling computes with
unfoldable pub telling : Unit {0}
unfolding first_or_none told_not told_both told_either told_name told_one told_place never told_number told_range told_header_port told_direction
    told_port_of_other told_wire told_wire_of_other told_instance told_shape told_three told_refused told_module all_once refused_in refused_of
telling = tt

told_inout : (c : Option NetlistClass) → IsTold (c ≡ Some Inout)
told_inout (Some Inout) = inl refl
told_inout _ = inr (λ e. cc)

told_left_out : (c : Option NetlistClass) → IsTold (c ≡ Some LeftOut)
told_left_out (Some LeftOut) = inl refl
told_left_out _ = inr (λ e. cc)

-- each text is read as modules, or has a fault
pub reading_or_fault : (text : List ℕ) → ((modules : List Module) × ReadsAsModules text modules) ⊎ ((f : NetFault) × HasNetlistFault text f)
reading_or_fault text = by (words_or_fault text)
  where
    cut : (left : List (Token NetlistClass)) → IsFirstFault (IsPhrase netlist) (netlist_tokens text) left
        → IsTold (class_left left ≡ Some Inout) → IsTold (class_left left ≡ Some LeftOut) → (f : NetFault) × HasNetlistFault text f
    cut left fault (inl e) other = (N2 _, record { left = left; fault = fault; of_class = e; place = refl })
    cut left fault (inr n) (inl e) = (N3 _, record { left = left; fault = fault; of_class = e; place = refl })
    cut left fault (inr n) (inr m) = (N1 _, record { left = left; fault = fault; of_class = (n, m); place = refl })

    whole : (words : List ModuleWords) → HasWords text words → HasNoPlace HasRefused words ⊎ ((m : ModuleWords) × IsFirstPlace HasRefused words m)
        → ((modules : List Module) × ReadsAsModules text modules) ⊎ ((f : NetFault) × HasNetlistFault text f)
    whole words reads (inl once) = inl (map module_of words, record { words = words; reads = reads; once = once; value = refl })
    whole words reads (inr m) = inside (first_or_none IsRefused told_refused (declarations m.0))
      where
        inside : HasNoPlace IsRefused (declarations m.0) ⊎ ((d : Declaration) × IsFirstPlace IsRefused (declarations m.0) d)
            → ((modules : List Module) × ReadsAsModules text modules) ⊎ ((f : NetFault) × HasNetlistFault text f)
        inside (inl none) = absurd (let h = m.1.holds in none h.0 h.1 h.2 h.3 h.4)
        inside (inr d) =
            inr (N4 _, record { words = words; reads = reads; inside = m.0; first_module = m.1; declaration = d.0; first = d.1; place = refl })

    by : ((words : List ModuleWords) × HasWords text words)
        ⊎ ((left : List (Token NetlistClass)) × IsFirstFault (IsPhrase netlist) (netlist_tokens text) left)
        → ((modules : List Module) × ReadsAsModules text modules) ⊎ ((f : NetFault) × HasNetlistFault text f)
    by (inl w) = whole w.0 w.1 (first_or_none HasRefused told_module w.0)
    by (inr f) = inr (cut f.0 f.1 (told_inout (class_left f.0)) (told_left_out (class_left f.0)))
