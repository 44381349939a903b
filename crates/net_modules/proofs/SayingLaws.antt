-- What is said of a name with one more declaration, and by those of ports alone.
use Rattle.std.proofs.Common.{◌≡◌, ℕ, Bool, true, false, ◌||◌, cond, List, [], ◌∷◌, ◌++◌, Option, None, Some, refl, ap, ◌∙◌, filter}
use Rattle.std.proofs.lemmas.List.Folds.{list_any-append}
use Rattle.std.specs.List.{list_any, filter_map, cons_option}
use Rattle.list_defs.specs.Members.{same_name}
use Rattle.text_defs.specs.Grammar.{next}
use Rattle.net_text.specs.NetlistGrammar.{Named, Range, Shape}
use Rattle.net_text.specs.ModulesMeant.{is_port_named, shape_of, shape_said}
use Rattle.net_text.specs.SecondDeclarations.{Declaration, HeaderPort, PortDirection, WireName, InstanceName}
use Rattle.net_modules.specs.Sayings.{Saying, first_of, is_inst_named, is_named, range_said, said_after, said_of, said_with, says_port}
use Rattle.net_modules.proofs.FirstSaid.{first_none, first_push}

or_false : (b : Bool) → (b || (false || false)) ≡ b
or_false true = refl
or_false false = refl

or_true : (b : Bool) → (b || (true || false)) ≡ true
or_true true = refl
or_true false = refl

-- the parts of what is said with one more declaration
abbrev joined : Saying → (named port inst : Bool) → Option Shape → Option (Option Range) → Saying
joined s named port inst shape wire = record {
  named = s.named || (named || false);
  port = s.port || (port || false);
  inst = s.inst || (inst || false);
  shape = first_of s.shape shape;
  wire = first_of s.wire wire;
}

parts : (name : List ℕ) (given : List Declaration) (d : Declaration)
    → said_of name (given ++ d ∷ [])
    ≡ joined (said_of name given) (is_named name d) (is_port_named name d) (is_inst_named name d) (shape_said name d) (range_said name d)
unfolding said_of
parts name given d = λ i. record {
  named = list_any-append (is_named name) given (d ∷ []) i;
  port = list_any-append (is_port_named name) given (d ∷ []) i;
  inst = list_any-append (is_inst_named name) given (d ∷ []) i;
  shape = first_push (shape_said name) given d i;
  wire = first_push (range_said name) given d i;
}

module _ (s : Saying) where
  header : (shape : Option Shape) (n : Named) (b : Bool) → joined s b b false (cond b shape None) None ≡ cond b (said_with s (HeaderPort n shape)) s
  header shape n true = λ i. record { named = or_true s.named i; port = or_true s.port i; inst = or_false s.inst i; shape = first_of s.shape shape; wire = first_none s.wire i }
  header shape n false = λ i. record { named = or_false s.named i; port = or_false s.port i; inst = or_false s.inst i; shape = first_none s.shape i; wire = first_none s.wire i }

  direction : (shape : Shape) (n : Named) (b : Bool) → joined s b false false (cond b (Some shape) None) None ≡ cond b (said_with s (PortDirection n shape)) s
  direction shape n true = λ i. record { named = or_true s.named i; port = or_false s.port i; inst = or_false s.inst i; shape = first_of s.shape (Some shape); wire = first_none s.wire i }
  direction shape n false = λ i. record { named = or_false s.named i; port = or_false s.port i; inst = or_false s.inst i; shape = first_none s.shape i; wire = first_none s.wire i }

  wire : (range : Option Range) (n : Named) (b : Bool) → joined s b false false None (cond b (Some range) None) ≡ cond b (said_with s (WireName n range)) s
  wire range n true = λ i. record { named = or_true s.named i; port = or_false s.port i; inst = or_false s.inst i; shape = first_none s.shape i; wire = first_of s.wire (Some range) }
  wire range n false = λ i. record { named = or_false s.named i; port = or_false s.port i; inst = or_false s.inst i; shape = first_none s.shape i; wire = first_none s.wire i }

  inst : (n : Named) (b : Bool) → joined s b false b None None ≡ cond b (said_with s (InstanceName n)) s
  inst n true = λ i. record { named = or_true s.named i; port = or_false s.port i; inst = or_true s.inst i; shape = first_none s.shape i; wire = first_none s.wire i }
  inst n false = λ i. record { named = or_false s.named i; port = or_false s.port i; inst = or_false s.inst i; shape = first_none s.shape i; wire = first_none s.wire i }

pub said_push : (name : List ℕ) (given : List Declaration) (d : Declaration) → said_of name (given ++ d ∷ []) ≡ said_after name (said_of name given) d
said_push name given (HeaderPort n shape) = parts name given (HeaderPort n shape) ∙ header (said_of name given) shape n (same_name n.text name)
said_push name given (PortDirection n shape) = parts name given (PortDirection n shape) ∙ direction (said_of name given) shape n (same_name n.text name)
said_push name given (WireName n range) = parts name given (WireName n range) ∙ wire (said_of name given) range n (same_name n.text name)
said_push name given (InstanceName n) = parts name given (InstanceName n) ∙ inst (said_of name given) n (same_name n.text name)

-- those of ports say of a port what all say
pub port_shape : (name : List ℕ) (given : List Declaration) → (said_of name (filter says_port given)).shape ≡ shape_of name given
unfolding said_of
port_shape name [] = refl
port_shape name (HeaderPort n shape ∷ given) = by (port_shape name given) (shape_said name (HeaderPort n shape))
  where
    by : next (filter_map (shape_said name) (filter says_port given)) ≡ next (filter_map (shape_said name) given) → (o : Option Shape) → next (cons_option o (filter_map (shape_said name) (filter says_port given))) ≡ next (cons_option o (filter_map (shape_said name) given))
    by rest None = rest
    by rest (Some s) = refl
port_shape name (PortDirection n shape ∷ given) = by (port_shape name given) (shape_said name (PortDirection n shape))
  where
    by : next (filter_map (shape_said name) (filter says_port given)) ≡ next (filter_map (shape_said name) given) → (o : Option Shape) → next (cons_option o (filter_map (shape_said name) (filter says_port given))) ≡ next (cons_option o (filter_map (shape_said name) given))
    by rest None = rest
    by rest (Some s) = refl
port_shape name (WireName n range ∷ given) = port_shape name given
port_shape name (InstanceName n ∷ given) = port_shape name given

pub port_there : (name : List ℕ) (given : List Declaration) → (said_of name (filter says_port given)).port ≡ list_any (is_port_named name) given
unfolding said_of
port_there name [] = refl
port_there name (HeaderPort n shape ∷ given) = ap (λ b. same_name n.text name || b) (port_there name given)
port_there name (PortDirection n shape ∷ given) = port_there name given
port_there name (WireName n range ∷ given) = port_there name given
port_there name (InstanceName n ∷ given) = port_there name given
