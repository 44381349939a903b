-- A text is read as one list of modules, or has one fault, and never both.
use Rattle.std.proofs.Common.{◌≡◌, Ok, Err, ℕ, List, Option, Some, ◌⊎◌, inl, refl, sym, ap, ◌∙◌, subst}
use Rattle.std.specs.Prelude.{map}
use Rattle.pw_defs.specs.declared.netlist.Module.{Module}
use Rattle.pw_defs.specs.declared.faults.At.{At}
use Rattle.pw_defs.specs.declared.faults.NetFault.{NetFault}
use Rattle.pw_defs.specs.declared.faults.NetFault.TheVariants.{N1, N2, N3, N4, Memory}
use Rattle.text_defs.specs.Grammar.{read_whole, IsPhrase}
use Rattle.text_defs.specs.FirstFault.{IsFirstFault}
use Rattle.text_defs.specs.FirstPlace.{IsFirstPlace}
use Rattle.text_defs.specs.Tokens.{Token, line_left}
use Rattle.text_defs.proofs.FirstPlaces.{one_first_place, no_first_place}
use Rattle.text_defs.proofs.Whole.{one_value, value_or_fault, whole_value, whole_fault, no_fault, one_fault}
use Rattle.text_defs.proofs.ClearTokens.{class_of}
use Rattle.net_text.specs.NetlistTokens.{NetlistClass, Inout, LeftOut, netlist_tokens}
use Rattle.net_text.specs.NetlistGrammar.{ModuleWords, netlist}
use Rattle.net_text.specs.SecondDeclarations.{Declaration, IsRefused, named_in, declarations}
use Rattle.net_text.specs.ModulesMeant.{module_of}
use Rattle.net_text.specs.NetlistFaults.{HasWords, HasRefused, ReadsAsModules, IsCutShort, IsOther, HasNetlistFault, name_left, class_left}
use Rattle.net_text.proofs.NetlistClear.{clear-netlist}
use Rattle.net_text.proofs.NetlistEnds.{ends-netlist}

-- a text has its words in one way
pub one_list_of_words : (text : List ℕ) (a b : List ModuleWords) → HasWords text a → HasWords text b → a ≡ b
one_list_of_words text a b = one_value class_of netlist _ _ clear-netlist (inl refl) (netlist_tokens text) a b

-- each text has its words, or a first fault
pub words_or_fault : (text : List ℕ)
    → ((words : List ModuleWords) × HasWords text words) ⊎ ((left : List (Token NetlistClass)) × IsFirstFault (IsPhrase netlist) (netlist_tokens text) left)
words_or_fault text = value_or_fault class_of netlist _ _ clear-netlist (inl refl) ends-netlist (netlist_tokens text)

-- what is read of the tokens are the words of the text
pub words_read : (text : List ℕ) (words : List ModuleWords) → read_whole netlist (netlist_tokens text) ≡ Ok words → HasWords text words
words_read text words = whole_value class_of netlist _ _ clear-netlist (inl refl) (netlist_tokens text) words

-- where reading stops is the first fault
pub fault_read : (text : List ℕ) (left : List (Token NetlistClass)) → read_whole netlist (netlist_tokens text) ≡ Err left
    → IsFirstFault (IsPhrase netlist) (netlist_tokens text) left
fault_read text left = whole_fault class_of netlist _ _ clear-netlist (inl refl) ends-netlist (netlist_tokens text) left

-- at most one list of modules
pub one_reading : (text : List ℕ) (a b : List Module) → ReadsAsModules text a → ReadsAsModules text b → a ≡ b
one_reading text a b p q = p.value ∙ ap (map module_of) (one_list_of_words text p.words q.words p.reads q.reads) ∙ sym q.value

-- a text that has its words is not cut short
whole_is_not_cut : (text : List ℕ) (words : List ModuleWords) (IsOf : Option NetlistClass → Type 0) (at : At) → HasWords text words
    → ¬ IsCutShort text IsOf at
whole_is_not_cut text words IsOf at reads cut = no_fault (IsPhrase netlist) (netlist_tokens text) cut.left (words, reads) cut.fault

-- not both
pub no_reading_and_fault : (text : List ℕ) (modules : List Module) (f : NetFault) → ReadsAsModules text modules → ¬ HasNetlistFault text f
no_reading_and_fault text modules (N1 at) p h = whole_is_not_cut text p.words IsOther at p.reads h
no_reading_and_fault text modules (N2 at) p h = whole_is_not_cut text p.words _ at p.reads h
no_reading_and_fault text modules (N3 at) p h = whole_is_not_cut text p.words _ at p.reads h
no_reading_and_fault text modules (N4 at) p h =
    let same = one_list_of_words text h.words p.words h.reads p.reads in
    no_first_place HasRefused p.words h.inside p.once (subst (λ w. IsFirstPlace HasRefused w h.inside) same h.first_module)
no_reading_and_fault text modules Memory p h = h

-- two faults of a text that is cut short stand at one place, with one token there
one_cut : (text : List ℕ) (IsOne IsOf : Option NetlistClass → Type 0) (a b : At) (p : IsCutShort text IsOne a) (q : IsCutShort text IsOf b) → p.left ≡ q.left
one_cut text IsOne IsOf a b p q = one_fault (IsPhrase netlist) (netlist_tokens text) p.left q.left p.fault q.fault

same_place : (text : List ℕ) (IsOne IsOf : Option NetlistClass → Type 0) (a b : At) → IsCutShort text IsOne a → IsCutShort text IsOf b → a ≡ b
same_place text IsOne IsOf a b p q =
    let place : List (Token NetlistClass) → At = λ left. record { line = line_left text left; name = name_left left } in
    p.place ∙ ap place (one_cut text IsOne IsOf a b p q) ∙ sym q.place

-- the token at the fault is of one class
same_class : (text : List ℕ) (IsOne IsOf : Option NetlistClass → Type 0) (a b : At) (p : IsCutShort text IsOne a) (q : IsCutShort text IsOf b)
    → class_left p.left ≡ class_left q.left
same_class text IsOne IsOf a b p q = ap class_left (one_cut text IsOne IsOf a b p q)

inout_is_not_left_out : ¬ (Some Inout ≡ Some LeftOut)
inout_is_not_left_out e = cc

abbrev IsInout : Option NetlistClass → Type 0
IsInout c = c ≡ Some Inout

abbrev IsLeftOut : Option NetlistClass → Type 0
IsLeftOut c = c ≡ Some LeftOut

-- at most one fault
pub one_netlist_fault : (text : List ℕ) (f g : NetFault) → HasNetlistFault text f → HasNetlistFault text g → f ≡ g
one_netlist_fault text (N1 a) (N1 b) p q = ap N1 (same_place text IsOther IsOther a b p q)
one_netlist_fault text (N2 a) (N2 b) p q = ap N2 (same_place text IsInout IsInout a b p q)
one_netlist_fault text (N3 a) (N3 b) p q = ap N3 (same_place text IsLeftOut IsLeftOut a b p q)
one_netlist_fault text (N1 a) (N2 b) p q = absurd (p.of_class.0 (same_class text IsOther IsInout a b p q ∙ q.of_class))
one_netlist_fault text (N1 a) (N3 b) p q = absurd (p.of_class.1 (same_class text IsOther IsLeftOut a b p q ∙ q.of_class))
one_netlist_fault text (N2 a) (N1 b) p q = absurd (q.of_class.0 (same_class text IsOther IsInout b a q p ∙ p.of_class))
one_netlist_fault text (N3 a) (N1 b) p q = absurd (q.of_class.1 (same_class text IsOther IsLeftOut b a q p ∙ p.of_class))
one_netlist_fault text (N2 a) (N3 b) p q = absurd (inout_is_not_left_out (sym p.of_class ∙ same_class text IsInout IsLeftOut a b p q ∙ q.of_class))
one_netlist_fault text (N3 a) (N2 b) p q = absurd (inout_is_not_left_out (sym q.of_class ∙ same_class text IsInout IsLeftOut b a q p ∙ p.of_class))
one_netlist_fault text (N1 a) (N4 b) p q = absurd (whole_is_not_cut text q.words IsOther a q.reads p)
one_netlist_fault text (N2 a) (N4 b) p q = absurd (whole_is_not_cut text q.words IsInout a q.reads p)
one_netlist_fault text (N3 a) (N4 b) p q = absurd (whole_is_not_cut text q.words IsLeftOut a q.reads p)
one_netlist_fault text (N4 a) (N1 b) p q = absurd (whole_is_not_cut text p.words IsOther b p.reads q)
one_netlist_fault text (N4 a) (N2 b) p q = absurd (whole_is_not_cut text p.words IsInout b p.reads q)
one_netlist_fault text (N4 a) (N3 b) p q = absurd (whole_is_not_cut text p.words IsLeftOut b p.reads q)
one_netlist_fault text (N4 a) (N4 b) p q =
    let same = one_list_of_words text p.words q.words p.reads q.reads in
    let inside = one_first_place HasRefused q.words p.inside q.inside (subst (λ w. IsFirstPlace HasRefused w p.inside) same p.first_module) q.first_module in
    let here = subst (λ m. IsFirstPlace IsRefused (declarations m) p.declaration) inside p.first in
    let declared = one_first_place IsRefused (declarations q.inside) p.declaration q.declaration here q.first in
    let place : Declaration → At = λ d. record { line = (named_in d).line; name = (named_in d).text } in
    ap N4 (p.place ∙ ap place declared ∙ sym q.place)
one_netlist_fault text Memory g p q = absurd p
one_netlist_fault text f Memory p q = absurd q
