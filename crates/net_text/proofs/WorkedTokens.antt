-- Into which tokens short texts of netlists are cut.
use Rattle.std.proofs.Common.{◌≡◌, ℕ, List, [], ◌∷◌, map, codes, refl}
use Rattle.text_defs.specs.Lines.{line_at}
use Rattle.text_defs.specs.Pieces.{pieces_from, closed_by}
use Rattle.text_defs.specs.Tokens.{Token}
use Rattle.net_text.specs.NetlistTokens.{NetlistClass, Module, Name, Number, NetlistClass.Constant, LeftOut, Inout, Stray, netlist_tokens, netlist_piece, word_class, left_out_words}

-- all that cutting a text computes with
abbrev cutting : Unit {0}
unfolding line_at pieces_from closed_by netlist_piece word_class left_out_words
cutting = tt

abbrev texts : List ℕ → List (List ℕ)
texts text = map (λ (t : Token NetlistClass). t.text) (netlist_tokens text)

abbrev classes : List ℕ → List NetlistClass
classes text = map (λ (t : Token NetlistClass). t.class) (netlist_tokens text)

-- a constant is one token; without a width from 1 to 65,536 and a value it is a number and what follows
pub a_constant_is_one_token : texts (codes "8'hf_X 0'b0 2'b") ≡ codes "8'hf_X" ∷ codes "0" ∷ codes "'" ∷ codes "b0" ∷ codes "2" ∷ codes "'" ∷ codes "b" ∷ []
unfolding cutting
a_constant_is_one_token = refl

pub numbers_and_constants_have_limits : classes (codes "65535 65536 65536'd1 65537'd1") ≡ Number ∷ Stray ∷ Constant ∷ Stray ∷ Stray ∷ Name ∷ []
unfolding cutting
numbers_and_constants_have_limits = refl

-- an escaped name is never a word of the language
pub an_escaped_word_is_a_name : classes (codes "inout \\inout reg \\reg module1 module") ≡ Inout ∷ Name ∷ LeftOut ∷ Name ∷ Name ∷ Module ∷ []
unfolding cutting
an_escaped_word_is_a_name = refl

pub an_attribute_is_skipped : texts (codes "(* a *)(*)b") ≡ codes "(" ∷ codes "*" ∷ codes ")" ∷ codes "b" ∷ []
unfolding cutting
an_attribute_is_skipped = refl

-- a line that begins with a back quote is skipped, and no other back quote is
pub a_back_quote_skips_its_line : texts (codes " `a b\nc `d\n") ≡ codes "c" ∷ codes "`" ∷ codes "d" ∷ []
unfolding cutting
a_back_quote_skips_its_line = refl

-- an escaped name that the end of the text cuts stands at that end
pub a_cut_name_is_stray : netlist_tokens (codes "a\n\\b") ≡ record { class = Name; text = codes "a"; line = 1 } ∷ record {
  class = Stray;
  text = codes "-";
  line = 2;
} ∷ []
unfolding cutting
a_cut_name_is_stray = refl
