-- How a module is read, phrase by phrase.
use Rattle.std.proofs.Common.{◌≡◌, ℕ, ◌++◌, List, Option, Ok, Err, ap, ◌∙◌, subst}
use Rattle.std.specs.List.{flat_map}
use Rattle.module_rows.specs.declared.plain.Draft.{Draft}
use Rattle.text_defs.specs.Grammar.{Reading, and_then, read}
use Rattle.text_defs.specs.Phrases.{many}
use Rattle.text_defs.specs.Tokens.{Token, of_class, one_of}
use Rattle.net_text.specs.NetlistClasses.{begins_item, is_endmodule, is_module, is_semicolon}
use Rattle.net_text.specs.NetlistGrammar.{Header, Item, Named, header, item, module_words, most, name}
use Rattle.net_text.specs.NetlistTokens.{NetlistClass}
use Rattle.net_text.specs.SecondDeclarations.{Declaration, header_ports, item_declarations}
use Rattle.net_modules.specs.Drafts.{IsClosed, IsEnded, with_items}
use Rattle.net_modules.proofs.ModuleLaws.{ended}

abbrev Tokens : Type 0
Tokens = List (Token NetlistClass)

on : {A B : Type 0} (r : Reading (Token NetlistClass) A) (x : A) (rest : Tokens) (more : A → Tokens → Reading (Token NetlistClass) B) → r ≡ Ok (x, rest)
    → and_then r more ≡ more x rest
on r x rest more e = ap (λ s. and_then s more) e

off : {A B : Type 0} (r : Reading (Token NetlistClass) A) (left : Tokens) (more : A → Tokens → Reading (Token NetlistClass) B) → r ≡ Err left → and_then r more ≡ Err left
off r left more e = ap (λ s. and_then s more) e

module _ (old t1 t2 t3 t4 : Tokens) (first semicolon : Token NetlistClass) (n : Named) (h : Header) (e1 : read (one_of is_module) old ≡ Ok (first, t1))
    (e2 : read (name) t1 ≡ Ok (n, t2)) (e3 : read header t2 ≡ Ok (h, t3)) (e4 : read (one_of is_semicolon) t3 ≡ Ok (semicolon, t4)) where
  pub items_stop : (left : Tokens) → read (many most (of_class begins_item) item) t4 ≡ Err left → read module_words old ≡ Err left
  unfolding read
  items_stop left e = on _ first t1 _ e1 ∙ on _ n t2 _ e2 ∙ on _ h t3 _ e3 ∙ on _ semicolon t4 _ e4 ∙ off _ left _ e

  module _ (items : List Item) (t5 : Tokens) (e5 : read (many most (of_class begins_item) item) t4 ≡ Ok (items, t5)) where
    pub end_stops : (left : Tokens) → read (one_of is_endmodule) t5 ≡ Err left → read module_words old ≡ Err left
    unfolding read
    end_stops left e = on _ first t1 _ e1 ∙ on _ n t2 _ e2 ∙ on _ h t3 _ e3 ∙ on _ semicolon t4 _ e4 ∙ on _ items t5 _ e5 ∙ off _ left _ e

    pub module_read : (end : Token NetlistClass) (t6 : Tokens) → read (one_of is_endmodule) t5 ≡ Ok (end, t6)
        → read module_words old ≡ Ok (record { name = n.text; line = first.line; header = h; items = items }, t6)
    unfolding read
    module_read end t6 e = on _ first t1 _ e1 ∙ on _ n t2 _ e2 ∙ on _ h t3 _ e3 ∙ on _ semicolon t4 _ e4 ∙ on _ items t5 _ e5 ∙ on _ end t6 _ e

-- what was given to the builder of a module that has ended
pub module_ended : (old mid new : Draft) (name : List ℕ) (line : ℕ) (header : Header) (items : List Item) (given : List Declaration) (found : Option Named)
    → mid ≡ with_items old items → given ≡ header_ports header ++ flat_map item_declarations items → IsClosed mid new name line given found
    → IsEnded old new found (record { name = name; line = line; header = header; items = items })
module_ended old mid new name line header items given found e is c =
    ended old new name line header items given found is (subst (λ (d : Draft). IsClosed d new name line given found) e c)
