-- What is kept of the items that were read.
use Rattle.std.proofs.Common.{◌≡◌, ℕ, ◌<◌, ◌≤◌, ◌+◌, true, false, List, [], ◌∷◌, ◌++◌, Ok, Err, length, map, refl, sym, ap, ◌∙◌, arith}
use Rattle.std.proofs.lemmas.List.{append-nil, append_assoc, length-append}
use Rattle.std.proofs.lemmas.Grind.{flat_map-append}
use Rattle.std.specs.List.{flat_map}
use Rattle.module_rows.specs.declared.plain.Draft.{Draft}
use Rattle.text_defs.specs.Grammar.{next, passes, read}
use Rattle.text_defs.specs.Phrases.{many}
use Rattle.text_defs.specs.Tokens.{Token, of_class}
use Rattle.text_streams.proofs.AnswerLaws.{Keeps, kept_on}
use Rattle.net_text.proofs.ListLaws.{row_begins, row_end, row_fault}
use Rattle.net_text.specs.NetlistClasses.{begins_item}
use Rattle.net_text.specs.NetlistGrammar.{Item, item, most}
use Rattle.net_text.specs.NetlistTokens.{NetlistClass}
use Rattle.net_text.specs.ModulesMeant.{assigns_in, insts_in}
use Rattle.net_text.specs.SecondDeclarations.{Declaration, item_declarations}
use Rattle.net_modules.specs.Drafts.{with_item, with_items}

abbrev Tokens : Type 0
Tokens = List (Token NetlistClass)

pub map_itself : {A : Type 0} (xs : List A) → map (λ (x : A). x) xs ≡ xs
map_itself [] = refl
map_itself (x ∷ xs) = ap (λ l. x ∷ l) (map_itself xs)

flat_map_push : {X A : Type 0} (f : X → List A) (xs : List X) (x : X) → flat_map f (xs ++ x ∷ []) ≡ flat_map f xs ++ f x
flat_map_push f xs x = flat_map-append f xs (x ∷ []) ∙ ap (λ l. flat_map f xs ++ l) (append-nil (f x))

-- one item more
items_push : (d : Draft) (items : List Item) (x : Item) → with_item (with_items d items) x ≡ with_items d (items ++ x ∷ [])
items_push d items x = λ i. record d {
  current = record d.current { assigns = by assigns_in d.current.assigns i; insts = by insts_in d.current.insts i };
}
  where
    by : {A : Type 0} (f : Item → List A) (front : List A) → (front ++ flat_map f items) ++ f x ≡ front ++ flat_map f (items ++ x ∷ [])
    by f front = append_assoc front (flat_map f items) (f x) ∙ ap (λ l. front ++ l) (sym (flat_map_push f items x))

items_none : (d : Draft) → d ≡ with_items d []
items_none d = λ i. record d {
  current = record d.current { assigns = sym (append-nil d.current.assigns) i; insts = sym (append-nil d.current.insts) i };
}

-- some items were read, which were given to the builder, and what they declare was added
pub record HasItems (old tokens : Tokens) (before draft : Draft) (declared all : List Declaration) (count : ℕ) : Type 0 where
  pub items : List Item
  pub long : length items ≡ count
  pub kept : Keeps (λ (x : Item). x) (of_class begins_item) item 4294967295 items tokens [] old
  pub built : draft ≡ with_items before items
  pub said : all ≡ declared ++ flat_map item_declarations items
  pub longer : length tokens ≤ length old

pub no_items : (tokens : Tokens) (draft : Draft) (all : List Declaration) → HasItems tokens tokens draft draft all all 0
no_items tokens draft all = record {
  items = [];
  long = refl;
  kept = row_begins (λ (x : Item). x) (of_class begins_item) item [] tokens tokens refl;
  built = items_none draft;
  said = sym (append-nil all);
  longer = omega arith;
}

module _ (old tokens : Tokens) (before draft : Draft) (declared all : List Declaration) (count : ℕ) (so_far : HasItems old tokens before draft declared all count) where
  pub one_item_more : (rest : Tokens) (draft' : Draft) (all' : List Declaration) (x : Item) → count < 4294967295 → passes (of_class begins_item) (next tokens) ≡ true
      → read item tokens ≡ Ok (x, rest) → draft' ≡ with_item draft x → all' ≡ all ++ item_declarations x → length rest < length tokens
      → HasItems old rest before draft' declared all' (count + 1)
  one_item_more rest draft' all' x few more reads built said shorter =
      let items = so_far.items in
      let lt : length items < 4294967295 = omega (arith, few, so_far.long) in
      record {
        items = items ++ x ∷ [];
        long = length-append items (x ∷ []) ∙ ap (λ (n : ℕ). n + 1) so_far.long;
        kept = kept_on (λ (x : Item). x) (of_class begins_item) item 4294967295 [] items old tokens so_far.kept rest x (items ++ x ∷ []) lt more reads refl;
        built = built ∙ ap (λ d. with_item d x) so_far.built ∙ items_push before items x;
        said =
            said ∙ ap (λ l. l ++ item_declarations x) so_far.said ∙ append_assoc declared (flat_map item_declarations items) (item_declarations x)
            ∙ ap (λ l. declared ++ l) (sym (flat_map_push item_declarations items x));
        longer = omega (arith, shorter, so_far.longer);
      }

  pub items_fault : (left : Tokens) → count < 4294967295 → passes (of_class begins_item) (next tokens) ≡ true → read item tokens ≡ Err left
      → read (many most (of_class begins_item) item) old ≡ Err left
  items_fault left few more stops =
      row_fault (λ (x : Item). x) (of_class begins_item) item so_far.items old tokens so_far.kept left (omega (arith, few, so_far.long)) more stops

  pub items_end : passes (of_class begins_item) (next tokens) ≡ false → read (many most (of_class begins_item) item) old ≡ Ok (so_far.items, tokens)
  items_end stops =
      row_end (λ (x : Item). x) (of_class begins_item) item so_far.items old tokens so_far.kept stops ∙ ap (λ (l : List Item). Ok (l, tokens)) (map_itself so_far.items)
