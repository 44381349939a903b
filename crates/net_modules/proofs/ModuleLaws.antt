-- What is kept of the modules that were read.
use Rattle.std.proofs.Common.{◌≡◌, ℕ, ◌≤◌, ◌+◌, ◌⊎◌, inl, inr, List, [], ◌∷◌, ◌++◌, Option, Some, None, map, length, refl, sym, ap, ◌∙◌, subst, arith}
use Rattle.std.proofs.lemmas.List.{append-nil, append_assoc, length-append, map-append}
use Rattle.std.specs.List.{filter_map, flat_map}
use Rattle.pw_defs.specs.declared.netlist.Module.{Module}
use Rattle.module_rows.specs.declared.plain.Draft.{Draft}
use Rattle.module_rows.specs.Growth.{no_module, with_module}
use Rattle.text_defs.specs.FirstPlace.{HasNoPlace, HasPlace, IsFirstPlace}
use Rattle.net_text.specs.NetlistFaults.{HasRefused}
use Rattle.net_text.specs.NetlistGrammar.{Header, Item, ModuleWords, Named}
use Rattle.net_text.specs.ModulesMeant.{assigns_in, insts_in, module_of, net_in, port_in}
use Rattle.net_text.specs.SecondDeclarations.{Declaration, IsRefused, declarations, header_ports, item_declarations}
use Rattle.net_modules.specs.Drafts.{IsClosed, IsEnded, IsReadFrom, with_items, with_nets, with_ports, with_words}
use Rattle.net_modules.specs.Refusals.{IsRefusedFirst}
use Rattle.net_modules.specs.Sayings.{first_of}
use Rattle.net_modules.proofs.PlaceLaws.{place_push}

has_place : (given : List Declaration) (named : Named) → IsRefusedFirst given named → HasPlace IsRefused given
has_place given named r = (r.first.before, r.declaration, r.first.behind, r.first.split, r.first.holds)

-- ---- one module more

module _ (words : List ModuleWords) (m : ModuleWords) where
  none_push : HasNoPlace HasRefused words → HasNoPlace IsRefused (declarations m) → HasNoPlace HasRefused (words ++ m ∷ [])
  none_push none clear front y rest split p = by (place_push words m front y rest split)
    where
      by : ((more : List ModuleWords) × (words ≡ front ++ y ∷ more)) ⊎ ((words ≡ front) × (m ≡ y)) → ⊥
      by (inl early) = none front y early.0 early.1 p
      by (inr last) =
          let here : HasPlace IsRefused (declarations m) = subst (λ w. HasPlace IsRefused (declarations w)) (sym last.1) p in
          clear here.0 here.1 here.2 here.3 here.4

  first_new : HasNoPlace HasRefused words → HasPlace IsRefused (declarations m) → IsFirstPlace HasRefused (words ++ m ∷ []) m
  first_new none here = record {
    before = words;
    behind = [];
    split = refl;
    holds = here;
    first = λ front y rest split p. by front y rest (place_push words m front y rest split) p;
  }
    where
      by : (front : List ModuleWords) (y : ModuleWords) (rest : List ModuleWords) → ((more : List ModuleWords) × (words ≡ front ++ y ∷ more)) ⊎ ((words ≡ front) × (m ≡ y))
          → HasRefused front y rest → length words ≤ length front
      by front y rest (inl early) p = absurd (none front y early.0 early.1 p)
      by front y rest (inr last) p = let same : length words ≡ length front = ap length last.0 in omega (arith, same)

  first_kept : (x : ModuleWords) → IsFirstPlace HasRefused words x → IsFirstPlace HasRefused (words ++ m ∷ []) x
  first_kept x f = record {
    before = f.before;
    behind = f.behind ++ m ∷ [];
    split = ap (λ l. l ++ m ∷ []) f.split ∙ append_assoc f.before (x ∷ f.behind) (m ∷ []);
    holds = f.holds;
    first = λ front y rest split p. by front y rest (place_push words m front y rest split) p;
  }
    where
      by : (front : List ModuleWords) (y : ModuleWords) (rest : List ModuleWords) → ((more : List ModuleWords) × (words ≡ front ++ y ∷ more)) ⊎ ((words ≡ front) × (m ≡ y))
          → HasRefused front y rest → length f.before ≤ length front
      by front y rest (inl early) p = f.first front y early.0 early.1 p
      by front y rest (inr last) p =
          let same : length words ≡ length front = ap length last.0 in
          let all : length words ≡ length (f.before ++ x ∷ f.behind) = ap length f.split in
          let sum : length (f.before ++ x ∷ f.behind) ≡ length f.before + length (x ∷ f.behind) = length-append f.before (x ∷ f.behind) in
          omega (arith, same, all, sum)

  pub read_on : (held : List Module) (old new : Draft) (second found : Option Named) → IsReadFrom held words old second → IsEnded old new found m
      → IsReadFrom held (words ++ m ∷ []) new (first_of second found)
  read_on held old new None None r e =
      let empty : old.current ≡ no_module = ap (λ (d : Draft). d.current) r.1 in (
        none_push r.0 e.0,
        e.1 empty ∙ ap (λ (d : Draft). with_words d m) r.1
            ∙ ap (λ (modules : List Module). let d : Draft = record { modules = modules; current = no_module } in d)
            (append_assoc held (map module_of words) (module_of m ∷ []) ∙ ap (λ (modules : List Module). held ++ modules) (sym (map-append module_of words (m ∷ [])))),
      )
  read_on held old new None (Some named) r e =
      record { inside = m; first_module = first_new r.0 (has_place (declarations m) named e); refused = e }
  read_on held old new (Some named) found r e =
      record { inside = r.inside; first_module = first_kept r.inside r.first_module; refused = r.refused }

pub none_read : (draft : Draft) → draft.current ≡ no_module → IsReadFrom draft.modules [] draft None
none_read draft e = (
  (λ front y rest split p. by front y rest split),
  λ i. (let d : Draft = record { modules = sym (append-nil draft.modules) i; current = e i } in d),
)
  where
    by : (front : List ModuleWords) (y : ModuleWords) (rest : List ModuleWords) → [] ≡ front ++ y ∷ rest → ⊥
    by front y rest split =
        let none : 0 ≡ length (front ++ y ∷ rest) = ap length split in
        let sum : length (front ++ y ∷ rest) ≡ length front + length (y ∷ rest) = length-append front (y ∷ rest) in
        omega (arith, none, sum)

-- ---- the end of a module

module _ (old new : Draft) (name : List ℕ) (line : ℕ) (header : Header) (items : List Item) (given : List Declaration) where
  abbrev words : ModuleWords
  words = record { name = name; line = line; header = header; items = items }

  abbrev whole : Module → Draft
  whole open_module = with_module
      (with_nets (with_ports (with_items (record { modules = old.modules; current = open_module }) items) (filter_map (port_in given) given)) (filter_map (net_in given) given))
      name line

  meant : declarations words ≡ given → whole no_module ≡ with_words old words
  unfolding module_of
  meant e = ap (λ (ds : List Declaration).
      (let d : Draft = record {
        modules = old.modules ++ record {
          name = name;
          ports = filter_map (port_in ds) ds;
          nets = filter_map (net_in ds) ds;
          assigns = flat_map assigns_in items;
          insts = flat_map insts_in items;
          line = line;
        } ∷ [];
        current = no_module;
      } in d)) (sym e)

  pub ended : (found : Option Named) → given ≡ header_ports header ++ flat_map item_declarations items
      → IsClosed (with_items old items) new name line given found → IsEnded old new found words
  unfolding declarations
  ended None is c =
      (subst (HasNoPlace IsRefused) is c.0, λ empty. c.1 ∙ ap whole empty ∙ meant (sym is))
  ended (Some named) is c = subst (λ ds. IsRefusedFirst ds named) is c
