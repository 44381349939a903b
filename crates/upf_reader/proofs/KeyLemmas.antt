-- Options that give words for keys, and options of which a command takes at most one.
use Rattle.std.proofs.Common.{◌≡◌, ◌↔◌, ◌<◌, ◌+◌, ℕ, zero, suc, Bool, true, false, not, ◌&&◌, ◌||◌, ◌⊎◌, inl, inr, List, [], ◌∷◌, ◌++◌, Some, None, IsTrue, length, get_or, take, map, slice_get, refl, sym, ap, ◌∙◌, subst, arith, bytes_eq}
use Rattle.std.specs.Cmp.Lexicographic.{bytes_decides}
use Rattle.std.specs.List.{list_any}
use Rattle.std.proofs.lemmas.Bool.{true≢false}
use Rattle.std.proofs.lemmas.List.{take_more, map-append}
use Rattle.list_defs.specs.Members.{IsIn}
use Rattle.tcl_words.proofs.ListLaws.{one_parting, parts_or_fault}
use Rattle.tcl_words.specs.ListWords.{PartsInto}
use Rattle.upf_commands.specs.CommandRows.{OptionRow, CommandRow}
use Rattle.upf_commands.specs.CommandWords.{Item, given}
use Rattle.upf_commands.specs.Commands.{HasKey, IsKeyed, RepeatsKey, are_apart}
use Rattle.upf_commands.specs.Forms.{Form, ListForm, list, keyed}
use Rattle.upf_reader.specs.Faults.{GivesKey, SomeGivesKey}
use Rattle.upf_reader.specs.Parts.{part_view}
use Rattle.upf_reader.specs.Readings.{HasParting, is_grouped, share_group}
use Rattle.upf_reader.specs.declared.partings.Parting.{Parting}
use Rattle.upf_reader.specs.declared.partings.Parting.TheVariants.{Words, Unclosed, AfterWord}
use Rattle.upf_reader.specs.declared.parts.Part.{Part}
use Rattle.upf_reader.proofs.ValueLemmas.{Some_has, is_added}
use Rattle.upf_reader.proofs.WordLemmas.{says_no}

pub no_key_so : (text : List ℕ) (p : Parting) → HasParting text p → ((words : List (List ℕ)) → p ≡ Words words → ⊥) → (key : List ℕ) → ¬ HasKey text key
no_key_so text (Words words) h other key k = other words refl
no_key_so text Unclosed h other key k = parts_or_fault text (key ∷ k.0) _ k.1 h.1
no_key_so text AfterWord h other key k = parts_or_fault text (key ∷ k.0) _ k.1 h.1

pub empty_so : (text : List ℕ) (words : List (List ℕ)) → PartsInto text words → None ≡ slice_get words 0 → (key : List ℕ) → ¬ HasKey text key
empty_so text words h e key k =
    let same : words ≡ key ∷ k.0 = one_parting text words (key ∷ k.0) h k.1 in
    let found : None ≡ Some key = e ∙ ap (λ ws. slice_get ws 0) same in
    cc

pub first_so : (text : List ℕ) (words : List (List ℕ)) (key : List ℕ) → PartsInto text words → Some key ≡ slice_get words 0 → HasKey text key
first_so text [] key h e = absurd (cc)
first_so text (word ∷ words) key h e = let same : key ≡ word = cc in (words, subst (λ w. PartsInto text (w ∷ words)) (sym same) h)

one_key : (text key other : List ℕ) → HasKey text key → HasKey text other → key ≡ other
one_key text key other h k = let same : key ∷ h.0 ≡ other ∷ k.0 = one_parting text (key ∷ h.0) (other ∷ k.0) h.1 k.1 in cc

pub same_key_so : (text other s key : List ℕ) (b : Bool) → HasKey text other → s ≡ other → b ≡ bytes_eq s key → IsTrue b ↔ HasKey text key
same_key_so text other s key b h e f = (
  λ t. subst (HasKey text) (sym e ∙ (bytes_decides s key).0 (sym f ∙ t)) h,
  λ k. f ∙ (bytes_decides s key).1 (e ∙ one_key text other key h k),
)

pub gives_so : (o p : OptionRow) (key v : List ℕ) (item : Item) (b : Bool) → item ≡ given p v → p.kept ≡ o.kept → IsTrue b ↔ HasKey v key → IsTrue b ↔ GivesKey o key item
gives_so o p key v item b e f h = (
  λ t. (p, v, e, f, h.0 t),
  λ g.
      let same : given p v ≡ given g.0 g.1 = sym e ∙ g.2 in
      let texts : g.1 ≡ v = cc in
      h.1 (subst (λ w. HasKey w key) texts g.4),
)

pub equal_names : (a b : List ℕ) (t : Bool) → t ≡ bytes_eq a b → t ≡ true → a ≡ b
equal_names a b t e f = (bytes_decides a b).0 (sym e ∙ f)

pub part_there : (parts : List Part) (i : ℕ) (d : Part) → i < length parts → IsIn (part_view (get_or parts i d)) (map part_view parts)
part_there [] i d less = absurd (omega arith)
part_there (p ∷ parts) zero d less = inl refl
part_there (p ∷ parts) (suc i) d less = inr (part_there parts i d (omega arith))

pub parts_taken : (parts : List Part) (i : ℕ) (part : Part) → i < length parts → part ≡ get_or parts i part
    → map part_view (take (i + 1) parts) ≡ map part_view (take i parts) ++ part_view part ∷ []
parts_taken parts i part less is =
    ap (map part_view) (take_more parts i part less ∙ ap (λ p. take i parts ++ p ∷ []) (sym is)) ∙ map-append part_view (take i parts) (part ∷ [])

pub none_added : {X : Type 0} (P : X → Type 0) (xs : List X) (x : X) → ¬ Some_has P xs → ¬ P x → ¬ Some_has P (xs ++ x ∷ [])
none_added {X} P xs x none not_here s = by s.0 s.2 (is_added x s.0 xs s.1)
  where
    by : (y : X) → P y → IsIn y xs ⊎ (y ≡ x) → ⊥
    by y p (inl before) = none (y, before, p)
    by y p (inr e) = not_here (subst P e p)

pub repeats_so : (before : List Item) (o : OptionRow) (text key : List ℕ) (b : Bool) → IsKeyed o → HasKey text key → IsTrue b ↔ SomeGivesKey o key before
    → IsTrue b ↔ RepeatsKey before o text
repeats_so before o text key b with_keys h g = (
  λ t. let s = g.0 t in let r = s.2 in (with_keys, (r.0, r.1, key, subst (λ i. IsIn i before) r.2 s.1, r.3, r.4, h)),
  λ r.
      let q = r.1 in
      g.1 (given q.0 q.1, q.3, (q.0, q.1, refl, q.4, subst (HasKey q.1) (one_key text q.2 key q.6 h) q.5)),
)

pub no_repeats : (before : List Item) (o : OptionRow) (text : List ℕ) → ((key : List ℕ) → ¬ HasKey text key) → IsTrue false ↔ RepeatsKey before o text
no_repeats before o text none = says_no false refl (λ r. none r.1.2 r.1.6)

-- options in no group are apart from none
no_group : (name other : List ℕ) (groups : List (List (List ℕ))) → list_any (λ group. list_any (bytes_eq name) group) groups ≡ false
    → list_any (λ group. list_any (bytes_eq name) group && list_any (bytes_eq other) group) groups ≡ false
no_group name other [] e = refl
no_group name other (group ∷ groups) e = by (list_any (bytes_eq name) group) (list_any (bytes_eq other) group) (no_group name other groups) e
  where
    by : (s t : Bool) → (list_any (λ g. list_any (bytes_eq name) g) groups ≡ false
        → list_any (λ g. list_any (bytes_eq name) g && list_any (bytes_eq other) g) groups ≡ false)
        → (s || list_any (λ g. list_any (bytes_eq name) g) groups) ≡ false
        → ((s && t) || list_any (λ g. list_any (bytes_eq name) g && list_any (bytes_eq other) g) groups) ≡ false
    by true t rest h = absurd (true≢false h)
    by false t rest h = rest h

not_and : (a b : Bool) → b ≡ false → (a && b) ≡ false
not_and true b h = h
not_and false b h = refl

pub not_grouped_so : (row : CommandRow) (name : List ℕ) → is_grouped row name ≡ false → (names : List (List ℕ)) → false ≡ list_any (are_apart row name) names
not_grouped_so row name e [] = refl
not_grouped_so row name e (other ∷ names) =
    not_grouped_so row name e names
    ∙ ap (λ t. t || list_any (are_apart row name) names) (sym (not_and (not (bytes_eq name other)) (share_group row name other) (no_group name other row.apart e)))

pub keyed_list_so : (whole : Form) (part : ListForm) (b : Bool) → whole ≡ list part → IsTrue b ↔ ((keys : List (List ℕ)) × (part ≡ keyed keys))
    → IsTrue b ↔ ((keys : List (List ℕ)) × (whole ≡ list (keyed keys)))
keyed_list_so whole part b e h =
    (λ t. let p = h.0 t in (p.0, e ∙ ap list p.1), λ p. h.1 (p.0, inner part (keyed p.0) (sym e ∙ p.1)))
  where
    inner : (f g : ListForm) → list f ≡ list g → f ≡ g
    inner f g e = cc
