-- A value says one thing at most.
use Rattle.std.proofs.Common.{◌≡◌, ℕ, zero, suc, true, false, List, [], ◌∷◌, ◌++◌, Option, Some, None, bytes_eq, codes, length, eqb, append-nil, ◌<◌, arith, refl, sym, ◌∙◌, ap, ap₂, subst}
use Rattle.std.specs.List.{AllZip, flat_map}
use Rattle.pw_defs.specs.declared.values.Value.{Value}
use Rattle.std.proofs.lemmas.Bool.{eqb-false}
use Rattle.tcl_words.proofs.ListLaws.{one_parting}
use Rattle.upf_commands.proofs.OneVoltage.{one_value}
use Rattle.upf_commands.specs.Values.{AreNames, IsPair, ArePairs, IsSwitchPort, IsOnState, IsSupplyState, IsPowerState, AreStateOptions, StateOption, supply_expr, logic_expr, simstate, legal, illegal, state_words, IsHandle, Handle, primary, default_isolation, handle_text}
use Rattle.upf_commands.specs.Voltages.{IsValue}

pub one_names : (value : List ℕ) (names others : List (List ℕ)) → AreNames value names → AreNames value others → names ≡ others
one_names value names others h k = one_parting value names others h k

pub one_pair : (value a b c d : List ℕ) → IsPair value a b → IsPair value c d → (a ≡ c) × (b ≡ d)
one_pair value a b c d h k =
    let same : a ∷ b ∷ [] ≡ c ∷ d ∷ [] = one_parting value (a ∷ b ∷ []) (c ∷ d ∷ []) h k in
    (cc, cc)

pairs_same : (items : List (List ℕ)) (p q : List (List ℕ × List ℕ)) → AllZip (λ item (pair : List ℕ × List ℕ). IsPair item pair.0 pair.1) items p
    → AllZip (λ item (pair : List ℕ × List ℕ). IsPair item pair.0 pair.1) items q → p ≡ q
pairs_same [] [] [] h k = refl
pairs_same [] [] (b ∷ q) h k = absurd k
pairs_same [] (a ∷ p) q h k = absurd h
pairs_same (i ∷ items) [] q h k = absurd h
pairs_same (i ∷ items) (a ∷ p) [] h k = absurd k
pairs_same (i ∷ items) (a ∷ p) (b ∷ q) h k =
    let e = one_pair i a.0 a.1 b.0 b.1 h.0 k.0 in
    let first : a ≡ b = ap₂ (λ x y. (x, y)) e.0 e.1 in
    ap₂ (λ x xs. x ∷ xs) first (pairs_same items p q h.1 k.1)

pub one_pairs : (value : List ℕ) (p q : List (List ℕ × List ℕ)) → ArePairs value p → ArePairs value q → p ≡ q
one_pairs value p q h k =
    pairs_same k.items p q (subst (λ is. AllZip (λ item (pair : List ℕ × List ℕ). IsPair item pair.0 pair.1) is p) (one_parting value h.items k.items h.parted k.parted) h.each) k.each

pub one_switch_port : (value port net port' net' : List ℕ) → IsSwitchPort value port net → IsSwitchPort value port' net' → (port ≡ port') × (net ≡ net')
one_switch_port value port net port' net' h k = one_pair value port net port' net' h.parted k.parted

pub one_on_state : (value state port state' port' : List ℕ) → IsOnState value state port → IsOnState value state' port' → (state ≡ state') × (port ≡ port')
one_on_state value state port state' port' h k =
    let same : state ∷ port ∷ h.condition ∷ [] ≡ state' ∷ port' ∷ k.condition ∷ [] =
    one_parting value (state ∷ port ∷ h.condition ∷ []) (state' ∷ port' ∷ k.condition ∷ []) h.parted k.parted in
    (cc, cc)

pub one_supply_state : (value state state' : List ℕ) (v w : Value) → IsSupplyState value state v → IsSupplyState value state' w → (state ≡ state') × (v ≡ w)
one_supply_state value state state' v w h k =
    let same : state ∷ h.voltage ≡ state' ∷ k.voltage = one_parting value (state ∷ h.voltage) (state' ∷ k.voltage) h.parted k.parted in
    let words : h.voltage ≡ k.voltage = cc in
    (cc, one_value k.voltage v w (subst (λ ws. IsValue ws v) words h.meant) k.meant)

abbrev with_option : StateOption → Option (List StateOption) → Option (List StateOption)
with_option o None = None
with_option o (Some options) = Some (o ∷ options)

abbrev with_text : (List ℕ → StateOption) → (List (List ℕ) → Option (List StateOption)) → List (List ℕ) → Option (List StateOption)
with_text make later [] = None
with_text make later (text ∷ rest) = with_option (make text) (later rest)

-- the options that words are, with fuel for as many words
abbrev read_options : ℕ → List (List ℕ) → Option (List StateOption)
read_options zero words = None
read_options (suc n) [] = Some []
read_options (suc n) (word ∷ rest) =
    elim (bytes_eq word (codes "-supply_expr")) [
      | true ↦ with_text supply_expr (read_options n) rest
      | false ↦
          elim (bytes_eq word (codes "-logic_expr")) [
            | true ↦ with_text logic_expr (read_options n) rest
            | false ↦
                elim (bytes_eq word (codes "-simstate")) [
                  | true ↦ with_text simstate (read_options n) rest
                  | false ↦
                      elim (bytes_eq word (codes "-legal")) [ true ↦ with_option legal (read_options n rest) | false ↦ with_option illegal (read_options n rest) ]
                ]
          ]
    ]

read_back : (options : List StateOption) (n : ℕ) → length (flat_map state_words options) < n → read_options n (flat_map state_words options) ≡ Some options
read_back options zero enough = absurd (omega arith)
read_back [] (suc n) enough = refl
read_back (supply_expr text ∷ options) (suc n) enough = ap (with_option (supply_expr text)) (read_back options n (omega arith))
read_back (logic_expr text ∷ options) (suc n) enough = ap (with_option (logic_expr text)) (read_back options n (omega arith))
read_back (simstate text ∷ options) (suc n) enough = ap (with_option (simstate text)) (read_back options n (omega arith))
read_back (legal ∷ options) (suc n) enough = ap (with_option legal) (read_back options n (omega arith))
read_back (illegal ∷ options) (suc n) enough = ap (with_option illegal) (read_back options n (omega arith))

pub one_state_options : (words : List (List ℕ)) (options others : List StateOption) → AreStateOptions words options → AreStateOptions words others
    → options ≡ others
one_state_options words options others h k =
    let here : read_options (suc (length (flat_map state_words options))) (flat_map state_words options) ≡ Some options =
    read_back options (suc (length (flat_map state_words options))) (omega arith) in
    let there : read_options (suc (length (flat_map state_words others))) (flat_map state_words others) ≡ Some others =
    read_back others (suc (length (flat_map state_words others))) (omega arith) in
    let same : flat_map state_words options ≡ flat_map state_words others = sym h.spelled ∙ k.spelled in
    let both : Some options ≡ Some others = sym here ∙ ap (λ ws. read_options (suc (length ws)) ws) same ∙ there in
    cc

pub one_power_state : (value state state' : List ℕ) (options others : List StateOption) → IsPowerState value state options → IsPowerState value state' others
    → (state ≡ state') × (options ≡ others)
one_power_state value state state' options others h k =
    let same : state ∷ h.words ≡ state' ∷ k.words = one_parting value (state ∷ h.words) (state' ∷ k.words) h.parted k.parted in
    let words : h.words ≡ k.words = cc in
    (cc, one_state_options k.words options others (subst (λ ws. AreStateOptions ws options) words h.spelled) k.spelled)

-- a text turned round, in front of another
abbrev onto : List ℕ → List ℕ → List ℕ
onto [] behind = behind
onto (b ∷ text) behind = onto text (b ∷ behind)

onto-append : (text more behind : List ℕ) → onto (text ++ more) behind ≡ onto more (onto text behind)
onto-append [] more behind = refl
onto-append (b ∷ text) more behind = onto-append text more (b ∷ behind)

onto-onto : (text behind rest : List ℕ) → onto (onto text behind) rest ≡ onto behind (text ++ rest)
onto-onto [] behind rest = refl
onto-onto (b ∷ text) behind rest = onto-onto text (b ∷ behind) rest

turned : (text other : List ℕ) → onto text [] ≡ onto other [] → text ≡ other
turned text other e =
    sym (append-nil text) ∙ sym (onto-onto text [] []) ∙ ap (λ t. onto t []) e ∙ onto-onto other [] [] ∙ append-nil other

heads_differ : (a b : ℕ) (x y : List ℕ) → eqb a b ≡ false → a ∷ x ≡ b ∷ y → ⊥
heads_differ a b x y other e = eqb-false a b other (let same : a ≡ b = cc in same)

from_behind : (h g : Handle) (d e : List ℕ) → onto (46 ∷ handle_text h) d ≡ onto (46 ∷ handle_text g) e → (h ≡ g) × (d ≡ e)
from_behind primary primary d e same = (refl, cc)
from_behind primary default_isolation d e same = absurd (heads_differ 121 110 _ _ refl same)
from_behind default_isolation primary d e same = absurd (heads_differ 110 121 _ _ refl same)
from_behind default_isolation default_isolation d e same = (refl, cc)

pub one_handle : (word d e : List ℕ) (h g : Handle) → IsHandle word d h → IsHandle word e g → (d ≡ e) × (h ≡ g)
one_handle word d e h g i j =
    let same : onto (46 ∷ handle_text h) (onto d []) ≡ onto (46 ∷ handle_text g) (onto e []) =
    sym (onto-append d (46 ∷ handle_text h) []) ∙ ap (λ t. onto t []) (sym i.spelled ∙ j.spelled) ∙ onto-append e (46 ∷ handle_text g) [] in
    let found = from_behind h g (onto d []) (onto e []) same in
    (turned d e found.1, found.0)
