-- Texts that begin with one text and go on with another.
use Rattle.std.proofs.Common.{◌≡◌, ℕ, Bool, true, false, ◌&&◌, nat_eq, List, [], ◌∷◌, ◌++◌, length, take, drop, refl, sym, ap, ◌∙◌}
use Rattle.std.specs.List.{starts_with}
use Rattle.list_defs.specs.Members.{same_name}
use Rattle.list_defs.proofs.NameLemmas.{same_name-symmetric}

and_assoc : (a b c : Bool) → (a && (b && c)) ≡ ((a && b) && c)
and_assoc true b c = refl
and_assoc false b c = refl

starts_both : (name path more : List ℕ) → starts_with nat_eq name (path ++ more) ≡ (same_name path (take (length path) name) && starts_with nat_eq (drop (length path) name) more)
starts_both name [] more = refl
starts_both [] (c ∷ cs) more = refl
starts_both (b ∷ bs) (c ∷ cs) more =
    ap (λ x. nat_eq c b && x) (starts_both bs cs more) ∙ and_assoc (nat_eq c b) (same_name cs (take (length cs) bs)) (starts_with nat_eq (drop (length cs) bs) more)

-- a name that begins with a path goes on as what is behind that does
pub goes_on : (name path more behind : List ℕ) → same_name (take (length path) name) path ≡ true → behind ≡ drop (length path) name
    → starts_with nat_eq behind more ≡ starts_with nat_eq name (path ++ more)
goes_on name path more behind front is =
    ap (λ xs. starts_with nat_eq xs more) is
    ∙ sym
    (starts_both name path more
    ∙ ap (λ b. b && starts_with nat_eq (drop (length path) name) more) (same_name-symmetric path (take (length path) name) ∙ front))

pub not_begun : (name path more : List ℕ) → same_name (take (length path) name) path ≡ false → false ≡ starts_with nat_eq name (path ++ more)
not_begun name path more front =
    sym
    (starts_both name path more
    ∙ ap (λ b. b && starts_with nat_eq (drop (length path) name) more) (same_name-symmetric path (take (length path) name) ∙ front))
