use Rattle.std.proofs.Common.{◌≡◌, ◌∙◌, ◌-◌, true, [], ◌∷◌, ◌++◌, length, take, nat_eq, ap, sym}
use Rattle.std.specs.Cmp.Lexicographic.{pointwise}
use Rattle.std.proofs.lemmas.List.{append_assoc}
use Rattle.design_paths.proofs.NameLemmas.{back_front, front_back, front_of, same_self}
use Rattle.design_paths.proofs.numbers.index_text.Goals as goal

pub returns-in_err-behind-clause-each : goal.returns-in_err-behind-clause-each
returns-in_err-behind-clause-each c = λ digits is.
    let vector = c.args.vector.now in
    let name = c.args.name.now in
    let front : take (length vector) name ≡ vector = ap (take (length vector)) (is ∙ append_assoc vector (91 ∷ digits) (93 ∷ [])) ∙ front_of vector ((91 ∷ digits) ++ (93 ∷ [])) in
    let found : pointwise nat_eq (take (length vector) name) vector ≡ true = ap (λ xs. pointwise nat_eq xs vector) front ∙ same_self vector in
    let lost = c.in_err-behind.ensures.cases in
    cc

pub returns-clause-text : goal.returns-clause-text
returns-clause-text c =
    let name = c.args.name.now in
    let vector = c.args.vector.now in
    let behind = c.in_ok-behind.behind.now in
    let inside = c.in_ok-inside.inside.now in
    let digits = c.in_ok-digits.digits.now in
    let first = c.in_ok-behind.ensures.cases in
    let second = c.in_ok-inside.ensures.cases in
    let third = c.in_ok-digits.ensures.cases in
    let whole : name ≡ vector ++ behind = front_back name vector behind (length vector) first.0 first.1 in
    let open_there : behind ≡ 91 ∷ inside = front_back behind (91 ∷ []) inside 1 second.0 second.1 in
    let close_there : inside ≡ digits ++ 93 ∷ [] = back_front inside digits (93 ∷ []) (length inside - 1) third.0 third.1 in
    whole ∙ ap (λ xs. vector ++ xs) (open_there ∙ ap (λ xs. 91 ∷ xs) close_there) ∙ sym (append_assoc vector (91 ∷ digits) (93 ∷ []))
