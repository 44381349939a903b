-- A token of a class that passes a test is clear.
use Rattle.std.proofs.Common.{◌≡◌, Bool, true, false, List, [], Option, Some, None, refl, if◌then◌else◌, ap}
use Rattle.list_defs.specs.Members.{IsIn}
use Rattle.text_defs.specs.Grammar.{CanEnd}
use Rattle.text_defs.specs.Tokens.{Token, one_of}
use Rattle.text_defs.proofs.Clear.{IsClear, clear-token}

-- the class of a token
abbrev pub class_of : {C : Type 0} → Token C → C
class_of t = t.class

pub clear-one_of : {C : Type 0} (test : C → Bool) {starts follows : List (Option C)} → ((c : C) → test c ≡ true → IsIn (Some c) starts)
    → IsClear class_of (one_of test) starts follows
clear-one_of {C} test {starts} classes = clear-token (λ k x h. at k x (test k.class) refl h)
  where
    at : (k x : Token C) (b : Bool) → test k.class ≡ b → (if b then Some k else None) ≡ Some x → IsIn (Some k.class) starts
    at k x true e h = classes k.class e
    at k x false e h = cc

pub can_end-one_of : {C : Type 0} (test : C → Bool) (c : C) → test c ≡ true → CanEnd (one_of test)
unfolding CanEnd
can_end-one_of test c h =
    let t : Token _ = record { class = c; text = []; line = 0 } in
    (t, t, ap (λ b. if b then Some t else None) h)
