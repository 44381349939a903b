use Rattle.std.proofs.Common.{◌≡◌, ◌<◌, ◌++◌, ◌∙◌, ℕ, List, MatchOption, ap, length, subst}
use Rattle.net_feeds.proofs.names.name_of.Goals as goal

pub returns : goal.returns
returns c s there spots all x other at is =
    subst (λ o. MatchOption o (4294967295 < length c.into_vec.result.items) (λ (n : List ℕ). n ≡ c.into_vec.result.items)) c.in_ok-name.ensures.ok_part c.from_vec.ensures
    ∙ c.into_vec.ensures ∙ c.in_ok-put_bit_name.ensures s there spots all x at other is ∙ ap (λ text. text ++ other) c.new-text.ensures
