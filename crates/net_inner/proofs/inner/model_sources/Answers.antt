use Rattle.std.proofs.Common.{◌≡◌, ◌∙◌, List, ℕ, None, Some, false, ap, length, replicate, sym}
use Rattle.std.proofs.lemmas.Bool.{false≢true}
use Rattle.pw_defs.specs.declared.design.Body.TheVariants.{Model as ModelBody}
use Rattle.list_defs.specs.Members.{all_differ, same_name}
use Rattle.net_inner.specs.Inside.{names_of_bits}
use Rattle.net_inner.specs.Pairs.{pairs_if_model, pairs_of_model, with_pairs}
use Rattle.net_inner.proofs.InnerLemmas.{model_body, if_none, if_some}
use Rattle.net_inner.proofs.inner.model_sources.Goals as goal

pub returns-in-None : goal.returns-in-None
returns-in-None c s plans at differ =
    let names = names_of_bits s c.args.placed.now (ModelBody c.args.number) in
    let none = if_none (all_differ same_name names ≡ false) (λ (index : List (List ℕ)). index ≡ names) c.in_ok-index.field-0
    (c.in_ok-index.ensures s plans (model_body s c.args.number c.args.model.now at)) c.in-None.is in
    absurd (false≢true (sym none ∙ differ))

pub returns-in_ok-sources-in-Some : goal.returns-in_ok-sources-in-Some
returns-in_ok-sources-in-Some c s plans at differ =
    let names = names_of_bits s c.args.placed.now (ModelBody c.args.number) in
    let index : c.in-Some.index ≡ names = if_some (all_differ same_name names ≡ false) (λ (index : List (List ℕ)). index ≡ names) c.in_ok-index.field-0 c.in-Some.index
    (c.in_ok-index.ensures s plans (model_body s c.args.number c.args.model.now at)) c.in-Some.is in
    ap Some (c.in_ok-sources-in-Some.ensures ∙ ap (λ (ns : List (List ℕ)). with_pairs ns (pairs_of_model c.args.model.now) (replicate (length ns) None)) index
    ∙ ap (λ o. with_pairs names (pairs_if_model o) (replicate (length names) None)) (sym at))
