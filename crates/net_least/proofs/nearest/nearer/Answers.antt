use Rattle.std.proofs.Common.{◌∷◌, [], ◌++◌, Some, refl, sym, ap, ◌∙◌, subst}
use Rattle.std.proofs.lemmas.Bool.{false≢true}
use Rattle.net_least.specs.Links.{IsWay}
use Rattle.net_least.specs.Nearest.{IsNear, IsNearest, IsWayBy}
use Rattle.net_least.specs.declared.links.Link.{Link}
use Rattle.net_least.specs.declared.nearest.Near.{Near}
use Rattle.net_least.proofs.Nears.{goes_through, near_first, near_nearer, near_still}
use Rattle.net_least.proofs.Spelled.{way_grows}
use Rattle.net_least.proofs.nearest.nearer.Goals as goal

pub returns-then-branch-clause-near : goal.returns-then-branch-clause-near
returns-then-branch-clause-near c s own insts i k names some spelled type best inner =
    let symbols = c.args.modules.now.symbols in
    let links = c.args.links.now in
    let l : Link = record { name = c.args.name; next = c.args.inner.at } in
    let at = ap Some c.len.ensures in
    let old : IsNearest symbols links (IsWayBy s own insts) c.in-Some.before = subst (IsNear symbols links (IsWayBy s own insts)) c.in-Some.is best in
    let all = c.as_slice.ensures.items ∙ c.in_ok-push.ensures.ok in
    let through : Near = record { at = Some c.len.result; end = c.args.inner.end } in
    let way = goes_through s own symbols links names insts i k some type c.args.inner through l spelled refl at refl inner in
    let was = way_grows symbols links (l ∷ []) c.in-Some.before.at old.way old.goes in
    let test = c.in_ok-is_before-in-Some.ensures (inner.way ++ i.name ∷ []) old.way (subst (λ xs. IsWay symbols xs (Some c.len.result) (inner.way ++ i.name ∷ [])) (sym all) way)
    (subst (λ xs. IsWay symbols xs c.in-Some.before.at old.way) (sym all) was) in
    subst (λ xs. IsNearest symbols xs (IsWayBy s own (insts ++ i ∷ [])) through) (sym c.in_ok-push.ensures.ok)
    (near_nearer s own symbols links names insts i k some type c.args.inner through l spelled refl at refl inner c.in-Some.before old (test.0 c.if-branch.true))

pub returns-else-branch-clause-near : goal.returns-else-branch-clause-near
returns-else-branch-clause-near c s own insts i k names some spelled type best inner =
    let symbols = c.args.modules.now.symbols in
    let links = c.args.links.now in
    let l : Link = record { name = c.args.name; next = c.args.inner.at } in
    let at = ap Some c.len.ensures in
    let old : IsNearest symbols links (IsWayBy s own insts) c.in-Some.before = subst (IsNear symbols links (IsWayBy s own insts)) c.in-Some.is best in
    let all = c.as_slice.ensures.items ∙ c.in_ok-push.ensures.ok in
    let through : Near = record { at = Some c.len.result; end = c.args.inner.end } in
    let way = goes_through s own symbols links names insts i k some type c.args.inner through l spelled refl at refl inner in
    let was = way_grows symbols links (l ∷ []) c.in-Some.before.at old.way old.goes in
    let test = c.in_ok-is_before-in-Some.ensures (inner.way ++ i.name ∷ []) old.way (subst (λ xs. IsWay symbols xs (Some c.len.result) (inner.way ++ i.name ∷ [])) (sym all) way)
    (subst (λ xs. IsWay symbols xs c.in-Some.before.at old.way) (sym all) was) in
    subst (λ xs. IsNearest symbols xs (IsWayBy s own (insts ++ i ∷ [])) c.in-Some.before) (sym c.in_ok-push.ensures.ok)
    (near_still s own symbols links names insts i k some type c.args.inner through l spelled refl at refl inner c.in-Some.before old
    (λ less. false≢true (sym c.if-branch.false ∙ test.1 less)))

pub returns-in-None-clause-near : goal.returns-in-None-clause-near
returns-in-None-clause-near c s own insts i k names some spelled type best inner =
    let symbols = c.args.modules.now.symbols in
    let links = c.args.links.now in
    let l : Link = record { name = c.args.name; next = c.args.inner.at } in
    let through : Near = record { at = Some c.len.result; end = c.args.inner.end } in
    subst (λ xs. IsNearest symbols xs (IsWayBy s own (insts ++ i ∷ [])) through) (sym c.in_ok-push.ensures.ok)
    (near_first s own symbols links names insts i k some type c.args.inner through l spelled refl (ap Some c.len.ensures) refl inner
    (subst (IsNear symbols links (IsWayBy s own insts)) c.in-None.is best))
