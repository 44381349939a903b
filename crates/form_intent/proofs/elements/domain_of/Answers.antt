-- Each instance has its domain.
use Rattle.std.proofs.Common.{◌≡◌, ◌<◌, ◌∙◌, ◌++◌, [], ◌∷◌, None, length, map, take, get_or, sym, ap, arith}
use Rattle.std.proofs.lemmas.List.{length-map, length-take, map_more, take_all}
use Rattle.std.proofs.lemmas.List.FromFn.{length-enumerate_from}
use Rattle.std.specs.List.{enumerate_from}
use Rattle.form_intent.specs.Intent.{domain_for}
use Rattle.form_intent.proofs.LineLemmas.{get_or-enumerate}
use Rattle.form_intent.proofs.elements.domain_of.Goals as goal

pub loop-parent-preserved : goal.loop-parent-preserved
loop-parent-preserved c =
    let parents = c.args.parents.now in
    let i = c.loop-parent.parent-index in
    let numbers = enumerate_from 0 parents in
    let domain = domain_for c.args.elements.now.keys in
    let within : i < length parents = omega arith in
    let so_far = map domain (take i numbers) in
    let inst : c.len-inst.result ≡ i =
    omega (arith, within, c.len-inst.ensures, ap length c.loop-parent.invariant.domains, length-map (take i numbers) domain, length-take i numbers, length-enumerate_from 0 parents) in
    record {
      domains = c.in_ok-push.ensures.ok ∙ ap (λ domains. domains ++ c.domain_for.result ∷ []) c.loop-parent.invariant.domains ∙ ap (λ d. so_far ++ d ∷ []) (c.domain_for.ensures ∙ ap (λ n. domain (n, get_or parents i None)) inst ∙ ap domain (sym (get_or-enumerate parents i None within))) ∙ sym (map_more domain numbers i (0, None) (omega (arith, within, length-enumerate_from 0 parents)));
      top = c.loop-parent.invariant.top;
    }

pub returns : goal.returns
returns c =
    c.loop-parent.invariant.domains ∙ ap (map (domain_for c.args.elements.now.keys)) (take_all c.loop-parent.parent-index (enumerate_from 0 c.args.parents.now) (omega (arith, c.loop-parent-test.false, length-enumerate_from 0 c.args.parents.now)))
