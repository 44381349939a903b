-- Each line adds the domain that it makes, with its number, from 1.
use Rattle.std.proofs.Common.{◌≡◌, ◌<◌, ◌+◌, ◌∙◌, ◌++◌, ℕ, List, length, map, take, get_or, option_to_list, sym, ap, arith}
use Rattle.std.proofs.lemmas.List.{map-append, take_all}
use Rattle.std.proofs.lemmas.List.FromFn.{length-enumerate_from, get_or-enumerate_from}
use Rattle.std.specs.List.{enumerate_from, filter_map}
use Rattle.line_forms.specs.declared.script_lines.CommandLine.{CommandLine}
use Rattle.form_intent.specs.Script.{domain_made}
use Rattle.form_intent.specs.Intent.{domain_with}
use Rattle.form_intent.specs.Sets.{set_at}
use Rattle.form_intent.proofs.LineLemmas.{filter_map_more}
use Rattle.form_intent.proofs.domains.domains_with.Goals as goal

-- the line of a place has the number behind it
numbered : (commands : List CommandLine) (i : ℕ) (command : CommandLine) → i < length commands → command ≡ get_or commands i command → get_or (enumerate_from 1 commands) i (1, command) ≡ (i + 1, command)
numbered commands i command within read =
    get_or-enumerate_from 1 commands i (1, command) within ∙ ap (λ n. (n, get_or commands i command)) (omega arith) ∙ ap (λ line. (i + 1, line)) (sym read)

pub loop-place-preserved : goal.loop-place-preserved
loop-place-preserved c =
    let known = c.args.known in
    let lines = c.args.commands.now in
    let i = c.loop-place.place in
    let command = c.index-commands-place.result in
    let within : i < length lines = omega arith in
    let domain = domain_with (set_at known.set_names.now known.sets.now) known.instances.now in
    let so_far = filter_map domain_made (take i (enumerate_from 1 lines)) in
    c.in_ok-put_domain.ensures ∙ ap (λ domains. domains ++ map domain (option_to_list (domain_made (i + 1, command)))) c.loop-place.invariant ∙ sym (map-append domain so_far (option_to_list (domain_made (i + 1, command)))) ∙ ap (λ line. map domain (so_far ++ option_to_list (domain_made line))) (sym (numbered lines i command within c.index-commands-place.is)) ∙ ap (map domain) (sym (filter_map_more domain_made (enumerate_from 1 lines) i (1, command) (omega (arith, within, length-enumerate_from 1 lines))))

pub returns : goal.returns
returns c =
    let known = c.args.known in
    let lines = c.args.commands.now in
    c.loop-place.invariant ∙ ap (λ numbers. map (domain_with (set_at known.set_names.now known.sets.now) known.instances.now) (filter_map domain_made numbers)) (take_all c.loop-place.place (enumerate_from 1 lines) (omega (arith, c.loop-place-test.false, length-enumerate_from 1 lines)))
