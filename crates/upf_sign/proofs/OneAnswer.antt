-- Texts mean one design with one intent, and have one answer.
use Rattle.std.proofs.Common.{◌≡◌, ℕ, List, Option, map, sym, ap, subst, ◌∙◌, refl, arith}
use Rattle.std.specs.List.{filter_map, enumerate_from}
use Rattle.std.proofs.lemmas.Cmp.{nat_list_cmp_total}
use Rattle.std.proofs.lemmas.Option.{same_Some}
use Rattle.pw_defs.specs.declared.conditions.UnitCond.{UnitCond}
use Rattle.pw_defs.specs.declared.design.Design.{Design}
use Rattle.pw_defs.specs.declared.intent.CellSet.{CellSet}
use Rattle.pw_defs.specs.declared.intent.Domain.{Domain}
use Rattle.pw_defs.specs.declared.intent.Intent.{Intent}
use Rattle.pw_defs.specs.declared.intent.PortSet.{PortSet}
use Rattle.pw_defs.specs.declared.intent.RootList.{RootList}
use Rattle.pw_defs.specs.declared.intent.Unit.{Unit as IntentUnit}
use Rattle.pw_defs.specs.declared.intent.Want.{Want}
use Rattle.pw_defs.specs.declared.report.Report.{Report as ReportOf}
use Rattle.pw_defs.specs.declared.strategies.Strategy.{Strategy}
use Rattle.pw_defs.specs.declared.supplies.Supply.{Supply}
use Rattle.list_defs.specs.Orders.{name_cmp}
use Rattle.signoff_defs.specs.ReportText.{report_text}
use Rattle.list_defs.proofs.InOrder.{put_once}
use Rattle.line_forms.specs.declared.library_lines.Library.{Library}
use Rattle.line_forms.specs.declared.netlist_lines.ModuleLines.{ModuleLines}
use Rattle.line_forms.specs.declared.script_lines.CommandLine.{CommandLine}
use Rattle.line_forms.specs.Reading.{whole}
use Rattle.line_forms.specs.LibraryForm.{IsLibrary, library_text}
use Rattle.line_forms.specs.LibraryReading.{library_at}
use Rattle.line_forms.specs.NetlistForm.{AreModules, netlist_text}
use Rattle.line_forms.specs.NetlistReading.{netlist_at}
use Rattle.line_forms.specs.ScriptForm.{AreCommands, script_text}
use Rattle.line_forms.specs.ScriptReading.{script_at}
use Rattle.line_forms.proofs.Laws.{whole_again}
use Rattle.line_forms.proofs.LibraryLaws.{library_again}
use Rattle.line_forms.proofs.NetlistLaws.{netlist_again}
use Rattle.line_forms.proofs.ScriptLaws.{script_again}
use Rattle.form_design.specs.declared.design.FormDesign.{FormDesign}
use Rattle.form_design.specs.Results.{IsDesignOf}
use Rattle.form_intent.specs.Script.{nets_made, sets_made, domains_made, supply_of, root_list, cond_of, set_named}
use Rattle.form_intent.specs.Intent.{IsIntentOf, domain_with, supply_names}
use Rattle.checks.specs.Laws.{HasOneReport}
use Rattle.upf_sign.specs.declared.answers.Answer.{Answer}
use Rattle.upf_sign.specs.declared.answers.Answer.TheVariants.{Report, OtherForm, NoLegal, Bound}
use Rattle.upf_sign.specs.Answers.{IsJudged, IsAnswerOn, has_none}
use Rattle.upf_sign.specs.Laws.{HasOneAnswer}
use Rattle.upf_sign.specs.Loaded.{HasDesign, HasIntent, IsLoaded}
use Rattle.upf_sign.proofs.Meant.{one_design}

-- ---- one reading of each text

one_library : (text : List ℕ) (x y : Library) → IsLibrary x → text ≡ library_text x → IsLibrary y → text ≡ library_text y → x ≡ y
one_library text x y is_x spells_x is_y spells_y =
    same_Some x y (sym (whole_again library_again tt x is_x) ∙ ap (whole library_at) (sym spells_x ∙ spells_y) ∙ whole_again library_again tt y is_y)

one_netlist : (text : List ℕ) (x y : List ModuleLines) → AreModules x → text ≡ netlist_text x → AreModules y → text ≡ netlist_text y → x ≡ y
one_netlist text x y are_x spells_x are_y spells_y =
    same_Some x y (sym (whole_again netlist_again (tt, refl) x are_x) ∙ ap (whole netlist_at) (sym spells_x ∙ spells_y) ∙ whole_again netlist_again (tt, refl) y are_y)

one_script : (text : List ℕ) (x y : List CommandLine) → AreCommands x → text ≡ script_text x → AreCommands y → text ≡ script_text y → x ≡ y
one_script text x y are_x spells_x are_y spells_y =
    same_Some x y (sym (whole_again script_again (tt, refl) x are_x) ∙ ap (whole script_at) (sym spells_x ∙ spells_y) ∙ whole_again script_again (tt, refl) y are_y)

-- ---- one design with one intent

design_once : (library netlist top : List ℕ) (x y : FormDesign) → HasDesign library netlist top x.design x.instances → HasDesign library netlist top y.design y.instances → x ≡ y
design_once library netlist top x y a b =
    let same_cells : b.cells ≡ a.cells = one_library library b.cells a.cells b.is_library b.library_is a.is_library a.library_is in
    let same_modules : b.modules ≡ a.modules = one_netlist netlist b.modules a.modules b.are_modules b.netlist_is a.are_modules a.netlist_is in
    one_design a.cells.cells a.modules top x y a.design
    (subst (λ (l : Library). IsDesignOf l.cells a.modules top y.design y.instances) same_cells (subst (λ (ms : List ModuleLines). IsDesignOf b.cells.cells ms top y.design y.instances) same_modules b.design))

-- a script means one intent
intent_with : {w : Want} {u v : List IntentUnit} {a b : List Supply} {c e : List RootList} {f g : List Domain} {h k : List ℕ} {l m : List Strategy} {n o : List CellSet} {p q : List PortSet} {r s : List UnitCond}
    → u ≡ v → a ≡ b → c ≡ e → f ≡ g → h ≡ k → l ≡ m → n ≡ o → p ≡ q → r ≡ s
    → (let i : Intent = record { want = w; units = u; supplies = a; lists = c; domains = f; domain_of = h; strategies = l; cell_sets = n; port_sets = p; conds = r } in i)
    ≡ record { want = w; units = v; supplies = b; lists = e; domains = g; domain_of = k; strategies = m; cell_sets = o; port_sets = q; conds = s }
intent_with {w} {u} {v} {a} {b} {c} {e} {f} {g} {h} {k} {l} {m} {n} {o} {p} {q} {r} {s} e1 e2 e3 e4 e5 e6 e7 e8 e9 = cc

one_intent : (commands : List CommandLine) (instances : List (List ℕ)) (parents : List (Option ℕ)) (i j : Intent) → IsIntentOf commands instances parents i → IsIntentOf commands instances parents j → i ≡ j
one_intent commands instances parents i j a b =
    let names : supply_names i ≡ supply_names j = put_once name_cmp nat_list_cmp_total (nets_made commands) (supply_names i) (supply_names j) a.order b.order in
    let want : i.want ≡ j.want = a.want ∙ sym b.want in
    ap (λ (w : Want). record i { want = w }) want
    ∙ intent_with (a.units ∙ sym b.units)
    (a.supplies ∙ ap (λ (n : List (List ℕ)). map (supply_of commands) n) names ∙ sym b.supplies)
    (a.lists ∙ ap (λ (n : List (List ℕ)). map (root_list commands) (enumerate_from 0 n)) names ∙ sym b.lists)
    (a.domains ∙ ap (λ (n : List (List ℕ)). map (domain_with (set_named n (sets_made commands)) instances) (domains_made commands)) names ∙ sym b.domains)
    (a.domain_of ∙ sym b.domain_of)
    (a.strategies ∙ sym b.strategies)
    (a.cell_sets ∙ sym b.cell_sets)
    (a.port_sets ∙ sym b.port_sets)
    (a.conds ∙ ap (λ (n : List (List ℕ)). filter_map (cond_of commands) (enumerate_from 0 n)) names ∙ sym b.conds)

intent_once : (script : List ℕ) (d : Design) (instances : List (List ℕ)) (i j : Intent) → HasIntent script d instances i → HasIntent script d instances j → i ≡ j
intent_once script d instances i j a b =
    let same_commands : b.commands ≡ a.commands = one_script script b.commands a.commands b.are_commands b.script_is a.are_commands a.script_is in
    one_intent a.commands instances (map (λ inst. inst.parent) d.insts) i j a.intent (subst (λ (cs : List CommandLine). IsIntentOf cs instances (map (λ inst. inst.parent) d.insts) j) same_commands b.intent)

-- what texts mean is one design with one intent
loaded_once : (library netlist script top : List ℕ) (d e : Design) (i j : Intent) → IsLoaded library netlist script top d i → IsLoaded library netlist script top e j → (d ≡ e) × (i ≡ j)
loaded_once library netlist script top d e i j a b =
    let same = design_once library netlist top (record { design = d; instances = a.instances }) (record { design = e; instances = b.instances }) a.design b.design in
    (ap (λ (f : FormDesign). f.design) same, intent_once script e b.instances i j (subst (λ (f : FormDesign). HasIntent script f.design f.instances i) same a.intent) b.intent)

-- ---- one answer

-- a design with its intent has one answer
judged_once : HasOneReport → (d : Design) (i : Intent) (a b : Answer) → IsJudged d i a → IsJudged d i b → a ≡ b
judged_once one d i (Report t c) (Report u e) p q =
    let same : p.report ≡ q.report = one d i p.report q.report p.is_report q.is_report in
    let same_text : t ≡ u = p.text_is ∙ ap report_text same ∙ sym q.text_is in
    let same_end : c ≡ e = p.clean_is ∙ ap (λ (r : ReportOf). has_none r.findings) same ∙ sym q.clean_is in
    cc
judged_once one d i (Report t c) OtherForm p q = absurd q
judged_once one d i (Report t c) NoLegal p q = absurd (p.some q.none)
judged_once one d i (Report t c) Bound p q = absurd (omega (arith, p.few, q))
judged_once one d i OtherForm b p q = absurd p
judged_once one d i NoLegal (Report u e) p q = absurd (q.some p.none)
judged_once one d i NoLegal OtherForm p q = absurd q
judged_once one d i NoLegal NoLegal p q = refl
judged_once one d i NoLegal Bound p q = absurd (omega (arith, p.few, q))
judged_once one d i Bound (Report u e) p q = absurd (omega (arith, q.few, p))
judged_once one d i Bound OtherForm p q = absurd q
judged_once one d i Bound NoLegal p q = absurd (omega (arith, q.few, p))
judged_once one d i Bound Bound p q = refl

on_once : HasOneReport → (library netlist script top : List ℕ) (a b : Answer) → IsAnswerOn library netlist script top a → IsAnswerOn library netlist script top b → a ≡ b
on_once one library netlist script top a b p q =
    let same = loaded_once library netlist script top p.design q.design p.intent q.intent p.loaded q.loaded in
    judged_once one q.design q.intent a b
    (subst (λ (i : Intent). IsJudged q.design i a) same.1 (subst (λ (d : Design). IsJudged d p.intent a) same.0 p.judged)) q.judged

pub one_answer : HasOneReport → HasOneAnswer
one_answer one library netlist script top (Report t c) (Report u e) p q = on_once one library netlist script top (Report t c) (Report u e) p q
one_answer one library netlist script top (Report t c) OtherForm p q = absurd (q p.design p.intent p.loaded)
one_answer one library netlist script top (Report t c) NoLegal p q = on_once one library netlist script top (Report t c) NoLegal p q
one_answer one library netlist script top (Report t c) Bound p q = on_once one library netlist script top (Report t c) Bound p q
one_answer one library netlist script top OtherForm (Report u e) p q = absurd (p q.design q.intent q.loaded)
one_answer one library netlist script top OtherForm OtherForm p q = refl
one_answer one library netlist script top OtherForm NoLegal p q = absurd (p q.design q.intent q.loaded)
one_answer one library netlist script top OtherForm Bound p q = absurd (p q.design q.intent q.loaded)
one_answer one library netlist script top NoLegal (Report u e) p q = on_once one library netlist script top NoLegal (Report u e) p q
one_answer one library netlist script top NoLegal OtherForm p q = absurd (q p.design p.intent p.loaded)
one_answer one library netlist script top NoLegal NoLegal p q = refl
one_answer one library netlist script top NoLegal Bound p q = on_once one library netlist script top NoLegal Bound p q
one_answer one library netlist script top Bound (Report u e) p q = on_once one library netlist script top Bound (Report u e) p q
one_answer one library netlist script top Bound OtherForm p q = absurd (q p.design p.intent p.loaded)
one_answer one library netlist script top Bound NoLegal p q = on_once one library netlist script top Bound NoLegal p q
one_answer one library netlist script top Bound Bound p q = refl
