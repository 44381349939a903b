-- Texts mean one design, and what isn't read isn't meant.
use Rattle.std.proofs.Common.{◌≡◌, ℕ, false, List, Option, Some, None, Result, Ok, Err, IfOk, MatchOption, map, sym, ap, subst, ◌∙◌}
use Rattle.std.proofs.lemmas.Bool.{true≢false}
use Rattle.std.proofs.lemmas.Option.{none-some, same_Some}
use Rattle.pw_defs.specs.declared.design.Design.{Design}
use Rattle.pw_defs.specs.declared.intent.Intent.{Intent}
use Rattle.line_forms.specs.declared.library_lines.CellLines.{CellLines}
use Rattle.line_forms.specs.declared.library_lines.Library.{Library}
use Rattle.line_forms.specs.declared.netlist_lines.ModuleLines.{ModuleLines}
use Rattle.line_forms.specs.LibraryForm.{IsLibrary, library_text}
use Rattle.line_forms.specs.NetlistForm.{AreModules, netlist_text}
use Rattle.form_design.specs.declared.design.FormDesign.{FormDesign}
use Rattle.form_design.specs.Hierarchy.{lines_at}
use Rattle.form_design.specs.Designs.{design_over}
use Rattle.form_design.specs.Fits.{design_fits}
use Rattle.form_design.specs.Results.{IsDesignOf}
use Rattle.upf_sign.specs.declared.answers.Answer.{Answer}
use Rattle.upf_sign.specs.declared.answers.Answer.TheVariants.{Report, OtherForm, NoLegal, Bound}
use Rattle.upf_sign.specs.Answers.{IsJudged, IsAnswer}
use Rattle.upf_sign.specs.Loaded.{IsRead, HasDesign, HasIntent, IsLoaded, IsDesignRead}

-- lines mean one design
pub one_design : (cells : List CellLines) (modules : List ModuleLines) (top : List ℕ) (x y : FormDesign)
    → IsDesignOf cells modules top x.design x.instances → IsDesignOf cells modules top y.design y.instances → x ≡ y
one_design cells modules top x y a b =
    let same_top : a.top ≡ b.top = same_Some a.top b.top (sym a.named ∙ b.named) in
    let same_design : x.design ≡ y.design = a.over.design ∙ ap (design_over cells modules) same_top ∙ sym b.over.design in
    let same_names : x.instances ≡ y.instances = a.over.insts ∙ ap (λ (n : ℕ). map (λ i. i.name) (lines_at modules n)) same_top ∙ sym b.over.insts in
    ap (λ (d : Design). record { design = d; instances = x.instances }) same_design ∙ ap (λ (n : List (List ℕ)). record { design = y.design; instances = n }) same_names

-- what the texts mean is what the lines mean that were read of them
of_read : (library netlist top : List ℕ) (cells : Library) (modules : List ModuleLines) → IsRead IsLibrary library_text library (Some cells) → IsRead AreModules netlist_text netlist (Some modules)
    → (d : Design) (instances : List (List ℕ)) → HasDesign library netlist top d instances → IsDesignOf cells.cells modules top d instances
of_read library netlist top cells modules lib net d instances has =
    let same_cells : cells ≡ has.cells = same_Some cells has.cells (lib.only has.cells has.is_library has.library_is) in
    let same_modules : modules ≡ has.modules = same_Some modules has.modules (net.only has.modules has.are_modules has.netlist_is) in
    subst (λ (l : Library). IsDesignOf l.cells modules top d instances) (sym same_cells) (subst (λ (ms : List ModuleLines). IsDesignOf has.cells.cells ms top d instances) (sym same_modules) has.design)

read_is : (library netlist top : List ℕ) (cells : Library) (modules : List ModuleLines) (x : Option FormDesign)
    → IsRead IsLibrary library_text library (Some cells) → IsRead AreModules netlist_text netlist (Some modules)
    → MatchOption x (design_fits cells.cells modules top ≡ false) (λ f. IsDesignOf cells.cells modules top f.design f.instances) → IsDesignRead library netlist top x
read_is library netlist top cells modules None lib net unfit = record {
  found = tt;
  only = λ d instances has. absurd (true≢false (sym (of_read library netlist top cells modules lib net d instances has).fits ∙ unfit));
}
read_is library netlist top cells modules (Some x) lib net means = record {
  found = record { cells = cells; is_library = lib.found.0; library_is = lib.found.1; modules = modules; are_modules = net.found.0; netlist_is = net.found.1; design = means };
  only = λ d instances has. ap (λ (f : FormDesign). Some f)
      (one_design cells.cells modules top x (record { design = d; instances = instances }) means (of_read library netlist top cells modules lib net d instances has));
}

pub design_read : {E : Type 0} (library netlist top : List ℕ) (cells : Library) (modules : List ModuleLines) (l : Option Library) (n : Option (List ModuleLines)) (r : Result (Option FormDesign) E)
    → IsRead IsLibrary library_text library l → l ≡ Some cells → IsRead AreModules netlist_text netlist n → n ≡ Some modules
    → IfOk r (λ x. MatchOption x (design_fits cells.cells modules top ≡ false) (λ f. IsDesignOf cells.cells modules top f.design f.instances))
    → IfOk r (λ x. IsDesignRead library netlist top x)
design_read library netlist top cells modules l n (Err e) lib l_is net n_is means = tt
design_read library netlist top cells modules l n (Ok x) lib l_is net n_is means =
    read_is library netlist top cells modules x (subst (IsRead IsLibrary library_text library) l_is lib) (subst (IsRead AreModules netlist_text netlist) n_is net) means

-- where no design is read, nothing is meant
pub no_design : (library netlist script top : List ℕ) (x : Option FormDesign) → IsDesignRead library netlist top x → x ≡ None
    → (d : Design) (i : Intent) → IsLoaded library netlist script top d i → ⊥
no_design library netlist script top x read is d i loaded =
    none-some (record { design = d; instances = loaded.instances }) (sym is ∙ read.only d loaded.instances loaded.design)

-- where the script means nothing on the design, nothing is meant
pub no_intent : (library netlist script top : List ℕ) (x : Option FormDesign) (form : FormDesign) → IsDesignRead library netlist top x → x ≡ Some form
    → ((i : Intent) → HasIntent script form.design form.instances i → ⊥) → (d : Design) (i : Intent) → IsLoaded library netlist script top d i → ⊥
no_intent library netlist script top x form read is none d i loaded =
    let same : form ≡ record { design = d; instances = loaded.instances } = same_Some form (record { design = d; instances = loaded.instances }) (sym is ∙ read.only d loaded.instances loaded.design) in
    none i (subst (λ (f : FormDesign). HasIntent script f.design f.instances i) (sym same) loaded.intent)

-- what is answered on what is meant
pub answered : {E : Type 0} (library netlist script top : List ℕ) (d : Design) (i : Intent) (r : Result Answer E) → IsLoaded library netlist script top d i
    → IfOk r (λ a. IsJudged d i a) → IfOk r (λ a. IsAnswer library netlist script top a)
answered library netlist script top d i (Err e) loaded judged = tt
answered library netlist script top d i (Ok (Report text clean)) loaded judged = record { design = d; intent = i; loaded = loaded; judged = judged }
answered library netlist script top d i (Ok OtherForm) loaded judged = absurd judged
answered library netlist script top d i (Ok NoLegal) loaded judged = record { design = d; intent = i; loaded = loaded; judged = judged }
answered library netlist script top d i (Ok Bound) loaded judged = record { design = d; intent = i; loaded = loaded; judged = judged }
