-- Modules that are added to none are those of the text alone.
use Rattle.std.proofs.Common.{◌≡◌, ℕ, List, [], ◌++◌, sym, ap, subst, ◌∙◌}
use Rattle.pw_defs.specs.declared.netlist.Module.{Module}
use Rattle.module_rows.specs.declared.plain.Draft.{Draft}
use Rattle.net_text.specs.NetlistFaults.{ReadsAsModules}
use Rattle.net_modules.specs.Drafts.{AreAdded}

pub read_alone : (text : List ℕ) (old new : Draft) → AreAdded text old new → old.modules ≡ [] → ReadsAsModules text new.modules
read_alone text old new added none =
    subst (ReadsAsModules text) (sym (ap (λ (d : Draft). d.modules) added.behind ∙ ap (λ (l : List Module). l ++ added.modules) none)) added.reads
