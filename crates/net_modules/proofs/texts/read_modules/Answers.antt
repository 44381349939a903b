use Rattle.std.proofs.Common.{sym, ap, subst}
use Rattle.module_rows.specs.declared.plain.Draft.{Draft}
use Rattle.net_text.specs.NetlistFaults.{ReadsAsModules}
use Rattle.net_modules.proofs.AddedLaws.{read_alone}
use Rattle.net_modules.proofs.texts.read_modules.Goals as goal

pub returns-clause-modules : goal.returns-clause-modules
returns-clause-modules c =
    let empty = ap (λ (d : Draft). d.modules) c.new-builder.ensures in
    let alone = read_alone c.args.text.now c.new-builder.result c.add_modules.new.builder c.in_ok-add_modules.ensures.modules empty in
    subst (ReadsAsModules c.args.text.now) (sym c.finish.ensures) alone
