use Rattle.std.proofs.Common.{◌≡◌, take}
use Rattle.module_rows.specs.Growth.{no_module}
use Rattle.text_designs.specs.Texts.{AreNetlists}
use Rattle.text_designs.proofs.netlists.modules_of_texts.Given as goal

abbrev pub invariant-loop-text : goal.invariant-loop-text
invariant-loop-text l = record {
  counted : l.number ≡ l.text-index;
  closed : l.builder.current ≡ no_module;
  read : AreNetlists (take l.text-index l.netlists) l.builder.modules l.counts;
}
