use Rattle.std.proofs.Common.{map, take}
use Rattle.net_text.specs.DeclarationViews.{declaration_view}
use Rattle.net_text.specs.SecondDeclarations.{IsRefused}
use Rattle.net_modules.specs.SaidTables.{IsTableOf}
use Rattle.net_modules.proofs.PlaceLaws.{AreClearTo}
use Rattle.net_modules.proofs.refusals.refusal.Given as goal

-- the table tells of those so far, and each of them can be
abbrev pub invariant-loop-declaration : goal.invariant-loop-declaration
invariant-loop-declaration l = record {
  table : IsTableOf l.so_far (map declaration_view (take l.declaration-index l.all));
  clear : AreClearTo IsRefused (map declaration_view l.all) l.declaration-index;
}
