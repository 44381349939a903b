use Rattle.std.proofs.Common.{length, map}
use Rattle.net_text.specs.DeclarationViews.{declaration_view}
use Rattle.net_modules.proofs.ItemLaws.{HasItems}
use Rattle.net_modules.proofs.items.module_items.Given as goal

abbrev pub invariant-loop-alloc : goal.invariant-loop-alloc
invariant-loop-alloc l = HasItems l.initial.tokens l.tokens l.initial.builder l.builder (map declaration_view l.initial.all) (map declaration_view l.all) l.count

abbrev pub decreases-loop-alloc : goal.decreases-loop-alloc
decreases-loop-alloc l = length l.tokens
