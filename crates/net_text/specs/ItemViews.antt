-- The items that the parsers make, as the grammar sees them.
use Rattle.std.specs.Prelude.{map}
use Rattle.net_text.specs.NetlistGrammar.{Item, Directions, Wires, Assigns, Instance}
use Rattle.net_text.specs.CommaLists.{named_view}
use Rattle.net_text.specs.ParserViews.{shape_view}
use Rattle.net_text.specs.declared.items.ItemAt.{ItemAt}
use Rattle.net_text.specs.declared.items.ItemAt.TheVariants as made

-- what is seen as it is
abbrev pub itself : {A : Type 0} → A → A
itself x = x

abbrev pub item_view : ItemAt → Item
item_view (made.Directions shape names) = Directions (shape_view shape) (map named_view names)
item_view (made.Wires range names) = Wires range (map named_view names)
item_view (made.Assigns assigns) = Assigns assigns
item_view (made.Instance kind name conns) = Instance (record { kind = named_view kind; name = named_view name; conns = conns })
