-- The headers that the parsers make, as the grammar sees them.
use Rattle.std.specs.Prelude.{Option, map}
use Rattle.std.specs.Option.{option_map}
use Rattle.text_defs.specs.Grammar.{Grammar}
use Rattle.text_defs.specs.Tokens.{of_class}
use Rattle.net_text.specs.NetlistClasses.{is_name}
use Rattle.net_text.specs.NetlistGrammar.{NetlistGrammar, Named, Shape, Header, Names, Shaped, names_header, shaped_header}
use Rattle.net_text.specs.CommaLists.{named_view}
use Rattle.net_text.specs.ParserViews.{shape_view}
use Rattle.net_text.specs.declared.headers.PortAt.{PortAt}
use Rattle.net_text.specs.declared.headers.HeaderAt.{HeaderAt}
use Rattle.net_text.specs.declared.headers.HeaderAt.TheVariants as made

abbrev pub port_view : PortAt → Option Shape × Named
port_view p = (option_map shape_view p.shape, named_view p.name)

abbrev pub header_view : HeaderAt → Header
header_view (made.Names names) = Names (map named_view names)
header_view (made.Shaped shape name more) = Shaped (shape_view shape) (named_view name) (map port_view more)

-- a header that holds something
abbrev pub some_header : NetlistGrammar Header
some_header = Grammar.where_next (of_class is_name) names_header shaped_header
