-- The declarations of a module as the code has them.
use Rattle.std.specs.Prelude.{None}
use Rattle.std.specs.Option.{option_map}
use Rattle.net_text.specs.NetlistGrammar.{Named}
use Rattle.net_text.specs.SecondDeclarations.{Declaration, HeaderPort, PortDirection, WireName, InstanceName}
use Rattle.net_text.specs.CommaLists.{named_view}
use Rattle.net_text.specs.ParserViews.{shape_view}
use Rattle.net_text.specs.declared.declarations.DeclarationAt.{DeclarationAt}
use Rattle.net_text.specs.declared.declarations.DeclarationAt.TheVariants as made
use Rattle.net_text.specs.declared.declarations.NamesAs.{NamesAs}
use Rattle.net_text.specs.declared.declarations.NamesAs.TheVariants as kinds

abbrev pub declaration_view : DeclarationAt → Declaration
declaration_view (made.HeaderPort name shape) = HeaderPort (named_view name) (option_map shape_view shape)
declaration_view (made.PortDirection name shape) = PortDirection (named_view name) (shape_view shape)
declaration_view (made.WireName name range) = WireName (named_view name) range
declaration_view (made.InstanceName name) = InstanceName (named_view name)

-- what each name of a list declares
abbrev pub declared_as : NamesAs → Named → Declaration
declared_as kinds.HeaderPorts name = HeaderPort name None
declared_as (kinds.Directions shape) name = PortDirection name (shape_view shape)
declared_as (kinds.Wires range) name = WireName name range
