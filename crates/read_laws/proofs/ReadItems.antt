-- What is known of the words of a netlist's modules: no name in them is empty, and no constant stands on the left of an assignment.
use Rattle.std.proofs.Common.{◌≢◌, ℕ, zero, suc, List, [], ◌∷◌, Option, None, Some, map}
use Rattle.std.specs.Prelude.{IfSome, option_map, unwrap_or}
use Rattle.std.specs.List.{AllByRecursion, flat_map}
use Rattle.std.specs.Option.{option_to_list}
use Rattle.pw_defs.specs.declared.netlist.Assign.{Assign}
use Rattle.pw_defs.specs.declared.netlist.Conn.{Conn}
use Rattle.pw_defs.specs.declared.netlist.Expr.{Expr}
use Rattle.pw_defs.specs.declared.netlist.Expr.TheVariants.{Join}
use Rattle.pw_defs.specs.declared.netlist.Inst.{Inst}
use Rattle.list_defs.proofs.Rising.{each_joined}
use Rattle.text_defs.specs.Grammar.{Grammar, Reads, ◌>>=◌}
use Rattle.text_defs.specs.Phrases.{many, option}
use Rattle.text_defs.specs.Tokens.{Token, of_class, one_of}
use Rattle.net_text.specs.ModulesMeant.{assigns_in, insts_in}
use Rattle.net_text.specs.NetlistClasses.{begins_expr, begins_header, begins_item, is_assign, is_comma, is_constant, is_direction, is_dot, is_endmodule, is_equals, is_left_brace, is_left_bracket, is_module, is_name, is_open, is_right_brace, is_semicolon, is_shut, is_wire}
use Rattle.net_text.specs.NetlistGrammar.{Assigns, Directions, Header, Item, Lined, ModuleWords, Named, Names, NetlistGrammar, Shape, Wires}
use Rattle.net_text.specs.NetlistGrammar.{assignment, assigns_item, comma_list, concatenation, connection, constant, directions_item, expr, expr_of, further_port}
use Rattle.net_text.specs.NetlistGrammar.{header, header_between, header_inside, instance_item, item, module_words, most, name, names_header, nested, netlist}
use Rattle.net_text.specs.NetlistGrammar.{operand, range_option, selected_name, selection, shape, shaped_header, target, unlined, wires_item}
use Rattle.net_text.specs.NetlistTokens.{NetlistClass}
use Rattle.net_text.specs.SecondDeclarations.{Declaration, HeaderPort, PortDirection, WireName, declarations, header_ports, item_declarations, named_in, shaped_ports}
use Rattle.read_laws.proofs.FullNames.{HasFullNames, constant_is_full, joined_is_full, selected_is_full}
use Rattle.read_laws.proofs.FullTokens.{HasText}
use Rattle.read_laws.proofs.LeftSides.{IsTarget, joined_is_target, selected_is_target}
use Rattle.read_laws.proofs.Phrases.{Holds, holds-behind, holds-gives, holds-many, holds-listed, holds-one_of, holds-option, holds-then, holds-where}

-- P holds of what is read from tokens that have texts
abbrev Gives : {A : Type 0} → NetlistGrammar A → (A → Type 0) → Type 0
Gives g P = Holds HasText g P

-- behind what may be anything
behind : {A B : Type 0} (first : NetlistGrammar A) (second : A → NetlistGrammar B) (Q : B → Type 0) → ((x : A) → Gives (second x) Q)
    → Gives (first >>= second) Q
behind first second Q two = holds-behind HasText first second Q two

-- ---- names

abbrev IsFull : Named → Type 0
IsFull n = n.text ≢ []

of_name : Gives name IsFull
of_name = holds-then HasText (one_of is_name) _ HasText IsFull (holds-one_of HasText is_name) (λ t full. holds-gives HasText IsFull _ full)

abbrev AreFull : List Named → Type 0
AreFull = AllByRecursion IsFull

of_names : Gives (comma_list name) AreFull
of_names = holds-listed HasText most (of_class is_comma) (one_of is_comma) name IsFull of_name

-- ---- expressions

abbrev HasFullLine : Lined → Type 0
HasFullLine x = HasFullNames x.expr

-- a left side: no constant, and no empty name
record IsLeft (e : Expr) : Type 0 where
  target : IsTarget e
  full : HasFullNames e

abbrev IsLeftLine : Lined → Type 0
IsLeftLine x = IsLeft x.expr

of_selected : Gives selected_name IsLeftLine
of_selected =
    holds-then HasText name _ IsFull IsLeftLine of_name
    (λ n full. behind (option (of_class is_left_bracket) selection) _ IsLeftLine
    (λ s. holds-gives HasText IsLeftLine _ (record { target = selected_is_target n.text s; full = selected_is_full n.text s full })))

of_constant : Gives constant HasFullLine
of_constant = behind (one_of is_constant) _ HasFullLine (λ t. holds-gives HasText HasFullLine _ (constant_is_full _))

of_operand : Gives operand HasFullLine
of_operand =
    holds-where HasText (of_class is_name) selected_name constant HasFullLine (λ tokens x such reads. (of_selected tokens x such reads).full) of_constant

-- what holds of a concatenation where it holds of its parts
abbrev Joins : (Expr → Type 0) → Type 0
Joins P = (parts : List Expr) → AllByRecursion P parts → P (Join parts)

abbrev OfLine : (Expr → Type 0) → Lined → Type 0
OfLine P x = P x.expr

of_unlined : (P : Expr → Type 0) (inner : NetlistGrammar Lined) → Gives inner (OfLine P) → Gives (unlined inner) P
of_unlined P inner of_inner = holds-then HasText inner _ (OfLine P) P of_inner (λ x holds. holds-gives HasText P _ holds)

of_nested : (P : Expr → Type 0) → Joins P → (alone : NetlistGrammar Lined) → Gives alone (OfLine P) → (depth : ℕ) → Gives (nested alone depth) (OfLine P)
unfolding nested
of_nested P joins alone of_alone zero = of_alone
of_nested P joins alone of_alone (suc depth) =
    holds-where HasText (of_class is_left_brace) (concatenation (nested alone depth)) alone (OfLine P)
    (behind (one_of is_left_brace) _ (OfLine P)
    (λ brace. holds-then HasText (comma_list (unlined (nested alone depth))) _ (AllByRecursion P) (OfLine P)
    (holds-listed HasText most (of_class is_comma) (one_of is_comma) (unlined (nested alone depth)) P
    (of_unlined P (nested alone depth) (of_nested P joins alone of_alone depth)))
    (λ parts each. behind (one_of is_right_brace) _ (OfLine P) (λ closed. holds-gives HasText (OfLine P) _ (joins parts each)))))
    of_alone

of_expr : Gives expr HasFullLine
of_expr = of_nested HasFullNames joined_is_full operand of_operand 100

targets : (parts : List Expr) → AllByRecursion IsLeft parts → AllByRecursion IsTarget parts
targets [] each = tt
targets (x ∷ parts) each = (each.0.target, targets parts each.1)

fulls : (parts : List Expr) → AllByRecursion IsLeft parts → AllByRecursion HasFullNames parts
fulls [] each = tt
fulls (x ∷ parts) each = (each.0.full, fulls parts each.1)

of_target : Gives target IsLeftLine
of_target =
    of_nested IsLeft (λ parts each. record { target = joined_is_target parts (targets parts each); full = joined_is_full parts (fulls parts each) }) selected_name
    of_selected 100

-- ---- lines

-- an assignment without a constant on the left or an empty name
pub record IsReadAssign (a : Assign) : Type 0 where
  pub target : IsTarget a.left
  pub left : HasFullNames a.left
  pub right : HasFullNames a.right

of_assignment : Gives assignment IsReadAssign
of_assignment =
    holds-then HasText target _ IsLeftLine IsReadAssign of_target
    (λ left of_left. behind (one_of is_equals) _ IsReadAssign
    (λ equals. holds-then HasText expr _ HasFullLine IsReadAssign of_expr
    (λ right full. holds-gives HasText IsReadAssign _ (record { target = of_left.target; left = of_left.full; right = full }))))

abbrev pub IsFullConn : Conn → Type 0
IsFullConn c = AllByRecursion HasFullNames (option_to_list c.expr)

there : (e : Option Lined) → IfSome e HasFullLine → AllByRecursion HasFullNames (option_to_list (option_map expr_of e))
there None full = tt
there (Some x) full = (full, tt)

of_connection : Gives connection IsFullConn
of_connection =
    behind (one_of is_dot) _ IsFullConn
    (λ dot. behind name _ IsFullConn
    (λ port. behind (one_of is_open) _ IsFullConn
    (λ opened. holds-then HasText (option (of_class begins_expr) expr) _ (λ e. IfSome e HasFullLine) IsFullConn
    (holds-option HasText (of_class begins_expr) expr HasFullLine of_expr)
    (λ e full. behind (one_of is_shut) _ IsFullConn (λ closed. holds-gives HasText IsFullConn _ (there e full))))))

-- ---- declarations

abbrev pub IsFullDeclaration : Declaration → Type 0
IsFullDeclaration d = (named_in d).text ≢ []

abbrev AreDeclared : List Declaration → Type 0
AreDeclared = AllByRecursion IsFullDeclaration

each_declared : (to : Named → Declaration) → ((n : Named) → IsFull n → IsFullDeclaration (to n)) → (names : List Named) → AreFull names
    → AreDeclared (map to names)
each_declared to keeps [] each = tt
each_declared to keeps (n ∷ names) each = (keeps n each.0, each_declared to keeps names each.1)

abbrev IsFullPort : Option Shape × Named → Type 0
IsFullPort p = IsFull p.1

each_shaped : (s : Shape) (more : List (Option Shape × Named)) → AllByRecursion IsFullPort more → AreDeclared (shaped_ports s more)
each_shaped s [] each = tt
each_shaped s ((None, n) ∷ more) each = (each.0, each_shaped s more each.1)
each_shaped s ((Some other, n) ∷ more) each = (each.0, each_shaped other more each.1)

abbrev pub IsFullHeader : Header → Type 0
IsFullHeader h = AreDeclared (header_ports h)

of_further_port : Gives further_port IsFullPort
of_further_port =
    behind (one_of is_comma) _ IsFullPort
    (λ comma. behind (option (of_class is_direction) shape) _ IsFullPort
    (λ s. holds-then HasText name _ IsFull IsFullPort of_name (λ n full. holds-gives HasText IsFullPort _ full)))

of_shaped_header : Gives shaped_header IsFullHeader
of_shaped_header =
    behind shape _ IsFullHeader
    (λ s. holds-then HasText name _ IsFull IsFullHeader of_name
    (λ n full. holds-then HasText (many most (of_class is_comma) further_port) _ (AllByRecursion IsFullPort) IsFullHeader
    (holds-many HasText most (of_class is_comma) further_port IsFullPort of_further_port)
    (λ more each. holds-gives HasText IsFullHeader _ (full, each_shaped s more each))))

of_names_header : Gives names_header IsFullHeader
of_names_header =
    holds-then HasText (comma_list name) _ AreFull IsFullHeader of_names
    (λ names each. holds-gives HasText IsFullHeader _ (each_declared (λ n. HeaderPort n None) (λ n full. full) names each))

abbrev IfHeader : Option Header → Type 0
IfHeader inside = IfSome inside IsFullHeader

of_between : Gives header_between IfHeader
of_between =
    behind (one_of is_open) _ IfHeader
    (λ opened. holds-then HasText header_inside _ IfHeader IfHeader
    (holds-option HasText (of_class begins_header) (Grammar.where_next (of_class is_name) names_header shaped_header) IsFullHeader
    (holds-where HasText (of_class is_name) names_header shaped_header IsFullHeader of_names_header of_shaped_header))
    (λ inside full. behind (one_of is_shut) _ IfHeader (λ closed. holds-gives HasText IfHeader _ full)))

header_there : (h : Option (Option Header)) → IfSome h IfHeader → IsFullHeader (unwrap_or (unwrap_or h None) (Names []))
header_there None full = tt
header_there (Some None) full = tt
header_there (Some (Some h)) full = full

of_header : Gives header IsFullHeader
of_header =
    holds-then HasText (option (of_class is_open) header_between) _ (λ h. IfSome h IfHeader) IsFullHeader
    (holds-option HasText (of_class is_open) header_between IfHeader of_between)
    (λ h full. holds-gives HasText IsFullHeader _ (header_there h full))

-- ---- items

abbrev pub IsFullInst : Inst → Type 0
IsFullInst i = AllByRecursion IsFullConn i.conns

-- an item that declares no empty name, in whose lines none stands alone, and no constant on the left
pub record IsReadItem (x : Item) : Type 0 where
  pub names : AllByRecursion IsFullDeclaration (item_declarations x)
  pub assigns : AllByRecursion IsReadAssign (assigns_in x)
  pub insts : AllByRecursion IsFullInst (insts_in x)

of_directions : Gives directions_item IsReadItem
of_directions =
    behind shape _ IsReadItem
    (λ s. holds-then HasText (comma_list name) _ AreFull IsReadItem of_names
    (λ names each. behind (one_of is_semicolon) _ IsReadItem
    (λ semicolon. holds-gives HasText IsReadItem (Directions s names)
    (record { names = each_declared (λ n. PortDirection n s) (λ n full. full) names each; assigns = tt; insts = tt }))))

of_wires : Gives wires_item IsReadItem
of_wires =
    behind (one_of is_wire) _ IsReadItem
    (λ wire. behind range_option _ IsReadItem
    (λ r. holds-then HasText (comma_list name) _ AreFull IsReadItem of_names
    (λ names each. behind (one_of is_semicolon) _ IsReadItem
    (λ semicolon. holds-gives HasText IsReadItem (Wires r names)
    (record { names = each_declared (λ n. WireName n r) (λ n full. full) names each; assigns = tt; insts = tt })))))

of_assigns : Gives assigns_item IsReadItem
of_assigns =
    behind (one_of is_assign) _ IsReadItem
    (λ word. holds-then HasText (comma_list assignment) _ (AllByRecursion IsReadAssign) IsReadItem
    (holds-listed HasText most (of_class is_comma) (one_of is_comma) assignment IsReadAssign of_assignment)
    (λ assigns each. behind (one_of is_semicolon) _ IsReadItem
    (λ semicolon. holds-gives HasText IsReadItem (Assigns assigns) (record { names = tt; assigns = each; insts = tt }))))

conns_there : (conns : Option (List Conn)) → IfSome conns (AllByRecursion IsFullConn) → AllByRecursion IsFullConn (unwrap_or conns [])
conns_there None full = tt
conns_there (Some conns) full = full

of_instance : Gives instance_item IsReadItem
of_instance =
    behind name _ IsReadItem
    (λ kind. holds-then HasText name _ IsFull IsReadItem of_name
    (λ own full. behind (one_of is_open) _ IsReadItem
    (λ opened. holds-then HasText (option (of_class is_dot) (comma_list connection)) _ (λ c. IfSome c (AllByRecursion IsFullConn)) IsReadItem
    (holds-option HasText (of_class is_dot) (comma_list connection) (AllByRecursion IsFullConn)
    (holds-listed HasText most (of_class is_comma) (one_of is_comma) connection IsFullConn of_connection))
    (λ conns each. behind (one_of is_shut) _ IsReadItem
    (λ closed. behind (one_of is_semicolon) _ IsReadItem
    (λ semicolon. holds-gives HasText IsReadItem _ (record { names = (full, tt); assigns = tt; insts = (conns_there conns each, tt) })))))))

of_item : Gives item IsReadItem
of_item =
    holds-where HasText (of_class is_direction) directions_item _ IsReadItem of_directions
    (holds-where HasText (of_class is_wire) wires_item _ IsReadItem of_wires
    (holds-where HasText (of_class is_assign) assigns_item instance_item IsReadItem of_assigns of_instance))

-- ---- modules

pub record AreReadWords (words : ModuleWords) : Type 0 where
  pub header : AllByRecursion IsFullDeclaration (header_ports words.header)
  pub items : AllByRecursion IsReadItem words.items

of_module : Gives module_words AreReadWords
of_module =
    behind (one_of is_module) _ AreReadWords
    (λ first. behind name _ AreReadWords
    (λ n. holds-then HasText header _ IsFullHeader AreReadWords of_header
    (λ h full. behind (one_of is_semicolon) _ AreReadWords
    (λ semicolon. holds-then HasText (many most (of_class begins_item) item) _ (AllByRecursion IsReadItem) AreReadWords
    (holds-many HasText most (of_class begins_item) item IsReadItem of_item)
    (λ items each. behind (one_of is_endmodule) _ AreReadWords
    (λ last. holds-gives HasText AreReadWords _ (record { header = full; items = each })))))))

pub of_netlist : (tokens : List (Token NetlistClass)) (words : List ModuleWords) → AllByRecursion HasText tokens → Reads netlist tokens words
    → AllByRecursion AreReadWords words
unfolding netlist
of_netlist = holds-many HasText most (of_class is_module) module_words AreReadWords of_module

-- all that a module declares
each_item : (items : List Item) → AllByRecursion IsReadItem items → AreDeclared (flat_map item_declarations items)
each_item [] each = tt
each_item (x ∷ items) each =
    each_joined IsFullDeclaration (item_declarations x) (flat_map item_declarations items) each.0.names (each_item items each.1)

pub declared_full : (words : ModuleWords) → AreReadWords words → AllByRecursion IsFullDeclaration (declarations words)
unfolding declarations
declared_full words read =
    each_joined IsFullDeclaration (header_ports words.header) (flat_map item_declarations words.items) read.header (each_item words.items read.items)
