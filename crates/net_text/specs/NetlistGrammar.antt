-- The grammar of netlists: modules and their items, as the text has them.
use Rattle.std.specs.Prelude.{ℕ, zero, suc, List, [], Option, Some, None, option_map, unwrap_or}
use Rattle.pw_defs.specs.declared.cells.Dir.{Dir}
use Rattle.pw_defs.specs.declared.netlist.Expr.{Expr}
use Rattle.pw_defs.specs.declared.netlist.Expr.TheVariants.{Whole, Bit, Part, Const, Join}
use Rattle.pw_defs.specs.declared.netlist.Conn.{Conn}
use Rattle.pw_defs.specs.declared.netlist.Assign.{Assign as Assignment}
use Rattle.text_defs.specs.Grammar.{Grammar, ◌>>=◌, ◌>>◌}
use Rattle.text_defs.specs.Phrases.{option, many, listed}
use Rattle.text_defs.specs.Tokens.{Token, one_of, of_class}
use Rattle.net_text.specs.NetlistTokens.{NetlistClass, number_of, digits_at}
use Rattle.net_text.specs.NetlistClasses.{is_module, is_endmodule, is_wire, is_assign, is_name, is_number, is_constant, is_open, is_shut, is_left_bracket, is_right_bracket, is_left_brace, is_right_brace, is_comma, is_dot, is_colon, is_semicolon, is_equals, dir_of, is_direction, begins_header, begins_expr, begins_item}

-- a range, from its left place to its right one
abbrev pub Range : Type 0
Range = ℕ × ℕ

-- a name and its line
pub record Named : Type 0 where
  pub text : List ℕ
  pub line : ℕ

-- the direction and range of ports
pub record Shape : Type 0 where
  pub dir : Dir
  pub range : Option Range

-- what a module's header holds: names, or ports with directions, of which a later one may be a plain name
pub data Header : Type 0 where
  Names : List Named → Header
  Shaped : Shape → Named → List (Option Shape × Named) → Header

-- an instance: its type, its name and its connections
pub record InstanceWords : Type 0 where
  pub kind : Named
  pub name : Named
  pub conns : List Conn

pub data Item : Type 0 where
  Directions : Shape → List Named → Item
  Wires : Option Range → List Named → Item
  Assigns : List Assignment → Item
  Instance : InstanceWords → Item

-- a module, and the line of its word `module`
pub record ModuleWords : Type 0 where
  pub name : List ℕ
  pub line : ℕ
  pub header : Header
  pub items : List Item

-- an expression, and the line of its first token
pub record Lined : Type 0 where
  pub expr : Expr
  pub line : ℕ

abbrev pub NetlistGrammar : Type 0 → Type 1
NetlistGrammar A = Grammar (Token NetlistClass) A

-- no list is longer
abbrev pub most : ℕ
most = 4294967295

-- things with commas between them
abbrev pub comma_list : {A : Type 0} → NetlistGrammar A → NetlistGrammar (List A)
comma_list thing = listed most (of_class is_comma) (one_of is_comma) thing

abbrev pub name : NetlistGrammar Named
name = one_of is_name >>= λ t. Grammar.gives (record { text = t.text; line = t.line })

abbrev pub number : NetlistGrammar ℕ
number = one_of is_number >>= λ t. Grammar.gives (number_of t.text)

-- [m:l]
abbrev pub range : NetlistGrammar Range
range = do
  _ ← one_of is_left_bracket
  m ← number
  _ ← one_of is_colon
  l ← number
  _ ← one_of is_right_bracket
  Grammar.gives (m, l)

abbrev pub range_option : NetlistGrammar (Option Range)
range_option = option (of_class is_left_bracket) range

-- a direction, the word `wire` or not, a range or none
abbrev pub shape : NetlistGrammar Shape
shape = do
  dir ← Grammar.token (λ (t : Token NetlistClass). dir_of t.class)
  _ ← option (of_class is_wire) (one_of is_wire)
  r ← range_option
  Grammar.gives (record { dir = dir; range = r })

-- a further port of a header with directions
abbrev pub further_port : NetlistGrammar (Option Shape × Named)
further_port = do
  _ ← one_of is_comma
  s ← option (of_class is_direction) shape
  n ← name
  Grammar.gives (s, n)

abbrev pub shaped_header : NetlistGrammar Header
shaped_header = do
  s ← shape
  n ← name
  more ← many most (of_class is_comma) further_port
  Grammar.gives (Shaped s n more)

abbrev pub names_header : NetlistGrammar Header
names_header = comma_list name >>= λ names. Grammar.gives (Names names)

-- what stands between the parentheses of a header, or nothing
abbrev pub header_inside : NetlistGrammar (Option Header)
header_inside = option (of_class begins_header) (Grammar.where_next (of_class is_name) names_header shaped_header)

abbrev pub header_between : NetlistGrammar (Option Header)
header_between = do
  _ ← one_of is_open
  inside ← header_inside
  _ ← one_of is_shut
  Grammar.gives inside

-- the header of a module, which may be left out
abbrev pub header : NetlistGrammar Header
header = option (of_class is_open) header_between >>= λ h. Grammar.gives (unwrap_or (unwrap_or h None) (Names []))

-- behind a colon
abbrev pub colon_number : NetlistGrammar ℕ
colon_number = one_of is_colon >> number

-- [m] or [m:l]
abbrev pub selection : NetlistGrammar (ℕ × Option ℕ)
selection = do
  _ ← one_of is_left_bracket
  m ← number
  l ← option (of_class is_colon) colon_number
  _ ← one_of is_right_bracket
  Grammar.gives (m, l)

-- a name, or a part of it
abbrev pub selected : List ℕ → Option (ℕ × Option ℕ) → Expr
selected n None = Whole n
selected n (Some (m, None)) = Bit n m
selected n (Some (m, Some l)) = Part n m l

-- a name that stands alone, with a selection or none
abbrev pub selected_name : NetlistGrammar Lined
selected_name = do
  n ← name
  s ← option (of_class is_left_bracket) selection
  Grammar.gives (record { expr = selected n.text s; line = n.line })

-- a constant, of which the width counts
abbrev pub constant : NetlistGrammar Lined
constant = one_of is_constant >>= λ t. Grammar.gives (record { expr = Const (number_of (digits_at t.text)); line = t.line })

abbrev pub expr_of : Lined → Expr
expr_of x = x.expr

-- an expression, of which the line is left out
abbrev pub unlined : NetlistGrammar Lined → NetlistGrammar Expr
unlined inner = inner >>= λ x. Grammar.gives (expr_of x)

-- expressions between braces
abbrev pub concatenation : NetlistGrammar Lined → NetlistGrammar Lined
concatenation inner = do
  brace ← one_of is_left_brace
  parts ← comma_list (unlined inner)
  _ ← one_of is_right_brace
  Grammar.gives (record { expr = Join parts; line = brace.line })

-- what may stand alone, or such things in braces that nest no more than `depth` deep
unfoldable pub nested : NetlistGrammar Lined → ℕ → NetlistGrammar Lined
nested alone zero = alone
nested alone (suc depth) = Grammar.where_next (of_class is_left_brace) (concatenation (nested alone depth)) alone

abbrev pub operand : NetlistGrammar Lined
operand = Grammar.where_next (of_class is_name) selected_name constant

-- an expression; braces nest at most 100 deep
abbrev pub expr : NetlistGrammar Lined
expr = nested operand 100

-- the left side of an assignment, which holds no constant
abbrev pub target : NetlistGrammar Lined
target = nested selected_name 100

-- .PORT(EXPR) or .PORT()
abbrev pub connection : NetlistGrammar Conn
connection = do
  _ ← one_of is_dot
  port ← name
  _ ← one_of is_open
  e ← option (of_class begins_expr) expr
  _ ← one_of is_shut
  Grammar.gives (record { port = port.text; expr = option_map expr_of e })

abbrev pub directions_item : NetlistGrammar Item
directions_item = do
  s ← shape
  names ← comma_list name
  _ ← one_of is_semicolon
  Grammar.gives (Directions s names)

abbrev pub wires_item : NetlistGrammar Item
wires_item = do
  _ ← one_of is_wire
  r ← range_option
  names ← comma_list name
  _ ← one_of is_semicolon
  Grammar.gives (Wires r names)

abbrev pub assignment : NetlistGrammar Assignment
assignment = do
  left ← target
  _ ← one_of is_equals
  right ← expr
  Grammar.gives (record { left = left.expr; right = right.expr; line = left.line })

abbrev pub assigns_item : NetlistGrammar Item
assigns_item = do
  _ ← one_of is_assign
  assigns ← comma_list assignment
  _ ← one_of is_semicolon
  Grammar.gives (Assigns assigns)

abbrev pub instance_item : NetlistGrammar Item
instance_item = do
  kind ← name
  own ← name
  _ ← one_of is_open
  conns ← option (of_class is_dot) (comma_list connection)
  _ ← one_of is_shut
  _ ← one_of is_semicolon
  Grammar.gives (Instance (record { kind = kind; name = own; conns = unwrap_or conns [] }))

abbrev pub item : NetlistGrammar Item
item =
    Grammar.where_next (of_class is_direction) directions_item
    (Grammar.where_next (of_class is_wire) wires_item (Grammar.where_next (of_class is_assign) assigns_item instance_item))

abbrev pub module_words : NetlistGrammar ModuleWords
module_words = do
  first ← one_of is_module
  n ← name
  h ← header
  _ ← one_of is_semicolon
  items ← many most (of_class begins_item) item
  _ ← one_of is_endmodule
  Grammar.gives (record { name = n.text; line = first.line; header = h; items = items })

-- a netlist is modules, one behind the other
unfoldable pub netlist : NetlistGrammar (List ModuleWords)
netlist = many most (of_class is_module) module_words
