-- Classes of tokens: which begin or part the phrases of a netlist.
use Rattle.std.specs.Prelude.{Bool, true, false, ◌||◌, Option, Some, None}
use Rattle.pw_defs.specs.declared.cells.Dir.{Dir}
use Rattle.pw_defs.specs.declared.cells.Dir.TheVariants.{Input as InputDir, Output as OutputDir}
use Rattle.net_text.specs.NetlistTokens.{NetlistClass, Module, Endmodule, Input, Output, Wire, Assign, Name, Number, Open, Shut, LeftBracket, RightBracket, LeftBrace, RightBrace, Comma, Dot, Colon, Semicolon, Equals}

abbrev pub is_module : NetlistClass → Bool
is_module Module = true
is_module _ = false

abbrev pub is_endmodule : NetlistClass → Bool
is_endmodule Endmodule = true
is_endmodule _ = false

abbrev pub is_wire : NetlistClass → Bool
is_wire Wire = true
is_wire _ = false

abbrev pub is_assign : NetlistClass → Bool
is_assign Assign = true
is_assign _ = false

abbrev pub is_name : NetlistClass → Bool
is_name Name = true
is_name _ = false

abbrev pub is_number : NetlistClass → Bool
is_number Number = true
is_number _ = false

abbrev pub is_constant : NetlistClass → Bool
is_constant NetlistClass.Constant = true
is_constant _ = false

abbrev pub is_open : NetlistClass → Bool
is_open Open = true
is_open _ = false

abbrev pub is_shut : NetlistClass → Bool
is_shut Shut = true
is_shut _ = false

abbrev pub is_left_bracket : NetlistClass → Bool
is_left_bracket LeftBracket = true
is_left_bracket _ = false

abbrev pub is_right_bracket : NetlistClass → Bool
is_right_bracket RightBracket = true
is_right_bracket _ = false

abbrev pub is_left_brace : NetlistClass → Bool
is_left_brace LeftBrace = true
is_left_brace _ = false

abbrev pub is_right_brace : NetlistClass → Bool
is_right_brace RightBrace = true
is_right_brace _ = false

abbrev pub is_comma : NetlistClass → Bool
is_comma Comma = true
is_comma _ = false

abbrev pub is_dot : NetlistClass → Bool
is_dot Dot = true
is_dot _ = false

abbrev pub is_colon : NetlistClass → Bool
is_colon Colon = true
is_colon _ = false

abbrev pub is_semicolon : NetlistClass → Bool
is_semicolon Semicolon = true
is_semicolon _ = false

abbrev pub is_equals : NetlistClass → Bool
is_equals Equals = true
is_equals _ = false

-- the direction that a word says
abbrev pub dir_of : NetlistClass → Option Dir
dir_of Input = Some InputDir
dir_of Output = Some OutputDir
dir_of _ = None

abbrev pub is_direction : NetlistClass → Bool
is_direction Input = true
is_direction Output = true
is_direction _ = false

-- what a header begins with
abbrev pub begins_header : NetlistClass → Bool
begins_header c = is_name c || is_direction c

-- what an expression begins with
abbrev pub begins_expr : NetlistClass → Bool
begins_expr c = is_name c || is_constant c || is_left_brace c

-- what an item begins with
abbrev pub begins_item : NetlistClass → Bool
begins_item c = is_direction c || is_wire c || is_assign c || is_name c
