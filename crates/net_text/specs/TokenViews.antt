-- The classes and tokens of the code, as the definitions see them.
use Rattle.std.specs.Prelude.{Bool, false}
use Rattle.net_text.specs.NetlistTokens.{NetlistClass}
use Rattle.net_text.specs.NetlistClasses.{is_module, is_endmodule, is_wire, is_assign, is_name, is_number, is_constant, is_open, is_shut, is_left_bracket, is_right_bracket, is_left_brace, is_right_brace, is_comma, is_dot, is_colon, is_semicolon, is_equals}
use Rattle.net_text.specs.declared.classes.NetClass.{NetClass}
use Rattle.net_text.specs.declared.classes.NetClass.TheVariants as made

abbrev pub class_view : NetClass → NetlistClass
class_view made.Module = NetlistClass.Module
class_view made.Endmodule = NetlistClass.Endmodule
class_view made.Input = NetlistClass.Input
class_view made.Output = NetlistClass.Output
class_view made.Wire = NetlistClass.Wire
class_view made.Assign = NetlistClass.Assign
class_view made.Name = NetlistClass.Name
class_view made.Number = NetlistClass.Number
class_view made.Constant = NetlistClass.Constant
class_view made.Open = NetlistClass.Open
class_view made.Shut = NetlistClass.Shut
class_view made.LeftBracket = NetlistClass.LeftBracket
class_view made.RightBracket = NetlistClass.RightBracket
class_view made.LeftBrace = NetlistClass.LeftBrace
class_view made.RightBrace = NetlistClass.RightBrace
class_view made.Comma = NetlistClass.Comma
class_view made.Dot = NetlistClass.Dot
class_view made.Colon = NetlistClass.Colon
class_view made.Semicolon = NetlistClass.Semicolon
class_view made.Equals = NetlistClass.Equals
class_view made.Inout = NetlistClass.Inout
class_view made.LeftOut = NetlistClass.LeftOut
class_view made.Stray = NetlistClass.Stray

-- the test that passes the tokens of one class
abbrev pub test_of : NetClass → NetlistClass → Bool
test_of made.Module = is_module
test_of made.Endmodule = is_endmodule
test_of made.Wire = is_wire
test_of made.Assign = is_assign
test_of made.Name = is_name
test_of made.Number = is_number
test_of made.Constant = is_constant
test_of made.Open = is_open
test_of made.Shut = is_shut
test_of made.LeftBracket = is_left_bracket
test_of made.RightBracket = is_right_bracket
test_of made.LeftBrace = is_left_brace
test_of made.RightBrace = is_right_brace
test_of made.Comma = is_comma
test_of made.Dot = is_dot
test_of made.Colon = is_colon
test_of made.Semicolon = is_semicolon
test_of made.Equals = is_equals
test_of _ = λ c. false
