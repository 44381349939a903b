-- Each netlist that was begun can be ended.
use Rattle.std.proofs.Common.{ℕ, zero, suc, [], refl}
use Rattle.pw_defs.specs.declared.cells.Dir.TheVariants.{Input as InputDir}
use Rattle.text_defs.specs.Grammar.{CanEnd, ◌>>◌}
use Rattle.text_defs.specs.Tokens.{one_of, of_class}
use Rattle.text_defs.proofs.ClearPhrases.{can_end-many}
use Rattle.text_defs.proofs.ClearTokens.{can_end-one_of}
use Rattle.net_text.specs.NetlistTokens.{NetlistClass, Module, Endmodule, Input, Wire, Assign, Name, Number, Open, Shut, LeftBracket, RightBracket, LeftBrace, RightBrace, Comma, Dot, Colon, Semicolon, Equals}
use Rattle.net_text.specs.NetlistClasses.{is_module, is_endmodule, is_wire, is_assign, is_name, is_number, is_constant, is_open, is_shut, is_left_bracket, is_right_bracket, is_left_brace, is_right_brace, is_comma, is_dot, is_colon, is_semicolon, is_equals, begins_item}
use Rattle.net_text.specs.NetlistGrammar.{Lined, NetlistGrammar, most, comma_list, name, number, range_option, shape, further_port, shaped_header, names_header, header, selected_name, nested, unlined, operand, expr, connection, directions_item, wires_item, assignment, assigns_item, instance_item, item, module_words, netlist}

a_module : CanEnd (one_of is_module)
a_module = can_end-one_of is_module Module refl

an_endmodule : CanEnd (one_of is_endmodule)
an_endmodule = can_end-one_of is_endmodule Endmodule refl

a_wire : CanEnd (one_of is_wire)
a_wire = can_end-one_of is_wire Wire refl

an_assign : CanEnd (one_of is_assign)
an_assign = can_end-one_of is_assign Assign refl

a_name : CanEnd (one_of is_name)
a_name = can_end-one_of is_name Name refl

a_number : CanEnd (one_of is_number)
a_number = can_end-one_of is_number Number refl

a_constant : CanEnd (one_of is_constant)
a_constant = can_end-one_of is_constant NetlistClass.Constant refl

an_open : CanEnd (one_of is_open)
an_open = can_end-one_of is_open Open refl

a_shut : CanEnd (one_of is_shut)
a_shut = can_end-one_of is_shut Shut refl

a_left_bracket : CanEnd (one_of is_left_bracket)
a_left_bracket = can_end-one_of is_left_bracket LeftBracket refl

a_right_bracket : CanEnd (one_of is_right_bracket)
a_right_bracket = can_end-one_of is_right_bracket RightBracket refl

a_left_brace : CanEnd (one_of is_left_brace)
a_left_brace = can_end-one_of is_left_brace LeftBrace refl

a_right_brace : CanEnd (one_of is_right_brace)
a_right_brace = can_end-one_of is_right_brace RightBrace refl

a_comma : CanEnd (one_of is_comma)
a_comma = can_end-one_of is_comma Comma refl

a_dot : CanEnd (one_of is_dot)
a_dot = can_end-one_of is_dot Dot refl

a_colon : CanEnd (one_of is_colon)
a_colon = can_end-one_of is_colon Colon refl

a_semicolon : CanEnd (one_of is_semicolon)
a_semicolon = can_end-one_of is_semicolon Semicolon refl

an_equals : CanEnd (one_of is_equals)
an_equals = can_end-one_of is_equals Equals refl

ends-comma_list : {A : Type 0} (thing : NetlistGrammar A) → CanEnd thing → CanEnd (comma_list thing)
unfolding CanEnd
ends-comma_list thing c = (c, λ _. (can_end-many most (of_class is_comma) (one_of is_comma >> thing) (a_comma, λ _. c), λ _. tt))

ends-name : CanEnd name
unfolding CanEnd
ends-name = (a_name, λ _. tt)

ends-number : CanEnd number
unfolding CanEnd
ends-number = (a_number, λ _. tt)

ends-range_option : CanEnd range_option
unfolding CanEnd
ends-range_option = (((a_left_bracket, λ _. (ends-number, λ _. (a_colon, λ _. (ends-number, λ _. (a_right_bracket, λ _. tt))))), λ _. tt), tt)

ends-shape : CanEnd shape
unfolding CanEnd
ends-shape =
    ((record { class = Input; text = []; line = 0 }, InputDir, refl), λ _. (((a_wire, λ _. tt), tt), λ _. (ends-range_option, λ _. tt)))

ends-further_port : CanEnd further_port
unfolding CanEnd
ends-further_port = (a_comma, λ _. (((ends-shape, λ _. tt), tt), λ _. (ends-name, λ _. tt)))

ends-names_header : CanEnd names_header
unfolding CanEnd
ends-names_header = (ends-comma_list name ends-name, λ _. tt)

ends-shaped_header : CanEnd shaped_header
unfolding CanEnd
ends-shaped_header = (ends-shape, λ _. (ends-name, λ _. (can_end-many most (of_class is_comma) further_port ends-further_port, λ _. tt)))

ends-header : CanEnd header
unfolding CanEnd
ends-header =
    ((((an_open, λ _. ((((ends-names_header, ends-shaped_header), λ _. tt), tt), λ _. (a_shut, λ _. tt))), λ _. tt), tt), λ _. tt)

ends-selected_name : CanEnd selected_name
unfolding CanEnd
ends-selected_name = (
  ends-name,
  λ _. (
    (
      (
        (a_left_bracket, λ _. (ends-number, λ _. ((((a_colon, λ _. ends-number), λ _. tt), tt), λ _. (a_right_bracket, λ _. tt)))),
        λ _. tt,
      ),
      tt,
    ),
    λ _. tt,
  ),
)

ends-operand : CanEnd operand
unfolding CanEnd
ends-operand = (ends-selected_name, (a_constant, λ _. tt))

ends-nested : (alone : NetlistGrammar Lined) (depth : ℕ) → CanEnd alone → CanEnd (nested alone depth)
unfolding CanEnd nested
ends-nested alone zero c = c
ends-nested alone (suc depth) c =
    ((a_left_brace, λ _. (ends-comma_list (unlined (nested alone depth)) (ends-nested alone depth c, λ _. tt), λ _. (a_right_brace, λ _. tt))), c)

ends-expr : CanEnd expr
ends-expr = ends-nested operand 100 ends-operand

ends-connection : CanEnd connection
unfolding CanEnd
ends-connection = (a_dot, λ _. (ends-name, λ _. (an_open, λ _. (((ends-expr, λ _. tt), tt), λ _. (a_shut, λ _. tt)))))

ends-assignment : CanEnd assignment
unfolding CanEnd
ends-assignment = (ends-nested selected_name 100 ends-selected_name, λ _. (an_equals, λ _. (ends-expr, λ _. tt)))

ends-directions : CanEnd directions_item
unfolding CanEnd
ends-directions = (ends-shape, λ _. (ends-comma_list name ends-name, λ _. (a_semicolon, λ _. tt)))

ends-wires : CanEnd wires_item
unfolding CanEnd
ends-wires = (a_wire, λ _. (ends-range_option, λ _. (ends-comma_list name ends-name, λ _. (a_semicolon, λ _. tt))))

ends-assigns : CanEnd assigns_item
unfolding CanEnd
ends-assigns = (an_assign, λ _. (ends-comma_list assignment ends-assignment, λ _. (a_semicolon, λ _. tt)))

ends-instance : CanEnd instance_item
unfolding CanEnd
ends-instance = (
  ends-name,
  λ _. (
    ends-name,
    λ _. (
      an_open,
      λ _. (
        ((ends-comma_list connection ends-connection, λ _. tt), tt),
        λ _. (
          a_shut,
          λ _. (
            a_semicolon,
            λ _. tt,
          ),
        ),
      ),
    ),
  ),
)

ends-item : CanEnd item
unfolding CanEnd
ends-item = (ends-directions, (ends-wires, (ends-assigns, ends-instance)))

ends-module : CanEnd module_words
unfolding CanEnd
ends-module = (
  a_module,
  λ _. (
    ends-name,
    λ _. (
      ends-header,
      λ _. (
        a_semicolon,
        λ _. (
          can_end-many most (of_class begins_item) item ends-item,
          λ _. (an_endmodule, λ _. tt),
        ),
      ),
    ),
  ),
)

pub ends-netlist : CanEnd netlist
unfolding netlist
ends-netlist = can_end-many most (of_class is_module) module_words ends-module
