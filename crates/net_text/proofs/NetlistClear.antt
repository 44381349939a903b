-- The grammar of netlists is clear: the next token tells how to go on.
use Rattle.std.proofs.Common.{◌≡◌, ℕ, zero, suc, true, List, [], ◌∷◌, Option, Some, None, inl, inr, refl}
use Rattle.std.specs.List.{list_all}
use Rattle.list_defs.specs.Members.{IsIn}
use Rattle.pw_defs.specs.declared.cells.Dir.{Dir}
use Rattle.text_defs.specs.Grammar.{Grammar}
use Rattle.text_defs.specs.Tokens.{Token, one_of}
use Rattle.text_defs.proofs.Clear.{IsClear, no_of, clear-gives, clear-token, clear-then, clear-where, clear-wider, clear-fewer}
use Rattle.text_defs.proofs.ClearPhrases.{clear-option, clear-many, clear-listed, all_in_right, all_in_same}
use Rattle.text_defs.proofs.ClearTokens.{class_of, clear-one_of}
use Rattle.net_text.specs.NetlistTokens.{NetlistClass, Module, Endmodule, Input, Output, Wire, Assign, Name, Number, Open, Shut, LeftBracket, RightBracket, LeftBrace, RightBrace, Comma, Dot, Colon, Semicolon, Equals}
use Rattle.net_text.specs.NetlistClasses.{is_module, is_endmodule, is_wire, is_assign, is_name, is_number, is_constant, is_open, is_shut, is_left_bracket, is_right_bracket, is_left_brace, is_right_brace, is_comma, is_dot, is_colon, is_semicolon, is_equals, dir_of, is_direction, begins_header, begins_expr, begins_item}
use Rattle.net_text.specs.NetlistGrammar.{Lined, NetlistGrammar, most, comma_list, name, number, range, range_option, shape, further_port, shaped_header, names_header, header_inside, header_between, header, selection, selected_name, constant, concatenation, nested, operand, expr, target, connection, directions_item, wires_item, assignment, assigns_item, instance_item, item, module_words, netlist}

abbrev pub Classes : Type 0
Classes = List (Option NetlistClass)

abbrev IsClearNetlist : {A : Type 0} → NetlistGrammar A → Classes → Classes → Type 0
IsClearNetlist g starts follows = IsClear class_of g starts follows

a_module : {follows : Classes} → IsClearNetlist (one_of is_module) (Some Module ∷ []) follows
a_module = clear-one_of is_module of
  where
    of : (c : NetlistClass) → is_module c ≡ true → IsIn (Some c) (Some Module ∷ [])
    of Module h = inl refl
    of _ h = cc

an_endmodule : {follows : Classes} → IsClearNetlist (one_of is_endmodule) (Some Endmodule ∷ []) follows
an_endmodule = clear-one_of is_endmodule of
  where
    of : (c : NetlistClass) → is_endmodule c ≡ true → IsIn (Some c) (Some Endmodule ∷ [])
    of Endmodule h = inl refl
    of _ h = cc

a_wire : {follows : Classes} → IsClearNetlist (one_of is_wire) (Some Wire ∷ []) follows
a_wire = clear-one_of is_wire of
  where
    of : (c : NetlistClass) → is_wire c ≡ true → IsIn (Some c) (Some Wire ∷ [])
    of Wire h = inl refl
    of _ h = cc

an_assign : {follows : Classes} → IsClearNetlist (one_of is_assign) (Some Assign ∷ []) follows
an_assign = clear-one_of is_assign of
  where
    of : (c : NetlistClass) → is_assign c ≡ true → IsIn (Some c) (Some Assign ∷ [])
    of Assign h = inl refl
    of _ h = cc

a_name : {follows : Classes} → IsClearNetlist (one_of is_name) (Some Name ∷ []) follows
a_name = clear-one_of is_name of
  where
    of : (c : NetlistClass) → is_name c ≡ true → IsIn (Some c) (Some Name ∷ [])
    of Name h = inl refl
    of _ h = cc

a_number : {follows : Classes} → IsClearNetlist (one_of is_number) (Some Number ∷ []) follows
a_number = clear-one_of is_number of
  where
    of : (c : NetlistClass) → is_number c ≡ true → IsIn (Some c) (Some Number ∷ [])
    of Number h = inl refl
    of _ h = cc

a_constant : {follows : Classes} → IsClearNetlist (one_of is_constant) (Some NetlistClass.Constant ∷ []) follows
a_constant = clear-one_of is_constant of
  where
    of : (c : NetlistClass) → is_constant c ≡ true → IsIn (Some c) (Some NetlistClass.Constant ∷ [])
    of NetlistClass.Constant h = inl refl
    of _ h = cc

an_open : {follows : Classes} → IsClearNetlist (one_of is_open) (Some Open ∷ []) follows
an_open = clear-one_of is_open of
  where
    of : (c : NetlistClass) → is_open c ≡ true → IsIn (Some c) (Some Open ∷ [])
    of Open h = inl refl
    of _ h = cc

a_shut : {follows : Classes} → IsClearNetlist (one_of is_shut) (Some Shut ∷ []) follows
a_shut = clear-one_of is_shut of
  where
    of : (c : NetlistClass) → is_shut c ≡ true → IsIn (Some c) (Some Shut ∷ [])
    of Shut h = inl refl
    of _ h = cc

a_left_bracket : {follows : Classes} → IsClearNetlist (one_of is_left_bracket) (Some LeftBracket ∷ []) follows
a_left_bracket = clear-one_of is_left_bracket of
  where
    of : (c : NetlistClass) → is_left_bracket c ≡ true → IsIn (Some c) (Some LeftBracket ∷ [])
    of LeftBracket h = inl refl
    of _ h = cc

a_right_bracket : {follows : Classes} → IsClearNetlist (one_of is_right_bracket) (Some RightBracket ∷ []) follows
a_right_bracket = clear-one_of is_right_bracket of
  where
    of : (c : NetlistClass) → is_right_bracket c ≡ true → IsIn (Some c) (Some RightBracket ∷ [])
    of RightBracket h = inl refl
    of _ h = cc

a_left_brace : {follows : Classes} → IsClearNetlist (one_of is_left_brace) (Some LeftBrace ∷ []) follows
a_left_brace = clear-one_of is_left_brace of
  where
    of : (c : NetlistClass) → is_left_brace c ≡ true → IsIn (Some c) (Some LeftBrace ∷ [])
    of LeftBrace h = inl refl
    of _ h = cc

a_right_brace : {follows : Classes} → IsClearNetlist (one_of is_right_brace) (Some RightBrace ∷ []) follows
a_right_brace = clear-one_of is_right_brace of
  where
    of : (c : NetlistClass) → is_right_brace c ≡ true → IsIn (Some c) (Some RightBrace ∷ [])
    of RightBrace h = inl refl
    of _ h = cc

a_comma : {follows : Classes} → IsClearNetlist (one_of is_comma) (Some Comma ∷ []) follows
a_comma = clear-one_of is_comma of
  where
    of : (c : NetlistClass) → is_comma c ≡ true → IsIn (Some c) (Some Comma ∷ [])
    of Comma h = inl refl
    of _ h = cc

a_dot : {follows : Classes} → IsClearNetlist (one_of is_dot) (Some Dot ∷ []) follows
a_dot = clear-one_of is_dot of
  where
    of : (c : NetlistClass) → is_dot c ≡ true → IsIn (Some c) (Some Dot ∷ [])
    of Dot h = inl refl
    of _ h = cc

a_colon : {follows : Classes} → IsClearNetlist (one_of is_colon) (Some Colon ∷ []) follows
a_colon = clear-one_of is_colon of
  where
    of : (c : NetlistClass) → is_colon c ≡ true → IsIn (Some c) (Some Colon ∷ [])
    of Colon h = inl refl
    of _ h = cc

a_semicolon : {follows : Classes} → IsClearNetlist (one_of is_semicolon) (Some Semicolon ∷ []) follows
a_semicolon = clear-one_of is_semicolon of
  where
    of : (c : NetlistClass) → is_semicolon c ≡ true → IsIn (Some c) (Some Semicolon ∷ [])
    of Semicolon h = inl refl
    of _ h = cc

an_equals : {follows : Classes} → IsClearNetlist (one_of is_equals) (Some Equals ∷ []) follows
an_equals = clear-one_of is_equals of
  where
    of : (c : NetlistClass) → is_equals c ≡ true → IsIn (Some c) (Some Equals ∷ [])
    of Equals h = inl refl
    of _ h = cc

a_direction : {follows : Classes} → IsClearNetlist (Grammar.token (λ (t : Token NetlistClass). dir_of t.class)) (Some Input ∷ Some Output ∷ []) follows
a_direction = clear-token (λ t x h. of t.class x h)
  where
    of : (c : NetlistClass) (x : Dir) → dir_of c ≡ Some x → IsIn (Some c) (Some Input ∷ Some Output ∷ [])
    of Input x h = inl refl
    of Output x h = inr (inl refl)
    of _ x h = cc

-- things with commas between them
clear-comma_list : {A : Type 0} {thing : NetlistGrammar A} {starts follows : Classes} → IsClearNetlist thing starts (Some Comma ∷ follows)
    → list_all (no_of is_comma) follows ≡ true → IsClearNetlist (comma_list thing) starts follows
clear-comma_list one none = clear-listed most is_comma {marks = Some Comma ∷ []} a_comma one refl none

clear-name : {follows : Classes} → IsClearNetlist name (Some Name ∷ []) follows
clear-name = clear-then a_name (λ _. clear-gives)

clear-number : {follows : Classes} → IsClearNetlist number (Some Number ∷ []) follows
clear-number = clear-then a_number (λ _. clear-gives)

clear-range : {follows : Classes} → IsClearNetlist range (Some LeftBracket ∷ []) follows
clear-range =
    clear-then a_left_bracket
    (λ _. clear-then clear-number (λ _. clear-then a_colon (λ _. clear-then clear-number (λ _. clear-then a_right_bracket (λ _. clear-gives)))))

clear-range_option : IsClearNetlist range_option (Some LeftBracket ∷ Some Name ∷ []) (Some Name ∷ [])
clear-range_option = clear-option is_left_bracket {starts = Some LeftBracket ∷ []} {follows = Some Name ∷ []} clear-range refl refl

clear-shape : IsClearNetlist shape (Some Input ∷ Some Output ∷ []) (Some Name ∷ [])
clear-shape =
    clear-then a_direction
    (λ _. clear-then (clear-option is_wire {starts = Some Wire ∷ []} {follows = Some LeftBracket ∷ Some Name ∷ []} a_wire refl refl)
    (λ _. clear-then clear-range_option (λ _. clear-gives)))

clear-further_port : IsClearNetlist further_port (Some Comma ∷ []) (Some Comma ∷ Some Shut ∷ [])
clear-further_port =
    clear-then a_comma
    (λ _. clear-then (clear-option is_direction {starts = Some Input ∷ Some Output ∷ []} {follows = Some Name ∷ []} clear-shape refl refl)
    (λ _. clear-then clear-name (λ _. clear-gives)))

clear-shaped_header : IsClearNetlist shaped_header (Some Input ∷ Some Output ∷ []) (Some Shut ∷ [])
clear-shaped_header =
    clear-then clear-shape
    (λ _. clear-then clear-name
    (λ _. clear-then (clear-many most is_comma {starts = Some Comma ∷ []} {follows = Some Shut ∷ []} clear-further_port refl refl) (λ _. clear-gives)))

clear-names_header : IsClearNetlist names_header (Some Name ∷ []) (Some Shut ∷ [])
clear-names_header = clear-then (clear-comma_list clear-name refl) (λ _. clear-gives)

clear-header_inside : IsClearNetlist header_inside (Some Name ∷ Some Input ∷ Some Output ∷ Some Shut ∷ []) (Some Shut ∷ [])
clear-header_inside =
    clear-option begins_header {starts = Some Name ∷ Some Input ∷ Some Output ∷ []} {follows = Some Shut ∷ []}
    (clear-where is_name {starts = Some Name ∷ []} clear-names_header clear-shaped_header refl refl) refl refl

clear-header_between : {follows : Classes} → IsClearNetlist header_between (Some Open ∷ []) follows
clear-header_between = clear-then an_open (λ _. clear-then clear-header_inside (λ _. clear-then a_shut (λ _. clear-gives)))

clear-header : IsClearNetlist header (Some Open ∷ Some Semicolon ∷ []) (Some Semicolon ∷ [])
clear-header =
    clear-then (clear-option is_open {starts = Some Open ∷ []} {follows = Some Semicolon ∷ []} clear-header_between refl refl) (λ _. clear-gives)

clear-selection : {follows : Classes} → IsClearNetlist selection (Some LeftBracket ∷ []) follows
clear-selection =
    clear-then a_left_bracket
    (λ _. clear-then clear-number
    (λ _. clear-then (clear-option is_colon {starts = Some Colon ∷ []} {follows = Some RightBracket ∷ []} (clear-then a_colon (λ _. clear-number)) refl refl)
    (λ _. clear-then a_right_bracket (λ _. clear-gives))))

-- what may stand behind an expression
abbrev later : Classes
later = Some Comma ∷ Some Semicolon ∷ Some Shut ∷ Some RightBrace ∷ Some Equals ∷ []

clear-selected_name : IsClearNetlist selected_name (Some Name ∷ []) later
clear-selected_name =
    clear-then clear-name
    (λ _. clear-then (clear-option is_left_bracket {starts = Some LeftBracket ∷ []} {follows = later} clear-selection refl refl) (λ _. clear-gives))

clear-constant : {follows : Classes} → IsClearNetlist constant (Some NetlistClass.Constant ∷ []) follows
clear-constant = clear-then a_constant (λ _. clear-gives)

clear-operand : IsClearNetlist operand (Some Name ∷ Some NetlistClass.Constant ∷ []) later
clear-operand = clear-where is_name {starts = Some Name ∷ []} clear-selected_name clear-constant refl refl

clear-concatenation : (inner : NetlistGrammar Lined) {starts follows : Classes} → IsClearNetlist inner starts later
    → IsClearNetlist (concatenation inner) (Some LeftBrace ∷ []) follows
clear-concatenation inner one =
    clear-then a_left_brace
    (λ _. clear-then (clear-comma_list {follows = Some RightBrace ∷ []} (clear-then (clear-fewer one (inl refl, (inr (inr (inr (inl refl))), tt))) (λ _. clear-gives)) refl)
    (λ _. clear-then a_right_brace (λ _. clear-gives)))

-- by induction on the depth
clear-nested : (alone : NetlistGrammar Lined) (starts : Classes) (depth : ℕ) → IsClearNetlist alone starts later
    → list_all (no_of is_left_brace) starts ≡ true
    → IsClearNetlist (nested alone depth) (Some LeftBrace ∷ starts) later
unfolding nested
clear-nested alone starts zero one none = clear-wider one (all_in_right (Some LeftBrace ∷ []) starts starts (all_in_same starts))
clear-nested alone starts (suc depth) one none =
    clear-where is_left_brace {starts = Some LeftBrace ∷ []} (clear-concatenation (nested alone depth)
    (clear-nested alone starts depth one none)) one refl none

clear-expr : IsClearNetlist expr (Some LeftBrace ∷ Some Name ∷ Some NetlistClass.Constant ∷ []) later
clear-expr = clear-nested operand (Some Name ∷ Some NetlistClass.Constant ∷ []) 100 clear-operand refl

clear-target : IsClearNetlist target (Some LeftBrace ∷ Some Name ∷ []) later
clear-target = clear-nested selected_name (Some Name ∷ []) 100 clear-selected_name refl

clear-connection : {follows : Classes} → IsClearNetlist connection (Some Dot ∷ []) follows
clear-connection =
    clear-then a_dot
    (λ _. clear-then clear-name
    (λ _. clear-then an_open
    (λ _. clear-then (clear-option begins_expr {starts = Some LeftBrace ∷ Some Name ∷ Some NetlistClass.Constant ∷ []} {follows = Some Shut ∷ []}
    (clear-fewer clear-expr (inr (inr (inl refl)), tt)) refl refl)
    (λ _. clear-then a_shut (λ _. clear-gives)))))

clear-directions : {follows : Classes} → IsClearNetlist directions_item (Some Input ∷ Some Output ∷ []) follows
clear-directions =
    clear-then clear-shape (λ _. clear-then (clear-comma_list {follows = Some Semicolon ∷ []} clear-name refl) (λ _. clear-then a_semicolon
    (λ _. clear-gives)))

clear-wires : {follows : Classes} → IsClearNetlist wires_item (Some Wire ∷ []) follows
clear-wires =
    clear-then a_wire
    (λ _. clear-then clear-range_option
    (λ _. clear-then (clear-comma_list {follows = Some Semicolon ∷ []} clear-name refl) (λ _. clear-then a_semicolon (λ _. clear-gives))))

clear-assignment : IsClearNetlist assignment (Some LeftBrace ∷ Some Name ∷ []) (Some Comma ∷ Some Semicolon ∷ [])
clear-assignment =
    clear-then (clear-fewer clear-target (inr (inr (inr (inr (inl refl)))), tt))
    (λ _. clear-then an_equals (λ _. clear-then (clear-fewer clear-expr (inl refl, (inr (inl refl), tt))) (λ _. clear-gives)))

clear-assigns : {follows : Classes} → IsClearNetlist assigns_item (Some Assign ∷ []) follows
clear-assigns =
    clear-then an_assign
    (λ _. clear-then (clear-comma_list {follows = Some Semicolon ∷ []} clear-assignment refl) (λ _. clear-then a_semicolon (λ _. clear-gives)))

clear-instance : {follows : Classes} → IsClearNetlist instance_item (Some Name ∷ []) follows
clear-instance =
    clear-then clear-name
    (λ _. clear-then clear-name
    (λ _. clear-then an_open
    (λ _. clear-then (clear-option is_dot {starts = Some Dot ∷ []} {follows = Some Shut ∷ []} (clear-comma_list clear-connection refl) refl refl)
    (λ _. clear-then a_shut (λ _. clear-then a_semicolon (λ _. clear-gives))))))

abbrev item_starts : Classes
item_starts = Some Input ∷ Some Output ∷ Some Wire ∷ Some Assign ∷ Some Name ∷ []

clear-item : {follows : Classes} → IsClearNetlist item (Some Input ∷ Some Output ∷ Some Wire ∷ Some Assign ∷ Some Name ∷ []) follows
clear-item =
    clear-where is_direction {starts = Some Input ∷ Some Output ∷ []} clear-directions
    (clear-where is_wire {starts = Some Wire ∷ []} clear-wires
    (clear-where is_assign {starts = Some Assign ∷ []} clear-assigns clear-instance refl refl) refl refl)
    refl refl

clear-module : {follows : Classes} → IsClearNetlist module_words (Some Module ∷ []) follows
clear-module =
    clear-then a_module
    (λ _. clear-then clear-name
    (λ _. clear-then clear-header
    (λ _. clear-then a_semicolon
    (λ _. clear-then (clear-many most begins_item {starts = item_starts} {follows = Some Endmodule ∷ []} clear-item refl refl)
    (λ _. clear-then an_endmodule (λ _. clear-gives))))))

pub clear-netlist : IsClear class_of netlist (Some Module ∷ None ∷ []) (None ∷ [])
unfolding netlist
clear-netlist = clear-many most is_module {starts = Some Module ∷ []} {follows = None ∷ []} clear-module refl refl
