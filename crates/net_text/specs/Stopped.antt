-- The fault that is told of a text at the token where it stops.
use Rattle.std.specs.Prelude.{◌≡◌, ℕ, List, Option, Some, None, codes}
use Rattle.pw_defs.specs.declared.faults.At.{At}
use Rattle.pw_defs.specs.declared.faults.NetFault.{NetFault}
use Rattle.pw_defs.specs.declared.faults.NetFault.TheVariants.{N1, N2, N3, N4, Memory}
use Rattle.text_defs.specs.Lines.{last_line}
use Rattle.text_defs.specs.Tokens.{Token}
use Rattle.net_text.specs.NetlistTokens.{NetlistClass, Inout, LeftOut}
use Rattle.net_text.specs.NetlistFaults.{HasNetlistFault}

-- the line of the next token, or that on which the text ends
abbrev pub line_next : List ℕ → Option (Token NetlistClass) → ℕ
line_next text None = last_line text
line_next text (Some t) = t.line

-- its text, as a refusal shows it
abbrev pub name_next : Option (Token NetlistClass) → List ℕ
name_next None = codes "-"
name_next (Some t) = t.text

abbrev pub place_next : List ℕ → Option (Token NetlistClass) → At
place_next text token = record { line = line_next text token; name = name_next token }

abbrev pub fault_of_class : NetlistClass → At → NetFault
fault_of_class Inout at = N2 at
fault_of_class LeftOut at = N3 at
fault_of_class _ at = N1 at

-- the fault of a text that cannot go on at the next token
abbrev pub fault_next : Option (Token NetlistClass) → At → NetFault
fault_next None at = N1 at
fault_next (Some t) at = fault_of_class t.class at

abbrev pub IsFaultNext : List ℕ → Option (Token NetlistClass) → NetFault → Type 0
IsFaultNext text token Memory = Unit {0}
IsFaultNext text token (N1 at) = N1 at ≡ fault_next token (place_next text token)
IsFaultNext text token (N2 at) = N2 at ≡ fault_next token (place_next text token)
IsFaultNext text token (N3 at) = N3 at ≡ fault_next token (place_next text token)
IsFaultNext text token (N4 at) = N4 at ≡ fault_next token (place_next text token)

-- A fault that is told of a text is the text's; want of memory has no cause.
abbrev pub IsToldFault : List ℕ → NetFault → Type 0
IsToldFault text Memory = Unit {0}
IsToldFault text (N1 at) = HasNetlistFault text (N1 at)
IsToldFault text (N2 at) = HasNetlistFault text (N2 at)
IsToldFault text (N3 at) = HasNetlistFault text (N3 at)
IsToldFault text (N4 at) = HasNetlistFault text (N4 at)
