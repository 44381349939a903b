-- How a script is read from its front.
use Rattle.std.specs.Prelude.{ℕ, ◌+◌, ◌-◌, ◌*◌, ◌^◌, Bool, ◌&&◌, nat_le, ◌==◌, List, [], ◌∷◌, length, drop, Option, Some, None, option_map, if◌then◌else◌, codes}
use Rattle.std.specs.Char.{is_ascii_digit}
use Rattle.std.specs.List.{position_or_len, before_first}
use Rattle.std.specs.Str.{bytes_eq}
use Rattle.pw_defs.specs.declared.values.Value.{Value}
use Rattle.pw_defs.specs.declared.values.Value.TheVariants.{Off, On}
use Rattle.text_defs.specs.Volts.{is_point, decimals_of}
use Rattle.line_forms.specs.Reading.{Read, ◌>>=◌, begins, nothing_at, word_at, before_at, both_at, map_at, led_at, many_at, some_at, name_at, has_more}
use Rattle.line_forms.specs.declared.script_lines.StateWords.{StateWords}
use Rattle.line_forms.specs.declared.script_lines.CommandLine.{CommandLine}
use Rattle.line_forms.specs.declared.script_lines.CommandLine.TheVariants.{SupplyNet, SupplyState, SupplySet, Domain}

-- the number that digits write when they follow those of n, while it is no more than a billion
unfoldable pub number_from : ℕ → List ℕ → Option ℕ
number_from n [] = Some n
number_from n (b ∷ bs) = if is_ascii_digit b && nat_le (n * 10 + (b - 48)) 1000000000 then number_from (n * 10 + (b - 48)) bs else None

-- the microvolts that the last of so many decimals counts
unfoldable pub unit_of : ℕ → Option ℕ
unit_of decimals = if nat_le decimals 6 then Some (10 ^ (6 - decimals)) else None

abbrev pub in_range : ℕ → Option ℕ
in_range v = if nat_le v 1000000000 then Some v else None

-- the microvolts of a text that has at least one digit
abbrev pub with_digits : List ℕ → List ℕ → Option ℕ
with_digits whole decimals =
    unit_of (length decimals) >>= λ unit. number_from 0 whole >>= λ number. number_from number decimals >>= λ all. in_range (all * unit)

unfoldable pub volts_of : List ℕ → Option ℕ
volts_of text =
    if length (before_first is_point text) + length (decimals_of text) == 0 then None else with_digits (before_first is_point text) (decimals_of text)

unfoldable pub value_of : List ℕ → Option Value
value_of word = if bytes_eq word (codes "off") then Some Off else option_map (λ v. On v) (volts_of word)

abbrev pub is_brace : ℕ → Bool
is_brace b = b == 125

-- a value is written up to the next brace
unfoldable pub value_at : Read (List ℕ × Value)
value_at text = value_of (before_first is_brace text) >>= λ value. Some ((before_first is_brace text, value), drop (position_or_len is_brace text) text)

abbrev pub state_of : List ℕ × (List ℕ × Value) → StateWords
state_of p = record { name = p.0; word = p.1.0; value = p.1.1 }

unfoldable pub state_at : Read StateWords
state_at = map_at state_of (word_at (codes " -state {") (both_at name_at (word_at (codes " ") (before_at value_at (codes "}")))))

abbrev pub has_state : List ℕ → Bool
has_state text = begins (codes " -state {") text

unfoldable pub states_at : Read (List StateWords)
states_at = some_at state_at has_state state_at

unfoldable pub supply_net_at : Read CommandLine
supply_net_at = map_at (λ net. SupplyNet net) (before_at name_at (codes "\n"))

unfoldable pub supply_state_at : Read CommandLine
supply_state_at = map_at (λ p. SupplyState p.0 p.1) (both_at name_at (before_at states_at (codes "\n")))

unfoldable pub ground_at : Read (Option (List ℕ))
ground_at = led_at (codes " -function {ground ") (map_at (λ net. Some net) (before_at name_at (codes "}"))) (nothing_at None)

unfoldable pub supply_set_at : Read CommandLine
supply_set_at =
    map_at (λ p. SupplySet p.0 p.1.0 p.1.1) (both_at name_at (word_at (codes " -function {power ") (both_at name_at (word_at (codes "}") (before_at ground_at (codes "\n"))))))

unfoldable pub element_at : Read (Option (List ℕ))
element_at = led_at (codes ".") (nothing_at None) (map_at (λ inst. Some inst) name_at)

unfoldable pub elements_at : Read (Option (List ℕ))
elements_at = word_at (codes " -elements {") (before_at element_at (codes "}"))

unfoldable pub domain_at : Read CommandLine
domain_at = map_at (λ p. Domain p.0 p.1.0 p.1.1) (both_at name_at (both_at elements_at (word_at (codes " -supply {primary ") (before_at name_at (codes "}\n")))))

unfoldable pub command_at : Read CommandLine
command_at =
    led_at (codes "create_supply_net ") supply_net_at
    (led_at (codes "add_supply_state ") supply_state_at (led_at (codes "create_supply_set ") supply_set_at (word_at (codes "create_power_domain ") domain_at)))

unfoldable pub script_at : Read (List CommandLine)
script_at = many_at has_more command_at
