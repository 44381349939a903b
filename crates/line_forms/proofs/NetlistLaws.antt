-- A netlist that is read is spelled so, and a netlist that is spelled so is read.
use Rattle.std.proofs.Common.{◌≡◌, ℕ, ◌<◌, true, false, List, [], ◌∷◌, ◌++◌, length, Option, Some, None, refl, sym, ap, ◌∙◌, append_assoc, arith}
use Rattle.std.specs.Prelude.{codes, IfSome, unwrap_or}
use Rattle.std.specs.List.{flat_map, AllByRecursion}
use Rattle.std.proofs.lemmas.List.{length-append}
use Rattle.pw_defs.specs.declared.cells.Dir.{Dir}
use Rattle.line_forms.specs.Names.{IsId, is_reserved, reserved_words, IsPlainName}
use Rattle.line_forms.specs.Lines.{listed}
use Rattle.line_forms.specs.NetlistForm.{port_text, conn_text, item_text, module_text, netlist_text, IsPort, IsConn, IsInst, IsItem, IsModule, AreModules}
use Rattle.line_forms.specs.Reading.{Read, ◌>>=◌, behind, nothing_at, before_at, map_at, some_at, name_at, plain_at, has_more}
use Rattle.line_forms.specs.NetlistReading.{has_comma, comma_at, list_at, port_of, port_at, ports_at, conn_of, net_at, conn_at, conns_at, inst_of, inst_at, item_at, is_within, module_of, module_at, netlist_at}
use Rattle.line_forms.specs.declared.netlist_lines.PortWords.{PortWords}
use Rattle.line_forms.specs.declared.netlist_lines.ConnWords.{ConnWords}
use Rattle.line_forms.specs.declared.netlist_lines.InstLine.{InstLine}
use Rattle.line_forms.specs.declared.netlist_lines.ItemLine.{ItemLine}
use Rattle.line_forms.specs.declared.netlist_lines.ItemLine.TheVariants.{Wire, Inst}
use Rattle.line_forms.specs.declared.netlist_lines.ModuleLines.{ModuleLines}
use Rattle.line_forms.proofs.Words.{behind_found, none_or_some}
use Rattle.line_forms.proofs.Laws.{Finds, Again, Anything, word_finds, word_again, before_finds, before_again, both_finds, both_again, map_finds, map_again, choice_finds, led_map_finds, led_miss, weaker, InARow, many_finds, many_again, some_finds, some_again, AreSome, some_is}
use Rattle.line_forms.proofs.NameLaws.{Stops, not_true, name_again, plain_finds, plain_again, name_is_not, dir_finds, dir_again}

-- ---- lists with commas

module _ {A : Type 0} (r : Read A) (sp : A → List ℕ) (Is : A → Type 0) where
  abbrev comma_text : A → List ℕ
  comma_text x = codes ", " ++ sp x

  list_finds : Finds r sp Is → Finds (list_at r) (λ xs. listed sp xs ++ codes ");\n") (AllByRecursion Is)
  list_finds finds =
      choice_finds (codes ");\n") [] refl tt
      (before_finds (codes ");\n") (weaker (some_finds r (comma_at r) sp comma_text (listed sp) Is has_comma (λ x xs. refl) finds (word_finds (codes ", ") finds)) (λ xs are. are.1)))

  module _ (F : List ℕ → Type 0) (law : Again r sp Is F) (at_comma : (rest : List ℕ) → F (codes ", " ++ rest)) (at_end : (rest : List ℕ) → F (codes ");\n" ++ rest)) (starts : (x : A) (rest : List ℕ) → Is x → behind (codes ");\n") (sp x ++ rest) ≡ None) where
    commas_in_a_row : InARow (comma_at r) comma_text Is has_comma F
    unfolding behind
    commas_in_a_row = record { size = λ x is. omega arith; goes = λ x rest is. refl; next = λ x rest is. at_comma (sp x ++ rest) }

    some_before : Again (before_at (some_at r has_comma (comma_at r)) (codes ");\n")) (λ xs. listed sp xs ++ codes ");\n") (AreSome r (comma_at r) sp comma_text (listed sp) Is has_comma (λ x xs. refl)) Anything
    unfolding behind
    some_before =
        before_again (codes ");\n") (some_again r (comma_at r) sp comma_text (listed sp) Is has_comma (λ x xs. refl) F law (word_again (codes ", ") law) commas_in_a_row) (λ rest. (at_end rest, refl))

    list_read : (xs : List A) (rest : List ℕ) → AllByRecursion Is xs → list_at r ((listed sp xs ++ codes ");\n") ++ rest) ≡ Some (xs, rest)
    unfolding behind
    list_read [] rest is = refl
    list_read (x ∷ xs) rest is =
        let regrouped : (listed sp (x ∷ xs) ++ codes ");\n") ++ rest ≡ sp x ++ (flat_map comma_text xs ++ (codes ");\n" ++ rest)) = append_assoc (listed sp (x ∷ xs)) (codes ");\n") rest ∙ append_assoc (sp x) (flat_map comma_text xs) (codes ");\n" ++ rest) in
        let miss : behind (codes ");\n") ((listed sp (x ∷ xs) ++ codes ");\n") ++ rest) ≡ None = rw regrouped (starts x (flat_map comma_text xs ++ (codes ");\n" ++ rest)) is.0) in
        let one_or_more : 0 < length (x ∷ xs) = omega arith in
        led_miss (codes ");\n") (nothing_at []) (before_at (some_at r has_comma (comma_at r)) (codes ");\n")) ((listed sp (x ∷ xs) ++ codes ");\n") ++ rest) miss ∙ some_before.again (x ∷ xs) rest (one_or_more, is) tt

    list_again : Again (list_at r) (λ xs. listed sp xs ++ codes ");\n") (AllByRecursion Is) Anything
    list_again = record { again = λ xs rest is follows. list_read xs rest is }

-- ---- ports

pub port_finds : Finds port_at port_text IsPort
unfolding port_at
port_finds = map_finds port_of port_text IsPort (both_finds dir_finds (word_finds (codes " ") plain_finds)) (λ p. refl) (λ p is. is.1)

abbrev port_parts : PortWords → Dir × List ℕ
port_parts port = (port.dir, port.name)

port_again : Again port_at port_text IsPort Stops
unfolding port_at
port_again = map_again port_of port_parts port_text IsPort (both_again dir_again (word_again (codes " ") plain_again) (λ name rest is stops. tt)) (λ port. refl) (λ port is. (tt, is)) (λ port. refl)

pub comma_port_finds : Finds (comma_at port_at) (λ port. codes ", " ++ port_text port) IsPort
comma_port_finds = word_finds (codes ", ") port_finds

abbrev pub ports_text : List PortWords → List ℕ
ports_text ports = listed port_text ports ++ codes ");\n"

ports_finds : Finds ports_at ports_text (AllByRecursion IsPort)
unfolding ports_at
ports_finds = list_finds port_at port_text IsPort port_finds

port_starts : (dir : Dir) (name rest : List ℕ) → behind (codes ");\n") (port_text (record { dir = dir; name = name }) ++ rest) ≡ None
unfolding behind
port_starts Dir.Input name rest = refl
port_starts Dir.Output name rest = refl

ports_again : Again ports_at ports_text (AllByRecursion IsPort) Anything
unfolding ports_at
ports_again = list_again port_at port_text IsPort Stops port_again (λ rest. refl) (λ rest. refl) (λ port rest is. port_starts port.dir port.name rest)

-- ---- connections

abbrev net_text : Option (List ℕ) → List ℕ
net_text net = unwrap_or net [] ++ codes ")"

abbrev IsNet : Option (List ℕ) → Type 0
IsNet net = IfSome net IsPlainName

net_finds : Finds net_at net_text IsNet
unfolding net_at
net_finds = choice_finds (codes ")") None refl tt (map_finds (λ name. Some name) net_text IsNet (before_finds (codes ")") plain_finds) (λ name. refl) (λ name is. is))

net_read : (net : Option (List ℕ)) (rest : List ℕ) → IsNet net → net_at (net_text net ++ rest) ≡ Some (net, rest)
unfolding net_at behind
net_read None rest is = refl
net_read (Some name) rest is =
    let miss : behind (codes ")") ((name ++ codes ")") ++ rest) ≡ None = rw (append_assoc name (codes ")") rest) (name_is_not name 41 [] (codes ")" ++ rest) is.id refl) in
    let read = (before_again (codes ")") plain_again (λ more. refl)).again name rest is tt in
    led_miss (codes ")") (nothing_at None) (map_at (λ n. Some n) (before_at plain_at (codes ")"))) ((name ++ codes ")") ++ rest) miss
    ∙ ap (λ (o : Option (List ℕ × List ℕ)). o >>= λ x. Some (Some x.0, x.1)) read

net_again : Again net_at net_text IsNet Anything
net_again = record { again = λ net rest is follows. net_read net rest is }

pub conn_finds : Finds conn_at conn_text IsConn
unfolding conn_at
conn_finds = map_finds conn_of conn_text IsConn (word_finds (codes ".") (both_finds plain_finds (word_finds (codes "(") net_finds))) (λ p. refl) (λ p is. record { port = is.0; net = is.1 })

abbrev conn_parts : ConnWords → List ℕ × Option (List ℕ)
conn_parts conn = (conn.port, conn.net)

conn_again : Again conn_at conn_text IsConn Anything
unfolding conn_at
conn_again =
    map_again conn_of conn_parts conn_text IsConn (word_again (codes ".") (both_again plain_again (word_again (codes "(") net_again) (λ net rest is follows. refl))) (λ conn. refl) (λ conn is. (is.port, is.net))
    (λ conn. refl)

pub comma_conn_finds : Finds (comma_at conn_at) (λ conn. codes ", " ++ conn_text conn) IsConn
comma_conn_finds = word_finds (codes ", ") conn_finds

abbrev conns_text : List ConnWords → List ℕ
conns_text conns = listed conn_text conns ++ codes ");\n"

conns_finds : Finds conns_at conns_text (AllByRecursion IsConn)
unfolding conns_at
conns_finds = list_finds conn_at conn_text IsConn conn_finds

conns_again : Again conns_at conns_text (AllByRecursion IsConn) Anything
unfolding conns_at behind
conns_again = list_again conn_at conn_text IsConn Anything conn_again (λ rest. tt) (λ rest. tt) (λ conn rest is. refl)

-- ---- the lines within a module

abbrev inst_text : InstLine → List ℕ
inst_text inst = item_text (Inst inst)

inst_finds : Finds inst_at inst_text IsInst
unfolding inst_at
inst_finds =
    map_finds inst_of inst_text IsInst (both_finds plain_finds (word_finds (codes " ") (both_finds plain_finds (word_finds (codes "(") conns_finds)))) (λ p. refl)
    (λ p is. record { kind = is.0; name = is.1.0; conns = is.1.1 })

abbrev inst_parts : InstLine → List ℕ × (List ℕ × List ConnWords)
inst_parts inst = (inst.kind, (inst.name, inst.conns))

inst_again : Again inst_at inst_text IsInst Anything
unfolding inst_at
inst_again =
    map_again inst_of inst_parts inst_text IsInst
    (both_again plain_again (word_again (codes " ") (both_again plain_again (word_again (codes "(") conns_again) (λ conns rest is follows. refl))) (λ p rest is follows. refl)) (λ inst. refl)
    (λ inst is. (is.kind, (is.name, is.conns))) (λ inst. refl)

pub item_finds : Finds item_at item_text IsItem
unfolding item_at
item_finds =
    led_map_finds (codes "wire ") (λ net. Wire net) (before_finds (codes ";\n") plain_finds) (λ net. refl) (λ net is. is)
    (map_finds (λ inst. Inst inst) item_text IsItem inst_finds (λ inst. refl) (λ inst is. is))

same_names : (a b x y : List ℕ) → IsId a → IsId b → Stops x → Stops y → a ++ x ≡ b ++ y → (a ≡ b) × (x ≡ y)
same_names a b x y is_a is_b stops_x stops_y e =
    let p = some_is (a, x) (b, y) (sym (name_again.again a x is_a stops_x) ∙ ap name_at e ∙ name_again.again b y is_b stops_y) in
    (ap (λ (z : List ℕ × List ℕ). z.0) p, ap (λ (z : List ℕ × List ℕ). z.1) p)

no_wire : (kind more : List ℕ) → IsPlainName kind → behind (codes "wire ") (kind ++ 32 ∷ more) ≡ None
unfolding is_reserved reserved_words
no_wire kind more is =
    none_or_some (behind (codes "wire ") (kind ++ 32 ∷ more))
    (λ rest e.
    let p = same_names kind (codes "wire") (32 ∷ more) (32 ∷ rest) is.id refl refl refl (behind_found (codes "wire ") (kind ++ 32 ∷ more) rest e) in
    let reserved : is_reserved kind ≡ true = ap is_reserved p.0 in
    let free : is_reserved kind ≡ false = not_true (is_reserved kind) is.plain in
    cc)

no_end : (kind more : List ℕ) → IsPlainName kind → behind (codes "endmodule\n") (kind ++ 32 ∷ more) ≡ None
no_end kind more is =
    none_or_some (behind (codes "endmodule\n") (kind ++ 32 ∷ more))
    (λ rest e.
    let p = same_names kind (codes "endmodule") (32 ∷ more) (10 ∷ rest) is.id refl refl refl (behind_found (codes "endmodule\n") (kind ++ 32 ∷ more) rest e) in
    let heads = p.1 in
    cc)

-- what stands behind the kind of an instance
abbrev inst_tail : InstLine → List ℕ
inst_tail inst = inst.name ++ (codes "(" ++ conns_text inst.conns)

item_read : (item : ItemLine) (rest : List ℕ) → IsItem item → item_at (item_text item ++ rest) ≡ Some (item, rest)
unfolding item_at behind
item_read (Wire net) rest is =
    let read = (before_again (codes ";\n") plain_again (λ more. refl)).again net rest is tt in
    ap (λ (o : Option (List ℕ × List ℕ)). o >>= λ x. Some (Wire x.0, x.1)) read
item_read (Inst inst) rest is =
    let miss : behind (codes "wire ") (inst_text inst ++ rest) ≡ None = rw (append_assoc inst.kind (32 ∷ inst_tail inst) rest) (no_wire inst.kind (inst_tail inst ++ rest) is.kind) in
    led_miss (codes "wire ") (map_at (λ net. Wire net) (before_at plain_at (codes ";\n"))) (map_at (λ i. Inst i) inst_at) (inst_text inst ++ rest) miss
    ∙ ap (λ (o : Option (InstLine × List ℕ)). o >>= λ x. Some (Inst x.0, x.1)) (inst_again.again inst rest is tt)

item_again : Again item_at item_text IsItem Anything
item_again = record { again = λ item rest is follows. item_read item rest is }

pub item_size : (item : ItemLine) → IsItem item → 0 < length (item_text item)
item_size (Wire net) is = omega arith
item_size (Inst inst) is = omega (arith, length-append inst.kind (32 ∷ inst_tail inst))

item_within : (item : ItemLine) (rest : List ℕ) → IsItem item → is_within (item_text item ++ rest) ≡ true
unfolding behind
item_within (Wire net) rest is = refl
item_within (Inst inst) rest is = rw (append_assoc inst.kind (32 ∷ inst_tail inst) rest, no_end inst.kind (inst_tail inst ++ rest) is.kind) refl

items_in_a_row : InARow item_at item_text IsItem is_within Anything
items_in_a_row = record { size = item_size; goes = item_within; next = λ item rest is. tt }

-- ---- modules

pub module_finds : Finds module_at module_text IsModule
unfolding module_at
module_finds =
    map_finds module_of module_text IsModule
    (both_finds (word_finds (codes "module ") (both_finds plain_finds (word_finds (codes "(") ports_finds))) (before_finds (codes "endmodule\n") (many_finds item_at item_text IsItem is_within item_finds)))
    (λ p. refl) (λ p is. record { name = is.0.0; ports = is.0.1; items = is.1 })

abbrev module_parts : ModuleLines → (List ℕ × List PortWords) × List ItemLine
module_parts m = ((m.name, m.ports), m.items)

at_last : (rest : List ℕ) → is_within (codes "endmodule\n" ++ rest) ≡ false
unfolding behind
at_last rest = refl

module_again : Again module_at module_text IsModule Anything
unfolding module_at
module_again =
    map_again module_of module_parts module_text IsModule
    (both_again (word_again (codes "module ") (both_again plain_again (word_again (codes "(") ports_again) (λ ports rest is follows. refl)))
    (before_again (codes "endmodule\n") (many_again item_at item_text IsItem is_within Anything item_again items_in_a_row) (λ rest. (tt, at_last rest))) (λ items rest is follows. tt))
    (λ m. refl) (λ m is. ((is.name, is.ports), is.items)) (λ m. refl)

pub module_size : (m : ModuleLines) → IsModule m → 0 < length (module_text m)
module_size m is = omega arith

modules_in_a_row : InARow module_at module_text IsModule has_more Anything
modules_in_a_row = record { size = module_size; goes = λ m rest is. refl; next = λ m rest is. tt }

pub netlist_finds : Finds netlist_at netlist_text AreModules
unfolding netlist_at
netlist_finds = many_finds module_at module_text IsModule has_more module_finds

pub netlist_again : Again netlist_at netlist_text AreModules (λ rest. Unit {0} × (has_more rest ≡ false))
unfolding netlist_at
netlist_again = many_again module_at module_text IsModule has_more Anything module_again modules_in_a_row
