-- The text of a netlist gives modules that declare no name twice, have no constant on the left of an assignment, and in which no name is empty.
use Rattle.std.proofs.Common.{◌≢◌, ℕ, List, [], ◌∷◌, ◌++◌, Option, map, inl, inr, sym, ◌∙◌, subst}
use Rattle.std.specs.List.{AllByRecursion, filter_map, flat_map}
use Rattle.std.specs.Option.{option_to_list}
use Rattle.pw_defs.specs.declared.netlist.Assign.{Assign}
use Rattle.pw_defs.specs.declared.netlist.Conn.{Conn}
use Rattle.pw_defs.specs.declared.netlist.Expr.{Expr}
use Rattle.pw_defs.specs.declared.netlist.Inst.{Inst}
use Rattle.pw_defs.specs.declared.netlist.Module.{Module}
use Rattle.pw_defs.specs.declared.netlist.Net.{Net}
use Rattle.pw_defs.specs.declared.netlist.Port.{Port}
use Rattle.list_defs.specs.Members.{IsIn}
use Rattle.list_defs.proofs.Members.{IsIn-append_cases, IsIn-flat_map_from, IsIn-map_from}
use Rattle.list_defs.proofs.Rising.{each_in}
use Rattle.net_text.specs.ModulesMeant.{assigns_in, insts_in, module_of, net_in, port_in}
use Rattle.net_text.specs.NetlistFaults.{ReadsAsModules}
use Rattle.net_text.specs.NetlistGrammar.{ModuleWords}
use Rattle.net_text.specs.NetlistTokens.{netlist_tokens}
use Rattle.net_text.specs.SecondDeclarations.{Declaration, declarations}
use Rattle.design_defs.specs.Inputs.{IsReadModule, declared_names}
use Rattle.design_defs.specs.Places.{exprs_in, names_alone}
use Rattle.design_laws.specs.FullNames.{names_of}
use Rattle.read_laws.specs.Laws.{NetlistsGiveFullNames, NetlistsGiveModules}
use Rattle.read_laws.proofs.DeclaredNames.{Chooses, chooses_instance, chooses_net, chooses_port, inst_name, instance_names, instance_text, own_names, same_texts}
use Rattle.read_laws.proofs.FullNames.{HasFullNames}
use Rattle.read_laws.proofs.FullTokens.{tokens_have_texts}
use Rattle.read_laws.proofs.LeftSides.{IsTarget}
use Rattle.read_laws.proofs.OwnNames.{made_from, split_at}
use Rattle.read_laws.proofs.ReadItems.{AreReadWords, IsFullConn, IsFullDeclaration, IsFullInst, IsReadAssign, IsReadItem, declared_full, of_netlist}

-- each module of a text is that of words that were read
module _ (text : List ℕ) (modules : List Module) (given : ReadsAsModules text modules) where
  each_words : AllByRecursion AreReadWords given.words
  each_words = of_netlist (netlist_tokens text) given.words (tokens_have_texts text) given.reads

  -- what holds of the module of each words holds of each module
  each_given : (P : Module → Type 0) → ((words : ModuleWords) → IsIn words given.words → AreReadWords words → P (module_of words))
      → (m : Module) → IsIn m modules → P m
  each_given P holds m i =
      let from = IsIn-map_from module_of m given.words (subst (IsIn m) given.value i) in
      subst P (sym from.2) (holds from.0 from.1 (each_in AreReadWords given.words from.0 each_words from.1))

-- the expressions of an instance, and the two sides of an assignment
abbrev conns_in : Inst → List Expr
conns_in i = flat_map (λ (c : Conn). option_to_list c.expr) i.conns

abbrev sides : Assign → List Expr
sides a = a.left ∷ a.right ∷ []

module _ (words : ModuleWords) (read : AreReadWords words) where
  assign_read : (a : Assign) → IsIn a (flat_map assigns_in words.items) → IsReadAssign a
  assign_read a i =
      let from = IsIn-flat_map_from assigns_in words.items a i in
      each_in IsReadAssign (assigns_in from.0) a (each_in IsReadItem words.items from.0 read.items from.1).assigns from.2

  inst_read : (x : Inst) → IsIn x (flat_map insts_in words.items) → IsFullInst x
  inst_read x i =
      let from = IsIn-flat_map_from insts_in words.items x i in
      each_in IsFullInst (insts_in from.0) x (each_in IsReadItem words.items from.0 read.items from.1).insts from.2

  -- expressions of instances, and of assignments
  conn_full : (e : Expr) → IsIn e (flat_map conns_in (flat_map insts_in words.items)) → HasFullNames e
  conn_full e i =
      let x = IsIn-flat_map_from conns_in (flat_map insts_in words.items) e i in
      let c = IsIn-flat_map_from (λ (c : Conn). option_to_list c.expr) x.0.conns e x.2 in
      each_in HasFullNames (option_to_list c.0.expr) e (each_in IsFullConn x.0.conns c.0 (inst_read x.0 x.1) c.1) c.2

  side_full : (e : Expr) → IsIn e (flat_map sides (flat_map assigns_in words.items)) → HasFullNames e
  side_full e i =
      let a = IsIn-flat_map_from sides (flat_map assigns_in words.items) e i in
      let read = assign_read a.0 a.1 in
      each_in HasFullNames (sides a.0) e (read.left, (read.right, tt)) a.2

  expr_full : (e : Expr) → IsIn e (flat_map conns_in (flat_map insts_in words.items) ++ flat_map sides (flat_map assigns_in words.items)) → HasFullNames e
  expr_full e i =
      elim (IsIn-append_cases e (flat_map conns_in (flat_map insts_in words.items)) (flat_map sides (flat_map assigns_in words.items)) i)
      [ inl conn ↦ conn_full e conn | inr side ↦ side_full e side ]

  -- ---- declared names

  -- a name of what is chosen of declarations
  chosen_full : {X : Type 0} (kind : ℕ) (choose : Declaration → Option X) (name_of : X → List ℕ) → Chooses kind choose name_of → (name : List ℕ)
      → IsIn name (map name_of (filter_map choose (declarations words))) → name ≢ []
  chosen_full kind choose name_of chooses name i =
      let from = IsIn-map_from name_of name (filter_map choose (declarations words)) i in
      let made = made_from choose (declarations words) from.0 from.1 in
      let full = each_in IsFullDeclaration (declarations words) made.0 (declared_full words read) made.1 in
      subst (λ (n : List ℕ). n ≢ []) (sym (from.2 ∙ (chooses made.0 from.0 made.2).1)) full

  inst_full : (name : List ℕ) → IsIn name (map inst_name (flat_map insts_in words.items)) → name ≢ []
  inst_full name i =
      let there = subst (IsIn name) (instance_names words ∙ sym (same_texts (filter_map instance_text (declarations words)))) i in
      chosen_full 2 instance_text (λ n. n) chooses_instance name there

  declared_name_full : (name : List ℕ) → IsIn name (declared_names (module_of words)) → name ≢ []
  unfolding module_of
  declared_name_full name i =
      let ports = map (λ (p : Port). p.name) (filter_map (port_in (declarations words)) (declarations words)) in
      let nets = map (λ (n : Net). n.name) (filter_map (net_in (declarations words)) (declarations words)) in
      let insts = map inst_name (flat_map insts_in words.items) in
      elim (IsIn-append_cases name (ports ++ nets) insts i) [
        | inl wired ↦ elim (IsIn-append_cases name ports nets wired) [
          | inl port ↦ chosen_full 0 (port_in (declarations words)) (λ (p : Port). p.name) (chooses_port (declarations words)) name port
          | inr net ↦ chosen_full 1 (net_in (declarations words)) (λ (n : Net). n.name) (chooses_net (declarations words)) name net
        ]
        | inr inst ↦ inst_full name inst
      ]

  name_full : (name : List ℕ) → IsIn name (names_of (module_of words)) → name ≢ []
  unfolding module_of
  name_full name i =
      elim (IsIn-append_cases name (declared_names (module_of words)) (flat_map names_alone (exprs_in (module_of words))) i) [
        | inl declared ↦ declared_name_full name declared
        | inr alone ↦ (let e = IsIn-flat_map_from names_alone (exprs_in (module_of words)) name alone in expr_full e.0 e.1 name e.2)
      ]

  no_constant : (a : Assign) → IsIn a (module_of words).assigns → IsTarget a.left
  unfolding module_of
  no_constant a i = (assign_read a i).target

-- the text of a netlist gives modules that declare no name twice and have no constant on the left of an assignment
pub netlists_give_modules : NetlistsGiveModules
netlists_give_modules text modules given = each_given text modules given IsReadModule each
  where
    each : (words : ModuleWords) → IsIn words given.words → AreReadWords words → IsReadModule (module_of words)
    each words there read =
        let split = split_at words given.words there in
        record {
          own_names = own_names words (λ front y rest parted refused. given.once split.0 words split.1 split.2 (front, y, rest, parted, refused));
          no_constant = λ a i. no_constant words read a i (module_of words);
        }

-- no name in them is empty
pub full_names_are_given : NetlistsGiveFullNames
full_names_are_given text modules given m name i = each_given text modules given HasNone (λ words there read. name_full words read) m i name
  where
    HasNone : Module → Type 0
    HasNone m = (name : List ℕ) → IsIn name (names_of m) → name ≢ []
