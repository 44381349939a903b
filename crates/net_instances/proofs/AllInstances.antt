-- The rows of a tree are those of all instances.
use Rattle.std.proofs.Common.{◌≡◌, ◌⊎◌, ℕ, zero, suc, ◌+◌, ◌<◌, ◌≤◌, List, [], ◌∷◌, Option, Some, get_or, length, map, option_map, option_and_then, slice_get, inl, inr, refl, sym, ap, ◌∙◌, subst, arith}
use Rattle.std.proofs.lemmas.Bool.{cases_lt}
use Rattle.std.proofs.lemmas.List.{get_or_past, length-map}
use Rattle.std.proofs.lemmas.Option.{get_or_from_slice_get, same_Some, slice_get-get_or, slice_get-map, slice_get_within}
use Rattle.pw_defs.specs.declared.design.Body.{Body}
use Rattle.pw_defs.specs.declared.design.Body.TheVariants.{Module as ModuleBody, Cell as CellBody, Model as ModelBody}
use Rattle.pw_defs.specs.declared.netlist.Inst.{Inst}
use Rattle.pw_defs.specs.declared.netlist.Module.{Module}
use Rattle.list_defs.specs.Members.{IsIn}
use Rattle.list_defs.specs.Orders.{AreAllRising}
use Rattle.list_defs.proofs.Few.{place_of_member}
use Rattle.list_defs.proofs.Members.{IsIn-map, IsIn-map_from, IsIn-slice_get}
use Rattle.design_defs.specs.Hierarchy.{IsInstance, IsOfModule, Sources, Way, body_at, body_inside, module_at, module_named, type_of, way_cmp, AreNamedInsts}
use Rattle.design_defs.proofs.Lookups.{at_outer}
use Rattle.module_rows.specs.declared.plain.Netlist.{Netlist}
use Rattle.module_rows.specs.Reads.{inst_at, no_inst}
use Rattle.module_rows.specs.Growth.{no_module}
use Rattle.module_rows.specs.Reads as reads
use Rattle.net_hierarchy.specs.Graph.{AreInstsApart, Types, types_of}
use Rattle.net_sizes.specs.declared.sizes.Counts.{Counts}
use Rattle.net_hierarchy.proofs.Ways.{inside_of_line, top_at}
use Rattle.net_instances.specs.declared.numbering.InstanceRow.{InstanceRow}
use Rattle.net_instances.specs.declared.numbering.Instances.{Instances}
use Rattle.net_instances.specs.declared.tree.TreeRow.{TreeRow}
use Rattle.net_instances.specs.Instances.{AreInstances, AreRowsOf, HasChildAt, IsInsideAt, IsInstanceRow, IsLineOf, IsRowOf}
use Rattle.net_instances.specs.Orders.{IsInOrder}
use Rattle.net_instances.specs.Trees.{IsTree, holder_of, lines_in, name_in, name_of, parent_in, type_at}
use Rattle.net_instances.specs.Ways.{AreNamed, AreAllNamed, way_in, way_to}
use Rattle.net_instances.proofs.DownLemmas.{parent_is, parent_lower, top_way, way_parts}

module _ (s : Sources) (n : Netlist) (types : Types) (top : ℕ) (rows : List TreeRow) (firsts : List ℕ)
    (modules_same : s.modules ≡ n.modules) (types_same : types ≡ types_of s) (named : module_named s s.top ≡ Some top) (apart : AreInstsApart s)
    (names : AreNamedInsts s) (tree : IsTree n types top rows firsts) (whole : length firsts ≡ length rows) where
  -- a line inside an instance is one of a module
  record IsLineThere (body : Body) (inst : ℕ) : Type 0 where
    pub holder : ℕ
    pub m : Module
    pub i : Inst
    pub of_module : body ≡ ModuleBody holder
    pub is_module : module_at s holder ≡ Some m
    pub there : slice_get m.insts inst ≡ Some i
    pub same : inst_at n (holder_of body) inst ≡ i

  line_there : (body : Body) (inst : ℕ) → inst < lines_in n body → IsLineThere body inst
  line_there (CellBody c) inst within = absurd (omega (arith, within))
  line_there (ModelBody m) inst within = absurd (omega (arith, within))
  line_there (ModuleBody h) inst within = by (cases_lt h (length n.modules))
    where
      m : Module
      m = reads.module_at n h

      by : (h < length n.modules) ⊎ (length n.modules ≤ h) → IsLineThere (ModuleBody h) inst
      by (inl there) = record {
        holder = h;
        m = m;
        i = inst_at n h inst;
        of_module = refl;
        is_module = ap (λ (ms : List Module). slice_get ms h) modules_same ∙ slice_get-get_or n.modules h no_module there;
        there = slice_get-get_or m.insts inst no_inst within;
        same = refl;
      }
      by (inr past) =
          let none : m ≡ no_module = get_or_past n.modules h no_module past in
          let few : length m.insts ≡ 0 = ap (λ (x : Module). length x.insts) none in
          absurd (omega (arith, within, few))

  -- what the types say of a line is what the module has under its name
  type_there : (h : ℕ) (m : Module) (i : Inst) (inst : ℕ) → module_at s h ≡ Some m → slice_get m.insts inst ≡ Some i → type_at types h inst ≡ type_of s i.kind
  type_there h m i inst is there =
      ap (λ (t : Types). type_at t h inst) types_same
      ∙ ap (λ o. option_and_then (λ t. t) (option_and_then (λ row. slice_get row inst) o)) (slice_get-map row_of s.modules h ∙ ap (option_map row_of) is)
      ∙ ap (option_and_then (λ t. t)) (slice_get-map (λ (x : Inst). type_of s x.kind) m.insts inst ∙ ap (option_map (λ (x : Inst). type_of s x.kind)) there)
    where
      row_of : Module → List (Option Body)
      row_of x = map (λ (y : Inst). type_of s y.kind) x.insts

  -- the row is that of the instance at the way
  record IsWayTo (row : TreeRow) (way : Way) : Type 0 where
    pub body : body_at s way ≡ Some row.body
    pub named_so : AreNamed way

  name_there : (k : ℕ) (row : TreeRow) (name : List ℕ) → slice_get rows k ≡ Some row → slice_get n.symbols row.name ≡ Some name → name_in n.symbols rows k ≡ name
  name_there k row name there spelled = ap (name_of n.symbols) there ∙ get_or_from_slice_get n.symbols row.name name [] spelled

  -- an instance inside another
  one_further : (k : ℕ) (row : TreeRow) → 0 < k → slice_get rows k ≡ Some row → (outer_way : Way)
      → ((outer : TreeRow) → slice_get rows row.parent ≡ Some outer → IsWayTo outer outer_way) → IsWayTo row (name_in n.symbols rows k ∷ outer_way)
  one_further k row below there outer_way above =
      let at = tree.inside k row below there in
      let line = line_there at.outer.body row.inst at.within in
      let outer = above at.outer at.there in
      let spelled : slice_get n.symbols row.name ≡ Some line.i.name = at.child.named ∙ ap (λ (i : Inst). Some i.name) line.same in
      let name : name_in n.symbols rows k ≡ line.i.name = name_there k row line.i.name there spelled in
      let typed : type_of s line.i.kind ≡ Some row.body =
      sym (type_there line.holder line.m line.i row.inst line.is_module line.there) ∙ ap (λ (h : ℕ). type_at types h row.inst) (sym (ap holder_of line.of_module)) ∙ at.child.typed in
      let one : IsIn line.i line.m.insts = IsIn-slice_get line.m.insts row.inst line.i line.there in
      let inside : body_inside s line.i.name (ModuleBody line.holder) ≡ Some row.body =
      inside_of_line s apart line.holder (Some row.body) (record { m = line.m; i = line.i; is_module = line.is_module; one = one; is_type = typed }) in
      record {
        body = ap (λ (w : List ℕ). option_and_then (body_inside s w) (body_at s outer_way)) name
            ∙ ap (option_and_then (body_inside s line.i.name)) (outer.body ∙ ap Some line.of_module) ∙ inside;
        named_so = (λ empty. names line.holder line.m line.i line.is_module one (sym name ∙ empty), outer.named_so);
      }

  way_there : (more k : ℕ) (row : TreeRow) → k ≤ more → slice_get rows k ≡ Some row → IsWayTo row (way_to n.symbols rows more k)
  unfolding way_to
  way_there more zero row few there =
      let same : tree.top_row ≡ row = same_Some tree.top_row row (sym tree.top_there ∙ there) in
      record { body = top_at s top named ∙ ap Some (sym tree.top_body ∙ ap (λ (r : TreeRow). r.body) same); named_so = tt }
  way_there zero (suc k) row few there = absurd (omega (arith, few))
  way_there (suc more) (suc k) row few there =
      let at = tree.inside (suc k) row (omega arith) there in
      let parent : parent_in rows (suc k) ≡ row.parent = parent_is rows (suc k) row there at.earlier in
      let lower = parent_lower rows (suc k) (omega arith) in
      one_further (suc k) row (omega arith) there (way_to n.symbols rows more (parent_in rows (suc k)))
      (λ outer is. way_there more (parent_in rows (suc k)) outer (omega (arith, few, lower)) (subst (λ (p : ℕ). slice_get rows p ≡ Some outer) (sym parent) is))

  is_way : (k : ℕ) (row : TreeRow) → slice_get rows k ≡ Some row → IsWayTo row (way_in n.symbols rows k)
  is_way k row there = way_there k k row (omega arith) there

  pub all_named : AreAllNamed n.symbols rows
  all_named k within = (is_way k (get_or rows k tree.top_row) (slice_get-get_or rows k tree.top_row within)).named_so

  -- the row of an instance inside another
  record HasInner (k inst : ℕ) (name : List ℕ) : Type 0 where
    pub first : ℕ
    pub is_first : slice_get firsts k ≡ Some first
    pub within : first + inst < length rows
    pub way : way_in n.symbols rows (first + inst) ≡ name ∷ way_in n.symbols rows k

  inner_there : (k : ℕ) (row : TreeRow) (h : ℕ) (m : Module) (i : Inst) (inst : ℕ) → slice_get rows k ≡ Some row → row.body ≡ ModuleBody h → module_at s h ≡ Some m
      → slice_get m.insts inst ≡ Some i → HasInner k inst i.name
  inner_there k row h m i inst there of_module is line =
      let in_rows : k < length rows = slice_get_within rows k row there in
      let first : ℕ = get_or firsts k 0 in
      let is_first : slice_get firsts k ≡ Some first = slice_get-get_or firsts k 0 (omega (arith, in_rows, whole)) in
      let inside = tree.all k first row is_first there in
      let same : reads.module_at n h ≡ m = get_or_from_slice_get n.modules h m no_module (ap (λ (ms : List Module). slice_get ms h) (sym modules_same) ∙ is) in
      let count : lines_in n row.body ≡ length m.insts = ap (lines_in n) of_module ∙ ap (λ (x : Module). length x.insts) same in
      let short : inst < length m.insts = slice_get_within m.insts inst i line in
      let inner = inside.each inst (omega (arith, short, count)) in
      let holder : holder_of row.body ≡ h = ap holder_of of_module in
      let inst_same : inst_at n (holder_of row.body) inst ≡ i =
      ap (λ (x : ℕ). inst_at n x inst) holder ∙ ap (λ (x : Module). get_or x.insts inst no_inst) same ∙ get_or_from_slice_get m.insts inst i no_inst line in
      let spelled : slice_get n.symbols inner.0.name ≡ Some i.name = inner.2.named ∙ ap (λ (x : Inst). Some x.name) inst_same in
      let parent : parent_in rows (first + inst) ≡ k = parent_is rows (first + inst) inner.0 inner.1 (omega (arith, inside.behind, inner.2.inside)) ∙ inner.2.inside in
      record {
        first = first;
        is_first = is_first;
        within = slice_get_within rows (first + inst) inner.0 inner.1;
        way = way_parts n.symbols rows (first + inst) (omega (arith, inside.behind))
            ∙ ap (λ (name : List ℕ). name ∷ way_in n.symbols rows (parent_in rows (first + inst))) (name_there (first + inst) inner.0 i.name inner.1 spelled)
            ∙ ap (λ (p : ℕ). i.name ∷ way_in n.symbols rows p) parent;
      }

  -- each instance has a row
  record HasRow (way : Way) : Type 0 where
    pub number : ℕ
    pub within : number < length rows
    pub is : way_in n.symbols rows number ≡ way

  row_there : (way : Way) (body : Body) → body_at s way ≡ Some body → HasRow way
  row_there [] body e = record { number = 0; within = slice_get_within rows 0 tree.top_row tree.top_there; is = top_way n.symbols rows }
  row_there (name ∷ outer) body e =
      let above = at_outer s name outer body e in
      let by = above.2 in
      let found = row_there outer above.0 above.1 in
      let row = get_or rows found.number tree.top_row in
      let there : slice_get rows found.number ≡ Some row = slice_get-get_or rows found.number tree.top_row found.within in
      let same_body : row.body ≡ above.0 = same_Some row.body above.0 (sym (is_way found.number row there).body ∙ ap (body_at s) found.is ∙ above.1) in
      let place = place_of_member by.inst by.of_module.insts by.is_line in
      let inner = inner_there found.number row by.number by.of_module by.inst place.0 there (same_body ∙ by.is_outer) by.is_module place.1 in
      record {
        number = inner.first + place.0;
        within = inner.within;
        is = inner.way ∙ ap (λ (w : Way). by.inst.name ∷ w) found.is ∙ ap (λ (x : List ℕ). x ∷ outer) (sym by.is_name);
      }

  -- the instances in order
  module _ (order places : List ℕ) (ordered : IsInOrder n.symbols rows order places) where
    ways : List Way
    ways = map (way_in n.symbols rows) order

    in_order : (k : ℕ) → IsIn k order → k < length rows
    in_order k there = let place = place_of_member k order there in subst (λ (x : ℕ). x < length rows) (get_or_from_slice_get order place.0 k 0 place.1) (ordered.within place.0 0 (slice_get_within order place.0 k place.1))

    -- the place of a row in the order
    record HasPlace (k : ℕ) : Type 0 where
      pub place : ℕ
      pub listed : slice_get places k ≡ Some place
      pub there : slice_get order place ≡ Some k

    placed : (k : ℕ) → k < length rows → HasPlace k
    placed k within =
        let listed : slice_get places k ≡ Some (get_or places k 0) = slice_get-get_or places k 0 (omega (arith, within, ordered.count)) in
        record { place = get_or places k 0; listed = listed; there = ordered.placed k (get_or places k 0) within listed }

    way_at_place : (k place : ℕ) → slice_get order place ≡ Some k → slice_get ways place ≡ Some (way_in n.symbols rows k)
    unfolding ways
    way_at_place k place there = slice_get-map (way_in n.symbols rows) order place ∙ ap (option_map (way_in n.symbols rows)) there

    all_ways : AreAllRising way_cmp (IsInstance s) ways
    unfolding ways
    all_ways = record {
      rising = ordered.rising all_named;
      each = λ way there.
          let found = IsIn-map_from (way_in n.symbols rows) way order there in
          let row = get_or rows found.0 tree.top_row in
          let is = is_way found.0 row (slice_get-get_or rows found.0 tree.top_row (in_order found.0 found.1)) in
          (row.body, ap (body_at s) found.2 ∙ is.body);
      all = λ way is.
          let found = row_there way is.0 is.1 in
          let at = placed found.number found.within in
          subst (λ (w : Way). IsIn w (map (way_in n.symbols rows) order)) found.is
          (IsIn-map (way_in n.symbols rows) found.number order (IsIn-slice_get order at.place found.number at.there));
    }

    module _ (bits : Counts) (made : Instances) (rows_of : AreRowsOf rows firsts order places bits made.rows) (children_same : made.children ≡ places) where
      inside_at : (k : ℕ) (row : InstanceRow) (is : IsRowOf rows firsts places k row) → IsInsideAt s n.symbols ways row (way_in n.symbols rows k)
      inside_at zero row is = subst (IsInsideAt s n.symbols ways row) (sym (top_way n.symbols rows)) IsInsideAt.top
      inside_at (suc k) row is =
          let at = tree.inside (suc k) is.old (omega arith) is.there in
          let line = line_there at.outer.body is.old.inst at.within in
          let parent : parent_in rows (suc k) ≡ is.old.parent = parent_is rows (suc k) is.old is.there at.earlier in
          let spelled : slice_get n.symbols is.old.name ≡ Some line.i.name = at.child.named ∙ ap (λ (i : Inst). Some i.name) line.same in
          let name : name_in n.symbols rows (suc k) ≡ line.i.name = name_there (suc k) is.old line.i.name is.there spelled in
          let outer : Way = way_in n.symbols rows is.old.parent in
          let parts : way_in n.symbols rows (suc k) ≡ line.i.name ∷ outer =
          way_parts n.symbols rows (suc k) (omega arith) ∙ ap (λ (x : List ℕ). x ∷ way_in n.symbols rows (parent_in rows (suc k))) name
          ∙ ap (λ (p : ℕ). line.i.name ∷ way_in n.symbols rows p) parent in
          let place = placed is.old.parent (slice_get_within rows is.old.parent at.outer at.there) in
          let number : place.place ≡ row.parent = same_Some place.place row.parent (sym place.listed ∙ is.inside) in
          let there : slice_get ways row.parent ≡ Some outer = way_at_place is.old.parent row.parent (subst (λ (p : ℕ). slice_get order p ≡ Some is.old.parent) number place.there) in
          let of_module : IsOfModule s outer line.holder line.m = record { body = (is_way is.old.parent at.outer at.there).body ∙ ap Some line.of_module; is_module = line.is_module } in
          let of_line : IsLineOf s outer row.inst line.i.name = record {
            number = line.holder;
            m = line.m;
            i = line.i;
            of_module = of_module;
            there = ap (slice_get line.m.insts) is.inst ∙ line.there;
            same = refl;
          } in
          subst (IsInsideAt s n.symbols ways row) (sym parts)
          (IsInsideAt.inner line.i.name outer there (ap (slice_get n.symbols) is.name ∙ spelled) of_line)

      child_at : (k : ℕ) (row : InstanceRow) (is : IsRowOf rows firsts places k row) (number line : ℕ) (m : Module) (i : Inst)
          → IsOfModule s (way_in n.symbols rows k) number m → slice_get m.insts line ≡ Some i
          → HasChildAt ways made.children (way_in n.symbols rows k) row.first_child line i.name
      child_at k row is number line m i of_module there =
          let body : is.old.body ≡ ModuleBody number = same_Some is.old.body (ModuleBody number) (sym (is_way k is.old is.there).body ∙ of_module.body) in
          let inner = inner_there k is.old number m i line is.there body of_module.is_module there in
          let first : inner.first ≡ row.first_child = same_Some inner.first row.first_child (sym inner.is_first ∙ is.first) in
          let place = placed (inner.first + line) inner.within in
          record {
            number = place.place;
            listed = ap (λ (c : List ℕ). slice_get c (row.first_child + line)) children_same ∙ ap (λ (f : ℕ). slice_get places (f + line)) (sym first) ∙ place.listed;
            there = way_at_place (inner.first + line) place.place place.there ∙ ap Some inner.way;
          }

      one_row : (number : ℕ) (way : Way) (row : InstanceRow) → slice_get ways number ≡ Some way → slice_get made.rows number ≡ Some row
          → IsInstanceRow s n.symbols ways made.children way row
      one_row number way row way_is there =
          let short : number < length made.rows = slice_get_within made.rows number row there in
          let k : ℕ = get_or order number 0 in
          let at : slice_get order number ≡ Some k = slice_get-get_or order number 0 (omega (arith, short, rows_of.count)) in
          let is = rows_of.each number k row at there in
          let same : way_in n.symbols rows k ≡ way = same_Some (way_in n.symbols rows k) way (sym (way_at_place k number at) ∙ way_is) in
          subst (λ (w : Way). IsInstanceRow s n.symbols ways made.children w row) same (record {
            body = (is_way k is.old is.there).body ∙ ap Some (sym is.body);
            inside = inside_at k row is;
            found = child_at k row is;
          })

      pub are_instances : AreInstances s n bits made
      unfolding ways
      are_instances = record {
        ways = ways;
        all_ways = all_ways;
        count = rows_of.count ∙ sym (length-map order (way_in n.symbols rows));
        each = one_row;
        first_bits = rows_of.first_bits;
      }
