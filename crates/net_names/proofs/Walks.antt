-- What is known when the names of all instances up to a number are met.
use Rattle.std.proofs.Common.{◌≡◌, ◌≢◌, ℕ, zero, suc, true, false, ◌+◌, ◌<◌, List, [], ◌∷◌, ◌++◌, None, Some, get_or, length, map, slice_get, take, inl, inr, refl, sym, ap, ◌∙◌, subst, arith}
use Rattle.std.specs.declared.cmp.Ordering.TheVariants.{Less, Greater}
use Rattle.std.proofs.lemmas.List.{map_push, take_more}
use Rattle.std.proofs.lemmas.Option.{get_or_from_slice_get, same_Some, slice_get-get_or, slice_get-map, slice_get_within}
use Rattle.pw_defs.specs.declared.cells.Cells.{Cells}
use Rattle.pw_defs.specs.declared.design.Body.{Body}
use Rattle.pw_defs.specs.declared.design.Body.TheVariants.{Module as ModuleBody, Cell as CellBody, Model as ModelBody}
use Rattle.pw_defs.specs.declared.model.Model.{Model}
use Rattle.pw_defs.specs.declared.netlist.Inst.{Inst}
use Rattle.pw_defs.specs.declared.netlist.Module.{Module}
use Rattle.pw_defs.specs.declared.netlist.Net.{Net}
use Rattle.pw_defs.specs.declared.netlist.Port.{Port}
use Rattle.list_defs.specs.Members.{all_differ, same_name}
use Rattle.list_defs.specs.Orders.{IsRising}
use Rattle.list_defs.proofs.Few.{place_of_member}
use Rattle.list_defs.proofs.Members.{IsIn-slice_get}
use Rattle.list_defs.proofs.Rising.{not_before_itself, rising_at}
use Rattle.design_defs.specs.DesignFaults.{HasPortAt, HasThingName, StandsAt, Thing, way_of}
use Rattle.design_defs.specs.Hierarchy.{IsOfModule, Sources, Way, body_at, inst_named, module_named, path, ports_in, way_cmp, AreNamedInsts}
use Rattle.design_defs.specs.Inputs.{AreReadSources}
use Rattle.design_defs.specs.Links.{IsInstLine}
use Rattle.design_defs.specs.Names.{joined}
use Rattle.design_defs.specs.Ports.{ports_among}
use Rattle.design_defs.proofs.BitOrders.{way_total}
use Rattle.module_rows.specs.Growth.{no_module}
use Rattle.module_rows.specs.Reads.{inst_at, module_at, no_inst}
use Rattle.module_rows.specs.declared.plain.Netlist.{Netlist}
use Rattle.net_hierarchy.proofs.Ways.{find_own}
use Rattle.net_instances.specs.Instances.{AreInstances, IsInsideAt, IsLineOf}
use Rattle.net_instances.specs.Ways.{AreNamed}
use Rattle.net_instances.specs.declared.numbering.InstanceRow.{InstanceRow}
use Rattle.net_instances.specs.declared.numbering.Instances.{Instances}
use Rattle.net_sizes.specs.declared.sizes.Counts.{Counts}
use Rattle.net_names.specs.Meets.{met}
use Rattle.net_names.specs.Things.{HasMet, HasPlace, IsBelow, bit_rank, port_rank}
use Rattle.net_names.specs.Walking.{HasMetAt, HasMetInner, HasMetPorts, HasMetTop, IsLineIn, IsOwnPlace, IsPathBelow, place_in}
use Rattle.net_names.specs.declared.meeting.Meeting.{Meeting}
use Rattle.net_names.specs.declared.meeting.NameAt.{NameAt}
use Rattle.net_names.specs.declared.meeting.Place.{Place}
use Rattle.net_names.proofs.EachBody.{option_map_some}
use Rattle.net_names.proofs.Law.{below_top, named_way}
use Rattle.net_names.proofs.Ranks.{instance_done, next_met, port_done, ports_met}
use Rattle.net_names.proofs.Stands.{is_instance, is_there, no_instance}
use Rattle.list_defs.proofs.NameLemmas.{differ_behind}

take_get : {X : Type 0} (n : ℕ) (xs : List X) (i : ℕ) (x : X) → slice_get (take n xs) i ≡ Some x → slice_get xs i ≡ Some x
take_get zero xs i x e = cc
take_get (suc n) [] i x e = cc
take_get (suc n) (y ∷ ys) zero x e = e
take_get (suc n) (y ∷ ys) (suc i) x e = take_get n ys i x e

not_before_top : (v : Way) → way_cmp v [] ≢ Less
not_before_top [] = not_before_itself way_cmp way_total []
not_before_top (name ∷ outer) = λ less. (let never : Greater ≡ Less = less in cc)

module _ (s : Sources) (n : Netlist) (cells : Cells) (models : List Model) (bits : Counts) (made : Instances) (modules_same : s.modules ≡ n.modules)
    (cells_same : s.cells ≡ cells) (models_same : s.models ≡ models) (read : AreReadSources s) (named : AreNamedInsts s) (are : AreInstances s n bits made) where
  rising : IsRising way_cmp are.ways
  rising = are.all_ways.rising

  names : (way : Way) (body : Body) → body_at s way ≡ Some body → AreNamed way
  names = named_way s named

  -- THE TOP has the number 0
  top_first : (number : ℕ) → slice_get are.ways number ≡ Some [] → number ≡ 0
  top_first zero e = refl
  top_first (suc k) e =
      let within = slice_get_within are.ways (suc k) [] e in
      absurd (not_before_top (get_or are.ways 0 []) (rising_at way_cmp are.ways rising 0 (suc k) (get_or are.ways 0 []) [] (omega arith)
      (slice_get-get_or are.ways 0 [] (omega (arith, within))) e))

  at_top : (way : Way) → slice_get are.ways 0 ≡ Some way → way ≡ []
  at_top way e =
      let there = are.all_ways.each way (IsIn-slice_get are.ways 0 way e) in
      let top = below_top s way [] there.0 there.0 there.1 refl in
      let place = place_of_member [] are.ways (are.all_ways.all [] (top.top, top.is_top)) in
      same_Some way [] (sym e ∙ ap (slice_get are.ways) (sym (top_first place.0 place.1)) ∙ place.1)

  no_top_instance : (x : Thing) (name : List ℕ) → HasThingName s x name → way_of x ≡ [] → port_rank x ≡ 0 → bit_rank x < 0
  no_top_instance (Thing.instance v) name of_x at e =
      let there = is_there s (Thing.instance v) name of_x in
      let never : [] ≡ there.own ∷ there.outer = sym at ∙ there.is_way in
      cc
  no_top_instance (Thing.port v k) name of_x at e = absurd (omega (arith, e))
  no_top_instance (Thing.vector_bit v k i) name of_x at e = absurd (omega (arith, e))

  first_bit : (x : Thing) (name : List ℕ) → HasThingName s x name → port_rank x ≡ 0 → bit_rank x < 1
  first_bit (Thing.instance v) name of_x e = omega arith
  first_bit (Thing.port v k) name of_x e = absurd (omega (arith, e))
  first_bit (Thing.vector_bit v k i) name of_x e = absurd (omega (arith, e))

  -- WHERE an instance below the top stands
  record StandsOutside (name : List ℕ) (outer : Way) (own : Place) : Type 0 where
    pub number : ℕ
    pub m : Module
    pub of_module : IsOfModule s outer number m
    pub on : IsInstLine s outer name own.line
    pub there : slice_get are.ways own.holder ≡ Some outer

  stands_outside : (row : InstanceRow) (name : List ℕ) (outer : Way) (own : Place) → slice_get are.ways row.parent ≡ Some outer → IsLineOf s outer row.inst name
      → IsOwnPlace n made.rows row own → StandsOutside name outer own
  stands_outside row name outer own parent line place = record {
    number = line.number;
    m = line.m;
    of_module = line.of_module;
    on = record {
      module_number = line.number;
      of_module = line.m;
      is_module = line.of_module;
      inst = line.i;
      is_inst = subst (λ x. inst_named line.m x ≡ Some line.i) line.same (find_own line.m.insts line.i differ (IsIn-slice_get line.m.insts row.inst line.i line.there));
      on_line = ap (λ (i : Inst). i.line) (sym is_inst) ∙ sym in_module.2;
    };
    there = ap (slice_get are.ways) place.holder ∙ parent;
  }
    where
      there_is : slice_get n.modules line.number ≡ Some line.m
      there_is = ap (λ (ms : List Module). slice_get ms line.number) (sym modules_same) ∙ line.of_module.is_module

      is_module : module_at n line.number ≡ line.m
      is_module = get_or_from_slice_get n.modules line.number line.m no_module there_is

      is_inst : inst_at n line.number row.inst ≡ line.i
      is_inst = ap (λ (m : Module). get_or m.insts row.inst no_inst) is_module ∙ get_or_from_slice_get line.m.insts row.inst line.i no_inst line.there

      bodies : place.outer.body ≡ ModuleBody line.number
      bodies =
          same_Some place.outer.body (ModuleBody line.number) (sym (are.each row.parent outer place.outer parent place.there).body ∙ line.of_module.body)

      in_module : IsLineIn n (ModuleBody line.number) row.inst own.line
      in_module = subst (λ b. IsLineIn n b row.inst own.line) bodies place.line

      differ : all_differ same_name (map (λ (i : Inst). i.name) line.m.insts) ≡ true
      differ =
          differ_behind (map (λ (p : Port). p.name) line.m.ports ++ map (λ (w : Net). w.name) line.m.nets) (map (λ (i : Inst). i.name) line.m.insts)
          (read.each_module line.m (IsIn-slice_get s.modules line.number line.m line.of_module.is_module)).own_names

  -- PORTS of an instance
  ports_same : (body : Body) (ports : List Port) → ports_among n.modules cells models body ≡ Some ports → ports_in s body ≡ Some ports
  ports_same body ports e =
      ap (λ ms. ports_among ms s.cells s.models body) modules_same ∙ ap (λ cs. ports_among n.modules cs s.models body) cells_same
      ∙ ap (λ ms. ports_among n.modules cells ms body) models_same ∙ e

  ports_done : (number : ℕ) (way : Way) (body : Body) (own : Place) (old new : Meeting) → slice_get are.ways number ≡ Some way → body_at s way ≡ Some body
      → (ports : HasMetPorts n cells models number own (path way) body old new)
      → ((t : Thing) → is_instance t ≡ false → way_of t ≡ way → HasPlace s are.ways t (place_in n number own body))
      → HasMet s are.ways (IsBelow are.ways number 1 0) old → HasMet s are.ways (IsBelow are.ways (suc number) 0 0) new
  ports_done number way body own old new is_way there is stand h =
      instance_done s are.ways rising names number way is_way (suc (0 + length is.ports)) new all_below
      (subst (HasMet s are.ways (IsBelow are.ways number (suc (0 + length is.ports)) 0)) (sym is.met_so)
      (ports_met s are.ways rising names number way is_way (place_in n number own body) stand is.ports 0 old has h))
    where
      are_ports : ports_in s body ≡ Some is.ports
      are_ports = ports_same body is.ports is.are

      has : (j : ℕ) (p : Port) → slice_get is.ports j ≡ Some p → HasPortAt s way (0 + j) p
      has j p e =
          let same : j ≡ 0 + j = omega arith in
          subst (λ (k : ℕ). HasPortAt s way k p) same (body, is.ports, there, are_ports, e)

      few : (k : ℕ) (p : Port) → HasPortAt s way k p → k < length is.ports
      few k p port =
          let bodies : port.0 ≡ body = same_Some port.0 body (sym port.2 ∙ there) in
          let ports : port.1 ≡ is.ports = same_Some port.1 is.ports (sym port.3 ∙ ap (ports_in s) bodies ∙ are_ports) in
          slice_get_within is.ports k p (subst (λ (ps : List Port). slice_get ps k ≡ Some p) ports port.4)

      all_below : (x : Thing) (name : List ℕ) → HasThingName s x name → way_of x ≡ way → port_rank x < suc (0 + length is.ports)
      all_below (Thing.instance v) name of_x at = omega arith
      all_below (Thing.port v k) name of_x at =
          let port = is_there s (Thing.port v k) name of_x in
          let within = few k port.p (subst (λ w. HasPortAt s w k port.p) at port.has) in
          omega (arith, within)
      all_below (Thing.vector_bit v k i) name of_x at =
          let port = is_there s (Thing.vector_bit v k i) name of_x in
          let within = few k port.p (subst (λ w. HasPortAt s w k port.p) at port.has) in
          omega (arith, within)

  -- ports of a module stand at its line
  stand_in_module : (number : ℕ) (way : Way) (holder : ℕ) (own : Place) (ports : List Port) → slice_get are.ways number ≡ Some way → body_at s way ≡ Some (ModuleBody holder)
      → ports_among n.modules cells models (ModuleBody holder) ≡ Some ports → (t : Thing) → is_instance t ≡ false → way_of t ≡ way
      → HasPlace s are.ways t (place_in n number own (ModuleBody holder))
  stand_in_module number way holder own ports is_way there ports_there t not_one at =
      option_map_some (λ (m : Module). m.ports) (slice_get n.modules holder) ports ports_there
      (λ m is same.
      let is_module : slice_get s.modules holder ≡ Some m = ap (λ (ms : List Module). slice_get ms holder) modules_same ∙ is in
      record {
        way = way;
        number = holder;
        there = is_way;
        stands = StandsAt.module_port m (no_instance t way not_one) at (record { body = there; is_module = is_module })
            (ap (λ (x : Module). x.line) (get_or_from_slice_get n.modules holder m no_module is));
      })

  -- those of others stand where the instance does
  stand_below : (number : ℕ) (name : List ℕ) (outer : Way) (body : Body) (own : Place) (ports : List Port) → slice_get are.ways number ≡ Some (name ∷ outer)
      → body_at s (name ∷ outer) ≡ Some body → ports_among n.modules cells models body ≡ Some ports → StandsOutside name outer own
      → (t : Thing) → is_instance t ≡ false → way_of t ≡ name ∷ outer → HasPlace s are.ways t (place_in n number own body)
  stand_below number name outer (ModuleBody holder) own ports is_way there ports_there out t not_one at =
      stand_in_module number (name ∷ outer) holder own ports is_way there ports_there t not_one at
  stand_below number name outer (CellBody c) own ports is_way there ports_there out t not_one at = record {
    way = outer;
    number = out.number;
    there = out.there;
    stands = StandsAt.cell_port name c out.m (no_instance t (name ∷ outer) not_one) at there out.of_module out.on;
  }
  stand_below number name outer (ModelBody c) own ports is_way there ports_there out t not_one at = record {
    way = outer;
    number = out.number;
    there = out.there;
    stands = StandsAt.model_port name c out.m (no_instance t (name ∷ outer) not_one) at there out.of_module out.on;
  }

  -- WHAT IS KNOWN before the instance of a number
  pub record IsMetTo (number : ℕ) (paths : List (List ℕ)) (m : Meeting) : Type 0 where
    pub are_paths : paths ≡ map path (take number are.ways)
    pub met_so : HasMet s are.ways (IsBelow are.ways number 0 0) m

  longer_paths : (number : ℕ) (way : Way) (paths : List (List ℕ)) → slice_get are.ways number ≡ Some way → paths ≡ map path (take number are.ways)
      → paths ++ path way ∷ [] ≡ map path (take (number + 1) are.ways)
  longer_paths number way paths is_way e =
      ap (λ ps. ps ++ path way ∷ []) e ∙ sym (map_push path (take number are.ways) way)
      ∙ ap (map path) (ap (λ w. take number are.ways ++ w ∷ []) (sym (get_or_from_slice_get are.ways number way [] is_way))
      ∙ sym (take_more are.ways number [] (slice_get_within are.ways number way is_way)))

  next_number : (number : ℕ) (m : Meeting) → HasMet s are.ways (IsBelow are.ways (suc number) 0 0) m → HasMet s are.ways (IsBelow are.ways (number + 1) 0 0) m
  next_number number m h =
      let same : suc number ≡ number + 1 = omega arith in
      subst (λ (k : ℕ). HasMet s are.ways (IsBelow are.ways k 0 0) m) same h

  -- the top
  top_met : (row : InstanceRow) (paths more : List (List ℕ)) (old new : Meeting) → slice_get made.rows 0 ≡ Some row → (way : Way) → slice_get are.ways 0 ≡ Some way
      → HasMetTop n cells models row paths more old new → IsMetTo 0 paths old → IsMetTo (0 + 1) more new
  top_met row paths more old new is_row way is_way top h = record {
    are_paths = top.longer ∙ longer_paths 0 [] paths is_top h.are_paths;
    met_so = next_number 0 new (ports_done 0 [] row.body top.own old new is_top there top.ports (stand row.body there top.ports.are)
        (port_done s are.ways rising names 0 [] is_top 0 0 old no_top_instance h.met_so));
  }
    where
      is_top : slice_get are.ways 0 ≡ Some []
      is_top = is_way ∙ ap Some (at_top way is_way)

      there : body_at s [] ≡ Some row.body
      there = (are.each 0 [] row is_top is_row).body

      stand : (body : Body) → body_at s [] ≡ Some body → ports_among n.modules cells models body ≡ Some top.ports.ports → (t : Thing) → is_instance t ≡ false → way_of t ≡ []
          → HasPlace s are.ways t (place_in n 0 top.own body)
      stand (ModuleBody holder) is ports_there t not_one at = stand_in_module 0 [] holder top.own top.ports.ports is_top is ports_there t not_one at
      stand (CellBody c) is ports_there t not_one at =
          absurd (option_map_some ModuleBody (module_named s s.top) (CellBody c) is (λ k found never. (let no : ModuleBody k ≡ CellBody c = never in cc)))
      stand (ModelBody c) is ports_there t not_one at =
          absurd (option_map_some ModuleBody (module_named s s.top) (ModelBody c) is (λ k found never. (let no : ModuleBody k ≡ ModelBody c = never in cc)))

  -- an instance below the top
  record IsInner (row : InstanceRow) (way : Way) : Type 0 where
    pub name : List ℕ
    pub outer : Way
    pub is_way : way ≡ name ∷ outer
    pub parent : slice_get are.ways row.parent ≡ Some outer
    pub is_name : slice_get n.symbols row.name ≡ Some name
    pub line : IsLineOf s outer row.inst name

  inner_of : (number : ℕ) (row : InstanceRow) (way : Way) → 0 < number → slice_get are.ways number ≡ Some way → IsInsideAt s n.symbols are.ways row way → IsInner row way
  inner_of number row _ some is_way IsInsideAt.top = absurd (omega (arith, some, top_first number is_way))
  inner_of number row _ some is_way (IsInsideAt.inner name outer parent is_name line) =
      record { name = name; outer = outer; is_way = refl; parent = parent; is_name = is_name; line = line }

  path_there : (number : ℕ) (paths : List (List ℕ)) (row : InstanceRow) (way : Way) (name : List ℕ) (outer : Way) (p : List ℕ) → paths ≡ map path (take number are.ways)
      → slice_get are.ways row.parent ≡ Some outer → slice_get n.symbols row.name ≡ Some name → IsPathBelow n.symbols paths row p → p ≡ path (name ∷ outer)
  path_there number paths row way name outer p e parent is_name is =
      option_map_some path (slice_get (take number are.ways) row.parent) is.outer
      (sym (slice_get-map path (take number are.ways) row.parent) ∙ ap (λ (ps : List (List ℕ)). slice_get ps row.parent) (sym e) ∙ is.is_outer)
      (λ w found same.
      let ways_same : w ≡ outer = same_Some w outer (sym (take_get number are.ways row.parent w found) ∙ parent) in
      let names_same : is.name ≡ name = same_Some is.name name (sym is.is_name ∙ is_name) in
      is.is ∙ ap (λ o. joined o is.name) (sym same ∙ ap path ways_same) ∙ ap (joined (path outer)) names_same)

  inner_met : (number : ℕ) (row : InstanceRow) (own : Place) (paths more : List (List ℕ)) (old new : Meeting) → slice_get made.rows number ≡ Some row → (way : Way)
      → slice_get are.ways number ≡ Some way → 0 < number → IsOwnPlace n made.rows row own → HasMetInner n cells models number own row paths more old new → IsMetTo number paths old
      → IsMetTo (number + 1) more new
  inner_met number row own paths more old new is_row way is_way some place inner h = record {
    are_paths = inner.longer ∙ ap (λ p. paths ++ p ∷ []) is_path ∙ longer_paths number whole paths there h.are_paths;
    met_so = next_number number new
        (ports_done number whole row.body own (met old at) new there body ports (stand_below number one.name one.outer row.body own ports.ports there body ports.are out) own_met);
  }
    where
      one : IsInner row way
      one = inner_of number row way some is_way (are.each number way row is_way is_row).inside

      whole : Way
      whole = one.name ∷ one.outer

      there : slice_get are.ways number ≡ Some whole
      there = is_way ∙ ap Some one.is_way

      body : body_at s whole ≡ Some row.body
      body = (are.each number whole row there is_row).body

      is_path : inner.path ≡ path whole
      is_path = path_there number paths row whole one.name one.outer inner.path h.are_paths one.parent one.is_name inner.is_path

      out : StandsOutside one.name one.outer own
      out = stands_outside row one.name one.outer own one.parent one.line place

      at : NameAt
      at = record { place = own; name = path whole }

      ports : HasMetPorts n cells models number own (path whole) row.body (met old at) new
      ports = subst (λ p. HasMetPorts n cells models number own p row.body (met old (record { place = own; name = p })) new) is_path inner.ports

      own_met : HasMet s are.ways (IsBelow are.ways number 1 0) (met old at)
      own_met =
          port_done s are.ways rising names number whole there 0 1 (met old at) (λ x name of_x in_way e. first_bit x name of_x e)
          (next_met s are.ways rising names number whole there 0 0 (Thing.instance whole) at old refl refl refl (HasThingName.instance one.name one.outer (row.body, body))
          (record { way = one.outer; number = out.number; there = out.there; stands = StandsAt.instance one.name out.m refl out.of_module out.on }) h.met_so)

  -- ANY number
  pub at_met : (number : ℕ) (paths more : List (List ℕ)) (old new : Meeting) → number < length made.rows → HasMetAt n cells models made.rows number paths more old new
      → IsMetTo number paths old → IsMetTo (number + 1) more new
  at_met number paths more old new within one h = by one
    where
      way : Way
      way = get_or are.ways number []

      is_way : slice_get are.ways number ≡ Some way
      is_way = slice_get-get_or are.ways number [] (omega (arith, within, are.count))

      by : HasMetAt n cells models made.rows number paths more old new → IsMetTo (number + 1) more new
      by (HasMetAt.top row is_row first top) =
          subst (λ (k : ℕ). IsMetTo (k + 1) more new) (sym first)
          (top_met row paths more old new (ap (slice_get made.rows) (sym first) ∙ is_row) way (ap (slice_get are.ways) (sym first) ∙ is_way) top
          (subst (λ (k : ℕ). IsMetTo k paths old) first h))
      by (HasMetAt.inner row own is_row some place inner) = inner_met number row own paths more old new is_row way is_way some place inner h

  pub none_met : IsMetTo 0 [] (record { names = []; first = None })
  none_met = record {
    are_paths = refl;
    met_so = record {
      known = λ x name below of_x. absurd (none x below);
      from = λ name there. absurd there;
      first = λ at twice. none twice.x twice.has_x;
    };
  }
    where
      none : (x : Thing) → IsBelow are.ways 0 0 0 x → ⊥
      none x is = elim is.below [
        | inl less ↦ absurd (omega (arith, less))
        | inr same ↦ elim same.1 [ inl lower ↦ absurd (omega (arith, lower)) | inr last ↦ absurd (omega (arith, last.1)) ]
      ]
