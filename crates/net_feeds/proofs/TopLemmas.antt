-- The bits of the inputs of the top's module are the input bits of the top.
use Rattle.std.proofs.Common.{◌≡◌, ℕ, ◌+◌, ◌-◌, ◌<◌, ◌≤◌, ◌⊎◌, inl, inr, Bool, true, false, List, [], ◌∷◌, ◌++◌, get_or, length, map, replicate, take, refl, sym, ap, ◌∙◌, subst, arith}
use Rattle.std.specs.Prelude.{Option, Some, None, option_and_then, option_map}
use Rattle.std.specs.List.{slice_get, sum_by}
use Rattle.std.proofs.lemmas.List.{length-replicate}
use Rattle.std.proofs.lemmas.Option.{get_or_from_slice_get, same_Some, slice_get-get_or, slice_get-map, slice_get_within}
use Rattle.pw_defs.specs.declared.cells.Dir.{Dir}
use Rattle.pw_defs.specs.declared.cells.Dir.TheVariants.{Input, Output}
use Rattle.pw_defs.specs.declared.design.Body.{Body}
use Rattle.pw_defs.specs.declared.design.Body.TheVariants.{Module as ModuleBody}
use Rattle.pw_defs.specs.declared.netlist.Inst.{Inst}
use Rattle.pw_defs.specs.declared.netlist.Module.{Module}
use Rattle.pw_defs.specs.declared.netlist.Net.{Net}
use Rattle.pw_defs.specs.declared.netlist.Port.{Port}
use Rattle.list_defs.specs.Members.{IsIn, all_differ, same_name}
use Rattle.list_defs.specs.Orders.{AreAllRising}
use Rattle.list_defs.proofs.Few.{place_of_member}
use Rattle.list_defs.proofs.Longer.{slice_get-append}
use Rattle.list_defs.proofs.Members.{IsIn-map, IsIn-map_from, IsIn-slice_get}
use Rattle.list_defs.proofs.NameLemmas.{place_of-own, same_name-equal, same_name-itself}
use Rattle.list_defs.proofs.OneList.{one_place}
use Rattle.design_defs.specs.Bits.{IsSpot, Spot, range_in, spot_cmp}
use Rattle.design_defs.specs.DesignFaults.{IsTopInput}
use Rattle.design_defs.specs.Hierarchy.{IsOfModule, Sources, Way, body_at, number_named, ports_in, way_cmp}
use Rattle.design_defs.specs.Inputs.{AreReadSources, declared_names}
use Rattle.design_defs.specs.Ports.{is_input}
use Rattle.design_defs.specs.Ranges.{width}
use Rattle.design_defs.proofs.BitOrders.{spot_total, way_total}
use Rattle.design_defs.proofs.Lookups.{at_outer}
use Rattle.design_laws.proofs.Top.{lower_place, outer_before}
use Rattle.module_rows.specs.Growth.{no_module}
use Rattle.module_rows.specs.Reads.{module_at}
use Rattle.module_rows.specs.View.{name_at}
use Rattle.net_hierarchy.proofs.NamesApart.{place_at, place_upto}
use Rattle.net_hierarchy.proofs.Places.{get_replicate}
use Rattle.net_instances.specs.Instances.{own_bits}
use Rattle.net_instances.specs.declared.numbering.InstanceRow.{InstanceRow}
use Rattle.net_places.specs.Gathered.{net_by}
use Rattle.net_places.specs.Nets.{OwnNet, all_spots, own_net, spot_of}
use Rattle.net_places.specs.Plans.{names_in, rows_at}
use Rattle.net_places.specs.Tables.{IsPlanOf}
use Rattle.net_places.specs.declared.rows.NetRow.{NetRow}
use Rattle.net_bits.specs.Placed.{ArePlaced}
use Rattle.net_bits.specs.declared.placed.Placed.{Placed}
use Rattle.net_bits.proofs.Spots.{bit_there, nets_at, net_bit_there, plan_at, same_spots}
use Rattle.net_feeds.specs.Marked.{IsMarked}
use Rattle.net_feeds.specs.TopInputs.{AreMarkedAlso, AreTopMarks, IsInputBit, IsInputBitOf, IsInputPort}
use Rattle.net_feeds.proofs.LinkLemmas.{mapped, module_there}

-- the port of what a body owns
own_port : (s : Sources) (b : Body) (name : List ℕ) (n : OwnNet) → own_net s b name ≡ Some n → option_and_then (number_named (λ (p : Port). p.name) name) (ports_in s b) ≡ n.port
own_port s b name n own = by (range_in s b name) own
  where
    by : (o : Option (Option (ℕ × ℕ))) → option_map (λ (range : Option (ℕ × ℕ)).
        record { name = name; range = range; port = option_and_then (number_named (λ (p : Port). p.name) name) (ports_in s b) }) o ≡ Some n
        → option_and_then (number_named (λ (p : Port). p.name) name) (ports_in s b) ≡ n.port
    by None e = cc
    by (Some r) e = ap (λ (x : OwnNet). x.port) (same_Some (record { name = name; range = r; port = option_and_then (number_named (λ (p : Port). p.name) name) (ports_in s b) }) n e)

input_dir : (d : Dir) → is_input (Some d) ≡ true → d ≡ Input
input_dir Input e = refl
input_dir Output e = cc

take_none : {X : Type 0} (xs : List X) → take 0 xs ≡ []
take_none [] = refl
take_none (x ∷ xs) = refl

module _ (s : Sources) (p : Placed) (there : ArePlaced s p) (read : AreReadSources s) (spots : List Spot) (all : AreAllRising spot_cmp (IsSpot s) spots) (holder : ℕ)
    (top : option_map (λ (row : InstanceRow). row.body) (slice_get p.instances.now.rows 0) ≡ Some (ModuleBody holder)) where
  abbrev b : Body
  b = ModuleBody holder

  abbrev names : List (List ℕ)
  names = names_in p.modules.now.symbols s b

  abbrev nets : List NetRow
  nets = rows_at p.plans.now b

  row : (r : InstanceRow) × (slice_get p.instances.now.rows 0 ≡ Some r) × (r.body ≡ b)
  row = mapped (λ (r : InstanceRow). r.body) (slice_get p.instances.now.rows 0) b top

  abbrev first_way : Way
  first_way = get_or there.instances.ways 0 []

  at_first : slice_get there.instances.ways 0 ≡ Some first_way
  at_first = slice_get-get_or there.instances.ways 0 [] (omega (arith, slice_get_within p.instances.now.rows 0 row.0 row.1, there.instances.count))

  first_body : body_at s first_way ≡ Some b
  first_body = (there.instances.each 0 first_way row.0 at_first row.1).body ∙ ap Some row.2

  is_top : first_way ≡ []
  is_top = by first_way refl
    where
      by : (w : Way) → first_way ≡ w → first_way ≡ []
      by [] e = e
      by (name ∷ outer) e =
          let above = at_outer s name outer b (ap (body_at s) (sym e) ∙ first_body) in
          let place = place_of_member outer there.instances.ways (there.instances.all_ways.all outer (above.0, above.1)) in
          absurd (omega (
            arith,
            lower_place way_cmp way_total there.instances.ways there.instances.all_ways.rising place.0 0 outer (name ∷ outer) place.1
                (at_first ∙ ap Some e) (outer_before name outer),
          ))

  at_top : slice_get there.instances.ways 0 ≡ Some []
  at_top = at_first ∙ ap Some is_top

  top_body : body_at s [] ≡ Some b
  top_body = ap (body_at s) (sym is_top) ∙ first_body

  of_top : (m : Module) × IsOfModule s [] holder m
  of_top = module_there s [] holder top_body

  holder_is : module_at p.modules.now holder ≡ of_top.0
  holder_is = get_or_from_slice_get p.modules.now.modules holder of_top.0 no_module (ap (λ (ms : List Module). slice_get ms holder) (sym there.of_sources.0) ∙ of_top.1.is_module)

  ports_there : ports_in s b ≡ Some of_top.0.ports
  ports_there = ap (option_map (λ (x : Module). x.ports)) of_top.1.is_module

  plan : IsPlanOf (own_net s b) names nets
  plan = plan_at s p there [] b top_body

  begins : row.0.first_bit ≡ 0
  begins = there.instances.first_bits 0 row.0 row.1 ∙ ap (sum_by (own_bits there.bits)) (take_none p.instances.now.rows)

  -- the bit of a net of the top
  bit_of_net : (net : ℕ) (n : NetRow) (place : ℕ) → slice_get nets net ≡ Some n → place < width n.range
      → slice_get spots (n.first + place) ≡ Some (spot_of [] (name_at names n.name, place))
  bit_of_net net n place at within =
      let local = net_bit_there s p there [] b net n place top_body at within in
      let number : n.first + place ≡ row.0.first_bit + (n.first + place) = omega (arith, begins) in
      ap (λ ys. slice_get ys (n.first + place)) (same_spots s p there spots all) ∙ ap (slice_get (all_spots (nets_at s p there) there.instances.ways)) number
      ∙ bit_there s p there 0 row.0 [] (n.first + place) (name_at names n.name, place) row.1 at_top local

  -- an input of the top's module
  record IsInputOf (number : Option ℕ) : Type 0 where
    pub place : ℕ
    pub is : number ≡ Some place
    pub port : Port
    pub at : slice_get of_top.0.ports place ≡ Some port
    pub dir : port.dir ≡ Input

  input_of : (number : Option ℕ) → IsInputPort p.modules.now holder number → IsInputOf number
  input_of None is = absurd is
  input_of (Some k) is = record { place = k; is = refl; port = is.0; at = ap (λ (x : Module). slice_get x.ports k) (sym holder_is) ∙ is.1; dir = is.2 }

  top_of_input : (bit : ℕ) (x : Spot) → slice_get spots bit ≡ Some x → (net : ℕ) → IsInputBit p.modules.now p.plans.now holder net bit → IsTopInput s x
  top_of_input bit x at net is = record {
    in_top = ap (λ (y : Spot). y.way) (sym x_is);
    port = input.port;
    has_port = (b, of_top.0.ports, top_body, ports_there, IsIn-slice_get of_top.0.ports input.place input.port input.at);
    same = ap (λ (q : Port). q.name) port_same ∙ sym (same_name-equal name found.0.name found.2) ∙ ap (λ (y : Spot). y.net) x_is;
    input = ap (λ (d : Dir). is_input (Some d)) input.dir;
  }
    where
      name : List ℕ
      name = name_at names is.row.name

      input : IsInputOf is.row.port
      input = input_of is.row.port is.input

      place : ℕ
      place = bit - is.row.first

      number : is.row.first + place ≡ bit
      number = omega (arith, is.within.0)

      x_is : spot_of [] (name, place) ≡ x
      x_is = same_Some (spot_of [] (name, place)) x
          (sym (bit_of_net net is.row place is.there (omega (arith, is.within.0, is.within.1))) ∙ ap (slice_get spots) number ∙ at)

      own : own_net s b name ≡ Some (net_by names is.row)
      own = plan.nets.each (net_by names is.row) (IsIn-map (net_by names) is.row nets (IsIn-slice_get nets net is.row is.there))

      named : number_named (λ (q : Port). q.name) name of_top.0.ports ≡ Some input.place
      named = ap (option_and_then (number_named (λ (q : Port). q.name) name)) (sym ports_there) ∙ own_port s b name (net_by names is.row) own ∙ input.is

      found : (q : Port) × (slice_get of_top.0.ports input.place ≡ Some q) × (same_name name q.name ≡ true)
      found = place_at (λ (q : Port). same_name name q.name) of_top.0.ports input.place named

      port_same : input.port ≡ found.0
      port_same = same_Some input.port found.0 (sym input.at ∙ found.1)

  -- one port has a name
  names_apart : (k l : ℕ) (q r : Port) → slice_get of_top.0.ports k ≡ Some q → slice_get of_top.0.ports l ≡ Some r → q.name ≡ r.name → k ≡ l
  names_apart k l q r at_q at_r same =
      same_Some k l (sym (place_of-own q.name (declared_names of_top.0) k differ (listed k q at_q)) ∙ place_of-own q.name (declared_names of_top.0) l differ (listed l r at_r ∙ ap Some (sym same)))
    where
      differ : all_differ same_name (declared_names of_top.0) ≡ true
      differ = (read.each_module of_top.0 (IsIn-slice_get s.modules holder of_top.0 of_top.1.is_module)).own_names

      listed : (n : ℕ) (x : Port) → slice_get of_top.0.ports n ≡ Some x → slice_get (declared_names of_top.0) n ≡ Some x.name
      listed n x at =
          slice_get-append (map (λ (y : Port). y.name) of_top.0.ports ++ map (λ (y : Net). y.name) of_top.0.nets) (map (λ (y : Inst). y.name) of_top.0.insts) n x.name
          (slice_get-append (map (λ (y : Port). y.name) of_top.0.ports) (map (λ (y : Net). y.name) of_top.0.nets) n x.name
          (slice_get-map (λ (y : Port). y.name) of_top.0.ports n ∙ ap (option_map (λ (y : Port). y.name)) at))

  input_of_top : (bit : ℕ) (x : Spot) → slice_get spots bit ≡ Some x → IsTopInput s x → IsInputBitOf p.modules.now p.plans.now holder (length nets) bit
  input_of_top bit x at is = (net.0, slice_get_within nets net.0 from.0 net.1, record { row = from.0; there = net.1; input = input; within = (omega (arith, bit_is), omega (arith, bit_is, within)) })
    where
      spot : IsSpot s x
      spot = all.each x (IsIn-slice_get spots bit x at)

      range_is : range_in s b x.net ≡ Some spot.0
      range_is = ap (option_and_then (λ body. range_in s body x.net)) (sym (ap (body_at s) is.in_top ∙ top_body)) ∙ spot.1

      n : OwnNet
      n = record { name = x.net; range = spot.0; port = option_and_then (number_named (λ (q : Port). q.name) x.net) (ports_in s b) }

      own : own_net s b x.net ≡ Some n
      own = ap (option_map (λ (range : Option (ℕ × ℕ)). record { name = x.net; range = range; port = n.port })) range_is

      from : (r : NetRow) × IsIn r nets × (n ≡ net_by names r)
      from = IsIn-map_from (net_by names) n nets (plan.nets.all n own)

      net : (k : ℕ) × (slice_get nets k ≡ Some from.0)
      net = place_of_member from.0 nets from.1

      within : x.place < width from.0.range
      within = omega (arith, spot.2, ap (λ (y : OwnNet). width y.range) from.2)

      bit_is : bit ≡ from.0.first + x.place
      bit_is = one_place spot_cmp spot_total spots all.rising bit (from.0.first + x.place) x at
          (bit_of_net net.0 from.0 x.place net.1 within
          ∙ (λ i. Some (record { way = sym is.in_top i; net = ap (λ (y : OwnNet). y.name) (sym from.2) i; place = x.place })))

      ports_same : is.has_port.1 ≡ of_top.0.ports
      ports_same =
          let body_same : is.has_port.0 ≡ b = same_Some is.has_port.0 b (sym is.has_port.2 ∙ top_body) in
          same_Some is.has_port.1 of_top.0.ports (sym is.has_port.3 ∙ ap (ports_in s) body_same ∙ ports_there)

      of_port : (k : ℕ) × (slice_get of_top.0.ports k ≡ Some is.port)
      of_port = place_of_member is.port of_top.0.ports (subst (IsIn is.port) ports_same is.has_port.4)

      upto : (k : ℕ) × (number_named (λ (q : Port). q.name) x.net of_top.0.ports ≡ Some k) × (k ≤ of_port.0)
      upto = place_upto (λ (q : Port). same_name x.net q.name) of_top.0.ports of_port.0 is.port of_port.1
          (ap (same_name x.net) is.same ∙ same_name-itself x.net)

      found : (q : Port) × (slice_get of_top.0.ports upto.0 ≡ Some q) × (same_name x.net q.name ≡ true)
      found = place_at (λ (q : Port). same_name x.net q.name) of_top.0.ports upto.0 upto.1

      one : upto.0 ≡ of_port.0
      one = names_apart upto.0 of_port.0 found.0 is.port found.1 of_port.1 (sym (same_name-equal x.net found.0.name found.2) ∙ sym is.same)

      port_is : from.0.port ≡ Some of_port.0
      port_is = ap (λ (y : OwnNet). y.port) (sym from.2) ∙ ap (option_and_then (number_named (λ (q : Port). q.name) x.net)) ports_there ∙ upto.1 ∙ ap Some one

      input : IsInputPort p.modules.now holder from.0.port
      input = subst (IsInputPort p.modules.now holder) (sym port_is) (is.port, ap (λ (y : Module). slice_get y.ports of_port.0) holder_is ∙ of_port.1, input_dir is.port.dir is.input)

  -- the marks of the bits of inputs
  pub top_marks_are : (count : ℕ) (marks : List Bool) → length spots ≡ count → AreMarkedAlso (IsInputBitOf p.modules.now p.plans.now holder (length nets)) (replicate count false) marks
      → AreTopMarks s spots marks
  top_marks_are count marks many are = record {
    all = are.same ∙ length-replicate count false ∙ sym many;
    each = λ bit x at.
        let iff = are.marked bit (omega (arith, slice_get_within spots bit x at, many, length-replicate count false)) in
        (λ is. by bit x at (iff.0 is), λ is. iff.1 (inr (input_of_top bit x at is)));
  }
    where
      by : (bit : ℕ) (x : Spot) → slice_get spots bit ≡ Some x → IsMarked (replicate count false) bit ⊎ IsInputBitOf p.modules.now p.plans.now holder (length nets) bit → IsTopInput s x
      by bit x at (inl old) = let never : false ≡ true = get_replicate count false true bit old in cc
      by bit x at (inr is) = top_of_input bit x at is.0 is.2
