-- What the steps that gather a plan add to it.
use Rattle.std.proofs.Common.{◌≡◌, ℕ, List, [], ◌∷◌, ◌++◌, BTreeMap, BTreeSet, Vec, Global, inl, inr, refl, sym, subst}
use Rattle.pw_defs.specs.declared.intent.Unit.{Unit as PowerUnit}
use Rattle.pw_defs.specs.declared.supplies.Said.{Said}
use Rattle.pw_defs.specs.declared.supplies.Supply.{Supply}
use Rattle.pw_defs.specs.declared.values.Value.{Value}
use Rattle.list_defs.specs.Members.{IsIn}
use Rattle.supply_defs.specs.UnitLists.{IsSeen, IsSeenRoot}
use Rattle.supply_defs.specs.UnitViews.{IsRootIn, view_ends}
use Rattle.supply_defs.specs.Values.{IsMentioned, IsNamedInput, IsPortWithin, IsSwitchOutput}
use Rattle.supply_defs.proofs.Roots.{root_of_root}
use Rattle.unit_lists.specs.Kept.{Gains}
use Rattle.unit_lists.specs.Plans.{Grows, IsInputPlanned, IsMentionOn, IsPlan, IsPortOn, IsPortPlanned, IsSaidPlanned, IsSeenPlanned, Meets, Plans, view_of}
use Rattle.unit_lists.specs.Roots.{IsRootBy, KeepsRoot}
use Rattle.unit_lists.specs.declared.plans.Plan.{Plan}
use Rattle.unit_lists.specs.declared.views.View.{View}
use Rattle.unit_lists.proofs.PlanLemmas.{gains_last, grows_begins, grows_given, grows_links, grows_met, grows_on, grows_seen, plan_gains_begins, plan_gains_given, plan_gains_links, plan_gains_met, plan_gains_seen}

-- a root in its unit
in_unit : (P : View → Type 0) (root : View) (unit : ℕ) → root.unit ≡ unit → P root → P (view_of unit root.supply)
in_unit P root unit e h = let Q : ℕ → Type 0 = λ u. P (view_of u root.supply) in subst Q e h

-- a supply's root is found and met
pub meets : (supplies : List Supply) (p : Plan) (roots : BTreeMap View ℕ) (views : BTreeSet View) (a : View) (root : ℕ)
    → IsRootBy supplies p.roots a root → KeepsRoot supplies p.roots roots a root → Gains p.met.keys views.keys (view_of a.unit root)
    → Meets supplies p (record p { roots = roots; met = views }) a (view_of a.unit root)
meets supplies p roots views a root found kept gains = record {
  unit = refl;
  planned = record {
    grows = grows_met p roots views (view_of a.unit root) gains;
    plan = λ units any h.
        let is : IsRootIn supplies units a.unit a.supply root = found units h.roots in (
          plan_gains_met supplies units p roots views (view_of a.unit root) gains (kept units h.roots is)
              (root_of_root supplies (view_ends supplies units a.unit) a.supply root is) h,
          is,
        );
  };
  met = gains.there;
}

-- the root of a supply that the unit sees is added
pub adds_seen : (supplies : List Supply) (p q : Plan) (views : BTreeSet View) (a root : View) → Meets supplies p q a root → Gains q.seen.keys views.keys root
    → Plans supplies p (record q { seen = views }) (λ units. IsSeen supplies units a.unit a.supply)
    (λ units. IsSeenPlanned supplies units (record q { seen = views }) a.unit a.supply)
adds_seen supplies p q views a root m gains = record {
  grows = grows_on p q (record q { seen = views }) m.planned.grows (grows_seen q views root gains);
  plan = λ units sees h. by units sees (m.planned.plan units tt h);
}
  where
    by : (units : List PowerUnit) → IsSeen supplies units a.unit a.supply → IsPlan supplies units q × IsRootIn supplies units a.unit a.supply root.supply
        → IsPlan supplies units (record q { seen = views }) × IsSeenPlanned supplies units (record q { seen = views }) a.unit a.supply
    by units sees h = (
      plan_gains_seen supplies units q views root gains
          (let S : ℕ → Type 0 = λ u. IsSeenRoot supplies units u root.supply in subst S (sym m.unit) (record { supply = a.supply; seen = sees; is_root = h.1 })) h.0,
      record {
        root = root.supply;
        is_root = h.1;
        met = in_unit (λ b. IsIn b q.met.keys) root a.unit m.unit m.met;
        seen = in_unit (λ b. IsIn b views.keys) root a.unit m.unit gains.there;
      },
    )

-- a value that a line mentions is added
pub adds_said : (supplies : List Supply) (p q : Plan) (views : BTreeSet View) (begins : Vec (View × Value) Global) (supply : ℕ) (said : Said) (root : View)
    → Meets supplies p q (view_of said.unit supply) root → Gains q.given.keys views.keys root → begins.items ≡ q.begins.items ++ (root, said.value) ∷ []
    → Plans supplies p (record q { given = views; begins = begins }) (λ units. IsMentioned supplies said.unit supply said.value)
    (λ units. IsSaidPlanned supplies units (record q { given = views; begins = begins }) supply said)
adds_said supplies p q views begins supply said root m gains e = record {
  grows = grows_on p q end m.planned.grows (grows_on q mid end (grows_given q views root gains) (grows_begins mid begins (root, said.value) more));
  plan = λ units mentioned h. by units mentioned (m.planned.plan units tt h);
}
  where
    mid : Plan
    mid = record q { given = views }

    end : Plan
    end = record q { given = views; begins = begins }

    more : Gains q.begins.items begins.items (root, said.value)
    more = gains_last q.begins.items begins.items (root, said.value) e

    by : (units : List PowerUnit) → IsMentioned supplies said.unit supply said.value → IsPlan supplies units q × IsRootIn supplies units said.unit supply root.supply
        → IsPlan supplies units end × IsSaidPlanned supplies units end supply said
    by units mentioned h =
        let U : ℕ → Type 0 = λ u. IsMentionOn supplies units (view_of u root.supply) said.value in
        let on : IsMentionOn supplies units root said.value = subst U (sym m.unit) (record { supply = supply; is_root = h.1; mentioned = mentioned }) in (
          plan_gains_begins supplies units mid begins root said.value more on (plan_gains_given supplies units q views root gains (inl (said.value, on)) h.0),
          record {
            root = root.supply;
            is_root = h.1;
            given = in_unit (λ b. IsIn b views.keys) root said.unit m.unit gains.there;
            begins = in_unit (λ b. IsIn (b, said.value) begins.items) root said.unit m.unit more.there;
          },
        )

-- a link to the output of a switch is added
pub adds_input : (supplies : List Supply) (p q : Plan) (links : BTreeSet (View × View)) (output : View) (input : ℕ) (root : View)
    → Meets supplies p q (view_of output.unit input) root → Gains q.links.keys links.keys (root, output)
    → Plans supplies p (record q { links = links }) (λ units. IsSwitchOutput supplies output.unit output.supply × IsNamedInput supplies output.supply input)
    (λ units. IsInputPlanned supplies units (record q { links = links }) output.unit output.supply input)
adds_input supplies p q links output input root m gains = record {
  grows = grows_on p q (record q { links = links }) m.planned.grows (grows_links q links (root, output) gains);
  plan = λ units switch h. by units switch (m.planned.plan units tt h);
}
  where
    by : (units : List PowerUnit) → IsSwitchOutput supplies output.unit output.supply × IsNamedInput supplies output.supply input
        → IsPlan supplies units q × IsRootIn supplies units output.unit input root.supply
        → IsPlan supplies units (record q { links = links }) × IsInputPlanned supplies units (record q { links = links }) output.unit output.supply input
    by units switch h = (
      plan_gains_links supplies units q links root output gains (inr (record {
        input = input;
        one_unit = m.unit;
        output = switch.0;
        named = switch.1;
        is_root = (let R : ℕ → Type 0 = λ u. IsRootIn supplies units u input root.supply in subst R (sym m.unit) h.1);
      })) h.0,
      record {
        root = root.supply;
        is_root = h.1;
        met = in_unit (λ b. IsIn b q.met.keys) root output.unit m.unit m.met;
        link = in_unit (λ b. IsIn (b, output) links.keys) root output.unit m.unit gains.there;
      },
    )

-- a link from a macro's port is added
pub adds_port : (supplies : List Supply) (p q r : Plan) (seen given : BTreeSet View) (links : BTreeSet (View × View)) (unit inner port : ℕ) (root inside : View)
    → Meets supplies p q (view_of unit port) root → Meets supplies q r (view_of inner port) inside → Gains r.seen.keys seen.keys root
    → Gains r.given.keys given.keys root → Gains r.links.keys links.keys (inside, root)
    → Plans supplies p (record r { seen = seen; given = given; links = links }) (λ units. IsPortWithin units unit inner port)
    (λ units. IsPortPlanned supplies units (record r { seen = seen; given = given; links = links }) unit inner port)
adds_port supplies p q r seen given links unit inner port root inside m n gains_one gains_two gains_link = record {
  grows = grows_on p q end m.planned.grows (grows_on q r end n.planned.grows behind);
  plan = λ units within h. let one = m.planned.plan units tt h in let two = n.planned.plan units tt one.0 in by units within one.1 two.1 two.0;
}
  where
    sees : Plan
    sees = record r { seen = seen }

    gives : Plan
    gives = record r { seen = seen; given = given }

    end : Plan
    end = record r { seen = seen; given = given; links = links }

    behind : Grows r end
    behind = grows_on r sees end (grows_seen r seen root gains_one) (grows_on sees gives end (grows_given sees given root gains_two) (grows_links gives links (inside, root) gains_link))

    by : (units : List PowerUnit) → IsPortWithin units unit inner port → IsRootIn supplies units unit port root.supply → IsRootIn supplies units inner port inside.supply
        → IsPlan supplies units r → IsPlan supplies units end × IsPortPlanned supplies units end unit inner port
    by units within outside inner_root h =
        let S : ℕ → Type 0 = λ u. IsSeenRoot supplies units u root.supply in
        let sees_it : IsSeenRoot supplies units root.unit root.supply = subst S (sym m.unit) (record { supply = port; seen = IsSeen.port inner within; is_root = outside }) in
        let G : ℕ → Type 0 = λ u. IsPortOn supplies units (view_of u root.supply) in
        let on : IsPortOn supplies units root = subst G (sym m.unit) (record { inner = inner; port = port; within = within; is_root = outside }) in
        let W : ℕ → Type 0 = λ u. IsPortWithin units u inner port in
        let V : ℕ → Type 0 = λ u. IsPortWithin units root.unit u port in
        let R : ℕ → Type 0 = λ u. IsRootIn supplies units u port root.supply in
        let I : ℕ → Type 0 = λ u. IsRootIn supplies units u port inside.supply in (
          plan_gains_links supplies units gives links inside root gains_link
              (inl (record { port = port; within = subst V (sym n.unit) (subst W (sym m.unit) within); inside = subst I (sym n.unit) inner_root; outside = subst R (sym m.unit) outside }))
              (plan_gains_given supplies units sees given root gains_two (inr on) (plan_gains_seen supplies units r seen root gains_one sees_it h)),
          record {
            root = root.supply;
            inner_root = inside.supply;
            is_root = outside;
            is_inner = inner_root;
            met = in_unit (λ b. IsIn b r.met.keys) inside inner n.unit n.met;
            given = in_unit (λ b. IsIn b given.keys) root unit m.unit gains_two.there;
            link = in_unit (λ b. IsIn (b, view_of unit root.supply) links.keys) inside inner n.unit (in_unit (λ b. IsIn (inside, b) links.keys) root unit m.unit gains_link.there);
            seen = record {
              root = root.supply;
              is_root = outside;
              met = in_unit (λ b. IsIn b r.met.keys) root unit m.unit (n.planned.grows.met root m.met);
              seen = in_unit (λ b. IsIn b seen.keys) root unit m.unit gains_one.there;
            };
          },
        )
