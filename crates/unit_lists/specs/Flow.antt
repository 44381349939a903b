-- Values that go from view to view.
use Rattle.std.specs.Prelude.{◌⊎◌, List}
use Rattle.pw_defs.specs.declared.values.Value.{Value}
use Rattle.list_defs.specs.Members.{IsIn}
use Rattle.unit_lists.specs.declared.views.View.{View}

-- a value comes to a view: it begins there, or comes along a link from a view to which it comes
pub data Reaches (begins : List (View × Value)) (links : List (View × View)) : View → Value → Type 0 where
  begun : (a : View) (v : Value) → IsIn (a, v) begins → Reaches begins links a v
  along : (a b : View) (v : Value) → IsIn (a, b) links → Reaches begins links a v → Reaches begins links b v

-- What is to be taken up and what was: values that come to these views, and all that begin or come along a link from
-- where they were taken up.
pub record IsFlow (begins : List (View × Value)) (links : List (View × View)) (work reached : List (View × Value)) : Type 0 where
  pub to_come : (a : View) (v : Value) → IsIn (a, v) work → Reaches begins links a v
  pub come : (a : View) (v : Value) → IsIn (a, v) reached → Reaches begins links a v
  pub begun : (a : View) (v : Value) → IsIn (a, v) begins → IsIn (a, v) work ⊎ IsIn (a, v) reached
  pub onward : (a b : View) (v : Value) → IsIn (a, v) reached → IsIn (a, b) links → IsIn (b, v) work ⊎ IsIn (b, v) reached
