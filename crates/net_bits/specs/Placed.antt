-- Modules, cells and models with where their bits are, and all instances by their numbers.
use Rattle.std.specs.Prelude.{◌≡◌}
use Rattle.pw_defs.specs.declared.design.Body.{Body}
use Rattle.design_defs.specs.Hierarchy.{Sources, HasBody}
use Rattle.net_sizes.specs.Sizes.{count_in}
use Rattle.net_sizes.specs.declared.sizes.Counts.{Counts}
use Rattle.net_places.specs.Plans.{ArePlans, IsOf, rows_at}
use Rattle.net_places.specs.Tables.{bits_in}
use Rattle.net_places.specs.declared.plans.Plans.{Plans}
use Rattle.net_instances.specs.Instances.{AreInstances}
use Rattle.net_bits.specs.declared.placed.Placed.{Placed}

-- each body has as many bits as its nets have
abbrev pub AreBitCounts : Sources → Plans → Counts → Type 0
AreBitCounts s plans bits = (b : Body) → HasBody s b → count_in bits b ≡ bits_in (rows_at plans b)

-- these are the modules, cells and models, the rows of their nets, and all instances of a hierarchy
pub record ArePlaced (s : Sources) (p : Placed) : Type 0 where
  pub of_sources : IsOf p.modules.now p.cells.now p.models.now s
  pub plans : ArePlans s p.modules.now.symbols p.plans.now
  pub bits : Counts
  pub counted : AreBitCounts s p.plans.now bits
  pub instances : AreInstances s p.modules.now bits p.instances.now
