use Rattle.std.proofs.Common.{refl}
use Rattle.line_forms.specs.LibraryReading.{role_at}
use Rattle.line_forms.proofs.library_reader.role.Goals as goal

pub returns-in-Some-behind : goal.returns-in-Some-behind
unfolding role_at
returns-in-Some-behind c = rw (← c.in_default.ensures, ← c.in-Some-behind.ensures) refl

pub returns-in-Some-behind-2 : goal.returns-in-Some-behind-2
unfolding role_at
returns-in-Some-behind-2 c = rw (← c.in_default.ensures, ← c.in_default-behind.ensures, ← c.in-Some-behind-2.ensures) refl

pub returns-in-Some-behind-3 : goal.returns-in-Some-behind-3
unfolding role_at
returns-in-Some-behind-3 c = rw (← c.in_default.ensures, ← c.in_default-behind.ensures, ← c.in_default-behind-2.ensures, ← c.in-Some-behind-3.ensures) refl

pub returns-in_default-behind-3 : goal.returns-in_default-behind-3
unfolding role_at
returns-in_default-behind-3 c = rw (← c.in_default.ensures, ← c.in_default-behind.ensures, ← c.in_default-behind-2.ensures, ← c.in_default-behind-3.ensures) refl
