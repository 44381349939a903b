use Rattle.form_intent.proofs.ValueLemmas.{AreAllRising-values_of, IsRising-values_of}
use Rattle.form_intent.proofs.laws.values_rise.Goals as goal

pub returns : goal.returns
returns c = record { rising = IsRising-values_of; all = AreAllRising-values_of }
