use Rattle.form_intent.proofs.SoundLemmas.{IsSound-intent}
use Rattle.form_intent.proofs.laws.intents_are_sound.Goals as goal

pub returns : goal.returns
returns c = IsSound-intent
