-- Loading a script has one outcome: one intent or one first fault, and not both.
use Rattle.std.proofs.Common.{◌≡◌, ℕ, List, Option, sym, ap, ◌∙◌, subst}
use Rattle.pw_defs.specs.declared.design.Design.{Design}
use Rattle.pw_defs.specs.declared.faults.Refusal.{Refusal}
use Rattle.pw_defs.specs.declared.intent.Intent.{Intent}
use Rattle.pw_defs.specs.declared.intent.Want.{Want}
use Rattle.pw_defs.specs.declared.script.Line.{Line}
use Rattle.script_defs.specs.World.{World}
use Rattle.script_defs.specs.Refused.{Readers, text_refusal}
use Rattle.script_defs.specs.Runs.{End, Ends, StopsWith, first_frame, fresh, most_lines, tasks_of}
use Rattle.script_defs.specs.Laws.{AreExact, HasOneLoad}
use Rattle.script_defs.specs.Closing.{Closed, HasClosingFault}
use Rattle.script_defs.specs.Loads.{IsClosedOf, LastWorld, LoadsBy, HasFaultBy}
use Rattle.script_defs.specs.StrategiesOf.{IsIntentOf}
use Rattle.script_defs.proofs.OneEnd.{has_one_end, ran_once, ran_or_stopped, stopped_once}
use Rattle.script_defs.proofs.OneClosing.{one_closed, one_closing_fault, one_some}
use Rattle.script_defs.proofs.OneIntent.{one_intent}

module _ (readers : Readers) (exact : AreExact readers) (d : Design) (held : List ℕ → Option (List ℕ)) (name text : List ℕ) where
  EndsBy : List Line → End → Type 0
  EndsBy lines e = Ends readers held most_lines d (first_frame name) (fresh d) (tasks_of lines) e

  -- two ends of one script are one
  one_outcome : (lines lines' : List Line) (a b : End) → readers.IsScript text lines → readers.IsScript text lines' → EndsBy lines a → EndsBy lines' b → a ≡ b
  unfolding EndsBy
  one_outcome lines lines' a b read read' p q =
      let P : List Line → Type 0 = λ ls. EndsBy ls b in
      has_one_end readers exact held most_lines d (first_frame name) (fresh d) (tasks_of lines) a b p (subst P
      (exact.one_script text lines' lines read' read) q)

  one_last : (u v : World) → LastWorld readers held d name text u → LastWorld readers held d name text v → u ≡ v
  unfolding EndsBy
  one_last u v p q = ran_once u v (one_outcome p.lines q.lines (End.ran u) (End.ran v) p.read q.read p.ran q.ran)

  last_or_stops : (u : World) (lines : List Line) (r : Refusal) → LastWorld readers held d name text u → readers.IsScript text lines
      → StopsWith readers held d name lines r → ⊥
  unfolding EndsBy
  last_or_stops u lines r p read stops = ran_or_stopped u r (one_outcome p.lines lines (End.ran u) (End.stopped r) p.read read p.ran stops)

  -- what the closing checks look at in the second of two last worlds, put in the first
  same_closed : (want : Want) (u v : World) (a b : Closed) → LastWorld readers held d name text u → LastWorld readers held d name text v
      → IsClosedOf d u name want a → IsClosedOf d v name want b → a ≡ b
  same_closed want u v a b p q is is' =
      let P : World → Type 0 = λ w. IsClosedOf d w name want b in
      one_closed d u name want a b is (subst P (one_last v u q p) is')

  two_intents : (want : Want) (i j : Intent) → LoadsBy readers held d name text want i → LoadsBy readers held d name text want j → i ≡ j
  two_intents want i j p q =
      let P : World → Type 0 = λ w. IsIntentOf d w want j in
      one_intent d p.world want i j p.intent (subst P (one_last q.world p.world q.last p.last) q.intent)

  two_faults : (want : Want) (p q : Refusal) → HasFaultBy readers held d name text want p → HasFaultBy readers held d name text want q → p ≡ q
  unfolding EndsBy
  two_faults want p q (HasFaultBy.unreadable fault has shown) (HasFaultBy.unreadable fault' has' shown') =
      let same : fault ≡ fault' = exact.one_script_fault text fault fault' has has' in
      one_some p q (sym shown ∙ ap (text_refusal name) same ∙ shown')
  two_faults want p q (HasFaultBy.unreadable fault has shown) (HasFaultBy.stops lines read stops) = absurd (exact.script_or_fault text lines fault read has)
  two_faults want p q (HasFaultBy.unreadable fault has shown) (HasFaultBy.at_end w c last is refused) = absurd
      (exact.script_or_fault text last.lines fault last.read has)
  two_faults want p q (HasFaultBy.stops lines read stops) (HasFaultBy.unreadable fault has shown) = absurd (exact.script_or_fault text lines fault read has)
  two_faults want p q (HasFaultBy.stops lines read stops) (HasFaultBy.stops lines' read' stops') =
      stopped_once p q (one_outcome lines lines' (End.stopped p) (End.stopped q) read read' stops stops')
  two_faults want p q (HasFaultBy.stops lines read stops) (HasFaultBy.at_end w c last is refused) = absurd (last_or_stops w lines p last read stops)
  two_faults want p q (HasFaultBy.at_end w c last is refused) (HasFaultBy.unreadable fault has shown) = absurd
      (exact.script_or_fault text last.lines fault last.read has)
  two_faults want p q (HasFaultBy.at_end w c last is refused) (HasFaultBy.stops lines read stops) = absurd (last_or_stops w lines q last read stops)
  two_faults want p q (HasFaultBy.at_end w c last is refused) (HasFaultBy.at_end w' c' last' is' refused') =
      let P : World → Type 0 = λ v. HasClosingFault d v c' q in
      let Q : Closed → Type 0 = λ x. HasClosingFault d w x q in
      one_closing_fault d w c p q refused (subst Q (sym (same_closed want w w' c c' last last' is is')) (subst P (one_last w' w last' last) refused'))

  intent_or_fault : (want : Want) (i : Intent) (r : Refusal) → LoadsBy readers held d name text want i → HasFaultBy readers held d name text want r → ⊥
  intent_or_fault want i r loads (HasFaultBy.unreadable fault has shown) = exact.script_or_fault text loads.last.lines fault loads.last.read has
  intent_or_fault want i r loads (HasFaultBy.stops lines read stops) = last_or_stops loads.world lines r loads.last read stops
  intent_or_fault want i r loads (HasFaultBy.at_end w c last is refused) =
      let P : World → Type 0 = λ v. HasClosingFault d v c r in
      let Q : Closed → Type 0 = λ x. HasClosingFault d loads.world x r in
      let found : HasClosingFault d loads.world loads.ends r =
      subst Q (sym (same_closed want loads.world w loads.ends c loads.last last loads.ends_are is)) (subst P
      (one_last w loads.world last loads.last) refused) in
      loads.none found.check r found.refuses

pub has_one_load : (readers : Readers) → AreExact readers → HasOneLoad readers
has_one_load readers exact = record {
  one_intent = λ d held name text. two_intents readers exact d held name text;
  one_fault = λ d held name text. two_faults readers exact d held name text;
  not_both = λ d held name text. intent_or_fault readers exact d held name text;
}
