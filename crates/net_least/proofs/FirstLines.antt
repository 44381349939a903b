-- The first line of a module with an instance of which something holds, as instances are added.
use Rattle.std.proofs.Common.{◌≡◌, ◌≢◌, ℕ, Bool, true, false, ◌⊎◌, List, [], ◌∷◌, ◌++◌, Option, None, Some, slice_get, inl, inr, refl, sym, ◌∙◌, subst}
use Rattle.std.specs.Bool.{IsTrue}
use Rattle.std.proofs.lemmas.Bool.{false≢true}
use Rattle.std.specs.declared.cmp.Ordering.TheVariants.{Less}
use Rattle.std.proofs.lemmas.Cmp.{nat_cmp_total, nat_list_cmp_total, on_total, then_total}
use Rattle.std.specs.Cmp.{IsTotalOrder}
use Rattle.list_defs.specs.Members.{IsIn}
use Rattle.list_defs.proofs.Members.{IsIn-append_cases, IsIn-append_left, IsIn-append_right}
use Rattle.list_defs.proofs.Rising.{not_before_itself}
use Rattle.pw_defs.specs.declared.netlist.Inst.{Inst}
use Rattle.net_least.specs.Lines.{IsFirstLine, IsFirstOwn, IsLeastLine, IsNextOwn}
use Rattle.net_least.specs.OwnFaults.{line_cmp}
use Rattle.net_least.specs.declared.own.OwnFault.{OwnFault}

pub line_total : IsTotalOrder line_cmp
line_total =
    then_total (on_total (λ (x : ℕ × List ℕ). x.0) nat_cmp_total) (on_total (λ (x : ℕ × List ℕ). x.1) nat_list_cmp_total)

module _ (P : Inst → Type 0) (symbols : List (List ℕ)) (insts : List Inst) (i : Inst) where
  in_more : (other : Inst) → IsIn other (insts ++ i ∷ []) → IsIn other insts ⊎ (other ≡ i)
  in_more other there = elim (IsIn-append_cases other insts (i ∷ []) there) [ inl old ↦ inl old | inr new ↦ elim new [ inl e ↦ inr e | inr never ↦ absurd never ] ]

  pub line_skip : (P i → ⊥) → (best : Option OwnFault) → IsLeastLine P symbols insts best → IsLeastLine P symbols (insts ++ i ∷ []) best
  line_skip none None known = λ other there holds. elim (in_more other there) [ inl old ↦ known other old holds | inr same ↦ none (subst P same holds) ]
  line_skip none (Some own) known =
      record {
        i = known.i;
        one = IsIn-append_left known.i insts (i ∷ []) known.one;
        holds = known.holds;
        line = known.line;
        name = known.name;
        least = λ other there holds. elim (in_more other there) [ inl old ↦ known.least other old holds | inr same ↦ absurd (none (subst P same holds)) ];
      }

  module _ (holds_i : P i) (next : OwnFault) (line : next.line ≡ i.line) (name : slice_get symbols next.name ≡ Some i.kind) where
    line_last : (result : OwnFault) → result ≡ next → ((other : Inst) → IsIn other insts → P other → line_cmp (other.line, other.kind) (i.line, i.kind) ≢ Less)
        → IsFirstLine P symbols (insts ++ i ∷ []) result
    line_last result is least_old =
        subst (IsFirstLine P symbols (insts ++ i ∷ [])) (sym is) (record {
          i = i;
          one = IsIn-append_right i insts (i ∷ []) (inl refl);
          holds = holds_i;
          line = line;
          name = name;
          least = least;
        })
      where
        least : (other : Inst) → IsIn other (insts ++ i ∷ []) → P other → line_cmp (other.line, other.kind) (i.line, i.kind) ≢ Less
        least other there holds =
            elim (in_more other there) [
              | inl old ↦ least_old other old holds
              | inr same ↦ subst (λ (x : Inst). line_cmp (x.line, x.kind) (i.line, i.kind) ≢ Less) (sym same) (not_before_itself line_cmp line_total (i.line, i.kind))
            ]

    pub line_more : (best : Option OwnFault) (result : OwnFault) → (best ≡ None → result ≡ next) → IsFirstOwn symbols best next result
        → IsLeastLine P symbols insts best → IsFirstLine P symbols (insts ++ i ∷ []) result
    line_more None result one first known = line_last result (one refl) (λ other there holds. absurd (known other there holds))
    line_more (Some before) result one first known =
        elim (first before known.i.kind i.kind refl known.name name) [ inl new ↦ line_last result new.1 (earlier new.0) | inr old ↦ stays old.0 old.1 ]
      where
        lines : line_cmp (next.line, i.kind) (before.line, known.i.kind) ≡ line_cmp (i.line, i.kind) (known.i.line, known.i.kind)
        lines q = line_cmp (line q, i.kind) (known.line q, known.i.kind)

        earlier : line_cmp (next.line, i.kind) (before.line, known.i.kind) ≡ Less → (other : Inst) → IsIn other insts → P other
            → line_cmp (other.line, other.kind) (i.line, i.kind) ≢ Less
        earlier less other there holds before_i =
            known.least other there holds (line_total.trans (other.line, other.kind) (i.line, i.kind) (known.i.line, known.i.kind) before_i (sym lines ∙ less))

        stays : line_cmp (next.line, i.kind) (before.line, known.i.kind) ≢ Less → result ≡ before → IsFirstLine P symbols (insts ++ i ∷ []) result
        stays not_less is =
            subst (IsFirstLine P symbols (insts ++ i ∷ [])) (sym is) (record {
              i = known.i;
              one = IsIn-append_left known.i insts (i ∷ []) known.one;
              holds = known.holds;
              line = known.line;
              name = known.name;
              least = least;
            })
          where
            least : (other : Inst) → IsIn other (insts ++ i ∷ []) → P other → line_cmp (other.line, other.kind) (known.i.line, known.i.kind) ≢ Less
            least other there holds =
                elim (in_more other there) [
                  | inl old ↦ known.least other old holds
                  | inr same ↦ subst (λ (x : Inst). line_cmp (x.line, x.kind) (known.i.line, known.i.kind) ≢ Less) (sym same) (subst (λ o. o ≢ Less) lines not_less)
                ]

  -- the line of an instance more of which it holds
  pub line_next : P i → (best result : Option OwnFault) → IsNextOwn symbols i best result → IsLeastLine P symbols insts best → IsLeastLine P symbols (insts ++ i ∷ []) result
  line_next holds best None never known = absurd never
  line_next holds best (Some own) next known = line_more holds next.next next.line next.name best own next.one next.first known

  -- one instance more, whether it counts or not
  pub line_step : (counts : Bool) → (IsTrue counts → P i) × (P i → IsTrue counts) → (best result : Option OwnFault) → (counts ≡ false → result ≡ best)
      → (counts ≡ true → IsNextOwn symbols i best result) → IsLeastLine P symbols insts best → IsLeastLine P symbols (insts ++ i ∷ []) result
  line_step true holds best result skip next known = line_next (holds.0 refl) best result (next refl) known
  line_step false holds best result skip next known =
      subst (IsLeastLine P symbols (insts ++ i ∷ [])) (sym (skip refl)) (line_skip (λ p. false≢true (holds.1 p)) best known)
