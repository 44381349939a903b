-- When a condition holds of the values that supplies have.
use Rattle.std.specs.Prelude.{ℕ, Bool, true, not, ◌&&◌, nat_lt}
use Rattle.std.specs.List.{list_all, list_any}
use Rattle.pw_defs.specs.declared.values.Value.{Value}
use Rattle.pw_defs.specs.Values.{is_on, same_value, exceeds}
use Rattle.pw_defs.specs.declared.conditions.Cond.{Cond}
use Rattle.pw_defs.specs.declared.conditions.Cond.TheOpen.{Cond-F}
use Rattle.pw_defs.specs.declared.conditions.Cond.TheFolds.{fold-Cond}

-- one level of a condition, with the answers of its parts in their place
abbrev pub holds_at : (ℕ → Value) → Cond-F Bool → Bool
holds_at value Cond-F.True = true
holds_at value (Cond-F.Is supply v) = same_value (value supply) v
holds_at value (Cond-F.On supply) = is_on (value supply)
holds_at value (Cond-F.Apart low high above) = exceeds (value low) (value high) above
holds_at value (Cond-F.Not part) = not part
holds_at value (Cond-F.All parts) = list_all (λ b. b) parts
holds_at value (Cond-F.Any parts) = list_any (λ b. b) parts

-- whether a condition holds where each supply has this value
unfoldable pub holds : (ℕ → Value) → Cond → Bool
holds value = fold-Cond Bool (holds_at value)

-- one level of: whether it speaks of the first n supplies alone
abbrev pub speaks_at : ℕ → Cond-F Bool → Bool
speaks_at n Cond-F.True = true
speaks_at n (Cond-F.Is supply v) = nat_lt supply n
speaks_at n (Cond-F.On supply) = nat_lt supply n
speaks_at n (Cond-F.Apart low high above) = nat_lt low n && nat_lt high n
speaks_at n (Cond-F.Not part) = part
speaks_at n (Cond-F.All parts) = list_all (λ b. b) parts
speaks_at n (Cond-F.Any parts) = list_all (λ b. b) parts

-- whether a condition speaks of the first n supplies alone
unfoldable pub speaks_below : ℕ → Cond → Bool
speaks_below n = fold-Cond Bool (speaks_at n)
