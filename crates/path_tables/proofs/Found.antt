-- The first activity that reaches itself, found among those that the table has.
use Rattle.std.proofs.Common.{◌≡◌, ℕ, ◌<◌, ◌≤◌, min, true, Some, None, Option, MatchOption, ⊎_elim, arith}
use Rattle.std.proofs.lemmas.Bool.{cases_lt, both_ways}
use Rattle.path_tables.specs.declared.closure.Reach.{Reach}
use Rattle.path_tables.specs.Reaching.{reached, LeastOnCycle}
use Rattle.path_tables.proofs.Rows.{past_rows}

module _ (reach : Reach) (count end : ℕ) (few : end ≡ min count 32) where
  pub least_found : (r : Option ℕ) → MatchOption r ((k : ℕ) → 0 ≤ k → k < end → reached reach k k ≡ true → ⊥) (λ a. (0 ≤ a) × (a < end) × (reached reach a a ≡ true) × ((k : ℕ) → 0 ≤ k → k < a → reached reach k k ≡ true → ⊥)) → LeastOnCycle reach count r
  least_found (Some a) h = ((omega arith, h.2), λ b l c. h.3 b (omega arith) l c.1)
  least_found None h = λ a c. ⊎_elim
      (λ l. h a (omega arith) (omega (arith, c.0)) c.1)
      (λ past. both_ways (reached reach a a) (past_rows reach.pairs.rows a a (omega (arith, reach.pairs.places))) c.1)
      (cases_lt a 32)
