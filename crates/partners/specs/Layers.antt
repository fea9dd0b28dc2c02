-- What the layers answer, and what comes out where one is made.
use Rattle.std.specs.Prelude.{◌≡◌, ℕ, ◌+◌, ◌/◌, ◌≤◌, cond, Ok, Err, Result, nat_lt}
use mir.Syntax.{Dict}
use Rattle.partners.specs.declared.refusal.LayerRefusal.{LayerRefusal}
use Rattle.partners.specs.declared.refusal.LayerRefusal.TheVariants.{Tries}
use Rattle.partners.specs.declared.refusal.Refused.{Refused}
use Rattle.partners.specs.declared.partner.Partner.{Ghosts as Meaning}
use Rattle.partners.specs.Answers.{Answers}

-- the answers and the busy number of a layer, however the calls below are wired
abbrev pub LayerMeaning : Type 0 → Type 1
LayerMeaning R = Dict → Meaning R

-- 1 to 8 tries
abbrev pub GoodTries : ℕ → Type 0
GoodTries n = (1 ≤ n) × (n ≤ 8)

-- operations under the border have the first answers, the others the second
abbrev pub routed : ℕ → Answers → Answers → Answers
routed border first second operation input = cond (nat_lt operation border) (first operation input) (second operation input)

-- the busy number below, shared out among the tries, rounded down
abbrev pub retry_busy : ℕ → ℕ → ℕ
retry_busy tries below = below / tries

-- a retry has the answers below
pub record RetryOver (below_answers : Answers) (below_busy tries : ℕ) (answers : Answers) (busy : ℕ) : Type 0 where
  pub good_tries : GoodTries tries
  pub answers_are : answers ≡ below_answers
  pub busy_is : busy ≡ retry_busy tries below_busy

-- the tries are refused, and the partner comes back as it was
pub record TriesRefused {P : Type 0} (below : P) (tries : ℕ) (refused : Refused LayerRefusal P) : Type 0 where
  pub bad_tries : GoodTries tries → ⊥
  pub refusal_is : refused.refusal ≡ Tries tries
  pub partner_is : refused.partner ≡ below

-- p is what the partner below means, and m what the retry means
abbrev pub RetryMade : {P R : Type 0} → Meaning P → LayerMeaning R → P → ℕ → Result R (Refused LayerRefusal P) → Type 0
RetryMade p m below tries (Ok r) = (wiring : Dict) → RetryOver (p.answers below) (p.busy below) tries ((m wiring).answers r) ((m wiring).busy r)
RetryMade p m below tries (Err e) = TriesRefused below tries e

-- a router answers by its border, and its busy number is the sum
pub record RouterOver (border : ℕ) (first second : Answers) (first_busy second_busy : ℕ) (answers : Answers) (busy : ℕ) : Type 0 where
  pub answers_are : answers ≡ routed border first second
  pub busy_is : busy ≡ first_busy + second_busy

abbrev pub RouterMade : {A B R : Type 0} → Meaning A → Meaning B → LayerMeaning R → ℕ → A → B → R → Type 0
RouterMade a b m border first second r = (wiring : Dict) → RouterOver border (a.answers first) (b.answers second) (a.busy first) (b.busy second) ((m wiring).answers r) ((m wiring).busy r)
