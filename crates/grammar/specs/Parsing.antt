-- What the parts of a reader of symbols promise each other, where each symbol has its place. Nothing
-- here is part of a public promise.
use Rattle.std.specs.Prelude.{◌≡◌, ℕ, zero, suc, ◌<◌, ◌≤◌, Bool, true, false, cond, List, [], ◌∷◌, ◌++◌}
use Rattle.grammar.specs.Symbols.{Symbol, or_word, and_word, not_word, truth_word, opening, closing, operand, sign, link_word, bad}
use Rattle.grammar.specs.Grammar.{Kind, transition, join, member, Tree, Level, condition, term, factor, Reads}
use Rattle.grammar.specs.Faults.{Located, symbols}

-- the place of the first of these, or the text's length where there are none
abbrev pub place_of : ℕ → List Located → ℕ
place_of end [] = end
place_of end (t ∷ ts) = t.0

-- how far a condition has come, with the number of open parentheses: a factor is wanted, a sign or the
-- second operand of a comparison is, a factor has just ended, or nothing can go on
pub data State : Type 0 where
  want : ℕ → State
  want_sign : ℕ → State
  want_operand : ℕ → State
  have : ℕ → State
  dead : State

abbrev pub closes : ℕ → State
closes zero = dead
closes (suc d) = have d

abbrev pub operand_first : Kind → ℕ → State
operand_first transition d = want_sign d
operand_first (join ls) d = dead

abbrev pub link_first : Kind → ℕ → ℕ → State
link_first transition n d = dead
link_first (join ls) n d = cond (member n ls) (have d) dead

abbrev pub step : Kind → State → Symbol → State
step k (want d) or_word = dead
step k (want d) and_word = dead
step k (want d) not_word = want d
step k (want d) (truth_word b) = have d
step k (want d) opening = want (suc d)
step k (want d) closing = dead
step k (want d) (operand x) = operand_first k d
step k (want d) (sign c) = dead
step k (want d) (link_word n) = link_first k n d
step k (want d) bad = dead
step k (want_sign d) or_word = dead
step k (want_sign d) and_word = dead
step k (want_sign d) not_word = dead
step k (want_sign d) (truth_word b) = dead
step k (want_sign d) opening = dead
step k (want_sign d) closing = dead
step k (want_sign d) (operand x) = dead
step k (want_sign d) (sign c) = want_operand d
step k (want_sign d) (link_word n) = dead
step k (want_sign d) bad = dead
step k (want_operand d) or_word = dead
step k (want_operand d) and_word = dead
step k (want_operand d) not_word = dead
step k (want_operand d) (truth_word b) = dead
step k (want_operand d) opening = dead
step k (want_operand d) closing = dead
step k (want_operand d) (operand x) = have d
step k (want_operand d) (sign c) = dead
step k (want_operand d) (link_word n) = dead
step k (want_operand d) bad = dead
step k (have d) or_word = want d
step k (have d) and_word = want d
step k (have d) not_word = dead
step k (have d) (truth_word b) = dead
step k (have d) opening = dead
step k (have d) closing = closes d
step k (have d) (operand x) = dead
step k (have d) (sign c) = dead
step k (have d) (link_word n) = dead
step k (have d) bad = dead
step k dead x = dead

abbrev pub feed : Kind → State → List Symbol → State
feed k s [] = s
feed k s (x ∷ xs) = feed k (step k s x) xs

-- more must come before the parentheses inside d are closed and a factor has ended
abbrev pub Pending : ℕ → State → Type 0
Pending d (want m) = d ≤ m
Pending d (want_sign m) = d ≤ m
Pending d (want_operand m) = d ≤ m
Pending d (have m) = d < m
Pending d dead = ⊥

-- with the first of bad, or with the end, the symbols that begin with used can't go on
abbrev pub Stops : Kind → ℕ → List Symbol → List Symbol → Type 0
Stops k d used [] = Pending d (feed k (want d) used)
Stops k d used (b ∷ bs) = feed k (want d) (used ++ b ∷ []) ≡ dead

abbrev pub is_or : Symbol → Bool
is_or or_word = true
is_or and_word = false
is_or not_word = false
is_or (truth_word b) = false
is_or opening = false
is_or closing = false
is_or (operand x) = false
is_or (sign c) = false
is_or (link_word n) = false
is_or bad = false

abbrev pub is_and : Symbol → Bool
is_and or_word = false
is_and and_word = true
is_and not_word = false
is_and (truth_word b) = false
is_and opening = false
is_and closing = false
is_and (operand x) = false
is_and (sign c) = false
is_and (link_word n) = false
is_and bad = false

abbrev pub is_closing : Symbol → Bool
is_closing or_word = false
is_closing and_word = false
is_closing not_word = false
is_closing (truth_word b) = false
is_closing opening = false
is_closing closing = true
is_closing (operand x) = false
is_closing (sign c) = false
is_closing (link_word n) = false
is_closing bad = false

abbrev pub heads : (Symbol → Bool) → List Located → Bool
heads f [] = false
heads f (x ∷ xs) = f x.1

-- what comes after a part of this level does not belong to it
abbrev pub Ends : Level → List Located → Type 0
Ends factor ts = Unit {0}
Ends term ts = heads is_and ts ≡ false
Ends condition ts = (heads is_and ts ≡ false) × (heads is_or ts ≡ false)

-- a part of this level is read from before up to after; means says of its tree what was computed on the way
pub record Done (k : Kind) (l : Level) (means : Tree → Type 0) (before after : List Located) : Type 0 where
  pub used : List Located
  pub tree : Tree
  pub split : before ≡ used ++ after
  pub reads : Reads k l (symbols used) tree
  pub says : means tree
  pub ends : Ends l after

-- it stops at a place, the first of bad or the end of the text
pub record Failed (k : Kind) (l : Level) (end : ℕ) (before : List Located) (at : ℕ) : Type 0 where
  pub used : List Located
  pub rest : List Located
  pub more : List Symbol
  pub tree : Tree
  pub split : before ≡ used ++ rest
  pub place : at ≡ place_of end rest
  pub goes : Reads k l (symbols used ++ more) tree
  pub stops : (d : ℕ) → Stops k d (symbols used) (symbols rest)
