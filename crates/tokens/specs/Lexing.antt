-- What the parts of the lexer promise each other.
use Rattle.std.specs.Prelude.{◌≡◌, ℕ, ◌<◌, cond, ◌⊎◌, List, [], ◌∷◌, length, take, Some, None, Option, ◌==◌, ◌≢◌, slice_index}
use Rattle.values.specs.declared.amount.Comparison.{Comparison}
use Rattle.values.specs.declared.amount.Comparison.TheVariants.{AtMost, Unequal, AtLeast}
use Rattle.tokens.specs.declared.class.Class.TheVariants.{Letter, Digit, Minus}
use Rattle.tokens.specs.declared.token.Token.{Token}
use Rattle.tokens.specs.declared.token.Token.TheVariants as t
use Rattle.tokens.specs.Classes.{class}
use Rattle.tokens.specs.Tokens.{Part, spelling, IsSign, front}

-- the bytes that a token is
abbrev pub bytes_of : Token → List ℕ
bytes_of (t.Word p) = p.now
bytes_of (t.Number p) = p.now
bytes_of t.Open = 40 ∷ []
bytes_of t.Close = 41 ∷ []
bytes_of (t.Sign c) = spelling c
bytes_of (t.Other b) = b ∷ []

-- a token's case goes by its first byte
abbrev pub Apt : Token → Type 0
Apt (t.Word p) = class (slice_index p.now 0) ≡ Letter
Apt (t.Number p) = (class (slice_index p.now 0) ≡ Digit) ⊎ (class (slice_index p.now 0) ≡ Minus)
Apt t.Open = Unit {0}
Apt t.Close = Unit {0}
Apt (t.Sign c) = Unit {0}
Apt (t.Other b) = (class b ≢ Letter) × (class b ≢ Digit) × (b ≢ 40) × (b ≢ 41) × (IsSign (b ∷ []) → ⊥)

-- the sign of two bytes at the front
abbrev pub long_sign : ℕ → ℕ → Option Comparison
long_sign b c =
    cond (c == 61)
    (cond (b == 60) (Some AtMost) (cond (b == 62) (Some AtLeast) (cond (b == 33) (Some Unequal) None)))
    None

-- this token stands at the front
pub record FrontIs (bs : List ℕ) (x : Token) (n : ℕ) : Type 0 where
  pub some : 0 < length bs
  pub long : n ≡ front bs
  pub bytes_are : bytes_of x ≡ take n bs
  pub apt : Apt x

abbrev pub Fronts : List ℕ → Option (Token × ℕ) → Type 0
Fronts bs None = length bs ≡ 0
Fronts bs (Some x) = FrontIs bs x.0 x.1

-- the next token is the first of those still to come
abbrev pub Nexts : List Part → Option (ℕ × Token) → List Part → Type 0
Nexts before None after = (before ≡ []) × (after ≡ [])
Nexts before (Some x) after = (before ≡ (x.0, bytes_of x.1) ∷ after) × Apt x.1
