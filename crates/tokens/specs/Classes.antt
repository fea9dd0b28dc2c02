-- The class of a byte of a condition text.
use Rattle.std.specs.Prelude.{ℕ, Bool, true, false, cond, ◌&&◌, ◌||◌, ◌==◌, nat_le}
use Rattle.tokens.specs.declared.class.Class.{Class}
use Rattle.tokens.specs.declared.class.Class.TheVariants.{Space, Letter, Digit, Minus, Sign, Parenthesis, Other}

abbrev pub between : ℕ → ℕ → ℕ → Bool
between low high b = nat_le low b && nat_le b high

-- a to z, A to Z
abbrev pub letter : ℕ → Bool
letter b = between 97 122 b || between 65 90 b

-- 0 to 9
abbrev pub digit : ℕ → Bool
digit b = between 48 57 b

-- < = > !
abbrev pub sign_byte : ℕ → Bool
sign_byte b = b == 60 || b == 61 || b == 62 || b == 33

abbrev pub parenthesis : ℕ → Bool
parenthesis b = b == 40 || b == 41

unfoldable pub class : ℕ → Class
class b =
    cond (b == 32) Space
    (cond (letter b) Letter
    (cond (digit b) Digit
    (cond (b == 45) Minus
    (cond (sign_byte b) Sign
    (cond (parenthesis b) Parenthesis Other)))))

abbrev pub in_word : Class → Bool
in_word Space = false
in_word Letter = true
in_word Digit = true
in_word Minus = false
in_word Sign = false
in_word Parenthesis = false
in_word Other = false

-- a byte of a word
abbrev pub word_byte : ℕ → Bool
word_byte b = in_word (class b)

abbrev pub is_space : Class → Bool
is_space Space = true
is_space Letter = false
is_space Digit = false
is_space Minus = false
is_space Sign = false
is_space Parenthesis = false
is_space Other = false

abbrev pub space_byte : ℕ → Bool
space_byte b = is_space (class b)
