-- What a token says, by its bytes.
use Rattle.std.specs.Prelude.{ℕ, ◌+◌, ◌-◌, ◌*◌, Bool, true, false, cond, not, ◌&&◌, ◌||◌, List, [], ◌∷◌, length, drop, ℤ, pos, neg_ℤ, Some, None, codes, Option, ◌==◌, nat_le, nat_lt, slice_index}
use Rattle.std.specs.Str.{bytes_eq}
use Rattle.values.specs.declared.amount.Comparison.TheVariants.{Less, AtMost, Equal, Unequal, AtLeast, Greater}
use Rattle.grammar.specs.Symbols.{Symbol, or_word, and_word, not_word, truth_word, opening, closing, operand, sign, link_word, bad, field, number as amount}
use Rattle.tokens.specs.declared.class.Class.{Class}
use Rattle.tokens.specs.declared.class.Class.TheVariants.{Space, Letter, Digit, Minus, Sign, Parenthesis, Other}
use Rattle.tokens.specs.Classes.{class, digit, between}

-- the number that digits write after the number n
abbrev pub decimal : ℕ → List ℕ → ℕ
decimal n [] = n
decimal n (b ∷ bs) = decimal (n * 10 + (b - 48)) bs

abbrev pub all_digits : List ℕ → Bool
all_digits [] = true
all_digits (b ∷ bs) = digit b && all_digits bs

-- 0, or at most so many digits, the first not 0
abbrev pub plain : ℕ → List ℕ → Bool
plain most ds = nat_le 1 (length ds) && nat_le (length ds) most && (nat_le (length ds) 1 || not (slice_index ds 0 == 48)) && all_digits ds

abbrev pub numeral : ℕ → List ℕ → Option ℕ
numeral most ds = cond (plain most ds) (Some (decimal 0 ds)) None

abbrev pub plus : Option ℕ → Option ℤ
plus None = None
plus (Some n) = Some (pos n)

-- there is no -0
abbrev pub minus : Option ℕ → Option ℤ
minus None = None
minus (Some n) = cond (n == 0) None (Some (neg_ℤ (pos n)))

-- at most twelve digits, with or without a minus
abbrev pub number : List ℕ → Option ℤ
number w = cond (slice_index w 0 == 45) (minus (numeral 12 (drop 1 w))) (plus (numeral 12 w))

-- a definition has at most 128 links
abbrev pub limited : Option ℕ → Option ℕ
limited None = None
limited (Some n) = cond (nat_lt n 128) (Some n) None

abbrev pub link_number : List ℕ → Option ℕ
link_number ds = limited (numeral 3 ds)

-- f0 to f7
abbrev pub field_number : List ℕ → Option ℕ
field_number w = cond (length w == 2 && slice_index w 0 == 102 && between 48 55 (slice_index w 1)) (Some (slice_index w 1 - 48)) None

-- L and the number of a link
abbrev pub link_of : List ℕ → Option ℕ
link_of w = cond (slice_index w 0 == 76) (link_number (drop 1 w)) None

abbrev pub named : Option ℕ → Option ℕ → Symbol
named (Some k) l = operand (field k)
named None (Some n) = link_word n
named None None = bad

abbrev pub word_symbol : List ℕ → Symbol
word_symbol w =
    cond (bytes_eq w (codes "and")) and_word
    (cond (bytes_eq w (codes "or")) or_word
    (cond (bytes_eq w (codes "not")) not_word
    (cond (bytes_eq w (codes "true")) (truth_word true)
    (cond (bytes_eq w (codes "false")) (truth_word false)
    (named (field_number w) (link_of w))))))

abbrev pub number_symbol : Option ℤ → Symbol
number_symbol None = bad
number_symbol (Some z) = operand (amount z)

abbrev pub sign_symbol : List ℕ → Symbol
sign_symbol w =
    cond (bytes_eq w (codes "<")) (sign Less)
    (cond (bytes_eq w (codes "<=")) (sign AtMost)
    (cond (bytes_eq w (codes "=")) (sign Equal)
    (cond (bytes_eq w (codes "!=")) (sign Unequal)
    (cond (bytes_eq w (codes ">=")) (sign AtLeast)
    (cond (bytes_eq w (codes ">")) (sign Greater) bad)))))

abbrev pub parenthesis_symbol : List ℕ → Symbol
parenthesis_symbol w = cond (bytes_eq w (codes "(")) opening (cond (bytes_eq w (codes ")")) closing bad)

abbrev pub symbol_by : Class → List ℕ → Symbol
symbol_by Space w = bad
symbol_by Letter w = word_symbol w
symbol_by Digit w = number_symbol (number w)
symbol_by Minus w = number_symbol (number w)
symbol_by Sign w = sign_symbol w
symbol_by Parenthesis w = parenthesis_symbol w
symbol_by Other w = bad

-- what these bytes say as a token
abbrev pub symbol : List ℕ → Symbol
symbol w = symbol_by (class (slice_index w 0)) w
