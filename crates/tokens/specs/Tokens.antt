-- The tokens of a text: what they must be, and a function that finds them.
use Rattle.std.specs.Prelude.{◌≡◌, ℕ, zero, suc, ◌+◌, ◌-◌, ◌<◌, Bool, true, false, cond, not, ◌&&◌, ◌⊎◌, List, [], ◌∷◌, ◌++◌, length, take, drop, ◌==◌, slice_index}
use Rattle.std.specs.List.{AllByRecursion}
use Rattle.values.specs.declared.amount.Comparison.{Comparison}
use Rattle.values.specs.declared.amount.Comparison.TheVariants.{Less, AtMost, Equal, Unequal, AtLeast, Greater}
use Rattle.tokens.specs.declared.class.Class.{Class}
use Rattle.tokens.specs.declared.class.Class.TheVariants.{Space, Letter, Digit, Minus, Sign, Parenthesis, Other}
use Rattle.tokens.specs.Classes.{class, word_byte, space_byte}

-- a part of a text: the offset of its first byte, and its bytes
abbrev pub Part : Type 0
Part = ℕ × List ℕ

abbrev pub spelling : Comparison → List ℕ
spelling Less = 60 ∷ []
spelling AtMost = 60 ∷ 61 ∷ []
spelling Equal = 61 ∷ []
spelling Unequal = 33 ∷ 61 ∷ []
spelling AtLeast = 62 ∷ 61 ∷ []
spelling Greater = 62 ∷ []

abbrev pub IsSign : List ℕ → Type 0
IsSign w = (c : Comparison) × (w ≡ spelling c)

-- the bytes do not begin with a letter or a digit
abbrev pub NoWord : List ℕ → Type 0
NoWord [] = Unit {0}
NoWord (b ∷ bs) = word_byte b ≡ false

-- no sign is this byte and the next
abbrev pub NoLonger : ℕ → List ℕ → Type 0
NoLonger b [] = Unit {0}
NoLonger b (c ∷ bs) = IsSign (b ∷ c ∷ []) → ⊥

-- these bytes are a token where those that follow are the rest
pub data IsToken : List ℕ → List ℕ → Type 0 where
  -- a word is a longest run of letters and digits
  a_word : {w rest : List ℕ} → 0 < length w → AllByRecursion (λ b. word_byte b ≡ true) w → NoWord rest → IsToken w rest
  -- a minus is joined to the word directly after it
  a_minus_word : {w rest : List ℕ} → 0 < length w → AllByRecursion (λ b. word_byte b ≡ true) w → NoWord rest → IsToken (45 ∷ w) rest
  -- and to nothing else
  a_minus : {rest : List ℕ} → NoWord rest → IsToken (45 ∷ []) rest
  a_parenthesis : {b : ℕ} {rest : List ℕ} → class b ≡ Parenthesis → IsToken (b ∷ []) rest
  -- the longest sign
  a_long_sign : {b c : ℕ} {rest : List ℕ} → IsSign (b ∷ c ∷ []) → IsToken (b ∷ c ∷ []) rest
  a_short_sign : {b : ℕ} {rest : List ℕ} → IsSign (b ∷ []) → NoLonger b rest → IsToken (b ∷ []) rest
  -- any further byte stands alone
  a_further_byte : {b : ℕ} {rest : List ℕ} → (class b ≡ Other) ⊎ ((class b ≡ Sign) × (IsSign (b ∷ []) → ⊥) × NoLonger b rest) → IsToken (b ∷ []) rest

-- from this offset on the bytes are these tokens, each at its place, with only spaces between
pub data Tokenized : ℕ → List ℕ → List Part → Type 0 where
  ended : {p : ℕ} → Tokenized p [] []
  space : {p : ℕ} {bs : List ℕ} {ts : List Part} → Tokenized (suc p) bs ts → Tokenized p (32 ∷ bs) ts
  token : {p : ℕ} {w bs : List ℕ} {ts : List Part} → IsToken w bs → Tokenized (p + length w) bs ts → Tokenized p (w ++ bs) ((p, w) ∷ ts)

-- how many bytes at the front pass a test
abbrev pub span : (ℕ → Bool) → List ℕ → ℕ
span f [] = 0
span f (b ∷ bs) = cond (f b) (suc (span f bs)) 0

abbrev pub run : List ℕ → ℕ
run bs = span word_byte bs

abbrev pub spaces : List ℕ → ℕ
spaces bs = span space_byte bs

-- how long the token is that begins with a byte of a sign
abbrev pub sign_length : ℕ → ℕ → ℕ
sign_length b next = cond (next == 61 && not (b == 61)) 2 1

abbrev pub front_by : Class → List ℕ → ℕ
front_by Space bs = 1
front_by Letter bs = run bs
front_by Digit bs = run bs
front_by Minus bs = 1 + run (drop 1 bs)
front_by Sign bs = sign_length (slice_index bs 0) (slice_index bs 1)
front_by Parenthesis bs = 1
front_by Other bs = 1

-- how long the token at the front is
abbrev pub front : List ℕ → ℕ
front bs = front_by (class (slice_index bs 0)) bs

-- the tokens after the first k bytes, where the first byte stands at p
abbrev pub lexed : ℕ → List ℕ → ℕ → List Part
lexed k [] p = []
lexed zero (b ∷ bs) p = cond (space_byte b) (lexed zero bs (suc p)) ((p, take (front (b ∷ bs)) (b ∷ bs)) ∷ lexed (front (b ∷ bs) - 1) bs (suc p))
lexed (suc k) (b ∷ bs) p = lexed k bs (suc p)

-- the tokens from a place of the text on
abbrev pub tokens_from : List ℕ → ℕ → List Part
tokens_from text place = lexed 0 (drop place text) place

abbrev pub tokens : List ℕ → List Part
tokens text = lexed 0 text 0

-- the laws hold of the tokens found, and of no others
pub record TokensOf (text : List ℕ) : Type 0 where
  pub found : Tokenized 0 text (tokens text)
  pub only : (ts : List Part) → Tokenized 0 text ts → ts ≡ tokens text
