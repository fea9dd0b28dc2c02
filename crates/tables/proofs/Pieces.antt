-- Bytes and lists taken apart.
use Rattle.std.proofs.Common.{◌≡◌, ℕ, ◌+◌, ◌-◌, ◌*◌, ◌/◌, ◌%◌, ◌<◌, List, [], ◌∷◌, ◌++◌, length, get_or, take, drop, sym, refl, ap, ◌∙◌, take-append-drop, arith, w16}
use Rattle.std.proofs.lemmas.List.{take_all}
use Rattle.std.specs.Int.{from_le_bytes}
use Rattle.tables.specs.Layout.{two_bytes}

-- the front and the back of bytes
pub front_and_back : (k n : ℕ) (bs front back : List ℕ) → length bs ≡ k + n → front ≡ take k bs → back ≡ drop (length bs - n) bs → bs ≡ front ++ back
front_and_back k n bs front back long f b =
    let at : length bs - n ≡ k = omega (arith, long) in
    sym (take-append-drop k bs) ∙ (λ i. sym f i ++ sym (b ∙ ap (λ m. drop m bs) at) i)

pub two_and_rest : (bs : List ℕ) (n : ℕ) → length bs ≡ n + 2 → bs ≡ (get_or bs 0 0 ∷ get_or bs 1 0 ∷ []) ++ take n (drop 2 bs)
two_and_rest [] n h = absurd (omega arith)
two_and_rest (a ∷ []) n h = absurd (omega arith)
two_and_rest (a ∷ b ∷ bs) n h = ap (λ r. a ∷ b ∷ r) (sym (take_all n bs (omega arith)))

pub eight_listed : {X : Type 0} (xs : List X) (d₀ d₁ d₂ d₃ d₄ d₅ d₆ d₇ : X) → length xs ≡ 8 → xs ≡ get_or xs 0 d₀ ∷ get_or xs 1 d₁ ∷ get_or xs 2 d₂ ∷ get_or xs 3 d₃ ∷ get_or xs 4 d₄ ∷ get_or xs 5 d₅ ∷ get_or xs 6 d₆ ∷ get_or xs 7 d₇ ∷ []
eight_listed [] d₀ d₁ d₂ d₃ d₄ d₅ d₆ d₇ h = absurd (omega arith)
eight_listed (a ∷ []) d₀ d₁ d₂ d₃ d₄ d₅ d₆ d₇ h = absurd (omega arith)
eight_listed (a ∷ b ∷ []) d₀ d₁ d₂ d₃ d₄ d₅ d₆ d₇ h = absurd (omega arith)
eight_listed (a ∷ b ∷ c ∷ []) d₀ d₁ d₂ d₃ d₄ d₅ d₆ d₇ h = absurd (omega arith)
eight_listed (a ∷ b ∷ c ∷ d ∷ []) d₀ d₁ d₂ d₃ d₄ d₅ d₆ d₇ h = absurd (omega arith)
eight_listed (a ∷ b ∷ c ∷ d ∷ e ∷ []) d₀ d₁ d₂ d₃ d₄ d₅ d₆ d₇ h = absurd (omega arith)
eight_listed (a ∷ b ∷ c ∷ d ∷ e ∷ f ∷ []) d₀ d₁ d₂ d₃ d₄ d₅ d₆ d₇ h = absurd (omega arith)
eight_listed (a ∷ b ∷ c ∷ d ∷ e ∷ f ∷ g ∷ []) d₀ d₁ d₂ d₃ d₄ d₅ d₆ d₇ h = absurd (omega arith)
eight_listed (a ∷ b ∷ c ∷ d ∷ e ∷ f ∷ g ∷ k ∷ []) d₀ d₁ d₂ d₃ d₄ d₅ d₆ d₇ h = refl
eight_listed (a ∷ b ∷ c ∷ d ∷ e ∷ f ∷ g ∷ k ∷ l ∷ xs) d₀ d₁ d₂ d₃ d₄ d₅ d₆ d₇ h = absurd (omega arith)

-- the number that two bytes are
pub two_read : (n a b : ℕ) → n ≡ a + b * 256 → a < 256 → two_bytes n ≡ a ∷ b ∷ []
two_read n a b e low =
    let rest : n % 256 ≡ a = omega arith in
    let whole : n / 256 ≡ b = omega arith in
    λ i. rest i ∷ whole i ∷ []

-- and the bytes that were read as a number
pub two_bytes_read : (n : ℕ) (bs : List ℕ) → length bs ≡ 2 → n ≡ from_le_bytes w16 bs → get_or bs 0 0 < 256 → two_bytes n ≡ bs
two_bytes_read n [] long e low = absurd (omega (arith, long))
two_bytes_read n (a ∷ []) long e low = absurd (omega (arith, long))
two_bytes_read n (a ∷ b ∷ []) long e low = two_read n a b e low
two_bytes_read n (a ∷ b ∷ x ∷ bs) long e low = absurd (omega (arith, long))

-- a list that is not empty has an element
pub some : {X : Type 0} (xs : List X) → 0 < length xs → X
some [] h = absurd (omega arith)
some (x ∷ xs) h = x
