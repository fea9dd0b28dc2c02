-- The tokens from a place on are the one at the front and those after it.
use Rattle.std.proofs.Common.{◌≡◌, ℕ, zero, suc, ◌+◌, ◌-◌, ◌<◌, ◌≤◌, false, List, [], ◌∷◌, length, get_or, take, drop, sym, refl, ap, ◌∙◌, subst, ⊎_elim, add-zero, add-suc, suc-add, arith, length-drop}
use mathlib.Core.Path.{subst⁻¹}
use Rattle.std.proofs.lemmas.List.{drop-drop, nil_from_length}
use Rattle.std.proofs.lemmas.Bool.{cond-true, cond-false, cases_Bool, cases_lt}
use Rattle.std.proofs.lemmas.Bool.Decides.{nat_tests}
use Rattle.tokens.specs.declared.class.Class.{Class}
use Rattle.tokens.specs.declared.class.Class.TheVariants.{Letter, Digit, Minus, Sign}
use Rattle.tokens.specs.Classes.{class, word_byte, space_byte}
use Rattle.tokens.specs.Tokens.{spaces, lexed, tokens_from, front, front_by, sign_length}
use Rattle.tokens.proofs.Spans.{span_le, second_past}
use Rattle.tokens.proofs.Fronts.{run_pos}

lexed_skip : (k : ℕ) (xs : List ℕ) (p : ℕ) → lexed k xs p ≡ lexed 0 (drop k xs) (p + k)
lexed_skip zero [] p = refl
lexed_skip (suc k) [] p = refl
lexed_skip zero (x ∷ xs) p = ap (λ q. lexed 0 (x ∷ xs) q) (sym (add-zero p))
lexed_skip (suc k) (x ∷ xs) p = lexed_skip k xs (suc p) ∙ ap (λ q. lexed 0 (drop k xs) q) (suc-add p k ∙ sym (add-suc p k))

-- a token has at least one byte, and ends within the text
abbrev pub Long : List ℕ → ℕ → Type 0
Long xs n = (1 ≤ n) × (n ≤ length xs)

sign_long : (xs : List ℕ) → 0 < length xs → Long xs (sign_length (get_or xs 0 0) (get_or xs 1 0))
sign_long xs h =
    let two : get_or xs 1 0 ≡ 61 → 2 ≤ length xs = λ e. ⊎_elim (λ short. absurd (omega (arith, second_past xs short))) (λ long. long) (cases_lt (length xs) 2) in
    grind (arith, nat_tests, two)

front_by_long : (k : Class) (xs : List ℕ) → class (get_or xs 0 0) ≡ k → 0 < length xs → Long xs (front_by k xs)
front_by_long Letter xs e h = (run_pos xs Letter refl e h, span_le word_byte xs)
front_by_long Digit xs e h = (run_pos xs Digit refl e h, span_le word_byte xs)
front_by_long Minus xs e h = (omega arith, omega (arith, span_le word_byte (drop 1 xs), length-drop 1 xs))
front_by_long Sign xs e h = sign_long xs h
front_by_long _ xs e h = (omega arith, omega arith)

pub front_long : (xs : List ℕ) → 0 < length xs → Long xs (front xs)
front_long xs h = front_by_long (class (get_or xs 0 0)) xs refl h

lexed_spaces : (xs : List ℕ) (p : ℕ) → lexed 0 xs p ≡ lexed 0 (drop (spaces xs) xs) (p + spaces xs)
lexed_spaces [] p = refl
lexed_spaces (x ∷ xs) p =
    ⊎_elim
    (λ is. cond-true _ _ _ is ∙ lexed_spaces xs (suc p) ∙ ap (λ q. lexed 0 (drop (spaces xs) xs) q) (omega arith) ∙ ap (λ k. lexed 0 (drop k (x ∷ xs)) (p + k)) (sym (cond-true (space_byte x) (suc (spaces xs)) 0 is)))
    (λ isnt. ap (λ q. lexed 0 (x ∷ xs) q) (sym (add-zero p)) ∙ ap (λ k. lexed 0 (drop k (x ∷ xs)) (p + k)) (sym (cond-false (space_byte x) (suc (spaces xs)) 0 isnt)))
    (cases_Bool (space_byte x))

unspaced : (xs : List ℕ) → 0 < length (drop (spaces xs) xs) → space_byte (get_or (drop (spaces xs) xs) 0 0) ≡ false
unspaced [] h = absurd (omega arith)
unspaced (x ∷ xs) h =
    ⊎_elim
    (λ is.
    let e = cond-true (space_byte x) (suc (spaces xs)) 0 is in
    subst⁻¹ (λ k. space_byte (get_or (drop k (x ∷ xs)) 0 0) ≡ false) e (unspaced xs (subst (λ k. 0 < length (drop k (x ∷ xs))) e h)))
    (λ isnt. subst⁻¹ (λ k. space_byte (get_or (drop k (x ∷ xs)) 0 0) ≡ false) (cond-false (space_byte x) (suc (spaces xs)) 0 isnt) isnt)
    (cases_Bool (space_byte x))

pub lexed_front : (xs : List ℕ) (p : ℕ) → 0 < length xs → space_byte (get_or xs 0 0) ≡ false → lexed 0 xs p ≡ (p, take (front xs) xs) ∷ lexed 0 (drop (front xs) xs) (p + front xs)
lexed_front [] p h e = absurd (omega arith)
lexed_front (x ∷ xs) p h e =
    let n = front (x ∷ xs) in
    let long = front_long (x ∷ xs) h in
    let one : suc (n - 1) ≡ n = omega (arith, long.0) in
    cond-false _ _ _ e
    ∙ ap (λ l. (p, take n (x ∷ xs)) ∷ l) (lexed_skip (n - 1) xs (suc p) ∙ ap (λ q. lexed 0 (drop (n - 1) xs) q) (omega (arith, long.0)) ∙ ap (λ k. lexed 0 (drop k (x ∷ xs)) (p + n)) one)

-- what is left at p, where spaces lead to q
left_at : (text : List ℕ) (p q : ℕ) → q ≡ p + spaces (drop p text) → tokens_from text p ≡ tokens_from text q
left_at text p q at =
    let xs = drop p text in
    lexed_spaces xs p ∙ (λ i. lexed 0 (drop-drop (spaces xs) p text i) (p + spaces xs)) ∙ ap (tokens_from text) (sym at)

no_space_at : (text : List ℕ) (p q : ℕ) → q ≡ p + spaces (drop p text) → 0 < length (drop q text) → space_byte (get_or (drop q text) 0 0) ≡ false
no_space_at text p q at some =
    let xs = drop p text in
    let here : drop (spaces xs) xs ≡ drop q text = drop-drop (spaces xs) p text ∙ ap (λ k. drop k text) (sym at) in
    subst (λ l. space_byte (get_or l 0 0) ≡ false) here (unspaced xs (subst (λ l. 0 < length l) (sym here) some))

pub next_token : (text : List ℕ) (p q n : ℕ) → q ≡ p + spaces (drop p text) → 0 < length (drop q text) → n ≡ front (drop q text) → tokens_from text p ≡ (q, take n (drop q text)) ∷ tokens_from text (q + n)
next_token text p q n at some is =
    left_at text p q at
    ∙ lexed_front (drop q text) q some (no_space_at text p q at some)
    ∙ ap (λ k. (q, take k (drop q text)) ∷ lexed 0 (drop k (drop q text)) (q + k)) (sym is)
    ∙ ap (λ l. (q, take n (drop q text)) ∷ lexed 0 l (q + n)) (drop-drop n q text)

pub next_none : (text : List ℕ) (p q : ℕ) → q ≡ p + spaces (drop p text) → length (drop q text) ≡ 0 → (tokens_from text p ≡ []) × (tokens_from text q ≡ [])
next_none text p q at none =
    let empty : tokens_from text q ≡ [] = ap (λ l. lexed 0 l q) (nil_from_length (drop q text) none) in
    (left_at text p q at ∙ empty, empty)
