-- The tokens found meet the laws of tokens, and no others do.
use Rattle.std.proofs.Common.{◌≡◌, ℕ, zero, suc, ◌+◌, ◌<◌, ◌≤◌, true, false, not, ◌&&◌, eqb, ◌⊎◌, List, [], ◌∷◌, ◌++◌, length, get_or, take, drop, sym, refl, ap, ◌∙◌, subst, inl, inr, ⊎_elim, arith, length-drop}
use mathlib.Core.Path.{subst⁻¹}
use Rattle.std.specs.List.{AllByRecursion}
use Rattle.std.proofs.lemmas.List.{take-append-drop, take_at, drop_at, length-take-le, length-append}
use Rattle.std.proofs.lemmas.Bool.{true≢false, false≢true, cond-true, cond-false, cond_both, cases_Bool, cases_eq}
use Rattle.std.proofs.lemmas.Bool.Decides.{nat_tests}
use Rattle.values.specs.declared.amount.Comparison.{Comparison}
use Rattle.values.specs.declared.amount.Comparison.TheVariants.{Less, AtMost, Equal, Unequal, AtLeast, Greater}
use Rattle.tokens.specs.declared.class.Class.{Class}
use Rattle.tokens.specs.declared.class.Class.TheVariants.{Space, Letter, Digit, Minus, Sign, Parenthesis, Other}
use Rattle.tokens.specs.Classes.{class, word_byte, space_byte, in_word, is_space}
use Rattle.tokens.specs.Tokens.{Part, spelling, IsSign, NoWord, NoLonger, IsToken, a_word, a_minus_word, a_minus, a_parenthesis, a_long_sign, a_short_sign, a_further_byte, Tokenized, ended, space, token, run, sign_length, front, front_by, lexed, TokensOf}
use Rattle.tokens.proofs.Classes.{minus_class, class_minus, class_sign, sign_class, space_class, space_byte_only}
use Rattle.tokens.proofs.Spans.{span_le, span_whole, span_passes}
use Rattle.tokens.proofs.Fronts.{front_at, front_minus, single_sign, run_pos}
use Rattle.tokens.proofs.Nexts.{front_long, lexed_front}

-- a sign of two bytes
double_sign : (b c : ℕ) (s : Comparison) → b ∷ c ∷ [] ≡ spelling s → (c ≡ 61) × ((b ≡ 60) ⊎ ((b ≡ 62) ⊎ (b ≡ 33)))
double_sign b c Less e = absurd (omega (arith, ap length e))
double_sign b c AtMost e = (ap (λ l. get_or l 1 0) e, inl (ap (λ l. get_or l 0 0) e))
double_sign b c Equal e = absurd (omega (arith, ap length e))
double_sign b c Unequal e = (ap (λ l. get_or l 1 0) e, inr (inr (ap (λ l. get_or l 0 0) e)))
double_sign b c AtLeast e = (ap (λ l. get_or l 1 0) e, inr (inl (ap (λ l. get_or l 0 0) e)))
double_sign b c Greater e = absurd (omega (arith, ap length e))

abbrev AnySign : ℕ → Type 0
AnySign b = (b ≡ 60) ⊎ ((b ≡ 61) ⊎ ((b ≡ 62) ⊎ (b ≡ 33)))

-- a byte of a sign before an equality sign
sign_of_two : (b c : ℕ) → AnySign b → c ≡ 61 → (b ≡ 61 → ⊥) → IsSign (b ∷ c ∷ [])
sign_of_two b c (inl x) e n = (AtMost, (cc))
sign_of_two b c (inr (inl x)) e n = absurd (n x)
sign_of_two b c (inr (inr (inl x))) e n = (AtLeast, (cc))
sign_of_two b c (inr (inr (inr x))) e n = (Unequal, (cc))

no_longer : (b : ℕ) (rest : List ℕ) → class b ≡ Sign → NoLonger b rest → sign_length b (get_or rest 0 0) ≡ 1
no_longer b [] k longest = refl
no_longer b (c ∷ rest) k longest =
    ⊎_elim
    (λ e. ⊎_elim (λ x. grind (arith, nat_tests)) (λ n. absurd (longest (sign_of_two b c (class_sign b k) e n))) (cases_eq b 61))
    (λ n. grind (arith, nat_tests))
    (cases_eq c 61)

run_stop : (rest : List ℕ) → NoWord rest → run rest ≡ 0
run_stop [] end = refl
run_stop (b ∷ rest) end = cond-false (word_byte b) (suc (run rest)) 0 end

run_stopped : (xs : List ℕ) → NoWord (drop (run xs) xs)
run_stopped [] = tt
run_stopped (x ∷ xs) = cond_both (word_byte x) (suc (run xs)) 0 (λ n. NoWord (drop n (x ∷ xs))) (λ _. run_stopped xs) (λ e. e)

front_word : (k : Class) (xs : List ℕ) → in_word k ≡ true → (is_space k ≡ false) × (front_by k xs ≡ run xs)
front_word Letter xs e = (refl, refl)
front_word Digit xs e = (refl, refl)
front_word _ xs e = absurd (false≢true e)

-- these bytes are what is taken at the front
record Taken (w rest : List ℕ) : Type 0 where
  some : 0 < length w
  no_space : space_byte (get_or (w ++ rest) 0 0) ≡ false
  whole : length w ≡ front (w ++ rest)

word_taken : (w rest : List ℕ) → 0 < length w → AllByRecursion (λ b. word_byte b ≡ true) w → NoWord rest → Taken w rest
word_taken [] rest some all end = absurd (omega arith)
word_taken (b ∷ w) rest some all end =
    let at = front_word (class b) (b ∷ w ++ rest) all.0 in
    record { some = some; no_space = at.0; whole = sym (at.1 ∙ span_whole word_byte (b ∷ w) rest all (run_stop rest end)) }

minus_taken : (w rest : List ℕ) → AllByRecursion (λ b. word_byte b ≡ true) w → NoWord rest → Taken (45 ∷ w) rest
minus_taken w rest all end =
    record {
      some = omega arith;
      no_space = ap is_space (minus_class 45 refl);
      whole = omega (arith, front_minus (45 ∷ w ++ rest) refl, span_whole word_byte w rest all (run_stop rest end));
    }

one_taken : (b : ℕ) (rest : List ℕ) (k : Class) → class b ≡ k → is_space k ≡ false → front_by k (b ∷ rest) ≡ 1 → Taken (b ∷ []) rest
one_taken b rest k e s one = record { some = omega arith; no_space = ap is_space e ∙ s; whole = sym (front_at k (b ∷ rest) e ∙ one) }

short_taken : (b : ℕ) (rest : List ℕ) → class b ≡ Sign → NoLonger b rest → Taken (b ∷ []) rest
short_taken b rest e longest = one_taken b rest Sign e refl (no_longer b rest e longest)

long_taken : (b c : ℕ) (rest : List ℕ) → IsSign (b ∷ c ∷ []) → Taken (b ∷ c ∷ []) rest
long_taken b c rest s =
    let two = double_sign b c s.0 s.1 in
    let e = sign_class b (⊎_elim inl (⊎_elim (λ x. inr (inr (inl x))) (λ x. inr (inr (inr x)))) two.1) in
    record { some = omega arith; no_space = ap is_space e; whole = sym (front_at Sign (b ∷ c ∷ rest) e ∙ grind (arith, nat_tests)) }

taken : (w rest : List ℕ) → IsToken w rest → Taken w rest
taken w rest (a_word some all end) = word_taken w rest some all end
taken w rest (a_minus_word {w = v} some all end) = minus_taken v rest all end
taken w rest (a_minus end) = minus_taken [] rest tt end
taken w rest (a_parenthesis {b = b} e) = one_taken b rest Parenthesis e refl refl
taken w rest (a_long_sign {b = b} {c = c} s) = long_taken b c rest s
taken w rest (a_short_sign {b = b} s longest) =
    short_taken b rest (sign_class b (⊎_elim inl (⊎_elim (λ x. inr (inl x)) (λ x. inr (inr (inl x)))) (single_sign b s.0 s.1))) longest
taken w rest (a_further_byte {b = b} (inl e)) = one_taken b rest Other e refl refl
taken w rest (a_further_byte {b = b} (inr h)) = short_taken b rest h.0 h.2

lexed_token : (p : ℕ) (w rest : List ℕ) → Taken w rest → lexed 0 (w ++ rest) p ≡ (p, w) ∷ lexed 0 rest (p + length w)
lexed_token p w rest t =
    lexed_front (w ++ rest) p (omega (arith, t.some, length-append w rest)) t.no_space
    ∙ ap (λ k. (p, take k (w ++ rest)) ∷ lexed 0 (drop k (w ++ rest)) (p + k)) (sym t.whole)
    ∙ (λ i. (p, take_at w rest (length w) refl i) ∷ lexed 0 (drop_at w rest (length w) refl i) (p + length w))

only_lexed : (p : ℕ) (bs : List ℕ) (ts : List Part) → Tokenized p bs ts → ts ≡ lexed 0 bs p
only_lexed p bs ts ended = refl
only_lexed p bs ts (space {bs = rest} more) = only_lexed (suc p) rest ts more ∙ sym (cond-true (space_byte 32) _ _ (ap is_space (space_class 32 refl)))
only_lexed p bs ts (token {w = w} {bs = rest} {ts = us} one more) =
    ap (λ l. (p, w) ∷ l) (only_lexed (p + length w) rest us more) ∙ sym (lexed_token p w rest (taken w rest one))

word_token : (xs : List ℕ) → 1 ≤ run xs → IsToken (take (run xs) xs) (drop (run xs) xs)
word_token xs some = a_word (omega (arith, length-take-le (run xs) xs (span_le word_byte xs))) (span_passes word_byte xs) (run_stopped xs)

minus_token : (b : ℕ) (w rest : List ℕ) → b ≡ 45 → AllByRecursion (λ x. word_byte x ≡ true) w → NoWord rest → IsToken (b ∷ w) rest
minus_token b [] rest e all end = subst⁻¹ (λ x. IsToken (x ∷ []) rest) e (a_minus end)
minus_token b (c ∷ w) rest e all end = subst⁻¹ (λ x. IsToken (x ∷ c ∷ w) rest) e (a_minus_word (omega arith) all end)

-- a byte of a sign alone
short_token : (b : ℕ) (rest : List ℕ) → class b ≡ Sign → NoLonger b rest → AnySign b → IsToken (b ∷ []) rest
short_token b rest k longest (inl x) = a_short_sign (Less, (cc)) longest
short_token b rest k longest (inr (inl x)) = a_short_sign (Equal, (cc)) longest
short_token b rest k longest (inr (inr (inl x))) = a_short_sign (Greater, (cc)) longest
short_token b rest k longest (inr (inr (inr x))) = a_further_byte (inr (k, (λ s. omega (arith, single_sign b s.0 s.1)), longest))

sign_token : (b : ℕ) (xs : List ℕ) → class b ≡ Sign → IsToken (take (sign_length b (get_or xs 0 0)) (b ∷ xs)) (drop (sign_length b (get_or xs 0 0)) (b ∷ xs))
sign_token b [] k = short_token b [] k tt (class_sign b k)
sign_token b (c ∷ xs) k =
    let two : (eqb c 61 && not (eqb b 61)) ≡ true → IsSign (b ∷ c ∷ []) = λ t. sign_of_two b c (class_sign b k) (grind (arith, nat_tests)) (λ x. grind (arith, nat_tests)) in
    let one : (eqb c 61 && not (eqb b 61)) ≡ false → NoLonger b (c ∷ xs) = λ t s. let both = double_sign b c s.0 s.1 in grind (arith, nat_tests) in
    cond_both _ 2 1 (λ n. IsToken (take n (b ∷ c ∷ xs)) (drop n (b ∷ c ∷ xs))) (λ t. a_long_sign (two t)) (λ t. short_token b (c ∷ xs) k (one t) (class_sign b k))

front_token : (k : Class) (b : ℕ) (xs : List ℕ) → class b ≡ k → is_space k ≡ false → IsToken (take (front_by k (b ∷ xs)) (b ∷ xs)) (drop (front_by k (b ∷ xs)) (b ∷ xs))
front_token Space b xs e s = absurd (true≢false s)
front_token Letter b xs e s = word_token (b ∷ xs) (run_pos (b ∷ xs) Letter refl e (omega arith))
front_token Digit b xs e s = word_token (b ∷ xs) (run_pos (b ∷ xs) Digit refl e (omega arith))
front_token Minus b xs e s =
    let one : suc (run xs) ≡ 1 + run xs = omega arith in
    subst (λ n. IsToken (take n (b ∷ xs)) (drop n (b ∷ xs))) one (minus_token b (take (run xs) xs) (drop (run xs) xs) (class_minus b e) (span_passes word_byte xs) (run_stopped xs))
front_token Sign b xs e s = sign_token b xs e
front_token Parenthesis b xs e s = a_parenthesis e
front_token Other b xs e s = a_further_byte (inl e)

token_lexed : (p : ℕ) (xs : List ℕ) → 0 < length xs → space_byte (get_or xs 0 0) ≡ false → Tokenized (p + front xs) (drop (front xs) xs) (lexed 0 (drop (front xs) xs) (p + front xs)) → Tokenized p xs (lexed 0 xs p)
token_lexed p [] some s more = absurd (omega arith)
token_lexed p (x ∷ xs) some s more =
    let n = front (x ∷ xs) in
    let long = length-take-le n (x ∷ xs) (front_long (x ∷ xs) some).1 in
    let here = front_token (class x) x xs refl s in
    subst⁻¹ (Tokenized p (x ∷ xs)) (lexed_front (x ∷ xs) p some s)
    (subst (λ l. Tokenized p l ((p, take n (x ∷ xs)) ∷ lexed 0 (drop n (x ∷ xs)) (p + n))) (take-append-drop n (x ∷ xs))
    (token here (subst⁻¹ (λ k. Tokenized (p + k) (drop n (x ∷ xs)) (lexed 0 (drop n (x ∷ xs)) (p + n))) long more)))

space_lexed : (p x : ℕ) (xs : List ℕ) → space_byte x ≡ true → Tokenized (suc p) xs (lexed 0 xs (suc p)) → Tokenized p (x ∷ xs) (lexed 0 (x ∷ xs) p)
space_lexed p x xs s more =
    subst⁻¹ (Tokenized p (x ∷ xs)) (cond-true (space_byte x) _ _ s) (subst⁻¹ (λ b. Tokenized p (b ∷ xs) (lexed 0 xs (suc p))) (space_byte_only x s) (space more))

lexed_tokenized : (n p : ℕ) (xs : List ℕ) → length xs ≤ n → Tokenized p xs (lexed 0 xs p)
lexed_tokenized zero p [] h = ended
lexed_tokenized zero p (x ∷ xs) h = absurd (omega arith)
lexed_tokenized (suc n) p [] h = ended
lexed_tokenized (suc n) p (x ∷ xs) h =
    let k = front (x ∷ xs) in
    let long = front_long (x ∷ xs) (omega arith) in
    let more = lexed_tokenized n (p + k) (drop k (x ∷ xs)) (omega (arith, length-drop k (x ∷ xs))) in
    ⊎_elim (λ is. space_lexed p x xs is (lexed_tokenized n (suc p) xs (omega arith))) (λ isnt. token_lexed p (x ∷ xs) (omega arith) isnt more) (cases_Bool (space_byte x))

pub tokens_of : (text : List ℕ) → TokensOf text
tokens_of text = record { found = lexed_tokenized (length text) 0 text (omega arith); only = only_lexed 0 text }
