-- What two encodings that begin alike have in common.
use Rattle.std.proofs.Common.{◌≡◌, ℕ, ◌*◌, ◌/◌, ◌%◌, List, [], ◌∷◌, ◌++◌, length, get_or, take, drop, sym, refl, ap, ◌∙◌, suc-mul, arith}
use Rattle.std.specs.List.{flat_map, AllByRecursion}
use Rattle.std.proofs.lemmas.List.{take_at, drop_at, append_assoc, length-append}
use Rattle.layout.specs.Layout.{two_bytes, Item, a_count, bytes_of, section_items, record_items, text_items, GoodLength, GoodText}
use Rattle.layout.proofs.Taking.{bytes_append}

pub split_same : {A : Type 0} (xs xs' ys ys' : List A) → length xs ≡ length xs' → xs ++ ys ≡ xs' ++ ys' → (xs ≡ xs') × (ys ≡ ys')
split_same xs xs' ys ys' l e = (
  sym (take_at xs ys (length xs) refl) ∙ ap (take (length xs)) e ∙ take_at xs' ys' (length xs) (sym l),
  sym (drop_at xs ys (length xs) refl) ∙ ap (drop (length xs)) e ∙ drop_at xs' ys' (length xs) (sym l),
)

pub two_same : (m n : ℕ) → two_bytes m ≡ two_bytes n → m ≡ n
two_same m n e =
    let low : m % 256 ≡ n % 256 = ap (λ l. get_or l 0 0) e in
    let high : m / 256 ≡ n / 256 = ap (λ l. get_or l 1 0) e in
    omega arith

-- the elements of a section begin after its count
pub count_same : {X : Type 0} (items : X → List Item) (xs : List X) (after : List Item) (n : ℕ) (more : List ℕ) → bytes_of (section_items items xs after) ≡ two_bytes n ++ more → (length xs ≡ n) × (bytes_of (flat_map items xs ++ after) ≡ more)
count_same items xs after n more e =
    let both = split_same (two_bytes (length xs)) (two_bytes n) (bytes_of (flat_map items xs ++ after)) more refl e in
    (two_same (length xs) n both.0, both.1)

records_even : {X : Type 0} (f : X → List ℕ) (width : ℕ) → ((x : X) → length (f x) ≡ width) → (xs : List X) → length (bytes_of (flat_map (record_items f) xs)) ≡ length xs * width
records_even f width even [] = omega arith
records_even f width even (x ∷ xs) = omega (arith, length-append (f x) (bytes_of (flat_map (record_items f) xs)), even x, records_even f width even xs, suc-mul (length xs) width)

-- a count, and the elements after it
abbrev pub head : {X : Type 0} → (X → List Item) → ℕ → List X → List Item
head items n xs = a_count n ∷ flat_map items xs

-- a section of records of one width begins with as many as the bytes have, and what follows it is what is left
pub section_same : {X : Type 0} (f : X → List ℕ) (width : ℕ) → ((x : X) → length (f x) ≡ width) → (xs ys : List X) (after : List Item) (more : List ℕ) → bytes_of (section_items (record_items f) xs after) ≡ bytes_of (head (record_items f) (length ys) ys) ++ more → (length xs ≡ length ys) × (bytes_of after ≡ more)
section_same f width even xs ys after more e =
    let both = count_same (record_items f) xs after (length ys) (bytes_of (flat_map (record_items f) ys) ++ more) e in
    let long = records_even f width even xs ∙ ap (λ n. n * width) both.0 ∙ sym (records_even f width even ys) in
    (both.0, (split_same (bytes_of (flat_map (record_items f) xs)) (bytes_of (flat_map (record_items f) ys)) (bytes_of after) more long (sym (bytes_append (flat_map (record_items f) xs) after) ∙ both.1)).1)

-- the length of a text that comes next
pub length_good : (ts us : List (List ℕ)) (n : ℕ) (more : List ℕ) → AllByRecursion GoodText ts → bytes_of (flat_map text_items ts) ≡ bytes_of (flat_map text_items us) ++ n ∷ more → GoodLength n
length_good [] [] n more a e = absurd (omega (arith, ap length e))
length_good (t ∷ ts) [] n more a e = let h : length t ≡ n = ap (λ l. get_or l 0 0) e in (omega (arith, a.0.0), omega (arith, a.0.1))
length_good [] (u ∷ us) n more a e = absurd (omega (arith, ap length e))
length_good (t ∷ ts) (u ∷ us) n more a e =
    let h : length t ≡ length u = ap (λ l. get_or l 0 0) e in
    let tail : t ++ bytes_of (flat_map text_items ts) ≡ u ++ (bytes_of (flat_map text_items us) ++ n ∷ more) = ap (drop 1) e ∙ append_assoc u (bytes_of (flat_map text_items us)) (n ∷ more) in
    length_good ts us n more a.1 (split_same t u (bytes_of (flat_map text_items ts)) (bytes_of (flat_map text_items us) ++ n ∷ more) h tail).1
