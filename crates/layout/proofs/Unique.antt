-- Two ways to take the same bytes apart into items of a layout agree; so bytes stop to follow a layout at one place.
use Rattle.std.proofs.Common.{◌≡◌, ℕ, suc, ◌<◌, ◌≤◌, List, [], ◌∷◌, ◌++◌, length, get_or, take, sym, refl, ap, ◌∙◌, arith}
use Rattle.std.specs.List.{flat_map}
use Rattle.std.proofs.lemmas.List.{take_at, append_assoc, length-append}
use Rattle.layout.specs.Layout.{Parts, WithinLimits, Item, a_count, a_record, a_length, a_text, item_bytes, bytes_of, section_items, record_items, text_items, items_of, activity_bytes, link_bytes, connector_bytes}
use Rattle.layout.specs.Verdicts.{Begins}
use Rattle.layout.proofs.Taking.{bytes_append}
use Rattle.layout.proofs.Codes.{split_same, two_same}

-- items of one kind and one width
pub data Match : Item → Item → Type 0 where
  counts : (m n : ℕ) → Match (a_count m) (a_count n)
  records : (a b : List ℕ) → length a ≡ length b → Match (a_record a) (a_record b)
  lengths : (m n : ℕ) → Match (a_length m) (a_length n)
  texts : (a b : List ℕ) → length a ≡ length b → Match (a_text a) (a_text b)

match_back : {i j : Item} → Match i j → Match j i
match_back (counts m n) = counts n m
match_back (records a b e) = records b a (sym e)
match_back (lengths m n) = lengths n m
match_back (texts a b e) = texts b a (sym e)

pub match_width : {i j : Item} → Match i j → length (item_bytes i) ≡ length (item_bytes j)
match_width (counts m n) = refl
match_width (records a b e) = e
match_width (lengths m n) = refl
match_width (texts a b e) = e

match_same : {i j : Item} → Match i j → item_bytes i ≡ item_bytes j → i ≡ j
match_same (counts m n) e = ap a_count (two_same m n e)
match_same (records a b _) e = ap a_record e
match_same (lengths m n) e = ap a_length (ap (λ l. get_or l 0 0) e)
match_same (texts a b _) e = ap a_text e

-- the next items match, for as long as the items before them are the same
pub data Alike : List Item → List Item → Type 0 where
  done : Alike [] []
  more : (i j : Item) {is js : List Item} → Match i j → (i ≡ j → Alike is js) → Alike (i ∷ is) (j ∷ js)

count_is : {m n : ℕ} → a_count m ≡ a_count n → m ≡ n
count_is e = cc

length_is : {m n : ℕ} → a_length m ≡ a_length n → m ≡ n
length_is e = cc

-- the items of any two elements match, and what follows them
abbrev AllAlike : {X : Type 0} → (X → List Item) → Type 0
AllAlike {X} f = (x y : X) (R S : List Item) → Alike R S → Alike (f x ++ R) (f y ++ S)

record_alike : {X : Type 0} (f : X → List ℕ) (w : ℕ) → ((x : X) → length (f x) ≡ w) → AllAlike (record_items f)
record_alike f w even x y R S r = more (a_record (f x)) (a_record (f y)) (records (f x) (f y) (even x ∙ sym (even y))) (λ _. r)

text_alike : AllAlike text_items
text_alike t u R S r = more (a_length (length t)) (a_length (length u)) (lengths (length t) (length u)) (λ e. more (a_text t) (a_text u) (texts t u (length_is e)) (λ _. r))

alike_elements : {X : Type 0} (f : X → List Item) → AllAlike f → {R S : List Item} (xs ys : List X) → length xs ≡ length ys → Alike R S → Alike (flat_map f xs ++ R) (flat_map f ys ++ S)
alike_elements f one [] [] l r = r
alike_elements f one [] (y ∷ ys) l r = absurd (omega arith)
alike_elements f one (x ∷ xs) [] l r = absurd (omega arith)
alike_elements f one (x ∷ xs) (y ∷ ys) l r = simp append_assoc (one x y _ _ (alike_elements f one xs ys (omega arith) r))

alike_section : {X : Type 0} (f : X → List Item) → AllAlike f → {R S : List Item} (xs ys : List X) → Alike R S → Alike (section_items f xs R) (section_items f ys S)
alike_section f one xs ys r = more (a_count (length xs)) (a_count (length ys)) (counts (length xs) (length ys)) (λ e. alike_elements f one xs ys (count_is e) r)

alike_laid : (p q : Parts) → Alike (items_of p) (items_of q)
alike_laid p q =
    alike_section (record_items activity_bytes) (record_alike activity_bytes 4 (λ a. refl)) p.activities q.activities
    (alike_section (record_items link_bytes) (record_alike link_bytes 2 (λ l. refl)) p.links q.links
    (alike_section (record_items connector_bytes) (record_alike connector_bytes 5 (λ c. refl)) p.connectors q.connectors
    (alike_section text_items text_alike p.texts q.texts done)))

-- two ways to take the same bytes apart
data Aligned (b1 r1 : List Item) (t1 : List ℕ) (b2 r2 : List Item) (t2 : List ℕ) : Type 0 where
  same : b1 ≡ b2 → Alike r1 r2 → t1 ≡ t2 → Aligned b1 r1 t1 b2 r2 t2
  first : (i j : Item) (r c : List Item) → r1 ≡ i ∷ r → b2 ≡ b1 ++ (j ∷ c) → Match i j → t1 ≡ item_bytes j ++ (bytes_of c ++ t2) → Aligned b1 r1 t1 b2 r2 t2
  second : (i j : Item) (r c : List Item) → r2 ≡ i ∷ r → b1 ≡ b2 ++ (j ∷ c) → Match i j → t2 ≡ item_bytes j ++ (bytes_of c ++ t1) → Aligned b1 r1 t1 b2 r2 t2

aligned_more : (i j : Item) → i ≡ j → (b1 r1 : List Item) (t1 : List ℕ) (b2 r2 : List Item) (t2 : List ℕ) → Aligned b1 r1 t1 b2 r2 t2 → Aligned (i ∷ b1) r1 t1 (j ∷ b2) r2 t2
aligned_more i j e b1 r1 t1 b2 r2 t2 (same b a t) = same (ap (λ k. k ∷ b1) e ∙ ap (λ l. j ∷ l) b) a t
aligned_more i j e b1 r1 t1 b2 r2 t2 (first x y u c r b m t) = first x y u c r (ap (λ l. j ∷ l) b ∙ ap (λ k. k ∷ (b1 ++ (y ∷ c))) (sym e)) m t
aligned_more i j e b1 r1 t1 b2 r2 t2 (second x y u c r b m t) = second x y u c r (ap (λ l. i ∷ l) b ∙ ap (λ k. k ∷ (b2 ++ (y ∷ c))) e) m t

aligned_first : (r1 : List Item) (t1 : List ℕ) (j : Item) (b2 r2 : List Item) (t2 : List ℕ) → Alike r1 (j ∷ (b2 ++ r2)) → t1 ≡ item_bytes j ++ (bytes_of b2 ++ t2) → Aligned [] r1 t1 (j ∷ b2) r2 t2
aligned_first r1 t1 j b2 r2 t2 (more x y {is} m k) e = first x y is b2 refl refl m e

aligned_second : (i : Item) (b1 r1 : List Item) (t1 : List ℕ) (r2 : List Item) (t2 : List ℕ) → Alike (i ∷ (b1 ++ r1)) r2 → t2 ≡ item_bytes i ++ (bytes_of b1 ++ t1) → Aligned (i ∷ b1) r1 t1 [] r2 t2
aligned_second i b1 r1 t1 r2 t2 (more x y {is} {js} m k) e = second y x js b1 refl refl (match_back m) e

split_first : {i j : Item} {is js : List Item} → Alike (i ∷ is) (j ∷ js) → Match i j × (i ≡ j → Alike is js)
split_first (more i j m k) = (m, k)

aligned : (b1 r1 : List Item) (t1 : List ℕ) (b2 r2 : List Item) (t2 : List ℕ) → Alike (b1 ++ r1) (b2 ++ r2) → bytes_of b1 ++ t1 ≡ bytes_of b2 ++ t2 → Aligned b1 r1 t1 b2 r2 t2
aligned [] r1 t1 [] r2 t2 a e = same refl a e
aligned [] r1 t1 (j ∷ b2) r2 t2 a e = aligned_first r1 t1 j b2 r2 t2 a (e ∙ append_assoc (item_bytes j) (bytes_of b2) t2)
aligned (i ∷ b1) r1 t1 [] r2 t2 a e = aligned_second i b1 r1 t1 r2 t2 a (sym e ∙ append_assoc (item_bytes i) (bytes_of b1) t1)
aligned (i ∷ b1) r1 t1 (j ∷ b2) r2 t2 a e =
    let p = split_first a in
    let both = split_same (item_bytes i) (item_bytes j) (bytes_of b1 ++ t1) (bytes_of b2 ++ t2) (match_width p.0) (sym (append_assoc (item_bytes i) (bytes_of b1) t1) ∙ e ∙ append_assoc (item_bytes j) (bytes_of b2) t2) in
    let s = match_same p.0 both.0 in
    aligned_more i j s b1 r1 t1 b2 r2 t2 (aligned b1 r1 t1 b2 r2 t2 (p.1 s) both.1)

-- where and how the bytes stop to follow a layout within the limits
pub data How (before : List Item) : List Item → List ℕ → Type 0 where
  ended : {t : List ℕ} → How before [] t
  short : {i : Item} {r : List Item} {t : List ℕ} → length t < length (item_bytes i) → How before (i ∷ r) t
  wrong : {i : Item} {r : List Item} {t : List ℕ} → length (item_bytes i) ≤ length t → (Begins (bytes_of before ++ take (length (item_bytes i)) t) → ⊥) → How before (i ∷ r) t

pub record Halt (bs : List ℕ) : Type 0 where
  pub parts : Parts
  pub limits : WithinLimits parts
  pub before : List Item
  pub rest : List Item
  pub tail : List ℕ
  pub items_are : items_of parts ≡ before ++ rest
  pub bytes_is : bs ≡ bytes_of before ++ tail
  pub how : How before rest tail

-- a halt is not inside another layout that the bytes follow
not_first : (b1 r1 : List Item) (t1 : List ℕ) (i j : Item) (r c r2 : List Item) (t2 : List ℕ) (q : Parts) → WithinLimits q → items_of q ≡ (b1 ++ (j ∷ c)) ++ r2 → r1 ≡ i ∷ r → Match i j → t1 ≡ item_bytes j ++ (bytes_of c ++ t2) → How b1 r1 t1 → ⊥
not_first b1 r1 t1 i j r c r2 t2 q l e ri m te ended = let z : ◌≡◌ {A = ℕ} 0 (suc (length r)) = ap length ri in omega arith
not_first b1 r1 t1 i j r c r2 t2 q l e ri m te (short {i = k} s) =
    let ki : k ≡ i = cc in
    let w : length (item_bytes k) ≡ length (item_bytes i) = ap (λ x. length (item_bytes x)) ki in
    omega (arith, s, w, match_width m, ap length te, length-append (item_bytes j) (bytes_of c ++ t2))
not_first b1 r1 t1 i j r c r2 t2 q l e ri m te (wrong {i = k} s no_begin) =
    let ki : k ≡ i = cc in
    let w : length (item_bytes k) ≡ length (item_bytes j) = ap (λ x. length (item_bytes x)) ki ∙ match_width m in
    let part : take (length (item_bytes k)) t1 ≡ item_bytes j = ap (take (length (item_bytes k))) te ∙ take_at (item_bytes j) (bytes_of c ++ t2) (length (item_bytes k)) (sym w) in
    no_begin (record {
      parts = q;
      limits = l;
      rest = bytes_of (c ++ r2);
      encode_is = ap bytes_of (e ∙ append_assoc b1 (j ∷ c) r2) ∙ bytes_append b1 (j ∷ (c ++ r2)) ∙ sym (append_assoc (bytes_of b1) (item_bytes j) (bytes_of (c ++ r2))) ∙ ap (λ x. (bytes_of b1 ++ x) ++ bytes_of (c ++ r2)) (sym part);
    })

pub record Same (b1 r1 : List Item) (t1 : List ℕ) (b2 r2 : List Item) (t2 : List ℕ) : Type 0 where
  pub before_is : b1 ≡ b2
  pub rest_alike : Alike r1 r2
  pub tail_is : t1 ≡ t2

same_from : (bs : List ℕ) (h k : Halt bs) → Aligned h.before h.rest h.tail k.before k.rest k.tail → Same h.before h.rest h.tail k.before k.rest k.tail
same_from bs h k (same b a t) = record { before_is = b; rest_alike = a; tail_is = t }
same_from bs h k (first i j r c ri be m te) = absurd (not_first h.before h.rest h.tail i j r c k.rest k.tail k.parts k.limits (k.items_are ∙ ap (λ l. l ++ k.rest) be) ri m te h.how)
same_from bs h k (second i j r c ri be m te) = absurd (not_first k.before k.rest k.tail i j r c h.rest h.tail h.parts h.limits (h.items_are ∙ ap (λ l. l ++ h.rest) be) ri m te k.how)

pub one_halt : (bs : List ℕ) (h k : Halt bs) → Same h.before h.rest h.tail k.before k.rest k.tail
one_halt bs h k =
    let a : Alike (h.before ++ h.rest) (k.before ++ k.rest) = rw (h.items_are, k.items_are) at (alike_laid h.parts k.parts) in
    same_from bs h k (aligned h.before h.rest h.tail k.before k.rest k.tail a (sym h.bytes_is ∙ k.bytes_is))
