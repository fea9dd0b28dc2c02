-- Every verdict says where and how the bytes stop to follow a layout; so there is only one.
use Rattle.std.proofs.Common.{◌≡◌, ℕ, ◌+◌, ◌<◌, ◌≤◌, cond, ltb, List, [], ◌∷◌, ◌++◌, length, get_or, take, drop, Some, None, Option, sym, refl, ap, ◌∙◌, subst, arith}
use Rattle.std.specs.List.{flat_map}
use Rattle.std.proofs.lemmas.List.{append-nil, append_assoc, take-append-drop, take-take, drop-take, length-take, length-take-le, length-drop}
use Rattle.std.proofs.lemmas.Bool.{lt-ltb, le-ltb}
use Rattle.parts.specs.declared.Activity.{Activity}
use Rattle.parts.specs.declared.Link.{Link}
use Rattle.parts.specs.declared.Connector.{Connector}
use Rattle.layout.specs.declared.refusal.LayoutRefusal.{LayoutRefusal}
use Rattle.layout.specs.declared.refusal.LayoutRefusal.TheVariants.{Cut, Count, TextLength, Extra}
use Rattle.layout.specs.Layout.{Parts, WithinLimits, Item, a_count, a_record, a_length, a_text, item_bytes, bytes_of, section_items, record_items, text_items, items_of, encode, activity_bytes, link_bytes, connector_bytes}
use Rattle.layout.specs.Verdicts.{Next, Begins, Wrong, Refused, accepted, refused, OneVerdict, OneEncoding}
use Rattle.layout.proofs.Codes.{two_same}
use Rattle.layout.proofs.Unique.{Match, counts, records, lengths, texts, match_width, Alike, done, more, How, ended, short, wrong, Halt, one_halt}

-- what an item that is there is refused for; the bytes of a record or a text are not judged
wrong_at : Item → ℕ → LayoutRefusal
wrong_at (a_count n) at = Count at
wrong_at (a_record bs) at = Cut at
wrong_at (a_length n) at = TextLength at
wrong_at (a_text bs) at = Cut at

match_wrong : {i j : Item} (at : ℕ) → Match i j → wrong_at i at ≡ wrong_at j at
unfolding wrong_at
match_wrong at (counts m n) = refl
match_wrong at (records a b e) = refl
match_wrong at (lengths m n) = refl
match_wrong at (texts a b e) = refl

-- the refusal of bytes that stop to follow a layout, from the items and the bytes that are left there
abbrev answer : List Item → List ℕ → ℕ → Option LayoutRefusal
answer [] [] at = None
answer [] (b ∷ t) at = Some (Extra at)
answer (i ∷ r) t at = Some (cond (ltb (length t) (length (item_bytes i))) (Cut at) (wrong_at i at))

answer_alike : {r1 r2 : List Item} (t : List ℕ) (at : ℕ) → Alike r1 r2 → answer r1 t at ≡ answer r2 t at
answer_alike t at done = refl
answer_alike t at (more i j m k) =
    ap (λ w. Some (cond (ltb (length t) w) (Cut at) (wrong_at i at))) (match_width m)
    ∙ ap (λ x. Some (cond (ltb (length t) (length (item_bytes j))) (Cut at) x)) (match_wrong at m)

record Told (bs : List ℕ) (o : Option LayoutRefusal) : Type 0 where
  halt : Halt bs
  answer_is : answer halt.rest halt.tail (length (bytes_of halt.before)) ≡ o

one_told : (bs : List ℕ) {o u : Option LayoutRefusal} → Told bs o → Told bs u → o ≡ u
one_told bs t u =
    let s = one_halt bs t.halt u.halt in
    let at = length (bytes_of t.halt.before) in
    sym t.answer_is
    ∙ answer_alike t.halt.tail at s.rest_alike
    ∙ ap (λ l. answer u.halt.rest l at) s.tail_is
    ∙ ap (λ l. answer u.halt.rest u.halt.tail (length (bytes_of l))) s.before_is
    ∙ u.answer_is

-- the first k bytes after the first at
take_both : (at k : ℕ) (bs : List ℕ) → take (at + k) bs ≡ take at bs ++ take k (drop at bs)
take_both at k bs = sym (take-append-drop at (take (at + k) bs)) ∙ ap (λ l. l ++ drop at (take (at + k) bs)) (take-take at (at + k) bs (omega arith)) ∙ ap (λ l. take at bs ++ l) (drop-take at k bs)

told_next : (bs : List ℕ) (at : ℕ) (item : Item) (e : LayoutRefusal) → (x : Next bs at item) → How x.before (item ∷ x.after) (drop at bs) → cond (ltb (length (drop at bs)) (length (item_bytes item))) (Cut at) (wrong_at item at) ≡ e → Told bs (Some e)
told_next bs at item e x h s = record {
  halt = record {
    parts = x.parts;
    limits = x.limits;
    before = x.before;
    rest = item ∷ x.after;
    tail = drop at bs;
    items_are = x.items_are;
    bytes_is = sym (take-append-drop at bs) ∙ ap (λ l. l ++ drop at bs) x.front_is;
    how = h;
  };
  answer_is = ap (λ k. answer (item ∷ x.after) (drop at bs) k) (sym x.at_is) ∙ ap Some s;
}

told_wrong : (kind : ℕ → Item) (bs : List ℕ) (at : ℕ) → (w : Wrong kind bs at) → Told bs (Some (wrong_at (kind w.number) at))
told_wrong kind bs at w =
    let item = kind w.number in
    let width = length (item_bytes item) in
    let long = length-drop at bs in
    let there : width ≤ length (drop at bs) = omega (arith, w.there) in
    told_next bs at item (wrong_at item at) w.next
    (wrong there (λ g. w.through (subst Begins (ap (λ l. l ++ take width (drop at bs)) (sym w.next.front_is) ∙ sym (take_both at width bs)) g)))
    (ap (λ b. cond b (Cut at) (wrong_at item at)) (le-ltb (length (drop at bs)) width there))

told_whole : (bs : List ℕ) (p : Parts) (tail : List ℕ) → WithinLimits p → bs ≡ encode p ++ tail → Halt bs
told_whole bs p tail l e = record { parts = p; limits = l; before = items_of p; rest = []; tail = tail; items_are = sym (append-nil (items_of p)); bytes_is = e; how = ended }

told_accepted : (bs : List ℕ) (p : Parts) → WithinLimits p → bs ≡ encode p → Told bs None
unfolding told_whole
told_accepted bs p l e = record { halt = told_whole bs p [] l (e ∙ sym (append-nil (encode p))); answer_is = refl }

answer_extra : (t : List ℕ) (at : ℕ) → 0 < length t → answer [] t at ≡ Some (Extra at)
answer_extra [] at h = absurd (omega arith)
answer_extra (b ∷ t) at h = refl

told : (bs : List ℕ) (e : LayoutRefusal) → Refused bs e → Told bs (Some e)
unfolding told_whole wrong_at
told bs (Cut at) r =
    let long = length-drop at bs in
    let starts : at ≤ length bs = omega (arith, ap length r.next.front_is, length-take at bs, r.next.at_is) in
    let ends : length (drop at bs) < length (item_bytes r.item) = omega (arith, r.ends) in
    told_next bs at r.item (Cut at) r.next (short ends) (ap (λ b. cond b (Cut at) (wrong_at r.item at)) (lt-ltb (length (drop at bs)) (length (item_bytes r.item)) ends))
told bs (Count at) r = told_wrong a_count bs at r
told bs (TextLength at) r = told_wrong a_length bs at r
told bs (Extra at) r =
    let long = length-drop at bs in
    record {
      halt = told_whole bs r.parts (drop at bs) r.limits (sym (take-append-drop at bs) ∙ ap (λ l. l ++ drop at bs) (sym r.encode_is));
      answer_is = ap (λ k. answer [] (drop at bs) k) (ap length r.encode_is ∙ length-take-le at bs (omega (arith, r.more))) ∙ answer_extra (drop at bs) at (omega (arith, r.more));
    }

-- records of equal numbers are equal
activity_of : ℕ → ℕ → ℕ → Activity
activity_of operation priority flags = record { operation = operation; priority = priority; flags = flags }

activity_made : {o p f o' p' f' : ℕ} → o ≡ o' → p ≡ p' → f ≡ f' → activity_of o p f ≡ activity_of o' p' f'
activity_made x y z = cc

link_of : ℕ → ℕ → Link
link_of source target = record { source = source; target = target }

link_made : {s t s' t' : ℕ} → s ≡ s' → t ≡ t' → link_of s t ≡ link_of s' t'
link_made x y = cc

connector_of : ℕ → ℕ → ℕ → ℕ → ℕ → Connector
connector_of target target_field kind source source_field = record { target = target; target_field = target_field; kind = kind; source = source; source_field = source_field }

connector_made : {t u k s v t' u' k' s' v' : ℕ} → t ≡ t' → u ≡ u' → k ≡ k' → s ≡ s' → v ≡ v' → connector_of t u k s v ≡ connector_of t' u' k' s' v'
connector_made a b c d e = cc

-- records with equal bytes are equal, since their numbers are those that the bytes give
activity_same : (a b : Activity) → activity_bytes a ≡ activity_bytes b → a ≡ b
activity_same a b e =
    let from : List ℕ → Activity = λ l. record { operation = get_or l 0 0; priority = get_or l 1 0; flags = get_or l 2 0 } in
    let operation : a.operation ≡ b.operation = two_same a.operation b.operation (ap (take 2) e) in
    let same : a.operation ∷ a.priority ∷ a.flags ∷ [] ≡ b.operation ∷ b.priority ∷ b.flags ∷ [] = cc in
    ap from same

link_same : (a b : Link) → link_bytes a ≡ link_bytes b → a ≡ b
link_same a b e =
    let from : List ℕ → Link = λ l. record { source = get_or l 0 0; target = get_or l 1 0 } in
    ap from e

connector_same : (a b : Connector) → connector_bytes a ≡ connector_bytes b → a ≡ b
connector_same a b e =
    let from : List ℕ → Connector = λ l. record { target = get_or l 0 0; target_field = get_or l 1 0; kind = get_or l 2 0; source = get_or l 3 0; source_field = get_or l 4 0 } in
    ap from e

-- the parts can be read off the items
abbrev ReadOff : {X : Type 0} → (X → List Item) → Type 0
ReadOff {X} f = (x y : X) (R S : List Item) → f x ++ R ≡ f y ++ S → (x ≡ y) × (R ≡ S)

record_off : {X : Type 0} (f : X → List ℕ) → ((x y : X) → f x ≡ f y → x ≡ y) → ReadOff (record_items f)
record_off f same x y R S e = let here : f x ≡ f y = cc in (same x y here, cc)

text_off : ReadOff text_items
text_off t u R S e = (cc, cc)

elements_same : {X : Type 0} (f : X → List Item) → ReadOff f → (xs ys : List X) (R S : List Item) → length xs ≡ length ys → flat_map f xs ++ R ≡ flat_map f ys ++ S → (xs ≡ ys) × (R ≡ S)
elements_same f off [] [] R S l e = (refl, e)
elements_same f off [] (y ∷ ys) R S l e = absurd (omega arith)
elements_same f off (x ∷ xs) [] R S l e = absurd (omega arith)
elements_same f off (x ∷ xs) (y ∷ ys) R S l e =
    let first = off x y (flat_map f xs ++ R) (flat_map f ys ++ S) (simp append_assoc at e) in
    let others = elements_same f off xs ys R S (omega arith) first.1 in
    (ap (λ z. z ∷ xs) first.0 ∙ ap (λ zs. y ∷ zs) others.0, others.1)

section_same : {X : Type 0} (f : X → List Item) → ReadOff f → (xs ys : List X) (R S : List Item) → section_items f xs R ≡ section_items f ys S → (xs ≡ ys) × (R ≡ S)
section_same f off xs ys R S e =
    let long : length xs ≡ length ys = cc in
    let there : flat_map f xs ++ R ≡ flat_map f ys ++ S = cc in
    elements_same f off xs ys R S long there

parts_from : List Activity → List Link → List Connector → List (List ℕ) → Parts
parts_from acts ls cs ts = record { activities = acts; links = ls; connectors = cs; texts = ts }

parts_made : {a a' : List Activity} {l l' : List Link} {c c' : List Connector} {t t' : List (List ℕ)} → a ≡ a' → l ≡ l' → c ≡ c' → t ≡ t' → parts_from a l c t ≡ parts_from a' l' c' t'
parts_made w x y z = cc

items_same : (p q : Parts) → items_of p ≡ items_of q → p ≡ q
unfolding parts_from
items_same p q e =
    let a = section_same (record_items activity_bytes) (record_off activity_bytes activity_same) p.activities q.activities _ _ e in
    let l = section_same (record_items link_bytes) (record_off link_bytes link_same) p.links q.links _ _ a.1 in
    let c = section_same (record_items connector_bytes) (record_off connector_bytes connector_same) p.connectors q.connectors _ _ l.1 in
    let t = section_same text_items text_off p.texts q.texts [] [] c.1 in
    parts_made a.0 l.0 c.0 t.0

parts_same : (bs : List ℕ) (p q : Parts) → WithinLimits p → WithinLimits q → bs ≡ encode p → bs ≡ encode q → p ≡ q
unfolding told_whole
parts_same bs p q lp lq e f =
    let halt : (r : Parts) → WithinLimits r → bs ≡ encode r → Halt bs = λ r l h. told_whole bs r [] l (h ∙ sym (append-nil (encode r))) in
    items_same p q (one_halt bs (halt p lp e) (halt q lq f)).before_is

never : (e : LayoutRefusal) → Some e ≡ None → ⊥
never e h = let z : ◌≡◌ {A = ℕ} 0 1 = cc in omega arith

pub one_verdict : (bs : List ℕ) → OneVerdict bs
one_verdict bs (accepted p) (accepted q) h k = ap accepted (parts_same bs p q h.0 k.0 h.1 k.1)
one_verdict bs (accepted p) (refused e) h k = absurd (never e (one_told bs (told bs e k) (told_accepted bs p h.0 h.1)))
one_verdict bs (refused e) (accepted p) h k = absurd (never e (one_told bs (told bs e h) (told_accepted bs p k.0 k.1)))
one_verdict bs (refused d) (refused e) h k = let same : Some d ≡ Some e = one_told bs (told bs d h) (told bs e k) in cc

pub one_encoding : OneEncoding
one_encoding p q lp lq e = parts_same (encode p) p q lp lq refl e
