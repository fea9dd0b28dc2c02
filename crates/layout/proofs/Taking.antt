-- Bytes that are read one after the other.
use Rattle.std.proofs.Common.{◌≡◌, ℕ, ◌+◌, ◌<◌, ◌≤◌, List, [], ◌∷◌, ◌++◌, length, take, sym, refl, ap, ◌∙◌, subst, arith}
use Rattle.std.specs.List.{flat_map}
use Rattle.std.proofs.lemmas.List.{append_assoc, append-nil, length-append, take_at}
use Rattle.std.proofs.lemmas.Grind.{flat_map-append}
use Rattle.std.proofs.ByRecursion.{All-append}
use Rattle.layout.specs.declared.reader.Reader.{Reader}
use Rattle.layout.specs.Layout.{Item, item_bytes, bytes_of}
use Rattle.layout.specs.Reading.{Took, Filled}

pub bytes_append : (xs ys : List Item) → bytes_of (xs ++ ys) ≡ bytes_of xs ++ bytes_of ys
bytes_append xs ys = flat_map-append item_bytes xs ys

pub took_more : {a b c : Reader} {xs ys : List ℕ} → Took a b xs → Took b c ys → Took a c (xs ++ ys)
took_more {c = c} {xs = xs} {ys = ys} p q = record {
  rest_is = p.rest_is ∙ ap (λ l. xs ++ l) q.rest_is ∙ sym (append_assoc xs ys c.rest.now);
  at_is = omega (arith, length-append xs ys, p.at_is, q.at_is);
}

pub took_items : {a b c : Reader} (is js : List Item) → Took a b (bytes_of is) → Took b c (bytes_of js) → Took a c (bytes_of (is ++ js))
took_items is js p q = rw (bytes_append is js) (took_more p q)

-- no elements, and one more
pub filled_none : {X : Type 0} (items : X → List Item) (good : X → Type 0) (r : Reader) → Filled items good r r []
filled_none items good r = record { took = record { rest_is = refl; at_is = omega arith }; fine = tt }

pub filled_more : {X : Type 0} (items : X → List Item) (good : X → Type 0) {a b c : Reader} (xs : List X) (x : X) → Filled items good a b xs → Took b c (bytes_of (items x)) → good x → Filled items good a c (xs ++ x ∷ [])
filled_more items good xs x f t g = record {
  took = rw (flat_map-append items xs (x ∷ []), append-nil (items x), bytes_append (flat_map items xs) (items x)) (took_more f.took t);
  fine = All-append good xs (x ∷ []) f.fine (g, tt);
}

-- the first bytes of bs, which a reader has read
pub record ReadTo (bs these : List ℕ) (r : Reader) : Type 0 where
  pub bytes_are : bs ≡ these ++ r.rest.now
  pub at_is : r.at ≡ length these

pub read_on : {bs xs ys : List ℕ} {r s : Reader} → ReadTo bs xs r → Took r s ys → ReadTo bs (xs ++ ys) s
read_on {xs = xs} {ys = ys} {s = s} p q = record {
  bytes_are = p.bytes_are ∙ ap (λ l. xs ++ l) q.rest_is ∙ sym (append_assoc xs ys s.rest.now);
  at_is = omega (arith, length-append xs ys, p.at_is, q.at_is);
}

pub read_items : {bs : List ℕ} {r s : Reader} (is js : List Item) → ReadTo bs (bytes_of is) r → Took r s (bytes_of js) → ReadTo bs (bytes_of (is ++ js)) s
read_items is js p q = rw (bytes_append is js) (read_on p q)

pub read_front : {bs xs : List ℕ} {r : Reader} → ReadTo bs xs r → take r.at bs ≡ xs
read_front {xs = xs} {r = r} p = ap (take r.at) p.bytes_are ∙ take_at xs r.rest.now r.at (sym p.at_is)

pub read_long : {bs xs : List ℕ} {r : Reader} → ReadTo bs xs r → length bs ≡ r.at + length r.rest.now
read_long {xs = xs} {r = r} p = omega (arith, ap length p.bytes_are, length-append xs r.rest.now, p.at_is)

pub read_through : {bs xs ys : List ℕ} {r s : Reader} → ReadTo bs xs r → Took r s ys → take (r.at + length ys) bs ≡ xs ++ ys
read_through {bs} {xs} {ys} p q = subst (λ k. take k bs ≡ xs ++ ys) q.at_is (read_front (read_on p q))

pub read_within : {bs xs ys : List ℕ} {r s : Reader} → ReadTo bs xs r → Took r s ys → r.at + length ys ≤ length bs
read_within {ys = ys} {s = s} p q = omega (arith, read_long p, ap length q.rest_is, length-append ys s.rest.now)

-- fewer than so many bytes are left
pub read_short : {bs xs : List ℕ} {r : Reader} (width : ℕ) → ReadTo bs xs r → length r.rest.now < width → length bs < r.at + width
read_short width p h = omega (arith, read_long p)
