-- Records of one width, one after the other.
use Rattle.std.proofs.Common.{◌≡◌, ℕ, zero, suc, ◌*◌, ◌<◌, List, [], ◌∷◌, ◌++◌, length, get_or, take, drop, sym, refl, ap, ◌∙◌, mul-zero, mul-suc, arith, length-append, length-drop, take-append-drop, drop-drop}
use lib.Seq.{take-append_seam, drop-append_seam}
use Rattle.std.specs.List.{flat_map}
use Rattle.values.specs.Cases.{slot}

module _ {X : Type 0} (f : X → List ℕ) (width : ℕ) (wide : (x : X) → length (f x) ≡ width) where
  pub length_joined : (xs : List X) → length (flat_map f xs) ≡ width * length xs
  length_joined [] = sym (mul-zero width)
  length_joined (x ∷ xs) = length-append (f x) (flat_map f xs) ∙ omega (arith, wide x, length_joined xs, mul-suc width (length xs))

  pub take_record : (x : X) (bs : List ℕ) → take width (f x ++ bs) ≡ f x
  take_record x bs = ap (λ n. take n (f x ++ bs)) (sym (wide x)) ∙ take-append_seam (f x) bs

  pub drop_record : (x : X) (bs : List ℕ) → drop width (f x ++ bs) ≡ bs
  drop_record x bs = ap (λ n. drop n (f x ++ bs)) (sym (wide x)) ∙ drop-append_seam (f x) bs

  slot_next : (bs : List ℕ) (k : ℕ) → slot width bs (suc k) ≡ slot width (drop width bs) k
  slot_next bs k = ap (take width) (ap (λ n. drop n bs) (omega (arith, mul-suc width k)) ∙ sym (drop-drop (width * k) width bs))

  -- each record stands in its slot
  pub slot_joined : (xs : List X) (k : ℕ) (d : X) → k < length xs → slot width (flat_map f xs) k ≡ f (get_or xs k d)
  slot_joined [] k d h = absurd (omega arith)
  slot_joined (x ∷ xs) zero d h = ap (λ n. take width (drop n (f x ++ flat_map f xs))) (mul-zero width) ∙ take_record x (flat_map f xs)
  slot_joined (x ∷ xs) (suc k) d h = slot_next (f x ++ flat_map f xs) k ∙ ap (λ bs. slot width bs k) (drop_record x (flat_map f xs)) ∙ slot_joined xs k d (omega arith)

  -- bytes whose slots are records are those records
  pub joined_from_slots : (bs : List ℕ) (xs : List X) (d : X) → length bs ≡ width * length xs → ((k : ℕ) → k < length xs → slot width bs k ≡ f (get_or xs k d)) → bs ≡ flat_map f xs
  joined_from_slots [] [] d e h = refl
  joined_from_slots (b ∷ bs) [] d e h = absurd (omega (arith, mul-zero width))
  joined_from_slots bs (x ∷ xs) d e h =
      let first : take width bs ≡ f x = ap (λ n. take width (drop n bs)) (sym (mul-zero width)) ∙ h 0 (omega arith) in
      let rest : drop width bs ≡ flat_map f xs = joined_from_slots (drop width bs) xs d (omega (arith, length-drop width bs, mul-suc width (length xs))) (λ k l. sym (slot_next bs k) ∙ h (suc k) (omega arith)) in
      sym (take-append-drop width bs) ∙ (λ i. first i ++ rest i)

  pub same_from_joined : ((x y : X) → f x ≡ f y → x ≡ y) → (xs ys : List X) → length xs ≡ length ys → flat_map f xs ≡ flat_map f ys → xs ≡ ys
  same_from_joined one [] [] l e = refl
  same_from_joined one [] (y ∷ ys) l e = absurd (omega arith)
  same_from_joined one (x ∷ xs) [] l e = absurd (omega arith)
  same_from_joined one (x ∷ xs) (y ∷ ys) l e =
      let first : x ≡ y = one x y (sym (take_record x (flat_map f xs)) ∙ ap (take width) e ∙ take_record y (flat_map f ys)) in
      let rest : xs ≡ ys = same_from_joined one xs ys (omega arith) (sym (drop_record x (flat_map f xs)) ∙ ap (drop width) e ∙ drop_record y (flat_map f ys)) in
      λ i. first i ∷ rest i
