-- Rows of sets in a list.
use Rattle.std.proofs.Common.{◌≡◌, ℕ, ◌<◌, ◌≤◌, true, false, ◌⊎◌, List, length, get_or, set, replicate, Decides, sym, refl, ap, ◌∙◌, subst, inl, inr, ⊎_elim}
use Rattle.std.proofs.lemmas.List.{get_or-set_same, get_or-set_other, get_or-replicate, get_or_default, get_or_past, length-replicate}
use Rattle.std.proofs.lemmas.Bool.{cases_eq, cases_lt}
use Rattle.path_laws.proofs.Bits.{bit_none}
use Rattle.path_tables.specs.declared.sets.ActivitySet.{ActivitySet}
use Rattle.path_tables.specs.Sets.{has, row_at, OneMore}

abbrev no_set : ActivitySet
no_set = record { bits = 0 }

-- there is nothing past the end
pub past_rows : (rows : List ActivitySet) (a b : ℕ) → length rows ≤ a → has (row_at rows a) b ≡ false
past_rows rows a b h = ap (λ s. has s b) (get_or_past rows a no_set h) ∙ bit_none b

pub empty_rows : (n : ℕ) (s : ActivitySet) → ((b : ℕ) → has s b ≡ false) → (a b : ℕ) → has (row_at (replicate n s) a) b ≡ false
empty_rows n s none a b =
    ⊎_elim
    (λ l. ap (λ x. has x b) (get_or-replicate n a s no_set l) ∙ none b)
    (λ ge. past_rows (replicate n s) a b (rw length-replicate ge))
    (cases_lt a n)

-- a read with another set of none past the end
pub read_row : (rows : List ActivitySet) (a : ℕ) (none : ActivitySet) → ((b : ℕ) → has none b ≡ false) → (b : ℕ) → has (get_or rows a none) b ≡ has (row_at rows a) b
read_row rows a none empty b =
    ⊎_elim
    (λ l. ap (λ s. has s b) (get_or_default rows a none no_set l))
    (λ ge. ap (λ s. has s b) (get_or_past rows a none ge) ∙ empty b ∙ sym (past_rows rows a b ge))
    (cases_lt a (length rows))

pub same_row : (rows : List ActivitySet) (a : ℕ) (s : ActivitySet) (b : ℕ) → a < length rows → has (row_at (set rows a s) a) b ≡ has s b
same_row rows a s b l = ap (λ x. has x b) (get_or-set_same rows a s no_set l)

pub other_row : (rows : List ActivitySet) (a : ℕ) (s : ActivitySet) (x b : ℕ) → (x ≡ a → ⊥) → has (row_at (set rows a s) x) b ≡ has (row_at rows x) b
other_row rows a s x b ne = ap (λ y. has y b) (get_or-set_other rows a x s no_set ne)

-- one more in one row
pub row_more : (rows : List ActivitySet) (a y : ℕ) (s : ActivitySet) → a < length rows → a < 32 → OneMore (row_at rows a) y s → (x z : ℕ) → Decides (has (row_at (set rows a s) x) z) ((has (row_at rows x) z ≡ true) ⊎ ((x ≡ a) × (z ≡ y) × (x < 32) × (z < 32)))
row_more rows a y s l few more x z =
    ⊎_elim
    (λ e. subst (λ (v : ℕ). Decides (has (row_at (set rows a s) v) z) ((has (row_at rows v) z ≡ true) ⊎ ((v ≡ a) × (z ≡ y) × (v < 32) × (z < 32)))) (sym e) here)
    (λ ne. (λ h. inl (sym (other_row rows a s x z ne) ∙ h), λ h. other_row rows a s x z ne ∙ ⊎_elim (λ old. old) (λ new. absurd (ne new.0)) h))
    (cases_eq x a)
  where
    here : Decides (has (row_at (set rows a s) a) z) ((has (row_at rows a) z ≡ true) ⊎ ((a ≡ a) × (z ≡ y) × (a < 32) × (z < 32)))
    here = (
      λ h. ⊎_elim (λ old. inl old) (λ new. inr (refl, new.0, few, new.1)) ((more z).0 (sym (same_row rows a s z l) ∙ h)),
      λ h. same_row rows a s z l ∙ (more z).1 (⊎_elim (λ old. inl old) (λ new. inr (new.1, new.3)) h),
    )
