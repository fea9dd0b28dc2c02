-- The first row that fits, in words and computed.
use Rattle.std.proofs.Common.{◌≡◌, ℕ, false, not, List, [], ◌∷◌, ℤ, ◌≤ℤ◌, Some, None, Decides, Option, sym, refl, ap, ◌∙◌, ⊎_elim, arith}
use lib.Signed.{lt_z}
use Rattle.std.specs.List.{find}
use Rattle.std.specs.Option.{option_or}
use Rattle.std.proofs.lemmas.List.Folds.{find-append}
use Rattle.std.proofs.lemmas.Int.{ints}
use Rattle.std.proofs.lemmas.Bool.{cases_Bool, cond-true, cond-false, cond_both, false≢true}
use Rattle.std.proofs.lemmas.Bool.Decides.{Decides-eqb, Decides-and, not_from_Decides}
use Rattle.values.specs.declared.field.Field.{Field}
use Rattle.values.specs.declared.field.Field.TheVariants.{Blank, Number}
use Rattle.values.specs.declared.container.Container.{Container}
use Rattle.values.specs.Amounts.{size}
use Rattle.values.specs.Layout.{field_at}
use Rattle.tables.specs.declared.fit.Span.{Span}
use Rattle.tables.specs.declared.row.Row.{Row}
use Rattle.tables.specs.Answers.{Inside, inside, FitsInput, fits_input, Applies, applies}
use Rattle.tables.specs.Tables.{NoneApplies, ByFirstFit, first_fitting, FirstFitComputed}

at_most_decides : (a b : ℤ) → Decides (not (lt_z b a)) (a ≤ℤ b)
at_most_decides a b = grind (arith, ints)

inside_decides : (s : Span) (f : Field) → Decides (inside s f) (Inside s f)
inside_decides s Blank = (λ t. absurd (false≢true t), λ p. absurd p)
inside_decides s (Number a) = Decides-and _ _ (at_most_decides s.low (size a)) (at_most_decides (size a) s.high)

fits_decides : (f : Option Span) (input : Container) → Decides (fits_input f input) (FitsInput f input)
fits_decides None input = (λ t. tt, λ p. refl)
fits_decides (Some s) input = inside_decides s (field_at input s.field.number)

pub applies_decides : (operation : ℕ) (input : Container) (r : Row) → Decides (applies operation input r) (Applies operation input r)
applies_decides operation input r = Decides-and _ _ (Decides-eqb r.operation operation) (fits_decides r.fit input)

not_applied : (operation : ℕ) (input : Container) (r : Row) → (Applies operation input r → ⊥) → applies operation input r ≡ false
not_applied operation input r none = ⊎_elim (λ t. absurd (none ((applies_decides operation input r).0 t))) (λ f. f) (cases_Bool (applies operation input r))

none_found : (operation : ℕ) (input : Container) (rows : List Row) → NoneApplies operation input rows → None ≡ first_fitting operation input rows
none_found operation input [] n = refl
none_found operation input (r ∷ rows) n = none_found operation input rows n.1 ∙ sym (cond-false _ _ _ (not_applied operation input r n.0))

only_first : (rows : List Row) (operation : ℕ) (input : Container) (x : Option Row) → ByFirstFit rows operation input x → x ≡ first_fitting operation input rows
only_first rows operation input None n = none_found operation input rows n
only_first rows operation input (Some row) f =
    let test = applies operation input in
    let rest = row ∷ f.after in
    let passes : find test rest ≡ Some row = cond-true _ _ _ ((applies_decides operation input row).1 f.row_applies) in
    sym (ap (find test) f.rows_are ∙ find-append test f.before rest ∙ ap (λ o. option_or o (find test rest)) (sym (none_found operation input f.before f.none_before)) ∙ passes)

-- one more row in front that does not apply
passed : (r : Row) (rows : List Row) (operation : ℕ) (input : Container) → (Applies operation input r → ⊥) → (x : Option Row) → ByFirstFit rows operation input x → ByFirstFit (r ∷ rows) operation input x
passed r rows operation input n None b = (n, b)
passed r rows operation input n (Some row) b = record { before = r ∷ b.before; after = b.after; rows_are = ap (λ l. r ∷ l) b.rows_are; none_before = (n, b.none_before); row_applies = b.row_applies }

pub by_first : (rows : List Row) (operation : ℕ) (input : Container) → ByFirstFit rows operation input (first_fitting operation input rows)
by_first [] operation input = tt
by_first (r ∷ rows) operation input =
    cond_both (applies operation input r) (Some r) (first_fitting operation input rows) (ByFirstFit (r ∷ rows) operation input)
    (λ t. record { before = []; after = rows; rows_are = refl; none_before = tt; row_applies = (applies_decides operation input r).0 t })
    (λ f. passed r rows operation input (not_from_Decides _ (applies_decides operation input r) f) _ (by_first rows operation input))

pub first_fit_computed : FirstFitComputed
first_fit_computed rows operation input = (by_first rows operation input, only_first rows operation input)
