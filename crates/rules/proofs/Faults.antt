-- Where a text of a draft has its fault.
use Rattle.std.proofs.Common.{◌≡◌, ℕ, ◌<◌, List, [], length, get_or, map, true, Ok, Err, Result, sym, ap, ◌∙◌, arith}
use Rattle.std.specs.Result.{is_ok}
use Rattle.std.proofs.lemmas.List.{length-map, get_or-map}
use Rattle.tokens.specs.declared.fault.Fault.{Fault}
use Rattle.grammar.specs.Grammar.{Kind}
use Rattle.conditions.specs.Texts.{text_bytes, Checked}
use Rattle.conditions.specs.declared.text.Text.{Text}
use Rattle.conditions.proofs.Whole.{one_verdict}
use Rattle.conditions.proofs.Within.{fault_within, text_short}
use Rattle.layout.specs.Drafts.{parts_of}
use Rattle.layout.specs.declared.draft.Draft.{Draft}
use Rattle.rules.specs.declared.refusal.RuleRefusal.TheVariants.{BadText}
use Rattle.rules.specs.Rules.{Broken, kind_of_text}
use Rattle.layout.proofs.Elements.{few_activities, few_links, as_many_texts}

-- the place in a text is a byte
pub place_small : (k : Kind) (t : Text) (r : Result (Unit {0}) Fault) → Checked k (text_bytes t) r → (e : Fault) → r ≡ Err e → e.place < 256
place_small k t (Ok u) c e is = cc
place_small k t (Err f) c e is =
    let same : f.place ≡ e.place = cc in
    omega (arith, fault_within k (text_bytes t) f.place c, text_short t, same)

-- so is the number of a text
pub number_small : (d : Draft) (ts : List Text) → map text_bytes ts ≡ (parts_of d).texts → (i : ℕ) → i < length ts → i < 256
number_small d ts is i h = omega (arith, h, length-map ts text_bytes, ap length is, as_many_texts d, few_links d, few_activities d)

-- text i without a fault breaks no rule
pub faultless : (d : Draft) (ts : List Text) (i : ℕ) (t : Text) (r : Result (Unit {0}) Fault) → map text_bytes ts ≡ (parts_of d).texts → i < length ts → t ≡ get_or ts i t → Checked (kind_of_text (parts_of d).links i) (text_bytes t) r → is_ok r ≡ true → (place : ℕ) → Broken (parts_of d) (BadText i place) → ⊥
faultless d ts i t (Err e) is h at c fine place b = cc
faultless d ts i t (Ok u) is h at c fine place b =
    let bytes : text_bytes t ≡ get_or (parts_of d).texts i [] = ap text_bytes at ∙ sym (get_or-map text_bytes ts i t [] h) ∙ ap (λ xs. get_or xs i []) is in
    (one_verdict (text_bytes t)).not_both (kind_of_text (parts_of d).links i) c.0 place c.1 (rw bytes b.1)
