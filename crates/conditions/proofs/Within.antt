-- A text is short, and a fault's place is within the text.
use Rattle.std.proofs.Common.{◌≡◌, ℕ, ◌+◌, ◌≤◌, List, [], ◌∷◌, ◌++◌, map, length, ap, arith, length-append}
use Rattle.lists.proofs.Room.{few_items}
use Rattle.grammar.specs.Symbols.{Symbol}
use Rattle.grammar.specs.Grammar.{Kind}
use Rattle.grammar.specs.Faults.{Located, at_symbol, at_end}
use Rattle.tokens.specs.Tokens.{Part, Tokenized, ended, space, token}
use Rattle.tokens.specs.Following.{told}
use Rattle.tokens.proofs.Laws.{tokens_of}
use Rattle.conditions.specs.declared.text.Text.{Text}
use Rattle.conditions.specs.Texts.{text_bytes, FaultPlace}

no_front : (before after : List Located) (x : Located) → [] ≡ before ++ x ∷ after → ⊥
no_front before after x e = omega (arith, ap length e, length-append before (x ∷ after))

abbrev first : ℕ → List Located → ℕ
first d [] = d
first d (t ∷ ts) = t.0

abbrev rest : List Located → List Located
rest [] = []
rest (t ∷ ts) = ts

-- each token begins at most where the bytes end
within : {p : ℕ} {bs : List ℕ} {ts : List Part} → Tokenized p bs ts → (n : ℕ) → p + length bs ≤ n → (before after : List Located) (place : ℕ) (s : Symbol) → map told ts ≡ before ++ (place, s) ∷ after → place ≤ n
within ended n h before after place s e = absurd (no_front before after (place, s) e)
within (space t) n h before after place s e = within t n (omega arith) before after place s e
within {p} (token {w = w} {bs = bs} {ts = ts} i t) n h [] after place s e = omega (arith, ap (λ (l : List Located). first p l) e)
within {p} (token {w = w} {bs = bs} {ts = ts} i t) n h (b ∷ before) after place s e = within t n (omega (arith, length-append w bs)) before after place s (ap rest e)

pub fault_within : (k : Kind) (text : List ℕ) (place : ℕ) → FaultPlace k text place → place ≤ length text
fault_within k text place (at_symbol f) = within (tokens_of text).found (length text) (omega arith) f.before f.after place f.here f.split
fault_within k text place (at_end e u) = omega arith

pub text_short : (t : Text) → length (text_bytes t) ≤ 60
text_short t = few_items t.bytes
