use Rattle.std.proofs.Common.{◌≡◌, ℕ, Bool, true, false, cond, ◌||◌, ◌==◌, List, [], ◌∷◌, Some, None, Option, refl, ap, ◌∙◌, rules, tests, Bor}
use mathlib.Core.Path.{subst⁻¹}
use Rattle.std.specs.List.{find}
use Rattle.std.specs.Option.{option_map}
use Rattle.std.proofs.lemmas.Iterator.{YieldsList-from_slice}
use Rattle.std.proofs.lemmas.Iterator.Search.{find_from_yields_List}
use Rattle.grammar.specs.Grammar.{member}
use Rattle.conditions.specs.declared.ground.Incoming.{Incoming}
use Rattle.conditions.specs.Values.{links_of, status_of}
use Rattle.conditions.specs.Steps.{StatusIs, Looks}
use Rattle.conditions.proofs.parser.tests.look_up.Goals as goal

abbrev named : ℕ → Incoming → Bool
named n l = n == l.link

looked_up : (ls : List Incoming) (n : ℕ) → Looks ls n (option_map (λ (l : Incoming). l.status) (find (named n) ls))
looked_up [] n = refl
looked_up (l ∷ ls) n =
    elim (n == l.link) as (λ b. StatusIs (b || member n (links_of ls)) (cond b l.status (status_of ls n)) (option_map (λ (x : Incoming). x.status) (cond b (Some l) (find (named n) ls))))
    [ true ↦ (refl, refl) | false ↦ looked_up ls n ]

status_of_found : (o : Option (Bor Incoming)) → option_map (λ (x : Bor Incoming). x.now.status) o ≡ option_map (λ (l : Incoming). l.status) (option_map (λ (x : Bor Incoming). x.now) o)
status_of_found None = refl
status_of_found (Some x) = refl

pub returns : goal.returns
returns c =
    let ls = c.args.incoming.now in
    let n = c.args.link in
    let found = find_from_yields_List (named n) _ _ c.find.result c.find.ensures.ran (YieldsList-from_slice ls cc) (λ r b q k. search (rules, tests)) in
    let told : c.map.result ≡ option_map (λ (x : Bor Incoming). x.now.status) c.find.result = search (rules, tests) in
    subst⁻¹ (Looks ls n) (told ∙ status_of_found c.find.result ∙ ap (option_map (λ (l : Incoming). l.status)) found) (looked_up ls n)
