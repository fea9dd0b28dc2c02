use Rattle.std.proofs.Common.{◌≡◌, ℕ, ◌+◌, ◌<◌, ◌≤◌, List, ◌∷◌, length, drop, sym, refl, ap, ◌∙◌, subst, arith, length-drop, rules}
use mathlib.Core.Path.{subst⁻¹}
use Rattle.std.proofs.lemmas.List.{take_rest}
use Rattle.std.specs.List.{between}
use Rattle.tokens.specs.declared.token.Token.{Token}
use Rattle.tokens.specs.Classes.{space_byte}
use Rattle.tokens.specs.Tokens.{spaces, tokens_from}
use Rattle.tokens.specs.Lexing.{bytes_of, FrontIs, Nexts}
use Rattle.tokens.proofs.Nexts.{next_token, next_none, front_long}
use Rattle.tokens.proofs.lexer.tokens.LexerIterator.next.Goals as goal

-- the spaces at a place are those of the text from there on
skipped : (text : List ℕ) (p n : ℕ) → n ≡ spaces (between p (length text) text) → p + n ≡ p + spaces (drop p text)
skipped text p n is = ap (λ k. p + k) (is ∙ ap spaces (take_rest text p))

-- what `front` told, of the text from the place on
fronted : (text : List ℕ) (at : ℕ) (token : Token) (n : ℕ) → FrontIs (between at (length text) text) token n → FrontIs (drop at text) token n
fronted text at token n told = subst (λ l. FrontIs l token n) (take_rest text at) told

ends_within : (text : List ℕ) (at : ℕ) (token : Token) (n : ℕ) → FrontIs (between at (length text) text) token n → at + n ≤ length text
ends_within text at token n told =
    let front = fronted text at token n told in
    omega (arith, (front_long _ front.some).1, front.long, length-drop at text, front.some)

pub overflow_add-self-2 : goal.overflow_add-self-2
overflow_add-self-2 c = let h = ends_within c.args.self.now.text.now _ _ _ c.in_ok-token.ensures in search rules

pub invariant_of-self-2 : goal.invariant_of-self-2
invariant_of-self-2 c = record { within = ends_within c.args.self.now.text.now _ _ _ c.in_ok-token.ensures }

pub returns-in_err-token-clause-steps : goal.returns-in_err-token-clause-steps
returns-in_err-token-clause-steps c =
    let text = c.args.self.now.text.now in
    let p = c.args.self.now.place in
    let at = p + c.span.result in (
      refl,
      subst⁻¹ (λ r. Nexts (tokens_from text p) r (tokens_from text at)) c.from_residual.ensures
          (next_none text _ _ (skipped text p _ (c.span.ensures.run space_byte (λ x r f k. search rules))) (sym (ap length (take_rest text at)) ∙ c.in_err-token.ensures)),
    )

-- the first token and those after it are those from the place on
split : (text : List ℕ) (p k n : ℕ) (token : Token) → k ≡ spaces (between p (length text) text) → FrontIs (drop (p + k) text) token n → tokens_from text p ≡ (p + k, bytes_of token) ∷ tokens_from text (p + k + n)
split text p k n token is told =
    next_token text p (p + k) n (skipped text p k is) told.some told.long
    ∙ ap (λ bs. (p + k, bs) ∷ tokens_from text (p + k + n)) (sym told.bytes_are)

pub returns-clause-steps : goal.returns-clause-steps
returns-clause-steps c =
    let text = c.args.self.now.text.now in
    let told = fronted text _ _ _ c.in_ok-token.ensures in
    (refl, (split text c.args.self.now.place _ _ _ (c.span.ensures.run space_byte (λ x r f k. search rules)) told, told.apt))

pub returns-clause-goes : goal.returns-clause-goes
returns-clause-goes c =
    let text = c.args.self.now.text.now in
    let told = fronted text _ _ _ c.in_ok-token.ensures in
    let fewer : length (tokens_from text (c.args.self.now.place + c.span.result + c.in_ok-token.n)) < length (tokens_from text c.args.self.now.place) =
    omega (arith, ap length (split text c.args.self.now.place _ _ _ (c.span.ensures.run space_byte (λ x r f k. search rules)) told))
    in search rules
